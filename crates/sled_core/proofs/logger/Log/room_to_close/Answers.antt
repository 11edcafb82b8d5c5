-- The segment that is being filled has room for its end afterwards, and there is room for one more; all hold what they did.
use Rattle.std.proofs.Common.{◌≡◌, ◌∙◌, ◌<◌, ◌≤◌, ap, sym, refl, arith, subst, length, Some, OnOk}
use Rattle.std.specs.List.{All, slice_get}
use Rattle.sled_core.specs.inside.Begun.{AreFilled, LieWithin, open_segments, with_nth}
use Rattle.sled_core.specs.Begun.{SegmentView, line_in, view_at}
use Rattle.sled_core.specs.declared.iobuf.IoBuf.{IoBuf}
use Rattle.sled_core.specs.declared.iobuf.SegmentPosition.{SegmentPosition}
use Rattle.sled_core.specs.declared.logger.Log.{Log}
use Rattle.sled_core.specs.declared.logger.batches.NotedBatch.{NotedBatch}
use Rattle.sled_core.specs.declared.logger.io_bufs.IoBufs.{IoBufs}
use Rattle.sled_core.specs.declared.logger.io_bufs.SegmentBuffer.{SegmentBuffer}
use Rattle.sled_core.specs.Fits.{line_of}
use Rattle.sled_core.specs.inside.OpenPlaces.{open_manifests}
use Rattle.sled_core.specs.inside.Turned.{CanClose}
use Rattle.sled_core.proofs.Line.NthOpen.{last_buffer_with, line_same, line_still, short_in, within_same, within_with}
use Rattle.sled_core.proofs.Pending.Segments.{still_ready}
use Rattle.sled_core.proofs.Line.Pooling.{kept_same, last_there, pooling_with}
use Rattle.sled_core.proofs.logger.Log.room_to_close.Goals as goal

-- The segments are as they were, but for the room behind them, and that of the last one.
module _ {D C : Type 0} (log : Log D C) (mid : IoBufs) (first : mid.first ≡ log.segments.first) (behind : mid.behind.items ≡ log.segments.behind.items) (s : SegmentBuffer) (there : slice_get (open_segments mid) (length mid.behind.items) ≡ Some s) where
  lie_mid : LieWithin log.config.config.segment_size mid
  lie_mid = within_same log.config.config.segment_size log.segments mid first behind log.line.lies

  its_inside : length s.buffer.bytes.items ≤ log.config.config.segment_size
  its_inside = short_in log.config.config.segment_size mid (length mid.behind.items) s there lie_mid

  module _ (new : IoBuf) (view : (site : SegmentPosition) → view_at site new ≡ view_at site s.buffer) where
    abbrev now : SegmentBuffer
    now = record { site = s.site; buffer = new }

    same_line : line_in (with_nth mid (length mid.behind.items) now) ≡ line_of log
    same_line = line_still mid (length mid.behind.items) s now there (view s.site) ∙ line_same log.segments mid first behind

    lie_now : LieWithin log.config.config.segment_size (with_nth mid (length mid.behind.items) now)
    lie_now =
        let bytes = ap (λ (v : SegmentView). length v.parts.bytes) (view s.site) in
        let written = ap (λ (v : SegmentView). v.parts.written_len) (view s.site) in
        within_with log.config.config.segment_size mid (length mid.behind.items) s now there refl (let short = its_inside in omega (arith, bytes, short)) (omega (arith, written)) lie_mid

-- There was no memory for one more.
pub invariant_of-self-in-Break-branch-3 : goal.invariant_of-self-in-Break-branch-3
invariant_of-self-in-Break-branch-3 g c =
    let log = c.args.self.now in
    let made = c.make_room-2.ensures in
    let mid : IoBufs = c.make_room-2.new.self in
    let lie = within_same log.config.config.segment_size log.segments mid made.first made.behind log.line.lies in
    let line = line_same log.segments mid made.first made.behind in
    record {
      line = record {
        lies = lie;
        filled = subst (AreFilled log.config.config.segment_size log.reserved_to) (sym line) log.line.filled;
        indexed = still_ready line log.ready c.make_room.new.self c.in_ok-make_room.ensures.places c.in_ok-make_room.ensures.held log.line.indexed;
      };
      account = log.account;
      noted = record {
        pegs = subst (All (λ (b : NotedBatch). b.peg < log.reserved_to)) (sym c.make_room_for.ensures.items) log.noted.pegs;
        counted = (let all = ap open_manifests line in let old = log.noted.counted in let many = c.make_room_for.ensures.manifests in omega (arith, all, old, many));
      };
      pooling = kept_same log mid made.first made.behind;
    }

pub room_to_close-requires-clause-inside : goal.room_to_close-requires-clause-inside
room_to_close-requires-clause-inside g c =
    let made = c.in_ok-make_room-2.ensures in
    its_inside c.args.self.now c.make_room-2.new.self made.first made.behind c.last_mut.result.now c.last_mut.ensures.value

pub room_to_close-requires-clause-small : goal.room_to_close-requires-clause-small
room_to_close-requires-clause-small g c = let most = c.args.self.now.config.config.most in omega (arith, most)

pub room_to_close-requires-clause-there : goal.room_to_close-requires-clause-there
room_to_close-requires-clause-there g c =
    let log = c.args.self.now in
    let made = c.in_ok-make_room-2.ensures in
    let mid : IoBufs = c.make_room-2.new.self in
    last_there log.config.config.segment_size mid log.pool (kept_same log mid made.first made.behind) c.last_mut.result.now c.last_mut.ensures.value

pub invariant_of-self-2 : goal.invariant_of-self-2
invariant_of-self-2 g c =
    let log = c.args.self.now in
    let made = c.in_ok-make_room-2.ensures in
    let mid : IoBufs = c.make_room-2.new.self in
    let s : SegmentBuffer = c.last_mut.result.now in
    let there = c.last_mut.ensures.value in
    let lie = lie_now log mid made.first made.behind s there c.room_to_close.new.self c.room_to_close.ensures.same in
    let line = same_line log mid made.first made.behind s there c.room_to_close.new.self c.room_to_close.ensures.same in
    record {
      line = record {
        lies = lie;
        filled = subst (AreFilled log.config.config.segment_size log.reserved_to) (sym line) log.line.filled;
        indexed = still_ready line log.ready c.make_room.new.self c.in_ok-make_room.ensures.places c.in_ok-make_room.ensures.held log.line.indexed;
      };
      account = log.account;
      noted = record {
        pegs = subst (All (λ (b : NotedBatch). b.peg < log.reserved_to)) (sym c.make_room_for.ensures.items) log.noted.pegs;
        counted = (let all = ap open_manifests line in let old = log.noted.counted in let many = c.make_room_for.ensures.manifests in omega (arith, all, old, many));
      };
      pooling = pooling_with log.config.config.segment_size mid log.pool (kept_same log mid made.first made.behind) (length mid.behind.items) s
          (record { site = s.site; buffer = c.room_to_close.new.self }) there (λ some. c.room_to_close.ensures.there);
    }

pub returns-clause-line : goal.returns-clause-line
returns-clause-line g c =
    let made = c.in_ok-make_room-2.ensures in
    same_line c.args.self.now c.make_room-2.new.self made.first made.behind c.last_mut.result.now c.last_mut.ensures.value c.room_to_close.new.self c.room_to_close.ensures.same

pub returns-clause-room : goal.returns-clause-room
returns-clause-room g c =
    let log = c.args.self.now in
    let mid : IoBufs = c.make_room-2.new.self in
    let s : SegmentBuffer = c.last_mut.result.now in
    let new : IoBuf = c.room_to_close.new.self in
    subst (λ (x : IoBuf). OnOk c.room_to_close.result (CanClose x log.config.config.segment_size))
    (sym (last_buffer_with mid s (record { site = s.site; buffer = new }) c.last_mut.ensures.value)) c.room_to_close.ensures.room
