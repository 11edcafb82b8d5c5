-- The buffer that is being filled has room afterwards, and holds what it did.
use Rattle.std.proofs.Common.{◌≡◌, ◌≢◌, ◌∙◌, ◌+◌, ◌<◌, ◌≤◌, ap, sym, refl, arith, rules, subst, SFits, w64, pos, ℕ, List, length, drop, true, false, Some, OnOk}
use Rattle.std.specs.List.{All, slice_get}
use Rattle.std.proofs.lemmas.Int.{to_z-of_z}
use Rattle.sled_core.specs.inside.Begun.{AreFilled, LieWithin, open_segments, with_nth}
use Rattle.sled_core.specs.Begun.{SegmentView, line_in, view_at}
use Rattle.sled_core.specs.Buffers.{first_open_in, most_open, open_in}
use Rattle.sled_core.specs.declared.iobuf.IoBuf.{IoBuf}
use Rattle.sled_core.specs.declared.iobuf.Reserved.{Reserved}
use Rattle.sled_core.specs.declared.iobuf.SegmentPosition.{SegmentPosition}
use Rattle.sled_core.specs.declared.logger.Log.{Log}
use Rattle.sled_core.specs.declared.logger.batches.NotedBatch.{NotedBatch}
use Rattle.sled_core.specs.declared.logger.io_bufs.SegmentBuffer.{SegmentBuffer}
use Rattle.sled_core.specs.Fits.{current_of, current_reserved_in, line_of}
use Rattle.sled_core.specs.inside.OpenPlaces.{open_manifests}
use Rattle.sled_core.specs.SealedBuffers.{sealed_count}
use Rattle.sled_core.specs.inside.Turned.{HasRoomIn}
use Rattle.sled_core.proofs.Line.NthOpen.{last_buffer_is, last_buffer_with, line_still, nth_is, within_with}
use Rattle.sled_core.proofs.Line.Outcomes.{on_both, refused}
use Rattle.sled_core.proofs.Reserve.OpenCounts.{first_there}
use Rattle.sled_core.proofs.Pending.Segments.{still_ready}
use Rattle.sled_core.proofs.Line.Pooling.{kept_with, there_last}
use Rattle.sled_core.proofs.logger.Log.room_for.Goals as goal

-- As many are open as may be, of which there is a first one.
pub returns-then-is_full_of_open-clause-answers : goal.returns-then-is_full_of_open-clause-answers
returns-then-is_full_of_open-clause-answers g c =
    let b : IoBuf = c.current.result.1.now in
    let rs : List Reserved = drop (sealed_count b.sealed.items) b.reserved.items in
    let full : open_in rs ≡ 127 = c.if-is_full_of_open.ensures.0 refl in
    let least = first_there rs (omega (arith, full)) in
    let fits : SFits w64 c.least_open.result = search rules in
    let same : view_at c.current.result.0 b ≡ current_of c.args.self.now = c.current.ensures.view in (
      ap (λ (v : SegmentView). open_in (current_reserved_in v)) (sym same) ∙ full,
      (
        least.0,
        ap (λ (v : SegmentView). first_open_in (current_reserved_in v)) (sym same) ∙ least.1,
        to_z-of_z w64 c.least_open.result fits ∙ c.least_open.ensures least.0 (ap (λ n. first_open_in (drop n b.reserved.items)) b.before ∙ least.1) ∙ ap (λ (v : SegmentView). pos (v.parts.site.place + least.0)) same,
      ),
    )

-- The noted batches are as they were, but for their room.

pub invariant_of-self : goal.invariant_of-self
invariant_of-self g c =
    let log = c.args.self.now in
    record {
      line = record {
        lies = log.line.lies;
        filled = log.line.filled;
        indexed = log.line.indexed;
      };
      account = log.account;
      noted = record {
        pegs = subst (All (λ (b : NotedBatch). b.peg < log.reserved_to)) (sym c.make_room_for.ensures.items) log.noted.pegs;
        counted = log.noted.counted ∙ sym c.make_room_for.ensures.manifests;
      };
      pooling = record { few = log.pooling.few; room = log.pooling.room; there = log.pooling.there };
    }

pub returns-then-is_full_of_open-clause-line : goal.returns-then-is_full_of_open-clause-line
returns-then-is_full_of_open-clause-line g c = refl

pub returns-then-is_full_of_open-clause-rest : goal.returns-then-is_full_of_open-clause-rest
returns-then-is_full_of_open-clause-rest g c = record { config = refl; reserved = refl; fault = refl; pins = refl; marks = refl; accountant = refl; noted = refl; pool = refl }

pub returns-in_err-make_room_for-clause-line : goal.returns-in_err-make_room_for-clause-line
returns-in_err-make_room_for-clause-line g c = refl

pub returns-in_err-make_room_for-clause-room : goal.returns-in_err-make_room_for-clause-room
returns-in_err-make_room_for-clause-room g c = refused _ c.from_residual.result _ c.from_residual.ensures.1

pub returns-in_err-make_room_for-clause-batch : goal.returns-in_err-make_room_for-clause-batch
returns-in_err-make_room_for-clause-batch g c = refused _ c.from_residual.result _ c.from_residual.ensures.1

pub returns-in_err-make_room_for-clause-rest : goal.returns-in_err-make_room_for-clause-rest
returns-in_err-make_room_for-clause-rest g c = record { config = refl; reserved = refl; fault = refl; pins = refl; marks = refl; accountant = refl; noted = c.make_room_for.ensures.items; pool = refl }

pub returns-clause-rest : goal.returns-clause-rest
returns-clause-rest g c = record { config = refl; reserved = refl; fault = refl; pins = refl; marks = refl; accountant = refl; noted = c.make_room_for.ensures.items; pool = refl }

pub make_room-requires-clause-there : goal.make_room-requires-clause-there
make_room-requires-clause-there g c =
    let log = c.args.self.now in
    there_last log c.last_mut.result.now c.last_mut.ensures.value

-- The last segment is as it was, but for its room.
module _ {D C : Type 0} (log : Log D C) (s : SegmentBuffer) (there : slice_get (open_segments log.segments) (length log.segments.behind.items) ≡ Some s) (new : IoBuf)
    (view : (site : SegmentPosition) → view_at site new ≡ view_at site s.buffer) where
  abbrev now : SegmentBuffer
  now = record { site = s.site; buffer = new }

  same_line : line_in (with_nth log.segments (length log.segments.behind.items) now) ≡ line_of log
  same_line = line_still log.segments (length log.segments.behind.items) s now there (view s.site)

  lie_now : LieWithin log.config.config.segment_size (with_nth log.segments (length log.segments.behind.items) now)
  lie_now =
      let bytes = ap (λ (v : SegmentView). length v.parts.bytes) (view s.site) in
      let written = ap (λ (v : SegmentView). v.parts.written_len) (view s.site) in
      let short = (nth_is log (length log.segments.behind.items) s there).short in
      within_with log.config.config.segment_size log.segments (length log.segments.behind.items) s now there refl (omega (arith, short, bytes)) (omega (arith, written)) log.line.lies

pub invariant_of-self-2 : goal.invariant_of-self-2
invariant_of-self-2 g c =
    let log = c.args.self.now in
    let s : SegmentBuffer = c.last_mut.result.now in
    let there = c.last_mut.ensures.value in
    let made = c.make_room.ensures in
    let new : IoBuf = c.make_room.new.self in
    let lie = lie_now log s there new made.same in
    let line = same_line log s there new made.same in
    record {
      line = record {
        lies = lie;
        filled = subst (AreFilled log.config.config.segment_size log.reserved_to) (sym line) log.line.filled;
        indexed = still_ready line log.ready log.ready refl refl log.line.indexed;
      };
      account = log.account;
      noted = record {
        pegs = subst (All (λ (b : NotedBatch). b.peg < log.reserved_to)) (sym c.make_room_for.ensures.items) log.noted.pegs;
        counted = (let same = ap open_manifests line in let old = log.noted.counted in let many = c.make_room_for.ensures.manifests in omega (arith, same, old, many));
      };
      pooling = kept_with log (length log.segments.behind.items) s (record { site = s.site; buffer = new }) there (λ some. made.there);
    }

pub returns-clause-line : goal.returns-clause-line
returns-clause-line g c =
    let made = c.make_room.ensures in
    same_line c.args.self.now c.last_mut.result.now c.last_mut.ensures.value c.make_room.new.self made.same

pub returns-clause-room : goal.returns-clause-room
returns-clause-room g c =
    let log = c.args.self.now in
    let s : SegmentBuffer = c.last_mut.result.now in
    let made = c.make_room.ensures in
    let new : IoBuf = c.make_room.new.self in
    let b : IoBuf = c.current.result.1.now in
    let is_last : b ≡ s.buffer = c.current.ensures.buffer ∙ last_buffer_is log.segments s c.last_mut.ensures.value in
    let not_full : open_in (drop (sealed_count b.sealed.items) b.reserved.items) ≢ most_open = λ full. let bad : false ≡ true = c.if-is_full_of_open.ensures.1 full in cc in
    let most : open_in (drop (sealed_count b.sealed.items) b.reserved.items) ≤ most_open = subst (λ (k : ℕ). open_in (drop k b.reserved.items) ≤ most_open) b.before (let counted = b.counted in let few = b.few in omega (arith, counted, few)) in
    let few : open_in (drop (sealed_count b.sealed.items) b.reserved.items) < most_open = omega (arith, most, not_full) in
    let few_now : open_in (drop (sealed_count new.sealed.items) new.reserved.items) < most_open = subst (λ (n : ℕ). n < most_open) ((λ j. open_in (drop (sealed_count (is_last j).sealed.items) (is_last j).reserved.items)) ∙ sym (ap (λ (v : SegmentView). open_in (drop (sealed_count v.parts.sealed) v.parts.reserved)) (made.same s.site))) few in
    subst (λ (x : IoBuf). OnOk c.make_room.result (HasRoomIn x c.args.len)) (sym (last_buffer_with log.segments s (record { site = s.site; buffer = new }) c.last_mut.ensures.value))
    (on_both c.make_room.result _ _ (HasRoomIn new c.args.len) (λ room place. record { bytes = omega (arith, room, ap (λ (v : SegmentView). length v.parts.bytes) (made.same s.site)); reserved = place; few = few_now }) made.room made.place)
