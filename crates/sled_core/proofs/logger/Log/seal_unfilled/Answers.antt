-- The current buffer is sealed, in the last segment.
use Rattle.std.proofs.Common.{◌≡◌, ◌∙◌, sym, ap, refl, subst, arith, List, [], ◌∷◌, length, map, true, false, Some, rules, length-append, deque_len}
use Rattle.std.specs.List.{slice_get}
use Rattle.std.proofs.lemmas.Bool.Decides.{nat_tests}
use Rattle.sled_core.specs.inside.Begun.{AreFilled, LieWithin, open_segments, with_nth}
use Rattle.sled_core.specs.Begun.{SegmentView, line_in, segment_view, view_at}
use Rattle.sled_core.specs.declared.iobuf.IoBuf.{IoBuf}
use Rattle.sled_core.specs.declared.iobuf.Sealed.{Sealed}
use Rattle.sled_core.specs.declared.logger.Log.{Log}
use Rattle.sled_core.specs.declared.logger.io_bufs.IoBufs.{IoBufs}
use Rattle.sled_core.specs.declared.logger.io_bufs.SegmentBuffer.{SegmentBuffer}
use Rattle.sled_core.specs.Fits.{current_of, line_of, segment_size_of}
use Rattle.sled_core.specs.inside.OpenPlaces.{open_manifests}
use Rattle.sled_core.specs.Positions.{is_short}
use Rattle.sled_core.specs.inside.ReadyBuffers.{AreReady}
use Rattle.sled_core.specs.Waiting.{at_last, holds_any, sealed_now}
use Rattle.sled_core.proofs.Line.Entered.{filled_sealed}
use Rattle.sled_core.proofs.Line.NthOpen.{last_is, line_still, line_with_last, nth_is, within_with}
use Rattle.sled_core.proofs.Line.OpenManifests.{manifests_sealed}
use Rattle.sled_core.proofs.Line.Outcomes.{all_err}
use Rattle.sled_core.proofs.Pending.Logs.{seals_now, seals_ready}
use Rattle.sled_core.proofs.Pending.Segments.{still_ready}
use Rattle.sled_core.proofs.Line.Pooling.{kept_with, there_last}
use Rattle.sled_core.proofs.logger.Log.seal_unfilled.Goals as goal

-- The segments are filled as they have to be, sealed or not.
module _ {D C : Type 0} (log : Log D C) (room : is_short (segment_size_of log) (length (current_of log).parts.bytes) ≡ false) where
  abbrev Filled : List SegmentView → Type 0
  Filled line = AreFilled log.config.config.segment_size log.reserved_to line

  sealed_filled : (line : List SegmentView) → line ≡ at_last sealed_now (line_of log) → Filled line
  sealed_filled line is = subst Filled (sym is) (filled_sealed log.config.config.segment_size log.reserved_to (segment_view log.segments.first) (map segment_view log.segments.behind.items) (grind (arith, nat_tests, room)) log.line.filled)

  still_filled : (line : List SegmentView) → line ≡ line_of log → Filled line
  still_filled line is = subst Filled (sym is) log.line.filled

-- They have as many open manifests.
module _ {D C : Type 0} (log : Log D C) where
  sealed_counted : (line : List SegmentView) → line ≡ at_last sealed_now (line_of log) → open_manifests line ≡ log.batches.manifests
  sealed_counted line is = let same = ap open_manifests is ∙ manifests_sealed (line_of log) in let old = log.noted.counted in omega (arith, same, old)

  still_counted : (line : List SegmentView) → line ≡ line_of log → open_manifests line ≡ log.batches.manifests
  still_counted line is = let same = ap open_manifests is in let old = log.noted.counted in omega (arith, same, old)

-- There was no memory for its place.
pub invariant_of-self : goal.invariant_of-self
invariant_of-self g c =
    let log = c.args.self.now in
    record {
      line = record {
        lies = log.line.lies;
        filled = log.line.filled;
        indexed = still_ready refl log.ready c.make_room.new.self c.make_room.ensures.places c.make_room.ensures.held log.line.indexed;
      };
      account = log.account;
      noted = record {
        pegs = log.noted.pegs;
        counted = log.noted.counted;
      };
      pooling = record { few = log.pooling.few; room = log.pooling.room; there = log.pooling.there };
    }

-- The last one is.

pub seal-requires : goal.seal-requires
seal-requires g c =
    let s : SegmentBuffer = c.last_mut-s.result.now in
    let some : holds_any (segment_view s) ≡ true = ap holds_any (sym (last_is c.args.self.now s c.last_mut-s.ensures.value)) ∙ c.requires.some in
    let log = c.args.self.now in
    record { some = grind (arith, nat_tests, some); there = there_last log s c.last_mut-s.ensures.value }

pub note_sealed-requires-clause-some : goal.note_sealed-requires-clause-some
note_sealed-requires-clause-some g c =
    let s : SegmentBuffer = c.last_mut-s.result.now in
    let new : IoBuf = c.seal.new.self in
    let long : deque_len new.sealed ≡ length new.sealed.items = search rules in
    let seals = seals_now (segment_view s) in
    omega (arith, long, ap (λ (v : SegmentView). length v.parts.sealed) (c.in_ok-seal.ensures.sealed s.site), ap (λ (bs : List Sealed). length bs) seals.sealed, length-append s.buffer.sealed.items (seals.buffer ∷ []))

pub note_sealed-requires-clause-place : goal.note_sealed-requires-clause-place
note_sealed-requires-clause-place g c =
    let log = c.args.self.now in
    let is = nth_is log (length log.segments.behind.items) c.last_mut-s.result.now c.last_mut-s.ensures.value in
    let short = is.short in
    let small = is.place_small in
    omega (arith, short, small, ap (λ (v : SegmentView). length v.parts.bytes) (c.in_ok-seal.ensures.sealed c.last_mut-s.result.now.site))

-- what code makes of it
module _ {D C : Type 0} (log : Log D C) (s : SegmentBuffer) (there : slice_get (open_segments log.segments) (length log.segments.behind.items) ≡ Some s) (new : IoBuf) where
  abbrev now : IoBufs
  now = with_nth log.segments (length log.segments.behind.items) (record { site = s.site; buffer = new })

  -- The buffer is sealed, or isn't: as many bytes of it are written, and are there.
  lie_now : (f : SegmentView → SegmentView) → length (f (segment_view s)).parts.bytes ≡ length s.buffer.bytes.items → (f (segment_view s)).parts.written_len ≡ s.buffer.written_len → view_at s.site new ≡ f (segment_view s) → LieWithin (segment_size_of log) now
  lie_now f bytes written view =
      let long = ap (λ (v : SegmentView). length v.parts.bytes) view ∙ bytes in
      let from = ap (λ (v : SegmentView). v.parts.written_len) view ∙ written in
      let short = (nth_is log (length log.segments.behind.items) s there).short in
      within_with (segment_size_of log) log.segments (length log.segments.behind.items) s (record { site = s.site; buffer = new }) there refl (omega (arith, short, long)) (omega (arith, from)) log.line.lies

  sealed_line : view_at s.site new ≡ sealed_now (segment_view s) → line_in now ≡ at_last sealed_now (line_of log)
  sealed_line view = line_with_last sealed_now log.segments s (record { site = s.site; buffer = new }) there view

  same_line : view_at s.site new ≡ segment_view s → line_in now ≡ line_of log
  same_line view = line_still log.segments (length log.segments.behind.items) s (record { site = s.site; buffer = new }) there view

pub invariant_of-self-2 : goal.invariant_of-self-2
invariant_of-self-2 g c =
    let log = c.args.self.now in
    let s : SegmentBuffer = c.last_mut-s.result.now in
    let there = c.last_mut-s.ensures.value in
    let made = c.in_ok-seal.ensures in
    let new : IoBuf = c.seal.new.self in
    let lie = lie_now log s there new sealed_now refl refl (made.sealed s.site) in
    let same = sealed_line log s there new (made.sealed s.site) in
    record {
      line = record {
        lies = lie;
        filled = sealed_filled log c.requires.room _ same;
        indexed = subst (λ (l : List SegmentView). AreReady l c.note_sealed.new.self) (sym same)
            (seals_ready log sealed_now (seals_now (current_of log)) s.site new (made.sealed s.site ∙ ap sealed_now (sym (last_is log s there))) c.make_room.new.self c.note_sealed.new.self
            c.make_room.ensures.places c.make_room.ensures.held c.note_sealed.ensures);
      };
      account = log.account;
      noted = record {
        pegs = log.noted.pegs;
        counted = sealed_counted log _ same;
      };
      pooling = kept_with log (length log.segments.behind.items) s (record { site = s.site; buffer = new }) there (λ some. c.seal.ensures.there);
    }

-- There was no memory for it.
pub invariant_of-self-in-Break-branch-2 : goal.invariant_of-self-in-Break-branch-2
invariant_of-self-in-Break-branch-2 g c =
    let log = c.args.self.now in
    let s : SegmentBuffer = c.last_mut-s.result.now in
    let there = c.last_mut-s.ensures.value in
    let new : IoBuf = c.seal.new.self in
    let lie = lie_now log s there new (λ v. v) refl refl (c.in_err-seal.ensures.unsealed s.site) in
    let same = same_line log s there new (c.in_err-seal.ensures.unsealed s.site) in
    record {
      line = record {
        lies = lie;
        filled = still_filled log c.requires.room _ same;
        indexed = still_ready same log.ready c.make_room.new.self c.make_room.ensures.places c.make_room.ensures.held log.line.indexed;
      };
      account = log.account;
      noted = record {
        pegs = log.noted.pegs;
        counted = still_counted log _ same;
      };
      pooling = kept_with log (length log.segments.behind.items) s (record { site = s.site; buffer = new }) there (λ some. c.seal.ensures.there);
    }

pub returns-clause-line : goal.returns-clause-line
returns-clause-line g c =
    sealed_line c.args.self.now c.last_mut-s.result.now c.last_mut-s.ensures.value c.seal.new.self (c.in_ok-seal.ensures.sealed c.last_mut-s.result.now.site)

pub returns-in_err-seal-clause-unsealed : goal.returns-in_err-seal-clause-unsealed
returns-in_err-seal-clause-unsealed g c =
    all_err c.from_residual-in_err-seal.result _ (same_line c.args.self.now c.last_mut-s.result.now c.last_mut-s.ensures.value c.seal.new.self (c.in_err-seal.ensures.unsealed c.last_mut-s.result.now.site))
