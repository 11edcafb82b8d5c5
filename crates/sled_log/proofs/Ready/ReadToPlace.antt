-- The log file that a recovery leaves is read up to the cut under a snapshot with that place and its slot: no other segment is found from there on, and a write goes on where reading ends.
use Rattle.std.proofs.Common.{◌≡◌, ◌⊎◌, ◌∙◌, ◌*◌, ◌/◌, ◌%◌, ◌<◌, ◌≤◌, ℕ, List, Option, Some, None, sym, ap, subst, arith, inl, inr}
use Rattle.std.specs.List.{Contains}
use Rattle.sled_codec.specs.History.{Message, Batch, History, CutFits}
use Rattle.sled_codec.specs.Snapshots.{SnapshotModel, stable_place}
use Rattle.sled_core.specs.declared.iterator.Segment.{Segment}
use Rattle.sled_core.specs.inside.Reached.{GoesOnIn, StandsActive}
use Rattle.sled_core.specs.inside.Recoverable.{ActiveFits, IsRecoverableLog}
use Rattle.sled_core.specs.inside.Scan.{IsFoundSegment}
use Rattle.sled_core.specs.Tail.{Scanned, least_place}
use Rattle.sled_core.proofs.Reached.StandsTo.{StandsTo}
use Rattle.sled_core.proofs.Tail.Multiples.{put_down}
use Rattle.sled_core.proofs.Tail.OneTail.{rises_of, one_at_place, segment_there, reading_there}
use Rattle.sled_log.proofs.Afterwards.EndsBelow.{in_segment}
use Rattle.sled_log.proofs.Moments.FromCut.{EndsAtCut}
use Rattle.sled_log.proofs.Moments.UnreadSlots.{StopsAtCut, StopsIn}
use Rattle.sled_log.proofs.Reached.AtCut.{stands_at_cut, reads_at_cut}

-- the reading of the segment of a cut ends there, in the slot of the cut; or the cut is the end of a segment
abbrev pub EndsThere : (List ℕ → ℕ) → (size : ℕ) → List ℕ → 256 ≤ size → List Scanned → ℕ × Option ℕ → Type 0
EndsThere sum size log some scanned cut = ((z : Scanned) × EndsAtCut sum size log some scanned cut z) ⊎ ((cut.1 ≡ None) × (cut.0 % size ≡ 0))

-- What a file that stops at a cut has of that, where the history forgets what lies above.
module _ (sum : List ℕ → ℕ) (size : ℕ) (log : List ℕ) (some : 256 ≤ size) (H : History) (A : ℕ) (cut : ℕ × Option ℕ) (stops : StopsAtCut sum size log some H A cut) (K : History)
    (next : SnapshotModel) (place : stable_place next.stable ≡ cut.0) (is : IsRecoverableLog sum size log K A next cut) where
  -- It ends at the cut there too.
  pub ends_there : EndsThere sum size log some is.scanned cut
  ends_there = by stops.stops where
    by : StopsIn sum size log some H A cut stops.parts → EndsThere sum size log some is.scanned cut
    by (inl (z, ends)) =
        let its = segment_there sum size log stops.parts.ordering stops.parts.scanned stops.parts.reads z ends.there in
        let found = (stops.parts.numbers.found z.segment).0 its.0 in
        let known : Contains is.ordering z.segment = (is.numbers.found z.segment).1 (record { slot = found.slot; header = found.header; not_below = subst (λ n. n / size * size ≤ z.segment.place) (sym place) found.not_below }) in
        inl (z, record { there = reading_there sum size log is.ordering is.scanned is.reads z known its.1; place = ends.place; slot = ends.slot; stop = ends.stop; broken = ends.broken })
    by (inr (no_slot, aligned, nothing)) = inr (no_slot, aligned)

-- A history of which all lies below the cut.
module _ (sum : List ℕ → ℕ) (size : ℕ) (log : List ℕ) (some : 256 ≤ size) (H : History) (A : ℕ) (next : SnapshotModel) (cut : ℕ × Option ℕ) (is : IsRecoverableLog sum size log H A next cut)
    (place : stable_place next.stable ≡ cut.0) (active : ActiveFits size (stable_place next.stable) next.active)
    (messages : (m : Message) → Contains H.messages m → m.place < cut.0) (batches : (b : Batch) → Contains H.batches b → b.low < cut.0) (fits : CutFits H cut.0)
    (nothing : (s : Segment) → IsFoundSegment sum size log 0 s → cut.0 ≤ s.place → ⊥) (same : next.active ≡ cut.1) (ends : EndsThere sum size log some is.scanned cut) where
  stands : StandsTo sum size log H cut.0 next cut.0
  stands = stands_at_cut sum size log some H A next cut is place active messages batches fits

  only : (x : Segment) → IsFoundSegment sum size log (least_place size next) x → next.active ≡ Some x.slot
  only x found = by ends where
    there : Contains is.ordering x
    there = (is.numbers.found x).1 found

    at : (x.place ≡ cut.0 / size * size) × (cut.0 / size * size < cut.0)
    at = in_segment sum size log some H A cut nothing next place is x there

    by : EndsThere sum size log some is.scanned cut → next.active ≡ Some x.slot
    by (inl (z, stop)) =
        let known = (segment_there sum size log is.ordering is.scanned is.reads z stop.there).0 in
        let one : x ≡ z.segment = one_at_place is.ordering (rises_of is.ordering is.numbers.ascending) x z.segment there known (at.0 ∙ sym stop.place) in
        same ∙ stop.slot ∙ ap (λ (s : Segment). Some s.slot) (sym one)
    by (inr (no_slot, aligned)) = let parts = put_down size cut.0 in absurd (omega (arith, at.1, parts.0, aligned))

  going : (slot : ℕ) → next.active ≡ Some slot → GoesOnIn is.scanned slot (cut.0 % size) (cut.0 / size * size)
  going slot has = by ends where
    by : EndsThere sum size log some is.scanned cut → GoesOnIn is.scanned slot (cut.0 % size) (cut.0 / size * size)
    by (inl (z, stop)) =
        let slots : Some slot ≡ Some z.segment.slot = sym has ∙ same ∙ stop.slot in
        let parts = put_down size cut.0 in
        let at = stop.place in
        let ended = stop.stop in
        record {
          scan = z;
          there = stop.there;
          in_slot = cc;
          at_place = stop.place;
          ended = omega (arith, parts.0, at, ended);
          broken = stop.broken;
        }
    by (inr (no_slot, aligned)) = let none : Some slot ≡ None = sym has ∙ same ∙ no_slot in cc

  -- It stands up to a place, in no other slot, and goes on there.
  abbrev StandsAt : ℕ → Type 0
  StandsAt n = (to : StandsTo sum size log H n next n) × ((slot : ℕ) → next.active ≡ Some slot → GoesOnIn to.scanned slot (n % size) (n / size * size))

  at_cut : StandsAt cut.0
  unfolding stands
  at_cut = (stands, λ slot has. subst (λ (xs : List Scanned). GoesOnIn xs slot (cut.0 % size) (cut.0 / size * size)) (sym (reads_at_cut sum size log some H A next cut is place active messages batches fits)) (going slot has))

  -- So it is where a log goes on.
  pub stands_active : StandsActive sum size log next H
  stands_active =
      let there = subst StandsAt (sym place) at_cut in
      record { stands = there.0; only = only; going = there.1 }
