-- Where what is read of a log file from the segment of the cut on ends at the cut, and no segment lies at or above it, all that is met lies below the cut: the file stays recoverable when the history forgets what lies there.
use Rattle.std.proofs.Common.{⊎_elim, ◌≡◌, ◌∙◌, ◌+◌, ◌*◌, ◌/◌, ◌%◌, ◌<◌, ◌≤◌, ℕ, List, Option, sym, ap, subst, arith, inl, inr}
use Rattle.std.specs.List.{Contains}
use Rattle.std.proofs.lemmas.Bool.{cases_lt}
use Rattle.sled_codec.specs.History.{History, CutFits, below}
use Rattle.sled_codec.specs.Snapshots.{SnapshotModel, stable_place}
use Rattle.sled_core.specs.declared.iterator.Segment.{Segment}
use Rattle.sled_core.specs.declared.iterator.scan.ScannedRecord.{ScannedRecord}
use Rattle.sled_core.specs.inside.Recoverable.{ActiveFits, IsRecoverableLog}
use Rattle.sled_core.specs.inside.Scan.{IsFoundSegment}
use Rattle.sled_log.specs.Recovery.{Scanned, IsScanned}
use Rattle.sled_core.proofs.Tail.Multiples.{apart, put_down}
use Rattle.sled_core.proofs.Tail.OneReading.{one_scan}
use Rattle.sled_core.proofs.Tail.OneTail.{rises_of, one_at_place, place_aligned, segment_there}
use Rattle.sled_log.proofs.Recovers.PassCut.{whole}
use Rattle.sled_core.proofs.Tail.Rows.{met_stand, stand_in}
use Rattle.sled_log.proofs.Moments.ForgottenAbove.{log_forgets}
use Rattle.sled_log.proofs.Moments.FromCut.{EndsAtCut}
use Rattle.sled_log.proofs.Moments.UnreadSlots.{StopsAtCut, recoverable_at}

-- Under a snapshot with the cut for its place, where no segment lies at or above it, only the segment of the cut is met.
module _ (sum : List ℕ → ℕ) (size : ℕ) (log : List ℕ) (some : 256 ≤ size) (H : History) (A : ℕ) (cut : ℕ × Option ℕ) (nothing : (s : Segment) → IsFoundSegment sum size log 0 s → cut.0 ≤ s.place → ⊥)
    (next : SnapshotModel) (place : stable_place next.stable ≡ cut.0) (is : IsRecoverableLog sum size log H A next cut) where
  abbrev begins : ℕ
  begins = cut.0 / size * size

  pub in_segment : (s : Segment) → Contains is.ordering s → (s.place ≡ cut.0 / size * size) × (cut.0 / size * size < cut.0)
  in_segment s there =
      let found = (is.numbers.found s).0 there in
      let low : begins ≤ s.place = subst (λ n. n / size * size ≤ s.place) place found.not_below in
      let parts = put_down size cut.0 in
      elim (cases_lt s.place cut.0) [
        | inl under ↦ elim (cases_lt begins s.place) [
          | inl over ↦ (
              let aligned = place_aligned sum size log _ is.ordering is.numbers s there in
              let far = apart size (omega (arith, some)) begins s.place parts.1 aligned over in
              let inside : cut.0 % size < size = omega (arith, some) in
              absurd (omega (arith, far, under, parts.0, inside)))
          | inr le ↦ (omega (arith, le, low), omega (arith, le, under, low))
        ]
        | inr above ↦ absurd (nothing s (record { slot = found.slot; header = found.header; not_below = omega arith }) above)
      ]

module _ (sum : List ℕ → ℕ) (size : ℕ) (log : List ℕ) (some : 256 ≤ size) (H : History) (A : ℕ) (cut : ℕ × Option ℕ) (stops : StopsAtCut sum size log some H A cut)
    (nothing : (s : Segment) → IsFoundSegment sum size log 0 s → cut.0 ≤ s.place → ⊥) where
  -- Under a snapshot with the cut for its place.
  module _ (next : SnapshotModel) (place : stable_place next.stable ≡ cut.0) (is : IsRecoverableLog sum size log H A next cut) where
    pub met_lower : (s : Scanned) (x : ScannedRecord) → Contains is.scanned s → Contains s.met x → x.place < cut.0
    met_lower s x there met = ⊎_elim at_cut (λ full. absurd (let at = in_segment sum size log some H A cut nothing next place is s.segment own.0 in let parts = put_down size cut.0 in omega (arith, at.1, parts.0, full.1))) stops.stops where
      own : Contains is.ordering s.segment × IsScanned sum size log s
      own = segment_there sum size log is.ordering is.scanned is.reads s there

      at_cut : ((z : Scanned) × EndsAtCut sum size log some stops.parts.scanned cut z) → x.place < cut.0
      at_cut (z, ends) =
          let its = segment_there sum size log stops.parts.ordering stops.parts.scanned stops.parts.reads z ends.there in
          let found = (stops.parts.numbers.found z.segment).0 its.0 in
          let known : Contains is.ordering z.segment = (is.numbers.found z.segment).1 (record { slot = found.slot; header = found.header; not_below = subst (λ n. n / size * size ≤ z.segment.place) (sym place) found.not_below }) in
          let at = in_segment sum size log some H A cut nothing next place is s.segment own.0 in
          let segment : s.segment ≡ z.segment = one_at_place is.ordering (rises_of is.ordering is.numbers.ascending) s.segment z.segment own.0 known (at.0 ∙ sym ends.place) in
          let same : s ≡ z = one_scan sum size log s z segment own.1 its.1 in
          let stand = stand_in (s.segment.place + 20) s.met (s.segment.place + s.stop) (met_stand sum size log some s (whole sum size log some H A next cut is s there)) x met in
          let stop = ends.stop in
          omega (arith, stand.1, stand.2, stop, ap (λ (t : Scanned). t.segment.place + t.stop) same)

  pub recoverable_below : CutFits H cut.0 → (next : SnapshotModel) → stable_place next.stable ≡ cut.0 → ActiveFits size (stable_place next.stable) next.active → IsRecoverableLog sum size log (below H cut.0) A next cut
  recoverable_below fits next place active =
      let is = recoverable_at sum size log some H A cut stops fits next place active in
      log_forgets sum size log H A next cut is (met_lower next place is)
