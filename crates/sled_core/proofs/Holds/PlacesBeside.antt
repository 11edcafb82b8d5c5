-- A place behind what is written of a segment that was begun lies beside all that is found of the log file: in no record that a reader meets, and not behind a Cap.
use Rattle.std.proofs.Common.{◌≡◌, ◌⊎◌, ◌∙◌, ◌+◌, ◌<◌, ◌%◌, ◌≤◌, ℕ, pos, List, sym, ap, subst, arith, inl, inr}
use Rattle.std.specs.List.{Contains}
use Rattle.std.proofs.lemmas.Bool.{cases_lt, cases_order}
use Rattle.sled_codec.specs.History.{History}
use Rattle.sled_codec.specs.Places.{part}
use Rattle.sled_codec.specs.Record.{IsHeader}
use Rattle.sled_codec.specs.Snapshots.{SnapshotModel}
use Rattle.sled_core.specs.declared.iobuf.SegmentPosition.{SegmentPosition}
use Rattle.sled_core.specs.declared.iterator.scan.ScannedRecord.{ScannedRecord}
use Rattle.sled_core.specs.declared.iterator.scan.ScanEnd.TheVariants.{Capped, Broken}
use Rattle.sled_core.specs.inside.Reached.{BegunSegment, GoesOnIn, StandsAmong, StandsIn, StandsTo}
use Rattle.sled_core.specs.Recoverable.{NoHeaderOfZeros}
use Rattle.sled_core.specs.inside.Scan.{IsFoundSegment}
use Rattle.sled_core.specs.Scan.{IsScan}
use Rattle.sled_core.specs.SealedBuffers.{AreZeros}
use Rattle.sled_core.specs.Tail.{Scanned, IsScanned, least_place}
use Rattle.sled_core.proofs.Reached.SegmentsBeside.{going_in}
use Rattle.sled_core.proofs.Tail.OneTail.{place_aligned, segment_there}
use Rattle.sled_core.proofs.Tail.Multiples.{apart}
use Rattle.sled_core.proofs.Tail.Rows.{path_stands, path_within, stand_in}
use Rattle.sled_core.proofs.Tail.Tails.{one_reading}
use Rattle.sled_core.proofs.Torn.WrittenBegun.{none_in_zeros}

-- A place lies in another segment than this one, or behind where this was read for want of a record.
abbrev pub LiesBeside : ℕ → Scanned → ℕ → Type 0
LiesBeside size t place = (place < t.segment.place) ⊎ (t.segment.place + size ≤ place) ⊎ ((t.segment.place + t.stop ≤ place) × (t.why ≡ Broken))

-- One behind what is written of a segment that was begun, where this has room, lies beside all that is found.
pub lies_beside : (sum : List ℕ → ℕ) (size : ℕ) (log : List ℕ) (H : History) (A : ℕ) (first : SnapshotModel) (reach : ℕ) (is : StandsTo sum size log H A first reach) (site : SegmentPosition) (from : ℕ) → 256 ≤ size → NoHeaderOfZeros sum → site.place % size ≡ 0
    → (from ≡ 0 → AreZeros log site.slot (site.slot + 20)) → {records : ℕ} → StandsIn sum size log (least_place size first) is.scanned site from records → from + 32 ≤ size → (place : ℕ) → site.place + from ≤ place → place < site.place + size
    → (t : Scanned) → Contains is.scanned t → LiesBeside size t place
lies_beside sum size log H A first reach is site from some none place_begins clean its room place above inside t there =
    let least : ℕ = least_place size first in
    let known = segment_there sum size log is.ordering is.scanned is.reads t there in
    let found : IsFoundSegment sum size log least t.segment = (is.numbers.found t.segment).0 known.0 in
    let aligned : t.segment.place % size ≡ 0 = place_aligned sum size log least is.ordering is.numbers t.segment known.0 in
    elim (cases_order t.segment.place site.place) [
      | inl same ↦ elim (cases_lt 0 from) [
        | inl begun ↦ (
            let going : GoesOnIn is.scanned site.slot from site.place = going_in sum size log least is.scanned site from its begun room in
            let one : t ≡ going.scan = one_reading sum size log some least is.ordering is.numbers is.scanned is.reads t going.scan there going.there (same ∙ sym going.at_place) in
            let stop = going.ended in
            inr (inr (omega (arith, same, stop, ap (λ (y : Scanned). y.stop) one, above), ap (λ (y : Scanned). y.why) one ∙ going.broken)))
        | inr begins ↦ absurd (none_in_zeros sum 20 none (omega arith) log site.slot (clean (omega (arith, begins))) (pos t.segment.place) t.segment.mark
            (subst (λ n. IsHeader sum (part log n 20) (pos t.segment.place) t.segment.mark) (its.only t.segment found same) found.header))
      ]
      | inr (inl lower) ↦ (let far = apart size (omega (arith, some)) t.segment.place site.place aligned place_begins lower in inr (inl (omega (arith, far, above))))
      | inr (inr higher) ↦ (let far = apart size (omega (arith, some)) site.place t.segment.place place_begins aligned higher in inl (omega (arith, far, inside)))
    ]

module _ (sum : List ℕ → ℕ) (size : ℕ) (log : List ℕ) (some : 256 ≤ size) (H : History) (A : ℕ) (first : SnapshotModel) (reach : ℕ) (is : StandsTo sum size log H A first reach)
    (place : ℕ) (beside : (t : Scanned) → Contains is.scanned t → LiesBeside size t place) where
  -- what is met in a segment lies in front of where it was read to, and so beside that place
  pub met_beside : (s : Scanned) (x : ScannedRecord) → Contains is.scanned s → Contains s.met x → (low : ℕ) → x.place ≤ low → (place < low) ⊎ (x.place + x.len ≤ place)
  unfolding IsScan
  met_beside s x here there low up =
      let known = segment_there sum size log is.ordering is.scanned is.reads s here in
      let scan : IsScanned sum size log s = known.1 in
      let slot = ((is.numbers.found s.segment).0 known.0).slot in
      let within = path_within sum size log s.segment.slot s.segment.place slot 20 s.met s.stop (omega (arith, some)) scan.0 in
      let lies_there = stand_in (s.segment.place + 20) s.met (s.segment.place + s.stop) (path_stands sum size log s.segment.slot s.segment.place 20 s.met s.stop scan.0) x there in
      elim (beside s here) [
        | inl before ↦ inl (omega (arith, before, lies_there.0, up))
        | inr (inl behind) ↦ inr (omega (arith, behind, lies_there.2, within))
        | inr (inr past) ↦ inr (omega (arith, past.0, lies_there.2))
      ]

  -- where a segment ended in a Cap, the place lies in another one
  pub cap_beside : (s : Scanned) → Contains is.scanned s → s.why ≡ Capped → (place < s.segment.place + s.stop) ⊎ (s.segment.place + size ≤ place)
  cap_beside s here capped = elim (beside s here) [
    | inl before ↦ inl (omega (arith, before))
    | inr (inl behind) ↦ inr behind
    | inr (inr past) ↦ absurd (not_both (sym past.1 ∙ capped))
  ] where
    not_both : Broken ≡ Capped → ⊥
    not_both same = cc

-- A segment that begins behind the first one begins behind all that is written of that.
pub first_below : (sum : List ℕ → ℕ) (size : ℕ) (log : List ℕ) (site : SegmentPosition) (from : ℕ) (others : List BegunSegment) (reach : ℕ) (H : History) (first : SnapshotModel) → 256 ≤ size → {held : ℕ} → StandsAmong sum held size log site from others reach H first
    → (place : ℕ) → place % size ≡ 0 → site.place < place → site.place + from ≤ place
unfolding IsScan
first_below sum size log site from others reach H first some had place begins higher = elim (cases_lt 0 from) [
  | inl later ↦ (
      let is = had.stands in
      let r = had.here.read later in
      let t : Scanned = r.2.scan in
      let at = r.2.at_place in
      let ended = r.2.ended in
      let known = segment_there sum size log is.ordering is.scanned is.reads t r.2.there in
      let aligned : t.segment.place % size ≡ 0 = place_aligned sum size log (least_place size first) is.ordering is.numbers t.segment known.0 in
      let far = apart size (omega (arith, some)) t.segment.place place aligned begins (omega (arith, at, higher)) in
      let within = path_within sum size log t.segment.slot t.segment.place ((is.numbers.found t.segment).0 known.0).slot 20 t.met t.stop (omega (arith, some)) known.1.0 in
      elim r.3 [ inl (stops, broken) ↦ omega (arith, far, at, within, ended, stops) | inr (whole, goes) ↦ omega (arith, far, at, whole) ])
  | inr none ↦ omega (arith, none, higher)
]
