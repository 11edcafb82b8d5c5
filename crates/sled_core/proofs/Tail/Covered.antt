-- Where a pass over segments stops: from the beginning of the tail on, each place below the cut at which a record can begin lies in a record that is met, or behind a Cap.
use Rattle.std.proofs.Common.{◌≡◌, ◌⊎◌, ◌+◌, ◌*◌, ◌/◌, ◌%◌, ◌<◌, ◌≤◌, ℕ, List, refl, arith, inl, inr}
use Rattle.std.specs.List.{Contains}
use Rattle.std.proofs.lemmas.Bool.{cases_lt}
use Rattle.sled_core.specs.declared.iterator.Segment.{Segment}
use Rattle.sled_core.specs.declared.iterator.scan.ScannedRecord.{ScannedRecord}
use Rattle.sled_core.specs.declared.iterator.scan.ScanEnd.{ScanEnd}
use Rattle.sled_core.specs.declared.iterator.scan.ScanEnd.TheVariants.{Full, Capped, Broken}
use Rattle.sled_core.specs.Scan.{IsEnd}
use Rattle.sled_core.specs.inside.Recoverable.{BeginsInSegment}
use Rattle.sled_core.specs.Tail.{Scanned, cut_of}
use Rattle.sled_core.proofs.Tail.Multiples.{apart, put_down}
use Rattle.sled_core.proofs.Tail.Rows.{IsWhole, end_there, covers, cut_cases}

-- Where a pass over these segments stops, and in which one: no higher than the tail ends, which has each segment from its beginning on.
pub record PassEnds (sum : List ℕ → ℕ) (size : ℕ) (log : List ℕ) (some : 256 ≤ size) (scanned : List Scanned) (begins end cut : ℕ) : Type 0 where
  pub at : Segment × ℕ
  pub final : Scanned
  pub known : Contains scanned final
  pub begun : final.segment.place < end
  pub place : at.0.place ≡ final.segment.place
  pub is_cut : cut ≡ (cut_of size at).0
  pub low : at.1 ≤ end
  pub no_higher : (z : ℕ) → z % size ≡ 0 → z < cut → z ≤ final.segment.place
  pub aligned : begins % size ≡ 0
  pub has : (z : ℕ) → z % size ≡ 0 → begins ≤ z → z < end → (t : Scanned) × (Contains scanned t × (t.segment.place ≡ z) × (t.why ≡ Broken → end ≡ t.segment.place + t.stop))
  pub whole : (t : Scanned) → Contains scanned t → IsWhole sum size log some t

module _ (sum : List ℕ → ℕ) (size : ℕ) (log : List ℕ) (some : 256 ≤ size) (scanned : List Scanned) (begins end cut : ℕ) (ends : PassEnds sum size log some scanned begins end cut) where
  multiples : (a b : ℕ) → a % size ≡ 0 → b % size ≡ 0 → a < b → a + size ≤ b
  multiples = apart size (omega (arith, some))

  -- Nothing begins below the cut where the reading of the last segment ended for a record that is broken.
  none_behind : (p : ℕ) → p < cut → BeginsInSegment size p → end ≤ p → ⊥
  none_behind p lower at above =
      let room = at.room in
      let parts = put_down size p in
      let low = ends.low in
      let place = ends.place in
      elim (cut_cases size ends.at) [
        | inl same ↦ omega (arith, same, ends.is_cut, lower, above, low)
        | inr filled ↦ (
            let under : ends.final.segment.place < p / size * size = omega (arith, filled.1, place, low, above, room, parts.0) in
            let far = multiples ends.final.segment.place (p / size * size) (ends.whole ends.final ends.known).1 parts.1 under in
            omega (arith, far, filled.0, ends.is_cut, place, lower, parts.0))
      ]

  -- A record of the tail has this place, or it lies behind a Cap.
  abbrev pub IsCovered : ℕ → Type 0
  IsCovered p = (t : Scanned) × Contains scanned t × (t.segment.place ≡ p / size * size)
      × (((x : ScannedRecord) × Contains t.met x × (x.place ≤ p) × (p < x.place + x.len)) ⊎ ((t.why ≡ Capped) × (t.segment.place + t.stop ≤ p) × (p < t.segment.place + size)))

  pub covered : (p : ℕ) → begins ≤ p → p < cut → BeginsInSegment size p → IsCovered p
  covered p above lower at = by_tail where
    z : ℕ
    z = p / size * size

    parts : (z + p % size ≡ p) × (z % size ≡ 0)
    parts = put_down size p

    within : p % size < size
    within = let room = at.room in omega (arith, room)

    low : begins ≤ z
    low = elim (cases_lt z begins) [
      | inl under ↦ (let far = multiples z begins parts.1 ends.aligned under in absurd (omega (arith, far, above, parts.0, within)))
      | inr le ↦ le
    ]

    high : z < end
    high =
        let bound = ends.no_higher z parts.1 (omega (arith, lower, parts.0)) in
        let begun = ends.begun in
        omega (arith, bound, begun)

    behind : (t : Scanned) → Contains scanned t → t.segment.place ≡ z → (t.why ≡ Broken → end ≡ t.segment.place + t.stop) → t.segment.place + t.stop ≤ p
        → (why : ScanEnd) → t.why ≡ why → IsEnd sum size log t.segment.slot t.segment.place t.stop why → IsCovered p
    behind t there place broken_last past Full test ends_so = let room = at.room in absurd (omega (arith, ends_so, past, place, parts.0, room))
    behind t there place broken_last past Capped test ends_so = (t, there, place, inr (test, past, omega (arith, place, parts.0, within)))
    behind t there place broken_last past Broken test ends_so = absurd (none_behind p lower at (omega (arith, broken_last test, past)))

    in_segment : (t : Scanned) → Contains scanned t → t.segment.place ≡ z → (t.why ≡ Broken → end ≡ t.segment.place + t.stop) → IsCovered p
    in_segment t there place broken_last =
        let read = ends.whole t there in
        let off = at.behind in
        elim (cases_lt p (t.segment.place + t.stop)) [
          | inl inside ↦ (t, there, place, inl (covers sum size log some t read p (omega (arith, off, place, parts.0)) inside))
          | inr past ↦ behind t there place broken_last past t.why refl (end_there sum size log some t read)
        ]

    by_tail : IsCovered p
    by_tail =
        let found = ends.has z parts.1 low high in
        in_segment found.0 found.1.0 found.1.1 found.1.2
