-- Segments that no slot has any more do no harm: a log file that reads as one that can be recovered, but for these, can be recovered with the same cut.
use Rattle.std.proofs.Common.{◌≡◌, ◌⊎◌, ◌+◌, ◌*◌, ◌/◌, ◌%◌, ◌<◌, ◌≤◌, ◌≤ℤ◌, ℕ, ℤ, pos, negsuc, List, Option, refl, sym, ap, subst, arith, inl, inr}
use Rattle.std.specs.List.{Contains}
use Rattle.sled_codec.specs.History.{History}
use Rattle.sled_codec.specs.Snapshots.{SnapshotModel}
use Rattle.sled_core.specs.declared.iterator.Segment.{Segment}
use Rattle.sled_core.specs.inside.Hides.{IsGoneSegment}
use Rattle.sled_core.specs.inside.Recoverable.{IsRecoverableLog}
use Rattle.sled_core.specs.inside.Scan.{IsFoundSegment, IsMisplaced}
use Rattle.sled_core.specs.Tail.{IsUnordered, greatest_mark, least_place, tail_begins, place_of_mark}
use Rattle.sled_core.proofs.Freed.AnyOrdering.{any_ordering}
use Rattle.sled_core.proofs.Freed.Gone.{ReadsAs, found_low, recoverable_with}
use Rattle.sled_core.proofs.Tail.GreatestMark.{greatest_is, mark_above, mark_below}
use Rattle.sled_core.proofs.Tail.Multiples.{lower_multiple, put_down}
use Rattle.sled_core.proofs.Tail.OneTail.{one_at_place, rises_of}
use Rattle.sled_core.proofs.Tail.SegmentsFrom.{mark_within}

-- Where the header of a segment that is found has a mark or a greater one, the tail begins no lower than the segment of that mark.
pub begins_above : (size : ℕ) → 256 ≤ size → (least mark : ℕ) (ordering : List Segment) (s : Segment) → Contains ordering s → pos mark ≤ℤ s.mark
    → mark / size * size ≤ tail_begins size least ordering
begins_above size some least mark ordering s there above = by s.mark refl where
  by : (z : ℤ) → s.mark ≡ z → mark / size * size ≤ tail_begins size least ordering
  by (pos n) at =
      let high : mark ≤ n = mark_above s.mark n mark at above in
      let its = mark_within least ordering s there in
      lower_multiple size some mark (greatest_mark least ordering) (omega (arith, high, its, ap place_of_mark at))
  by (negsuc n) at = absurd (none (subst (λ z. pos mark ≤ℤ z) at above)) where
    none : pos mark ≤ℤ negsuc n → ⊥
    none le = le.le

-- A segment begins where one can, and no other one begins there.
pub record BeginsAlone (sum : List ℕ → ℕ) (size : ℕ) (log : List ℕ) (s : Segment) : Type 0 where
  pub aligned : s.place % size ≡ 0
  pub alone : (t : Segment) → IsFoundSegment sum size log 0 t → t.place ≡ s.place → t.slot ≡ s.slot

module _ (sum : List ℕ → ℕ) (size : ℕ) (some : 256 ≤ size) (shown left : List ℕ) (H : History) (A : ℕ) (first : SnapshotModel) (cut : ℕ × Option ℕ)
    (is : IsRecoverableLog sum size shown H A first cut) (base : ℕ) (same : ReadsAs sum size (least_place size first) H base shown left)
    (low : base ≤ tail_begins size (least_place size first) is.ordering)
    (apart : (s : Segment) → IsFoundSegment sum size left (least_place size first) s → IsGoneSegment sum size left H base s → BeginsAlone sum size left s) where
  abbrev least : ℕ
  least = least_place size first

  -- The places of what is gone are no greater than those of a log can be.
  gone_fits : (s : Segment) → IsFoundSegment sum size left least s → IsGoneSegment sum size left H base s → IsMisplaced size s → ⊥
  gone_fits s found gone (inl unaligned) = unaligned (apart s found gone).aligned
  gone_fits s found gone (inr high) = by (greatest_is least is.ordering) where
    parts : tail_begins size least is.ordering + greatest_mark least is.ordering % size ≡ greatest_mark least is.ordering
    parts = (put_down size (greatest_mark least is.ordering)).0

    by : (greatest_mark least is.ordering ≡ least) ⊎ ((t : Segment) × Contains is.ordering t × (t.mark ≡ pos (greatest_mark least is.ordering))) → ⊥
    by (inl at) = let lies = gone.below in let above = found.not_below in omega (arith, at, lies, above, low, parts, some)
    by (inr (t, there, mark)) =
        let under : greatest_mark least is.ordering < t.place = mark_below t.mark (greatest_mark least is.ordering) t.place mark (is.marks t there).below in
        let lies = gone.below in
        is.numbers.placed t there (inr (omega (arith, high, lies, low, parts, under)))

  -- So nothing is found in the file that can't be of one log.
  ordered : IsUnordered sum size left least → ⊥
  ordered (inl (s, found, misplaced)) = elim (same.others s found) [
    | inl shown_there ↦ is.numbers.placed s ((is.numbers.found s).1 shown_there) misplaced
    | inr gone ↦ gone_fits s found gone misplaced
  ]
  ordered (inr (s, t, found, also, slots, places)) = by (same.others s found) (same.others t also) where
    by : IsFoundSegment sum size shown least s ⊎ IsGoneSegment sum size left H base s
        → IsFoundSegment sum size shown least t ⊎ IsGoneSegment sum size left H base t → ⊥
    by (inr gone) other = slots (sym ((apart s found gone).alone t (found_low sum size left least t also) (sym places)))
    by (inl had) (inr gone) = slots ((apart t also gone).alone s (found_low sum size left least s found) places)
    by (inl had) (inl has) =
        let one = one_at_place is.ordering (rises_of is.ordering is.numbers.ascending) s t ((is.numbers.found s).1 had) ((is.numbers.found t).1 has) places in
        slots (ap (λ (x : Segment). x.slot) one)

  -- The file can be recovered, with the same cut.
  pub gone_do_no_harm : IsRecoverableLog sum size left H A first cut
  gone_do_no_harm =
      let its = any_ordering sum size some left least ordered in
      recoverable_with sum size some shown left H A first cut is base same low its.0 its.1
