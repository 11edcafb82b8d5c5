-- Which segments are found in a log file of at most one slot.
use Rattle.std.proofs.Common.{◌≡◌, ◌∙◌, ◌+◌, ◌%◌, ◌<◌, ◌≤◌, ℕ, ℤ, pos, List, [], ◌∷◌, length, take, drop, refl, sym, ap, subst, arith, length-take, length-drop, nat_abs}
use Rattle.std.proofs.Math.Nat.{mod-eq_of_lt}
use Rattle.sled_codec.specs.Places.{part}
use Rattle.sled_codec.specs.Record.{IsHeader}
use Rattle.sled_codec.proofs.Segments.{length-short_header, one_header}
use Rattle.sled_core.specs.declared.iterator.Segment.{Segment}
use Rattle.sled_core.specs.inside.Scan.{IsFoundSegment, IsMisplaced}
use Rattle.sled_core.specs.Tail.{IsOrdering}
use Rattle.sled_store.proofs.Segments.Elements.{in_nothing, only_in, in_one}

pub zero_mod : (n : ℕ) → 0 % n ≡ 0
zero_mod n = omega arith

pub pos_injective : (m n : ℕ) → pos m ≡ pos n → m ≡ n
pos_injective m n is = ap nat_abs is

module _ (sum : List ℕ → ℕ) (size : ℕ) (log : List ℕ) (least : ℕ) where
  -- the header of a segment that is found lies in the file
  pub found_there : (s : Segment) → IsFoundSegment sum size log least s → s.slot + 20 ≤ length log
  found_there s found =
      let header = found.header in
      let long : length (part log s.slot 20) ≡ 20 = ap length header.is ∙ length-short_header sum (pos s.place) s.mark in
      omega (arith, long, length-take 20 (drop s.slot log), length-drop s.slot log)

  -- where none is found, none is in order
  pub none_ordered : ((s : Segment) → IsFoundSegment sum size log least s → ⊥) → IsOrdering sum size log least []
  none_ordered none = record {
    ascending = refl;
    found = λ s. (λ there. absurd (in_nothing s there), λ found. absurd (none s found));
    placed = λ s there. absurd (in_nothing s there);
  }

module _ (sum : List ℕ → ℕ) (size : ℕ) (log : List ℕ) (least : ℕ) (short : length log ≤ size) where
  -- a segment that is found begins with the file
  pub found_first : (s : Segment) → IsFoundSegment sum size log least s → s.slot ≡ 0
  found_first s found =
      let there = found_there sum size log least s found in
      let inside : s.slot < size = omega (arith, short, there) in
      sym (mod-eq_of_lt inside) ∙ found.slot

  -- and its header is there
  pub header_first : (s : Segment) → IsFoundSegment sum size log least s → IsHeader sum (take 20 log) (pos s.place) s.mark
  header_first s found = subst (λ (at : ℕ). IsHeader sum (part log at 20) (pos s.place) s.mark) (found_first s found) found.header

  -- nothing is found where no header is there
  pub none_found : ((place : ℕ) (mark : ℤ) → least ≤ place → IsHeader sum (take 20 log) (pos place) mark → ⊥) → IsOrdering sum size log least []
  none_found none = none_ordered sum size log least (λ s found. none s.place s.mark found.not_below (header_first s found))

  -- the segment whose header is there is the one that is found
  module _ (segment : Segment) (slot : segment.slot ≡ 0) (above : least ≤ segment.place) (header : IsHeader sum (take 20 log) (pos segment.place) segment.mark) where
    pub is_found : IsFoundSegment sum size log least segment
    is_found = record {
      slot = ap (λ n. n % size) slot ∙ zero_mod size;
      header = subst (λ (at : ℕ). IsHeader sum (part log at 20) (pos segment.place) segment.mark) (sym slot) header;
      not_below = above;
    }

    pub only_found : (s : Segment) → IsFoundSegment sum size log least s → segment ≡ s
    only_found s found =
        let same = one_header sum (take 20 log) (pos segment.place) segment.mark (pos s.place) s.mark header (header_first s found) in
        let slots : segment.slot ≡ s.slot = slot ∙ sym (found_first s found) in
        let places : segment.place ≡ s.place = pos_injective segment.place s.place same.0 in
        λ i. record { place = places i; slot = slots i; mark = same.1 i }

    pub one_found : (IsMisplaced size segment → ⊥) → IsOrdering sum size log least (segment ∷ [])
    one_found placed = record {
      ascending = refl;
      found = λ s. (λ there. subst (IsFoundSegment sum size log least) (only_in segment s there) is_found, λ found. in_one segment s (only_found s found));
      placed = λ s there. subst (λ (x : Segment). IsMisplaced size x → ⊥) (only_in segment s there) placed;
    }
