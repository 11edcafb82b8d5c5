-- Ranges of a segment that are own, one behind another, are one that is; and a range stays own where its bytes stay, and what was own in it.
use Rattle.std.proofs.Common.{◌≡◌, ◌≤◌, ◌<◌, ◌+◌, ℕ, max, List, length, take, sym, subst, arith, inl, inr}
use Rattle.sled_codec.specs.Places.{part}
use Rattle.sled_store.specs.Readers.{ReadsTo, Reads, IsOwnRange}
use Rattle.sled_store.proofs.Own.ReaderLemmas.{SameFrom, reads_apart, reads_on, reads_same, read_same, no_lower}

module _ (sum : List ℕ → ℕ) (size : ℕ) where
  module _ (Header : ℕ → List ℕ → Type 0) (Own : ℕ → ℕ → List ℕ → Type 0) (number begin : ℕ) (text : List ℕ) where
    abbrev Range : ℕ → ℕ → Type 0
    Range from to = IsOwnRange sum size Header Own number begin text from to

    -- Where one ends within the segment the next one begins.
    pub ranges_joined : (mid to : ℕ) → mid < size → Range 0 mid → Range mid to → Range 0 to
    ranges_joined mid to below first second =
        let up : 20 ≤ mid = first.rises in
        let same : max 20 mid ≡ mid = omega (arith, up) in
        let end = second.rises in
        record {
          there = second.there;
          rises = omega (arith, up, end);
          headed = first.headed;
          comes = λ low. reads_on sum size number text 20 mid to (first.comes below) (subst (λ n. ReadsTo sum size number text n to) same (second.comes low));
          own = λ at len r fits. elim (reads_apart sum size number text 20 mid at len (first.comes below) r) [
            | inl inside ↦ first.own at len r inside
            | inr later ↦ second.own at len (subst (λ n. Reads sum size number text n at len) (sym same) later) fits
          ];
        }

  -- In another text, and by what is own then.
  pub range_stays : (Header Header' : ℕ → List ℕ → Type 0) (Own Own' : ℕ → ℕ → List ℕ → Type 0) (number begin : ℕ) (text other : List ℕ) (from to : ℕ)
      → SameFrom sum size number text other (max 20 from) to → (from ≡ 0 → take 20 other ≡ take 20 text) → to ≤ length other
      → (Header begin (take 20 text) → take 20 other ≡ take 20 text → Header' begin (take 20 text))
      → ((at len : ℕ) → max 20 from ≤ at → at + len ≤ to → Own number (begin + at) (part text at len) → Own' number (begin + at) (part text at len))
      → IsOwnRange sum size Header Own number begin text from to → IsOwnRange sum size Header' Own' number begin other from to
  range_stays Header Header' Own Own' number begin text other from to same head there header_stays own_stays range = record {
    there = there;
    rises = range.rises;
    headed = λ none. subst (Header' begin) (sym (head none)) (header_stays (range.headed none) (head none));
    comes = λ low. reads_same sum size number text other (max 20 from) to (max 20 from) to same there (omega arith) (omega arith) (range.comes low);
    own = λ at len r fits.
        let back : SameFrom sum size number other text (max 20 from) to = λ i n above below. sym (same i n above below) in
        let low = no_lower sum size number other (max 20 from) at r.comes in
        let was = read_same sum size number other text (max 20 from) to (max 20 from) at len back range.there (omega arith) fits r in
        subst (Own' number (begin + at)) (sym (same at len low fits)) (own_stays at len low fits (range.own at len was fits));
  }
