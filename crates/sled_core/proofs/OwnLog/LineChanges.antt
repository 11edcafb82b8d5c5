-- All slots of a log stay own where a call changes its segments alone: one of them, in which no buffer is written by that; or a further one is begun.
use Rattle.std.proofs.Common.{◌≡◌, ◌∙◌, ℕ, zero, suc, List, [], ◌∷◌, ◌++◌, set, Some, sym, ap, refl, subst, arith, inl, inr}
use Rattle.std.specs.List.{All, Contains, slice_get}
use Rattle.std.proofs.lemmas.List.Elements.{All-cons, All-head, All-tail}
use Rattle.sled_store.proofs.Segments.Elements.{in_cases, in_first, in_nothing, in_rest}
use Rattle.sled_core.specs.Begun.{SegmentView}
use Rattle.sled_core.specs.declared.iobuf.Sealed.{Sealed}
use Rattle.sled_core.specs.declared.iobuf.SegmentPosition.{SegmentPosition}
use Rattle.sled_core.specs.inside.OwnLog.{IsOwnFile, IsOwnSegment}
use Rattle.sled_core.specs.Waiting.{at_last}

-- an element of other segments, in the same place
abbrev pub StillThere : List SegmentView → SegmentView → Type 0
StillThere line u = (w : SegmentView) × Contains line w × (w.parts.site ≡ u.parts.site)

module _ (sum : List ℕ → ℕ) (size : ℕ) (Header : ℕ → List ℕ → Type 0) (Own : ℕ → ℕ → List ℕ → Type 0) (log : List ℕ) where
  abbrev pub OwnIn : SegmentView → Type 0
  OwnIn v = IsOwnSegment sum size Header Own log v.parts.site v.parts.written_len v.parts.sealed

  -- Segments in the places of all of them, and maybe in further ones.
  own_among : (line more : List SegmentView) → ((u : SegmentView) → Contains line u → StillThere more u) → All OwnIn more → IsOwnFile sum size Header Own log line → IsOwnFile sum size Header Own log more
  own_among line more still all own = record {
    segments = all;
    others = λ slot apart. own.others slot (λ u there at. (
        let found = still u there in
        apart found.0 found.1 (ap (λ (x : SegmentPosition). x.slot) found.2 ∙ at)));
  }

  -- The last one changes.
  module _ (f : SegmentView → SegmentView) (stays : (v : SegmentView) → (f v).parts.site ≡ v.parts.site) (keeps : (v : SegmentView) → OwnIn v → OwnIn (f v)) where
    all_last : (line : List SegmentView) → All OwnIn line → All OwnIn (at_last f line)
    all_last [] all = all
    all_last (v ∷ []) all = All-cons OwnIn (f v) [] (keeps v (All-head OwnIn v [] all)) (λ j d lt. absurd (omega (arith, lt)))
    all_last (v ∷ w ∷ ws) all = All-cons OwnIn v (at_last f (w ∷ ws)) (All-head OwnIn v (w ∷ ws) all) (all_last (w ∷ ws) (All-tail OwnIn v (w ∷ ws) all))

    still_last : (line : List SegmentView) (u : SegmentView) → Contains line u → StillThere (at_last f line) u
    still_last [] u there = absurd (in_nothing u there)
    still_last (v ∷ []) u there = elim (in_cases v u [] there) [
      | inl is ↦ (f v, in_first (f v) [], stays v ∙ ap (λ (x : SegmentView). x.parts.site) is)
      | inr none ↦ absurd (in_nothing u none)
    ]
    still_last (v ∷ w ∷ ws) u there = elim (in_cases v u (w ∷ ws) there) [
      | inl is ↦ (v, in_first v (at_last f (w ∷ ws)), ap (λ (x : SegmentView). x.parts.site) is)
      | inr rest ↦ (let found = still_last (w ∷ ws) u rest in (found.0, in_rest v found.0 (at_last f (w ∷ ws)) found.1, found.2))
    ]

    pub own_at_last : (line : List SegmentView) → IsOwnFile sum size Header Own log line → IsOwnFile sum size Header Own log (at_last f line)
    own_at_last line own = own_among line (at_last f line) (still_last line) (all_last line own.segments) own

  -- The n-th one changes.
  module _ (v w : SegmentView) (stays : w.parts.site ≡ v.parts.site) (keeps : OwnIn v → OwnIn w) where
    all_set : (line : List SegmentView) (n : ℕ) → slice_get line n ≡ Some v → All OwnIn line → All OwnIn (set line n w)
    all_set [] n at all = all
    all_set (x ∷ xs) zero at all = let same : x ≡ v = cc in All-cons OwnIn w xs (keeps (subst OwnIn same (All-head OwnIn x xs all))) (All-tail OwnIn x xs all)
    all_set (x ∷ xs) (suc n) at all = All-cons OwnIn x (set xs n w) (All-head OwnIn x xs all) (all_set xs n at (All-tail OwnIn x xs all))

    still_set : (line : List SegmentView) (n : ℕ) → slice_get line n ≡ Some v → (u : SegmentView) → Contains line u → StillThere (set line n w) u
    still_set [] n at u there = absurd (in_nothing u there)
    still_set (x ∷ xs) zero at u there = elim (in_cases x u xs there) [
      | inl is ↦ (let same : x ≡ v = cc in (w, in_first w xs, stays ∙ ap (λ (y : SegmentView). y.parts.site) (sym same ∙ is)))
      | inr rest ↦ (u, in_rest w u xs rest, refl)
    ]
    still_set (x ∷ xs) (suc n) at u there = elim (in_cases x u xs there) [
      | inl is ↦ (x, in_first x (set xs n w), ap (λ (y : SegmentView). y.parts.site) is)
      | inr rest ↦ (let found = still_set xs n at u rest in (found.0, in_rest x found.0 (set xs n w) found.1, found.2))
    ]

    pub own_set : (line : List SegmentView) (n : ℕ) → slice_get line n ≡ Some v → IsOwnFile sum size Header Own log line → IsOwnFile sum size Header Own log (set line n w)
    own_set line n at own = own_among line (set line n w) (still_set line n at) (all_set line n at own.segments) own

  -- A further one is begun behind them, of which nothing is sealed.
  module _ (w : SegmentView) (fresh : w.parts.written_len ≡ 0) (unsealed : w.parts.sealed ≡ []) where
    own_fresh : OwnIn w
    own_fresh =
        subst (λ n. IsOwnSegment sum size Header Own log w.parts.site n w.parts.sealed) (sym fresh)
        (subst (λ (bs : List Sealed). IsOwnSegment sum size Header Own log w.parts.site 0 bs) (sym unsealed) (record { front = λ some. absurd (omega (arith, some)); behind = tt }))

    all_more : (line : List SegmentView) → All OwnIn line → All OwnIn (line ++ w ∷ [])
    all_more [] all = All-cons OwnIn w [] own_fresh all
    all_more (x ∷ xs) all = All-cons OwnIn x (xs ++ w ∷ []) (All-head OwnIn x xs all) (all_more xs (All-tail OwnIn x xs all))

    still_more : (line : List SegmentView) (u : SegmentView) → Contains line u → StillThere (line ++ w ∷ []) u
    still_more [] u there = absurd (in_nothing u there)
    still_more (x ∷ xs) u there = elim (in_cases x u xs there) [
      | inl is ↦ (x, in_first x (xs ++ w ∷ []), ap (λ (y : SegmentView). y.parts.site) is)
      | inr rest ↦ (let found = still_more xs u rest in (found.0, in_rest x found.0 (xs ++ w ∷ []) found.1, found.2))
    ]

    pub own_begun : (line : List SegmentView) → IsOwnFile sum size Header Own log line → IsOwnFile sum size Header Own log (line ++ w ∷ [])
    own_begun line own = own_among line (line ++ w ∷ []) (still_more line) (all_more line own.segments) own
