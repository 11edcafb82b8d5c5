-- What is behind an index of a list, and an element that is looked for there.
use Rattle.std.proofs.Common.{◌≡◌, ◌∙◌, ◌+◌, ◌<◌, ℕ, List, ◌∷◌, length, drop, get_or, sym, ap, subst, ⊎_elim, add-one}
use Rattle.std.specs.List.{Contains}
use Rattle.std.proofs.Math.Seq.{drop-cons}
use Rattle.sled_store.proofs.Histories.Ascending.{in_cases}

-- the element at an index, and those behind it
pub behind : {X : Type 0} (xs : List X) (i : ℕ) (d : X) → i < length xs → drop i xs ≡ get_or xs i d ∷ drop (i + 1) xs
behind xs i d lt = drop-cons xs i d lt ∙ ap (λ k. get_or xs i d ∷ drop k xs) (sym (add-one i))

-- one that is looked for and isn't the one at an index is behind it
pub left_behind : {X : Type 0} (xs : List X) (i : ℕ) (d y : X) → i < length xs → (get_or xs i d ≡ y → ⊥) → Contains (drop i xs) y → Contains (drop (i + 1) xs) y
left_behind xs i d y lt other there =
    ⊎_elim (λ is. absurd (other is)) (λ rest. rest) (in_cases (get_or xs i d) y (drop (i + 1) xs) (subst (λ l. Contains l y) (behind xs i d lt) there))
