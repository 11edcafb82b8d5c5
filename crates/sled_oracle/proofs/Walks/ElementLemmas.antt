-- A fact holds of no element of a list, tried one by one.
use Rattle.std.proofs.Common.{◌≡◌, ◌<◌, ◌+◌, ◌∙◌, ℕ, List, length, get_or, sym, subst, below_more}
use Rattle.std.proofs.lemmas.List.{get_or_default}

module _ {X : Type 0} (xs : List X) (P : X → Type 0) where
  -- it holds of none below an index
  abbrev pub NoneBelow : ℕ → Type 0
  NoneBelow n = (k : ℕ) → k < n → (x : X) → get_or xs k x ≡ x → P x → ⊥

  pub none_more : (i : ℕ) (here : X) → i < length xs → here ≡ get_or xs i here → NoneBelow i → (P here → ⊥) → NoneBelow (i + 1)
  none_more i here there is before none = below_more (λ k. (x : X) → get_or xs k x ≡ x → P x → ⊥) i before (λ x same p. none (subst P (sym same ∙ get_or_default xs i x here there ∙ sym is) p))
