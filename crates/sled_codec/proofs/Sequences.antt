-- Values one behind another: what a turn of a loop over them adds, and what shows that there is no further one.
use Rattle.std.proofs.Common.{◌≡◌, ◌∙◌, sym, ap, ℕ, ◌+◌, ◌<◌, ◌≤◌, List, [], ◌∷◌, ◌++◌, length, get_or, take, map, arith, append_assoc, length-append}
use Rattle.std.specs.List.{All, flat_map}
use Rattle.std.proofs.lemmas.List.{take_more, take_all, get_or-map, length-map, append-nil}
use Rattle.std.proofs.lemmas.List.Elements.{All-more}
use Rattle.std.proofs.lemmas.List.Folds.{length-flat_map-take}
use Rattle.std.proofs.lemmas.Grind.{flat_map-append}
use Rattle.sled_codec.specs.Spelling.{SpellsEach}
use Rattle.sled_codec.specs.EachLaws.{NoneEmpty, spells_more, same_tails}
use Rattle.sled_codec.specs.PairLaws.{NoFront}
use Rattle.sled_codec.proofs.HeaderFronts.{Takes}

-- The loop has come to the value x, the one at index i.
module _ {X V : Type 0} (meaning : X → V) (short : V → List ℕ) (xs : List X) (i : ℕ) (x : X) (within : i < length xs) (is : x ≡ get_or xs i x) where
  mapped : get_or (map meaning xs) i (meaning x) ≡ meaning x
  mapped = get_or-map meaning xs i x (meaning x) within ∙ ap meaning (sym is)

  inside : i < length (map meaning xs)
  inside = omega (arith, within, length-map xs meaning)

  -- its bytes stand behind those of the values before it
  pub one_more : flat_map short (take (i + 1) (map meaning xs)) ≡ flat_map short (take i (map meaning xs)) ++ short (meaning x)
  one_more =
      ap (flat_map short) (take_more (map meaning xs) i (meaning x) inside)
      ∙ flat_map-append short (take i (map meaning xs)) (get_or (map meaning xs) i (meaning x) ∷ [])
      ∙ ap (λ (l : List ℕ). flat_map short (take i (map meaning xs)) ++ l) (append-nil _)
      ∙ ap (λ v. flat_map short (take i (map meaning xs)) ++ short v) mapped

  pub longer : length (flat_map short (take (i + 1) (map meaning xs))) ≡ length (flat_map short (take i (map meaning xs))) + length (short (meaning x))
  longer = ap length one_more ∙ length-append (flat_map short (take i (map meaning xs))) (short (meaning x))

  -- and within those of all
  pub no_longer : length (flat_map short (take i (map meaning xs))) + length (short (meaning x)) ≤ length (flat_map short (map meaning xs))
  no_longer = rw (← mapped) (length-flat_map-take short (map meaning xs) i (meaning x) inside)

  -- what holds of each holds of it
  pub holds_here : (P : V → Type 0) → All P (map meaning xs) → P (meaning x)
  holds_here P all = rw (← mapped) (all i (meaning x) inside)

  -- and so with all up to it
  pub fit_more : (P : V → Type 0) → All P (take i (map meaning xs)) → P (meaning x) → All P (take (i + 1) (map meaning xs))
  fit_more P before here = All-more P (map meaning xs) i (meaning x) inside before (rw mapped here)

-- At the end of the loop these are all the values.
pub at_end : {X V : Type 0} (meaning : X → V) (xs : List X) (i : ℕ) → length xs ≤ i → take i (map meaning xs) ≡ map meaning xs
at_end meaning xs i past = take_all i (map meaning xs) (omega (arith, past, length-map xs meaning))

-- a value that is taken takes a byte at least, where none is spelled by no bytes
pub shorter : {V : Type 0} (Spells : List ℕ → V → Type 0) → NoneEmpty Spells → (left rest : List ℕ) (v : V) → Takes Spells left v rest → length rest < length left
shorter Spells some left rest v ([], spelled, taken) = absurd (some v spelled)
shorter Spells some left rest v (x ∷ f, spelled, taken) = omega (arith, ap length taken, length-append f rest)

-- Values were taken off a text, and no further one stands at the front of what is left.
module _ {V : Type 0} (Spells : List ℕ → V → Type 0) (no_front : NoFront Spells) where
  -- so no longer list stands at the front of the text
  pub no_more : (front left : List ℕ) (vs : List V) → SpellsEach Spells front vs → ((f r : List ℕ) (v : V) → left ≡ f ++ r → Spells f v → ⊥) → (a x : List ℕ) (ws : List V) → length vs < length ws → SpellsEach Spells a ws → front ++ left ≡ a ++ x → ⊥
  no_more front left [] p none a x [] long q is = absurd (omega arith)
  no_more front left (v ∷ vs) p none a x [] long q is = absurd (omega arith)
  no_more front left [] p none a x (w ∷ ws) long q is =
      none q.first (q.second ++ x) w (ap (λ (l : List ℕ). l ++ left) (sym p) ∙ is ∙ ap (λ (l : List ℕ). l ++ x) q.is ∙ append_assoc q.first q.second x) q.front
  no_more front left (v ∷ vs) p none a x (w ∷ ws) long q is =
      no_more p.second left vs p.back none q.second x ws (omega arith) q.back (same_tails Spells no_front front a left x v w vs ws p q is)

  -- and where something is left, the whole text is no list
  pub no_more_all : (front left : List ℕ) (vs : List V) → 0 < length left → SpellsEach Spells front vs → ((f r : List ℕ) (v : V) → left ≡ f ++ r → Spells f v → ⊥) → (ws : List V) (a : List ℕ) → SpellsEach Spells a ws → front ++ left ≡ a → ⊥
  no_more_all front left vs some p none [] a q is = absurd (omega (arith, ap length is, ap length q, length-append front left))
  no_more_all front left [] some p none (w ∷ ws) a q is = none q.first q.second w (ap (λ (l : List ℕ). l ++ left) (sym p) ∙ is ∙ q.is) q.front
  no_more_all front left (v ∷ vs) some p none (w ∷ ws) a q is =
      let tails : p.second ++ left ≡ q.second ++ [] = same_tails Spells no_front front a left [] v w vs ws p q (is ∙ sym (append-nil a)) in
      no_more_all p.second left vs some p.back none ws q.second q.back (tails ∙ append-nil q.second)

  -- a value that was taken behind others
  pub takes_more : (text front left rest : List ℕ) (vs : List V) (v : V) → SpellsEach Spells front vs → text ≡ front ++ left → Takes Spells left v rest → (longer : List ℕ) × SpellsEach Spells longer (vs ++ v ∷ []) × (text ≡ longer ++ rest)
  takes_more text front left rest vs v p is (f, spelled, taken) =
      (front ++ f, spells_more Spells front f vs v p spelled, is ∙ ap (λ (l : List ℕ). front ++ l) taken ∙ sym (append_assoc front f rest))
