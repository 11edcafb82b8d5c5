-- The laws of two spellings, one behind the other, from those of the parts.
use Rattle.std.specs.Prelude.{◌≡◌, ℕ, List, [], ◌++◌, refl}
use Rattle.std.proofs.Common.{sym, ◌∙◌, ap, append_assoc}
use Rattle.sled_codec.specs.Spelling.{SpellsPair, SpellsBoth, SpellsTriple}
use Rattle.sled_codec.specs.SpellingLaws.{same_rests}

-- a spelling stands for one value
abbrev pub OneValue : {V : Type 0} → (List ℕ → V → Type 0) → Type 0
OneValue {V} Spells = (text : List ℕ) (v w : V) → Spells text v → Spells text w → v ≡ w

-- no spelling is a proper beginning of another
abbrev pub NoFront : {V : Type 0} → (List ℕ → V → Type 0) → Type 0
NoFront {V} Spells = (a b x y : List ℕ) (v w : V) → Spells a v → Spells b w → a ++ x ≡ b ++ y → a ≡ b

module _ {V W : Type 0} (A : List ℕ → V → Type 0) (B : List ℕ → W → Type 0) (no_front_a : NoFront A) where
  -- the first parts of two pairs at the front of one text are the same
  pub same_firsts : (a b x y : List ℕ) (v v' : V) (w w' : W) (p : SpellsPair A B a v w) (q : SpellsPair A B b v' w') → a ++ x ≡ b ++ y
      → p.first ++ (p.second ++ x) ≡ q.first ++ (q.second ++ y)
  same_firsts a b x y v v' w w' p q is =
      sym (append_assoc p.first p.second x) ∙ ap (λ (l : List ℕ). l ++ x) (sym p.is) ∙ is ∙ ap (λ (l : List ℕ). l ++ y) q.is ∙ append_assoc q.first q.second y

  pub first_of_pair : (a b x y : List ℕ) (v v' : V) (w w' : W) (p : SpellsPair A B a v w) (q : SpellsPair A B b v' w') → a ++ x ≡ b ++ y → p.first ≡ q.first
  first_of_pair a b x y v v' w w' p q is = no_front_a p.first q.first _ _ v v' p.front q.front (same_firsts a b x y v v' w w' p q is)

  pub no_front-pair : NoFront B → (a b x y : List ℕ) (v v' : V) (w w' : W) → SpellsPair A B a v w → SpellsPair A B b v' w' → a ++ x ≡ b ++ y → a ≡ b
  no_front-pair no_front_b a b x y v v' w w' p q is =
      let firsts = first_of_pair a b x y v v' w w' p q is in
      let seconds : p.second ≡ q.second =
      no_front_b p.second q.second x y w w' p.back q.back (same_rests p.first q.first _ _ firsts (same_firsts a b x y v v' w w' p q is)) in
      p.is ∙ ap (λ (l : List ℕ). l ++ p.second) firsts ∙ ap (λ (l : List ℕ). q.first ++ l) seconds ∙ sym q.is

  pub one_first-pair : OneValue A → (text : List ℕ) (v v' : V) (w w' : W) → SpellsPair A B text v w → SpellsPair A B text v' w' → v ≡ v'
  one_first-pair one_a text v v' w w' p q =
      let firsts = first_of_pair text text [] [] v v' w w' p q refl in
      one_a q.first v v' (rw firsts at p.front) q.front

  pub one_second-pair : OneValue B → (text : List ℕ) (v v' : V) (w w' : W) → SpellsPair A B text v w → SpellsPair A B text v' w' → w ≡ w'
  one_second-pair one_b text v v' w w' p q =
      let firsts = first_of_pair text text [] [] v v' w w' p q refl in
      let seconds : p.second ≡ q.second = same_rests p.first q.first p.second q.second firsts (sym p.is ∙ q.is) in
      one_b q.second w w' (rw seconds at p.back) q.back

  -- the same of both parts together
  pub one_value-both : OneValue A → OneValue B → (text : List ℕ) (v w : V × W) → SpellsPair A B text v.0 v.1 → SpellsPair A B text w.0 w.1 → v ≡ w
  one_value-both one_a one_b text v w p q =
      let firsts = one_first-pair one_a text v.0 w.0 v.1 w.1 p q in
      let seconds = one_second-pair one_b text v.0 w.0 v.1 w.1 p q in
      λ i. (firsts i, seconds i)

  pub no_front-both : NoFront B → NoFront (SpellsBoth A B)
  no_front-both no_front_b a b x y v w = no_front-pair no_front_b a b x y v.0 w.0 v.1 w.1

-- Three spellings.
module _ {V W X : Type 0} (A : List ℕ → V → Type 0) (B : List ℕ → W → Type 0) (C : List ℕ → X → Type 0) (no_front_a : NoFront A) (no_front_b : NoFront B) where
  pub no_front-triple : NoFront C → (a b x y : List ℕ) (v w : V × W × X) → SpellsTriple A B C a v.0 v.1 v.2 → SpellsTriple A B C b w.0 w.1 w.2
      → a ++ x ≡ b ++ y → a ≡ b
  no_front-triple no_front_c a b x y v w =
      no_front-pair (SpellsBoth A B) C (no_front-both A B no_front_a no_front_b) no_front_c a b x y (v.0, v.1) (w.0, w.1) v.2 w.2

  pub one_value-triple : OneValue A → OneValue B → OneValue C → (text : List ℕ) (v w : V × W × X) → SpellsTriple A B C text v.0 v.1 v.2
      → SpellsTriple A B C text w.0 w.1 w.2 → v ≡ w
  one_value-triple one_a one_b one_c text v w p q =
      let both = no_front-both A B no_front_a no_front_b in
      let firsts = one_first-pair (SpellsBoth A B) C both (one_value-both A B no_front_a one_a one_b) text (v.0, v.1) (w.0, w.1) v.2 w.2 p q in
      let thirds = one_second-pair (SpellsBoth A B) C both one_c text (v.0, v.1) (w.0, w.1) v.2 w.2 p q in
      λ i. ((firsts i).0, (firsts i).1, thirds i)
