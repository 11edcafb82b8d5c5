-- Parts of a text: how they lie in it, and what becomes of them when bytes are put behind it or written over it.
use Rattle.std.proofs.Common.{◌≡◌, ◌≤◌, ◌<◌, ◌+◌, ◌-◌, ℕ, List, [], ◌∷◌, length, take, drop, sym, ◌∙◌, ap, arith, refl, Some, get_or, zero, suc, subst}
use Rattle.std.specs.List.{slice_get}
use Rattle.std.proofs.lemmas.List.{drop-take}

-- the middle of a text, cut from either end first
pub mid_is : (xs : List ℕ) (n len : ℕ) → n ≤ len → take (len - n) (drop n xs) ≡ drop n (take len xs)
mid_is xs n len le =
    let e : n + (len - n) ≡ len = omega arith in
    sym (drop-take n (len - n) xs) ∙ ap (λ k. drop n (take k xs)) e

-- the element that is there
pub get_there : {X : Type 0} (xs : List X) (i : ℕ) (x d : X) → slice_get xs i ≡ Some x → get_or xs i d ≡ x
get_there [] zero x d is = cc
get_there [] (suc i) x d is = cc
get_there (y ∷ ys) zero x d is = cc
get_there (y ∷ ys) (suc i) x d is = get_there ys i x d is

-- an element that is there
pub there_is : {X : Type 0} (xs : List X) (i : ℕ) (x : X) → i < length xs → x ≡ get_or xs i x → slice_get xs i ≡ Some x
there_is [] i x lt is = absurd (omega arith)
there_is (y ∷ ys) zero x lt is = ap Some (sym is)
there_is (y ∷ ys) (suc i) x lt is = there_is ys i x (omega arith) is

-- a list of no length is empty
pub none_there : {X : Type 0} (xs : List X) → length xs ≡ 0 → xs ≡ []
none_there [] is = refl
none_there (x ∷ xs) is = absurd (omega arith)

-- one that isn't empty has a length
pub some_there : {X : Type 0} (xs : List X) → (length xs ≡ 0 → ⊥) → 0 < length xs
some_there [] is = absurd (is refl)
some_there (x ∷ xs) is = omega arith

-- what holds of four values holds of four that are equal to them
pub moved : {A B C D : Type 0} (P : A → B → C → D → Type 0) (a a' : A) (b b' : B) (c c' : C) (d d' : D) → a ≡ a' → b ≡ b' → c ≡ c' → d ≡ d' → P a b c d → P a' b' c' d'
moved P a a' b b' c c' d d' is_a is_b is_c is_d holds = subst (λ x. P x b' c' d') is_a (subst (λ x. P a x c' d') is_b (subst (λ x. P a b x d') is_c (subst (λ x. P a b c x) is_d holds)))
