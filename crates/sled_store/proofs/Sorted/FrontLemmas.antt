-- Behind items that were taken out at the front an item is put in or taken out as it is among those that are left.
use Rattle.std.proofs.Common.{◌≡◌, ◌∙◌, ℕ, zero, suc, ◌+◌, ◌≤◌, List, [], ◌∷◌, length, drop, refl, ap, arith}
use Rattle.std.specs.List.{insert, remove}

pub drop_insert : {X : Type 0} (n : ℕ) (xs : List X) (i : ℕ) (x : X) → n ≤ length xs → drop n (insert xs (n + i) x) ≡ insert (drop n xs) i x
drop_insert zero xs i x le = let is : 0 + i ≡ i = omega arith in ap (λ k. insert xs k x) is
drop_insert (suc n) [] i x le = absurd (omega arith)
drop_insert (suc n) (y ∷ xs) i x le =
    let is : suc n + i ≡ suc (n + i) = omega arith in
    ap (λ k. drop (suc n) (insert (y ∷ xs) k x)) is ∙ drop_insert n xs i x (omega arith)

pub drop_remove : {X : Type 0} (n : ℕ) (xs : List X) (i : ℕ) → n ≤ length xs → drop n (remove xs (n + i)) ≡ remove (drop n xs) i
drop_remove zero xs i le = let is : 0 + i ≡ i = omega arith in ap (λ k. remove xs k) is
drop_remove (suc n) [] i le = absurd (omega arith)
drop_remove (suc n) (y ∷ xs) i le =
    let is : suc n + i ≡ suc (n + i) = omega arith in
    ap (λ k. drop (suc n) (remove (y ∷ xs) k)) is ∙ drop_remove n xs i (omega arith)

pub drop_first : {X : Type 0} (n : ℕ) (xs : List X) → drop (n + 1) xs ≡ remove (drop n xs) 0
drop_first zero xs = refl
drop_first (suc n) [] = let is : suc n + 1 ≡ suc (n + 1) = omega arith in ap (λ k. drop k []) is
drop_first (suc n) (y ∷ xs) =
    let is : suc n + 1 ≡ suc (n + 1) = omega arith in
    ap (λ k. drop k (y ∷ xs)) is ∙ drop_first n xs
