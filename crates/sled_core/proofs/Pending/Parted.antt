-- Places in two parts, of which those of the first one alone are below a place: that place comes or goes between them.
use Rattle.std.proofs.Common.{◌≡◌, ◌∙◌, ◌<◌, ◌≤◌, ◌-◌, ap, refl, arith, ℕ, List, ◌∷◌, ◌++◌, length, length-append, get_or, inl, inr}
use Rattle.std.specs.List.{All, insert, remove}
use Rattle.std.specs.List.Sorted.{IsPartitionedBy, IsPartitionPoint}
use Rattle.std.proofs.Math.ListN.{get_or-append}
use Rattle.std.proofs.Math.Seq.{get_or-append_right}
use Rattle.std.proofs.lemmas.Bool.{cases_lt, lt-ltb, ltb-true}
use Rattle.std.proofs.lemmas.List.Edits.{insert-append_right, remove-append_right}
use lib.Dec.{ltb}

module _ (xs ys : List ℕ) (place : ℕ) (low : All (λ p. p < place) xs) (high : All (λ p. place ≤ p) ys) where
  -- those at an index of the first part are below it, and the others aren't
  in_first : (i d : ℕ) → i < length xs → get_or (xs ++ ys) i d < place
  in_first i d lt = let same = get_or-append xs ys d i lt in let less = low i d lt in omega (arith, same, less)

  in_second : (i d : ℕ) → length xs ≤ i → i < length (xs ++ ys) → place ≤ get_or (xs ++ ys) i d
  in_second i d le lt =
      let same = get_or-append_right xs ys i d le in
      let more = high (i - length xs) d (omega (arith, le, lt, length-append xs ys)) in
      omega (arith, same, more)

  pub is_parted : IsPartitionedBy (λ p. ltb p place) (xs ++ ys)
  is_parted i j d le lt below = elim (cases_lt j (length xs)) [
    | inl inside ↦ lt-ltb (get_or (xs ++ ys) i d) place (in_first i d (omega (arith, le, inside)))
    | inr beyond ↦ absurd (let less = ltb-true (get_or (xs ++ ys) j d) place below in let more = in_second j d beyond lt in omega (arith, less, more))
  ]

  -- the point is where the first part ends
  pub point_is : (k : ℕ) → k ≤ length (xs ++ ys) → IsPartitionPoint (λ p. p < place) (λ p. place ≤ p) (xs ++ ys) k → k ≡ length xs
  point_is k within point = elim (cases_lt k (length xs)) [
    | inl less ↦ absurd (
        let is = in_first k 0 less in
        let isnt = point.1 k 0 (omega arith) (omega (arith, less, length-append xs ys)) in
        omega (arith, is, isnt))
    | inr le ↦ elim (cases_lt (length xs) k) [
      | inl more ↦ absurd (
          let is = in_second (length xs) 0 (omega arith) (omega (arith, more, within)) in
          let isnt = point.0 (length xs) 0 (omega arith) more in
          omega (arith, is, isnt))
      | inr same ↦ omega (arith, le, same)
    ]
  ]

-- There it is put in, or taken out.
pub put_in : (xs ys : List ℕ) (place : ℕ) → insert (xs ++ ys) (length xs) place ≡ xs ++ place ∷ ys
put_in xs ys place = insert-append_right xs ys (length xs) (length xs) place refl (omega arith) ∙ ap (λ n. xs ++ insert ys n place) (let none : length xs - length xs ≡ 0 = omega arith in none)

pub taken_out : (xs ys : List ℕ) (place : ℕ) → remove (xs ++ place ∷ ys) (length xs) ≡ xs ++ ys
taken_out xs ys place = remove-append_right xs (place ∷ ys) (length xs) (length xs) refl (omega arith) ∙ ap (λ n. xs ++ remove (place ∷ ys) n) (let none : length xs - length xs ≡ 0 = omega arith in none)
