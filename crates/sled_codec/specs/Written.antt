-- Bytes that are written over a buffer, and what a second write behind the first one makes of it.
use Rattle.std.specs.Prelude.{◌≡◌, ◌≤◌, ◌+◌, ℕ, List, ◌++◌, length, take, drop}
use Rattle.std.proofs.Common.{sym, ◌∙◌, ap, arith, append_assoc, length-append, length-take, length-drop}
use Rattle.std.proofs.lemmas.List.{take_at, drop_at, drop-drop}

-- the buffer with these bytes from an index on
abbrev pub written : List ℕ → ℕ → List ℕ → List ℕ
written buf at bytes = take at buf ++ bytes ++ drop (at + length bytes) buf

-- A first part xs that has room stands in the buffer.
module _ (buf : List ℕ) (at : ℕ) (xs : List ℕ) (room : at + length xs ≤ length buf) where
  front_long : length (take at buf ++ xs) ≡ at + length xs
  front_long = omega (arith, length-append (take at buf) xs, length-take at buf)

  -- up to its end
  pub take-written : take (at + length xs) (written buf at xs) ≡ take at buf ++ xs
  take-written = take_at (take at buf ++ xs) (drop (at + length xs) buf) (at + length xs) front_long

  -- from an index behind it on
  pub drop-written : (n k : ℕ) → n ≡ at + length xs + k → drop n (written buf at xs) ≡ drop n buf
  drop-written n k is =
      ap (λ m. drop m (written buf at xs)) is
      ∙ sym (drop-drop k (at + length xs) (written buf at xs))
      ∙ ap (drop k) (drop_at (take at buf ++ xs) (drop (at + length xs) buf) (at + length xs) front_long)
      ∙ drop-drop k (at + length xs) buf
      ∙ ap (λ m. drop m buf) (sym is)

  -- a second part is written behind it
  pub written_twice : (ys : List ℕ) (next : ℕ) → next ≡ at + length xs → written (written buf at xs) next ys ≡ written buf at (xs ++ ys)
  written_twice ys next is =
      let tail_at : next + length ys ≡ at + length xs + length ys = omega arith in
      let whole : at + length (xs ++ ys) ≡ at + length xs + length ys = omega (arith, length-append xs ys) in
      ap (λ m. take m (written buf at xs) ++ ys ++ drop (m + length ys) (written buf at xs)) is
      ∙ ap (λ (l : List ℕ). l ++ ys ++ drop (at + length xs + length ys) (written buf at xs)) take-written
      ∙ ap (λ (l : List ℕ). take at buf ++ xs ++ ys ++ l) (drop-written (at + length xs + length ys) (length ys) (omega arith))
      ∙ ap (λ (l : List ℕ). l ++ drop (at + length xs + length ys) buf) (append_assoc (take at buf) xs ys)
      ∙ ap (λ m. take at buf ++ (xs ++ ys) ++ drop m buf) (sym whole)

  -- the length stays
  pub length-written : length (written buf at xs) ≡ length buf
  length-written = omega (arith, length-append (take at buf ++ xs) (drop (at + length xs) buf), front_long, length-drop (at + length xs) buf)
