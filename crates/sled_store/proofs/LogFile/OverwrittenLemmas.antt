-- Bytes that were overwritten are as long as they were or as the end of the write, read as written in its range, and as before outside it.
use Rattle.std.proofs.Common.{◌≡◌, ◌≤◌, ◌<◌, ◌+◌, ◌-◌, ℕ, max, List, [], ◌∷◌, ◌++◌, length, take, drop, replicate, get_or, refl, sym, ◌∙◌, ap, subst, arith, append_assoc, inl, inr, ◌⊎◌, length-append, length-take, length-drop}
use Rattle.std.proofs.lemmas.List.{length-replicate, get_or-drop, get_or-append_right, append-nil, drop_all, take-append-le, replicate-append-replicate}
use Rattle.std.proofs.lemmas.Bool.{cases_lt}
use Rattle.std.proofs.lemmas.Grind.{common_steps}
use Rattle.std.proofs.Math.Seq.{take-append_seam, drop-append_seam}
use Rattle.std.proofs.Math.Nat.{le_of_lt}
use Rattle.sled_store.specs.Device.{overwritten, end_of}

pub length-overwritten : (bytes : List ℕ) (at : ℕ) (xs : List ℕ) → length (overwritten bytes at xs) ≡ max (length bytes) (end_of at (length xs))
length-overwritten bytes at [] = omega arith
length-overwritten bytes at (x ∷ xs) = simp (length-append, length-take, length-drop, length-replicate) (omega arith)

-- what is followed by the rest of some bytes reads there as they do
pieces-above : (bytes front : List ℕ) (n i : ℕ) → length front ≡ n → n ≤ i → get_or (front ++ drop n bytes) i 0 ≡ get_or bytes i 0
pieces-above bytes front n i long past =
    let there : n + (i - n) ≡ i = omega arith in
    get_or-append_right front (drop n bytes) n i 0 long past ∙ get_or-drop n bytes (i - n) 0 ∙ ap (λ (k : ℕ). get_or bytes k 0) there

pieces-below : (bytes xs rest : List ℕ) (at i : ℕ) → at ≤ length bytes → i < at → get_or (take at bytes ++ xs ++ rest) i 0 ≡ get_or bytes i 0
pieces-below bytes xs rest at i fits low = grind (arith, common_steps)

pieces-inside : (old bytes : List ℕ) (from end i : ℕ) → from ≤ i → i < end → end ≤ length bytes → length old ≡ length bytes
    → get_or (take from old ++ take (end - from) (drop from bytes) ++ drop (from + length (take (end - from) (drop from bytes))) old) i 0 ≡ get_or bytes i 0
pieces-inside old bytes from end i low high fits long = grind (arith, common_steps)

-- outside what was written over
pub spliced-outside : (bytes xs : List ℕ) (at i : ℕ) → at + length xs ≤ length bytes → (i < at) ⊎ (at + length xs ≤ i) → get_or (take at bytes ++ xs ++ drop (at + length xs) bytes) i 0 ≡ get_or bytes i 0
spliced-outside bytes xs at i fits (inl low) = pieces-below bytes xs (drop (at + length xs) bytes) at i (omega arith) low
spliced-outside bytes xs at i fits (inr high) =
    let long : length (take at bytes ++ xs) ≡ at + length xs = simp (length-append, length-take) (omega arith) in
    pieces-above bytes (take at bytes ++ xs) (at + length xs) i long high

-- where a part was copied from other bytes, what was the same as they stays so
pub copied-same : (old bytes : List ℕ) (from end i : ℕ) → from < end → end ≤ length bytes → length old ≡ length bytes → get_or old i 0 ≡ get_or bytes i 0
    → get_or (take from old ++ take (end - from) (drop from bytes) ++ drop (from + length (take (end - from) (drop from bytes))) old) i 0 ≡ get_or bytes i 0
copied-same old bytes from end i some fits long same =
    let part : List ℕ = take (end - from) (drop from bytes) in
    let reach : from + length part ≡ end = simp (length-take, length-drop) (omega arith) in
    elim (cases_lt i from) [
      | inl low ↦ spliced-outside old part from i (omega arith) (inl low) ∙ same
      | inr high ↦ elim (cases_lt i end) [
        | inl in_part ↦ pieces-inside old bytes from end i high in_part fits long
        | inr past ↦ spliced-outside old part from i (omega arith) (inr (omega arith)) ∙ same
      ]
    ]

-- before the write
pub overwritten-below : (bytes : List ℕ) (at : ℕ) (xs : List ℕ) (i : ℕ) → i < at → i < length bytes → get_or (overwritten bytes at xs) i 0 ≡ get_or bytes i 0
overwritten-below bytes at [] i low in_bytes = refl
overwritten-below bytes at (x ∷ xs) i low in_bytes = grind (arith, common_steps)

-- past the write
pub overwritten-above : (bytes : List ℕ) (at : ℕ) (xs : List ℕ) (i : ℕ) → end_of at (length xs) ≤ i → get_or (overwritten bytes at xs) i 0 ≡ get_or bytes i 0
overwritten-above bytes at [] i high = refl
overwritten-above bytes at (x ∷ xs) i high =
    let front : List ℕ = take at (bytes ++ replicate (at - length bytes) 0) in
    let long : length (front ++ (x ∷ xs)) ≡ at + length (x ∷ xs) = simp (length-append, length-take, length-replicate) (omega arith) in
    pieces-above bytes (front ++ (x ∷ xs)) (at + length (x ∷ xs)) i long high

-- three pieces, read at a place within the second
pieces-part : (front xs rest : List ℕ) (at : ℕ) → length front ≡ at → take (length xs) (drop at (front ++ xs ++ rest)) ≡ xs
pieces-part front xs rest at long =
    subst (λ (n : ℕ). take (length xs) (drop n (front ++ xs ++ rest)) ≡ xs) long
    (ap (take (length xs)) (ap (drop (length front)) (append_assoc front xs rest) ∙ drop-append_seam front (xs ++ rest)) ∙ take-append_seam xs rest)

-- what was written is read back
pub overwritten-part : (bytes : List ℕ) (at : ℕ) (xs : List ℕ) → take (length xs) (drop at (overwritten bytes at xs)) ≡ xs
overwritten-part bytes at [] = refl
overwritten-part bytes at (x ∷ xs) =
    let front : List ℕ = take at (bytes ++ replicate (at - length bytes) 0) in
    let long : length front ≡ at = simp (length-append, length-take, length-replicate) (omega arith) in
    pieces-part front (x ∷ xs) (drop (at + length (x ∷ xs)) bytes) at long

-- a write at the very end appends
pub overwritten-end : (bytes xs : List ℕ) → overwritten bytes (length bytes) xs ≡ bytes ++ xs
overwritten-end bytes [] = sym (append-nil bytes)
overwritten-end bytes (x ∷ xs) =
    let past : length bytes ≤ length bytes + length (x ∷ xs) = omega arith in
    let front = take-append_seam bytes (replicate (length bytes - length bytes) 0) in
    let rest = drop_all (length bytes + length (x ∷ xs)) bytes past in
    ap (λ (f : List ℕ). f ++ (x ∷ xs) ++ drop (length bytes + length (x ∷ xs)) bytes) front
    ∙ ap (λ (r : List ℕ). bytes ++ (x ∷ xs) ++ r) rest
    ∙ append-nil (bytes ++ (x ∷ xs))

more_zeros : (bytes : List ℕ) (at near far : ℕ) → at ≤ length bytes + near → near ≤ far → take at (bytes ++ replicate far 0) ≡ take at (bytes ++ replicate near 0)
more_zeros bytes at near far fits le =
    let all : near + (far - near) ≡ far = omega arith in
    let long : at ≤ length (bytes ++ replicate near 0) = simp (length-append, length-replicate) fits in
    let zeros : replicate far 0 ≡ replicate near 0 ++ replicate (far - near) 0 = ap (λ (k : ℕ). replicate {A = ℕ} k 0) (sym all) ∙ sym (replicate-append-replicate near (far - near) 0) in
    rw (zeros, ← append_assoc) (take-append-le at (bytes ++ replicate near 0) (replicate (far - near) 0) long)

-- zeros further than an offset are not seen before it
grown-take : (bytes : List ℕ) (at n : ℕ) → take at (bytes ++ replicate (at + n - length bytes) 0) ≡ take at (bytes ++ replicate (at - length bytes) 0)
grown-take bytes at n = more_zeros bytes at (at - length bytes) (at + n - length bytes) (omega arith) (omega arith)

-- zeros up to an offset are not seen behind it
grown-drop : (bytes : List ℕ) (end : ℕ) → drop end (bytes ++ replicate (end - length bytes) 0) ≡ drop end bytes
grown-drop bytes end = elim (cases_lt (length bytes) end) [
  | inl short ↦
      let all : length (bytes ++ replicate (end - length bytes) 0) ≤ end = simp (length-append, length-replicate) (omega arith) in
      drop_all end (bytes ++ replicate (end - length bytes) 0) all ∙ sym (drop_all end bytes (le_of_lt short))
  | inr long ↦
      let none : end - length bytes ≡ 0 = omega arith in
      ap (λ (k : ℕ). drop end (bytes ++ replicate k 0)) none ∙ ap (drop end) (append-nil bytes)
]

-- A file that is grown with zeros to the end of a write, and then written over, is overwritten.
pub overwritten-grown : (bytes : List ℕ) (at : ℕ) (xs : List ℕ) → 0 < length xs
    → take at (bytes ++ replicate (at + length xs - length bytes) 0) ++ xs ++ drop (at + length xs) (bytes ++ replicate (at + length xs - length bytes) 0) ≡ overwritten bytes at xs
overwritten-grown bytes at [] some = absurd (omega arith)
overwritten-grown bytes at (x ∷ xs) some =
    let n = length (x ∷ xs) in
    ap (λ (f : List ℕ). f ++ (x ∷ xs) ++ drop (at + n) (bytes ++ replicate (at + n - length bytes) 0)) (grown-take bytes at n)
    ∙ ap (λ (r : List ℕ). take at (bytes ++ replicate (at - length bytes) 0) ++ (x ∷ xs) ++ r) (grown-drop bytes (at + n))
