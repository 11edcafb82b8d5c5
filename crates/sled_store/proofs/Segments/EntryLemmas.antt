-- Entries, and the slots and segments in which they lie: which are there, and what one more adds.
use Rattle.std.proofs.Common.{◌≡◌, ◌==◌, ◌||◌, ◌∙◌, ◌+◌, inl, inr, ℕ, Bool, true, false, if◌then◌else◌, List, [], ◌∷◌, ◌++◌, Option, Some, None, refl, ap, arith}
use Rattle.std.specs.List.{Contains, list_any}
use Rattle.std.proofs.lemmas.Bool.Decides.{eqb_tells}
use Rattle.std.proofs.lemmas.List.Elements.{Contains-append_left, Contains-append_right, Contains-push}
use Rattle.std.proofs.lemmas.List.Sums.{sum_by-append, sum_by-cons}
use Rattle.sled_codec.specs.Snapshots.{Entry}
use Rattle.sled_store.specs.Begin.{slot_of, segment_number_of, sizes_in}
use Rattle.sled_store.specs.SlotTables.{number_in}
use Rattle.sled_store.proofs.Segments.Elements.{in_cases}

-- a number is itself
pub same_number : (n : ℕ) → (n == n) ≡ true
same_number n = elim (eqb_tells n n) [ inl same_n ↦ same_n.0 | inr other_n ↦ absurd (other_n.1 refl) ]

-- the first of two, or the other where there is none
abbrev pub or_else : Option ℕ → Option ℕ → Option ℕ
or_else (Some n) o = Some n
or_else None o = o

module _ (size : ℕ) where
  -- Which entries lie in a slot, and which are of a segment.

  -- the number that is found of a slot is that of an entry in it
  pub first_in : (k : ℕ) (es : List Entry) (n : ℕ) → number_in size k es ≡ Some n → (e : Entry) × Contains es e × (slot_of size e ≡ k) × (segment_number_of size e ≡ n)
  first_in k [] n is = absurd (let never : ⊥ = cc in never)
  first_in k (e ∷ es) n is = by (first_in k es n) (slot_of size e == k) refl is
    where
      by : (number_in size k es ≡ Some n → (d : Entry) × Contains es d × (slot_of size d ≡ k) × (segment_number_of size d ≡ n)) → (b : Bool) → (slot_of size e == k) ≡ b
          → (if b then Some (segment_number_of size e) else number_in size k es) ≡ Some n → (d : Entry) × Contains (e ∷ es) d × (slot_of size d ≡ k) × (segment_number_of size d ≡ n)
      by others true test found = (e, Contains-append_left (e ∷ []) es e (Contains-push [] e), elim (eqb_tells (slot_of size e) k) [ inl same_k ↦ same_k.1 | inr other_k ↦ absurd (let p = other_k.0 in cc) ], let same : segment_number_of size e ≡ n = cc in same)
      by others false test found =
          let rest = others found in
          (rest.0, Contains-append_right (e ∷ []) es rest.0 rest.1, rest.2, rest.3)

  -- where no number is found, no entry lies in the slot
  pub none_in : (k : ℕ) (es : List Entry) → number_in size k es ≡ None → (d : Entry) → Contains es d → slot_of size d ≡ k → ⊥
  none_in k [] is d has at = let lt = has.1 in omega arith
  none_in k (e ∷ es) is d has at = by (none_in k es) (slot_of size e == k) refl is
    where
      by : (number_in size k es ≡ None → (c : Entry) → Contains es c → slot_of size c ≡ k → ⊥) → (b : Bool) → (slot_of size e == k) ≡ b → (if b then Some (segment_number_of size e) else number_in size k es) ≡ None → ⊥
      by others true test none = cc
      by others false test none = elim (in_cases e d es has) [
        | inl same ↦ elim (eqb_tells (slot_of size e) k) [ inl same_k ↦ (let p = same_k.0 in cc) | inr other_k ↦ other_k.1 (ap (slot_of size) same ∙ at) ]
        | inr rest ↦ others none d rest at
      ]

  -- an entry that is of a segment, where there is one
  pub of_segment : (n : ℕ) (es : List Entry) → list_any (λ e. segment_number_of size e == n) es ≡ true → (e : Entry) × Contains es e × (segment_number_of size e ≡ n)
  of_segment n [] is = absurd (let never : ⊥ = cc in never)
  of_segment n (e ∷ es) is = by (of_segment n es) (segment_number_of size e == n) refl is
    where
      by : (list_any (λ d. segment_number_of size d == n) es ≡ true → (d : Entry) × Contains es d × (segment_number_of size d ≡ n)) → (b : Bool) → (segment_number_of size e == n) ≡ b
          → (b || list_any (λ d. segment_number_of size d == n) es) ≡ true → (d : Entry) × Contains (e ∷ es) d × (segment_number_of size d ≡ n)
      by others true test found = (e, Contains-append_left (e ∷ []) es e (Contains-push [] e), elim (eqb_tells (segment_number_of size e) n) [ inl same_k ↦ same_k.1 | inr other_k ↦ absurd (let p = other_k.0 in cc) ])
      by others false test found =
          let rest = others found in
          (rest.0, Contains-append_right (e ∷ []) es rest.0 rest.1, rest.2)

  -- where none is found, no entry is of the segment
  pub none_of : (n : ℕ) (es : List Entry) → list_any (λ e. segment_number_of size e == n) es ≡ false → (d : Entry) → Contains es d → segment_number_of size d ≡ n → ⊥
  none_of n [] is d has at = let lt = has.1 in omega arith
  none_of n (e ∷ es) is d has at = by (none_of n es) (segment_number_of size e == n) refl is
    where
      by : (list_any (λ c. segment_number_of size c == n) es ≡ false → (c : Entry) → Contains es c → segment_number_of size c ≡ n → ⊥) → (b : Bool) → (segment_number_of size e == n) ≡ b → (b || list_any (λ c. segment_number_of size c == n) es) ≡ false → ⊥
      by others true test none = cc
      by others false test none = elim (in_cases e d es has) [
        | inl same ↦ elim (eqb_tells (segment_number_of size e) n) [ inl same_k ↦ (let p = same_k.0 in cc) | inr other_k ↦ other_k.1 (ap (segment_number_of size) same ∙ at) ]
        | inr rest ↦ others none d rest at
      ]

  -- What one more entry adds.

  -- what an entry adds to the sum of a slot
  pub sizes_push : (k : ℕ) (es : List Entry) (x : Entry) → sizes_in size k (es ++ x ∷ []) ≡ sizes_in size k es + (if slot_of size x == k then x.2 else 0)
  sizes_push k es x =
      let one : sizes_in size k (x ∷ []) ≡ (if slot_of size x == k then x.2 else 0) = let e = sum_by-cons (λ (e : Entry). if slot_of size e == k then e.2 else 0) x [] in omega (arith, e) in
      sum_by-append (λ (e : Entry). if slot_of size e == k then e.2 else 0) es (x ∷ []) ∙ ap (λ n. sizes_in size k es + n) one

  -- a slot with no entries sums up to nothing
  pub no_sizes : (k : ℕ) (es : List Entry) → number_in size k es ≡ None → sizes_in size k es ≡ 0
  no_sizes k [] is = refl
  no_sizes k (e ∷ es) is = sum_by-cons (λ (d : Entry). if slot_of size d == k then d.2 else 0) e es ∙ by (no_sizes k es) (slot_of size e == k) is
    where
      by : (number_in size k es ≡ None → sizes_in size k es ≡ 0) → (b : Bool) → (if b then Some (segment_number_of size e) else number_in size k es) ≡ None → (if b then e.2 else 0) + sizes_in size k es ≡ 0
      by others true none = absurd (let never : ⊥ = cc in never)
      by others false none = let zero = others none in omega arith

  -- what an entry adds to the numbers of slots
  pub number_push : (k : ℕ) (es : List Entry) (x : Entry) → number_in size k (es ++ x ∷ []) ≡ or_else (number_in size k es) (if slot_of size x == k then Some (segment_number_of size x) else None)
  number_push k [] x = refl
  number_push k (e ∷ es) x = by (number_push k es x) (slot_of size e == k)
    where
      by : number_in size k (es ++ x ∷ []) ≡ or_else (number_in size k es) (if slot_of size x == k then Some (segment_number_of size x) else None) → (b : Bool)
          → (if b then Some (segment_number_of size e) else number_in size k (es ++ x ∷ [])) ≡ or_else (if b then Some (segment_number_of size e) else number_in size k es) (if slot_of size x == k then Some (segment_number_of size x) else None)
      by others true = refl
      by others false = others
