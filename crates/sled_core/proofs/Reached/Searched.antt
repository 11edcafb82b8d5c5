-- The batches that a log has noted lie by place, so that a search finds the one by which the stable place goes, and the one up to which has to be written.
use Rattle.std.proofs.Common.{◌≡◌, ◌⊎◌, ◌∙◌, ◌<◌, ◌≤◌, ◌+◌, ℕ, ℤ, negsuc, zero, suc, Bool, true, false, List, [], ◌∷◌, length, map, get_or, refl, sym, ap, subst, arith, inl, inr}
use Rattle.std.specs.Prelude.{nat_lt, int_lt, unsigned_abs, pos, ◌<ℤ◌, ◌↔◌, min, max, if◌then◌else◌}
use Rattle.std.specs.List.{All, Contains, insert}
use Rattle.std.specs.List.Sorted.{IsNonDecreasingBy, IsPartitionPoint}
use Rattle.std.proofs.lemmas.Bool.{cases_lt}
use Rattle.std.proofs.lemmas.Bool.Decides.{nat_tests}
use Rattle.std.proofs.lemmas.Int.{ints}
use Rattle.std.proofs.lemmas.List.{get_or_default}
use Rattle.std.proofs.lemmas.List.Elements.{All-contains, All-map}
use Rattle.sled_codec.specs.History.{Batch}
use Rattle.sled_store.proofs.Segments.Elements.{in_first, in_rest}
use Rattle.sled_core.specs.declared.logger.batches.NotedBatch.{NotedBatch}
use Rattle.sled_core.specs.inside.OpenBatches.{AreByPlace}
use Rattle.sled_core.specs.OpenBatches.{batch_of, behind_batch, stable_below, with_batch}
use Rattle.sled_core.proofs.Reached.NotedSteps.{behind_all, behind_has, behind_least, behind_within, left_of}
use Rattle.sled_core.proofs.Reached.OpenBatch.{not_whole_there, whole_not}
use Rattle.sled_core.proofs.Reached.StableBelow.{stable_all, stable_is, stable_open}

-- None begins in front of where they lie from on,
begins_from : (from : ℕ) (xs : List NotedBatch) → AreByPlace from (map batch_of xs) → (j : ℕ) (d : NotedBatch) → j < length xs → from ≤ (get_or xs j d).low
begins_from from [] are j d lt = absurd (omega (arith, lt))
begins_from from (b ∷ bs) are zero d lt = are.0
begins_from from (b ∷ bs) are (suc j) d lt = let up = are.0 in let own = are.1 in let rest = begins_from (b.peg + 1) bs are.2 j d (omega (arith, lt)) in omega (arith, up, own, rest)

-- none ends in front of where it begins,
ends_up : (from : ℕ) (xs : List NotedBatch) → AreByPlace from (map batch_of xs) → (j : ℕ) (d : NotedBatch) → j < length xs → (get_or xs j d).low ≤ (get_or xs j d).peg
ends_up from [] are j d lt = absurd (omega (arith, lt))
ends_up from (b ∷ bs) are zero d lt = are.1
ends_up from (b ∷ bs) are (suc j) d lt = ends_up (b.peg + 1) bs are.2 j d (omega (arith, lt))

-- and each ends in front of where a later one begins.
in_line : (from : ℕ) (xs : List NotedBatch) → AreByPlace from (map batch_of xs) → (i j : ℕ) (d : NotedBatch) → i < j → j < length xs → (get_or xs i d).peg < (get_or xs j d).low
in_line from [] are i j d le lt = absurd (omega (arith, lt))
in_line from (b ∷ bs) are zero zero d le lt = absurd (omega (arith, le))
in_line from (b ∷ bs) are zero (suc j) d le lt = let rest = begins_from (b.peg + 1) bs are.2 j d (omega (arith, lt)) in omega (arith, rest)
in_line from (b ∷ bs) are (suc i) zero d le lt = absurd (omega (arith, le))
in_line from (b ∷ bs) are (suc i) (suc j) d le lt = in_line (b.peg + 1) bs are.2 i j d (omega (arith, le)) (omega (arith, lt))

-- So they begin in their order,
pub lows_rise : (from : ℕ) (xs : List NotedBatch) → AreByPlace from (map batch_of xs) → IsNonDecreasingBy (λ (b : NotedBatch). b.low) xs
lows_rise from xs are i j d le lt = elim (cases_lt i j) [
  | inl less ↦ (let before = in_line from xs are i j d less lt in let own = ends_up from xs are i d (omega (arith, less, lt)) in omega (arith, before, own))
  | inr not ↦ (let same : i ≡ j = omega (arith, le, not) in subst (λ k. (get_or xs i d).low ≤ (get_or xs k d).low) same (omega arith))
]

-- and end in it.
pub pegs_rise : (from : ℕ) (xs : List NotedBatch) → AreByPlace from (map batch_of xs) → IsNonDecreasingBy (λ (b : NotedBatch). b.peg) xs
pegs_rise from xs are i j d le lt = elim (cases_lt i j) [
  | inl less ↦ (let before = in_line from xs are i j d less lt in let own = ends_up from xs are j d lt in omega (arith, before, own))
  | inr not ↦ (let same : i ≡ j = omega (arith, le, not) in subst (λ k. (get_or xs i d).peg ≤ (get_or xs k d).peg) same (omega arith))
]

-- What holds of each of them that isn't wholly read, where all up to one place is.
pub of_open : (end : ℕ) (P : Batch → Type 0) (xs : List NotedBatch) → All (λ b. (b.peg < end) ⊎ P (batch_of b)) xs → (b : Batch) → Contains (left_of end xs) b → P b
of_open end P xs all b there =
    let (known, later) = whole_not end (map batch_of xs) b there in
    elim (All-contains (λ (c : Batch). (c.peg < end) ⊎ P c) (map batch_of xs) b (All-map (λ (c : Batch). (c.peg < end) ⊎ P c) batch_of xs all) known) [
      | inl ended ↦ absurd (omega (arith, ended, later))
      | inr is ↦ is
    ]

among : (xs : List NotedBatch) (i : ℕ) (d : NotedBatch) → i < length xs → Contains (map batch_of xs) (batch_of (get_or xs i d))
among [] i d lt = absurd (omega (arith, lt))
among (x ∷ xs) zero d lt = in_first (batch_of x) (map batch_of xs)
among (x ∷ xs) (suc i) d lt = in_rest (batch_of x) (batch_of (get_or xs i d)) (map batch_of xs) (among xs i d (omega (arith, lt)))

-- One that isn't wholly read is left.
pub is_left : (end : ℕ) (xs : List NotedBatch) (i : ℕ) (d : NotedBatch) → i < length xs → end ≤ (get_or xs i d).peg → Contains (left_of end xs) (batch_of (get_or xs i d))
is_left end xs i d lt later = not_whole_there end (map batch_of xs) (batch_of (get_or xs i d)) (among xs i d lt) later

module _ (xs : List NotedBatch) (are : AreByPlace 0 (map batch_of xs)) (i : ℕ) (d : NotedBatch) where
  abbrev found : NotedBatch
  found = get_or xs i d

  module _ (lt : i < length xs) where
    -- Of the others each ends in front of where it begins, or begins behind its peg.
    beside : (k : ℕ) (e : NotedBatch) → k < length xs → ((k < i) × ((get_or xs k e).peg < found.low)) ⊎ (get_or xs k e ≡ found) ⊎ ((i < k) × (found.peg < (get_or xs k e).low))
    beside k e within = elim (cases_lt k i) [
      | inl before ↦ inl (before, subst (λ (x : NotedBatch). (get_or xs k e).peg < x.low) (get_or_default xs i e d lt) (in_line 0 xs are k i e before lt))
      | inr not ↦ elim (cases_lt i k) [
        | inl behind ↦ inr (inr (behind, subst (λ (x : NotedBatch). x.peg < (get_or xs k e).low) (get_or_default xs i e d lt) (in_line 0 xs are i k e behind within)))
        | inr le ↦ (let same : k ≡ i = omega (arith, not, le) in inr (inl (ap (λ n. get_or xs n e) same ∙ get_or_default xs i e d lt)))
      ]
    ]

    -- It is the first one that isn't wholly read: the stable place lies where it begins, if that is read.
    pub stable_found : (end : ℕ) → IsPartitionPoint (λ (b : NotedBatch). b.peg < end) (λ (b : NotedBatch). end ≤ b.peg) xs i → stable_below end (left_of end xs) ≡ min found.low end
    stable_found end point =
        let later : end ≤ found.peg = point.1 i d (omega arith) lt in
        let each : (c : Batch) → Contains (left_of end xs) c → (c ≡ batch_of found) ⊎ (found.peg < c.low) = of_open end (λ c. (c ≡ batch_of found) ⊎ (found.peg < c.low)) xs
        (λ k e within. elim (beside k e within) [
          | inl before ↦ inl (point.0 k e (omega arith) before.0)
          | inr (inl same) ↦ inr (inl (ap batch_of same))
          | inr (inr behind) ↦ inr (inr behind.1)
        ]) in
        elim (cases_lt found.low end) [
          | inl low ↦ (
              let at_most = stable_open end (left_of end xs) (batch_of found) (is_left end xs i d lt later) (low, later) in
              elim (stable_is end (left_of end xs)) [
                | inl all ↦ absurd (omega (arith, all, at_most, low))
                | inr (c, there, at, is_open) ↦ elim (each c there) [
                  | inl same ↦ (let lows = ap (λ (x : Batch). x.low) same in omega (arith, at, lows, low))
                  | inr behind ↦ absurd (let under = is_open.0 in omega (arith, behind, under, later))
                ]
              ])
          | inr high ↦ (
              let all = stable_all end (left_of end xs) (λ c there under. elim (each c there) [
                | inl same ↦ absurd (let lows = ap (λ (x : Batch). x.low) same in omega (arith, lows, under, high))
                | inr behind ↦ absurd (omega (arith, behind, under, later))
              ]) in
              omega (arith, all, high))
        ]

    -- It is the last one that begins before a place: each other ends in front of it, or begins there or behind it.
    pub around_last : (end place : ℕ) → IsPartitionPoint (λ (b : NotedBatch). b.low < place) (λ (b : NotedBatch). place ≤ b.low) xs (suc i) → (c : Batch) → Contains (left_of end xs) c
        → (c ≡ batch_of found) ⊎ (c.peg < found.low) ⊎ (place ≤ c.low)
    around_last end place point = of_open end (λ c. (c ≡ batch_of found) ⊎ (c.peg < found.low) ⊎ (place ≤ c.low)) xs
        (λ k e within. elim (beside k e within) [
          | inl before ↦ inr (inr (inl before.1))
          | inr (inl same) ↦ inr (inl (ap batch_of same))
          | inr (inr behind) ↦ inr (inr (inr (let after = behind.0 in point.1 k e (omega (arith, after)) within)))
        ])

    own : found.low ≤ found.peg
    own = ends_up 0 xs are i d lt

    -- Where it is wholly read, all before the place is stable once that is written;
    pub behind_whole : (end place : ℕ) → IsPartitionPoint (λ (b : NotedBatch). b.low < place) (λ (b : NotedBatch). place ≤ b.low) xs (suc i) → found.peg < end → behind_batch place (left_of end xs) ≡ place
    behind_whole end place point ended = behind_all place (left_of end xs)
        (λ c there. (let later = (whole_not end (map batch_of xs) c there).1 in elim (around_last end place point c there) [
          | inl same ↦ absurd (let pegs = ap (λ (x : Batch). x.peg) same in omega (arith, pegs, later, ended))
          | inr (inl before) ↦ absurd (let up = own in omega (arith, before, later, ended, up))
          | inr (inr high) ↦ high
        ]))

    -- else its peg has to be.
    pub behind_found : (end place : ℕ) → IsPartitionPoint (λ (b : NotedBatch). b.low < place) (λ (b : NotedBatch). place ≤ b.low) xs (suc i) → end ≤ found.peg → behind_batch place (left_of end xs) ≡ max (found.peg + 1) place
    behind_found end place point later =
        let low : found.low < place = point.0 i d (omega arith) (omega arith) in
        let up = own in
        let least = behind_least place (left_of end xs) in
        let has = behind_has place (left_of end xs) (batch_of found) (is_left end xs i d lt later) low in
        let most = behind_within place (max (found.peg + 1) place) (left_of end xs) (omega arith)
        (λ c there under. elim (around_last end place point c there) [
          | inl same ↦ (let pegs = ap (λ (x : Batch). x.peg) same in omega (arith, pegs))
          | inr (inl before) ↦ omega (arith, before, up)
          | inr (inr high) ↦ absurd (omega (arith, high, under))
        ]) in
        omega (arith, least, has, most)

    -- Where it is the last one that begins no further than a place, the batches that aren't wholly read lie below another place or above that one exactly where it is wholly read or ends below the other.
    pub open_apart : (end : ℕ) (low peg : ℤ) → int_lt peg (pos 0) ≡ false → IsPartitionPoint (λ (b : NotedBatch). b.low < unsigned_abs peg + 1) (λ (b : NotedBatch). unsigned_abs peg + 1 ≤ b.low) xs (suc i)
        → ((found.peg < end) ⊎ (pos found.peg <ℤ low)) ↔ ((c : Batch) → Contains (left_of end xs) c → (pos c.peg <ℤ low) ⊎ (peg <ℤ pos c.low))
    open_apart end low (negsuc n) up point = absurd (cc)
    open_apart end low (pos n) up point = (
      λ below c there. (let later = (whole_not end (map batch_of xs) c there).1 in let its = own in elim (around_last end (n + 1) point c there) [
        | inl same ↦ (let pegs = ap (λ (x : Batch). x.peg) same in elim below [ inl ended ↦ absurd (omega (arith, pegs, later, ended)) | inr ends ↦ inl (omega (arith, ints, pegs, ends)) ])
        | inr (inl before) ↦ elim below [ inl ended ↦ absurd (omega (arith, before, later, ended, its)) | inr ends ↦ inl (omega (arith, ints, before, ends, its)) ]
        | inr (inr high) ↦ inr (omega (arith, ints, high))
      ]),
      λ all. elim (cases_lt found.peg end) [
        | inl ended ↦ inl ended
        | inr later ↦ elim (all (batch_of found) (is_left end xs i d lt later)) [
          | inl ends ↦ inr ends
          | inr above ↦ absurd (let low_is : found.low < n + 1 = point.0 i d (omega arith) (omega arith) in omega (arith, ints, above, low_is))
        ]
      ],
    )

-- All of them are wholly read.
pub stable_none : (end : ℕ) (xs : List NotedBatch) (i : ℕ) → i ≡ length xs → IsPartitionPoint (λ (b : NotedBatch). b.peg < end) (λ (b : NotedBatch). end ≤ b.peg) xs i → stable_below end (left_of end xs) ≡ end
stable_none end xs i all point = stable_all end (left_of end xs)
    (λ c there under. of_open end (λ x. x.peg < end) xs (λ k e within. inl (point.0 k e (omega arith) (omega (arith, within, all)))) c there)

-- None of them begins before a place.
pub none_before : (end place : ℕ) (xs : List NotedBatch) → IsPartitionPoint (λ (b : NotedBatch). b.low < place) (λ (b : NotedBatch). place ≤ b.low) xs 0 → (c : Batch) → Contains (left_of end xs) c → place ≤ c.low
none_before end place xs point = of_open end (λ x. place ≤ x.low) xs (λ k e within. inr (point.1 k e (omega arith) within))

-- None of them begins at a place or in front of it: so each lies above it.
pub none_apart : (end : ℕ) (xs : List NotedBatch) (low peg : ℤ) → int_lt peg (pos 0) ≡ false → IsPartitionPoint (λ (b : NotedBatch). b.low < unsigned_abs peg + 1) (λ (b : NotedBatch). unsigned_abs peg + 1 ≤ b.low) xs 0
    → (c : Batch) → Contains (left_of end xs) c → (pos c.peg <ℤ low) ⊎ (peg <ℤ pos c.low)
none_apart end xs low (negsuc n) up point c there = absurd (cc)
none_apart end xs low (pos n) up point c there = inr (let high = none_before end (n + 1) xs point c there in omega (arith, ints, high))

-- A batch that is put in behind those that begin no further than it lies by place.
pub put_in_place : (b : NotedBatch) (xs : List NotedBatch) (i : ℕ) → i ≤ length xs → IsPartitionPoint (λ (c : NotedBatch). c.low < b.low + 1) (λ (c : NotedBatch). b.low + 1 ≤ c.low) xs i
    → map batch_of (insert xs i b) ≡ with_batch (batch_of b) (map batch_of xs)
put_in_place b [] zero within point = refl
put_in_place b [] (suc i) within point = absurd (omega (arith, within))
put_in_place b (c ∷ cs) zero within point =
    let high : b.low + 1 ≤ c.low = point.1 0 c (omega arith) (omega arith) in
    let test : nat_lt b.low c.low ≡ true = grind (arith, nat_tests, high) in
    sym (ap (λ (o : Bool). if o then batch_of b ∷ batch_of c ∷ map batch_of cs else batch_of c ∷ with_batch (batch_of b) (map batch_of cs)) test)
put_in_place b (c ∷ cs) (suc i) within point =
    let low : c.low < b.low + 1 = point.0 0 c (omega arith) (omega arith) in
    let test : nat_lt b.low c.low ≡ false = grind (arith, nat_tests, low) in
    ap (λ (l : List Batch). batch_of c ∷ l) (put_in_place b cs i (omega (arith, within)) (λ k d from upto. point.0 (suc k) d (omega arith) (omega (arith, upto)), λ k d from upto. point.1 (suc k) d (omega (arith, from)) (omega (arith, upto))))
    ∙ sym (ap (λ (o : Bool). if o then batch_of b ∷ batch_of c ∷ map batch_of cs else batch_of c ∷ with_batch (batch_of b) (map batch_of cs)) test)

-- One that begins behind all that is read, and has no place in common with those that aren't wholly read, has none with each of them.
pub each_apart : (end low peg : ℕ) → end ≤ low → (xs : List NotedBatch) → ((b : Batch) → Contains (left_of end xs) b → (b.peg < low) ⊎ (peg < b.low)) → All (λ b. (b.peg < low) ⊎ (peg < b.low)) xs
each_apart end low peg past xs apart k d lt = elim (cases_lt (get_or xs k d).peg end) [
  | inl ended ↦ inl (omega (arith, ended, past))
  | inr later ↦ apart (batch_of (get_or xs k d)) (is_left end xs k d lt later)
]

-- Where all of them from one on aren't wholly read, no fewer are left than those.
pub left_from : (end i : ℕ) (xs : List NotedBatch) → ((j : ℕ) (d : NotedBatch) → i ≤ j → j < length xs → end ≤ (get_or xs j d).peg) → length xs ≤ i + length (left_of end xs)
left_from end i [] later = omega arith
left_from end zero (b ∷ xs) later = by (nat_lt b.peg end) refl (let rest = left_from end 0 xs (λ j d low lt. later (suc j) d (omega arith) (omega (arith, lt))) in omega (arith, rest)) where
  by : (o : Bool) → nat_lt b.peg end ≡ o → length xs ≤ length (left_of end xs) → suc (length xs) ≤ 0 + length (if o then left_of end xs else batch_of b ∷ left_of end xs)
  by true ended rest = let own = later 0 b (omega arith) (omega arith) in absurd (grind (arith, nat_tests, ended, own))
  by false ended rest = omega (arith, rest)
left_from end (suc i) (b ∷ xs) later = by (nat_lt b.peg end) (left_from end i xs (λ j d low lt. later (suc j) d (omega (arith, low)) (omega (arith, lt)))) where
  by : (o : Bool) → length xs ≤ i + length (left_of end xs) → suc (length xs) ≤ suc i + length (if o then left_of end xs else batch_of b ∷ left_of end xs)
  by true rest = omega (arith, rest)
  by false rest = omega (arith, rest)
