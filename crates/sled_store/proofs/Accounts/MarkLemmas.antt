-- The marks of a list that are set, one by one, and what becomes of their indexes when one is put in or taken out.
use Rattle.std.proofs.Common.{◌≡◌, ◌∙◌, ℕ, zero, suc, ◌+◌, ◌-◌, ◌<◌, ◌≤◌, Bool, true, false, cond, List, [], ◌∷◌, length, get_or, set, slice_get, Some, refl, sym, ap, arith}
use Rattle.std.specs.Ordering.{nat_cmp, match_ordering, is_eq}
use Rattle.std.specs.BTreeMap.{is_at}
use Rattle.std.specs.BTreeSet.{insert_key}
use Rattle.std.specs.Set.{remove_key}
use Rattle.sled_store.specs.SlotSets.{marked_from}
use Rattle.sled_store.proofs.Accounts.IndexLemmas.{less_is, same_is, greater_is}

-- none is set
pub marked_none : (i : ℕ) (bs : List Bool) → ((k : ℕ) → k < length bs → get_or bs k false ≡ false) → marked_from i bs ≡ []
marked_none i [] none = refl
marked_none i (b ∷ bs) none = ap (λ c. cond c (i ∷ marked_from (suc i) bs) (marked_from (suc i) bs)) (none 0 (omega arith)) ∙ marked_none (suc i) bs (λ k lt. none (suc k) (omega arith))

-- the same marks, and further ones that are not set
pub marked_same : (i : ℕ) (bs cs : List Bool) → ((k : ℕ) → get_or bs k false ≡ get_or cs k false) → marked_from i bs ≡ marked_from i cs
marked_same i [] cs same = sym (marked_none i cs (λ k lt. sym (same k)))
marked_same i (b ∷ bs) [] same = marked_none i (b ∷ bs) (λ k lt. same k)
marked_same i (b ∷ bs) (c ∷ cs) same =
    ap (λ d. cond d (i ∷ marked_from (suc i) bs) (marked_from (suc i) bs)) (same 0)
    ∙ ap (λ l. cond c (i ∷ l) l) (marked_same (suc i) bs cs (λ k. same (suc k)))

-- the first that is set
pub marked_first : (i k : ℕ) (bs : List Bool) → get_or bs k false ≡ true → ((j : ℕ) → j < k → get_or bs j false ≡ false) → slice_get (marked_from i bs) 0 ≡ Some (i + k)
marked_first i k [] is before = absurd (cc)
marked_first i zero (b ∷ bs) is before = ap (λ c. slice_get (cond c (i ∷ marked_from (suc i) bs) (marked_from (suc i) bs)) 0) is ∙ ap (λ n. Some n) (omega arith)
marked_first i (suc k) (b ∷ bs) is before =
    ap (λ c. slice_get (cond c (i ∷ marked_from (suc i) bs) (marked_from (suc i) bs)) 0) (before 0 (omega arith))
    ∙ marked_first (suc i) k bs is (λ j lt. before (suc j) (omega arith)) ∙ ap (λ n. Some n) (omega arith)

-- the last that is set
behind : (i n : ℕ) (ks : List ℕ) → slice_get ks (length ks - 1) ≡ Some n → slice_get (i ∷ ks) (length (i ∷ ks) - 1) ≡ Some n
behind i n [] is = absurd (cc)
behind i n (k ∷ ks) is =
    let whole : suc (suc (length ks)) - 1 ≡ suc (length ks) = omega arith in
    let rest : length ks ≡ suc (length ks) - 1 = omega arith in
    ap (λ m. slice_get (i ∷ k ∷ ks) m) whole ∙ ap (λ m. slice_get (k ∷ ks) m) rest ∙ is

pub marked_last : (i k : ℕ) (bs : List Bool) → get_or bs k false ≡ true → ((j : ℕ) → k < j → j < length bs → get_or bs j false ≡ false) → slice_get (marked_from i bs) (length (marked_from i bs) - 1) ≡ Some (i + k)
marked_last i k [] is after = absurd (cc)
marked_last i zero (b ∷ bs) is after =
    let none : marked_from (suc i) bs ≡ [] = marked_none (suc i) bs (λ j lt. after (suc j) (omega arith) (omega arith)) in
    ap (λ c. slice_get (cond c (i ∷ marked_from (suc i) bs) (marked_from (suc i) bs)) (length (cond c (i ∷ marked_from (suc i) bs) (marked_from (suc i) bs)) - 1)) is
    ∙ ap (λ l. slice_get (i ∷ l) (length (i ∷ l) - 1)) none ∙ ap (λ n. Some n) (omega arith)
marked_last i (suc k) (b ∷ bs) is after = by b (marked_last (suc i) k bs is (λ j gt lt. after (suc j) (omega arith) (omega arith)) ∙ ap (λ n. Some n) (omega arith))
  where
    by : (c : Bool) → slice_get (marked_from (suc i) bs) (length (marked_from (suc i) bs) - 1) ≡ Some (i + suc k)
        → slice_get (cond c (i ∷ marked_from (suc i) bs) (marked_from (suc i) bs)) (length (cond c (i ∷ marked_from (suc i) bs) (marked_from (suc i) bs)) - 1) ≡ Some (i + suc k)
    by true h = behind i (i + suc k) (marked_from (suc i) bs) h
    by false h = h

-- all of them lie from the first on
insert_before : (i n : ℕ) (bs : List Bool) → n < i → insert_key nat_cmp (marked_from i bs) n ≡ n ∷ marked_from i bs
insert_before i n [] lt = refl
insert_before i n (b ∷ bs) lt = by b (insert_before (suc i) n bs (omega arith))
  where
    by : (c : Bool) → insert_key nat_cmp (marked_from (suc i) bs) n ≡ n ∷ marked_from (suc i) bs
        → insert_key nat_cmp (cond c (i ∷ marked_from (suc i) bs) (marked_from (suc i) bs)) n ≡ n ∷ cond c (i ∷ marked_from (suc i) bs) (marked_from (suc i) bs)
    by true h = ap (λ r. match_ordering r (n ∷ i ∷ marked_from (suc i) bs) (i ∷ marked_from (suc i) bs) (i ∷ insert_key nat_cmp (marked_from (suc i) bs) n)) (less_is n i lt)
    by false h = h

remove_before : (i n : ℕ) (bs : List Bool) → n < i → remove_key (is_at (nat_cmp n)) (marked_from i bs) ≡ marked_from i bs
remove_before i n [] lt = refl
remove_before i n (b ∷ bs) lt = by b (remove_before (suc i) n bs (omega arith))
  where
    by : (c : Bool) → remove_key (is_at (nat_cmp n)) (marked_from (suc i) bs) ≡ marked_from (suc i) bs
        → remove_key (is_at (nat_cmp n)) (cond c (i ∷ marked_from (suc i) bs) (marked_from (suc i) bs)) ≡ cond c (i ∷ marked_from (suc i) bs) (marked_from (suc i) bs)
    by true h = ap (λ r. cond (is_eq r) (marked_from (suc i) bs) (i ∷ remove_key (is_at (nat_cmp n)) (marked_from (suc i) bs))) (less_is n i lt) ∙ ap (λ l. i ∷ l) h
    by false h = h

-- one is set
pub marked_insert : (i k n : ℕ) (bs : List Bool) → n ≡ i + k → k < length bs → marked_from i (set bs k true) ≡ insert_key nat_cmp (marked_from i bs) n
marked_insert i k n [] at lt = absurd (omega arith)
marked_insert i zero n (b ∷ bs) at lt = by b
  where
    rest : List ℕ
    rest = marked_from (suc i) bs

    by : (c : Bool) → i ∷ rest ≡ insert_key nat_cmp (cond c (i ∷ rest) rest) n
    by true = sym (ap (λ r. match_ordering r (n ∷ i ∷ rest) (i ∷ rest) (i ∷ insert_key nat_cmp rest n)) (same_is n i (omega arith)))
    by false = sym (insert_before (suc i) n bs (omega arith) ∙ ap (λ m. m ∷ rest) (omega arith))
marked_insert i (suc k) n (b ∷ bs) at lt = by b (marked_insert (suc i) k n bs (omega arith) (omega arith))
  where
    by : (c : Bool) → marked_from (suc i) (set bs k true) ≡ insert_key nat_cmp (marked_from (suc i) bs) n
        → cond c (i ∷ marked_from (suc i) (set bs k true)) (marked_from (suc i) (set bs k true)) ≡ insert_key nat_cmp (cond c (i ∷ marked_from (suc i) bs) (marked_from (suc i) bs)) n
    by true h =
        ap (λ l. i ∷ l) h
        ∙ sym (ap (λ r. match_ordering r (n ∷ i ∷ marked_from (suc i) bs) (i ∷ marked_from (suc i) bs) (i ∷ insert_key nat_cmp (marked_from (suc i) bs) n)) (greater_is n i (omega arith)))
    by false h = h

-- one is set no longer
pub marked_remove : (i k n : ℕ) (bs : List Bool) → n ≡ i + k → marked_from i (set bs k false) ≡ remove_key (is_at (nat_cmp n)) (marked_from i bs)
marked_remove i k n [] at = refl
marked_remove i zero n (b ∷ bs) at = by b
  where
    rest : List ℕ
    rest = marked_from (suc i) bs

    by : (c : Bool) → rest ≡ remove_key (is_at (nat_cmp n)) (cond c (i ∷ rest) rest)
    by true = sym (ap (λ r. cond (is_eq r) rest (i ∷ remove_key (is_at (nat_cmp n)) rest)) (same_is n i (omega arith)))
    by false = sym (remove_before (suc i) n bs (omega arith))
marked_remove i (suc k) n (b ∷ bs) at = by b (marked_remove (suc i) k n bs (omega arith))
  where
    by : (c : Bool) → marked_from (suc i) (set bs k false) ≡ remove_key (is_at (nat_cmp n)) (marked_from (suc i) bs)
        → cond c (i ∷ marked_from (suc i) (set bs k false)) (marked_from (suc i) (set bs k false)) ≡ remove_key (is_at (nat_cmp n)) (cond c (i ∷ marked_from (suc i) bs) (marked_from (suc i) bs))
    by true h = ap (λ l. i ∷ l) h ∙ sym (ap (λ r. cond (is_eq r) (marked_from (suc i) bs) (i ∷ remove_key (is_at (nat_cmp n)) (marked_from (suc i) bs))) (greater_is n i (omega arith)))
    by false h = h

-- a mark that is set counts
pub length_marked : (i k : ℕ) (bs : List Bool) → k < length bs → length (marked_from i (set bs k true)) ≡ suc (length (marked_from i (set bs k false)))
length_marked i k [] lt = absurd (omega arith)
length_marked i zero (b ∷ bs) lt = refl
length_marked i (suc k) (b ∷ bs) lt = by b (length_marked (suc i) k bs (omega arith))
  where
    by : (c : Bool) → length (marked_from (suc i) (set bs k true)) ≡ suc (length (marked_from (suc i) (set bs k false)))
        → length (cond c (i ∷ marked_from (suc i) (set bs k true)) (marked_from (suc i) (set bs k true))) ≡ suc (length (cond c (i ∷ marked_from (suc i) (set bs k false)) (marked_from (suc i) (set bs k false))))
    by true h = ap suc h
    by false h = h

pub length_within : (i : ℕ) (bs : List Bool) → length (marked_from i bs) ≤ length bs
length_within i [] = omega arith
length_within i (b ∷ bs) = by b (length_within (suc i) bs)
  where
    by : (c : Bool) → length (marked_from (suc i) bs) ≤ length bs → length (cond c (i ∷ marked_from (suc i) bs) (marked_from (suc i) bs)) ≤ suc (length bs)
    by true h = omega arith
    by false h = omega arith
