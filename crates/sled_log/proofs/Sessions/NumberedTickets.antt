-- Tickets by ascending numbers: what a search of the numbers finds, and what is seen of them by number.
use Rattle.std.proofs.Common.{◌≡◌, ◌∙◌, ℕ, zero, suc, ◌+◌, ◌-◌, ◌<◌, ◌≤◌, Bool, true, false, cond, List, [], ◌∷◌, ◌++◌, length, map, get_or, set, refl, sym, ap, subst, arith, inl, inr, Option, None, Some, IfSome, IfNone, Result, Ok, Err}
use Rattle.std.specs.BTreeMap.{is_at}
use Rattle.std.specs.Cmp.{nat_cmp_total}
use Rattle.std.specs.List.{All, AllWithin, HoldsAt, remove, range_with_len}
use Rattle.std.specs.List.Sorted.{IsStrictlySortedBy, IsBinarySearchResult, IsSearchInRange, IsNonDecreasingBy}
use Rattle.std.specs.Map.{keys_of, lookup, remove_entry}
use Rattle.std.specs.Ordering.{nat_cmp, ordering_index}
use Rattle.std.specs.Result.{result_ok}
use Rattle.std.specs.Set.{remove_key}
use Rattle.std.specs.declared.cmp.Ordering.TheVariants.{Less, Equal, Greater}
use Rattle.std.proofs.lemmas.Bool.{cases_lt}
use Rattle.std.proofs.lemmas.Bool.Decides.{nat_tests}
use Rattle.std.proofs.lemmas.List.{get_or-map, length-map, get_or_past, map-append}
use Rattle.std.proofs.lemmas.List.Elements.{All-head, All-nil, All-push, All-tail, All-weaker, All-from_recursion}
use Rattle.std.proofs.lemmas.List.FromFn.{length-map-range_with_len, get_or-map-range_with_len, map-range_with_len_more}
use Rattle.std.proofs.lemmas.Map.Keys.{sorted_head, sorted_tail}
use Rattle.std.proofs.lemmas.Map.Views.{All-remove_key}
use Rattle.sled_store.proofs.Sorted.SortedLemmas.{missing_any, searchable, sorted_behind, sorted_nil, sorted_remove}
use Rattle.sled_store.proofs.Sorted.EntryLemmas.{found_value, found_taken, missing_value, keys_removed}
use Rattle.sled_log.specs.OpenTickets.{AreNumbered, by_number, of_number}

-- Numbers.

same_number : (n k : ℕ) → k ≡ n → is_at (nat_cmp n) k ≡ true
same_number n k same = grind (arith, nat_tests, same)

is_number : (n k : ℕ) → is_at (nat_cmp n) k ≡ true → k ≡ n
is_number n k is = grind (arith, nat_tests, is)

other_number : (n k : ℕ) → (k ≡ n → ⊥) → is_at (nat_cmp n) k ≡ false
other_number n k other = grind (arith, nat_tests, other)

less_than : (n k : ℕ) → k < n → nat_cmp k n ≡ Less
less_than n k lt = grind (arith, nat_tests, lt)

below_it : (n k : ℕ) → nat_cmp n k ≡ Less → n < k
below_it n k is = grind (arith, nat_tests, is)

equal_is : (n k : ℕ) → nat_cmp k n ≡ Equal → k ≡ n
equal_is n k is = grind (arith, nat_tests, is)

is_equal : (n k : ℕ) → k ≡ n → nat_cmp k n ≡ Equal
is_equal n k is = grind (arith, nat_tests, is)

-- What a search finds.

key_holds : {X : Type 0} (P : ℕ → Type 0) (es : List (ℕ × X)) (i : ℕ) → i < length es → HoldsAt (λ e. P e.0) es i → HoldsAt P (keys_of es) i
key_holds P [] i lt holds d = absurd (omega (arith, lt))
key_holds P (e ∷ es) zero lt holds d = holds e
key_holds P (e ∷ es) (suc i) lt holds d = key_holds P es i (omega (arith, lt)) holds d

keys_within : {X : Type 0} (P : ℕ → Type 0) (es : List (ℕ × X)) (a b : ℕ) → b ≤ length es → AllWithin (λ e. P e.0) es a b → AllWithin P (keys_of es) a b
keys_within P es a b le all k d low high = key_holds P es k (omega (arith, le, high)) (λ e. all k e low high) d

-- The ticket of a number was found at an index, or there is none.
pub record Searched {X : Type 0} (es : List (ℕ × X)) (n : ℕ) (r : Option ℕ) : Type 0 where
  pub found : IfSome r (λ i. (i < length es) × HoldsAt (λ k. k ≡ n) (keys_of es) i)
  pub missing : IfNone r (of_number es n ≡ None)

module _ {X : Type 0} (es : List (ℕ × X)) (sorted : IsStrictlySortedBy nat_cmp (keys_of es)) (n : ℕ) where
  rises : IsNonDecreasingBy (λ e. ordering_index (nat_cmp e.0 n)) es
  rises i j d le lt =
      let has : length (keys_of es) ≡ length es = length-map es (λ e. e.0) in
      let keys = searchable nat_cmp_total n (keys_of es) sorted i j d.0 le (omega (arith, has, lt)) in
      let low = get_or-map (λ (e : ℕ × X). e.0) es i d d.0 (omega (arith, le, lt)) in
      let high = get_or-map (λ (e : ℕ × X). e.0) es j d d.0 lt in
      subst (λ k. ordering_index (nat_cmp (get_or es i d).0 n) ≤ ordering_index (nat_cmp k n)) high (subst (λ k. ordering_index (nat_cmp k n) ≤ ordering_index (nat_cmp (get_or (keys_of es) j d.0) n)) low keys)

  pub searched : (r : Result ℕ ℕ) → IsSearchInRange r (length es) → IsBinarySearchResult (λ e. nat_cmp e.0 n) es r → Searched es n (result_ok r)
  searched (Ok i) within at = record { found = (within, key_holds (λ k. k ≡ n) es i within (λ e. equal_is n (get_or es i e).0 (at e))); missing = tt }
  searched (Err i) within parts = record {
    found = tt;
    missing =
        let both = parts rises in
        let has : length (keys_of es) ≡ length es = length-map es (λ e. e.0) in
        let behind = subst (λ m. AllWithin (λ k. nat_cmp k n ≡ Greater) (keys_of es) i m) (sym has) (keys_within (λ k. nat_cmp k n ≡ Greater) es i (length es) (omega arith) both.1) in
        sym (missing_value (is_at (nat_cmp n)) es (missing_any nat_cmp_total n (keys_of es) i (keys_within (λ k. nat_cmp k n ≡ Less) es 0 i within both.0, behind)));
  }

-- Which ticket a number has.

none_of : {X : Type 0} (es : List (ℕ × X)) (n : ℕ) → All (λ k. k ≡ n → ⊥) (keys_of es) → of_number es n ≡ None
none_of [] n others = refl
none_of (e ∷ es) n others =
    ap (λ b. cond b (Some e.1) (of_number es n)) (other_number n e.0 (All-head (λ k. k ≡ n → ⊥) e.0 (keys_of es) others))
    ∙ none_of es n (All-tail (λ k. k ≡ n → ⊥) e.0 (keys_of es) others)

-- behind them
none_behind : {X : Type 0} (es : List (ℕ × X)) (begun n : ℕ) → All (λ k. k < begun) (keys_of es) → begun ≤ n → of_number es n ≡ None
none_behind es begun n below le = none_of es n (All-weaker (λ k. k < begun) (λ k. k ≡ n → ⊥) (λ k lt same. omega (arith, lt, le, same)) (keys_of es) below)

-- with one more
other_more : {X : Type 0} (es : List (ℕ × X)) (b : ℕ) (t : X) (n : ℕ) → (n ≡ b → ⊥) → of_number (es ++ (b, t) ∷ []) n ≡ of_number es n
other_more [] b t n other = ap (λ c. cond c (Some t) None) (other_number n b (λ same. other (sym same)))
other_more (e ∷ es) b t n other = ap (cond (is_at (nat_cmp n) e.0) (Some e.1)) (other_more es b t n other)

last_more : {X : Type 0} (es : List (ℕ × X)) (b : ℕ) (t : X) → All (λ k. k < b) (keys_of es) → of_number (es ++ (b, t) ∷ []) b ≡ Some t
last_more [] b t below = ap (λ c. cond c (Some t) None) (same_number b b refl)
last_more (e ∷ es) b t below =
    ap (λ c. cond c (Some e.1) (of_number (es ++ (b, t) ∷ []) b)) (other_number b e.0 (λ same. omega (arith, All-head (λ k. k < b) e.0 (keys_of es) below, same)))
    ∙ last_more es b t (All-tail (λ k. k < b) e.0 (keys_of es) below)

-- without one
other_left : {X : Type 0} (es : List (ℕ × X)) (n m : ℕ) → (m ≡ n → ⊥) → of_number (remove_entry (is_at (nat_cmp n)) es) m ≡ of_number es m
other_left [] n m other = refl
other_left (e ∷ es) n m other = by (is_at (nat_cmp n) e.0) refl (other_left es n m other) where
  by : (b : Bool) → is_at (nat_cmp n) e.0 ≡ b → of_number (remove_entry (is_at (nat_cmp n)) es) m ≡ of_number es m
      → of_number (cond b es (e ∷ remove_entry (is_at (nat_cmp n)) es)) m ≡ of_number (e ∷ es) m
  by true is rest = sym (ap (λ c. cond c (Some e.1) (of_number es m)) (other_number m e.0 (λ same. other (sym same ∙ is_number n e.0 is))))
  by false is rest = ap (cond (is_at (nat_cmp m) e.0) (Some e.1)) rest

none_left : {X : Type 0} (es : List (ℕ × X)) (n : ℕ) → IsStrictlySortedBy nat_cmp (keys_of es) → of_number (remove_entry (is_at (nat_cmp n)) es) n ≡ None
none_left [] n sorted = refl
none_left (e ∷ es) n sorted = by (is_at (nat_cmp n) e.0) refl (none_left es n (sorted_tail nat_cmp e.0 (keys_of es) sorted)) where
  by : (b : Bool) → is_at (nat_cmp n) e.0 ≡ b → of_number (remove_entry (is_at (nat_cmp n)) es) n ≡ None → of_number (cond b es (e ∷ remove_entry (is_at (nat_cmp n)) es)) n ≡ None
  by true is rest =
      let here : e.0 ≡ n = is_number n e.0 is in
      let above : All (λ k. nat_cmp e.0 k ≡ Less) (keys_of es) = All-from_recursion (λ k. nat_cmp e.0 k ≡ Less) (keys_of es) (sorted_head nat_cmp e.0 (keys_of es) sorted) in
      none_of es n (All-weaker (λ k. nat_cmp e.0 k ≡ Less) (λ k. k ≡ n → ⊥) (λ k less same. omega (arith, below_it e.0 k less, same, here)) (keys_of es) above)
  by false is rest = ap (λ c. cond c (Some e.1) (of_number (remove_entry (is_at (nat_cmp n)) es) n)) is ∙ rest

-- Lists by number.

same_by : {Y : Type 0} (f g : ℕ → Y) (a n : ℕ) → ((j : ℕ) → a ≤ j → j < a + n → f j ≡ g j) → map f (range_with_len a n) ≡ map g (range_with_len a n)
same_by f g a zero same = refl
same_by f g a (suc n) same =
    ap (λ x. x ∷ map f (range_with_len (a + 1) n)) (same a (omega arith) (omega arith))
    ∙ ap (λ l. g a ∷ l) (same_by f g (a + 1) n (λ j low high. same j (omega (arith, low)) (omega (arith, high))))

set_by : {Y : Type 0} (f g : ℕ → Y) (a n k i : ℕ) (y : Y) → a + k ≡ i → g i ≡ y → ((j : ℕ) → (j ≡ i → ⊥) → f j ≡ g j) → set (map f (range_with_len a n)) k y ≡ map g (range_with_len a n)
set_by f g a zero k i y at is same = refl
set_by f g a (suc n) zero i y at is same =
    ap (λ x. x ∷ map f (range_with_len (a + 1) n)) (sym is ∙ ap g (omega (arith, at)))
    ∙ ap (λ l. g a ∷ l) (same_by f g (a + 1) n (λ j low high. same j (λ here. omega (arith, low, here, at))))
set_by f g a (suc n) (suc k) i y at is same =
    ap (λ x. x ∷ set (map f (range_with_len (a + 1) n)) k y) (same a (λ here. omega (arith, here, at)))
    ∙ ap (λ l. g a ∷ l) (set_by f g (a + 1) n k i y (omega (arith, at)) is same)

-- What is seen of tickets: as many as there are numbers,

pub as_many : {X : Type 0} (es : List (ℕ × X)) (begun : ℕ) → length (by_number es begun) ≡ begun
as_many es begun = length-map-range_with_len (of_number es) 0 begun

module _ {X : Type 0} (es : List (ℕ × X)) (begun : ℕ) (are : AreNumbered es begun) where
  -- each by its number
  pub seen_at : (n : ℕ) → get_or (by_number es begun) n None ≡ of_number es n
  seen_at n = elim (cases_lt n begun) [
    | inl lt ↦ get_or-map-range_with_len (of_number es) 0 begun n n None lt (omega arith)
    | inr le ↦ get_or_past (by_number es begun) n None (omega (arith, le, as_many es begun)) ∙ sym (none_behind es begun n are.below le)
  ]

  -- where a search found it, or not
  pub found_at : (n i : ℕ) (e : ℕ × X) → i < length es → HoldsAt (λ k. k ≡ n) (keys_of es) i → e ≡ get_or es i e → Some e.1 ≡ get_or (by_number es begun) n None
  found_at n i e lt at is = found_value nat_cmp_total n es i e are.ascending lt (λ d. is_equal n (get_or (keys_of es) i d) (at d)) is ∙ sym (seen_at n)

  pub none_at : (n : ℕ) → of_number es n ≡ None → None ≡ get_or (by_number es begun) n None
  none_at n none = sym (seen_at n ∙ none)

  -- once it is taken
  pub seen_left : (n i : ℕ) → i < length es → HoldsAt (λ k. k ≡ n) (keys_of es) i → by_number (remove es i) begun ≡ set (by_number es begun) n None
  seen_left n i lt at =
      let is = found_taken nat_cmp_total n es i are.ascending lt (λ d. is_equal n (get_or (keys_of es) i d) (at d)) in
      ap (λ l. by_number l begun) is
      ∙ sym (set_by (of_number es) (of_number (remove_entry (is_at (nat_cmp n)) es)) 0 begun n n None (omega arith) (none_left es n are.ascending) (λ m other. sym (other_left es n m other)))

  pub same_left : (n : ℕ) → of_number es n ≡ None → by_number es begun ≡ set (by_number es begun) n None
  same_left n none = sym (set_by (of_number es) (of_number es) 0 begun n n None (omega arith) none (λ m other. refl))

  pub numbered_left : (n i : ℕ) → i < length es → HoldsAt (λ k. k ≡ n) (keys_of es) i → AreNumbered (remove es i) begun
  numbered_left n i lt at =
      let is = found_taken nat_cmp_total n es i are.ascending lt (λ d. is_equal n (get_or (keys_of es) i d) (at d)) in
      let keys : keys_of (remove es i) ≡ remove_key (is_at (nat_cmp n)) (keys_of es) = ap keys_of is ∙ keys_removed (is_at (nat_cmp n)) es in
      record {
        ascending = subst (IsStrictlySortedBy nat_cmp) (sym keys) (sorted_remove nat_cmp_total n (is_at (nat_cmp n)) (keys_of es) are.ascending);
        below = subst (All (λ k. k < begun)) (sym keys) (All-remove_key (is_at (nat_cmp n)) (λ k. k < begun) (keys_of es) are.below);
      }

  -- with the next one
  pub seen_more : (t : X) → by_number (es ++ (begun, t) ∷ []) (begun + 1) ≡ by_number es begun ++ Some t ∷ []
  seen_more t =
      let more : ℕ → Option X = of_number (es ++ (begun, t) ∷ []) in
      map-range_with_len_more more 0 begun begun (omega arith)
      ∙ ap (λ l. l ++ more begun ∷ []) (same_by more (of_number es) 0 begun (λ n low high. other_more es begun t n (λ same. omega (arith, high, same))))
      ∙ ap (λ o. by_number es begun ++ o ∷ []) (last_more es begun t are.below)

  pub numbered_more : (t : X) → AreNumbered (es ++ (begun, t) ∷ []) (begun + 1)
  numbered_more t =
      let keys : keys_of (es ++ (begun, t) ∷ []) ≡ keys_of es ++ begun ∷ [] = map-append (λ e. e.0) es ((begun, t) ∷ []) in
      record {
        ascending = subst (IsStrictlySortedBy nat_cmp) (sym keys) (sorted_behind nat_cmp begun (keys_of es) (All-weaker (λ k. k < begun) (λ k. nat_cmp k begun ≡ Less) (λ k lt. less_than begun k lt) (keys_of es) are.below) are.ascending);
        below = subst (All (λ k. k < begun + 1)) (sym keys)
            (All-push (λ k. k < begun + 1) (keys_of es) begun (All-weaker (λ k. k < begun) (λ k. k < begun + 1) (λ k lt. omega (arith, lt)) (keys_of es) are.below) (omega arith));
      }

-- None at all.
pub numbered_none : {X : Type 0} → AreNumbered {X = X} [] 0
numbered_none = record { ascending = sorted_nil nat_cmp; below = All-nil (λ k. k < 0) }
