-- Entries behind ascending keys: where a search of the keys ends says what becomes of the entries.
use Rattle.std.proofs.Common.{◌≡◌, ◌∙◌, ℕ, zero, suc, ◌<◌, ◌≤◌, Bool, true, false, cond, ◌||◌, List, [], ◌∷◌, Some, None, length, get_or, set, refl, sym, ap, arith}
use Rattle.std.specs.declared.cmp.Ordering.{Ordering}
use Rattle.std.specs.declared.cmp.Ordering.TheVariants.{Less, Equal, Greater}
use Rattle.std.specs.Ordering.{match_ordering, is_eq}
use Rattle.std.specs.Cmp.{IsTotalOrder}
use Rattle.std.specs.List.{list_any, insert, remove}
use Rattle.std.specs.List.Sorted.{IsStrictlySortedBy, IsPartitionPoint}
use Rattle.std.specs.BTreeMap.{is_at, insert_entry}
use Rattle.std.specs.BTreeSet.{insert_key}
use Rattle.std.specs.Map.{keys_of, lookup, remove_entry}
use Rattle.std.specs.Set.{remove_key}
use Rattle.std.proofs.lemmas.List.{get_or-map, length-map}
use Rattle.std.proofs.lemmas.Map.Keys.{sorted_tail}
use Rattle.sled_store.proofs.Sorted.SortedLemmas.{turned, past_head, rest_split}

-- The keys of entries.

pub keys_inserted : {K V : Type 0} (R : K → K → Ordering) (x : K) (v : V) (es : List (K × V)) → keys_of (insert_entry R es x v) ≡ insert_key R (keys_of es) x
keys_inserted R x v [] = refl
keys_inserted R x v (e ∷ es) = by (R x e.0) (keys_inserted R x v es)
  where
    by : (r : Ordering) → keys_of (insert_entry R es x v) ≡ insert_key R (keys_of es) x
        → keys_of (match_ordering r ((x, v) ∷ e ∷ es) ((e.0, v) ∷ es) (e ∷ insert_entry R es x v)) ≡ match_ordering r (x ∷ e.0 ∷ keys_of es) (e.0 ∷ keys_of es) (e.0 ∷ insert_key R (keys_of es) x)
    by Less h = refl
    by Equal h = refl
    by Greater h = ap (λ l. e.0 ∷ l) h

pub keys_removed : {K V : Type 0} (test : K → Bool) (es : List (K × V)) → keys_of (remove_entry test es) ≡ remove_key test (keys_of es)
keys_removed test [] = refl
keys_removed test (e ∷ es) = by (test e.0) (keys_removed test es)
  where
    by : (b : Bool) → keys_of (remove_entry test es) ≡ remove_key test (keys_of es) → keys_of (cond b es (e ∷ remove_entry test es)) ≡ cond b (keys_of es) (e.0 ∷ remove_key test (keys_of es))
    by true h = refl
    by false h = ap (λ l. e.0 ∷ l) h

pub key_at : {K V : Type 0} (es : List (K × V)) (i : ℕ) (e : K × V) → i < length es → e ≡ get_or es i e → e.0 ≡ get_or (keys_of es) i e.0
key_at es i e lt is = ap (λ p. p.0) is ∙ sym (get_or-map (λ p. p.0) es i e e.0 lt)

pub within_keys : {K V : Type 0} (es : List (K × V)) (i : ℕ) → i < length es → i < length (keys_of es)
within_keys es i lt = let same : length (keys_of es) ≡ length es = length-map es (λ p. p.0) in omega arith

module _ {K V : Type 0} {R : K → K → Ordering} (o : IsTotalOrder R) (x : K) where
  -- The key was found at an index.

  pub found_set : (es : List (K × V)) (i : ℕ) (e : K × V) (v : V) → IsStrictlySortedBy R (keys_of es) → i < length es → ((d : K) → R (get_or (keys_of es) i d) x ≡ Equal)
      → e ≡ get_or es i e → set es i (e.0, v) ≡ insert_entry R es x v
  found_set [] i e v s lt is at = absurd (omega arith)
  found_set (y ∷ es) zero e v s lt is at =
      ap (λ p. (p.0, v) ∷ es) at
      ∙ sym (ap (λ r. match_ordering r ((x, v) ∷ y ∷ es) ((y.0, v) ∷ es) (y ∷ insert_entry R es x v)) (turned o x y.0 Equal (is y.0)))
  found_set (y ∷ es) (suc i) e v s lt is at =
      ap (λ l. y ∷ l) (found_set es i e v (sorted_tail R y.0 (keys_of es) s) (omega arith) is at)
      ∙ sym (ap (λ r. match_ordering r ((x, v) ∷ y ∷ es) ((y.0, v) ∷ es) (y ∷ insert_entry R es x v)) (past_head o x y.0 (keys_of es) i s (within_keys es i (omega arith)) is))

  pub found_value : (es : List (K × V)) (i : ℕ) (e : K × V) → IsStrictlySortedBy R (keys_of es) → i < length es → ((d : K) → R (get_or (keys_of es) i d) x ≡ Equal)
      → e ≡ get_or es i e → Some e.1 ≡ lookup (is_at (R x)) es
  found_value [] i e s lt is at = absurd (omega arith)
  found_value (y ∷ es) zero e s lt is at =
      ap (λ p. Some p.1) at
      ∙ sym (ap (λ r. cond (is_eq r) (Some y.1) (lookup (is_at (R x)) es)) (turned o x y.0 Equal (is y.0)))
  found_value (y ∷ es) (suc i) e s lt is at =
      found_value es i e (sorted_tail R y.0 (keys_of es) s) (omega arith) is at
      ∙ sym (ap (λ r. cond (is_eq r) (Some y.1) (lookup (is_at (R x)) es)) (past_head o x y.0 (keys_of es) i s (within_keys es i (omega arith)) is))

  pub found_taken : (es : List (K × V)) (i : ℕ) → IsStrictlySortedBy R (keys_of es) → i < length es → ((d : K) → R (get_or (keys_of es) i d) x ≡ Equal)
      → remove es i ≡ remove_entry (is_at (R x)) es
  found_taken [] i s lt is = absurd (omega arith)
  found_taken (y ∷ es) zero s lt is = sym (ap (λ r. cond (is_eq r) es (y ∷ remove_entry (is_at (R x)) es)) (turned o x y.0 Equal (is y.0)))
  found_taken (y ∷ es) (suc i) s lt is =
      ap (λ l. y ∷ l) (found_taken es i (sorted_tail R y.0 (keys_of es) s) (omega arith) is)
      ∙ sym (ap (λ r. cond (is_eq r) es (y ∷ remove_entry (is_at (R x)) es)) (past_head o x y.0 (keys_of es) i s (within_keys es i (omega arith)) is))

  -- The key is missing, and belongs at an index.

  pub missing_put : (es : List (K × V)) (i : ℕ) (v : V) → i ≤ length es → IsPartitionPoint (λ z. R z x ≡ Less) (λ z. R z x ≡ Greater) (keys_of es) i
      → insert es i (x, v) ≡ insert_entry R es x v
  missing_put [] zero v le p = refl
  missing_put [] (suc i) v le p = absurd (omega arith)
  missing_put (y ∷ es) zero v le p =
      sym (ap (λ r. match_ordering r ((x, v) ∷ y ∷ es) ((y.0, v) ∷ es) (y ∷ insert_entry R es x v)) (turned o x y.0 Greater (p.1 0 y.0 (omega arith) (omega arith))))
  missing_put (y ∷ es) (suc i) v le p =
      ap (λ l. y ∷ l) (missing_put es i v (omega arith) (rest_split o x y.0 (keys_of es) i p))
      ∙ sym (ap (λ r. match_ordering r ((x, v) ∷ y ∷ es) ((y.0, v) ∷ es) (y ∷ insert_entry R es x v)) (turned o x y.0 Less (p.0 0 y.0 (omega arith) (omega arith))))

-- A key that no entry has.

pub missing_value : {K V : Type 0} (test : K → Bool) (es : List (K × V)) → list_any test (keys_of es) ≡ false → None ≡ lookup test es
missing_value test [] lacks = refl
missing_value test (y ∷ es) lacks = by (test y.0) lacks (missing_value test es)
  where
    by : (b : Bool) → (b || list_any test (keys_of es)) ≡ false → (list_any test (keys_of es) ≡ false → None ≡ lookup test es) → None ≡ cond b (Some y.1) (lookup test es)
    by true lacks further = absurd (cc)
    by false lacks further = further lacks

pub missing_taken : {K V : Type 0} (test : K → Bool) (es : List (K × V)) → list_any test (keys_of es) ≡ false → remove_entry test es ≡ es
missing_taken test [] lacks = refl
missing_taken test (y ∷ es) lacks = by (test y.0) lacks (missing_taken test es)
  where
    by : (b : Bool) → (b || list_any test (keys_of es)) ≡ false → (list_any test (keys_of es) ≡ false → remove_entry test es ≡ es) → cond b es (y ∷ remove_entry test es) ≡ y ∷ es
    by true lacks further = absurd (cc)
    by false lacks further = ap (λ l. y ∷ l) (further lacks)
