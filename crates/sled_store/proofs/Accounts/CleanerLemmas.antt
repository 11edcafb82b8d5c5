-- What becomes of the pages of a cleaner when a slot is put in or taken out.
use Rattle.std.proofs.Common.{◌≡◌, ◌≢◌, ◌∙◌, ℕ, zero, suc, ◌*◌, ◌<◌, ◌++◌, true, false, cond, Some, None, List, [], ◌∷◌, length, get_or, set, drop, map, slice_get, refl, sym, ap, subst, arith, get_or-set_same, get_or-set_other}
use Rattle.std.proofs.lemmas.List.{map-set, map-append, set-get_or}
use Rattle.std.specs.declared.cmp.Ordering.{Ordering}
use Rattle.std.specs.declared.cmp.Ordering.TheVariants.{Less, Equal, Greater}
use Rattle.std.specs.Ordering.{match_ordering, is_eq, nat_cmp}
use Rattle.std.specs.List.{All}
use Rattle.std.specs.List.Sorted.{IsStrictlySortedBy}
use Rattle.std.specs.Map.{keys_of, remove_entry}
use Rattle.std.specs.BTreeMap.{insert_entry, is_at}
use Rattle.std.specs.BTreeSet.{insert_key}
use Rattle.std.specs.Set.{remove_key}
use Rattle.std.proofs.lemmas.Cmp.{nat_cmp_total, ranked, tied_itself}
use Rattle.std.proofs.lemmas.Map.Keys.{sorted_head, sorted_tail}
use Rattle.std.proofs.lemmas.Map.Views.{All-insert_key, All-remove_key}
use Rattle.std.proofs.lemmas.List.Elements.{All-from_recursion, All-head, All-tail}
use Rattle.sled_store.specs.SegmentStates.{popped, first_page}
use Rattle.sled_store.specs.Accounts.{PageSet, left_in, with_pages, AreEntries}
use Rattle.sled_store.proofs.Sorted.SortedLemmas.{sorted_insert, sorted_remove}

itself : (k : ℕ) → nat_cmp k k ≡ Equal
itself k = tied_itself nat_cmp_total k

apart : (k j : ℕ) → is_eq (nat_cmp k j) ≡ false → j ≢ k
apart k j not same =
    let at : is_eq (nat_cmp k j) ≡ true = ap (λ n. is_eq (nat_cmp k n)) same ∙ ap is_eq (itself k) in
    absurd (cc)

sorted_below : (k j : ℕ) (js : List ℕ) → nat_cmp k j ≡ Less → IsStrictlySortedBy nat_cmp (j ∷ js) → IsStrictlySortedBy nat_cmp (k ∷ j ∷ js)
sorted_below k j js is s = subst (λ r. IsStrictlySortedBy nat_cmp (match_ordering r (k ∷ j ∷ js) (j ∷ js) (j ∷ insert_key nat_cmp js k))) is (sorted_insert nat_cmp_total k (j ∷ js) s)

-- Pages that are put where a slot has its own are seen there alone.

module _ (ps : List (List ℕ)) (k : ℕ) (v : List ℕ) where
  seen_there : k < length ps → with_pages (set ps k v) k ≡ (k, v)
  seen_there lt = ap (λ l. (k, l)) (get_or-set_same ps k v [] lt)

  unseen : (j : ℕ) → is_eq (nat_cmp k j) ≡ false → with_pages (set ps k v) j ≡ with_pages ps j
  unseen j other = ap (λ l. (j, l)) (get_or-set_other ps k j v [] (apart k j other))

  unseen_above : (js : List ℕ) → All (λ j. nat_cmp k j ≡ Less) js → map (with_pages (set ps k v)) js ≡ map (with_pages ps) js
  unseen_above [] all = refl
  unseen_above (j ∷ js) all =
      let head = unseen j (ap is_eq (All-head (λ n. nat_cmp k n ≡ Less) j js all)) in
      let tail = unseen_above js (All-tail (λ n. nat_cmp k n ≡ Less) j js all) in
      ap (λ e. e ∷ map (with_pages (set ps k v)) js) head ∙ ap (λ l. with_pages ps j ∷ l) tail

  unseen_behind : (js : List ℕ) → IsStrictlySortedBy nat_cmp (k ∷ js) → map (with_pages (set ps k v)) js ≡ map (with_pages ps) js
  unseen_behind js s = unseen_above js (All-from_recursion (λ j. nat_cmp k j ≡ Less) js (sorted_head nat_cmp k js s))

  pub seen_first : (js : List ℕ) → k < length ps → IsStrictlySortedBy nat_cmp (k ∷ js) → map (with_pages (set ps k v)) (k ∷ js) ≡ (k, v) ∷ map (with_pages ps) js
  seen_first js lt s = ap (λ e. e ∷ map (with_pages (set ps k v)) js) (seen_there lt) ∙ ap (λ l. (k, v) ∷ l) (unseen_behind js s)

  -- A slot is put in.

  pub pages_inserted : (js : List ℕ) → k < length ps → IsStrictlySortedBy nat_cmp js → map (with_pages (set ps k v)) (insert_key nat_cmp js k) ≡ insert_entry nat_cmp (map (with_pages ps) js) k v
  pages_inserted [] lt s = ap (λ e. e ∷ []) (seen_there lt)
  pages_inserted (j ∷ js) lt s = by (nat_cmp k j) refl (pages_inserted js lt (sorted_tail nat_cmp j js s))
    where
      by : (r : Ordering) → nat_cmp k j ≡ r → map (with_pages (set ps k v)) (insert_key nat_cmp js k) ≡ insert_entry nat_cmp (map (with_pages ps) js) k v
          → map (with_pages (set ps k v)) (match_ordering r (k ∷ j ∷ js) (j ∷ js) (j ∷ insert_key nat_cmp js k))
          ≡ match_ordering r ((k, v) ∷ map (with_pages ps) (j ∷ js)) ((j, v) ∷ map (with_pages ps) js) (with_pages ps j ∷ insert_entry nat_cmp (map (with_pages ps) js) k v)
      by Less is h = seen_first (j ∷ js) lt (sorted_below k j js is s)
      by Equal is h =
          let same : k ≡ j = ranked k j Equal (sym is) in
          subst (λ n. map (with_pages (set ps k v)) (n ∷ js) ≡ (n, v) ∷ map (with_pages ps) js) same (seen_first js lt (subst (λ n. IsStrictlySortedBy nat_cmp (n ∷ js)) (sym same) s))
      by Greater is h = ap (λ e. e ∷ map (with_pages (set ps k v)) (insert_key nat_cmp js k)) (unseen j (ap is_eq is)) ∙ ap (λ l. with_pages ps j ∷ l) h

  -- A slot is taken out.

  pub pages_removed : (js : List ℕ) → IsStrictlySortedBy nat_cmp js → map (with_pages (set ps k v)) (remove_key (is_at (nat_cmp k)) js) ≡ remove_entry (is_at (nat_cmp k)) (map (with_pages ps) js)
  pages_removed [] s = refl
  pages_removed (j ∷ js) s = by (nat_cmp k j) refl (pages_removed js (sorted_tail nat_cmp j js s))
    where
      by : (r : Ordering) → nat_cmp k j ≡ r → map (with_pages (set ps k v)) (remove_key (is_at (nat_cmp k)) js) ≡ remove_entry (is_at (nat_cmp k)) (map (with_pages ps) js)
          → map (with_pages (set ps k v)) (cond (is_eq r) js (j ∷ remove_key (is_at (nat_cmp k)) js)) ≡ cond (is_eq r) (map (with_pages ps) js) (with_pages ps j ∷ remove_entry (is_at (nat_cmp k)) (map (with_pages ps) js))
      by Less is h = ap (λ e. e ∷ map (with_pages (set ps k v)) (remove_key (is_at (nat_cmp k)) js)) (unseen j (ap is_eq is)) ∙ ap (λ l. with_pages ps j ∷ l) h
      by Equal is h = unseen_behind js (subst (λ n. IsStrictlySortedBy nat_cmp (n ∷ js)) (sym (ranked k j Equal (sym is))) s)
      by Greater is h = ap (λ e. e ∷ map (with_pages (set ps k v)) (remove_key (is_at (nat_cmp k)) js)) (unseen j (ap is_eq is)) ∙ ap (λ l. with_pages ps j ∷ l) h

-- the pages may stay
pub pages_without : (ps : List (List ℕ)) (k : ℕ) (js : List ℕ) → IsStrictlySortedBy nat_cmp js → map (with_pages ps) (remove_key (is_at (nat_cmp k)) js) ≡ remove_entry (is_at (nat_cmp k)) (map (with_pages ps) js)
pages_without ps k js s =
    subst (λ qs. map (with_pages qs) (remove_key (is_at (nat_cmp k)) js) ≡ remove_entry (is_at (nat_cmp k)) (map (with_pages ps) js)) (set-get_or ps k [])
    (pages_removed ps k (get_or ps k []) js s)

-- The slots stay in order, and what is so of each stays so.

module _ (ks new : List ℕ) (k : ℕ) where
  module _ (is : new ≡ insert_key nat_cmp ks k) where
    pub order_inserted : IsStrictlySortedBy nat_cmp ks → IsStrictlySortedBy nat_cmp new
    order_inserted s = subst (IsStrictlySortedBy nat_cmp) (sym is) (sorted_insert nat_cmp_total k ks s)

    pub all_inserted : (P : ℕ → Type 0) → P k → All P ks → All P new
    all_inserted P one all = subst (All P) (sym is) (All-insert_key nat_cmp k P ks all one)

  module _ (is : new ≡ remove_key (is_at (nat_cmp k)) ks) where
    pub order_removed : IsStrictlySortedBy nat_cmp ks → IsStrictlySortedBy nat_cmp new
    order_removed s = subst (IsStrictlySortedBy nat_cmp) (sym is) (sorted_remove nat_cmp_total k (is_at (nat_cmp k)) ks s)

    pub all_removed : (P : ℕ → Type 0) → All P ks → All P new
    all_removed P all = subst (All P) (sym is) (All-remove_key (is_at (nat_cmp k)) P ks all)

keys_are : (ps : List (List ℕ)) (ks : List ℕ) → keys_of (map (with_pages ps) ks) ≡ ks
keys_are ps [] = refl
keys_are ps (k ∷ ks) = ap (λ l. k ∷ l) (keys_are ps ks)

entries_are : (count : ℕ) (ps : List (List ℕ)) (ks : List ℕ) → IsStrictlySortedBy nat_cmp ks → All (λ k. k < count) ks → AreEntries count (map (with_pages ps) ks)
entries_are count ps ks s all = record {
  ascending = subst (IsStrictlySortedBy nat_cmp) (sym (keys_are ps ks)) s;
  below = subst (All (λ k. k < count)) (sym (keys_are ps ks)) all;
}

slots_below : (count : ℕ) (ps : List (List ℕ)) (ks : List ℕ) → AreEntries count (map (with_pages ps) ks) → All (λ k. k < count) ks
slots_below count ps ks are = subst (All (λ k. k < count)) (keys_are ps ks) are.below

module _ (count : ℕ) (ps qs : List (List ℕ)) (ks : List ℕ) (s : IsStrictlySortedBy nat_cmp ks) (are : AreEntries count (map (with_pages ps) ks)) where
  -- the pages alone are others
  pub tied_same : AreEntries count (map (with_pages qs) ks)
  tied_same = entries_are count qs ks s (slots_below count ps ks are)

  pub tied_inserted : (new : List ℕ) (k : ℕ) → new ≡ insert_key nat_cmp ks k → k < count → AreEntries count (map (with_pages qs) new)
  tied_inserted new k is lt = entries_are count qs new (order_inserted ks new k is s) (all_inserted ks new k is (λ n. n < count) lt (slots_below count ps ks are))

  pub tied_removed : (new : List ℕ) (k : ℕ) → new ≡ remove_key (is_at (nat_cmp k)) ks → AreEntries count (map (with_pages qs) new)
  tied_removed new k is = entries_are count qs new (order_removed ks new k is s) (all_removed ks new k is (λ n. n < count) (slots_below count ps ks are))

-- The same of entries.

pub left_at : (es : List PageSet) (k : ℕ) (d : PageSet) → k < length es → d ≡ get_or es k d → left_in d ≡ get_or (map left_in es) k []
left_at [] k d lt is = absurd (omega arith)
left_at (e ∷ es) zero d lt is = ap left_in is
left_at (e ∷ es) (suc k) d lt is = left_at es k d (omega arith) is

module _ (es : List PageSet) (k : ℕ) (e : PageSet) (ks : List ℕ) where
  pub entries_put : (v : List ℕ) → left_in e ≡ v → map (with_pages (map left_in (set es k e))) ks ≡ map (with_pages (set (map left_in es) k v)) ks
  entries_put v is = ap (λ qs. map (with_pages qs) ks) (map-set left_in es k e ∙ ap (set (map left_in es) k) is)

  pub entries_added : map (with_pages (map left_in (es ++ e ∷ []))) ks ≡ map (with_pages (map left_in es ++ left_in e ∷ [])) ks
  entries_added = ap (λ qs. map (with_pages qs) ks) (map-append left_in es (e ∷ []))

-- one more entry with no pages is like none
left_behind : (ps : List (List ℕ)) (k : ℕ) → get_or (ps ++ [] ∷ []) k [] ≡ get_or ps k []
left_behind [] zero = refl
left_behind [] (suc k) = refl
left_behind (p ∷ ps) zero = refl
left_behind (p ∷ ps) (suc k) = left_behind ps k

pub pages_behind : (ps : List (List ℕ)) (ks : List ℕ) → map (with_pages (ps ++ [] ∷ [])) ks ≡ map (with_pages ps) ks
pages_behind ps [] = refl
pages_behind ps (k ∷ ks) = ap (λ l. (k, l) ∷ map (with_pages (ps ++ [] ∷ [])) ks) (left_behind ps k) ∙ ap (λ l. with_pages ps k ∷ l) (pages_behind ps ks)

-- A page is asked for, of the first slot.

same_some : {a b : ℕ} → Some a ≡ Some b → a ≡ b
same_some is = cc

first_of : (size k p : ℕ) (l : List ℕ) (es : List (ℕ × List ℕ)) → Some p ≡ slice_get l 0 → first_page size ((k, l) ∷ es) ≡ Some (p, k * size)
first_of size k p [] es page = absurd (cc)
first_of size k p (q ∷ l) es page = ap (λ n. Some (n, k * size)) (sym (same_some page))

popped_of : (k p : ℕ) (l : List ℕ) (es : List (ℕ × List ℕ)) → Some p ≡ slice_get l 0 → (k, drop 1 l) ∷ es ≡ popped ((k, l) ∷ es)
popped_of k p [] es page = absurd (cc)
popped_of k p (q ∷ l) es page = refl

none_of : (l : List ℕ) → None ≡ slice_get l 0 → l ≡ []
none_of [] page = refl
none_of (q ∷ l) page = absurd (cc)

pub all_first : (P : ℕ → Type 0) (k : ℕ) (ks : List ℕ) → Some k ≡ slice_get ks 0 → All P ks → P k
all_first P k [] first all = absurd (cc)
all_first P k (j ∷ js) first all = subst P (sym (same_some first)) (All-head P j js all)

module _ (k : ℕ) (ps : List (List ℕ)) where
  module _ (p : ℕ) (page : Some p ≡ slice_get (get_or ps k []) 0) where
    pub page_first : (size : ℕ) (ks : List ℕ) → Some k ≡ slice_get ks 0 → Some (p, k * size) ≡ first_page size (map (with_pages ps) ks)
    page_first size [] first = absurd (cc)
    page_first size (j ∷ js) first =
        subst (λ n. Some (p, k * size) ≡ first_page size (with_pages ps n ∷ map (with_pages ps) js)) (same_some first) (sym (first_of size k p (get_or ps k []) (map (with_pages ps) js) page))

    pub left_first : (ks : List ℕ) → Some k ≡ slice_get ks 0 → k < length ps → IsStrictlySortedBy nat_cmp ks → map (with_pages (set ps k (drop 1 (get_or ps k [])))) ks ≡ popped (map (with_pages ps) ks)
    left_first [] first lt s = absurd (cc)
    left_first (j ∷ js) first lt s =
        let same : j ≡ k = sym (same_some first) in
        let v : List ℕ = drop 1 (get_or ps k []) in
        subst (λ n. map (with_pages (set ps k v)) (n ∷ js) ≡ popped (map (with_pages ps) (n ∷ js))) (same_some first)
        (seen_first ps k v js lt (subst (λ n. IsStrictlySortedBy nat_cmp (n ∷ js)) same s) ∙ popped_of k p (get_or ps k []) (map (with_pages ps) js) page)

  module _ (page : None ≡ slice_get (get_or ps k []) 0) where
    empty_there : get_or ps k [] ≡ []
    empty_there = none_of (get_or ps k []) page

    pub none_first : (size : ℕ) (ks : List ℕ) → Some k ≡ slice_get ks 0 → None ≡ first_page size (map (with_pages ps) ks)
    none_first size [] first = absurd (cc)
    none_first size (j ∷ js) first =
        subst (λ n. None ≡ first_page size (with_pages ps n ∷ map (with_pages ps) js)) (same_some first)
        (ap (λ l. first_page size ((k, l) ∷ map (with_pages ps) js)) (sym empty_there))

    -- what is left is as it was, and the slot goes
    pub gone_first : (ks : List ℕ) → Some k ≡ slice_get ks 0 → remove_entry (is_at (nat_cmp k)) (map (with_pages (set ps k (drop 1 (get_or ps k [])))) ks) ≡ popped (map (with_pages ps) ks)
    gone_first ks first = ap (λ qs. remove_entry (is_at (nat_cmp k)) (map (with_pages qs) ks)) as_before ∙ without ks first
      where
        as_before : set ps k (drop 1 (get_or ps k [])) ≡ ps
        as_before = ap (λ l. set ps k (drop 1 l)) empty_there ∙ ap (set ps k) (sym empty_there) ∙ set-get_or ps k []

        without : (ks : List ℕ) → Some k ≡ slice_get ks 0 → remove_entry (is_at (nat_cmp k)) (map (with_pages ps) ks) ≡ popped (map (with_pages ps) ks)
        without [] first = refl
        without (j ∷ js) first =
            let es : List (ℕ × List ℕ) = map (with_pages ps) js in
            subst (λ n. cond (is_eq (nat_cmp k n)) es (with_pages ps n ∷ remove_entry (is_at (nat_cmp k)) es) ≡ popped (with_pages ps n ∷ es)) (same_some first)
            (ap (λ r. cond (is_eq r) es (with_pages ps k ∷ remove_entry (is_at (nat_cmp k)) es)) (itself k) ∙ ap (λ l. popped ((k, l) ∷ es)) (sym empty_there))
