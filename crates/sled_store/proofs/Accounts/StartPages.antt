-- Once its pages are linked, a slot has what its entries sum up to and the pages that have them.
use Rattle.std.proofs.Common.{◌≡◌, ◌==◌, ◌||◌, ◌∙◌, inl, inr, ℕ, suc, ◌+◌, ◌-◌, ◌^◌, ◌<◌, ◌≤◌, Bool, true, false, cond, if◌then◌else◌, List, [], ◌∷◌, ◌++◌, length, get_or, set, map, refl, sym, ap, subst, arith, length-set, get_or-set_same, get_or-set_other, append_assoc}
use Rattle.std.proofs.lemmas.Bool.Decides.{eqb_tells}
use Rattle.std.proofs.lemmas.List.{append-nil}
use Rattle.std.proofs.lemmas.List.Elements.{All-tail, All-push}
use Rattle.std.proofs.lemmas.List.Sums.{sum_by-append, sum_by-cons}
use Rattle.std.specs.List.{All, list_any}
use Rattle.std.specs.declared.cmp.Ordering.{Ordering}
use Rattle.std.specs.declared.cmp.Ordering.TheVariants.{Less, Equal, Greater}
use Rattle.std.specs.Ordering.{match_ordering, nat_cmp}
use Rattle.std.specs.BTreeSet.{insert_key}
use Rattle.sled_codec.specs.Snapshots.{Entry, Page}
use Rattle.sled_store.specs.Begin.{entries_in, entries_of, slot_of, sizes_in}
use Rattle.sled_store.specs.SegmentStates.{SlotState, counted, linked_slot, free_slot}
use Rattle.sled_store.specs.declared.segment.slot.Slot.{Slot}
use Rattle.sled_store.specs.Accounts.{slot_state}
use Rattle.sled_store.specs.Started.{pages_in}
use Rattle.sled_store.specs.inside.Starting.{entry_linked, entries_linked, pages_linked}
use Rattle.sled_store.proofs.Accounts.AccountLemmas.{length_states}
use Rattle.sled_store.proofs.Accounts.StabilIndex.{same_is, greater_is}

-- a page that is greater than others comes behind them
insert_behind : (l : List ℕ) (i : ℕ) → All (λ n. n < i) l → insert_key nat_cmp l i ≡ l ++ i ∷ []
insert_behind [] i all = refl
insert_behind (x ∷ l) i all =
    ap (λ r. match_ordering r (i ∷ x ∷ l) (x ∷ l) (x ∷ insert_key nat_cmp l i)) (greater_is i x (all 0 x (omega arith))) ∙ ap (λ t. x ∷ t) (insert_behind l i (All-tail (λ n. n < i) x l all))

-- a page that is there is not put in again
insert_again : (l : List ℕ) (i : ℕ) → insert_key nat_cmp (insert_key nat_cmp l i) i ≡ insert_key nat_cmp l i
insert_again [] i = ap (λ r. match_ordering r (i ∷ i ∷ []) (i ∷ []) (i ∷ i ∷ [])) (same_is i i refl)
insert_again (x ∷ l) i = by (nat_cmp i x) refl (insert_again l i)
  where
    by : (r : Ordering) → nat_cmp i x ≡ r → insert_key nat_cmp (insert_key nat_cmp l i) i ≡ insert_key nat_cmp l i
        → insert_key nat_cmp (match_ordering r (i ∷ x ∷ l) (x ∷ l) (x ∷ insert_key nat_cmp l i)) i ≡ match_ordering r (i ∷ x ∷ l) (x ∷ l) (x ∷ insert_key nat_cmp l i)
    by Less is h = ap (λ r. match_ordering r (i ∷ i ∷ x ∷ l) (i ∷ x ∷ l) (i ∷ insert_key nat_cmp (x ∷ l) i)) (same_is i i refl)
    by Equal is h = ap (λ r. match_ordering r (i ∷ x ∷ l) (x ∷ l) (x ∷ insert_key nat_cmp l i)) is
    by Greater is h = ap (λ r. match_ordering r (i ∷ x ∷ insert_key nat_cmp l i) (x ∷ insert_key nat_cmp l i) (x ∷ insert_key nat_cmp (insert_key nat_cmp l i) i)) is ∙ ap (λ t. x ∷ t) h

-- a slot of which more is counted, and that has a page more where one is linked
abbrev pub grown : ℕ → ℕ → Bool → SlotState → SlotState
grown i sum any s = record s { held = counted (s.held + sum); pages = cond any (insert_key nat_cmp s.pages i) s.pages }

same_but : (s : SlotState) (h : ℕ) (ps : List ℕ) → h ≡ s.held → ps ≡ s.pages → record s { held = h; pages = ps } ≡ s
same_but s h ps held pages = ap (λ n. record s { held = n; pages = ps }) held ∙ ap (λ l. record s { pages = l }) pages

both : (s : SlotState) (h j : ℕ) (ps qs : List ℕ) → h ≡ j → ps ≡ qs → record s { held = h; pages = ps } ≡ record s { held = j; pages = qs }
both s h j ps qs held pages = ap (λ n. record s { held = n; pages = ps }) held ∙ ap (λ l. record s { held = j; pages = l }) pages

-- one entry more, and then others
grown_more : (i len sum : ℕ) (b any : Bool) (s : SlotState) → s.held ≤ 2 ^ 64 - 1 → grown i sum any (cond b (linked_slot i len s) s) ≡ grown i (cond b len 0 + sum) (b || any) s
grown_more i len sum true any s small = both s _ _ _ _ (omega arith) (by any)
  where
    by : (a : Bool) → cond a (insert_key nat_cmp (insert_key nat_cmp s.pages i) i) (insert_key nat_cmp s.pages i) ≡ insert_key nat_cmp s.pages i
    by true = insert_again s.pages i
    by false = refl
grown_more i len sum false any s small = both s _ _ _ _ (omega arith) refl

one_small : (i len : ℕ) (b : Bool) (s : SlotState) → s.held ≤ 2 ^ 64 - 1 → (cond b (linked_slot i len s) s).held ≤ 2 ^ 64 - 1
one_small i len true s small = omega arith
one_small i len false s small = small

pub length_entries_linked : (size i : ℕ) (es : List Entry) (slots : List SlotState) → length (entries_linked size i es slots) ≡ length slots
length_entries_linked size i [] slots = refl
length_entries_linked size i (e ∷ es) slots = length_entries_linked size i es (entry_linked size i e slots) ∙ length-set slots (slot_of size e) _

pub length_pages_linked : (size i : ℕ) (ps : List Page) (slots : List SlotState) → length (pages_linked size i ps slots) ≡ length slots
length_pages_linked size i [] slots = refl
length_pages_linked size i (p ∷ ps) slots = length_pages_linked size (suc i) ps (entries_linked size i (entries_in p) slots) ∙ length_entries_linked size i (entries_in p) slots

module _ (size k : ℕ) where
  -- whether an entry lies in this slot
  lies : Entry → Bool
  lies e = slot_of size e == k

  one_linked : (i : ℕ) (e : Entry) (slots : List SlotState) → k < length slots
      → get_or (entry_linked size i e slots) k free_slot ≡ cond (slot_of size e == k) (linked_slot i e.2 (get_or slots k free_slot)) (get_or slots k free_slot)
  one_linked i e slots lt = elim (eqb_tells (slot_of size e) k) [
    | inl same ↦
        subst (λ j. get_or (set slots j (linked_slot i e.2 (get_or slots j free_slot))) k free_slot ≡ linked_slot i e.2 (get_or slots k free_slot)) (sym same.1) (get_or-set_same slots k (linked_slot i e.2 (get_or slots k free_slot)) free_slot lt)
        ∙ sym (ap (λ b. cond b (linked_slot i e.2 (get_or slots k free_slot)) (get_or slots k free_slot)) same.0)
    | inr other ↦
        get_or-set_other slots (slot_of size e) k (linked_slot i e.2 (get_or slots (slot_of size e) free_slot)) free_slot (λ is. other.1 (sym is))
        ∙ sym (ap (λ b. cond b (linked_slot i e.2 (get_or slots k free_slot)) (get_or slots k free_slot)) other.0)
  ]

  linked_read : (i : ℕ) (es : List Entry) (slots : List SlotState) → k < length slots → (get_or slots k free_slot).held ≤ 2 ^ 64 - 1
      → get_or (entries_linked size i es slots) k free_slot ≡ grown i (sizes_in size k es) (list_any (λ e. slot_of size e == k) es) (get_or slots k free_slot)
  linked_read i [] slots lt small = sym (same_but (get_or slots k free_slot) _ _ (omega arith) refl)
  linked_read i (e ∷ es) slots lt small =
      let s : SlotState = get_or slots k free_slot in
      let b : Bool = slot_of size e == k in
      let one : get_or (entry_linked size i e slots) k free_slot ≡ cond b (linked_slot i e.2 s) s = one_linked i e slots lt in
      let any : Bool = list_any (λ d. slot_of size d == k) es in
      linked_read i es (entry_linked size i e slots) (omega (arith, length-set slots (slot_of size e) (linked_slot i e.2 (get_or slots (slot_of size e) free_slot)))) (subst (λ (t : SlotState). t.held ≤ 2 ^ 64 - 1) (sym one) (one_small i e.2 b s small))
      ∙ ap (grown i (sizes_in size k es) any) one ∙ grown_more i e.2 (sizes_in size k es) b any s small
      ∙ ap (λ n. grown i n (b || any) s) (sym (sum_by-cons (λ (d : Entry). if slot_of size d == k then d.2 else 0) e es))

  -- the pages are greater than those that are there, and so they come behind them
  pub pages_read : (i : ℕ) (ps : List Page) (slots : List SlotState) → k < length slots → (get_or slots k free_slot).held ≤ 2 ^ 64 - 1 → All (λ n. n < i) (get_or slots k free_slot).pages
      → get_or (pages_linked size i ps slots) k free_slot
      ≡ record (get_or slots k free_slot) { held = counted ((get_or slots k free_slot).held + sizes_in size k (entries_of ps)); pages = (get_or slots k free_slot).pages ++ pages_in size k i ps }
  pages_read i [] slots lt small below = sym (same_but (get_or slots k free_slot) _ _ (omega arith) (append-nil (get_or slots k free_slot).pages))
  pages_read i (p ∷ ps) slots lt small below =
      let s : SlotState = get_or slots k free_slot in
      let any : Bool = list_any (λ d. slot_of size d == k) (entries_in p) in
      let now : List SlotState = entries_linked size i (entries_in p) slots in
      let came : get_or now k free_slot ≡ grown i (sizes_in size k (entries_in p)) any s = linked_read i (entries_in p) slots lt small in
      pages_read (suc i) ps now (omega (arith, length_entries_linked size i (entries_in p) slots)) (subst (λ (t : SlotState). t.held ≤ 2 ^ 64 - 1) (sym came) (omega arith)) (subst (λ (t : SlotState). All (λ n. n < suc i) t.pages) (sym came) (still any))
      ∙ ap (λ (t : SlotState). record t { held = counted (t.held + sizes_in size k (entries_of ps)); pages = t.pages ++ pages_in size k (suc i) ps }) came
      ∙ both s _ _ _ _ (omega (arith, sum_by-append (λ (d : Entry). if slot_of size d == k then d.2 else 0) (entries_in p) (entries_of ps))) (by any)
    where
      still : (b : Bool) → All (λ n. n < suc i) (cond b (insert_key nat_cmp (get_or slots k free_slot).pages i) (get_or slots k free_slot).pages)
      still true = subst (All (λ n. n < suc i)) (sym (insert_behind (get_or slots k free_slot).pages i below)) (All-push (λ n. n < suc i) (get_or slots k free_slot).pages i (λ j d inside. omega (arith, below j d inside)) (omega arith))
      still false = λ j d inside. omega (arith, below j d inside)

      by : (b : Bool) → cond b (insert_key nat_cmp (get_or slots k free_slot).pages i) (get_or slots k free_slot).pages ++ pages_in size k (suc i) ps
          ≡ (get_or slots k free_slot).pages ++ cond b (i ∷ pages_in size k (suc i) ps) (pages_in size k (suc i) ps)
      by true = ap (λ l. l ++ pages_in size k (suc i) ps) (insert_behind (get_or slots k free_slot).pages i below) ∙ append_assoc (get_or slots k free_slot).pages (i ∷ []) (pages_in size k (suc i) ps)
      by false = refl

-- as many slots as before
pub count_kept : (xs ys : List Slot) (l : List SlotState) → map slot_state xs ≡ l → length l ≡ length (map slot_state ys) → length xs ≡ length ys
count_kept xs ys l is same = sym (length_states xs) ∙ ap length is ∙ same ∙ length_states ys
