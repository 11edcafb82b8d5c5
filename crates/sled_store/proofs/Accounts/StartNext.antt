-- The slot that an accountant hands out next where it has started is the lowest that the snapshot doesn't use, or else the one behind the file: the lowest free slot is never cut off, and where none is free nothing is.
use Rattle.std.proofs.Common.{◌≡◌, ◌∙◌, ◌||◌, ◌==◌, ◌<◌, ◌≤◌, ℕ, zero, suc, Bool, true, false, not, nat_lt, cond, if◌then◌else◌, List, [], ◌∷◌, ◌++◌, length, get_or, take, Option, Some, None, refl, sym, ap, subst, arith, inl, inr}
use Rattle.std.specs.List.{list_any}
use Rattle.std.proofs.lemmas.Bool.{and_parts, cases_eq, cases_lt, ltb-true}
use Rattle.std.proofs.lemmas.List.{append-nil}
use Rattle.std.proofs.lemmas.List.Elements.{All-contains}
use Rattle.std.proofs.lemmas.List.FromFn.{get_or-map-range_with_len, length-map-range_with_len}
use Rattle.sled_codec.specs.Snapshots.{Entry, SnapshotModel, stable_place}
use Rattle.sled_store.specs.Begin.{entries_of, slot_of, segment_number_of, slots_of, is_active, is_used, unused, first_or}
use Rattle.sled_store.specs.SegmentStates.{SlotState, is_free, free_slot, free_among, may_be_cut, left_after, next_slot}
use Rattle.sled_store.specs.SlotTables.{number_in, active_entry}
use Rattle.sled_store.specs.Started.{all_entries, used_state, found_slot, found, started}
use Rattle.sled_store.proofs.Accounts.StabilCut.{with_last}
use Rattle.sled_store.proofs.Segments.FilledLemmas.{free_below, first_there}

-- the first of a list that has one is the first of each that goes on from it
first_stays : (m n : ℕ) (ks js : List ℕ) → 0 < length ks → first_or m ks ≡ first_or n (ks ++ js)
first_stays m n [] js some = absurd (omega (arith, some))
first_stays m n (k ∷ ks) js some = refl

-- No more slots are left than there were.
pub left_below : (xs : List SlotState) (n : ℕ) → left_after n xs ≤ n
left_below xs zero = omega arith
left_below xs (suc n) = by (may_be_cut n xs) (left_below xs n)
  where
    by : (b : Bool) → left_after n xs ≤ n → (if b then left_after n xs else suc n) ≤ suc n
    by true below = omega (arith, below)
    by false below = omega arith

-- Slots that are cut off are free.
pub cut_free : (n : ℕ) (xs : List SlotState) (j : ℕ) → left_after n xs ≤ j → j < n → is_free (get_or xs j free_slot).state ≡ true
cut_free zero xs j le lt = absurd (omega (arith, lt))
cut_free (suc k) xs j le lt = by (may_be_cut k xs) refl le (cut_free k xs j)
  where
    by : (b : Bool) → may_be_cut k xs ≡ b → (if b then left_after k xs else suc k) ≤ j → (left_after k xs ≤ j → j < k → is_free (get_or xs j free_slot).state ≡ true) → is_free (get_or xs j free_slot).state ≡ true
    by true cut low rest = elim (cases_eq j k) [
      | inl is ↦ subst (λ (i : ℕ). is_free (get_or xs i free_slot).state ≡ true) (sym is) (and_parts (is_free (get_or xs k free_slot).state) (nat_lt 1 (length (free_among (take (suc k) xs)))) cut).0
      | inr other ↦ rest low (omega (arith, lt, other))
    ]
    by false stays low rest = absurd (omega (arith, low, lt))

module _ (xs : List SlotState) where
  -- one more slot at the end
  with_one : (k : ℕ) → k < length xs → free_among (take (suc k) xs) ≡ free_among (take k xs) ++ cond (is_free (get_or xs k free_slot).state) (k ∷ []) []
  with_one k lt = with_last (λ s. is_free s.state) k xs free_slot lt

  -- the slot at the end may be cut off, so a lower one is free
  lower_free : (k : ℕ) → k < length xs → may_be_cut k xs ≡ true → first_or k (free_among (take k xs)) ≡ first_or (suc k) (free_among (take (suc k) xs))
  lower_free k lt may =
      let parts = and_parts (is_free (get_or xs k free_slot).state) (nat_lt 1 (length (free_among (take (suc k) xs)))) may in
      let with_it : free_among (take (suc k) xs) ≡ free_among (take k xs) ++ k ∷ [] = with_one k lt ∙ ap (λ b. free_among (take k xs) ++ cond b (k ∷ []) []) parts.0 in
      let two : 1 < length (free_among (take (suc k) xs)) = ltb-true 1 (length (free_among (take (suc k) xs))) parts.1 in
      let some : 0 < length (free_among (take k xs)) = omega (arith, two, ap length with_it, one_more (free_among (take k xs)) k) in
      first_stays k (suc k) (free_among (take k xs)) (k ∷ []) some ∙ ap (first_or (suc k)) (sym with_it)
    where
      one_more : (ks : List ℕ) (j : ℕ) → length (ks ++ j ∷ []) ≡ suc (length ks)
      one_more [] j = refl
      one_more (i ∷ ks) j = ap suc (one_more ks j)

  -- The lowest free slot, or else the end, is the same behind the cuts.
  pub same_next : (n : ℕ) → n ≤ length xs → first_or (left_after n xs) (free_among (take (left_after n xs) xs)) ≡ first_or n (free_among (take n xs))
  same_next zero le = refl
  same_next (suc k) le = by (may_be_cut k xs) refl (same_next k (omega (arith, le)))
    where
      by : (b : Bool) → may_be_cut k xs ≡ b → first_or (left_after k xs) (free_among (take (left_after k xs) xs)) ≡ first_or k (free_among (take k xs))
          → (let left = (if b then left_after k xs else suc k) in first_or left (free_among (take left xs))) ≡ first_or (suc k) (free_among (take (suc k) xs))
      by false stays before = refl
      by true may before = before ∙ lower_free k (omega (arith, le)) may

-- there is a number
abbrev is_listed : Option ℕ → Bool
is_listed None = false
is_listed (Some n) = true

module _ (size : ℕ) where
  -- a slot with a number has an entry, and one with none has none
  listed_if : (k : ℕ) (es : List Entry) (o : Option ℕ) → number_in size k es ≡ o → list_any (λ e. slot_of size e == k) es ≡ is_listed o
  listed_if k [] o is = ap is_listed is
  listed_if k (e ∷ es) o is = by (slot_of size e == k) is (listed_if k es o)
    where
      by : (b : Bool) → (if b then Some (segment_number_of size e) else number_in size k es) ≡ o → (number_in size k es ≡ o → list_any (λ x. slot_of size x == k) es ≡ is_listed o) → (b || list_any (λ x. slot_of size x == k) es) ≡ is_listed o
      by true is rest = ap is_listed is
      by false is rest = rest is

  -- the active segment counts as an entry
  used_listed : (o : Option ℕ) (stable : ℕ) (es : List Entry) (k : ℕ) → list_any (λ e. slot_of size e == k) (active_entry stable o ++ es) ≡ is_active size o k || list_any (λ e. slot_of size e == k) es
  used_listed None stable es k = refl
  used_listed (Some a) stable es k = refl

  -- A slot is found free just where the snapshot doesn't use it.
  pub free_found : (s : SnapshotModel) (k : ℕ) → is_free (found_slot size s k (number_in size k (all_entries s))).state ≡ not (is_used size s k)
  free_found s k = by (number_in size k (all_entries s)) refl
    where
      taken : (b : Bool) → is_free (used_state b) ≡ false
      taken true = refl
      taken false = refl

      by : (o : Option ℕ) → number_in size k (all_entries s) ≡ o → is_free (found_slot size s k o).state ≡ not (is_used size s k)
      by None is = sym (ap not (sym (used_listed s.active (stable_place s.stable) (entries_of s.pages) k) ∙ listed_if k (all_entries s) None is))
      by (Some n) is = taken (is_active size s.active k) ∙ sym (ap not (sym (used_listed s.active (stable_place s.stable) (entries_of s.pages) k) ∙ listed_if k (all_entries s) (Some n) is))

  module _ (slots : ℕ) (s : SnapshotModel) where
    abbrev xs : List SlotState
    xs = (found size slots s).slots

    there : (k : ℕ) → k < slots → get_or xs k free_slot ≡ found_slot size s k (number_in size k (all_entries s))
    there k lt = get_or-map-range_with_len (λ j. found_slot size s j (number_in size j (all_entries s))) 0 slots k k free_slot lt (omega arith)

    found_long : length xs ≡ slots
    found_long = length-map-range_with_len (λ j. found_slot size s j (number_in size j (all_entries s))) 0 slots

    -- The free slots below a number are those that the snapshot doesn't use.
    pub free_unused : (n : ℕ) → n ≤ slots → free_among (take n xs) ≡ unused size n s
    free_unused zero le = refl
    free_unused (suc k) le =
        with_one xs k (omega (arith, le, found_long))
        ∙ ap (λ b. free_among (take k xs) ++ cond b (k ∷ []) []) (ap (λ (x : SlotState). is_free x.state) (there k (omega (arith, le))) ∙ free_found s k)
        ∙ ap (λ ks. ks ++ cond (not (is_used size s k)) (k ∷ []) []) (free_unused k (omega (arith, le)))
        ∙ by (is_used size s k)
      where
        by : (b : Bool) → unused size k s ++ cond (not b) (k ∷ []) [] ≡ (if b then unused size k s else unused size k s ++ k ∷ [])
        by true = append-nil (unused size k s)
        by false = refl

    -- The lowest of them, or else the end, is the same behind the cuts.
    pub lowest_left : first_or (left_after slots xs) (unused size (left_after slots xs) s) ≡ first_or slots (unused size slots s)
    lowest_left =
        ap (first_or (left_after slots xs)) (sym (free_unused (left_after slots xs) (left_below xs slots)))
        ∙ same_next xs slots (omega (arith, found_long))
        ∙ ap (first_or slots) (free_unused slots (omega arith))

    -- and it isn't cut off
    pub lowest_within : first_or slots (unused size slots s) ≤ left_after slots xs
    lowest_within = subst (λ k. k ≤ left_after slots xs) lowest_left (elim (first_there (left_after slots xs) (unused size (left_after slots xs) s)) [
      | inl there ↦ (
          let is = All-contains (λ k. (k < left_after slots xs) × (is_used size s k ≡ false)) (unused size (left_after slots xs) s) (first_or (left_after slots xs) (unused size (left_after slots xs) s)) (free_below (is_used size s) (left_after slots xs)) there in
          omega (arith, is.0))
      | inr none ↦ omega (arith, none)
    ])

    -- A slot of the file that a snapshot uses isn't cut off.
    pub used_left : (j : ℕ) → is_used size s j ≡ true → j < slots → j < left_after slots xs
    used_left j used inside = elim (cases_lt j (left_after slots xs)) [
      | inl below ↦ below
      | inr cut ↦ absurd (
          let free : is_free (get_or xs j free_slot).state ≡ true = cut_free slots xs j cut inside in
          let both : true ≡ false = sym free ∙ ap (λ (x : SlotState). is_free x.state) (there j inside) ∙ free_found s j ∙ ap not used in
          cc)
    ]

-- So it is what an accountant hands out next that has started.
pub next_started : (size len : ℕ) (s : SnapshotModel) → next_slot (started size len s).machine ≡ first_or (slots_of size len) (unused size (slots_of size len) s)
next_started size len s =
    let slots = slots_of size len in
    same_next (xs size slots s) slots (omega (arith, found_long size slots s)) ∙ ap (first_or slots) (free_unused size slots s slots (omega arith))
