-- What a snapshot has in the slots of a file is found: the slots that are begun and linked are these, and an accountant may keep them.
use Rattle.std.proofs.Common.{◌≡◌, ◌==◌, ◌||◌, ◌∙◌, ◌⊎◌, inl, inr, ℕ, zero, suc, ◌+◌, ◌-◌, ◌*◌, ◌/◌, ◌^◌, ◌<◌, ◌≤◌, Bool, true, false, cond, List, [], ◌∷◌, ◌++◌, length, get_or, map, Option, Some, None, IfSome, option_map, unsigned_abs, refl, sym, ap, subst, arith}
use Rattle.std.proofs.Math.Nat.{div-mul-le_self, lt-div-mul-add}
use Rattle.std.proofs.lemmas.List.{ext_get_or, get_or_past}
use Rattle.std.proofs.lemmas.List.FromFn.{get_or-map-range_with_len, length-map-range_with_len}
use Rattle.std.proofs.lemmas.List.Elements.{All-tail, All-append}
use Rattle.std.specs.List.{All, list_any, range_with_len}
use Rattle.std.specs.Ordering.{nat_cmp}
use Rattle.std.specs.BTreeMap.{get}
use Rattle.sled_codec.specs.Snapshots.{Entry, Page, SnapshotModel, stable_place}
use Rattle.sled_store.specs.declared.segment.slot_table.SlotTable.{SlotTable}
use Rattle.sled_store.specs.Begin.{entries_in, entries_of, slot_of, segment_number_of, sizes_in, slots_of, place_at, is_active, IsPlacedIn, IsStartable, IsInReach}
use Rattle.sled_store.specs.SlotTables.{number_in, active_entry, IsSlotTable}
use Rattle.sled_store.specs.SegmentStates.{SlotState, free_slot, is_free, waited_place, waiting_among, slots_by, counted}
use Rattle.sled_store.specs.Accounts.{AreSlots}
use Rattle.sled_store.specs.Started.{pages_in, all_entries, used_state, found_slot, found}
use Rattle.sled_store.specs.inside.Starting.{begun_slot, pages_linked, FillsSlots}
use Rattle.sled_store.proofs.Segments.EntryLemmas.{no_sizes}
use Rattle.sled_store.proofs.Accounts.StartPages.{pages_read, length_pages_linked}

module _ (size : ℕ) where
  -- where no segment is found, none is found further on
  none_behind : (k : ℕ) (fs es : List Entry) → number_in size k (fs ++ es) ≡ None → (list_any (λ e. slot_of size e == k) fs ≡ false) × (number_in size k es ≡ None)
  none_behind k [] es none = (refl, none)
  none_behind k (a ∷ fs) es none = by (slot_of size a == k) none (none_behind k fs es)
    where
      by : (b : Bool) → cond b (Some (segment_number_of size a)) (number_in size k (fs ++ es)) ≡ None
          → (number_in size k (fs ++ es) ≡ None → (list_any (λ e. slot_of size e == k) fs ≡ false) × (number_in size k es ≡ None))
          → ((b || list_any (λ e. slot_of size e == k) fs) ≡ false) × (number_in size k es ≡ None)
      by true is further = absurd (cc)
      by false is further = further is

  -- then no page has an entry there
  no_pages : (k i : ℕ) (ps : List Page) → number_in size k (entries_of ps) ≡ None → pages_in size k i ps ≡ []
  no_pages k i [] none = refl
  no_pages k i (p ∷ ps) none =
      let parts = none_behind k (entries_in p) (entries_of ps) none in
      ap (λ b. cond b (i ∷ pages_in size k (suc i) ps) (pages_in size k (suc i) ps)) parts.0 ∙ no_pages k (suc i) ps parts.1

  -- the place of a segment that is found is in reach
  number_in_reach : (k n : ℕ) (es : List Entry) → All (λ e. unsigned_abs e.0 < 2 ^ 63) es → number_in size k es ≡ Some n → n * size < 2 ^ 63
  number_in_reach k n [] all is = absurd (cc)
  number_in_reach k n (e ∷ es) all is = by (slot_of size e == k) is (number_in_reach k n es (All-tail (λ (d : Entry). unsigned_abs d.0 < 2 ^ 63) e es all))
    where
      by : (b : Bool) → cond b (Some (segment_number_of size e)) (number_in size k es) ≡ Some n → (number_in size k es ≡ Some n → n * size < 2 ^ 63) → n * size < 2 ^ 63
      by true found further =
          let same : unsigned_abs e.0 / size ≡ n = cc in
          let low = div-mul-le_self (unsigned_abs e.0) size in
          let small = all 0 e (omega arith) in
          subst (λ m. m * size < 2 ^ 63) same (omega (arith, low, small))
      by false found further = further found

module _ (size slots : ℕ) (s : SnapshotModel) (t : SlotTable) (fills : FillsSlots size slots s t) where
  all_in_reach : All (λ e. unsigned_abs e.0 < 2 ^ 63) (all_entries s)
  all_in_reach = All-append (λ (e : Entry). unsigned_abs e.0 < 2 ^ 63) (active_entry (stable_place s.stable) s.active) (entries_of s.pages) (first s.active)
      (λ k d lt. let at = fills.placed k d lt in omega (arith, at.below, fills.stable))
    where
      first : (a : Option ℕ) → All (λ e. unsigned_abs e.0 < 2 ^ 63) (active_entry (stable_place s.stable) a)
      first None k d lt = absurd (omega arith)
      first (Some a) zero d lt = fills.stable
      first (Some a) (suc k) d lt = absurd (omega arith)

  place_in_reach : (k n : ℕ) → number_in size k (all_entries s) ≡ Some n → n * size < 2 ^ 63
  place_in_reach k n is = number_in_reach size k n (all_entries s) all_in_reach is

  -- the places that the table has are in reach
  pub table_in_reach : (k : ℕ) → IfSome {T = ℕ × ℕ} (get nat_cmp t.held k) (λ v. v.0 * size < 2 ^ 63)
  table_in_reach k = subst (λ (o : Option (ℕ × ℕ)). IfSome {T = ℕ × ℕ} o (λ v. v.0 * size < 2 ^ 63)) (sym (fills.table.held k)) (by (number_in size k (all_entries s)) refl)
    where
      by : (o : Option ℕ) → number_in size k (all_entries s) ≡ o → IfSome {T = ℕ × ℕ} (option_map (λ n. (n, sizes_in size k (all_entries s))) o) (λ v. v.0 * size < 2 ^ 63)
      by None is = tt
      by (Some n) is = place_in_reach k n is

  abbrev pub begun : List SlotState
  begun = map (λ k. begun_slot size s.active k (get nat_cmp t.held k)) (range_with_len 0 slots)

  linked_is : (k : ℕ) (o : Option ℕ) (b : SlotState) → number_in size k (all_entries s) ≡ o → b ≡ begun_slot size s.active k (option_map (λ n. (n, sizes_in size k (all_entries s))) o)
      → record b { held = counted (b.held + sizes_in size k (entries_of s.pages)); pages = b.pages ++ pages_in size k 0 s.pages } ≡ found_slot size s k o
  linked_is k None b none is =
      let rest = none_behind size k (active_entry (stable_place s.stable) s.active) (entries_of s.pages) none in
      let sizes : counted (0 + sizes_in size k (entries_of s.pages)) ≡ 0 = omega (arith, no_sizes size k (entries_of s.pages) rest.1) in
      ap (λ (x : SlotState). record x { held = counted (x.held + sizes_in size k (entries_of s.pages)); pages = x.pages ++ pages_in size k 0 s.pages }) is
      ∙ ap (λ n. record free_slot { held = n; pages = pages_in size k 0 s.pages }) sizes ∙ ap (λ l. record free_slot { pages = l }) (no_pages size k 0 s.pages rest.1)
  linked_is k (Some n) b has is =
      let sizes : counted (0 + sizes_in size k (entries_of s.pages)) ≡ sizes_in size k (entries_of s.pages) = omega (arith, fills.counted k) in
      ap (λ (x : SlotState). record x { held = counted (x.held + sizes_in size k (entries_of s.pages)); pages = x.pages ++ pages_in size k 0 s.pages }) is
      ∙ ap (λ h. record (found_slot size s k (Some n)) { held = h }) sizes

  -- the slots that are begun and linked are those that are found
  pub linked_found : pages_linked size 0 s.pages begun ≡ (found size slots s).slots
  linked_found = ext_get_or free_slot _ _ (length_pages_linked size 0 s.pages begun ∙ length-map-range_with_len _ 0 slots ∙ sym (length-map-range_with_len _ 0 slots)) same
    where
      same : (k : ℕ) → k < length (pages_linked size 0 s.pages begun) → get_or (pages_linked size 0 s.pages begun) k free_slot ≡ get_or (found size slots s).slots k free_slot
      same k lt =
          let long : k < length begun = omega (arith, length_pages_linked size 0 s.pages begun) in
          let inside : k < slots = omega (arith, length-map-range_with_len (λ j. begun_slot size s.active j (get nat_cmp t.held j)) 0 slots) in
          let b : SlotState = get_or begun k free_slot in
          let is : b ≡ begun_slot size s.active k (option_map (λ n. (n, sizes_in size k (all_entries s))) (number_in size k (all_entries s))) =
          get_or-map-range_with_len (λ j. begun_slot size s.active j (get nat_cmp t.held j)) 0 slots k k free_slot inside (omega arith) ∙ ap (begun_slot size s.active k) (fills.table.held k) in
          let bare = bare_slot k (number_in size k (all_entries s)) in
          pages_read size k 0 s.pages begun long (subst (λ (x : SlotState). x.held ≤ 2 ^ 64 - 1) (sym is) bare.0) (subst (λ (x : SlotState). All (λ n. n < 0) x.pages) (sym is) bare.1)
          ∙ linked_is k (number_in size k (all_entries s)) b refl is
          ∙ sym (get_or-map-range_with_len (λ j. found_slot size s j (number_in size j (all_entries s))) 0 slots k k free_slot inside (omega arith))
        where
          bare_slot : (j : ℕ) (o : Option ℕ) → let x = begun_slot size s.active j (option_map (λ n. (n, sizes_in size j (all_entries s))) o) in (x.held ≤ 2 ^ 64 - 1) × All (λ n. n < 0) x.pages
          bare_slot j None = (omega arith, λ i d less. absurd (omega arith))
          bare_slot j (Some n) = (omega arith, λ i d less. absurd (omega arith))

  -- what holds of a free slot and of each that is found holds of all
  by_slot : (P : SlotState → Type 0) → P free_slot → ((k : ℕ) → P (found_slot size s k (number_in size k (all_entries s)))) → (k : ℕ) → P (get_or (found size slots s).slots k free_slot)
  by_slot P free each k = elim (split k slots) [
    | inl inside ↦ subst P (sym (get_or-map-range_with_len (λ j. found_slot size s j (number_in size j (all_entries s))) 0 slots k k free_slot inside (omega arith))) (each k)
    | inr behind ↦ subst P (sym (get_or_past (found size slots s).slots k free_slot (omega (arith, length-map-range_with_len (λ j. found_slot size s j (number_in size j (all_entries s))) 0 slots)))) free
  ] where
    split : (a b : ℕ) → (a < b) ⊎ (b ≤ a)
    split a zero = inr (omega arith)
    split zero (suc b) = inl (omega arith)
    split (suc a) (suc b) = elim (split a b) [ inl lt ↦ inl (omega arith) | inr le ↦ inr (omega arith) ]

  pub found_slots : AreSlots slots (found size slots s).slots
  found_slots = record {
    within = omega (arith, length-map-range_with_len (λ j. found_slot size s j (number_in size j (all_entries s))) 0 slots);
    cut_off = λ k from. ap (λ (x : SlotState). is_free x.state) (get_or_past (found size slots s).slots k free_slot (omega (arith, length-map-range_with_len (λ j. found_slot size s j (number_in size j (all_entries s))) 0 slots)));
    free_slots = by_slot (λ x. is_free x.state ≡ true → x ≡ free_slot) (λ is. refl) (λ k. free_only k (number_in size k (all_entries s)));
    places = by_slot (λ x. x.lsn < 2 ^ 63) (omega arith) (λ k. reach k (number_in size k (all_entries s)) refl);
  } where
    free_only : (k : ℕ) (o : Option ℕ) → is_free (found_slot size s k o).state ≡ true → found_slot size s k o ≡ free_slot
    free_only k None is = refl
    free_only k (Some n) is = absurd (used (is_active size s.active k) is)
      where
        used : (b : Bool) → is_free (used_state b) ≡ true → ⊥
        used true is = cc
        used false is = cc

    reach : (k : ℕ) (o : Option ℕ) → number_in size k (all_entries s) ≡ o → (found_slot size s k o).lsn < 2 ^ 63
    reach k None is = omega arith
    reach k (Some n) is = place_in_reach k n is

  -- none of them waits for another segment
  pub found_waiting : waiting_among (found size slots s).slots ≡ []
  found_waiting = none 0 0 slots
    where
      waits_for : (k : ℕ) (o : Option ℕ) → waited_place (found_slot size s k o) ≡ None
      waits_for k None = refl
      waits_for k (Some n) = by (is_active size s.active k)
        where
          by : (b : Bool) → waited_place (record (found_slot size s k (Some n)) { state = used_state b }) ≡ None
          by true = refl
          by false = refl

      none : (i a n : ℕ) → slots_by waited_place i (map (λ k. found_slot size s k (number_in size k (all_entries s))) (range_with_len a n)) ≡ []
      none i a zero = refl
      none i a (suc n) = let rest = none (suc i) (a + 1) n in let first = waits_for a (number_in size a (all_entries s)) in cc

-- what was asked of the snapshot is what the slots need
pub fills_slots : (size len slots : ℕ) (s : SnapshotModel) (t : SlotTable) → 0 < size → slots ≡ slots_of size len → IsSlotTable size t (all_entries s) → IsStartable size len s → IsInReach size len s → FillsSlots size slots s t
fills_slots size len slots s t some is table may reach = record {
  table = table;
  placed = subst (λ n. All (IsPlacedIn size n (stable_place s.stable)) (entries_of s.pages)) (sym is) may.placed;
  counted = may.counted;
  stable = small (stable_place s.stable) s.active reach.places;
  in_reach = subst (λ n. n * size < 2 ^ 63) (sym is) (omega (arith, reach.slots));
} where
  small : (stable : ℕ) (a : Option ℕ) → place_at size stable a + size < 2 ^ 63 → stable < 2 ^ 63
  small stable None places = let long : stable + (size - 1) < (stable + (size - 1)) / size * size + size = lt-div-mul-add some in omega (arith, places, long, some)
  small stable (Some a) places = let long : stable < stable / size * size + size = lt-div-mul-add some in omega (arith, places, long)
