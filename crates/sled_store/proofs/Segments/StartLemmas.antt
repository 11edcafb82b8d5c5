-- A snapshot that a log can begin from: by its entries, and those with the active segment before them.
use Rattle.std.proofs.Common.{◌≡◌, ◌≢◌, ◌↔◌, ◌==◌, ◌||◌, ◌∙◌, ◌+◌, ◌/◌, ◌^◌, ◌<◌, inl, inr, ℕ, pos, Bool, true, false, if◌then◌else◌, List, [], ◌∷◌, ◌++◌, Option, Some, None, option_map, is_some, IfSome, refl, sym, ap, subst, arith}
use Rattle.std.specs.List.{All, Contains, list_any}
use Rattle.std.specs.Ordering.{nat_cmp}
use Rattle.std.specs.BTreeMap.{get}
use Rattle.std.proofs.lemmas.List.Elements.{Contains-append_left, Contains-append_right, Contains-push, All-contains, All-contains_itself}
use Rattle.std.proofs.lemmas.List.Sums.{sum_by-cons}
use Rattle.sled_codec.specs.declared.result.DiskPtr.TheVariants.{Inline}
use Rattle.sled_codec.specs.Snapshots.{Entry, Page, Uninitialized, SnapshotModel, is_sound, stable_place}
use Rattle.sled_store.specs.declared.segment.slot_table.SlotTable.{SlotTable}
use Rattle.sled_store.specs.Begin.{slot_of, segment_number_of, slots_of, sizes_in, entries_of, AreApart, IsPlacedIn, MayBeActive, IsStartable, is_active, is_used}
use Rattle.sled_store.specs.SlotTables.{number_in, AreFit, IsSlotTable, active_entry}
use Rattle.sled_store.proofs.Segments.Elements.{in_cases}

module _ (size : ℕ) where
  -- one entry may lie alone
  pub fit_alone : (e : Entry) → e.2 < 2 ^ 63 → AreFit size (e ∷ [])
  fit_alone e small = record {
    apart = λ c d has_c has_d.
        let c_is = only c has_c in
        let d_is = only d has_d in
        (λ _. ap (segment_number_of size) (sym c_is ∙ d_is), λ _. ap (slot_of size) (sym c_is ∙ d_is));
    counted = λ k.
        let sum : sizes_in size k (e ∷ []) ≡ (if slot_of size e == k then e.2 else 0) + sizes_in size k [] = sum_by-cons (λ (d : Entry). if slot_of size d == k then d.2 else 0) e [] in
        let less : (if slot_of size e == k then e.2 else 0) < 2 ^ 63 = by (slot_of size e == k) in
        let none : sizes_in size k [] ≡ 0 = refl in
        omega (arith, sum, less, none);
  }
    where
      only : (c : Entry) → Contains (e ∷ []) c → e ≡ c
      only c has = elim (in_cases e c [] has) [ inl is ↦ is | inr none ↦ absurd (let lt = none.1 in omega arith) ]

      by : (b : Bool) → (if b then e.2 else 0) < 2 ^ 63
      by true = small
      by false = omega arith

  -- the active segment adds no bytes
  sizes_active : (k stable : ℕ) (active : Option ℕ) (es : List Entry) → sizes_in size k (active_entry stable active ++ es) ≡ sizes_in size k es
  sizes_active k stable None es = refl
  sizes_active k stable (Some a) es = sum_by-cons (λ (d : Entry). if slot_of size d == k then d.2 else 0) (pos stable, Inline a, 0) es ∙ by (a / size == k)
    where
      by : (b : Bool) → (if b then 0 else 0) + sizes_in size k es ≡ sizes_in size k es
      by true = omega arith
      by false = omega arith

  -- entries lie beside the active segment
  abbrev AreBeside : ℕ → List Entry → ℕ → Type 0
  AreBeside stable es a = All (λ e. (slot_of size e ≡ a / size) ↔ (segment_number_of size e ≡ stable / size)) es

  -- entries that may lie together with the active segment lie beside it
  beside_active : (stable : ℕ) (active : Option ℕ) (es : List Entry) → AreApart size (active_entry stable active ++ es) → IfSome active (AreBeside stable es)
  beside_active stable None es apart = tt
  beside_active stable (Some a) es apart = λ k d lt.
      let first : Entry = (pos stable, Inline a, 0) in
      apart _ first (Contains-append_right (first ∷ []) es _ (All-contains_itself es k d lt)) (Contains-append_left (first ∷ []) es first (Contains-push [] first))

  -- and the other way round
  apart_active : (stable : ℕ) (active : Option ℕ) (es : List Entry) → AreApart size es → IfSome active (AreBeside stable es) → AreApart size (active_entry stable active ++ es)
  apart_active stable None es apart beside d e has_d has_e = apart d e has_d has_e
  apart_active stable (Some a) es apart beside d e has_d has_e =
      let first : Entry = (pos stable, Inline a, 0) in
      let P : Entry → Type 0 = λ c. (slot_of size c ≡ a / size) ↔ (segment_number_of size c ≡ stable / size) in
      elim (in_cases first d es has_d) [
        | inl is_d ↦ elim (in_cases first e es has_e) [
          | inl is_e ↦ (λ _. ap (segment_number_of size) (sym is_d ∙ is_e), λ _. ap (slot_of size) (sym is_d ∙ is_e))
          | inr in_e ↦ (
              let both = All-contains P es e beside in_e in
              subst (λ (c : Entry). (slot_of size c ≡ slot_of size e) ↔ (segment_number_of size c ≡ segment_number_of size e)) is_d (λ same. sym (both.0 (sym same)), λ same. sym (both.1 (sym same)))
              )
        ]
        | inr in_d ↦ elim (in_cases first e es has_e) [
          | inl is_e ↦ subst (λ (c : Entry). (slot_of size d ≡ slot_of size c) ↔ (segment_number_of size d ≡ segment_number_of size c)) is_e (All-contains P es d beside in_d)
          | inr in_e ↦ apart d e in_d in_e
        ]
      ]

  -- what the active segment and the entries of a snapshot have to be
  pub startable : (len : ℕ) (s : SnapshotModel) → is_sound s ≡ true → All (λ p. p ≢ Uninitialized) s.pages → IfSome s.active (MayBeActive size (slots_of size len) (stable_place s.stable))
      → All (IsPlacedIn size (slots_of size len) (stable_place s.stable)) (entries_of s.pages) → AreFit size (active_entry (stable_place s.stable) s.active ++ entries_of s.pages) → IsStartable size len s
  startable len s sound seen active placed fit =
      let es : List Entry = entries_of s.pages in
      let first : List Entry = active_entry (stable_place s.stable) s.active in
      record {
        sound = sound;
        seen = seen;
        active = active;
        placed = placed;
        apart = λ d e has_d has_e. fit.apart d e (Contains-append_right first es d has_d) (Contains-append_right first es e has_e);
        of_active = beside_active (stable_place s.stable) s.active es fit.apart;
        counted = λ k. let sum = sizes_active k (stable_place s.stable) s.active es in omega (arith, sum, fit.counted k);
      }

  -- the entries of such a snapshot may lie together with its active segment
  pub startable_fits : (len : ℕ) (s : SnapshotModel) → IsStartable size len s → AreFit size (active_entry (stable_place s.stable) s.active ++ entries_of s.pages)
  startable_fits len s may = record {
    apart = apart_active (stable_place s.stable) s.active (entries_of s.pages) may.apart may.of_active;
    counted = λ k. let sum = sizes_active k (stable_place s.stable) s.active (entries_of s.pages) in omega (arith, sum, may.counted k);
  }

  -- a slot is used where the book has it
  has_number : (f : ℕ → ℕ × ℕ) (k : ℕ) (es : List Entry) → is_some (option_map f (number_in size k es)) ≡ list_any (λ e. slot_of size e == k) es
  has_number f k [] = refl
  has_number f k (e ∷ es) = by (has_number f k es) (slot_of size e == k)
    where
      by : is_some (option_map f (number_in size k es)) ≡ list_any (λ d. slot_of size d == k) es → (b : Bool)
          → is_some (option_map f (if b then Some (segment_number_of size e) else number_in size k es)) ≡ (b || list_any (λ d. slot_of size d == k) es)
      by others true = refl
      by others false = others

  -- the slots of the active segment and of entries
  any_active : (k stable : ℕ) (active : Option ℕ) (es : List Entry) → list_any (λ e. slot_of size e == k) (active_entry stable active ++ es) ≡ (is_active size active k || list_any (λ e. slot_of size e == k) es)
  any_active k stable None es = refl
  any_active k stable (Some a) es = refl

  pub used_where : (b : SlotTable) (s : SnapshotModel) → IsSlotTable size b (active_entry (stable_place s.stable) s.active ++ entries_of s.pages) → (k : ℕ) → is_some (get nat_cmp b.held k) ≡ is_used size s k
  used_where b s booked k =
      let es : List Entry = active_entry (stable_place s.stable) s.active ++ entries_of s.pages in
      ap (λ (o : Option (ℕ × ℕ)). is_some o) (booked.held k) ∙ has_number (λ n. (n, sizes_in size k es)) k es ∙ any_active k (stable_place s.stable) s.active (entries_of s.pages)

  -- The same, where the numbers and the pages are given by themselves.

  module _ (len : ℕ) (s : SnapshotModel) (slots stable : ℕ) (pages : List Page) (slots_is : slots ≡ slots_of size len) (stable_is : stable ≡ stable_place s.stable) (pages_is : pages ≡ s.pages) where
    pub startable_at : is_sound s ≡ true → All (λ p. p ≢ Uninitialized) pages → IfSome s.active (MayBeActive size slots stable) → All (IsPlacedIn size slots stable) (entries_of pages)
        → AreFit size (active_entry stable s.active ++ entries_of pages) → IsStartable size len s
    startable_at sound seen active placed fit =
        startable len s sound (subst (All (λ p. p ≢ Uninitialized)) pages_is seen) (active_moved active)
        (subst (λ (ps : List Page). All (IsPlacedIn size (slots_of size len) (stable_place s.stable)) (entries_of ps)) pages_is
        (subst (λ n. All (IsPlacedIn size (slots_of size len) n) (entries_of pages)) stable_is (subst (λ n. All (IsPlacedIn size n stable) (entries_of pages)) slots_is placed)))
        (fit_moved fit)
      where
        active_moved : IfSome s.active (MayBeActive size slots stable) → IfSome s.active (MayBeActive size (slots_of size len) (stable_place s.stable))
        active_moved active = subst (λ n. IfSome s.active (MayBeActive size (slots_of size len) n)) stable_is (subst (λ n. IfSome s.active (MayBeActive size n stable)) slots_is active)

        fit_moved : AreFit size (active_entry stable s.active ++ entries_of pages) → AreFit size (active_entry (stable_place s.stable) s.active ++ entries_of s.pages)
        fit_moved fit = subst (λ (ps : List Page). AreFit size (active_entry (stable_place s.stable) s.active ++ entries_of ps)) pages_is (subst (λ n. AreFit size (active_entry n s.active ++ entries_of pages)) stable_is fit)

    pub active_there : IsStartable size len s → IfSome s.active (MayBeActive size slots stable)
    active_there may = subst (λ n. IfSome s.active (MayBeActive size slots n)) (sym stable_is) (subst (λ n. IfSome s.active (MayBeActive size n (stable_place s.stable))) (sym slots_is) may.active)

    pub seen_there : IsStartable size len s → All (λ p. p ≢ Uninitialized) pages
    seen_there may = subst (All (λ p. p ≢ Uninitialized)) (sym pages_is) may.seen

    pub placed_there : IsStartable size len s → All (IsPlacedIn size slots stable) (entries_of pages)
    placed_there may =
        subst (λ n. All (IsPlacedIn size n stable) (entries_of pages)) (sym slots_is)
        (subst (λ n. All (IsPlacedIn size (slots_of size len) n) (entries_of pages)) (sym stable_is)
        (subst (λ (ps : List Page). All (IsPlacedIn size (slots_of size len) (stable_place s.stable)) (entries_of ps)) (sym pages_is) may.placed))

    pub fit_there : IsStartable size len s → AreFit size (active_entry stable s.active ++ entries_of pages)
    fit_there may =
        subst (λ n. AreFit size (active_entry n s.active ++ entries_of pages)) (sym stable_is)
        (subst (λ (ps : List Page). AreFit size (active_entry (stable_place s.stable) s.active ++ entries_of ps)) (sym pages_is) (startable_fits len s may))

    pub used_there : (b : SlotTable) → IsSlotTable size b (active_entry stable s.active ++ entries_of pages) → (k : ℕ) → is_some (get nat_cmp b.held k) ≡ is_used size s k
    used_there b booked =
        used_where b s (subst (λ (ps : List Page). IsSlotTable size b (active_entry (stable_place s.stable) s.active ++ entries_of ps)) pages_is (subst (λ n. IsSlotTable size b (active_entry n s.active ++ entries_of pages)) stable_is booked))
