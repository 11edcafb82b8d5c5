-- The first active segment, and those that a mark leaves behind.
use Rattle.std.proofs.Common.{◌≡◌, ◌∙◌, ℕ, ℤ, pos, negsuc, ◌+◌, ◌-◌, ◌*◌, ◌/◌, ◌<◌, ◌≤◌, ◌^◌, true, false, cond, List, [], ◌∷◌, length, get_or, drop, filter, Option, None, Some, refl, sym, ap, subst, inl, inr, arith, nat_le, unsigned_abs}
use Rattle.std.proofs.lemmas.Bool.{le-leb, lt-leb, ltb-true}
use lib.Signed.{lt_z}
use Rattle.std.specs.List.{All, slice_get}
use Rattle.std.specs.List.Sorted.{IsStrictlySortedBy}
use Rattle.std.specs.declared.cmp.Ordering.TheVariants.{Less, Greater}
use Rattle.std.specs.Ordering.{ordering_then, is_eq, nat_cmp}
use Rattle.std.specs.BTreeMap.{is_at}
use Rattle.std.specs.Set.{remove_key}
use Rattle.std.proofs.lemmas.Cmp.{tied_itself}
use Rattle.std.proofs.lemmas.Bool.Decides.{nat_tests}
use Rattle.std.proofs.lemmas.Map.Keys.{sorted_head, sorted_tail}
use Rattle.std.proofs.lemmas.List.Elements.{All-from_recursion}
use Rattle.sled_store.specs.SegmentStates.{active_place, active_among, by_place, free_slot, is_due, slot_at}
use Rattle.sled_store.specs.declared.segment.accountant.SegmentAccountant.{SegmentAccountant}
use Rattle.sled_store.specs.Accounts.{IsAccountant, machine_of}
use Rattle.sled_store.proofs.Accounts.IndexLemmas.{by_place_total}
use Rattle.sled_store.proofs.Accounts.StabilIndex.{HasPlace, have_places, sorted_slots_by}
use Rattle.sled_store.proofs.Accounts.StabilSlots.{active_at}
use Rattle.sled_store.proofs.Accounts.StabilFirst.{compare_places, first_and_rest}

-- the active segments that a mark leaves behind
abbrev pub due_among : ℕ → ℤ → List (ℕ × ℕ) → List (ℕ × ℕ)
due_among size mark ws = filter (λ a. is_due size mark a.0) ws

le_down : (i j size limit : ℕ) → i ≤ j → nat_le (i + size) limit ≡ false → nat_le (j + size) limit ≡ false
le_down i j size limit le is = grind (arith, nat_tests)

-- what lies above one that is not due is not due
not_due : (size : ℕ) (mark : ℤ) (i j : ℕ) → i ≤ j → is_due size mark i ≡ false → is_due size mark j ≡ false
not_due size (pos mark) i j le is = le_down i j size (mark / size * size) le is
not_due size (negsuc mark) i j le is = refl

module _ (size : ℕ) (mark : ℤ) where
  skips : (w : ℕ × ℕ) (ws : List (ℕ × ℕ)) → is_due size mark w.0 ≡ false → due_among size mark (w ∷ ws) ≡ due_among size mark ws
  skips w ws is = ap (λ b. cond b (w ∷ due_among size mark ws) (due_among size mark ws)) is

  rises : (u v : ℕ × ℕ) → by_place u v ≡ Less → u.0 ≤ v.0
  rises u v less = elim (compare_places u.0 v.0) [
    | inl under ↦ omega (arith, under.0)
    | inr (inl same) ↦ omega (arith, same.0)
    | inr (inr over) ↦ let e : by_place u v ≡ Greater = ap (λ r. ordering_then r (nat_cmp u.1 v.1)) over.1 in absurd (cc)
  ]

  none_due : (w : ℕ × ℕ) (ws : List (ℕ × ℕ)) → IsStrictlySortedBy by_place (w ∷ ws) → is_due size mark w.0 ≡ false → due_among size mark ws ≡ []
  none_due w [] s is = refl
  none_due w (v ∷ ws) s is =
      let less : by_place w v ≡ Less = All-from_recursion (λ u. by_place w u ≡ Less) (v ∷ ws) (sorted_head by_place w (v ∷ ws) s) 0 v (omega arith) in
      let later : is_due size mark v.0 ≡ false = not_due size mark w.0 v.0 (rises w v less) is in
      skips v ws later ∙ none_due v ws (sorted_tail by_place w (v ∷ ws) s) later

-- before place 0 none is due
pub none_before : (size mark : ℕ) (ws : List (ℕ × ℕ)) → due_among size (negsuc mark) ws ≡ []
none_before size mark [] = refl
none_before size mark (w ∷ ws) = none_before size mark ws

-- a mark below place 0 leaves none behind
pub none_negative : (size : ℕ) (mark : ℤ) (ws : List (ℕ × ℕ)) → lt_z mark (pos 0) ≡ true → due_among size mark ws ≡ []
none_negative size (pos mark) ws is = absurd (omega (arith, ltb-true mark 0 is))
none_negative size (negsuc mark) ws is = none_before size mark ws

due_by : (size : ℕ) (mark : ℤ) (place : ℕ) → lt_z mark (pos 0) ≡ false → is_due size mark place ≡ nat_le (place + size) (unsigned_abs mark / size * size)
due_by size (pos mark) place is = refl
due_by size (negsuc mark) place is = absurd (cc)

-- the test that is made of the first active segment
module _ (size one other abs place : ℕ) (mark : ℤ) (same : one ≡ size) (same_other : other ≡ size) (abs_is : abs ≡ unsigned_abs mark) (above : lt_z mark (pos 0) ≡ false) where
  limit_is : abs / other * other ≡ unsigned_abs mark / size * size
  limit_is = ap (λ n. abs / n * n) same_other ∙ ap (λ n. n / size * size) abs_is

  end_is : place + one ≡ place + size
  end_is = ap (λ n. place + n) same

  pub due_so : place + one ≤ abs / other * other → is_due size mark place ≡ true
  due_so le = due_by size mark place above ∙ le-leb (place + size) (unsigned_abs mark / size * size) (subst (λ n. n ≤ unsigned_abs mark / size * size) end_is (subst (λ n. place + one ≤ n) limit_is le))

  pub due_not : abs / other * other < place + one → is_due size mark place ≡ false
  due_not less = due_by size mark place above ∙ lt-leb (place + size) (unsigned_abs mark / size * size) (subst (λ n. unsigned_abs mark / size * size < n) end_is (subst (λ n. n < place + one) limit_is less))

-- The first active segment of an accountant.
module _ (size : ℕ) (mark : ℤ) (a : SegmentAccountant) (is : IsAccountant size a) (w : ℕ × ℕ) (first : Some w ≡ slice_get a.active.0 0) where
  kept_list : a.active.0 ≡ w ∷ drop 1 a.active.0
  kept_list = first_and_rest w a.active.0 (sym first)

  listed : active_among (machine_of a).slots ≡ w ∷ drop 1 a.active.0
  listed = sym is.indexes.active_is ∙ kept_list

  has : HasPlace active_place 0 (machine_of a).slots free_slot w
  has = subst (λ (l : List (ℕ × ℕ)). All (HasPlace active_place 0 (machine_of a).slots free_slot) l) listed (have_places active_place free_slot 0 (machine_of a).slots) 0 w (omega arith)

  pub first_there : w.1 < length (machine_of a).slots
  first_there = omega (arith, has.below)

  pub first_active : active_place (slot_at (machine_of a) w.1) ≡ Some w.0
  first_active = let none : w.1 - 0 ≡ w.1 = omega arith in subst (λ n. active_place (get_or (machine_of a).slots n free_slot) ≡ Some w.0) none has.place

  pub first_small : w.0 < 2 ^ 63
  first_small = omega (arith, (active_at (slot_at (machine_of a) w.1) w.0 first_active).1, is.slots.places w.1)

  -- it is due, and then the others are
  pub due_first : is_due size mark w.0 ≡ true → due_among size mark (active_among (machine_of a).slots) ≡ w ∷ due_among size mark (drop 1 a.active.0)
  due_first due = ap (due_among size mark) listed ∙ ap (λ b. cond b (w ∷ due_among size mark (drop 1 a.active.0)) (due_among size mark (drop 1 a.active.0))) due

  pub due_none : is_due size mark w.0 ≡ false → due_among size mark (active_among (machine_of a).slots) ≡ []
  due_none late =
      ap (due_among size mark) listed ∙ skips size mark w (drop 1 a.active.0) late
      ∙ none_due size mark w (drop 1 a.active.0) (subst (IsStrictlySortedBy by_place) listed (sorted_slots_by active_place free_slot 0 (machine_of a).slots)) late

  module _ (b : SegmentAccountant) (now : b.active.0 ≡ remove_key (is_at (by_place w)) a.active.0) where
    behind : b.active.0 ≡ drop 1 a.active.0
    behind =
        now ∙ ap (remove_key (is_at (by_place w))) kept_list
        ∙ ap (λ r. cond (is_eq r) (drop 1 a.active.0) (w ∷ remove_key (is_at (by_place w)) (drop 1 a.active.0))) (tied_itself by_place_total w)

    pub fewer_active : length b.active.0 < length a.active.0
    fewer_active = omega (arith, ap length behind, ap length kept_list)

    pub due_left : IsAccountant size b → due_among size mark (active_among (machine_of b).slots) ≡ due_among size mark (drop 1 a.active.0)
    due_left account = ap (due_among size mark) (sym account.indexes.active_is ∙ behind)

-- no segment is active
pub due_nothing : (size : ℕ) (mark : ℤ) (a : SegmentAccountant) → IsAccountant size a → (o : Option (ℕ × ℕ)) → o ≡ slice_get a.active.0 0 → ((w : ℕ × ℕ) → o ≡ Some w → ⊥) → due_among size mark (active_among (machine_of a).slots) ≡ []
due_nothing size mark a is (Some w) first missing = absurd (missing w refl)
due_nothing size mark a is None first missing = ap (due_among size mark) (sym is.indexes.active_is) ∙ by a.active.0 first
  where
    by : (l : List (ℕ × ℕ)) → None ≡ slice_get l 0 → due_among size mark l ≡ []
    by [] none = refl
    by (w ∷ ws) none = absurd (cc)
