-- What a book knows of the entries that it was given: what one more entry changes, and where it can't lie beside the others.
use Rattle.std.proofs.Common.{◌≡◌, ◌≢◌, ◌↔◌, ◌==◌, ◌||◌, ◌∙◌, ◌+◌, ◌^◌, ◌<◌, ◌≤◌, inl, inr, ℕ, Bool, true, false, if◌then◌else◌, cond, List, [], ◌∷◌, ◌++◌, Option, Some, None, option_map, refl, sym, ap, subst, arith}
use Rattle.std.specs.List.{Contains, list_any}
use Rattle.std.specs.Ordering.{nat_cmp}
use Rattle.std.specs.BTreeMap.{BTreeMap, get, is_at}
use Rattle.std.specs.BTreeSet.{BTreeSet, contains}
use Rattle.std.proofs.lemmas.Bool.Decides.{eqb_tells}
use Rattle.std.proofs.lemmas.Cmp.{nat_cmp_total, eq_by_cmp_equiv}
use Rattle.std.proofs.lemmas.Map.Lookups.{exact_unsigned}
use Rattle.std.proofs.lemmas.Map.Views.{tells_apart}
use Rattle.std.proofs.lemmas.List.Elements.{Contains-append_left, Contains-push, Contains-push_cases}
use Rattle.std.proofs.lemmas.List.Folds.{list_any-append}
use Rattle.sled_codec.specs.Snapshots.{Entry}
use Rattle.sled_store.specs.declared.segment.slot_table.SlotTable.{SlotTable}
use Rattle.sled_store.specs.Begin.{slot_of, segment_number_of, sizes_in, AreApart}
use Rattle.sled_store.specs.SlotTables.{number_in, AreFit, IsSlotTable}
use Rattle.sled_store.specs.inside.SlotTables.{sum_in}
use Rattle.sled_store.proofs.Segments.EntryLemmas.{same_number, first_in, none_in, of_segment, none_of, sizes_push, no_sizes, or_else, number_push}

-- A key of a map, and others.

or_true : (b : Bool) → (b || true) ≡ true
or_true true = refl
or_true false = refl

or_false : (b : Bool) → (b || false) ≡ b
or_false true = refl
or_false false = refl

-- a key is itself to a map
at_self : (n : ℕ) → is_at (nat_cmp n) n ≡ true
at_self n = (eq_by_cmp_equiv nat_cmp_total).refl n

-- another number is another key
at_other : (m n : ℕ) → m ≢ n → is_at (nat_cmp m) n ≡ false
at_other m n other = by (is_at (nat_cmp m) n) refl
  where
    by : (b : Bool) → is_at (nat_cmp m) n ≡ b → is_at (nat_cmp m) n ≡ false
    by true is = absurd (other (tells_apart exact_unsigned m n is))
    by false is = is

module _ (size : ℕ) where
  -- An entry beside others.

  -- an entry lies in the slot of another exactly where it is of its segment
  abbrev pub LiesBeside : List Entry → Entry → Type 0
  LiesBeside es x = (d : Entry) → Contains es d → (slot_of size d ≡ slot_of size x) ↔ (segment_number_of size d ≡ segment_number_of size x)

  -- and so one more may lie there
  apart_push : (es : List Entry) (x : Entry) → AreApart size es → LiesBeside es x → AreApart size (es ++ x ∷ [])
  apart_push es x apart beside d e has_d has_e = elim (Contains-push_cases es x d has_d) [
    | inl old_d ↦ elim (Contains-push_cases es x e has_e) [
      | inl old_e ↦ apart d e old_d old_e
      | inr is_e ↦ subst (λ (y : Entry). (slot_of size d ≡ slot_of size y) ↔ (segment_number_of size d ≡ segment_number_of size y)) is_e (beside d old_d)
    ]
    | inr is_d ↦ elim (Contains-push_cases es x e has_e) [
      | inl old_e ↦ subst (λ (y : Entry). (slot_of size y ≡ slot_of size e) ↔ (segment_number_of size y ≡ segment_number_of size e)) is_d (λ same. sym ((beside e old_e).0 (sym same)), λ same. sym ((beside e old_e).1 (sym same)))
      | inr is_e ↦ (λ _. ap (segment_number_of size) (sym is_d ∙ is_e), λ _. ap (slot_of size) (sym is_d ∙ is_e))
    ]
  ]

  -- what is found of a slot and a segment
  abbrev found : List Entry → Entry → Option ℕ
  found es x = sum_in (option_map (λ n. (n, sizes_in size (slot_of size x) es)) (number_in size (slot_of size x) es)) (list_any (λ e. segment_number_of size e == segment_number_of size x) es) (segment_number_of size x)

  -- a book answers that
  known : (b : SlotTable) (es : List Entry) (x : Entry) → IsSlotTable size b es → sum_in (get nat_cmp b.held (slot_of size x)) (contains nat_cmp b.numbers (segment_number_of size x)) (segment_number_of size x) ≡ found es x
  known b es x booked =
      ap (λ (o : Option (ℕ × ℕ)). sum_in o (contains nat_cmp b.numbers (segment_number_of size x)) (segment_number_of size x)) (booked.held (slot_of size x))
      ∙ ap (λ (t : Bool). sum_in (option_map (λ n. (n, sizes_in size (slot_of size x) es)) (number_in size (slot_of size x) es)) t (segment_number_of size x)) (booked.numbers (segment_number_of size x))

  -- where a sum is found, the entry lies beside the others
  lies_beside : (es : List Entry) (x : Entry) (s : ℕ) → AreApart size es → found es x ≡ Some s → (s ≡ sizes_in size (slot_of size x) es) × LiesBeside es x
  lies_beside es x s apart is = by (number_in size (slot_of size x) es) (list_any (λ e. segment_number_of size e == segment_number_of size x) es) refl refl is
    where
      by : (o : Option ℕ) (b : Bool) → number_in size (slot_of size x) es ≡ o → list_any (λ e. segment_number_of size e == segment_number_of size x) es ≡ b
          → sum_in (option_map (λ n. (n, sizes_in size (slot_of size x) es)) o) b (segment_number_of size x) ≡ Some s → (s ≡ sizes_in size (slot_of size x) es) × LiesBeside es x
      by (Some n) b first has is = elim (eqb_tells n (segment_number_of size x)) [
        | inl same_k ↦ (
          let taken : Some (sizes_in size (slot_of size x) es) ≡ Some s = subst (λ (t : Bool). (if t then Some (sizes_in size (slot_of size x) es) else None) ≡ Some s) same_k.0 is in
              let same : s ≡ sizes_in size (slot_of size x) es = cc in
              same,
          let w = first_in size (slot_of size x) es n first in
              λ d has. (λ same. (apart d w.0 has w.1).0 (same ∙ sym w.2) ∙ w.3 ∙ same_k.1, λ same. (apart d w.0 has w.1).1 (same ∙ sym same_k.1 ∙ sym w.3) ∙ w.2),
        )
        | inr other_k ↦ absurd (let none : None ≡ Some s = subst (λ (t : Bool). (if t then Some (sizes_in size (slot_of size x) es) else None) ≡ Some s) other_k.0 is in cc)
      ]
      by None true first has is = absurd (let never : ⊥ = cc in never)
      by None false first has is = (
        let zero : s ≡ 0 = cc in zero ∙ sym (no_sizes size (slot_of size x) es first),
        λ d in_es. (λ same. absurd (none_in size (slot_of size x) es first d in_es same), λ same. absurd (none_of size (segment_number_of size x) es has d in_es same)),
      )

  -- where none is found, it does not
  not_beside : (es : List Entry) (x : Entry) → found es x ≡ None → AreApart size (es ++ x ∷ []) → ⊥
  not_beside es x is apart = by (number_in size (slot_of size x) es) (list_any (λ e. segment_number_of size e == segment_number_of size x) es) refl refl is
    where
      by : (o : Option ℕ) (b : Bool) → number_in size (slot_of size x) es ≡ o → list_any (λ e. segment_number_of size e == segment_number_of size x) es ≡ b
          → sum_in (option_map (λ n. (n, sizes_in size (slot_of size x) es)) o) b (segment_number_of size x) ≡ None → ⊥
      by (Some n) b first has is = elim (eqb_tells n (segment_number_of size x)) [
        | inl same_k ↦ (let taken : Some (sizes_in size (slot_of size x) es) ≡ None = subst (λ (t : Bool). (if t then Some (sizes_in size (slot_of size x) es) else None) ≡ None) same_k.0 is in cc)
        | inr other_k ↦ (let w = first_in size (slot_of size x) es n first in other_k.1 (sym w.3 ∙ (apart w.0 x (Contains-append_left es (x ∷ []) w.0 w.1) (Contains-push es x)).0 w.2))
      ]
      by None true first has is =
          let w = of_segment size (segment_number_of size x) es has in
          none_in size (slot_of size x) es first w.0 w.1 ((apart w.0 x (Contains-append_left es (x ∷ []) w.0 w.1) (Contains-push es x)).1 w.2)
      by None false first has is = cc

  -- The whole of a book.

  -- the slots, with one more entry
  held_push : (b : SlotTable) (es : List Entry) (x : Entry) (s : ℕ) (new : BTreeMap ℕ (ℕ × ℕ)) → IsSlotTable size b es → s ≡ sizes_in size (slot_of size x) es → LiesBeside es x
      → ((q : ℕ) → get nat_cmp new q ≡ cond (is_at (nat_cmp (slot_of size x)) q) (Some (segment_number_of size x, s + x.2)) (get nat_cmp b.held q))
      → (k : ℕ) → get nat_cmp new k ≡ option_map (λ n. (n, sizes_in size k (es ++ x ∷ []))) (number_in size k (es ++ x ∷ []))
  held_push b es x s new booked is beside put k = elim (eqb_tells (slot_of size x) k) [
    | inl same_k ↦ subst (λ j. get nat_cmp new j ≡ option_map (λ n. (n, sizes_in size j (es ++ x ∷ []))) (number_in size j (es ++ x ∷ []))) same_k.1 here
    | inr other_k ↦ (
        let number : number_in size k (es ++ x ∷ []) ≡ number_in size k es = number_push size k es x ∙ ap (λ (t : Bool). or_else (number_in size k es) (if t then Some (segment_number_of size x) else None)) other_k.0 ∙ or_none (number_in size k es) in
        let sizes : sizes_in size k (es ++ x ∷ []) ≡ sizes_in size k es = sizes_push size k es x ∙ ap (λ (t : Bool). sizes_in size k es + (if t then x.2 else 0)) other_k.0 ∙ (let e : sizes_in size k es + 0 ≡ sizes_in size k es = omega arith in e) in
        put k ∙ ap (λ (t : Bool). cond t (Some (segment_number_of size x, s + x.2)) (get nat_cmp b.held k)) (at_other (slot_of size x) k other_k.1) ∙ booked.held k
        ∙ ap (λ m. option_map (λ n. (n, m)) (number_in size k es)) (sym sizes) ∙ ap (λ (o : Option ℕ). option_map (λ n. (n, sizes_in size k (es ++ x ∷ []))) o) (sym number)
        )
  ]
    where
      or_none : (o : Option ℕ) → or_else o None ≡ o
      or_none (Some n) = refl
      or_none None = refl

      at_x : number_in size (slot_of size x) (es ++ x ∷ []) ≡ Some (segment_number_of size x)
      at_x = number_push size (slot_of size x) es x ∙ ap (λ (t : Bool). or_else (number_in size (slot_of size x) es) (if t then Some (segment_number_of size x) else None)) (same_number (slot_of size x)) ∙ by (number_in size (slot_of size x) es) refl
        where
          by : (o : Option ℕ) → number_in size (slot_of size x) es ≡ o → or_else o (Some (segment_number_of size x)) ≡ Some (segment_number_of size x)
          by None none = refl
          by (Some n) first = let w = first_in size (slot_of size x) es n first in ap (λ (m : ℕ). Some m) (sym w.3 ∙ (beside w.0 w.1).0 w.2)

      sizes_at_x : sizes_in size (slot_of size x) (es ++ x ∷ []) ≡ s + x.2
      sizes_at_x =
          sizes_push size (slot_of size x) es x ∙ ap (λ (t : Bool). sizes_in size (slot_of size x) es + (if t then x.2 else 0)) (same_number (slot_of size x)) ∙ ap (λ (n : ℕ). n + x.2) (sym is)

      here : get nat_cmp new (slot_of size x) ≡ option_map (λ n. (n, sizes_in size (slot_of size x) (es ++ x ∷ []))) (number_in size (slot_of size x) (es ++ x ∷ []))
      here =
          put (slot_of size x)
          ∙ ap (λ (t : Bool). cond t (Some (segment_number_of size x, s + x.2)) (get nat_cmp b.held (slot_of size x))) (at_self (slot_of size x))
          ∙ ap (λ m. Some (segment_number_of size x, m)) (sym sizes_at_x)
          ∙ ap (λ (o : Option ℕ). option_map (λ n. (n, sizes_in size (slot_of size x) (es ++ x ∷ []))) o) (sym at_x)

  -- the segments, with one more entry
  numbers_push : (b : SlotTable) (es : List Entry) (x : Entry) (new : BTreeSet ℕ) → IsSlotTable size b es
      → ((q : ℕ) → contains nat_cmp new q ≡ cond (is_at (nat_cmp (segment_number_of size x)) q) true (contains nat_cmp b.numbers q))
      → (n : ℕ) → contains nat_cmp new n ≡ list_any (λ e. segment_number_of size e == n) (es ++ x ∷ [])
  numbers_push b es x new booked put n =
      put n ∙ ap (λ (t : Bool). cond (is_at (nat_cmp (segment_number_of size x)) n) true t) (booked.numbers n)
      ∙ elim (eqb_tells (segment_number_of size x) n) as (λ _. cond (is_at (nat_cmp (segment_number_of size x)) n) true (list_any (λ e. segment_number_of size e == n) es) ≡ list_any (λ e. segment_number_of size e == n) (es ++ x ∷ [])) [
        | inl same_n ↦ (
            ap (λ (t : Bool). cond t true (list_any (λ e. segment_number_of size e == n) es)) (subst (λ (m : ℕ). is_at (nat_cmp (segment_number_of size x)) m ≡ true) same_n.1 (at_self (segment_number_of size x)))
            ∙ sym (list_any-append (λ (e : Entry). segment_number_of size e == n) es (x ∷ []) ∙ ap (λ (t : Bool). list_any (λ (e : Entry). segment_number_of size e == n) es || (t || false)) same_n.0 ∙ or_true (list_any (λ (e : Entry). segment_number_of size e == n) es))
            )
        | inr other_n ↦ (
            ap (λ (t : Bool). cond t true (list_any (λ e. segment_number_of size e == n) es)) (at_other (segment_number_of size x) n other_n.1)
            ∙ sym (list_any-append (λ (e : Entry). segment_number_of size e == n) es (x ∷ []) ∙ ap (λ (t : Bool). list_any (λ (e : Entry). segment_number_of size e == n) es || (t || false)) other_n.0 ∙ or_false (list_any (λ (e : Entry). segment_number_of size e == n) es))
            )
      ]

  -- the sums, with one more entry
  counted_push : (es : List Entry) (x : Entry) (s : ℕ) → AreFit size es → s ≡ sizes_in size (slot_of size x) es → s + x.2 < 2 ^ 63 → (k : ℕ) → sizes_in size k (es ++ x ∷ []) < 2 ^ 63
  counted_push es x s fit is small k = elim (eqb_tells (slot_of size x) k) [
    | inl same_k ↦ (
        let sum : sizes_in size k (es ++ x ∷ []) ≡ sizes_in size k es + x.2 = sizes_push size k es x ∙ ap (λ (t : Bool). sizes_in size k es + (if t then x.2 else 0)) same_k.0 in
        let at : s ≡ sizes_in size k es = is ∙ ap (λ (j : ℕ). sizes_in size j es) same_k.1 in
        omega (arith, sum, at, small)
        )
    | inr other_k ↦ (
        let sum : sizes_in size k (es ++ x ∷ []) ≡ sizes_in size k es + 0 = sizes_push size k es x ∙ ap (λ (t : Bool). sizes_in size k es + (if t then x.2 else 0)) other_k.0 in
        omega (arith, sum, fit.counted k)
        )
  ]

  -- one more entry that lies beside the others
  pub booked_push : (b : SlotTable) (es : List Entry) (x : Entry) (s : ℕ) (held : BTreeMap ℕ (ℕ × ℕ)) (numbers : BTreeSet ℕ) → IsSlotTable size b es
      → sum_in (get nat_cmp b.held (slot_of size x)) (contains nat_cmp b.numbers (segment_number_of size x)) (segment_number_of size x) ≡ Some s → s + x.2 < 2 ^ 63
      → ((q : ℕ) → get nat_cmp held q ≡ cond (is_at (nat_cmp (slot_of size x)) q) (Some (segment_number_of size x, s + x.2)) (get nat_cmp b.held q))
      → ((q : ℕ) → contains nat_cmp numbers q ≡ cond (is_at (nat_cmp (segment_number_of size x)) q) true (contains nat_cmp b.numbers q))
      → IsSlotTable size (record { held = held; numbers = numbers }) (es ++ x ∷ [])
  booked_push b es x s held numbers booked is small put_held put_number =
      let beside = lies_beside es x s booked.fit.apart (sym (known b es x booked) ∙ is) in
      record {
        held = held_push b es x s held booked beside.0 beside.1 put_held;
        numbers = numbers_push b es x numbers booked put_number;
        fit = record { apart = apart_push es x booked.fit.apart beside.1; counted = counted_push es x s booked.fit beside.0 small };
      }

  -- one that can't lie beside the others
  pub unfit_place : (b : SlotTable) (es : List Entry) (x : Entry) → IsSlotTable size b es
      → sum_in (get nat_cmp b.held (slot_of size x)) (contains nat_cmp b.numbers (segment_number_of size x)) (segment_number_of size x) ≡ None → AreFit size (es ++ x ∷ []) → ⊥
  unfit_place b es x booked is fit = not_beside es x (sym (known b es x booked) ∙ is) fit.apart

  -- one with which the slot holds too much
  pub unfit_size : (b : SlotTable) (es : List Entry) (x : Entry) (s : ℕ) → IsSlotTable size b es
      → sum_in (get nat_cmp b.held (slot_of size x)) (contains nat_cmp b.numbers (segment_number_of size x)) (segment_number_of size x) ≡ Some s → 2 ^ 63 ≤ s + x.2 → AreFit size (es ++ x ∷ []) → ⊥
  unfit_size b es x s booked is large fit =
      let beside = lies_beside es x s booked.fit.apart (sym (known b es x booked) ∙ is) in
      let sum : sizes_in size (slot_of size x) (es ++ x ∷ []) ≡ sizes_in size (slot_of size x) es + x.2 =
      sizes_push size (slot_of size x) es x ∙ ap (λ (t : Bool). sizes_in size (slot_of size x) es + (if t then x.2 else 0)) (same_number (slot_of size x)) in
      omega (arith, sum, beside.0, large, fit.counted (slot_of size x))

  -- The same, where the slot and the number are given by themselves.

  module _ (b : SlotTable) (es : List Entry) (x : Entry) (slot number : ℕ) (slot_is : slot ≡ slot_of size x) (number_is : number ≡ segment_number_of size x) where
    moved : (o : Option ℕ) → sum_in (get nat_cmp b.held slot) (contains nat_cmp b.numbers number) number ≡ o → sum_in (get nat_cmp b.held (slot_of size x)) (contains nat_cmp b.numbers (segment_number_of size x)) (segment_number_of size x) ≡ o
    moved o is =
        subst (λ (n : ℕ). sum_in (get nat_cmp b.held (slot_of size x)) (contains nat_cmp b.numbers n) n ≡ o) number_is
        (subst (λ (k : ℕ). sum_in (get nat_cmp b.held k) (contains nat_cmp b.numbers number) number ≡ o) slot_is is)

    pub booked_at : (s : ℕ) (held : BTreeMap ℕ (ℕ × ℕ)) (numbers : BTreeSet ℕ) → IsSlotTable size b es → sum_in (get nat_cmp b.held slot) (contains nat_cmp b.numbers number) number ≡ Some s → s + x.2 < 2 ^ 63
        → ((q : ℕ) → get nat_cmp held q ≡ cond (is_at (nat_cmp slot) q) (Some (number, s + x.2)) (get nat_cmp b.held q))
        → ((q : ℕ) → contains nat_cmp numbers q ≡ cond (is_at (nat_cmp number) q) true (contains nat_cmp b.numbers q)) → IsSlotTable size (record { held = held; numbers = numbers }) (es ++ x ∷ [])
    booked_at s held numbers booked is small put_held put_number =
        booked_push b es x s held numbers booked (moved (Some s) is) small
        (λ q. subst (λ (n : ℕ). get nat_cmp held q ≡ cond (is_at (nat_cmp (slot_of size x)) q) (Some (n, s + x.2)) (get nat_cmp b.held q)) number_is
        (subst (λ (k : ℕ). get nat_cmp held q ≡ cond (is_at (nat_cmp k) q) (Some (number, s + x.2)) (get nat_cmp b.held q)) slot_is (put_held q)))
        (λ q. subst (λ (n : ℕ). contains nat_cmp numbers q ≡ cond (is_at (nat_cmp n) q) true (contains nat_cmp b.numbers q)) number_is (put_number q))

    pub place_unfit : IsSlotTable size b es → sum_in (get nat_cmp b.held slot) (contains nat_cmp b.numbers number) number ≡ None → AreFit size (es ++ x ∷ []) → ⊥
    place_unfit booked is = unfit_place b es x booked (moved None is)

    pub size_unfit : (s : ℕ) → IsSlotTable size b es → sum_in (get nat_cmp b.held slot) (contains nat_cmp b.numbers number) number ≡ Some s → 2 ^ 63 ≤ s + x.2 → AreFit size (es ++ x ∷ []) → ⊥
    size_unfit s booked is large = unfit_size b es x s booked (moved (Some s) is) large
