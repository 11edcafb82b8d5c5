-- The slot that is handed out next is free, so it has zeros and none of the segments lies in it; it isn't free then, and those of the segments aren't still.
use Rattle.std.proofs.Common.{◌≡◌, ◌≢◌, ◌∙◌, ◌<◌, ◌≤◌, ◌+◌, ◌*◌, ◌%◌, ap, sym, refl, subst, arith, inl, inr, ℕ, suc, Bool, true, false, List, [], ◌∷◌, ◌++◌, length, map, take, Option}
use Rattle.std.specs.List.{All, Contains}
use Rattle.std.specs.declared.io.Error.{Error as IoError}
use Rattle.std.proofs.lemmas.Bool.{cases_order}
use Rattle.std.proofs.lemmas.List.{length-append, length-take, get_or-take}
use Rattle.std.proofs.lemmas.List.Elements.{All-append, All-head, All-tail}
use Rattle.std.proofs.Math.Nat.{mul-le-mul_right, suc-mul}
use Rattle.sled_store.specs.Accounts.{AreSlots}
use Rattle.sled_store.specs.Begin.{first_or}
use Rattle.sled_store.specs.SegmentStates.{Machine, SlotState, free_among, free_slot, handed_out, is_free, next_slot, slot_at, taken_slot}
use Rattle.sled_store.proofs.Marks.SlotLemmas.{Passes, where_passes}
use Rattle.sled_store.proofs.Segments.Elements.{in_cases, in_first, in_nothing}
use Rattle.sled_core.specs.Begun.{SegmentView}
use Rattle.sled_core.specs.inside.Begun.{line_end}
use Rattle.sled_core.specs.inside.Fits.{begun_segment, parts_in}
use Rattle.sled_core.specs.inside.FreeSlots.{HasSlot, HasSlots, HaveOwn}
use Rattle.sled_core.specs.inside.Reached.{BegunSegment}
use Rattle.sled_core.proofs.Holds.HoldsLemmas.{one}
use Rattle.sled_core.proofs.Start.BegunSlots.{handed_taken}
use Rattle.sled_core.proofs.Start.FreeSlots.{free_before, handed_free}
use Rattle.sled_core.proofs.Start.OwnSlots.{handed_other, handed_there, own_handed}

module _ (m : Machine) (slots : AreSlots m.tip m.slots) where
  abbrev IsNext : ℕ → Type 0
  IsNext k = (is_free (slot_at m k).state ≡ true) × (k ≤ m.tip)

  next_is : IsNext (next_slot m)
  next_is = by (free_among (take m.tip m.slots)) (where_passes (λ s. is_free s.state) 0 (take m.tip m.slots)) where
    by : (ks : List ℕ) → ((k : ℕ) → Contains ks k → Passes (λ s. is_free s.state) 0 (take m.tip m.slots) k) → IsNext (first_or m.tip ks)
    by [] passes = (slots.cut_off m.tip (omega arith), omega arith)
    by (k ∷ ks) passes =
        let first : Passes (λ s. is_free s.state) 0 (take m.tip m.slots) k = passes k (in_first k ks) in
        let is : k ≡ first.index = omega (arith, first.is) in
        let lt : first.index < m.tip = omega (arith, first.there, length-take m.tip m.slots) in (
          ap (λ j. is_free (slot_at m j).state) is ∙ ap (λ (s : SlotState). is_free s.state) (sym (get_or-take m.tip m.slots first.index free_slot lt)) ∙ first.passes,
          omega (arith, is, lt),
        )

  pub next_free : is_free (slot_at m (next_slot m)).state ≡ true
  next_free = next_is.0

  pub next_within : next_slot m ≤ length m.slots
  next_within = let low = next_is.1 in let within = slots.within in omega (arith, low, within)

  module _ (size : ℕ) (some : 0 < size) where
    -- A segment whose slot isn't free lies in another one.
    pub next_other : (v : SegmentView) → HasSlot size m v → next_slot m * size ≢ v.parts.site.slot
    next_other v has at = elim (cases_order (next_slot m) has.number) [
      | inl same ↦ (let both : true ≡ false = sym next_free ∙ ap (λ k. is_free (slot_at m k).state) same ∙ has.taken in cc)
      | inr (inl lower) ↦ (let more = mul-le-mul_right size lower in let lies = has.lies in omega (arith, more, lies, at, some))
      | inr (inr higher) ↦ (let more = mul-le-mul_right size higher in let lies = has.lies in omega (arith, more, lies, at, some))
    ]

    pub next_others : (vs : List SegmentView) → All (HasSlot size m) vs → (y : BegunSegment) → Contains (map begun_segment (map parts_in vs)) y → next_slot m * size ≢ y.site.slot
    next_others [] all y among = absurd (in_nothing y among)
    next_others (v ∷ vs) all y among = elim (in_cases (begun_segment v.parts) y (map begun_segment (map parts_in vs)) among) [
      | inl same ↦ (λ at. next_other v (All-head (HasSlot size m) v vs all) (at ∙ ap (λ (x : BegunSegment). x.site.slot) (sym same)))
      | inr later ↦ next_others vs (All-tail (HasSlot size m) v vs all) y later
    ]

  -- What isn't free stays so.
  taken_still : (place k : ℕ) → is_free (slot_at m k).state ≡ false → is_free (slot_at (handed_out place m) k).state ≡ false
  taken_still place k taken = by (is_free (slot_at (handed_out place m) k).state) refl where
    by : (b : Bool) → is_free (slot_at (handed_out place m) k).state ≡ b → b ≡ false
    by false is = refl
    by true is = let both : true ≡ false = sym (free_before (next_slot m) (taken_slot place) m.slots k refl is) ∙ taken in absurd cc

  -- It is in another slot than the one that is handed out next.
  taken_other : (k : ℕ) → is_free (slot_at m k).state ≡ false → k ≢ next_slot m
  taken_other k taken same = let both : true ≡ false = sym next_free ∙ ap (λ j. is_free (slot_at m j).state) (sym same) ∙ taken in cc

  -- A further segment lies in the slot that is handed out.
  pub slots_begun : (size : ℕ) → 0 < size → (line : List SegmentView) (log : List ℕ) (fault : Option IoError) (place : ℕ) (w : SegmentView) → place % size ≡ 0 → place ≡ line_end size line → w.parts.site.place ≡ place → w.parts.site.slot ≡ next_slot m * size
      → HasSlots size line log fault m → HasSlots size (line ++ w ∷ []) log fault (handed_out place m)
  slots_begun size some line log fault place w whole ends there at has = record {
    taken = All-append (HasSlot size (handed_out place m)) line (w ∷ [])
        (λ k d lt.
        let h = has.taken k d lt in
        record { number = h.number; lies = h.lies; taken = taken_still place h.number h.taken; is = ap (λ (s : SlotState). s.lsn) (handed_other m next_within place h.number (taken_other h.number h.taken)) ∙ h.is })
        (one (HasSlot size (handed_out place m)) w (record { number = next_slot m; lies = at; taken = handed_taken place m next_within; is = ap (λ (s : SlotState). s.lsn) (handed_there m next_within place) ∙ sym there }));
    zeros = λ none. handed_free size log m place (has.zeros none);
    own = subst (λ n. HaveOwn size n (handed_out place m)) (sym (further line ends)) (own_handed m next_within place size some whole (subst (λ n. HaveOwn size n m) (sym ends) has.own));
  }
    where
      further : (l : List SegmentView) → place ≡ line_end size l → line_end size (l ++ w ∷ []) ≡ place + size
      further [] is = omega (arith, there)
      further (v ∷ vs) is =
          let long : length (vs ++ w ∷ []) ≡ suc (length vs) = length-append vs (w ∷ []) ∙ (let one : length vs + 1 ≡ suc (length vs) = omega arith in one) in
          omega (arith, is, ap (λ n. suc n * size) long, suc-mul (suc (length vs)) size)
