-- A slot that is free is handed out to the segment behind all others: it has that one's number.
use Rattle.std.proofs.Common.{◌≡◌, ◌≢◌, ◌∙◌, ◌*◌, ◌/◌, ◌%◌, ◌<◌, ◌≤◌, ℕ, true, false, List, length, sym, ap, subst, arith, inl, inr}
use Rattle.std.proofs.Math.Nat.{mod-add-div'}
use Rattle.std.proofs.lemmas.Bool.{cases_lt}
use Rattle.sled_codec.specs.History.{History, Message}
use Rattle.sled_store.specs.Device.{State}
use Rattle.sled_store.specs.Marks.{slot_with}
use Rattle.sled_store.specs.SegmentStates.{Machine, SlotState, handed_out, is_free, next_slot, slot_at}
use Rattle.sled_store.proofs.Segments.FilledLemmas.{slot_before}
use Rattle.sled_core.specs.inside.Hides.{IsOwnRecord}
use Rattle.sled_core.specs.inside.Numbers.{HasNumbers, HaveSlots, HasNumber, IsInSlot}
use Rattle.sled_core.proofs.Start.OwnSlots.{handed_other, taken_cases}

-- Segments that begin no higher have numbers that are no higher.
below_number : (size : ℕ) → 0 < size → (n place : ℕ) → n * size < place → n ≤ place / size
below_number size some n place low = elim (cases_lt (place / size) n) [
  | inl over ↦ absurd (
      let far = slot_before size (place / size) n over in
      let inside : place % size < size = omega (arith, some) in
      omega (arith, far, low, inside, mod-add-div' place size))
  | inr fine ↦ omega (arith, fine)
]

module _ (sum : List ℕ → ℕ) (size : ℕ) where
  -- A slot that is free is handed out, to a segment that begins where the others end.
  module _ (some : 0 < size) (m : Machine) (within : next_slot m ≤ length m.slots) (free : is_free (slot_at m (next_slot m)).state ≡ true) (place : ℕ) where
    -- a number that is to come is that of the segment that begins there, and nothing is of it
    number_new : (s : State) (k : ℕ) → place / size * size ≡ place
        → ((n at : ℕ) (text : List ℕ) → IsOwnRecord sum size s n at text → n * size < place) → HasNumber sum size s k (place / size)
    number_new s k begins to_come = record {
      greatest = λ n at text inside own. below_number size some n place (to_come n at text own);
      only = λ j at text inside own. absurd (let low = to_come (place / size) at text own in omega (arith, low, begins));
    }

    other_slot : (k : ℕ) → is_free (slot_at m k).state ≡ false → k ≢ next_slot m
    other_slot k used same = let both : true ≡ false = sym free ∙ ap (λ j. is_free (slot_at m j).state) (sym same) ∙ used in absurd cc

    -- the others are as they were
    stays_taken : (k : ℕ) → is_free (slot_at m k).state ≡ false → slot_at (handed_out place m) k ≡ slot_at m k
    stays_taken k used = handed_other m within place k (other_slot k used)

    pub numbers_handed : {base : ℕ} (s : State) (end : ℕ) → place / size * size ≡ place → place ≤ end
        → HasNumbers sum size base s m place → HasNumbers sum size base s (handed_out place m) end
    numbers_handed s end begins up has = record {
      to_come = λ number at text own. let low = has.to_come number at text own in omega (arith, low, up);
      taken = λ k used. elim (taken_cases m within place k used) [
        | inl new ↦ subst (λ p. HasNumber sum size s k (p / size)) (sym new.0) (number_new s k begins has.to_come)
        | inr old ↦ subst (λ p. HasNumber sum size s k (p / size)) (sym old.0) (has.taken k old.1)
      ];
      headers = λ k at mark low own.
          let is = has.headers k at mark low own in
          let stays = stays_taken k is.0 in (ap (λ (x : SlotState). is_free x.state) stays ∙ is.0, ap (λ (x : SlotState). x.lsn) stays ∙ is.1);
      lie = has.lie;
    }

    in_slot_handed : (e : Message) → IsInSlot size m e → IsInSlot size (handed_out place m) e
    in_slot_handed e has =
        let stays = stays_taken (slot_with size e) has.taken in
        record { taken = ap (λ (x : SlotState). is_free x.state) stays ∙ has.taken; lsn = ap (λ (x : SlotState). x.lsn) stays ∙ has.lsn }

    pub slots_handed : (base : ℕ) (H : History) (A : ℕ) → HaveSlots sum size base H A m → HaveSlots sum size base H A (handed_out place m)
    slots_handed base H A has = record {
      later = λ e there up. in_slot_handed e (has.later e there up);
      older = λ page e entry. in_slot_handed e (has.older page e entry);
      not_above = has.not_above;
    }
