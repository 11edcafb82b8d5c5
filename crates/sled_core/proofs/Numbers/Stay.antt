-- The slots of a log have the numbers of their segments: so it is where less is own and where slots are marked, and so the slots that tables need keep their
-- numbers.
use Rattle.std.proofs.Common.{◌≡◌, ◌∙◌, ◌*◌, ◌/◌, ◌<◌, ◌≤◌, ℕ, List, sym, ap, subst, arith, inl, inr}
use Rattle.std.specs.List.{Contains}
use Rattle.std.proofs.Math.Nat.{mul-div_cancel}
use Rattle.std.proofs.lemmas.Bool.{cases_lt}
use Rattle.sled_codec.specs.History.{History, Message, table}
use Rattle.sled_store.specs.Device.{State}
use Rattle.sled_store.specs.Marks.{slot_with}
use Rattle.sled_store.specs.SegmentStates.{Machine, slot_at}
use Rattle.sled_store.proofs.Histories.Ascending.{Ascends}
use Rattle.sled_store.proofs.Histories.EarlierEntries.{entry_earlier}
use Rattle.sled_store.proofs.Histories.TableParts.{from_table}
use Rattle.sled_store.proofs.Marks.MarkSteps.{SameSegments}
use Rattle.sled_core.specs.inside.Numbers.{HasNumber, HasNumbers, HaveSlots, IsInSlot, NumbersStay}
use Rattle.sled_core.proofs.Numbers.OwnLess.{OwnLess}
use Rattle.sled_core.proofs.Tail.Multiples.{lower_multiple}

module _ (sum : List ℕ → ℕ) (size : ℕ) where
  -- Less is own.
  module _ (t s : State) (less : OwnLess sum size t s) where
    -- a slot has its number still
    pub number_less : (k number : ℕ) → HasNumber sum size s k number → HasNumber sum size t k number
    number_less k number has = record {
      greatest = λ n at text inside own. has.greatest n at text inside (less.records n at text own);
      only = λ j at text inside own. has.only j at text inside (less.records number at text own);
    }

    pub numbers_less : {base : ℕ} (m : Machine) (end : ℕ) → HasNumbers sum size base s m end → HasNumbers sum size base t m end
    numbers_less m end has = record {
      to_come = λ number at text own. has.to_come number at text (less.records number at text own);
      taken = λ k used. number_less k ((slot_at m k).lsn / size) (has.taken k used);
      headers = λ k place mark low own. has.headers k place mark low (less.headers k place mark own);
      lie = λ number at text own. has.lie number at text (less.records number at text own);
    }

    pub stay_less : (H : History) (A : ℕ) → NumbersStay sum size s H A → NumbersStay sum size t H A
    stay_less H A stay = record {
      entries = λ cut page e up entry. number_less (slot_with size e) (e.place / size) (stay.entries cut page e up entry);
      later = λ k place mark head up. number_less k (place / size) (stay.later k place mark (less.headers k place mark head) up);
      lie = λ number at text own. stay.lie number at text (less.records number at text own);
    }

  -- The place is higher.
  pub stay_higher : 256 ≤ size → (s : State) (H : History) (A B : ℕ) → A ≤ B → NumbersStay sum size s H A → NumbersStay sum size s H B
  stay_higher some s H A B up stay = record {
    entries = λ cut page e above entry. stay.entries cut page e (omega (arith, up, above)) entry;
    later = λ k place mark own above. stay.later k place mark own (let low = lower_multiple size some A B up in omega (arith, low, above));
    lie = stay.lie;
  }

  -- The segments end higher.
  pub numbers_higher : {base : ℕ} (s : State) (m : Machine) (end higher : ℕ) → end ≤ higher → HasNumbers sum size base s m end
      → HasNumbers sum size base s m higher
  numbers_higher s m end higher up has = record {
    to_come = λ number at text own. let low = has.to_come number at text own in omega (arith, low, up);
    taken = has.taken;
    headers = has.headers;
    lie = has.lie;
  }

  -- Headers count from a higher place.
  pub numbers_from : (s : State) (m : Machine) (end base higher : ℕ) → base ≤ higher → HasNumbers sum size base s m end → HasNumbers sum size higher s m end
  numbers_from s m end base higher up has = record {
    to_come = has.to_come;
    taken = has.taken;
    headers = λ k place mark low own. has.headers k place mark (omega (arith, up, low)) own;
    lie = has.lie;
  }

  -- Slots are marked.
  module _ (m n : Machine) (same : SameSegments m.slots n.slots) where
    pub numbers_marked : {base : ℕ} (s : State) (end : ℕ) → HasNumbers sum size base s m end → HasNumbers sum size base s n end
    numbers_marked s end has = record {
      to_come = has.to_come;
      taken = λ k used. subst (λ p. HasNumber sum size s k (p / size)) (sym (same k).lsn) (has.taken k (sym (same k).free ∙ used));
      headers = λ k place mark low own. let is = has.headers k place mark low own in ((same k).free ∙ is.0, (same k).lsn ∙ is.1);
      lie = has.lie;
    }

    in_slot_marked : (e : Message) → IsInSlot size m e → IsInSlot size n e
    in_slot_marked e has =
        let k : ℕ = slot_with size e in record { taken = (same k).free ∙ has.taken; lsn = (same k).lsn ∙ has.lsn }

    pub slots_marked : (base : ℕ) (H : History) (A : ℕ) → HaveSlots sum size base H A m → HaveSlots sum size base H A n
    slots_marked base H A has = record {
      later = λ e there up. in_slot_marked e (has.later e there up);
      older = λ page e entry. in_slot_marked e (has.older page e entry);
      not_above = has.not_above;
    }

  -- So the slots that tables need from a place on have their numbers.
  module _ {from : ℕ} (some : 0 < size) (s : State) (m : Machine) (end : ℕ) (has : HasNumbers sum size from s m end)
      (H : History) (order : Ascends H.messages) (base A : ℕ)
      (slots : HaveSlots sum size base H A m) (low : base ≤ A) (passes : from ≤ A / size * size) where
    -- an entry is in the slot of its segment
    entry_in_slot : (cut page : ℕ) (e : Message) → A ≤ cut → Contains (table H cut page) e → IsInSlot size m e
    entry_in_slot cut page e up entry = elim (cases_lt e.place base) [
      | inl under ↦ slots.older page e (entry_earlier H order base cut page (omega (arith, low, up)) e under entry)
      | inr over ↦ slots.later e (from_table H cut page e entry).0 (omega (arith, over))
    ]

    its_number : (e : Message) → IsInSlot size m e → HasNumber sum size s (slot_with size e) (e.place / size)
    its_number e is =
        let same : (slot_at m (slot_with size e)).lsn / size ≡ e.place / size = ap (λ p. p / size) is.lsn ∙ mul-div_cancel (e.place / size) some in
        subst (λ n. HasNumber sum size s (slot_with size e) n) same (has.taken (slot_with size e) is.taken)

    pub numbers_stay : NumbersStay sum size s H A
    numbers_stay = record {
      entries = λ cut page e up entry. its_number e (entry_in_slot cut page e up entry);
      later = λ k place mark own up.
          let is = has.headers k place mark (omega (arith, passes, up)) own in subst (λ p. HasNumber sum size s k (p / size)) is.1 (has.taken k is.0);
      lie = has.lie;
    }
