-- What each step makes of messages that aren't marked yet: their segments stay active, where they are.
use Rattle.std.proofs.Common.{if◌then◌else◌, ⊎_elim, ◌≡◌, ◌∙◌, ℕ, Bool, true, false, nat_lt, List, [], ◌∷◌, ◌++◌, length, set, refl, ap, subst, arith}
use Rattle.std.specs.List.{Contains}
use Rattle.std.proofs.lemmas.Bool.{ltb-true}
use Rattle.sled_codec.specs.History.{Message}
use Rattle.sled_store.specs.Marks.{slot_with}
use Rattle.sled_store.specs.SegmentStates.{SlotState, Machine, handed_out, is_active, is_free, next_slot, slot_at, taken_slot}
use Rattle.sled_store.specs.Tracked.{at}
use Rattle.sled_store.specs.inside.Outdated.{AreInActive, IsInActive}
use Rattle.sled_store.proofs.Segments.Elements.{in_cases}
use Rattle.sled_store.proofs.Marks.MarkSteps.{SameSegments}
use Rattle.sled_store.proofs.Marks.SlotLemmas.{each_slot, free_behind, push_changes, set_changes}
use Rattle.sled_store.proofs.Marks.Tracked.{active_taken}

-- one whose slot stays as it is
in_active_at : (size : ℕ) (m n : Machine) (e : Message) → slot_at n (slot_with size e) ≡ slot_at m (slot_with size e) → IsInActive size m e
    → IsInActive size n e
in_active_at size m n e same is = record {
  active = ap (λ (s : SlotState). is_active s.state) same ∙ is.active;
  lsn = ap (λ (s : SlotState). s.lsn) same ∙ is.lsn;
}

-- Where each slot has the segment that it had, as active as it was, those that are left are in active segments.
pub in_active_same : (size : ℕ) (m n : Machine) (messages fewer : List Message) → SameSegments m.slots n.slots
    → ((e : Message) → Contains fewer e → Contains messages e)
    → AreInActive size m messages → AreInActive size n fewer
in_active_same size m n messages fewer same left are e there =
    let is = are e (left e there) in
    let one = same (slot_with size e) in
    record { active = one.active ∙ is.active; lsn = one.lsn ∙ is.lsn }

-- One more is.
pub in_active_more : (size : ℕ) (m : Machine) (x : Message) (messages : List Message) → IsInActive size m x → AreInActive size m messages
    → AreInActive size m (x ∷ messages)
in_active_more size m x messages own are e there = ⊎_elim (λ is. subst (IsInActive size m) is own) (are e) (in_cases x e messages there)

-- A slot that is handed out was free, so each active segment is as it was.
active_stays : (m : Machine) (place : ℕ) → is_free (slot_at m (next_slot m)).state ≡ true → (k : ℕ) → is_active (slot_at m k).state ≡ true
    → slot_at (handed_out place m) k ≡ slot_at m k
active_stays m place free = by (nat_lt (next_slot m) (length m.slots)) refl where
  by : (b : Bool) → nat_lt (next_slot m) (length m.slots) ≡ b → (k : ℕ) → is_active (at m.slots k).state ≡ true
      → at (if b then set m.slots (next_slot m) (taken_slot place) else m.slots ++ taken_slot place ∷ []) k ≡ at m.slots k
  by true lt =
      each_slot (λ j x. is_active (at m.slots j).state ≡ true → x ≡ at m.slots j) m.slots (next_slot m) (taken_slot place)
      (set m.slots (next_slot m) (taken_slot place))
      (set_changes m.slots (next_slot m) (taken_slot place) (ltb-true (next_slot m) (length m.slots) lt))
      (λ active. absurd (active_taken (at m.slots (next_slot m)) free active)) (λ j other active. refl)
  by false ge =
      each_slot (λ j x. is_active (at m.slots j).state ≡ true → x ≡ at m.slots j) m.slots (length m.slots) (taken_slot place) (m.slots ++ taken_slot place ∷ [])
      (push_changes m.slots (taken_slot place))
      (λ active. absurd (active_taken (at m.slots (length m.slots)) (ap (λ (s : SlotState). is_free s.state)
      (free_behind m.slots (length m.slots) (omega arith))) active)) (λ j other active. refl)

pub in_active_handed : (size : ℕ) (m : Machine) (place : ℕ) (messages : List Message) → is_free (slot_at m (next_slot m)).state ≡ true
    → AreInActive size m messages
    → AreInActive size (handed_out place m) messages
in_active_handed size m place messages free are e there =
    let is = are e there in in_active_at size m (handed_out place m) e (active_stays m place free (slot_with size e) is.active) is
