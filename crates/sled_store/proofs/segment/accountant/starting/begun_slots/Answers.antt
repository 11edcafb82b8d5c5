-- One more slot is begun.
use Rattle.std.proofs.Common.{◌≡◌, ◌∙◌, ◌+◌, ◌++◌, [], ◌∷◌, ℕ, List, map, ap, sym, subst, arith}
use Rattle.std.proofs.lemmas.List.{map-append}
use Rattle.std.proofs.lemmas.List.FromFn.{map-range_with_len_more}
use Rattle.std.proofs.lemmas.List.Elements.{All-push}
use Rattle.std.specs.BTreeMap.{get}
use Rattle.std.specs.List.{All, range_with_len}
use Rattle.std.specs.Ordering.{nat_cmp}
use Rattle.sled_store.specs.SegmentStates.{SlotState}
use Rattle.sled_store.specs.declared.segment.slot.Slot.{Slot}
use Rattle.sled_store.specs.Accounts.{slot_state, HasRoomToDrain}
use Rattle.sled_store.specs.inside.Starting.{begun_slot}
use Rattle.sled_store.proofs.segment.accountant.starting.begun_slots.Goals as goal

one_begun : (f : ℕ → SlotState) (k : ℕ) (old new : List Slot) (s : Slot) → new ≡ old ++ s ∷ [] → slot_state s ≡ f k → map slot_state old ≡ map f (range_with_len 0 k) → map slot_state new ≡ map f (range_with_len 0 (k + 1))
one_begun f k old new s is state was =
    ap (map slot_state) is ∙ map-append slot_state old (s ∷ []) ∙ ap (λ (t : SlotState). map slot_state old ++ t ∷ []) state ∙ ap (λ (l : List SlotState). l ++ f k ∷ []) was ∙ sym (map-range_with_len_more f 0 k k (omega arith))

pub loop-slot-preserved : goal.loop-slot-preserved
loop-slot-preserved c =
    let items = c.in_ok-push.ensures.items in
    record {
      slots = one_begun (λ k. begun_slot c.args.size c.args.active k (get nat_cmp c.args.table.now.held k)) c.loop-slot.slot c.loop-slot.begun.items c.push.new.self.items c.begun_slot.result items c.begun_slot.ensures.state c.loop-slot.invariant.slots;
      room = subst (All HasRoomToDrain) (sym items) (All-push HasRoomToDrain c.loop-slot.begun.items c.begun_slot.result c.loop-slot.invariant.room c.begun_slot.ensures.room);
    }
