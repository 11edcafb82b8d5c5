-- The slot is put in the index of its state.
use Rattle.std.proofs.Common.{◌≡◌, ◌∙◌, ◌+◌, ◌<◌, ◌≤◌, ℕ, List, [], ◌∷◌, ◌++◌, length, get_or, map, take, inr, sym, ap, subst, arith, length-take}
use Rattle.std.proofs.lemmas.List.{take_more}
use Rattle.sled_store.specs.SegmentStates.{SlotState}
use Rattle.sled_store.specs.declared.segment.slot.Slot.{Slot}
use Rattle.sled_store.specs.declared.segment.slot.State.{State}
use Rattle.sled_store.specs.declared.segment.slot.State.TheVariants.{Free, Active, Inactive, Draining}
use Rattle.sled_store.specs.Accounts.{slot_state}
use Rattle.sled_store.specs.inside.Starting.{AreNoted}
use Rattle.sled_store.proofs.Accounts.AccountLemmas.{state_at, length_states}
use Rattle.sled_store.proofs.Accounts.StartIndex.{noted_as, noted_more, noted_within}
use Rattle.sled_store.proofs.segment.accountant.SegmentAccountant.note.Goals as goal

module _ (slots : List Slot) (k : ℕ) (s : Slot) (free : List ℕ) (active : List (ℕ × ℕ)) (inactive : List ℕ) (lt : k < length slots) (are : AreNoted (take k (map slot_state slots)) free active inactive) where
  one_more : (st : State) → s ≡ get_or slots k s → s.state ≡ st
      → AreNoted (take (k + 1) (map slot_state slots)) (noted_as st s.lsn k free active inactive).0 (noted_as st s.lsn k free active inactive).1 (noted_as st s.lsn k free active inactive).2
  one_more st at is =
      let xs : List SlotState = map slot_state slots in
      let long : k < length xs = omega (arith, length_states slots) in
      let more : take (k + 1) xs ≡ take k xs ++ slot_state s ∷ [] = take_more xs k (slot_state s) long ∙ ap (λ (t : SlotState). take k xs ++ t ∷ []) (state_at slots k s (slot_state s) lt ∙ ap slot_state (sym at)) in
      subst (λ l. AreNoted l (noted_as st s.lsn k free active inactive).0 (noted_as st s.lsn k free active inactive).1 (noted_as st s.lsn k free active inactive).2) (sym more)
      (noted_more (take k xs) (slot_state s) st k free active inactive is (omega (arith, length-take k xs)) are)

  free_few : length free ≤ k
  free_few =
      let within = noted_within (take k (map slot_state slots)) free active inactive are in
      let cut = length-take k (map slot_state slots) in
      omega (arith, within.0, cut)

  active_room : length active ≤ k
  active_room =
      let within = noted_within (take k (map slot_state slots)) free active inactive are in
      let cut = length-take k (map slot_state slots) in
      omega (arith, within.1, cut)

pub insert-requires : goal.insert-requires
insert-requires c = inr (let few = free_few c.args.self.now.slots.items c.args.slot c.index-s.result.now _ _ _ c.requires.slot c.requires.noted in omega (arith, few, c.requires.room.free, c.requires.slot))

pub insert-requires-in-Active : goal.insert-requires-in-Active
insert-requires-in-Active c = inr (let few = active_room c.args.self.now.slots.items c.args.slot c.index-s.result.now _ _ _ c.requires.slot c.requires.noted in omega (arith, few, c.requires.room.active, c.requires.slot))

pub insert-requires-in-Inactive : goal.insert-requires-in-Inactive
insert-requires-in-Inactive c = omega (arith, c.requires.room.inactive, c.requires.slot)

pub returns-in-Free-clause-noted : goal.returns-in-Free-clause-noted
returns-in-Free-clause-noted c =
    subst (λ l. AreNoted (take (c.args.slot + 1) (map slot_state c.args.self.now.slots.items)) l c.args.self.now.active.0 c.args.self.now.inactive.0) (sym c.insert.ensures.keys)
    (one_more c.args.self.now.slots.items c.args.slot c.index-s.result.now _ _ _ c.requires.slot c.requires.noted Free c.index-s.ensures c.in-Free.is)

pub returns-in-Active-clause-noted : goal.returns-in-Active-clause-noted
returns-in-Active-clause-noted c =
    subst (λ l. AreNoted (take (c.args.slot + 1) (map slot_state c.args.self.now.slots.items)) c.args.self.now.free.0 l c.args.self.now.inactive.0) (sym c.insert-in-Active.ensures.keys)
    (one_more c.args.self.now.slots.items c.args.slot c.index-s.result.now _ _ _ c.requires.slot c.requires.noted Active c.index-s.ensures c.in-Active.is)

pub returns-in-Inactive-clause-noted : goal.returns-in-Inactive-clause-noted
returns-in-Inactive-clause-noted c =
    subst (λ l. AreNoted (take (c.args.slot + 1) (map slot_state c.args.self.now.slots.items)) c.args.self.now.free.0 c.args.self.now.active.0 l) (sym c.insert-in-Inactive.ensures.keys)
    (one_more c.args.self.now.slots.items c.args.slot c.index-s.result.now _ _ _ c.requires.slot c.requires.noted Inactive c.index-s.ensures c.in-Inactive.is)

pub returns-in-Draining-clause-noted : goal.returns-in-Draining-clause-noted
returns-in-Draining-clause-noted c = one_more c.args.self.now.slots.items c.args.slot c.index-s.result.now _ _ _ c.requires.slot c.requires.noted Draining c.index-s.ensures c.in-Draining.is
