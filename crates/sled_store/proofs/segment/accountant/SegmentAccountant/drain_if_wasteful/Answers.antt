-- Where much is free, the last of the inactive slots is drained.
use Rattle.std.proofs.Common.{◌≡◌, ◌∙◌, ◌<◌, ◌-◌, ◌+◌, ◌*◌, ◌/◌, ℕ, List, Some, None, true, length, get_or, sym, ap, subst, arith, nat_le, nat_lt, if◌then◌else◌}
use Rattle.std.proofs.lemmas.Bool.{ltb-true}
use Rattle.std.proofs.lemmas.Option.{slice_get_within, get_or_from_slice_get, slice_get-get_or}
use Rattle.std.specs.List.{slice_get}
use Rattle.sled_store.specs.SegmentStates.{is_inactive, free_slot, slot_at, free_among, inactive_among, is_wasteful, drained, drained_if_wasteful}
use Rattle.sled_store.specs.declared.segment.accountant.SegmentAccountant.{SegmentAccountant}
use Rattle.sled_store.specs.Accounts.{machine_of, IsAccountant}
use Rattle.sled_store.proofs.Accounts.StabilIndex.{Passes, all_pass}
use Rattle.sled_store.proofs.Accounts.StabilSlots.{first_so}
use Rattle.sled_store.proofs.segment.accountant.SegmentAccountant.drain_if_wasteful.Goals as goal

module _ (size : ℕ) (a : SegmentAccountant) (is : IsAccountant size a) where
  module _ (k : ℕ) (last : Some k ≡ slice_get a.inactive.0 (length a.inactive.0 - 1)) where
    at_last : slice_get (inactive_among (machine_of a).slots) (length (inactive_among (machine_of a).slots) - 1) ≡ Some k
    at_last = subst (λ (l : List ℕ). slice_get l (length l - 1) ≡ Some k) is.indexes.inactive_is (sym last)

    last_is : get_or (inactive_among (machine_of a).slots) (length (inactive_among (machine_of a).slots) - 1) 0 ≡ k
    last_is = get_or_from_slice_get (inactive_among (machine_of a).slots) (length (inactive_among (machine_of a).slots) - 1) k 0 at_last

    passes : Passes (λ s. is_inactive s.state) 0 (machine_of a).slots free_slot k
    passes =
        let l : List ℕ = inactive_among (machine_of a).slots in
        subst (Passes (λ s. is_inactive s.state) 0 (machine_of a).slots free_slot) last_is (all_pass (λ s. is_inactive s.state) free_slot 0 (machine_of a).slots (length l - 1) 0 (slice_get_within l (length l - 1) k at_last))

    there : k < length (machine_of a).slots
    there = omega (arith, passes.below)

    inactive : is_inactive (slot_at (machine_of a) k).state ≡ true
    inactive = let none : k - 0 ≡ k = omega arith in subst (λ n. is_inactive (get_or (machine_of a).slots n free_slot).state ≡ true) none passes.passes

    drained_last : is_wasteful (machine_of a).slots ≡ true → drained k (machine_of a) ≡ drained_if_wasteful (machine_of a)
    drained_last much =
        let l : List ℕ = inactive_among (machine_of a).slots in
        ap (λ n. drained n (machine_of a)) (sym last_is) ∙ sym (ap (λ b. if b then drained (get_or l (length l - 1) 0) (machine_of a) else machine_of a) much)

  not_none : is_wasteful (machine_of a).slots ≡ true → None ≡ slice_get a.inactive.0 (length a.inactive.0 - 1) → machine_of a ≡ drained_if_wasteful (machine_of a)
  not_none much none =
      let f : ℕ = length (free_among (machine_of a).slots) in
      let i : ℕ = length (inactive_among (machine_of a).slots) in
      let more : 5 < i = ltb-true 5 i (first_so (nat_lt 5 i) (nat_le 50 (f * 100 / (1 + f + i))) much) in
      let some = slice_get-get_or a.inactive.0 (length a.inactive.0 - 1) 0 (omega (arith, ap length is.indexes.inactive_is)) in absurd (cc)

pub drain-requires-clause-slot : goal.drain-requires-clause-slot
drain-requires-clause-slot c = there c.args.self.now.size c.args.self.now c.requires c.in-Some.slot c.in-Some.ensures

pub drain-requires-clause-inactive : goal.drain-requires-clause-inactive
drain-requires-clause-inactive c = inactive c.args.self.now.size c.args.self.now c.requires c.in-Some.slot c.in-Some.ensures

pub returns-in-Some-clause-machine : goal.returns-in-Some-clause-machine
returns-in-Some-clause-machine c =
    c.drain.ensures.done ∙ drained_last c.args.self.now.size c.args.self.now c.requires c.in-Some.slot c.in-Some.ensures (sym c.is_wasteful.ensures ∙ c.if-not-is_wasteful.false)

pub returns-in-None-clause-machine : goal.returns-in-None-clause-machine
returns-in-None-clause-machine c = not_none c.args.self.now.size c.args.self.now c.requires (sym c.is_wasteful.ensures ∙ c.if-not-is_wasteful.false) c.in-None.ensures
