-- The slots that are free are those below the tip and those that were cut off.
use Rattle.std.proofs.Common.{◌≡◌, ◌∙◌, ◌<◌, ◌≤◌, ◌+◌, ◌-◌, ◌*◌, ◌/◌, ◌^◌, ◌&&◌, ℕ, length, sym, ap, arith, nat_le}
use Rattle.std.proofs.Math.Nat.{mul-le-mul_left}
use Rattle.std.proofs.lemmas.Bool.{lt-ltb}
use Rattle.sled_store.specs.SegmentStates.{SlotState, is_free, is_inactive, free_slot, free_among, inactive_among, is_wasteful}
use Rattle.sled_store.specs.declared.segment.accountant.SegmentAccountant.{SegmentAccountant}
use Rattle.sled_store.specs.Accounts.{machine_of, IsAccountant}
use Rattle.sled_store.proofs.Accounts.AccountLemmas.{length_states}
use Rattle.sled_store.proofs.Accounts.IndexLemmas.{length_slots_where}
use Rattle.sled_store.proofs.Accounts.StabilIndex.{where_rest}
use Rattle.sled_store.proofs.segment.accountant.SegmentAccountant.is_wasteful.Goals as goal

module _ (size : ℕ) (a : SegmentAccountant) (is : IsAccountant size a) (below all : ℕ) (below_is : below ≡ length a.free.0) (all_is : all ≡ length (machine_of a).slots) where
  free_is : below + (all - a.tip) ≡ length (free_among (machine_of a).slots)
  free_is =
      omega (
        arith,
        below_is,
        all_is,
        ap length is.indexes.free_is,
        where_rest (λ (s : SlotState). is_free s.state) 0 a.tip (machine_of a).slots free_slot is.slots.within (λ k from lt. is.slots.cut_off k from),
      )

  few : length (machine_of a).slots < 2 ^ 63
  few = let some : 1 ≤ size = omega (arith, is.some) in omega (arith, mul-le-mul_left (length (machine_of a).slots) some, is.in_reach)

  few_free : below + (all - a.tip) < 2 ^ 63
  few_free = omega (arith, few, free_is, length_slots_where (λ (s : SlotState). is_free s.state) 0 (machine_of a).slots)

  few_inactive : length a.inactive.0 < 2 ^ 63
  few_inactive = omega (arith, few, ap length is.indexes.inactive_is, length_slots_where (λ (s : SlotState). is_inactive s.state) 0 (machine_of a).slots)

  wasteful_is : (inactive : ℕ) → inactive ≡ length a.inactive.0 → 5 < inactive
      → nat_le 50 ((below + (all - a.tip)) * 100 / (1 + (below + (all - a.tip)) + inactive)) ≡ is_wasteful (machine_of a).slots
  wasteful_is inactive same more =
      let f : ℕ = length (free_among (machine_of a).slots) in
      let i : ℕ = length (inactive_among (machine_of a).slots) in
      let inactive_is : inactive ≡ i = same ∙ ap length is.indexes.inactive_is in
      ap (λ n. nat_le 50 (n * 100 / (1 + n + inactive))) free_is ∙ ap (λ n. nat_le 50 (f * 100 / (1 + f + n))) inactive_is
      ∙ sym (ap (λ b. b && nat_le 50 (f * 100 / (1 + f + i))) (lt-ltb 5 i (omega arith)))

pub overflow_add-free : goal.overflow_add-free
overflow_add-free c =
    let all : c.len-2.result ≡ length (machine_of c.args.self.now).slots = sym (length_states c.args.self.now.slots.items ∙ sym c.args.self.now.slots.ok.0 ∙ sym c.len-2.ensures) in
    omega (arith, few_free c.args.self.now.size c.args.self.now c.requires c.len.result c.len-2.result c.len.ensures all)

pub overflow_add-result : goal.overflow_add-result
overflow_add-result c =
    let all : c.len-2.result ≡ length (machine_of c.args.self.now).slots = sym (length_states c.args.self.now.slots.items ∙ sym c.args.self.now.slots.ok.0 ∙ sym c.len-2.ensures) in
    omega (arith, few_free c.args.self.now.size c.args.self.now c.requires c.len.result c.len-2.result c.len.ensures all)

pub overflow_add-result-then-inactive-gt5 : goal.overflow_add-result-then-inactive-gt5
overflow_add-result-then-inactive-gt5 c =
    let all : c.len-2.result ≡ length (machine_of c.args.self.now).slots = sym (length_states c.args.self.now.slots.items ∙ sym c.args.self.now.slots.ok.0 ∙ sym c.len-2.ensures) in
    omega (arith, c.len-inactive.ensures, few_free c.args.self.now.size c.args.self.now c.requires c.len.result c.len-2.result c.len.ensures all, few_inactive c.args.self.now.size c.args.self.now c.requires c.len.result c.len-2.result c.len.ensures all)

pub returns-then-inactive-gt5 : goal.returns-then-inactive-gt5
returns-then-inactive-gt5 c =
    let all : c.len-2.result ≡ length (machine_of c.args.self.now).slots = sym (length_states c.args.self.now.slots.items ∙ sym c.args.self.now.slots.ok.0 ∙ sym c.len-2.ensures) in
    wasteful_is c.args.self.now.size c.args.self.now c.requires c.len.result c.len-2.result c.len.ensures all c.len-inactive.result c.len-inactive.ensures c.if-inactive-gt5.true
