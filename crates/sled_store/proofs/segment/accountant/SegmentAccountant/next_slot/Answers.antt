-- The first free slot, or the tip.
use Rattle.std.proofs.Common.{◌∙◌, ◌≤◌, ap, arith, length}
use Rattle.std.proofs.Math.Nat.{mul-le-mul_right}
use Rattle.std.specs.Option.{unwrap_or}
use Rattle.sled_store.specs.Begin.{first_or}
use Rattle.sled_store.specs.Accounts.{machine_of}
use Rattle.sled_store.specs.SegmentStates.{next_slot}
use Rattle.sled_store.proofs.Accounts.HandLemmas.{first_is, next_is}
use Rattle.sled_store.proofs.segment.accountant.SegmentAccountant.next_slot.Goals as goal

pub returns-clause-slot : goal.returns-clause-slot
returns-clause-slot c =
    c.unwrap_or.ensures ∙ ap (λ o. unwrap_or o c.args.self.now.tip) c.first.ensures ∙ first_is c.args.self.now.free.0 c.args.self.now.tip
    ∙ ap (first_or c.args.self.now.tip) c.requires.indexes.free_is

pub returns-clause-within : goal.returns-clause-within
returns-clause-within c =
    let next = next_is c.args.self.now.tip (machine_of c.args.self.now).slots c.requires.slots in
    let low : next_slot (machine_of c.args.self.now) ≤ c.args.self.now.tip = next.within in
    omega (arith, returns-clause-slot c, low, c.requires.slots.within)

pub returns-clause-in_reach : goal.returns-clause-in_reach
returns-clause-in_reach c =
    let within : c.unwrap_or.result ≤ length (machine_of c.args.self.now).slots = returns-clause-within c in
    omega (arith, mul-le-mul_right c.args.self.now.size within, c.requires.in_reach)
