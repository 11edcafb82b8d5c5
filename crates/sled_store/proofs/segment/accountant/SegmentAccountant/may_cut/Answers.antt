-- The last of the free slots is the last of all, and it is not the only one.
use Rattle.std.proofs.Common.{◌≡◌, ◌∙◌, ◌-◌, ◌<◌, ◌≤◌, length, Some, sym, arith, eq-eqb}
use Rattle.std.proofs.lemmas.Bool.{eqb-true}
use Rattle.sled_store.specs.Accounts.{machine_of}
use Rattle.sled_store.proofs.Accounts.StabilCut.{one_only, is_last, below_tip, may_cut}
use Rattle.sled_store.proofs.segment.accountant.SegmentAccountant.may_cut.Goals as goal

pub returns-then-len-le1 : goal.returns-then-len-le1
returns-then-len-le1 c =
    let few : length c.args.self.now.free.0 ≤ 1 = omega (arith, c.len.ensures, c.if-len-le1.true) in
    (λ no. absurd (cc), λ may. absurd (one_only (machine_of c.args.self.now) c.requires.slots c.args.self.now.free.0 c.requires.indexes.free_is few may))

pub overflow_sub-result : goal.overflow_sub-result
overflow_sub-result c = omega (arith, below_tip (machine_of c.args.self.now) c.requires.slots c.args.self.now.free.0 c.requires.indexes.free_is c.in-Some.last (sym c.in-Some.ensures))

pub returns-in-Some : goal.returns-in-Some
returns-in-Some c =
    let more : 1 < length c.args.self.now.free.0 = omega (arith, c.len.ensures, c.if-len-le1.false) in (
      (λ yes. may_cut (machine_of c.args.self.now) c.requires.slots c.args.self.now.free.0 c.requires.indexes.free_is c.in-Some.last (sym c.in-Some.ensures) more (eqb-true c.in-Some.last (c.args.self.now.tip - 1) yes)),
      (λ may.
          let is : Some c.in-Some.last ≡ Some (c.args.self.now.tip - 1) = c.in-Some.ensures ∙ is_last (machine_of c.args.self.now) c.requires.slots c.args.self.now.free.0 c.requires.indexes.free_is may in
          eq-eqb c.in-Some.last (c.args.self.now.tip - 1) (cc)),
    )

pub returns-in-None : goal.returns-in-None
returns-in-None c = (
  (λ no. absurd (cc)),
  (λ may. let is = c.in-None.ensures ∙ is_last (machine_of c.args.self.now) c.requires.slots c.args.self.now.free.0 c.requires.indexes.free_is may in absurd (cc)),
)
