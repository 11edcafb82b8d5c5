-- A slot that is there changes nothing, and another one is one leaf more.
use Rattle.std.proofs.Common.{◌≡◌, ◌∙◌, ◌+◌, ℕ, List, ap, subst, arith}
use Rattle.std.specs.Ordering.{nat_cmp}
use Rattle.std.specs.BTreeSet.{insert_key}
use Rattle.sled_store.proofs.Accounts.TreeLemmas.{few, read_mark, slots_there, slots_put, tree_put}
use Rattle.sled_store.proofs.segment.slot_set.SlotSet.insert.Goals as goal

pub returns-then-index-clause-keys : goal.returns-then-index-clause-keys
returns-then-index-clause-keys c =
    let width : c.self.inside.width ≡ c.args.self.now.1 = ap (λ v. v.1) c.self.view_is in
    let there = read_mark c.self.inside.marks.items (c.self.inside.width + c.args.slot) c.index.result.now (omega (arith, c.requires, c.self.invariant.leaves)) c.index.ensures ∙ c.if-index.true in
    subst (λ (l : List ℕ). l ≡ insert_key nat_cmp l c.args.slot) (ap (λ v. v.0) c.self.view_is)
    (slots_there c.self.inside.depth c.self.inside.width c.self.inside.count c.self.inside.marks.items c.self.invariant c.args.slot (omega (arith, c.requires)) there)

pub overflow_add-self : goal.overflow_add-self
overflow_add-self c = omega (arith, few c.self.inside.depth c.self.inside.width c.self.inside.count c.self.inside.marks.items c.self.invariant, c.self.invariant.leaves)

pub returns-clause-keys : goal.returns-clause-keys
returns-clause-keys c =
    let width : c.self.inside.width ≡ c.args.self.now.1 = ap (λ v. v.1) c.self.view_is in
    let lacks = read_mark c.self.inside.marks.items (c.self.inside.width + c.args.slot) c.index.result.now (omega (arith, c.requires, c.self.invariant.leaves)) c.index.ensures ∙ c.if-index.false in
    slots_put c.self.inside.depth c.self.inside.width c.self.inside.count c.self.inside.marks.items c.self.invariant c.args.slot (omega (arith, c.requires)) c.mark_above.new.marks.items c.mark_above.ensures.len c.mark_above.ensures.tied lacks c.mark_above.ensures.leaves
    ∙ ap (λ v. insert_key nat_cmp v.0 c.args.slot) c.self.view_is

pub invariant_of-self : goal.invariant_of-self
invariant_of-self c =
    let width : c.self.inside.width ≡ c.args.self.now.1 = ap (λ v. v.1) c.self.view_is in
    let lacks = read_mark c.self.inside.marks.items (c.self.inside.width + c.args.slot) c.index.result.now (omega (arith, c.requires, c.self.invariant.leaves)) c.index.ensures ∙ c.if-index.false in
    tree_put c.self.inside.depth c.self.inside.width c.self.inside.count c.self.inside.marks.items c.self.invariant c.args.slot (omega (arith, c.requires)) c.mark_above.new.marks.items c.mark_above.ensures.len c.mark_above.ensures.tied lacks c.mark_above.ensures.leaves
