-- A slot that is missing changes nothing, and another one is one leaf less.
use Rattle.std.proofs.Common.{◌≡◌, ◌∙◌, ◌+◌, ℕ, List, ap, subst, arith}
use Rattle.std.specs.Ordering.{nat_cmp}
use Rattle.std.specs.BTreeMap.{is_at}
use Rattle.std.specs.Set.{remove_key}
use Rattle.sled_store.proofs.Accounts.TreeLemmas.{read_mark, some_there, slots_missing, slots_past, slots_taken, tree_taken}
use Rattle.sled_store.proofs.segment.slot_set.SlotSet.remove.Goals as goal

pub returns-then-slot-self-clause-keys : goal.returns-then-slot-self-clause-keys
returns-then-slot-self-clause-keys c =
    subst (λ (l : List ℕ). l ≡ remove_key (is_at (nat_cmp c.args.slot)) l) (ap (λ v. v.0) c.self.view_is)
    (slots_past c.self.inside.depth c.self.inside.width c.self.inside.count c.self.inside.marks.items c.self.invariant c.args.slot (omega (arith, c.if-slot-self.true)))

pub returns-then-not-index-clause-keys : goal.returns-then-not-index-clause-keys
returns-then-not-index-clause-keys c =
    let lacks = read_mark c.self.inside.marks.items (c.self.inside.width + c.args.slot) c.index.result.now (omega (arith, c.if-slot-self.false, c.self.invariant.leaves)) c.index.ensures ∙ c.if-not-index.true in
    subst (λ (l : List ℕ). l ≡ remove_key (is_at (nat_cmp c.args.slot)) l) (ap (λ v. v.0) c.self.view_is)
    (slots_missing c.self.inside.depth c.self.inside.width c.self.inside.count c.self.inside.marks.items c.self.invariant c.args.slot lacks)

pub overflow_sub-self : goal.overflow_sub-self
overflow_sub-self c =
    let there = read_mark c.self.inside.marks.items (c.self.inside.width + c.args.slot) c.index.result.now (omega (arith, c.if-slot-self.false, c.self.invariant.leaves)) c.index.ensures ∙ c.if-not-index.false in
    omega (arith, some_there c.self.inside.depth c.self.inside.width c.self.inside.count c.self.inside.marks.items c.self.invariant c.args.slot (omega (arith, c.if-slot-self.false)) there)

pub returns-clause-keys : goal.returns-clause-keys
returns-clause-keys c =
    let there = read_mark c.self.inside.marks.items (c.self.inside.width + c.args.slot) c.index.result.now (omega (arith, c.if-slot-self.false, c.self.invariant.leaves)) c.index.ensures ∙ c.if-not-index.false in
    slots_taken c.self.inside.depth c.self.inside.width c.self.inside.count c.self.inside.marks.items c.self.invariant c.args.slot (omega (arith, c.if-slot-self.false)) c.mark_above.new.marks.items c.mark_above.ensures.len c.mark_above.ensures.tied there c.mark_above.ensures.leaves
    ∙ ap (λ v. remove_key (is_at (nat_cmp c.args.slot)) v.0) c.self.view_is

pub invariant_of-self : goal.invariant_of-self
invariant_of-self c =
    let there = read_mark c.self.inside.marks.items (c.self.inside.width + c.args.slot) c.index.result.now (omega (arith, c.if-slot-self.false, c.self.invariant.leaves)) c.index.ensures ∙ c.if-not-index.false in
    tree_taken c.self.inside.depth c.self.inside.width c.self.inside.count c.self.inside.marks.items c.self.invariant c.args.slot (omega (arith, c.if-slot-self.false)) c.mark_above.new.marks.items c.mark_above.ensures.len c.mark_above.ensures.tied there c.mark_above.ensures.leaves
