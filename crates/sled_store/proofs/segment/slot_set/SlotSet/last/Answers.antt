-- The way down ends at the leaf of the greatest slot.
use Rattle.std.proofs.Common.{◌≡◌, ◌∙◌, ◌*◌, ◌-◌, ◌^◌, ◌<◌, ℕ, List, Bool, true, false, length, slice_get, sym, ap, subst, arith}
use Rattle.sled_store.specs.SlotSets.{mark}
use Rattle.sled_store.proofs.Accounts.TreeLemmas.{root_marked, is_full, slots_last}
use Rattle.sled_store.proofs.segment.slot_set.SlotSet.last.Goals as goal

pub highest-leaf-requires-clause-some : goal.highest-leaf-requires-clause-some
highest-leaf-requires-clause-some c =
    subst (λ (l : List Bool). mark l 1 ≡ true) (sym c.as_slice.ensures.value)
    (root_marked c.self.inside.depth c.self.inside.width c.self.inside.count c.self.inside.marks.items c.self.invariant (omega arith))

pub returns : goal.returns
returns c =
    let marks : List Bool = c.self.inside.marks.items in
    let width : ℕ = c.self.inside.width in
    let leaf : ℕ = c.highest-leaf.result in
    let full = is_full c.self.inside.depth width c.self.inside.count marks c.self.invariant (omega arith) in
    let marked = subst (λ (l : List Bool). mark l leaf ≡ true) c.as_slice.ensures.value c.highest-leaf.ensures.marked in
    let before = subst (λ (l : List Bool). (i : ℕ) → leaf < i → i < 2 * 2 ^ c.self.inside.depth → mark l i ≡ false) c.as_slice.ensures.value c.highest-leaf.ensures.greatest in
    sym (slots_last width marks leaf c.self.invariant.leaves (omega arith) marked (λ i gt lt. before i gt (omega arith))) ∙ ap (λ v. slice_get v.0 (length v.0 - 1)) c.self.view_is
