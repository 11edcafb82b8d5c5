-- The way down ends at the leaf of the least slot.
use Rattle.std.proofs.Common.{◌≡◌, ◌∙◌, ◌^◌, ◌<◌, ◌≤◌, ℕ, List, Bool, true, false, slice_get, sym, ap, subst, arith}
use Rattle.sled_store.specs.SlotSets.{mark}
use Rattle.sled_store.proofs.Accounts.TreeLemmas.{root_marked, is_full, slots_first}
use Rattle.sled_store.proofs.segment.slot_set.SlotSet.first.Goals as goal

pub lowest-leaf-requires-clause-some : goal.lowest-leaf-requires-clause-some
lowest-leaf-requires-clause-some c =
    subst (λ (l : List Bool). mark l 1 ≡ true) (sym c.as_slice.ensures.value)
    (root_marked c.self.inside.depth c.self.inside.width c.self.inside.count c.self.inside.marks.items c.self.invariant (omega arith))

pub returns : goal.returns
returns c =
    let marks : List Bool = c.self.inside.marks.items in
    let width : ℕ = c.self.inside.width in
    let leaf : ℕ = c.lowest-leaf.result in
    let full = is_full c.self.inside.depth width c.self.inside.count marks c.self.invariant (omega arith) in
    let marked = subst (λ (l : List Bool). mark l leaf ≡ true) c.as_slice.ensures.value c.lowest-leaf.ensures.marked in
    let before = subst (λ (l : List Bool). (i : ℕ) → 2 ^ c.self.inside.depth ≤ i → i < leaf → mark l i ≡ false) c.as_slice.ensures.value c.lowest-leaf.ensures.least in
    sym (slots_first width marks leaf (omega arith) marked (λ i low lt. before i (omega arith) lt)) ∙ ap (λ v. slice_get v.0 0) c.self.view_is
