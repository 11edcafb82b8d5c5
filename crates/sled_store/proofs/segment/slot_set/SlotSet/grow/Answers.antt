-- The old leaves come first among the new ones, and the inner nodes are marked anew.
use Rattle.std.proofs.Common.{◌≡◌, ◌∙◌, ◌*◌, ◌+◌, ◌-◌, ◌^◌, ◌<◌, ℕ, List, Bool, length, refl, sym, ap, subst, arith, rules, vec_len}
use Rattle.std.specs.List.{CopiedTo, SameFrom}
use Rattle.sled_store.specs.SlotSets.{marked_slots}
use Rattle.sled_store.proofs.Accounts.TreeLemmas.{below_pow, level_next, slots_grown}
use Rattle.sled_store.proofs.segment.slot_set.SlotSet.grow.Goals as goal
use Rattle.sled_store.proofs.segment.slot_set.SlotSet.grow.Goals.{then-old-eq0, else-old-eq0}

pub overflow_add-width : goal.overflow_add-width
overflow_add-width c =
    let full = c.self.invariant.full (omega (arith, c.if-old-eq0.false)) in
    omega (arith, below_pow c.self.inside.depth, full, c.self.invariant.leaves)

-- there are more leaves, as many as the depth says
sizes : (c : goal.After-self-2-1) → (c.self.inside.width < c.if-old-eq0.width.0) × (c.if-old-eq0.width.0 ≡ 2 ^ c.if-old-eq0.width.1)
sizes c =
    elim c.if-old-eq0.branch [
      | then-old-eq0 w ↦ subst (λ (v : ℕ × ℕ). (c.self.inside.width < v.0) × (v.0 ≡ 2 ^ v.1)) (sym w.width-is) (omega (arith, w.if-old-eq0.true), refl)
      | else-old-eq0 w ↦
          let full = c.self.invariant.full (omega (arith, w.if-old-eq0.false)) in
          subst (λ (v : ℕ × ℕ). (c.self.inside.width < v.0) × (v.0 ≡ 2 ^ v.1)) (sym w.width-is) (omega (arith, w.if-old-eq0.false), ap (λ n. 2 * n) full ∙ sym (level_next c.self.inside.depth))
    ]

slots : (c : goal.After-self-2-1) → marked_slots c.if-old-eq0.width.0 c.mark_inner.new.marks.items ≡ marked_slots c.self.inside.width c.self.inside.marks.items
slots c =
    let old : ℕ = c.self.inside.width in
    let wide : ℕ = c.if-old-eq0.width.0 in
    let marks : List Bool = c.self.inside.marks.items in
    let mid : List Bool = c.resize.new.self.items in
    let held : vec_len c.self.inside.marks ≡ length marks = search rules in
    let long : vec_len c.resize.new.self ≡ length mid = search rules in
    let cut : List Bool = c.copy_within.new.self.items in
    let count : 2 * old - old ≡ old = omega arith in
    slots_grown old wide marks mid cut c.mark_inner.new.marks.items (sizes c).0 c.self.invariant.leaves (sym long ∙ c.in_ok-resize.ensures.len)
    (λ k d lt below. c.in_ok-resize.ensures.by_index.0 k d lt (omega (arith, held, c.self.invariant.leaves)))
    (λ k d low lt. c.in_ok-resize.ensures.by_index.1 k d refl (omega (arith, held, c.self.invariant.leaves)) lt)
    (subst (CopiedTo mid cut old wide) count c.copy_within.ensures.by_index.0)
    (subst (λ n. SameFrom mid cut (wide + n)) count c.copy_within.ensures.by_index.2) c.mark_inner.ensures.leaves

pub returns-clause-keys : goal.returns-clause-keys
returns-clause-keys c = slots c ∙ ap (λ v. v.0) c.self.view_is

pub invariant_of-self-2 : goal.invariant_of-self-2
invariant_of-self-2 c = record {
  leaves = c.mark_inner.ensures.len;
  full = λ some. (sizes c).1;
  tied = c.mark_inner.ensures.tied;
  counted = c.self.invariant.counted ∙ ap length (sym (slots c));
}
