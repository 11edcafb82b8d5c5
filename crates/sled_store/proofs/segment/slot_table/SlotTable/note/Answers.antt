-- An entry is booked beside the others, or can't lie there.
use Rattle.std.proofs.Common.{◌≡◌, ◌+◌, ◌/◌, ◌≤◌, ◌<◌, ◌^◌, ◌∙◌, ℕ, sym, ap, rules, arith, unsigned_abs, to_z, of_z, w64}
use Rattle.sled_store.specs.Begin.{slot_of, segment_number_of}
use Rattle.sled_store.proofs.Segments.SlotTableLemmas.{booked_at, place_unfit, size_unfit}
use Rattle.sled_store.proofs.segment.slot_table.SlotTable.note.Goals as goal
use Rattle.sled_store.proofs.segment.slot_table.SlotTable.note.Goals.{then-len-via-then-len, then-len-via-else-len+then-sum-len}

pub returns-in_default-clause-corrupt : goal.returns-in_default-clause-corrupt
returns-in_default-clause-corrupt c = λ es booked _.
    let is : to_z w64 (of_z w64 c.args.entry.now.0) ≡ c.args.entry.now.0 = search rules in
    let slot : c.lid.result / c.args.size ≡ slot_of c.args.size c.args.entry.now = ap (λ (n : ℕ). n / c.args.size) c.lid.ensures in
    let number : c.unsigned_abs.result / c.args.size ≡ segment_number_of c.args.size c.args.entry.now = ap (λ (n : ℕ). n / c.args.size) (c.unsigned_abs.ensures.value ∙ ap unsigned_abs is) in
    place_unfit c.args.size c.args.self.now es c.args.entry.now _ _ slot number booked (sym c.sum_in.ensures ∙ c.in_default.is)

pub returns-then-len-clause-corrupt : goal.returns-then-len-clause-corrupt
returns-then-len-clause-corrupt c = λ es booked _.
    let is : to_z w64 (of_z w64 c.args.entry.now.0) ≡ c.args.entry.now.0 = search rules in
    let slot : c.lid.result / c.args.size ≡ slot_of c.args.size c.args.entry.now = ap (λ (n : ℕ). n / c.args.size) c.lid.ensures in
    let number : c.unsigned_abs.result / c.args.size ≡ segment_number_of c.args.size c.args.entry.now = ap (λ (n : ℕ). n / c.args.size) (c.unsigned_abs.ensures.value ∙ ap unsigned_abs is) in
    let large : 2 ^ 63 ≤ c.in-Some.sum + c.args.entry.now.2 = elim c.then-len.branch [ then-len-via-then-len w ↦ omega (arith, w.if-len.true) | then-len-via-else-len+then-sum-len w ↦ omega (arith, w.if-len.false, w.if-sum-len.true) ] in
    size_unfit c.args.size c.args.self.now es c.args.entry.now _ _ slot number c.in-Some.sum booked (sym c.sum_in.ensures ∙ c.in-Some.is) large

pub returns-clause-ok : goal.returns-clause-ok
returns-clause-ok c = λ es booked.
    let is : to_z w64 (of_z w64 c.args.entry.now.0) ≡ c.args.entry.now.0 = search rules in
    let slot : c.lid.result / c.args.size ≡ slot_of c.args.size c.args.entry.now = ap (λ (n : ℕ). n / c.args.size) c.lid.ensures in
    let number : c.unsigned_abs.result / c.args.size ≡ segment_number_of c.args.size c.args.entry.now = ap (λ (n : ℕ). n / c.args.size) (c.unsigned_abs.ensures.value ∙ ap unsigned_abs is) in
    let small : c.in-Some.sum + c.args.entry.now.2 < 2 ^ 63 = omega (arith, c.if-len.false, c.if-sum-len.false) in
    booked_at c.args.size c.args.self.now es c.args.entry.now _ _ slot number c.in-Some.sum c.insert.new.self c.insert-2.new.self booked (sym c.sum_in.ensures ∙ c.in-Some.is) small c.in_ok-insert.ensures.updates.0 c.in_ok-insert-2.ensures.updates.0
