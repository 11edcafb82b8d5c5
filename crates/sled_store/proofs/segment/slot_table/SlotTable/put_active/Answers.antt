-- The active segment is booked as an entry of no bytes.
use Rattle.std.proofs.Common.{◌≡◌, [], ◌∷◌, ℕ, Option, pos, to_z, w64, sym, subst, rules, arith, OnOk}
use Rattle.sled_codec.specs.declared.result.DiskPtr.TheVariants.{Inline}
use Rattle.sled_store.specs.SlotTables.{IsSlotTable, active_entry}
use Rattle.sled_store.proofs.Segments.StartLemmas.{fit_alone}
use Rattle.sled_store.proofs.segment.slot_table.SlotTable.put_active.Goals as goal

pub returns-else-not-may_be_active-clause-ok : goal.returns-else-not-may_be_active-clause-ok
returns-else-not-may_be_active-clause-ok c =
    let is : to_z w64 c.args.limits.stable ≡ pos c.args.limits.stable = search rules in
    let size : ℕ = c.args.limits.size in
    subst (λ (a : Option ℕ). OnOk c.note.result (IsSlotTable size c.note.new.self (active_entry c.args.limits.stable a))) (sym c.in-Some.is)
    (subst (λ z. OnOk c.note.result (IsSlotTable size c.note.new.self ((z, Inline c.in-Some.slot, 0) ∷ []))) is (c.note.ensures.ok [] c.requires))

pub returns-else-not-may_be_active-clause-corrupt : goal.returns-else-not-may_be_active-clause-corrupt
returns-else-not-may_be_active-clause-corrupt c = λ corrupt _. c.note.ensures.corrupt [] c.requires corrupt (fit_alone c.args.limits.size _ (omega arith))
