-- Entries are booked one after another, or one of them can't be.
use Rattle.std.proofs.Common.{◌≡◌, ◌∙◌, ◌+◌, ◌++◌, [], ◌∷◌, ℕ, List, pos, take, get_or, ap, sym, subst, arith, append_assoc, take_all}
use Rattle.std.proofs.lemmas.List.{get_or_default}
use Rattle.std.specs.List.{All}
use Rattle.sled_codec.specs.declared.result.DiskPtr.TheVariants.{Inline}
use Rattle.sled_codec.specs.Snapshots.{Entry}
use Rattle.sled_store.specs.Begin.{IsPlacedIn}
use Rattle.sled_store.specs.SlotTables.{IsSlotTable}
use Rattle.sled_store.proofs.Segments.FitLemmas.{all_at, all_one, take_one, fit_step}
use Rattle.sled_store.proofs.segment.slot_table.SlotTable.put_all.Goals as goal

pub returns-in-Err-clause-corrupt : goal.returns-in-Err-clause-corrupt
returns-in-Err-clause-corrupt c = λ es booked corrupt placed fit.
    let xs : List Entry = c.args.entries.now in
    let i : ℕ = c.loop-entry.entry-index in
    let x : Entry = get_or xs i (pos 0, Inline 0, 0) in
    let is : x ≡ get_or xs i x = get_or_default xs i (pos 0, Inline 0, 0) x c.loop-entry-test.true in
    let P : Entry → Type 0 = IsPlacedIn c.args.limits.size c.args.limits.slots c.args.limits.stable in
    c.in-Err.ensures.corrupt (es ++ take i xs) (c.loop-entry.invariant.booked es booked) corrupt (all_at P xs i x c.loop-entry-test.true is placed) (fit_step c.args.limits.size es xs i x c.loop-entry-test.true is fit)

pub loop-entry-preserved : goal.loop-entry-preserved
loop-entry-preserved c =
    let xs : List Entry = c.args.entries.now in
    let i : ℕ = c.loop-entry.entry-index in
    let x : Entry = get_or xs i (pos 0, Inline 0, 0) in
    let is : x ≡ get_or xs i x = get_or_default xs i (pos 0, Inline 0, 0) x c.loop-entry-test.true in
    let P : Entry → Type 0 = IsPlacedIn c.args.limits.size c.args.limits.slots c.args.limits.stable in
    record {
      booked = λ es booked.
          let more : es ++ take i xs ++ x ∷ [] ≡ es ++ take (i + 1) xs = append_assoc es (take i xs) (x ∷ []) ∙ ap (λ (l : List Entry). es ++ l) (sym (take_one xs i x c.loop-entry-test.true is)) in
          subst (IsSlotTable c.args.limits.size c.put.new.self) more (c.in-Ok.ensures.ok (es ++ take i xs) (c.loop-entry.invariant.booked es booked));
      placed = all_one P xs i x c.loop-entry-test.true is c.loop-entry.invariant.placed c.in-Ok.ensures.placed;
    }

pub returns-clause-ok : goal.returns-clause-ok
returns-clause-ok c = λ es booked.
    let xs : List Entry = c.args.entries.now in
    let end : take c.loop-entry.entry-index xs ≡ xs = take_all c.loop-entry.entry-index xs (omega (arith, c.loop-entry-test.false)) in
    subst (λ (l : List Entry). IsSlotTable c.args.limits.size c.loop-entry.self (es ++ l)) end (c.loop-entry.invariant.booked es booked)

pub returns-clause-placed : goal.returns-clause-placed
returns-clause-placed c =
    let xs : List Entry = c.args.entries.now in
    let end : take c.loop-entry.entry-index xs ≡ xs = take_all c.loop-entry.entry-index xs (omega (arith, c.loop-entry-test.false)) in
    subst (All (IsPlacedIn c.args.limits.size c.args.limits.slots c.args.limits.stable)) end c.loop-entry.invariant.placed
