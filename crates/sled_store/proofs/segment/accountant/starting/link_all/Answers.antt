-- One more entry is linked.
use Rattle.std.proofs.Common.{◌≡◌, ◌∙◌, ◌+◌, ℕ, suc, pos, List, ◌∷◌, map, drop, get_or, ap, sym, arith, drop-cons, length-set}
use Rattle.sled_codec.specs.declared.result.DiskPtr.TheVariants.{Inline}
use Rattle.sled_codec.specs.Snapshots.{Entry}
use Rattle.sled_store.specs.Begin.{slot_of}
use Rattle.sled_store.specs.SegmentStates.{SlotState}
use Rattle.sled_store.specs.Accounts.{slot_state}
use Rattle.sled_store.specs.inside.Starting.{entry_linked, entries_linked}
use Rattle.sled_store.proofs.Accounts.StartPages.{count_kept}
use Rattle.sled_store.proofs.segment.accountant.starting.link_all.Goals as goal

pub loop-entry-preserved : goal.loop-entry-preserved
loop-entry-preserved c =
    let xs : List Entry = c.args.entries.now in
    let i : ℕ = c.loop-entry.entry-index in
    let x : Entry = get_or xs i (pos 0, Inline 0, 0) in
    let size : ℕ = c.args.size in
    let pid : ℕ = c.args.pid in
    let states : List SlotState = map slot_state c.loop-entry.slots.items in
    let came : map slot_state c.link.new.slots.items ≡ entry_linked size pid x states = c.in_ok-link.ensures.slots in
    let next : i + 1 ≡ suc i = omega arith in
    let split : drop i xs ≡ x ∷ drop (i + 1) xs = drop-cons xs i (pos 0, Inline 0, 0) c.loop-entry-test.true ∙ ap (λ n. x ∷ drop n xs) (sym next) in
    record {
      slots = ap (entries_linked size pid (drop (i + 1) xs)) came ∙ ap (λ l. entries_linked size pid l states) (sym split) ∙ c.loop-entry.invariant.slots;
      count = count_kept c.link.new.slots.items c.loop-entry.slots.items (entry_linked size pid x states) came (length-set states (slot_of size x) _) ∙ c.loop-entry.invariant.count;
      room = c.in_ok-link.ensures.room;
    }
