-- A page that was put in is there.
use Rattle.std.proofs.Common.{◌≡◌, true, inl, subst, sym, List, ℕ}
use Rattle.std.proofs.lemmas.Cmp.{nat_cmp_total}
use Rattle.sled_store.specs.SegmentStates.{has_page}
use Rattle.sled_store.proofs.Sorted.SortedLemmas.{there_inserted}
use Rattle.sled_store.proofs.segment.slot.Slot.note_gone.Goals as goal

pub returns-then-place-self-clause-room : goal.returns-then-place-self-clause-room
returns-then-place-self-clause-room c =
    inl (subst (λ (l : List ℕ). has_page l c.args.pid ≡ true) (sym c.insert.ensures.keys) (there_inserted nat_cmp_total c.args.pid c.args.self.now.gone.0))
