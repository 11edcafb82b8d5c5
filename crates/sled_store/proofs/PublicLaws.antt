-- What a crate above may rely on: traces that go on from one another, what crashes leave at the moments between them, and what truthful marks make of the segments.
use Rattle.std.proofs.Common.{◌∙◌, [], ◌++◌, refl, ap, sym, append_assoc}
use Rattle.sled_store.specs.Device.{Trace, State, Content, state_of}
use Rattle.sled_store.specs.Moments.{AllLeft, IsLater, LeavesOnly}
-- truthful marks: what holds of an unused log and is kept by each step, and what follows from it
pub use Rattle.sled_store.specs.Tracked.{IsHeld, IsActiveAt, IsActiveOrBelow, IsTracked}
pub use Rattle.sled_store.proofs.Marks.MarkedLemmas.{IsTruthful, truthful, unused_truthful, handed_out_truthful, linked_truthful, replaced_truthful, batched_truthful, stabilized_truthful, popped_truthful}
pub use Rattle.sled_store.proofs.Marks.MarkLaws.{linked_or_superseded, from_mark_linked, counted, none_in_done, above_mark_linked, none_in_free, next_is_free, needed_elsewhere, former_may, marked_linked}
pub use Rattle.sled_store.proofs.Marks.HeldLemmas.{holds_standing, entry_counted}
pub use Rattle.sled_store.proofs.Marks.MarkLaws.{one_slot, place_aligned, idle_stable, gone_there, gone_replaced, freed_stable}
-- what holds at each moment between two traces: at the first one, at the last one, over the calls of both of two runs, and what it implies
pub use Rattle.sled_store.proofs.Traces.MomentLemmas.{started, joined, at_first, at_last, weaker}

-- Each trace goes on from itself.
pub later_same : (trace : Trace) → IsLater trace trace
later_same trace = ([], refl)

-- What goes on from a later trace goes on from the one before.
pub later_both : (old mid new : Trace) → IsLater old mid → IsLater mid new → IsLater old new
later_both old mid new first then = (then.0 ++ first.0, then.1 ∙ ap (λ (t : Trace). then.0 ++ t) first.1 ∙ sym (append_assoc then.0 first.0 old))

module _ (P : State → Content → Type 0) where
  -- Where no call was made there is one moment.
  pub moment_here : (trace : Trace) → AllLeft P (state_of trace) → LeavesOnly P trace trace
  moment_here trace here = started (AllLeft P) trace here

  -- The moments of one call and of the next are those of both.
  pub moments_both : (old mid new : Trace) → LeavesOnly P old mid → LeavesOnly P mid new → LeavesOnly P old new
  moments_both old mid new first then = joined (AllLeft P) old mid new first then

  -- The first moment is before the calls, and the last one behind them.
  pub moment_first : (old new : Trace) → LeavesOnly P old new → AllLeft P (state_of old)
  moment_first old new run = at_first (AllLeft P) old new run

  pub moment_last : (old new : Trace) → LeavesOnly P old new → AllLeft P (state_of new)
  moment_last old new run = at_last (AllLeft P) old new run

  pub moments_later : (old new : Trace) → LeavesOnly P old new → IsLater old new
  moments_later old new run = (run.events, run.follows)

-- What P implies holds at each moment too.
pub moments_weaker : (P Q : State → Content → Type 0) → ((s : State) (left : Content) → P s left → Q s left) → (old new : Trace) → LeavesOnly P old new → LeavesOnly Q old new
moments_weaker P Q implies old new run = weaker (AllLeft P) (AllLeft Q) (λ s all left leaves. implies s left (all left leaves)) old new run
