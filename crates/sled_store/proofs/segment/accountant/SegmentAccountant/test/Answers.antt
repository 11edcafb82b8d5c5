-- The slot is drained if it is sparse, and then freed if it is done.
use Rattle.std.proofs.Common.{◌≡◌, ◌∙◌, ℕ, Bool, true, false, length, refl, ap, arith, length-set, if◌then◌else◌}
use Rattle.sled_store.specs.SegmentStates.{Machine, freed_if_done, drained_if_sparse, drained, drained_slot, slot_at, is_sparse}
use Rattle.sled_store.specs.Device.{Trace}
use Rattle.sled_store.specs.Accounts.{machine_of}
use Rattle.sled_store.proofs.Accounts.StabilSteps.{step_is}
use Rattle.sled_store.proofs.Marks.MovesMade.{exit_behind, moves_same, sparse_moved}
use Rattle.sled_store.proofs.segment.accountant.SegmentAccountant.test.Goals as goal

done_same : (size n slot : ℕ) (m k : Machine) → n ≡ size → m ≡ k → freed_if_done n slot m ≡ freed_if_done size slot k
done_same size n slot m k same is = ap (λ j. freed_if_done j slot m) same ∙ ap (freed_if_done size slot) is

-- a drain leaves each slot where it is
as_many : (size k : ℕ) (m : Machine) → length (drained_if_sparse size k m).slots ≡ length m.slots
as_many size k m = by (is_sparse size (slot_at m k))
  where
    by : (b : Bool) → length (if b then drained k m else m).slots ≡ length m.slots
    by true = length-set m.slots k (drained_slot (slot_at m k))
    by false = refl

pub free_if_done-requires-clause-slot : goal.free_if_done-requires-clause-slot
free_if_done-requires-clause-slot g c =
    omega (arith, c.requires.slot, as_many c.args.self.now.size c.args.slot (machine_of c.args.self.now), ap (λ (m : Machine). length m.slots) c.drain_if_sparse.ensures.machine)

pub returns-clause-step : goal.returns-clause-step
returns-clause-step g c =
    let same = c.drain_if_sparse.ensures.account.size_is in
    step_is same (done_same c.args.self.now.size _ c.args.slot _ _ same c.drain_if_sparse.ensures.machine) c.free_if_done.ensures.step

pub returns-clause-moves : goal.returns-clause-moves
returns-clause-moves g c mark =
    let size : ℕ = c.args.self.now.size in
    let m : Machine = machine_of c.args.self.now in
    let n : Machine = machine_of c.drain_if_sparse.new.self in
    let old : Trace = g.D.Device.trace c.args.device.now in
    exit_behind size mark c.free_if_done.result m n (machine_of c.free_if_done.new.self) old old (g.D.Device.trace c.free_if_done.new.device)
    (sparse_moved size mark m n old c.args.slot c.drain_if_sparse.ensures.machine)
    (moves_same size c.drain_if_sparse.new.self.size mark c.free_if_done.result n (machine_of c.free_if_done.new.self) old
    (g.D.Device.trace c.free_if_done.new.device) c.drain_if_sparse.ensures.account.size_is (c.free_if_done.ensures.moves mark))
