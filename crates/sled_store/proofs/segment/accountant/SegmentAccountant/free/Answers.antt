-- The slot is emptied, and then free slots are cut off.
use Rattle.std.proofs.Common.{◌≡◌, ◌∙◌, ℕ, ap}
use Rattle.sled_store.specs.Device.{Trace}
use Rattle.sled_store.specs.SegmentStates.{Machine}
use Rattle.sled_store.specs.Stabilizing.{cut_back}
use Rattle.sled_store.specs.Accounts.{machine_of}
use Rattle.sled_store.proofs.Accounts.StabilSteps.{step_is}
use Rattle.sled_store.proofs.Marks.MovesMade.{exit_behind, freed_moved, moves_same}
use Rattle.sled_store.proofs.segment.accountant.SegmentAccountant.free.Goals as goal

cut_same : (size n : ℕ) (m k : Machine) → n ≡ size → m ≡ k → cut_back n m ≡ cut_back size k
cut_same size n m k same is = ap (λ j. cut_back j m) same ∙ ap (cut_back size) is

pub returns-clause-step : goal.returns-clause-step
returns-clause-step g c = step_is c.empty.ensures.account.size_is (cut_same c.args.self.now.size _ _ _ c.empty.ensures.account.size_is c.empty.ensures.machine) c.cut_off.ensures.step

pub returns-clause-moves : goal.returns-clause-moves
returns-clause-moves g c mark ended =
    let size : ℕ = c.args.self.now.size in
    let m : Machine = machine_of c.args.self.now in
    let n : Machine = machine_of c.empty.new.self in
    let old : Trace = g.D.Device.trace c.args.device.now in
    exit_behind size mark c.cut_off.result m n (machine_of c.cut_off.new.self) old old (g.D.Device.trace c.cut_off.new.device)
    (freed_moved size mark m n old c.args.slot c.requires.done ended c.empty.ensures.machine)
    (moves_same size c.empty.new.self.size mark c.cut_off.result n (machine_of c.cut_off.new.self) old (g.D.Device.trace c.cut_off.new.device)
    c.empty.ensures.account.size_is (c.cut_off.ensures.moves mark))
