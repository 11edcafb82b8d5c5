-- What is left to be cut off, from here on, ends where all of it does.
use Rattle.std.proofs.Common.{◌≡◌, ℤ}
use Rattle.sled_store.specs.Accounts.{IsAccountant, machine_of, size_of}
use Rattle.sled_store.specs.Stabilizing.{cut_back}
use Rattle.sled_store.proofs.Accounts.StabilSteps.{LeadsTo}
use Rattle.sled_store.proofs.Marks.MovesMade.{Moved}
use Rattle.sled_store.proofs.segment.accountant.SegmentAccountant.cut_off.Given as goal

abbrev pub invariant-loop-self : goal.invariant-loop-self
invariant-loop-self g l = record {
  account : IsAccountant (size_of l.fn.self) l.self;
  leads : LeadsTo (cut_back (size_of l.fn.self) (machine_of l.self)) (g.D.Device.trace l.device) (cut_back (size_of l.fn.self) (machine_of l.fn.self)) (g.D.Device.trace l.fn.device);
  moves : (mark : ℤ) → Moved (size_of l.fn.self) mark (machine_of l.fn.self) (machine_of l.self) (g.D.Device.trace l.fn.device) (g.D.Device.trace l.device);
  faults : g.D.Device.faults l.device ≡ g.D.Device.faults l.fn.device;
  active : l.self.active ≡ l.fn.self.active;
  waiting : l.self.waiting ≡ l.fn.self.waiting;
}

abbrev pub decreases-loop-self : goal.decreases-loop-self
decreases-loop-self g l = l.self.tip
