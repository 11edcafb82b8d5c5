-- What is left to be freed, from here on, ends where all of it does.
use Rattle.std.proofs.Common.{◌≡◌, ℤ, true, length}
use Rattle.sled_store.specs.Accounts.{IsAccountant, machine_of, size_of}
use Rattle.sled_store.specs.SegmentStates.{is_due}
use Rattle.sled_store.specs.inside.Stabilizing.{waiting_freed}
use Rattle.sled_store.proofs.Accounts.StabilSteps.{LeadsTo}
use Rattle.sled_store.proofs.Marks.MovesMade.{Moved}
use Rattle.sled_store.proofs.segment.accountant.SegmentAccountant.free_waiting.Given as goal

abbrev pub invariant-loop-slot : goal.invariant-loop-slot
invariant-loop-slot g l = record {
  account : IsAccountant (size_of l.fn.self) l.self;
  leads : LeadsTo (waiting_freed (size_of l.fn.self) l.place (machine_of l.self)) (g.D.Device.trace l.device) (waiting_freed (size_of l.fn.self) l.place (machine_of l.fn.self)) (g.D.Device.trace l.fn.device);
  moves : (mark : ℤ) → is_due (size_of l.fn.self) mark l.place ≡ true
      → Moved (size_of l.fn.self) mark (machine_of l.fn.self) (machine_of l.self) (g.D.Device.trace l.fn.device) (g.D.Device.trace l.device);
  faults : g.D.Device.faults l.device ≡ g.D.Device.faults l.fn.device;
  active : l.self.active ≡ l.fn.self.active;
  count : length (machine_of l.self).slots ≡ length (machine_of l.fn.self).slots;
}

abbrev pub decreases-loop-slot : goal.decreases-loop-slot
decreases-loop-slot g l = length l.self.waiting.0
