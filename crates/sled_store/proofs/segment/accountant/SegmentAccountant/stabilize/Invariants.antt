-- What is left to be deactivated, from here on, ends where all of it does.
use Rattle.std.proofs.Common.{◌≡◌, length}
use Rattle.sled_store.specs.SegmentStates.{stabilized}
use Rattle.sled_store.specs.Accounts.{IsAccountant, machine_of}
use Rattle.sled_store.proofs.Accounts.StabilSteps.{LeadsTo}
use Rattle.sled_store.proofs.Marks.MovesMade.{Moved}
use Rattle.sled_store.proofs.segment.accountant.SegmentAccountant.stabilize.Given as goal

abbrev pub invariant-loop-place : goal.invariant-loop-place
invariant-loop-place g l = record {
  account : IsAccountant l.fn.config.config.segment_size l.self;
  leads : LeadsTo (stabilized l.fn.config.config.segment_size l.mark (machine_of l.self)) (g.D.Device.trace l.config.device) (stabilized l.fn.config.config.segment_size l.mark (machine_of l.fn.self)) (g.D.Device.trace l.fn.config.device);
  moves : Moved l.fn.config.config.segment_size l.mark (machine_of l.fn.self) (machine_of l.self) (g.D.Device.trace l.fn.config.device)
      (g.D.Device.trace l.config.device);
  faults : g.D.Device.faults l.config.device ≡ g.D.Device.faults l.fn.config.device;
  config : l.config.config ≡ l.fn.config.config;
  checksum : l.config.checksum ≡ l.fn.config.checksum;
}

abbrev pub decreases-loop-place : goal.decreases-loop-place
decreases-loop-place g l = length l.self.active.0
