use Rattle.sled_store.specs.SegmentStates.{Machine, linked}
use Rattle.sled_store.proofs.Marks.MarkSteps.{SameSegments, linked_same}
use Rattle.sled_core.specs.Fits.{machine_at, segment_size_of}
use Rattle.sled_core.proofs.Line.KeptCalls.{goes_on_still}
use Rattle.sled_core.proofs.Line.MarkCalls.{account_marks, link_account, marks_fit, marks_keep}
use Rattle.sled_core.proofs.logger.Log.mark_link.Given.{Over}
use Rattle.sled_core.proofs.logger.Log.mark_link.Goals as goal

-- The log keeps a failure.
pub returns-in-Some-clause-keeps : goal.returns-in-Some-clause-keeps
returns-in-Some-clause-keeps g c =
    record { goes_on = goes_on_still g.D.Device.trace g.C.Checksum.sum_of c.args.self.now; history = λ H holds. holds; refused = λ H A f U fits. fits }

-- What it makes of the slots,
abbrev step : (g : Over) (c : goal.After-self-1 g) → Machine → Machine
step g c = linked (segment_size_of c.args.self.now) c.args.pid c.args.info

-- whose segments stay.
same : (g : Over) (c : goal.After-self-1 g) → SameSegments (machine_at c.args.self.now).slots (step g c (machine_at c.args.self.now)).slots
same g c = linked_same (segment_size_of c.args.self.now) (machine_at c.args.self.now) c.args.info c.requires.may.lies.taken c.args.pid

pub returns-clause-keeps : goal.returns-clause-keeps
returns-clause-keeps g c = marks_keep g.D.Device.trace g.C.Checksum.sum_of c.args.self.now _ (step g c) (same g c) c.mark_link.result
    (account_marks c.args.self.now c.mark_link.new.self (step g c) c.mark_link.result c.mark_link.ensures.done c.mark_link.ensures.unchanged
    c.mark_link.ensures.config)

pub returns-clause-fits : goal.returns-clause-fits
returns-clause-fits g c = λ H A f U V m fits takes of link.
    marks_fit g.D.Device.trace g.C.Checksum.sum_of c.args.self.now _ (step g c) (same g c) c.mark_link.result
    (account_marks c.args.self.now c.mark_link.new.self (step g c) c.mark_link.result c.mark_link.ensures.done c.mark_link.ensures.unchanged
    c.mark_link.ensures.config)
    H A f U V m fits takes
    (link_account g.D.Device.trace g.C.Checksum.sum_of c.args.self.now H A f U V m fits takes c.args.pid c.args.info of link c.requires.may)
