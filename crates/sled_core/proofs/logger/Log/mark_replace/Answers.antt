use Rattle.sled_store.specs.SegmentStates.{Machine, replaced}
use Rattle.sled_store.proofs.Marks.MarkSteps.{SameSegments}
use Rattle.sled_store.proofs.Marks.SameSlots.{replaced_segments}
use Rattle.sled_core.specs.Fits.{machine_at, segment_size_of}
use Rattle.sled_core.proofs.Line.KeptCalls.{goes_on_still}
use Rattle.sled_core.proofs.Line.MarkCalls.{account_marks, marks_fit, marks_keep, replace_account}
use Rattle.sled_core.proofs.logger.Log.mark_replace.Given.{Over}
use Rattle.sled_core.proofs.logger.Log.mark_replace.Goals as goal

-- The log keeps a failure.
pub returns-in-Some-clause-keeps : goal.returns-in-Some-clause-keeps
returns-in-Some-clause-keeps g c =
    record { goes_on = goes_on_still g.D.Device.trace g.C.Checksum.sum_of c.args.self.now; history = λ H holds. holds; refused = λ H A f U fits. fits }

-- What it makes of the slots,
abbrev step : (g : Over) (c : goal.After-self-1 g) → Machine → Machine
step g c = replaced (segment_size_of c.args.self.now) c.args.pid c.args.new c.args.old.now

-- whose segments stay.
same : (g : Over) (c : goal.After-self-1 g) → SameSegments (machine_at c.args.self.now).slots (step g c (machine_at c.args.self.now)).slots
same g c = replaced_segments (segment_size_of c.args.self.now) c.args.pid c.args.new c.args.old.now (machine_at c.args.self.now) c.requires.may

pub returns-clause-keeps : goal.returns-clause-keeps
returns-clause-keeps g c = marks_keep g.D.Device.trace g.C.Checksum.sum_of c.args.self.now _ (step g c) (same g c) c.mark_replace.result
    (account_marks c.args.self.now c.mark_replace.new.self (step g c) c.mark_replace.result c.mark_replace.ensures.done c.mark_replace.ensures.unchanged
    c.mark_replace.ensures.config)

pub returns-clause-fits : goal.returns-clause-fits
returns-clause-fits g c = λ H A f U V m fits takes of begins former none.
    marks_fit g.D.Device.trace g.C.Checksum.sum_of c.args.self.now _ (step g c) (same g c) c.mark_replace.result
    (account_marks c.args.self.now c.mark_replace.new.self (step g c) c.mark_replace.result c.mark_replace.ensures.done c.mark_replace.ensures.unchanged
    c.mark_replace.ensures.config)
    H A f U V m fits takes
    (replace_account g.D.Device.trace g.C.Checksum.sum_of c.args.self.now H A f U V m fits takes c.args.pid c.args.new of
    c.args.old.now begins c.requires.may former none)
