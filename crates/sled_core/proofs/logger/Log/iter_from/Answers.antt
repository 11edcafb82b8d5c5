use Rattle.std.proofs.Common.{◌∙◌, ℤ, Option, IfNone, refl, ap, sym, subst}
use Rattle.std.specs.declared.io.Error.{Error as IoError}
use Rattle.std.specs.Int.{w64}
use Rattle.std.proofs.lemmas.Int.{to_z-of_z}
use Rattle.sled_codec.specs.declared.result.Error.{Error}
use Rattle.sled_store.specs.Device.{state_of}
use Rattle.sled_core.specs.Fits.{device_of, line_of, machine_at, noted_in, pins_of, segment_size_of}
use Rattle.sled_core.specs.inside.Running.{FitsWith}
use Rattle.sled_core.specs.inside.Shown.{shown}
use Rattle.sled_core.specs.Iterators.{GivesMessages, GoesOver}
use Rattle.sled_core.specs.invariants.Running.{Fits}
use Rattle.sled_core.specs.LogSegments.{AreSegments, begins_from}
use Rattle.sled_core.proofs.Iterated.OfLog.{gives_messages}
use Rattle.sled_core.proofs.Iterates.AheadLemmas.{goes_over}
use Rattle.sled_core.proofs.logger.Log.iter_from.Goals as goal

-- it goes over the segments that were listed
over : goal.returns-in-Ok-clause-goes_over
over g c =
    let log = c.args.self.now in
    subst (λ (o : Option Error). IfNone o (GoesOver g.D.Device.trace g.C.Checksum.sum_of log c.args.lsn c.over_log.result)) (sym c.over_log.ensures.begun)
    (goes_over g.D.Device.trace g.C.Checksum.sum_of log c.args.lsn c.over_log.result c.in-Ok.segments.items
    (subst (λ n. AreSegments (segment_size_of log) (machine_at log) (begins_from (segment_size_of log) c.args.lsn) n c.in-Ok.segments.items) c.stable_end-end.ensures.is
    (subst (λ (z : ℤ). AreSegments (segment_size_of log) (machine_at log) (begins_from (segment_size_of log) z) c.stable_end-end.result c.in-Ok.segments.items) (to_z-of_z w64 c.args.lsn c.ranges.lsn) c.in-Ok.ensures.segments))
    c.args.self refl c.over_log.ensures.borrows c.new.result c.over_log.ensures.rest c.new.ensures.strict (ap (λ v. v.items) c.new.ensures.segments) (c.new.ensures.end ∙ c.stable_end-end.ensures.is) c.new.ensures.read c.new.ensures.met c.new.ensures.given c.new.ensures.undamaged)

pub returns-in-Ok-clause-goes_over : goal.returns-in-Ok-clause-goes_over
returns-in-Ok-clause-goes_over = over

pub returns-in-Ok-clause-messages : goal.returns-in-Ok-clause-messages
unfolding Fits
returns-in-Ok-clause-messages g c = λ H A f U fits zeros.
    let log = c.args.self.now in
    let none = c.in-Ok.ensures.answers.1 in
    let size = segment_size_of log in
    let shows = subst (λ (o : Option IoError). FitsWith g.C.Checksum.sum_of log.marks (noted_in log) size
    (shown size o (machine_at log) (line_of log) (state_of (g.D.Device.trace (device_of log)))) o (line_of log) (machine_at log) (pins_of log) H A f U) none
    fits.shows in
    let here = subst (λ (o : Option Error). IfNone o (GoesOver g.D.Device.trace g.C.Checksum.sum_of log c.args.lsn c.over_log.result)) c.over_log.ensures.begun (over g c) in
    subst (λ (o : Option Error). IfNone o (GivesMessages g.D.Device.trace g.C.Checksum.sum_of log H c.args.lsn c.over_log.result)) (sym c.over_log.ensures.begun)
    (gives_messages g.D.Device.trace g.C.Checksum.sum_of log H A f U shows zeros c.args.lsn c.over_log.result here)
