use Rattle.std.proofs.Common.{subst, arith}
use Rattle.sled_log.specs.Passes.{FitsStop}
use Rattle.sled_log.proofs.Passes.Outcomes.{slot_fits}
use Rattle.sled_log.proofs.snapshot.pass.outcome_of.Goals as goal

pub cut_of-requires-clause-place : goal.cut_of-requires-clause-place
cut_of-requires-clause-place c = (subst (FitsStop c.args.size) c.in-Some.is c.requires.stop).0

pub cut_of-requires-clause-at : goal.cut_of-requires-clause-at
cut_of-requires-clause-at c = (subst (FitsStop c.args.size) c.in-Some.is c.requires.stop).2

pub conclude-requires-clause-cut : goal.conclude-requires-clause-cut
conclude-requires-clause-cut c =
    let fits = subst (FitsStop c.args.size) c.in-Some.is c.requires.stop in
    let place = fits.0 in
    omega (arith, c.cut_of.ensures.small, place)

pub conclude-requires-clause-slot : goal.conclude-requires-clause-slot
conclude-requires-clause-slot c =
    let fits = subst (FitsStop c.args.size) c.in-Some.is c.requires.stop in
    slot_fits c.cut_of.result.1 c.in-Some.segment.slot c.args.size c.cut_of.ensures.slot fits.1
