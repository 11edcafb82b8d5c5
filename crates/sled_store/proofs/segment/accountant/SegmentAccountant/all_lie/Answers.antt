-- One message more lies in a segment.
use Rattle.std.proofs.Common.{refl, subst, arith, take_all}
use Rattle.std.specs.List.{All}
use Rattle.sled_store.specs.SegmentStates.{LiesIn}
use Rattle.sled_store.specs.Accounts.{machine_of, size_of}
use Rattle.sled_store.proofs.Segments.FitLemmas.{all_one}
use Rattle.sled_store.proofs.segment.accountant.SegmentAccountant.all_lie.Goals as goal
use Rattle.sled_store.proofs.Accounts.OldLemmas.{item_same as at_any}

pub loop-info-preserved : goal.loop-info-preserved
loop-info-preserved c = all_one (LiesIn (size_of c.args.self.now) (machine_of c.args.self.now)) c.args.infos.now c.loop-info.info-index _ c.loop-info-test.true (at_any c.args.infos.now c.loop-info.info-index _ _ c.loop-info-test.true) c.loop-info.invariant (c.lies.ensures.0 c.if-not-lies.false)

pub returns : goal.returns
returns c = (λ passes. subst (All (LiesIn (size_of c.args.self.now) (machine_of c.args.self.now))) (take_all c.loop-info.info-index c.args.infos.now (omega (arith, c.loop-info-test.false))) c.loop-info.invariant, λ all. refl)
