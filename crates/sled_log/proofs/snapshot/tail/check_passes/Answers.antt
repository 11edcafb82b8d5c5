use Rattle.std.proofs.Common.{◌∙◌, ℕ, List, map, ap, subst}
use Rattle.std.proofs.lemmas.List.{take_all}
use Rattle.sled_core.specs.declared.iterator.scan.ScannedRecord.{ScannedRecord}
use Rattle.sled_store.specs.Device.{Trace, state_of}
use Rattle.sled_log.specs.declared.snapshot.pass.Pass.{Pass}
use Rattle.sled_log.specs.Recovery.{HaveGoodBlobs, MeetsBadBlob, NamesBadBlob}
use Rattle.sled_log.specs.Passes.{NamesBadTail, pass_of}
use Rattle.sled_log.proofs.Passes.DamageNames.{damage_as}
use Rattle.sled_log.proofs.Passes.LookedUp.{bad_here, good_next}
use Rattle.sled_log.proofs.snapshot.tail.check_passes.Goals as goal

pub returns-in-Err-clause-bad : goal.returns-in-Err-clause-bad
returns-in-Err-clause-bad g c =
    let p : Pass = c.pass-item.result in
    let i : ℕ = c.loop-pass.pass-index in
    let ps : List Pass = c.args.passes.now in
    let old : Trace = g.D.Device.trace c.args.config.now.device in
    let now : Trace = g.D.Device.trace c.loop-pass.config.device in
    let sum : List ℕ → ℕ = g.C.Checksum.sum_of in
    damage_as (Unit {0}) (Unit {0}) c.in-Err.e (NamesBadBlob sum (state_of now).blobs.file c.deref.result.now) (NamesBadTail sum (state_of old).blobs.file (map pass_of ps)) (λ at bad.
    bad_here sum now old ps i p at c.loop-pass-test.true c.loop-pass.invariant.trace
    (subst (λ (x : Pass). NamesBadBlob sum (state_of now).blobs.file x.scan.met.items at) c.pass-item.is
    (subst (λ (l : List ScannedRecord). NamesBadBlob sum (state_of now).blobs.file l at) c.deref.ensures.value bad)))
    c.in-Err.ensures.bad

pub loop-pass-preserved : goal.loop-pass-preserved
loop-pass-preserved g c =
    let p : Pass = c.pass-item.result in
    let i : ℕ = c.loop-pass.pass-index in
    let ps : List Pass = c.args.passes.now in
    let old : Trace = g.D.Device.trace c.args.config.now.device in
    let now : Trace = g.D.Device.trace c.loop-pass.config.device in
    let fine = subst (λ (x : Pass). MeetsBadBlob g.C.Checksum.sum_of (state_of now).blobs.file x.scan.met.items → ⊥) c.pass-item.is (rw c.deref.ensures.value at c.in-Ok.ensures.good) in
    record {
      good = good_next g.C.Checksum.sum_of now old ps i p c.loop-pass-test.true c.loop-pass.invariant.trace fine c.loop-pass.invariant.good;
      trace = c.in-Ok.ensures.reads.unwritten ∙ c.loop-pass.invariant.trace;
      faults = c.in-Ok.ensures.answers ∙ c.loop-pass.invariant.faults;
      config = c.in-Ok.ensures.reads.config ∙ c.loop-pass.invariant.config;
      checksum = c.in-Ok.ensures.reads.checksum ∙ c.loop-pass.invariant.checksum;
    }

pub returns-clause-good : goal.returns-clause-good
returns-clause-good g c =
    let blobs = (state_of (g.D.Device.trace c.args.config.now.device)).blobs.file in
    subst (HaveGoodBlobs g.C.Checksum.sum_of blobs) (ap (map pass_of) (take_all c.loop-pass.pass-index c.args.passes.now c.loop-pass-test.false)) c.loop-pass.invariant.good
