use Rattle.std.proofs.Common.{◌∙◌, ℕ, ℤ, List, Option, get_or}
use Rattle.std.proofs.lemmas.List.Elements.{Contains-get_or}
use Rattle.sled_core.specs.declared.iterator.scan.ScannedRecord.{ScannedRecord}
use Rattle.sled_store.specs.Device.{Trace, state_of}
use Rattle.sled_log.specs.Recovery.{HasDamage, NamesBadBlob}
use Rattle.sled_core.proofs.Iterates.TurnLemmas.{fine_still}
use Rattle.sled_log.proofs.Passes.DamageNames.{damage_as, damage_of_blob}
use Rattle.sled_log.proofs.Replay.LookLemmas.{no_record, bad_rest}
use Rattle.sled_log.proofs.snapshot.blobs.check.Goals as goal

pub returns-in-Err-clause-bad : goal.returns-in-Err-clause-bad
returns-in-Err-clause-bad g c =
    let sum : List ℕ → ℕ = g.C.Checksum.sum_of in
    let old : Trace = g.D.Device.trace c.args.config.now.device in
    let blobs : ℤ → Option (List ℕ) = (state_of old).blobs.file in
    let ms : List ScannedRecord = c.args.met.now in
    let m : ScannedRecord = get_or ms c.loop-m.m-index no_record in
    let there = Contains-get_or ms c.loop-m.m-index no_record c.loop-m-test.true in
    let damage = damage_of_blob (Unit {0}) (Unit {0}) sum m.what (g.D.Device.trace c.loop-m.config.device) old c.in-Err.e c.loop-m.invariant.trace c.in-Err.ensures.bad c.in-Err.ensures.named in
    damage_as (Unit {0}) (Unit {0}) c.in-Err.e (λ at. HasDamage sum blobs at m.what) (NamesBadBlob sum blobs ms) (λ at has. (m, there, has)) damage

pub loop-m-preserved : goal.loop-m-preserved
loop-m-preserved g c =
    let sum : List ℕ → ℕ = g.C.Checksum.sum_of in
    let blobs : ℤ → Option (List ℕ) = (state_of (g.D.Device.trace c.args.config.now.device)).blobs.file in
    let ms : List ScannedRecord = c.args.met.now in
    let i : ℕ = c.loop-m.m-index in
    let fine = fine_still sum (g.D.Device.trace c.loop-m.config.device) (g.D.Device.trace c.args.config.now.device) (get_or ms i no_record).what c.loop-m.invariant.trace c.in-Ok.ensures.good in
    record {
      left = λ bad. bad_rest sum blobs ms i no_record c.loop-m-test.true fine (c.loop-m.invariant.left bad);
      trace = c.in-Ok.ensures.reads.unwritten ∙ c.loop-m.invariant.trace;
      faults = c.in-Ok.ensures.answers ∙ c.loop-m.invariant.faults;
      config = c.in-Ok.ensures.reads.config ∙ c.loop-m.invariant.config;
      checksum = c.in-Ok.ensures.reads.checksum ∙ c.loop-m.invariant.checksum;
    }
