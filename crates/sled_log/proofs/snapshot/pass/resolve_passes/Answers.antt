use Rattle.std.proofs.Common.{◌<◌, ◌∙◌, ℕ, ℤ, List, Option, length, map, get_or, refl, ap, arith}
use Rattle.std.proofs.lemmas.List.{length-set}
use Rattle.sled_core.specs.declared.iterator.scan.ScannedRecord.{ScannedRecord}
use Rattle.sled_store.specs.Device.{Trace, state_of}
use Rattle.sled_log.specs.declared.snapshot.pass.Pass.{Pass}
use Rattle.sled_log.specs.Recovery.{HasDamage, NamesBadBlob, before_open, resolved_scan}
use Rattle.sled_log.specs.Passes.{NamesBadPass, pass_of}
use Rattle.sled_log.proofs.Passes.Blobs.{kinds_here, kinds_on, bad_pass_on, pass_meets_here, pass_meets_on, passes_on, still_fine}
use Rattle.sled_log.proofs.Passes.DamageNames.{damage_as}
use Rattle.sled_log.proofs.Replay.LookLemmas.{met_still}
use Rattle.sled_log.proofs.snapshot.pass.resolve_passes.Goals as goal

pub resolve_pass-requires-clause-kinds : goal.resolve_pass-requires-clause-kinds
resolve_pass-requires-clause-kinds g c =
    let lt : c.loop-i.i < length c.loop-i.passes = omega (arith, c.loop-i.invariant.long, c.loop-i-test.true) in
    kinds_here g.C.Checksum.sum_of (state_of (g.D.Device.trace c.args.config.now.device)).blobs.file c.args.end c.loop-i.passes c.loop-i.i c.index-passes-i.result lt c.loop-i.invariant.kinds

pub returns-in-Err-clause-bad : goal.returns-in-Err-clause-bad
returns-in-Err-clause-bad g c =
    let sum : List ℕ → ℕ = g.C.Checksum.sum_of in
    let old : Trace = g.D.Device.trace c.args.config.now.device in
    let now : Trace = g.D.Device.trace c.loop-i.config.device in
    let blobs : ℤ → Option (List ℕ) = (state_of old).blobs.file in
    let end : ℕ = c.args.end in
    let ps : List Pass = c.loop-i.passes in
    let i : ℕ = c.loop-i.i in
    let d : Pass = c.index-passes-i.result in
    let ms : List ScannedRecord = before_open end (get_or ps i d).scan.met.items in
    let lt : i < length ps = omega (arith, c.loop-i.invariant.long, c.loop-i-test.true) in
    damage_as (Unit {0}) (Unit {0}) c.in-Err.e (NamesBadBlob sum (state_of now).blobs.file ms) (NamesBadPass sum blobs end (map pass_of c.args.passes.now))
    (λ at bad. c.loop-i.invariant.names at (pass_meets_here sum blobs end ps i d lt (HasDamage sum blobs at)
    (met_still (λ b. HasDamage sum b at) ms ms now old refl c.loop-i.invariant.trace bad)))
    c.in-Err.ensures.bad

pub loop-i-preserved : goal.loop-i-preserved
loop-i-preserved g c =
    let sum : List ℕ → ℕ = g.C.Checksum.sum_of in
    let old : Trace = g.D.Device.trace c.args.config.now.device in
    let now : Trace = g.D.Device.trace c.loop-i.config.device in
    let blobs : ℤ → Option (List ℕ) = (state_of old).blobs.file in
    let end : ℕ = c.args.end in
    let ps : List Pass = c.loop-i.passes in
    let i : ℕ = c.loop-i.i in
    let d : Pass = c.index-passes-i.result in
    let x : Pass = c.resolve_pass.new.pass in
    let lt : i < length ps = omega (arith, c.loop-i.invariant.long, c.loop-i-test.true) in
    let fine = still_fine sum (before_open end (get_or ps i d).scan.met.items) now old c.loop-i.invariant.trace c.in-Ok.ensures.good in
    let is = c.in-Ok.ensures.pass ∙ ap (λ (t : Trace). resolved_scan (state_of t).blobs.file end (pass_of (get_or ps i d))) c.loop-i.invariant.trace in
    record {
      passes = passes_on sum blobs end ps i d lt x is ∙ c.loop-i.invariant.passes;
      left = λ bad. bad_pass_on sum blobs end ps i d lt x fine (c.loop-i.invariant.left bad);
      names = λ at bad. c.loop-i.invariant.names at (pass_meets_on sum blobs end ps i d lt (HasDamage sum blobs at) x bad);
      kinds = kinds_on sum blobs end ps i d lt x c.loop-i.invariant.kinds;
      long = length-set ps i x ∙ c.loop-i.invariant.long;
      end = c.requires.end;
      trace = c.in-Ok.ensures.reads.unwritten ∙ c.loop-i.invariant.trace;
      faults = c.in-Ok.ensures.answers ∙ c.loop-i.invariant.faults;
      config = c.in-Ok.ensures.reads.config ∙ c.loop-i.invariant.config;
      checksum = c.in-Ok.ensures.reads.checksum ∙ c.loop-i.invariant.checksum;
    }
