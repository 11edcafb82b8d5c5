use Rattle.std.proofs.Common.{◌≡◌, ◌<◌, ◌∙◌, ℕ, ℤ, List, Option, length, get_or, false, sym, ap, arith}
use Rattle.std.proofs.lemmas.List.{length-set}
use Rattle.sled_core.specs.declared.iterator.scan.ScannedRecord.{ScannedRecord}
use Rattle.sled_store.specs.Device.{Trace, state_of}
use Rattle.sled_log.specs.Recovery.{HasDamage, NamesBadBlob, NamesKind, before_open, opens, resolved}
use Rattle.sled_core.proofs.Iterates.TurnLemmas.{fine_still}
use Rattle.sled_log.proofs.Passes.DamageNames.{damage_as, damage_of_blob}
use Rattle.sled_log.proofs.Replay.LookLemmas.{no_record, all_here, all_on, bad_on, met_before_here, met_on, resolved_on}
use Rattle.sled_log.proofs.snapshot.blobs.resolve.Goals as goal

pub find_blob-requires : goal.find_blob-requires
find_blob-requires g c =
    let lt : c.loop-i.i < length c.loop-i.met = omega (arith, c.loop-i.invariant.long, c.loop-i-test.true) in
    all_here (λ m. NamesKind m.what) c.loop-i.met c.loop-i.i no_record lt c.loop-i.invariant.kinds

pub returns-in-Err-clause-bad : goal.returns-in-Err-clause-bad
returns-in-Err-clause-bad g c =
    let sum : List ℕ → ℕ = g.C.Checksum.sum_of in
    let old : Trace = g.D.Device.trace c.args.config.now.device in
    let blobs : ℤ → Option (List ℕ) = (state_of old).blobs.file in
    let end : ℕ = c.args.end in
    let ms : List ScannedRecord = c.loop-i.met in
    let i : ℕ = c.loop-i.i in
    let m : ScannedRecord = get_or ms i no_record in
    let lt : i < length ms = omega (arith, c.loop-i.invariant.long, c.loop-i-test.true) in
    let shut : opens end m.what ≡ false = sym c.opens.ensures ∙ c.if-opens.false in
    let damage = damage_of_blob (Unit {0}) (Unit {0}) sum m.what (g.D.Device.trace c.loop-i.config.device) old c.in-Err.e c.loop-i.invariant.trace c.in-Err.ensures.bad c.in-Err.ensures.named in
    damage_as (Unit {0}) (Unit {0}) c.in-Err.e (λ at. HasDamage sum blobs at m.what) (NamesBadBlob sum blobs (before_open end c.args.met.now))
    (λ at has. c.loop-i.invariant.names at (met_before_here sum blobs end ms i no_record lt shut (HasDamage sum blobs at) has)) damage

pub loop-i-preserved : goal.loop-i-preserved
loop-i-preserved g c =
    let sum : List ℕ → ℕ = g.C.Checksum.sum_of in
    let blobs : ℤ → Option (List ℕ) = (state_of (g.D.Device.trace c.args.config.now.device)).blobs.file in
    let ms : List ScannedRecord = c.loop-i.met in
    let i : ℕ = c.loop-i.i in
    let lt : i < length ms = omega (arith, c.loop-i.invariant.long, c.loop-i-test.true) in
    let shut : opens c.args.end (get_or ms i no_record).what ≡ false = sym c.opens.ensures ∙ c.if-opens.false in
    let fine = fine_still sum (g.D.Device.trace c.loop-i.config.device) (g.D.Device.trace c.args.config.now.device) (get_or ms i no_record).what c.loop-i.invariant.trace c.in-Ok.ensures.good in
    let is = c.in-Ok.ensures.met ∙ ap (λ (t : Trace). resolved (state_of t).blobs.file (get_or ms i no_record)) c.loop-i.invariant.trace in
    record {
      met = resolved_on sum blobs c.args.end ms i no_record lt shut c.find_blob.new.met is ∙ c.loop-i.invariant.met;
      left = λ bad. bad_on sum blobs c.args.end ms i no_record lt shut c.find_blob.new.met fine (c.loop-i.invariant.left bad);
      names = λ at bad. c.loop-i.invariant.names at (met_on sum blobs c.args.end ms i no_record lt shut (HasDamage sum blobs at) c.find_blob.new.met bad);
      kinds = all_on (λ m. NamesKind m.what) ms i no_record c.find_blob.new.met lt c.loop-i.invariant.kinds;
      long = length-set ms i c.find_blob.new.met ∙ c.loop-i.invariant.long;
      end = c.requires.end;
      trace = c.in-Ok.ensures.reads.unwritten ∙ c.loop-i.invariant.trace;
      faults = c.in-Ok.ensures.answers ∙ c.loop-i.invariant.faults;
      config = c.in-Ok.ensures.reads.config ∙ c.loop-i.invariant.config;
      checksum = c.in-Ok.ensures.reads.checksum ∙ c.loop-i.invariant.checksum;
    }
