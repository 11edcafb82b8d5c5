use Rattle.std.proofs.Common.{ℕ, List, map, subst}
use Rattle.sled_store.specs.Device.{Trace, state_of}
use Rattle.sled_log.specs.declared.snapshot.pass.Pass.{Pass}
use Rattle.sled_log.specs.Recovery.{HaveGoodBlobs, Scanned}
use Rattle.sled_log.specs.Passes.{NamesBadPass, NamesBadTail, pass_of}
use Rattle.sled_log.proofs.PageTable.TableLemmas.{on_ok}
use Rattle.sled_log.proofs.Passes.DamageNames.{damage_as, damage_so}
use Rattle.sled_log.proofs.Passes.LookedUp.{bad_in_looked, bad_in_pass, good_looked, kinds_looked}
use Rattle.sled_log.proofs.snapshot.tail.look_up.Goals as goal

pub check_passes-requires : goal.check_passes-requires
check_passes-requires g c =
    let blobs = (state_of (g.D.Device.trace c.args.config.now.device)).blobs.file in
    record { kinds = kinds_looked g.C.Checksum.sum_of blobs c.args.end c.args.passes.now c.resolve_passes.new.passes c.in-Ok.ensures.passes c.requires.kinds }

pub returns-in-Ok-clause-good : goal.returns-in-Ok-clause-good
returns-in-Ok-clause-good g c =
    let sum : List ℕ → ℕ = g.C.Checksum.sum_of in
    let old : Trace = g.D.Device.trace c.args.config.now.device in
    let ps : List Pass = c.args.passes.now in
    on_ok c.check_passes.result _ (HaveGoodBlobs sum (state_of old).blobs.file (map pass_of ps))
    (λ good. good_looked sum (state_of old).blobs.file c.args.end (map pass_of ps) c.in-Ok.ensures.good
    (subst (λ (l : List Scanned). HaveGoodBlobs sum (state_of old).blobs.file l) c.in-Ok.ensures.passes
    (subst (λ (t : Trace). HaveGoodBlobs sum (state_of t).blobs.file (map pass_of c.resolve_passes.new.passes)) c.in-Ok.ensures.reads.unwritten good)))
    c.check_passes.ensures.good

pub returns-in-Ok-clause-bad : goal.returns-in-Ok-clause-bad
returns-in-Ok-clause-bad g c =
    let sum : List ℕ → ℕ = g.C.Checksum.sum_of in
    let old : Trace = g.D.Device.trace c.args.config.now.device in
    damage_so c.check_passes.result _ _ (λ at bad.
    bad_in_looked sum (state_of old).blobs.file c.args.end at (map pass_of c.args.passes.now)
    (subst (λ (l : List Scanned). NamesBadTail sum (state_of old).blobs.file l at) c.in-Ok.ensures.passes
    (subst (λ (t : Trace). NamesBadTail sum (state_of t).blobs.file (map pass_of c.resolve_passes.new.passes) at) c.in-Ok.ensures.reads.unwritten bad)))
    c.check_passes.ensures.bad

pub returns-in-Err-clause-bad : goal.returns-in-Err-clause-bad
returns-in-Err-clause-bad g c =
    let sum : List ℕ → ℕ = g.C.Checksum.sum_of in
    let blobs = (state_of (g.D.Device.trace c.args.config.now.device)).blobs.file in
    let xs : List Scanned = map pass_of c.args.passes.now in
    damage_as (Unit {0}) (Unit {0}) c.in-Err.e (NamesBadPass sum blobs c.args.end xs) (NamesBadTail sum blobs xs) (λ at bad. bad_in_pass sum blobs c.args.end at xs bad) c.in-Err.ensures.bad
