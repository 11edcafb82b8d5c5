use Rattle.sled_core.proofs.Read.ReadingLemmas.{if_ok}
use Rattle.sled_codec.specs.Snapshots.{SnapshotModel, model_of}
use Rattle.sled_store.specs.declared.config.Config.{Config}
use Rattle.sled_store.specs.Device.{Trace, content_of, state_of}
use Rattle.sled_codec.specs.declared.serialization.snapshot.Snapshot.{Snapshot}
use Rattle.sled_log.specs.declared.snapshot.recovery.Recovery.{Recovery}
use Rattle.sled_log.specs.Recovery.{Recovered, Damaged, ContinuesFrom, Recovers}
use Rattle.sled_log.specs.WritesBack.{result_of}
use Rattle.sled_log.proofs.Passes.DamageNames.{damage_so, damage_unnamed}
use Rattle.sled_log.proofs.Passes.Same.{was_so_in}
use Rattle.sled_log.proofs.Passes.Continues.{recovers_from, recovers_damaged}
use Rattle.sled_log.proofs.snapshot.reference.recover_by_definition.Goals as goal

pub returns-in-Ok-clause-ok : goal.returns-in-Ok-clause-ok
returns-in-Ok-clause-ok g c =
    let cfg : Config = c.args.config.now.config in
    let before : Trace = g.D.Device.trace c.args.config.now.device in
    let first : SnapshotModel = model_of c.in-Ok.first in
    if_ok c.continue_by_definition.result _ _ (λ x comes.
    recovers_from g.C.Checksum.sum_of cfg.segment_size (content_of (state_of before)) first (Recovered (result_of x)) c.in-Ok.ensures.ok
    (was_so_in (λ n s. ContinuesFrom g.C.Checksum.sum_of n s.log.bytes s.blobs.file first (Recovered (result_of x))) cfg c.read_newest.new.config.config before (g.D.Device.trace c.read_newest.new.config.device) c.in-Ok.ensures.reads.config c.in-Ok.ensures.reads.unwritten comes))
    c.continue_by_definition.ensures.ok

pub returns-in-Ok-clause-corrupt : goal.returns-in-Ok-clause-corrupt
returns-in-Ok-clause-corrupt g c =
    let cfg : Config = c.args.config.now.config in
    let before : Trace = g.D.Device.trace c.args.config.now.device in
    let first : SnapshotModel = model_of c.in-Ok.first in
    damage_so c.continue_by_definition.result _ _ (λ at comes.
    recovers_from g.C.Checksum.sum_of cfg.segment_size (content_of (state_of before)) first (Damaged at) c.in-Ok.ensures.ok
    (was_so_in (λ n s. ContinuesFrom g.C.Checksum.sum_of n s.log.bytes s.blobs.file first (Damaged at)) cfg c.read_newest.new.config.config before (g.D.Device.trace c.read_newest.new.config.device) c.in-Ok.ensures.reads.config c.in-Ok.ensures.reads.unwritten comes))
    c.continue_by_definition.ensures.corrupt

pub returns-in-Err-clause-corrupt : goal.returns-in-Err-clause-corrupt
returns-in-Err-clause-corrupt g c =
    let before : Trace = g.D.Device.trace c.args.config.now.device in
    damage_unnamed Snapshot Recovery c.in-Err.e _ _ (λ at. Recovers g.C.Checksum.sum_of c.args.config.now.config.segment_size (content_of (state_of before)) (Damaged at)) c.in-Err.ensures.answers
    (λ corrupt. recovers_damaged g.C.Checksum.sum_of c.args.config.now.config.segment_size (content_of (state_of before)) (c.in-Err.ensures.corrupt corrupt))
