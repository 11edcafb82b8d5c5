use Rattle.sled_store.specs.Device.{Trace}
use Rattle.sled_log.specs.Recovery.{RecoveryResult}
use Rattle.sled_log.specs.WritesBack.{result_of}
use Rattle.sled_log.proofs.PageTable.TableLemmas.{on_ok}
use Rattle.sled_log.proofs.WriteBack.WriteLemmas.{committing_stops, has_committed_new, commits_new}
use Rattle.sled_log.proofs.snapshot.write_back.commit.Goals as goal

pub returns-in_err-shred-clause-calls : goal.returns-in_err-shred-clause-calls
returns-in_err-shred-clause-calls g c = committing_stops g.C.Checksum.sum_of (result_of c.args.recovery.now) _ _ c.shred.ensures.calls

pub returns-then-recovery-clause-done : goal.returns-then-recovery-clause-done
returns-then-recovery-clause-done g c =
    let old : Trace = g.D.Device.trace c.args.config.now.device in
    let mid : Trace = g.D.Device.trace c.shred.new.config.device in
    let new : Trace = g.D.Device.trace c.publish_new.new.config.device in
    let x : RecoveryResult = result_of c.args.recovery.now in
    on_ok c.publish_new.result _ _ (has_committed_new g.C.Checksum.sum_of x old mid new c.in_ok-shred.ensures.done c.if-recovery.true) c.publish_new.ensures.done

pub returns-then-recovery-clause-calls : goal.returns-then-recovery-clause-calls
returns-then-recovery-clause-calls g c =
    let old : Trace = g.D.Device.trace c.args.config.now.device in
    let mid : Trace = g.D.Device.trace c.shred.new.config.device in
    let new : Trace = g.D.Device.trace c.publish_new.new.config.device in
    commits_new g.C.Checksum.sum_of (result_of c.args.recovery.now) old mid new c.in_ok-shred.ensures.done c.if-recovery.true c.publish_new.ensures.calls
