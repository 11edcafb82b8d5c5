use Rattle.std.proofs.Common.{List, subst}
use Rattle.sled_core.specs.declared.iterator.scan.ScannedRecord.{ScannedRecord}
use Rattle.sled_store.specs.Blobs.{OnDamage}
use Rattle.sled_store.specs.Device.{state_of}
use Rattle.sled_log.specs.Recovery.{NamesBadBlob, before_open}
use Rattle.sled_log.proofs.snapshot.pass.resolve_pass.Goals as goal

pub returns-clause-bad : goal.returns-clause-bad
returns-clause-bad g c =
    subst (λ (l : List ScannedRecord). OnDamage c.resolve.result (NamesBadBlob g.C.Checksum.sum_of (state_of (g.D.Device.trace c.args.config.now.device)).blobs.file (before_open c.args.end l))) c.deref_mut.ensures.value c.resolve.ensures.bad
