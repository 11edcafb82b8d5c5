use Rattle.sled_core.proofs.PublicLaws.{mark_synced, record_of_entry, record_unsynced}
use Rattle.sled_core.proofs.laws.what_is_not_synced_has_its_record.Goals as goal

pub returns-clause-mark : goal.returns-clause-mark
returns-clause-mark g c = mark_synced g.D.Device.trace g.C.Checksum.sum_of

pub returns-clause-unsynced : goal.returns-clause-unsynced
returns-clause-unsynced g c = λ log H m above. record_unsynced log H m above

pub returns-clause-entry : goal.returns-clause-entry
returns-clause-entry g c = λ log H m cut above entry. record_of_entry log H m cut above entry
