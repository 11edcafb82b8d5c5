use Rattle.sled_core.proofs.PublicLaws.{awaited_above, grows_completed, grows_further, grows_same}
use Rattle.sled_core.proofs.laws.a_history_grows_from_the_mark.Goals as goal

pub returns-clause-awaited : goal.returns-clause-awaited
returns-clause-awaited g c = awaited_above g.D.Device.trace g.C.Checksum.sum_of

pub returns-clause-completed : goal.returns-clause-completed
returns-clause-completed g c = λ mark m H H' c adds above last. grows_completed mark m H H' c adds above last

pub returns-clause-same : goal.returns-clause-same
returns-clause-same g c = λ mark m H H' same. grows_same mark m H H' same

pub returns-clause-both : goal.returns-clause-both
returns-clause-both g c = λ mark m old mid new first then. grows_further mark m old mid new first then
