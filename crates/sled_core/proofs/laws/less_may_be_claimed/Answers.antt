use Rattle.sled_core.proofs.PublicLaws.{fits_claimed, leaves_claimed, ready_claimed, recoverable_claimed}
use Rattle.sled_core.proofs.laws.less_may_be_claimed.Goals as goal

pub returns-clause-fits : goal.returns-clause-fits
returns-clause-fits g c = λ log H A less f lower U le low fits. fits_claimed g.C.Checksum.sum_of H A less f lower U le low g.D.Device.trace log fits

pub returns-clause-ready : goal.returns-clause-ready
returns-clause-ready g c = λ size device s H A less f lower le low ready. ready_claimed g.C.Checksum.sum_of size f lower low H A less le device s ready

pub returns-clause-leaves : goal.returns-clause-leaves
returns-clause-leaves g c = λ size device H A less f lower le low leaves. leaves_claimed g.C.Checksum.sum_of size f lower low H A less le device leaves

pub returns-clause-recoverable : goal.returns-clause-recoverable
returns-clause-recoverable g c = λ size content H A less f lower le low can. recoverable_claimed g.C.Checksum.sum_of size f lower low H A less le content can
