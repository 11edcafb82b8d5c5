use Rattle.sled_core.proofs.PublicLaws.{kept_still, kept_further, goes_on_further, log_writing_where, writing_further}
use Rattle.sled_core.proofs.laws.calls_keep_together.Goals as goal

pub returns-clause-none : goal.returns-clause-none
returns-clause-none g c = λ log. kept_still g.D.Device.trace g.C.Checksum.sum_of log

pub returns-clause-both : goal.returns-clause-both
returns-clause-both g c = λ old mid new first then. kept_further g.D.Device.trace g.C.Checksum.sum_of old mid new first then

pub returns-clause-goes_on : goal.returns-clause-goes_on
returns-clause-goes_on g c = λ old mid new first then. goes_on_further g.D.Device.trace g.C.Checksum.sum_of old mid new first then

pub returns-clause-writing : goal.returns-clause-writing
returns-clause-writing g c = λ old mid new first then. writing_further g.D.Device.trace g.C.Checksum.sum_of old mid new first then

pub returns-clause-frees_nothing : goal.returns-clause-frees_nothing
returns-clause-frees_nothing g c = λ old new keeps before. log_writing_where g.D.Device.trace g.C.Checksum.sum_of old new keeps before
