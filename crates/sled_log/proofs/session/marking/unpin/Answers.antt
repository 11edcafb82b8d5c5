use Rattle.sled_core.proofs.PublicLaws.{goes_on_still}
use Rattle.sled_log.proofs.session.marking.unpin.Goals as goal

pub returns-else-pins-gt0-clause-goes_on : goal.returns-else-pins-gt0-clause-goes_on
returns-else-pins-gt0-clause-goes_on g c = goes_on_still g.D.Device.trace g.C.Checksum.sum_of c.args.log.now
