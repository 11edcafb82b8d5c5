-- It ends as a record of its kind.
use Rattle.sled_core.proofs.iobuf.IoBuf.abort.Goals as goal

pub returns : goal.returns
returns g c = c.end_as.ensures
