use Rattle.sled_core.proofs.PublicLaws.{blob_below, blob_unnamed, higher_may}
use Rattle.sled_core.proofs.laws.a_higher_blob_is_named_by_none.Goals as goal

pub returns-clause-below : goal.returns-clause-below
returns-clause-below g c = λ log H A f U e fits there. blob_below g.D.Device.trace g.C.Checksum.sum_of log H A f U fits e there

pub returns-clause-unnamed : goal.returns-clause-unnamed
returns-clause-unnamed g c = λ log H A f U e blob fits high there names.
    blob_unnamed g.D.Device.trace g.C.Checksum.sum_of log H A f U fits e blob high there names

pub returns-clause-may : goal.returns-clause-may
returns-clause-may g c = λ log H A f U m lid blob fits high is. higher_may g.D.Device.trace g.C.Checksum.sum_of log H A f U fits m lid blob high is
