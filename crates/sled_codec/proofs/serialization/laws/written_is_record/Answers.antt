-- The record that is written is one.
use Rattle.sled_codec.proofs.Records.{short_is_record}
use Rattle.sled_codec.proofs.serialization.laws.written_is_record.Goals as goal

pub returns : goal.returns
returns g c = short_is_record g.C.Checksum.sum_of
