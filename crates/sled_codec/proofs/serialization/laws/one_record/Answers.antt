-- Records at the front of one text are one.
use Rattle.sled_codec.proofs.Records.{one_message, one_record}
use Rattle.sled_codec.proofs.serialization.laws.one_record.Goals as goal

pub returns : goal.returns
returns g c = λ a b x y kind kind' page page' number number' body body' p q is.
    let same = one_message g.C.Checksum.sum_of a b x y kind kind' page page' number number' body body' p q is in
    (one_record g.C.Checksum.sum_of a b x y kind kind' page page' number number' body body' p q is, same.kinds, same.pages, same.numbers, same.bodies)
