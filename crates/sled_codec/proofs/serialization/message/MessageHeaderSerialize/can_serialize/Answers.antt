-- The fields are in the ranges of their types.
use Rattle.std.proofs.Common.{arith, refl}
use Rattle.sled_codec.proofs.serialization.message.MessageHeaderSerialize.can_serialize.Goals as goal

pub returns : goal.returns
returns c = (λ _. record { sum = omega arith; len = omega arith; number = omega arith; page = omega arith }, λ _. refl)
