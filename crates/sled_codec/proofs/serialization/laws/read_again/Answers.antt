-- Of two spellings at the front of one text neither is a proper beginning of the other.
use Rattle.std.proofs.Common.{sym}
use Rattle.sled_codec.specs.SpellingLaws.{same_rests}
use Rattle.sled_codec.proofs.serialization.laws.read_again.Goals as goal

pub returns : goal.returns
returns g c = λ v rest front back w fits is spelled.
    let short = g.met.T.Serialize.short_spells v fits in
    let same = g.met.T.Delimited.no_front _ _ rest back v w short spelled is in
    (g.met.T.Delimited.one_value front w v spelled (rw same at short), sym (same_rests _ _ _ _ same is))
