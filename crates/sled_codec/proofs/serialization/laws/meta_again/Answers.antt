-- A whole text is one meta at most, and what is written is one.
use Rattle.sled_codec.specs.Metas.{short_meta}
use Rattle.sled_codec.specs.MetaLaws.{short_spells-meta, one_value-meta}
use Rattle.sled_codec.proofs.serialization.laws.meta_again.Goals as goal

pub returns-clause-one : goal.returns-clause-one
returns-clause-one c = λ text m n p q. one_value-meta text n m q p

pub returns-clause-again : goal.returns-clause-again
returns-clause-again c = λ m n fits spelled. one_value-meta (short_meta m) n m spelled (short_spells-meta m fits)
