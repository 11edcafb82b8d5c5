-- A whole text is one snapshot at most, and what is written is one.
use Rattle.sled_codec.specs.Snapshots.{short_snapshot}
use Rattle.sled_codec.specs.SnapshotLaws.{short_spells-snapshot, one_value-snapshot}
use Rattle.sled_codec.proofs.serialization.laws.snapshot_again.Goals as goal

pub returns-clause-one : goal.returns-clause-one
returns-clause-one c = λ text s w p q. one_value-snapshot text w s q p

pub returns-clause-again : goal.returns-clause-again
returns-clause-again c = λ s w fits spelled. one_value-snapshot (short_snapshot s) w s spelled (short_spells-snapshot s fits)
