-- Why a log was not started.
use Rattle.std.specs.Prelude.{◌≡◌, ◌⊎◌, ◌+◌, ◌%◌, ◌^◌, ℕ, None, Result, Ok, Err, IsTrue}
use Rattle.sled_codec.specs.declared.result.Error.{Error}
use Rattle.sled_codec.specs.declared.result.Error.TheVariants.{Io, OutOfMemory, Corruption, PlacesUsedUp}
use Rattle.sled_store.specs.Answers.{is_fault}

-- What is asked of a snapshot before a log begins on it, without the device. Damage comes first: of one on which no log can begin nothing is said about its
-- places.
abbrev pub CheckAnswers : {T : Type 0} → Result T Error → (startable in_reach : Type 0) → Type 0
CheckAnswers (Ok _) startable in_reach = in_reach
CheckAnswers (Err OutOfMemory) startable in_reach = Unit {0}
CheckAnswers (Err (Corruption at)) startable in_reach = at ≡ None
CheckAnswers (Err PlacesUsedUp) startable in_reach = startable × (in_reach → ⊥)
CheckAnswers (Err _) startable in_reach = ⊥

-- Nothing is written but where a log can begin on the snapshot and a further segment is in reach.
abbrev pub WritesWhereItCan : (startable in_reach unwritten : Type 0) → Type 0
WritesWhereItCan startable in_reach unwritten = (startable × in_reach) ⊎ unwritten

-- Why a log was not started: it can't begin on the snapshot, or it can and no further segment is in reach, and then nothing was written; or the device failed,
-- or memory was refused.
abbrev pub StartRefuses : Error → (startable in_reach unwritten : Type 0) → ℕ → ℕ → Type 0
StartRefuses (Io e) startable in_reach unwritten before after =
    IsTrue (is_fault e) × (after ≡ (before + 1) % 2 ^ 64) × WritesWhereItCan startable in_reach unwritten
StartRefuses OutOfMemory startable in_reach unwritten before after = (after ≡ before) × WritesWhereItCan startable in_reach unwritten
StartRefuses (Corruption at) startable in_reach unwritten before after = (at ≡ None) × (startable → ⊥) × unwritten × (after ≡ before)
StartRefuses PlacesUsedUp startable in_reach unwritten before after = startable × (in_reach → ⊥) × unwritten × (after ≡ before)
StartRefuses _ startable in_reach unwritten before after = ⊥
