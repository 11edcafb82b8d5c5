-- What proofs, and functions that no user calls, need beside `specs/Causes.antt`. No public contract names it.
use Rattle.std.specs.Prelude.{◌≡◌, ◌<◌, ℕ, ℤ, if◌then◌else◌, List, Option, None, Some, Result, Ok, Err}
use Rattle.std.specs.declared.io.Error.{Error as IoError}
use Rattle.sled_codec.specs.declared.result.DiskPtr.{DiskPtr}
use Rattle.sled_codec.specs.declared.result.Error.{Error}
use Rattle.sled_codec.specs.declared.result.Error.TheVariants.{Io, OutOfMemory, Held, Corruption}
use Rattle.sled_store.specs.Answers.{is_fault}
use Rattle.sled_core.specs.Buffers.{most_open}
use Rattle.sled_store.specs.Blobs.{NamesDamage}
use Rattle.sled_core.specs.Causes.{IsFaultAt}

-- Room for one more reservation of a buffer of which so many are open: no further one may be open, with the least place of those that are, or memory was
-- refused.
abbrev pub MakesRoom : {T : Type 0} → Result T Error → ℕ → (ℤ → Type 0) → Type 0
MakesRoom (Ok _) open_count least = open_count < most_open
MakesRoom (Err (Held at)) open_count least = (open_count ≡ most_open) × least at
MakesRoom (Err OutOfMemory) open_count least = open_count < most_open
MakesRoom (Err _) open_count least = ⊥

-- A read of a pointer: as each call that may touch the device, and damage or a missing blob besides.
abbrev pub RecordAnswers : {T : Type 0} → (List ℕ → ℕ) → (ℤ → Option (List ℕ)) → DiskPtr → Result T Error → Option IoError → Option IoError → ℕ → ℕ → Type 0
RecordAnswers sum blobs p (Ok _) old new before after = (old ≡ None) × (new ≡ None) × (after ≡ before)
RecordAnswers sum blobs p (Err (Io e)) old new before after = IsFaultAt blobs p e (Unit {0}) old new before after
RecordAnswers sum blobs p (Err OutOfMemory) old new before after = (old ≡ None) × (new ≡ None) × (after ≡ before)
RecordAnswers sum blobs p (Err (Corruption at)) old new before after = (old ≡ None) × (new ≡ None) × (after ≡ before) × NamesDamage sum blobs at
RecordAnswers sum blobs p (Err _) old new before after = ⊥

-- the failure of the device that an answer tells of; a missing blob is none
abbrev pub fault_in : {T : Type 0} → Result T Error → Option IoError
fault_in (Err (Io e)) = if is_fault e then Some e else None
fault_in _ = None
