-- Why a call of a log failed.
use Rattle.std.specs.Prelude.{Bool, true, ◌≡◌, ◌⊎◌, [], ◌+◌, ◌<◌, ◌%◌, ◌^◌, ℕ, ℤ, pos, List, Option, None, Some, Result, Ok, Err, IsTrue, IsSome}
use Rattle.std.specs.declared.io.Error.{Error as IoError}
use Rattle.std.specs.IoError.{error_kind}
use Rattle.std.specs.declared.io.ErrorKind.TheVariants.{AlreadyExists, NotFound}
use Rattle.sled_codec.specs.declared.result.DiskPtr.{DiskPtr}
use Rattle.sled_codec.specs.declared.result.DiskPtr.TheVariants.{Inline, Blob}
use Rattle.sled_codec.specs.declared.result.Error.{Error}
use Rattle.std.specs.String.{string_bytes}
use Rattle.sled_codec.specs.declared.result.Error.TheVariants.{Io, OutOfMemory, Unsupported, Held, Corruption, PlacesUsedUp}
use Rattle.sled_codec.specs.declared.serialization.message.MessageKind.{MessageKind}
use Rattle.sled_store.specs.declared.config.RunningConfig.{RunningConfig}
use Rattle.sled_store.specs.Answers.{is_fault}
use Rattle.sled_core.specs.Buffers.{most_open}
use Rattle.sled_store.specs.Blobs.{ItemAnswers}
use Rattle.sled_store.specs.Device.{Trace, state_of}

-- The log kept this failure of the device from an earlier call, or the device failed in this call, and the log keeps that.
abbrev pub IsFault : IoError → Option IoError → Option IoError → ℕ → ℕ → Type 0
IsFault e old new before after =
    ((old ≡ Some e) × (new ≡ Some e) × (after ≡ before)) ⊎ ((old ≡ None) × (new ≡ Some e) × (after ≡ (before + 1) % 2 ^ 64) × IsTrue (is_fault e))

-- A call that may touch the device: it succeeds, or memory is refused, only where the log keeps no failure and the device had none, and else it answers the
-- failure that is kept.
abbrev pub Answers : {T : Type 0} → Result T Error → Option IoError → Option IoError → ℕ → ℕ → Type 0
Answers (Ok _) old new before after = (old ≡ None) × (new ≡ None) × (after ≡ before)
Answers (Err (Io e)) old new before after = IsFault e old new before after
Answers (Err OutOfMemory) old new before after = (old ≡ None) × (new ≡ None) × (after ≡ before)
Answers (Err _) old new before after = ⊥

-- A call that writes buffers up to one that has an open reservation: as each that may touch the device. Held it is exactly where there is one, and that
-- begins at this place; and places are used up exactly where the call needs a further segment and there is none in reach, before it takes memory.
abbrev pub HeldAnswers : {T : Type 0} → Result T Error → Option ℕ → Type 0 → Option IoError → Option IoError → ℕ → ℕ → Type 0
HeldAnswers (Err (Held at)) held used old new before after =
    ((place : ℕ) × (held ≡ Some place) × (at ≡ pos place)) × (used → ⊥) × (old ≡ None) × (new ≡ None) × (after ≡ before)
HeldAnswers (Ok n) held used old new before after = (held ≡ None) × (used → ⊥) × (old ≡ None) × (new ≡ None) × (after ≡ before)
HeldAnswers (Err PlacesUsedUp) held used old new before after = used × (old ≡ None) × (new ≡ None) × (after ≡ before)
HeldAnswers (Err OutOfMemory) held used old new before after = (used → ⊥) × (old ≡ None) × (new ≡ None) × (after ≡ before)
HeldAnswers result held used old new before after = Answers result old new before after

-- the call was held by an open reservation
abbrev pub IsHeld : {T : Type 0} → Result T Error → Type 0
IsHeld (Err (Held at)) = Unit {0}
IsHeld _ = ⊥

-- it did what it had to do: it succeeded, or was held
abbrev pub OnDone : {T : Type 0} → Result T Error → Type 0 → Type 0
OnDone (Ok _) P = P
OnDone (Err (Held at)) P = P
OnDone _ P = Unit {0}

-- A call that touches no device: it answers the failure that the log keeps, and succeeds, or wants memory, only where it keeps none. Places are used up
-- exactly where this is so.
abbrev pub FaultOrMemory : {T : Type 0} → Result T Error → Type 0 → Option IoError → Type 0
FaultOrMemory (Ok _) used fault = (used → ⊥) × (fault ≡ None)
FaultOrMemory (Err (Io e)) used fault = fault ≡ Some e
FaultOrMemory (Err PlacesUsedUp) used fault = used × (fault ≡ None)
FaultOrMemory (Err OutOfMemory) used fault = (used → ⊥) × (fault ≡ None)
FaultOrMemory (Err _) used fault = ⊥

-- A call that touches no device and wants no memory: it fails exactly where the log keeps a failure, and answers that.
abbrev pub FaultAnswers : {T : Type 0} → Result T Error → Option IoError → Type 0
FaultAnswers (Ok _) fault = fault ≡ None
FaultAnswers (Err (Io e)) fault = fault ≡ Some e
FaultAnswers (Err _) fault = ⊥

-- What a reservation finds: the failure that the log keeps, before and behind it; the kind of its record, or none; how many reservations are open of the
-- buffer that it would be of; whether its item goes to a blob, and what lies under that name; and the device's count of failures, before and behind it.
pub record ReserveCauses : Type 0 where
  pub old : Option IoError
  pub new : Option IoError
  pub kind : Option MessageKind
  pub open_count : ℕ
  pub in_blob : Bool
  pub file : Option (List ℕ)
  pub before : ℕ
  pub after : ℕ

-- no failure was kept before, none is behind it, and the device had none
abbrev pub NoFault : ReserveCauses → Type 0
NoFault at = (at.old ≡ None) × (at.new ≡ None) × (at.after ≡ at.before)

-- there is a place for the record: it needs no further segment, or one is in reach
abbrev pub HasRecordPlace : Type 0 → ReserveCauses → Type 0
HasRecordPlace used at = IsSome at.kind × (used → ⊥) × (at.open_count < most_open)

-- The blob could not be made: the device failed, and the log keeps that; or there is a blob of that name, and the log doesn't keep that.
pub record IsBlobRefused (e : IoError) (used : Type 0) (at : ReserveCauses) : Type 0 where
  pub in_blob : at.in_blob ≡ true
  pub room : HasRecordPlace used at
  pub none : at.old ≡ None
  pub refused : ((at.new ≡ Some e) × IsTrue (is_fault e) × (at.after ≡ (at.before + 1) % 2 ^ 64))
      ⊎ ((at.new ≡ None) × (error_kind e ≡ AlreadyExists) × IsSome at.file × (at.after ≡ at.before))

-- A reservation, which may need a further segment that isn't in reach: the failure that the log keeps comes first, then a kind that the page has no
-- messages of, with an empty text, then that no further segment is in reach or, in the same buffer, that no further reservation may be open, with the least
-- place of those that are, then want of memory, and last that the blob was refused.
abbrev pub ReserveAnswers : {T : Type 0} → Result T Error → Type 0 → (ℤ → Type 0) → ReserveCauses → Type 0
ReserveAnswers (Ok _) used least at = NoFault at × HasRecordPlace used at × (at.in_blob ≡ true → at.file ≡ None)
ReserveAnswers (Err (Io e)) used least at = ((at.old ≡ Some e) × (at.new ≡ Some e) × (at.after ≡ at.before)) ⊎ IsBlobRefused e used at
ReserveAnswers (Err (Unsupported text)) used least at = NoFault at × (at.kind ≡ None) × (string_bytes text ≡ [])
ReserveAnswers (Err PlacesUsedUp) used least at = NoFault at × IsSome at.kind × used
ReserveAnswers (Err (Held place)) used least at = NoFault at × IsSome at.kind × (used → ⊥) × (at.open_count ≡ most_open) × least place
ReserveAnswers (Err OutOfMemory) used least at = NoFault at × HasRecordPlace used at
ReserveAnswers (Err _) used least at = ⊥

-- A reservation of a record that every page may have, and that needs nothing of the device: as `ReserveAnswers`, without a kind to refuse or a blob.
abbrev pub RewriteAnswers : {T : Type 0} → Result T Error → Option IoError → Type 0 → ℕ → (ℤ → Type 0) → Type 0
RewriteAnswers (Ok _) fault used open_count least = (fault ≡ None) × (used → ⊥) × (open_count < most_open)
RewriteAnswers (Err (Io e)) fault used open_count least = fault ≡ Some e
RewriteAnswers (Err PlacesUsedUp) fault used open_count least = (fault ≡ None) × used
RewriteAnswers (Err (Held at)) fault used open_count least = (fault ≡ None) × (used → ⊥) × (open_count ≡ most_open) × least at
RewriteAnswers (Err OutOfMemory) fault used open_count least = (fault ≡ None) × (used → ⊥) × (open_count < most_open)
RewriteAnswers (Err _) fault used open_count least = ⊥

-- A call that reads bytes: it wants no memory, a failure of the device is counted and answered, and damage comes only where this is so.
abbrev pub ReaderAnswers : {T : Type 0} → Result T Error → Type 0 → ℕ → ℕ → Type 0
ReaderAnswers (Ok _) early before after = after ≡ before
ReaderAnswers (Err (Io e)) early before after = IsTrue (is_fault e) × (after ≡ (before + 1) % 2 ^ 64)
ReaderAnswers (Err (Corruption at)) early before after = (after ≡ before) × (at ≡ None) × early
ReaderAnswers (Err _) early before after = ⊥

-- A call that reads what a device has, with the blobs: it answers as a read of an item does, and the failures of the device are counted.
abbrev pub ItemAnswersOver : {T D C : Type 0} → (D → Trace) → (D → ℕ) → (List ℕ → ℕ) → Result T Error → RunningConfig D C → RunningConfig D C → Type 0
ItemAnswersOver trace faults sum result old new = ItemAnswers sum (state_of (trace old.device)).blobs.file result (faults old.device) (faults new.device)

-- Why the device gave nothing for a pointer: a failure, as for each call that may touch it; or the blob is missing, where this is so, and the log doesn't
-- keep that.
abbrev pub IsFaultAt : (ℤ → Option (List ℕ)) → DiskPtr → IoError → Type 0 → Option IoError → Option IoError → ℕ → ℕ → Type 0
IsFaultAt blobs (Inline lid) e so old new before after = IsFault e old new before after
IsFaultAt blobs (Blob lid place) e so old new before after =
    IsFault e old new before after ⊎ ((error_kind e ≡ NotFound) × (blobs place ≡ None) × so × (old ≡ None) × (new ≡ None) × (after ≡ before))

-- the failure of the device that an answer tells of
abbrev pub failure_in : {T : Type 0} → Result T Error → Option IoError
failure_in (Err (Io e)) = Some e
failure_in _ = None
