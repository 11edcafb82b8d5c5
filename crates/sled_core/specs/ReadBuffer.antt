-- What a read writes first: the one buffer that has the place of the message, or of its blob, where that isn't stable; and what it answers.
use Rattle.std.specs.Prelude.{◌≡◌, ◌⊎◌, ◌≤ℤ◌, ◌<ℤ◌, ◌<◌, int_lt, nat_le, unsigned_abs, ℕ, ℤ, pos, true, if◌then◌else◌, List, [], Option, None, Some, Result, Ok}
use Rattle.std.specs.Prelude.{Err, OnOk, OnErr}
use Rattle.std.specs.declared.io.Error.{Error as IoError}
use Rattle.sled_codec.specs.declared.result.DiskPtr.{DiskPtr}
use Rattle.sled_codec.specs.declared.result.DiskPtr.TheVariants.{Inline, Blob}
use Rattle.sled_codec.specs.declared.result.Error.{Error}
use Rattle.sled_codec.specs.declared.result.Error.TheVariants.{Io, OutOfMemory, Held, NotReserved, Corruption, PlacesUsedUp}
use Rattle.sled_codec.specs.Errors.{IsCorruption}
use Rattle.sled_codec.specs.Pointers.{lid_of}
use Rattle.sled_store.specs.Blobs.{IsMissing, NamesDamage}
use Rattle.sled_store.specs.Device.{Event, Trace}
use Rattle.sled_store.specs.Script.{Performs, after_all}
use Rattle.sled_store.specs.SegmentStates.{Machine}
use Rattle.sled_core.specs.Account.{account_of}
use Rattle.sled_core.specs.declared.logger.Log.{Log}
use Rattle.sled_core.specs.Causes.{IsFaultAt, IsHeld, OnDone}
use Rattle.sled_core.specs.Fits.{IsUsedUp, NoneSealed, buffers_of, current_begin, device_of, fault_of, ledger_of, ledger_sealed, position_sealed}
use Rattle.sled_core.specs.Fits.{position_with, reserved_end, sealing_end, segment_size_of, start_of, synced_end, waiting_of}
use Rattle.sled_core.specs.Freeing.{Ledger}
use Rattle.sled_core.specs.Keeps.{FailedStep, start_sealed}
use Rattle.sled_core.specs.Ledger.{ledger_behind, writings}
use Rattle.sled_core.specs.LogStatus.{LeavesStatus, ledger_around, seal_around, status_of, wrote_around}
use Rattle.sled_core.specs.Marked.{BeginsMarked}
use Rattle.sled_core.specs.Positions.{Position}
use Rattle.sled_core.specs.Reading.{IsNoPlace}
use Rattle.sled_core.specs.ReadPointer.{place_read}
use Rattle.sled_core.specs.Stable.{IsNotReserved}
use Rattle.sled_core.specs.Waiting.{BufferAt, BufferStart, free_around, held_around, none_around, one_around, without_around}

-- the slots and the marks, once the current buffer is sealed where it has a place
abbrev pub ledger_at : {D C : Type 0} → ℕ → Log D C → Ledger
ledger_at place log = if nat_le (current_begin log) place then ledger_sealed log else ledger_of log

-- The calls that bring the buffer of a place to the device: none where the place is stable, or its buffer is written or has an open reservation; else one
-- write of that whole buffer, and a sync, with the accountant's behind them.
abbrev pub settling : {D C : Type 0} → (List ℕ → ℕ) → Log D C → ℤ → List Event
settling sum log lsn =
    if int_lt lsn (pos (synced_end log)) then []
    else writings (segment_size_of log) (free_around (unsigned_abs lsn) (buffers_of sum log)) (ledger_at (unsigned_abs lsn) log)

-- the least place of the open reservations of the buffer of a place that isn't stable
abbrev pub held_at : {D C : Type 0} → (List ℕ → ℕ) → Log D C → ℤ → Option ℕ
held_at sum log lsn = if int_lt lsn (pos (synced_end log)) then None else held_around (unsigned_abs lsn) (buffers_of sum log)

-- a place is on the device: no buffer that has it is still to be written
abbrev pub IsWrittenPlace : {D C : Type 0} → Log D C → ℕ → Type 0
IsWrittenPlace log place = (place < current_begin log) × (none_around place (waiting_of log) ≡ true)

-- a read at a place needs a further segment, since the current buffer has the place, and there is none in reach
abbrev pub IsUsedUpAt : {D C : Type 0} → Log D C → ℤ → Type 0
IsUsedUpAt log lsn = (pos (current_begin log) ≤ℤ lsn) × IsUsedUp log

-- the place that was read is on the device; a blob of a negative place is before all
abbrev pub IsSettled : {D C : Type 0} → Log D C → ℤ → DiskPtr → Type 0
IsSettled log lsn (Inline lid) = IsWrittenPlace log (unsigned_abs lsn)
IsSettled log lsn (Blob lid place) = pos 0 ≤ℤ place → IsWrittenPlace log (unsigned_abs place)

-- a call answers that a blob is missing
abbrev pub IsMissed : {T : Type 0} → Result T Error → Type 0
IsMissed (Err e) = IsMissing e
IsMissed _ = ⊥

-- the calls that settle a place were made, as no reservation holds it
abbrev pub IsMade : {D C : Type 0} → (D → Trace) → (List ℕ → ℕ) → ℤ → Log D C → Log D C → Type 0
IsMade trace sum at old new = (held_at sum old at ≡ None) × (trace (device_of new) ≡ after_all (settling sum old at) (trace (device_of old)))

-- What a read of a pointer writes: by the calls that settle its place alone, and by all of them where it succeeded, was held, or found damage or no blob,
-- for which it looks where nothing holds it.
pub record Settles {T D C : Type 0} (trace : D → Trace) (sum : List ℕ → ℕ) (result : Result T Error) (lsn : ℤ) (p : DiskPtr) (old new : Log D C) : Type 0 where
  pub made : OnDone result (trace (device_of new) ≡ after_all (settling sum old (place_read lsn p)) (trace (device_of old)))
  pub damaged : IsCorruption result → IsNoPlace (segment_size_of old) lsn (lid_of p) ⊎ IsMade trace sum (place_read lsn p) old new
  pub missed : fault_of old ≡ None → IsMissed result → IsMade trace sum (place_read lsn p) old new
  pub at_most : Performs (settling sum old (place_read lsn p)) (trace (device_of old)) (trace (device_of new))
  -- the place is on the device then, so that another read writes nothing
  pub settled : OnOk result (IsSettled new lsn p)
  pub unwritten : place_read lsn p <ℤ pos (synced_end old) → trace (device_of new) ≡ trace (device_of old)

-- What a read seals: nothing where its place is stable or in a sealed buffer; else the current buffer, at most, which is written then unless an open
-- reservation holds it.
pub record SealsAround {T D C : Type 0} (result : Result T Error) (lsn : ℤ) (old new : Log D C) : Type 0 where
  pub still : lsn <ℤ pos (synced_end old) → waiting_of new ≡ waiting_of old
  pub apart : lsn <ℤ pos (current_begin old) → current_begin new ≡ current_begin old
  pub once : (current_begin new ≡ current_begin old) ⊎ (current_begin new ≡ sealing_end old)
  pub held : IsHeld result → lsn <ℤ pos (current_begin new)
  pub none : NoneSealed old → OnOk result (NoneSealed new)

-- the sealed buffers, once the current one is sealed where it has a place
abbrev pub sealed_at : {D C : Type 0} → (List ℕ → ℕ) → ℕ → Log D C → List BufferAt
sealed_at sum place log = if nat_le (current_begin log) place then buffers_of sum log else waiting_of log

-- and where the current one begins then
abbrev pub start_at : {D C : Type 0} → ℕ → Log D C → BufferStart
start_at place log = if nat_le (current_begin log) place then start_sealed log else start_of log

-- and where the next record may begin, with slots left as this machine has them
abbrev pub position_at : {D C : Type 0} → ℕ → Log D C → Machine → Position
position_at place log m = if nat_le (current_begin log) place then position_sealed log m else position_with log m

-- the log is as it was, but for its failure
abbrev pub LeavesUnsealed : {D C : Type 0} → Log D C → Log D C → Type 0
LeavesUnsealed old new = LeavesStatus (waiting_of old) (status_of old) new

-- the current buffer is sealed where it has the place
abbrev pub LeavesSealed : {D C : Type 0} → (List ℕ → ℕ) → ℕ → Log D C → Log D C → Type 0
LeavesSealed sum place old new = LeavesStatus (sealed_at sum place old) (seal_around (segment_size_of old) place (status_of old)) new

-- slots and marks, once the buffer is written that has the place
abbrev pub ledger_written : {D C : Type 0} → (List ℕ → ℕ) → ℕ → Log D C → Ledger
ledger_written sum place old = ledger_behind (segment_size_of old) (one_around place (sealed_at sum place old)) (ledger_around place (status_of old))

-- it is written besides, and these are the slots and marks
abbrev pub LeavesAround : {D C : Type 0} → (List ℕ → ℕ) → ℕ → Ledger → Log D C → Log D C → Type 0
LeavesAround sum place l old new =
    LeavesStatus (without_around place (sealed_at sum place old)) (wrote_around (segment_size_of old) place l (status_of old)) new

abbrev pub LeavesWritten : {D C : Type 0} → (List ℕ → ℕ) → ℕ → Log D C → Log D C → Type 0
LeavesWritten sum place old new = LeavesAround sum place (ledger_written sum place old) old new

-- and the accountant's step behind that failed, so that slots are on the way
abbrev pub LeavesFailing : {D C : Type 0} → (List ℕ → ℕ) → ℕ → Log D C → Log D C → Type 0
LeavesFailing sum place old new =
    FailedStep old new × LeavesAround sum place (ledger_of new) old new × (account_of new ≡ (ledger_written sum place old).account)

-- What a read of a place that isn't stable leaves of the buffers: where it succeeds the one that has the place is written; where it is held that one is
-- sealed; else one of these.
pub record WritesAround {T D C : Type 0} (sum : List ℕ → ℕ) (result : Result T Error) (lsn : ℤ) (old new : Log D C) : Type 0 where
  pub still : lsn <ℤ pos (synced_end old) → LeavesUnsealed old new
  pub written : pos (synced_end old) ≤ℤ lsn → OnOk result (LeavesWritten sum (unsigned_abs lsn) old new)
  pub held : IsHeld result → LeavesSealed sum (unsigned_abs lsn) old new
  pub some : OnErr result (LeavesUnsealed old new ⊎ LeavesSealed sum (unsigned_abs lsn) old new
      ⊎ LeavesWritten sum (unsigned_abs lsn) old new ⊎ LeavesFailing sum (unsigned_abs lsn) old new)
  -- a segment that was begun has the last stable place for its mark
  pub marked : BeginsMarked sum old new

-- What a read refuses: all where the log keeps a failure; else what is no place as damage, and then a place that wasn't reserved as that. The log is as it was.
pub record RefusesPlace {T D C : Type 0} (result : Result T Error) (lsn : ℤ) (p : DiskPtr) (old new : Log D C) : Type 0 where
  pub faulty : (e : IoError) → fault_of old ≡ Some e → new ≡ old
  pub no_place : fault_of old ≡ None → IsNoPlace (segment_size_of old) lsn (lid_of p) → IsCorruption result × (new ≡ old)
  pub not_reserved : fault_of old ≡ None → (IsNoPlace (segment_size_of old) lsn (lid_of p) → ⊥) → pos (reserved_end old) ≤ℤ place_read lsn p
      → pos (synced_end old) ≤ℤ place_read lsn p → IsNotReserved result
  pub unchanged : IsNotReserved result → new ≡ old

-- A read of a pointer by a place, where all is stable before the one place and what was reserved ends before the other, and an open reservation of the
-- place's buffer begins there: as each call that may touch the device, and damage or a missing blob besides. Held it is exactly where there is such a
-- reservation, and places are used up exactly where that is so.
abbrev pub ReadAnswers : {T : Type 0} → (List ℕ → ℕ) → (ℤ → Option (List ℕ)) → DiskPtr → Result T Error → ℤ → ℕ → ℕ → Option ℕ → Type 0 → Option IoError
    → Option IoError → ℕ → ℕ → Type 0
ReadAnswers sum blobs p (Ok _) lsn stable end held used old new before after =
    ((lsn <ℤ pos stable) ⊎ (lsn <ℤ pos end)) × (held ≡ None) × (used → ⊥) × (old ≡ None) × (new ≡ None) × (after ≡ before)
ReadAnswers sum blobs p (Err (Io e)) lsn stable end held used old new before after =
    IsFaultAt blobs p e (((lsn <ℤ pos stable) ⊎ (lsn <ℤ pos end)) × (held ≡ None) × (used → ⊥)) old new before after
ReadAnswers sum blobs p (Err OutOfMemory) lsn stable end held used old new before after =
    ((lsn <ℤ pos stable) ⊎ (lsn <ℤ pos end)) × (used → ⊥) × (old ≡ None) × (new ≡ None) × (after ≡ before)
ReadAnswers sum blobs p (Err (Corruption at)) lsn stable end held used old new before after =
    (old ≡ None) × (new ≡ None) × (after ≡ before) × NamesDamage sum blobs at
ReadAnswers sum blobs p (Err (Held at)) lsn stable end held used old new before after =
    (lsn <ℤ pos end) × ((place : ℕ) × (held ≡ Some place) × (at ≡ pos place)) × (used → ⊥) × (old ≡ None) × (new ≡ None) × (after ≡ before)
ReadAnswers sum blobs p (Err PlacesUsedUp) lsn stable end held used old new before after =
    (lsn <ℤ pos end) × used × (old ≡ None) × (new ≡ None) × (after ≡ before)
ReadAnswers sum blobs p (Err (NotReserved at)) lsn stable end held used old new before after =
    (at ≡ lsn) × (pos stable ≤ℤ lsn) × (pos end ≤ℤ lsn) × (old ≡ None) × (new ≡ None) × (after ≡ before)
ReadAnswers sum blobs p (Err _) lsn stable end held used old new before after = ⊥
