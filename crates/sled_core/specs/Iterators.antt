-- What a caller sees of an iterator: what it borrows, and what is ahead of it.
use Rattle.std.specs.Prelude.{◌≡◌, ℕ, ℤ, true, List, map, Option, None, Some, Result, Err, IfNone, IfSome}
use Rattle.std.specs.Borrow.{MutBor}
use Rattle.std.specs.declared.io.Error.{Error as IoError}
use Rattle.sled_codec.specs.History.{History, Message}
use Rattle.sled_store.specs.declared.config.RunningConfig.{RunningConfig}
use Rattle.sled_codec.specs.declared.result.Error.{Error}
use Rattle.sled_codec.specs.declared.result.Error.TheVariants.{Io, OutOfMemory}
use Rattle.sled_store.specs.Device.{Trace, state_of}
use Rattle.sled_core.specs.Account.{account_of}
use Rattle.sled_core.specs.Among.{AreAmong}
use Rattle.sled_core.specs.declared.iterator.Segment.{Segment}
use Rattle.sled_core.specs.declared.iterator.log_iter.LogIter.{LogIter}
use Rattle.sled_core.specs.declared.iterator.log_iter.Source.{Source}
use Rattle.sled_core.specs.declared.iterator.log_iter.Source.TheVariants as source
use Rattle.sled_core.specs.declared.logger.Log.{Log}
use Rattle.sled_core.specs.Causes.{failure_in}
use Rattle.sled_core.specs.Fits.{KeepsBuffers, KeepsTickets, device_of, fault_of, fillings_of, heads_of, machine_at, pooled_of, segment_size_of, stable_end}
use Rattle.sled_core.specs.Keeps.{OnlyReads, Preserves, SamePosition}
use Rattle.sled_core.specs.Iterates.{Item, Damage, IsIteration, NextGives, NextAnswers, BehindLast}
use Rattle.sled_core.specs.LogSegments.{AreSegments, begins_from}
use Rattle.sled_core.specs.OnFile.{AreOnFile, item_of}
use Rattle.sled_core.specs.Sources.{BorrowSame, config_in, file_in, log_in}
use Rattle.sled_core.specs.invariants.Iterators.{IsAhead, IsOver}

-- why nothing can be gone over, where that is so: the one item of the iterator
abbrev pub refusal_of : {D C : Type 0} → LogIter D C → Option Error
refusal_of it = it.refusal

-- what it reads
abbrev pub reads_of : {D C : Type 0} → LogIter D C → RunningConfig D C
reads_of it = config_in it.source

-- it borrows what a log file is on, which is this now, or a log, as it was lent
abbrev pub BorrowsFile : {D C : Type 0} → MutBor (RunningConfig D C) → RunningConfig D C → LogIter D C → Type 0
BorrowsFile entry now it = it.source ≡ source.File (record entry { now = now })

abbrev pub BorrowsLog : {D C : Type 0} → MutBor (Log D C) → LogIter D C → Type 0
BorrowsLog entry it = it.source ≡ source.Log entry

-- what it borrows is as it was
abbrev pub BorrowsStill : {D C : Type 0} → LogIter D C → LogIter D C → Type 0
BorrowsStill old new = new.source ≡ old.source

-- the configuration, or the log, that it gives back
abbrev pub IsFileOf : {D C : Type 0} → LogIter D C → Option (MutBor (RunningConfig D C)) → Type 0
IsFileOf it result = result ≡ file_in it.source

abbrev pub IsLogOf : {D C : Type 0} → LogIter D C → Option (MutBor (Log D C)) → Type 0
IsLogOf it result = result ≡ log_in it.source

-- the first failure of a device: the one that was kept, or that of this item
abbrev pub first_failure : Option IoError → Option (Result Item Error) → Option IoError
first_failure (Some e) item = Some e
first_failure None (Some result) = failure_in result
first_failure None None = None

-- A log was only read: it goes on from what it was.
pub record IsOnlyRead {D C : Type 0} (trace : D → Trace) (sum : List ℕ → ℕ) (old new : Log D C) : Type 0 where
  pub keeps : Preserves trace sum old new
  pub tickets : KeepsTickets old new
  pub position : SamePosition old new
  pub buffers : KeepsBuffers old new
  pub heads : AreAmong (heads_of new) (heads_of old)
  pub fillings : AreAmong (fillings_of new) (fillings_of old)
  pub machine : machine_at new ≡ machine_at old
  pub pooled : pooled_of new ≡ pooled_of old
  pub account : account_of new ≡ account_of old

-- So it was for an item, and it keeps a failure of its device.
pub record IsReadFor {D C : Type 0} (trace : D → Trace) (sum : List ℕ → ℕ) (item : Option (Result Item Error)) (old new : Log D C) : Type 0 where
  pub read : IsOnlyRead trace sum old new
  pub fault : fault_of new ≡ first_failure (fault_of old) item

-- An iterator is over a log that was lent so, and that was only read since.
abbrev pub IsOverLog : {D C : Type 0} → (D → Trace) → (List ℕ → ℕ) → MutBor (Log D C) → LogIter D C → Type 0
IsOverLog {D} {C} trace sum entry it =
    (r : MutBor (Log D C)) × (log_in it.source ≡ Some r) × (r.ghost_name ≡ entry.ghost_name) × IsOnlyRead trace sum entry.now r.now

-- so was the log that an iterator borrows, where it borrows one
abbrev pub LogIsReadFor : {D C : Type 0} → (D → Trace) → (List ℕ → ℕ) → Option (Result Item Error) → Source D C → Source D C → Type 0
LogIsReadFor trace sum item (source.File r) (source.File s) = Unit {0}
LogIsReadFor trace sum item (source.File r) (source.Log s) = ⊥
LogIsReadFor trace sum item (source.Log r) (source.File s) = ⊥
LogIsReadFor trace sum item (source.Log r) (source.Log s) = IsReadFor trace sum item r.now s.now

-- What a call of an iterator gives: the next message of those that are ahead, or none where it is over, or an error. Behind an error and
-- where none came it is over. What it borrows was only read, and it goes on borrowing the same.
pub record IsNext {D C : Type 0} (trace : D → Trace) (faults : D → ℕ) (sum : List ℕ → ℕ) (old : LogIter D C) (result : Option (Result Item Error))
    (new : LogIter D C) : Type 0 where
  pub gives : (items : List Item) (damage : Damage) → IsAhead trace sum old items damage → NextGives (IsAhead trace sum new) items damage result
  pub ended : BehindLast result (IsOver new)
  pub over : IsOver old → result ≡ None
  -- a refusal is the one item, and nothing is read for it
  pub refused : IfSome (refusal_of old) (λ e. (result ≡ Some (Err e)) × BorrowsStill old new)
  pub answers : IfNone (refusal_of old)
      (NextAnswers sum (state_of (trace (reads_of old).device)).blobs.file result (faults (reads_of old).device) (faults (reads_of new).device))
  pub reads : OnlyReads trace (reads_of old) (reads_of new)
  pub log : IfNone (refusal_of old) (LogIsReadFor trace sum result old.source new.source)
  pub same_reference : BorrowSame old.source new.source

-- Why an iterator of a log was refused, where this is the failure that the log keeps: exactly by that, or for want of memory.
abbrev pub IsRefusedFor : Option Error → Option IoError → Type 0
IsRefusedFor None fault = fault ≡ None
IsRefusedFor (Some (Io e)) fault = fault ≡ Some e
IsRefusedFor (Some OutOfMemory) fault = fault ≡ None
IsRefusedFor (Some _) fault = ⊥

-- An iterator goes over the segments that a log has, by place, from the one that holds a place on, up to the stable end.
abbrev pub GoesOver : {D C : Type 0} → (D → Trace) → (List ℕ → ℕ) → Log D C → ℤ → LogIter D C → Type 0
GoesOver trace sum log lsn it =
    let size = segment_size_of log in
    let s = state_of (trace (device_of log)) in
    (ss : List Segment) × AreSegments size (machine_at log) (begins_from size lsn) (stable_end log) ss
    × ((items : List Item) (damage : Damage) → IsIteration sum size s.log.bytes s.blobs.file (stable_end log) true ss items damage
    → IsAhead trace sum it items damage)

-- It gives the messages of a history from the segment that holds a place on and below the stable end, of which a slot has the segment and, where they name
-- a blob, that is there; by place. And it doesn't end at damage.
abbrev pub GivesMessages : {D C : Type 0} → (D → Trace) → (List ℕ → ℕ) → Log D C → History → ℤ → LogIter D C → Type 0
GivesMessages trace sum log H lsn it =
    let size = segment_size_of log in
    let s = state_of (trace (device_of log)) in
    (ms : List Message) × AreOnFile size (machine_at log) s.blobs.file H (begins_from size lsn) (stable_end log) ms × IsAhead trace sum it (map item_of ms) None
