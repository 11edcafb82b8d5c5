-- Reading the bound of a log that begins.
use Rattle.std.specs.Prelude.{◌≡◌, ◌+◌, ◌/◌, ◌%◌, ◌^◌, ◌++◌, ◌∷◌, ◌<ℤ◌, [], ℕ, ℤ, pos, true, unsigned_abs, List, Contains, None, Result, Ok, Err, IsTrue}
use Rattle.sled_codec.specs.declared.result.DiskPtr.{DiskPtr}
use Rattle.sled_codec.specs.declared.result.DiskPtr.TheVariants.{Inline, Blob}
use Rattle.sled_codec.specs.declared.result.Error.{Error}
use Rattle.sled_codec.specs.declared.result.Error.TheVariants.{Corruption, Io, NotReserved, OutOfMemory, PlacesUsedUp}
use Rattle.sled_codec.specs.declared.serialization.message.MessageHeader.{MessageHeader}
use Rattle.sled_codec.specs.Errors.{IsCorrupt}
use Rattle.sled_codec.specs.History.{Message, History, table}
use Rattle.sled_codec.specs.PageTables.{IsTable}
use Rattle.sled_codec.specs.Snapshots.{Page, Present, Free, Uninitialized}
use Rattle.sled_codec.specs.Spelling.{SpellsNumber}
use Rattle.sled_store.specs.Answers.{is_fault}
use Rattle.sled_store.specs.Device.{Trace, state_of}
use Rattle.sled_core.specs.declared.logger.Log.{Log}
use Rattle.sled_core.specs.declared.logger.read_message.LogRead.{LogRead}
use Rattle.sled_core.specs.declared.logger.read_message.LogRead.TheVariants as read
use Rattle.sled_core.specs.Fits.{NoneSealed, device_of, fault_of, reserved_end, synced_end}
use Rattle.sled_core.specs.Reading.{IsInline, IsNoPlace, StandsAt, is_inline}
use Rattle.sled_core.specs.invariants.Running.{Fits}
use Rattle.ids.specs.Bounds.{IsLastMessage, IsOfBounds}

-- Why no generator was opened on a device that has a generator's log: it failed, memory was refused, or places are used up.
abbrev pub IsOpenError : Error → Type 0
IsOpenError (Io e) = Unit {0}
IsOpenError OutOfMemory = Unit {0}
IsOpenError PlacesUsedUp = Unit {0}
IsOpenError _ = ⊥

-- a failure of the device was counted, and only that was
abbrev pub CountsError : Error → ℕ → ℕ → Type 0
CountsError (Io e) before after = IsTrue (is_fault e) × (after ≡ (before + 1) % 2 ^ 64)
CountsError _ before after = after ≡ before

-- Why a bound wasn't read from a log that began on its table: the device failed, memory was refused, or what the table names is no bound.
abbrev pub IsReadError : Error → Type 0
IsReadError (Io e) = Unit {0}
IsReadError OutOfMemory = Unit {0}
IsReadError (Corruption at) = Unit {0}
IsReadError _ = ⊥

-- So it is too where the place that the table names wasn't reserved, which it was where it lies below that.
abbrev pub IsReadErrorUnless : Type 0 → Error → Type 0
IsReadErrorUnless Below (NotReserved at) = Below → ⊥
IsReadErrorUnless Below e = IsReadError e

-- The bound that stands in a log file, whatever that has.

-- bytes begin with this number
abbrev pub BeginsWith : List ℕ → ℕ → Type 0
BeginsWith bytes n = (front : List ℕ) × (rest : List ℕ) × SpellsNumber front n × (bytes ≡ front ++ rest)

-- A record that has its item stands at an offset, of the segment that has a place, and the item begins with this number.
pub record IsBoundAt (sum : List ℕ → ℕ) (size : ℕ) (file : List ℕ) (place : ℤ) (lid n : ℕ) : Type 0 where
  pub begins : IsNoPlace size place lid → ⊥
  pub header : MessageHeader
  pub item : List ℕ
  pub len : ℕ
  pub stands : StandsAt sum size file lid (unsigned_abs place / size) header item len
  pub inline : is_inline header.kind ≡ true
  pub spells : BeginsWith item n

-- a pointer names such a record,
abbrev pub IsBoundBy : (List ℕ → ℕ) → ℕ → List ℕ → ℤ → DiskPtr → ℕ → Type 0
IsBoundBy sum size file place (Inline lid) n = IsBoundAt sum size file place lid n
IsBoundBy sum size file place (Blob lid at) n = ⊥

-- the Replace of a page is one,
abbrev pub IsBoundIn : (List ℕ → ℕ) → ℕ → List ℕ → Page → ℕ → Type 0
IsBoundIn sum size file (Present base frags) n = IsBoundBy sum size file base.0 base.1 n
IsBoundIn sum size file (Free place pointer) n = ⊥
IsBoundIn sum size file Uninitialized n = ⊥

-- and the bound of a table is that of its first page, or 0 where it has none.
abbrev pub IsBoundRead : (List ℕ → ℕ) → ℕ → List ℕ → List Page → ℕ → Type 0
IsBoundRead sum size file [] n = n ≡ 0
IsBoundRead sum size file (page ∷ pages) n = IsBoundIn sum size file page n

-- The number is answered that is the bound, or damage where there is none.
abbrev pub AnswersBound : Result ℕ Error → (ℕ → Type 0) → Type 0
AnswersBound (Ok n) IsBound = IsBound n
AnswersBound (Err e) IsBound = IsCorrupt e → (n : ℕ) → IsBound n → ⊥

-- the item that was read with its record begins with a number
abbrev pub IsNumberIn : LogRead → ℕ → Type 0
IsNumberIn (read.Inline h item len) n = BeginsWith item.items n
IsNumberIn _ n = ⊥

-- the log file of a log
abbrev pub file_of : {D C : Type 0} → (D → Trace) → Log D C → List ℕ
file_of trace log = (state_of (trace (device_of log))).log.bytes

-- what a page has begins below a place
abbrev pub LiesBelow : ℕ → Page → Type 0
LiesBelow end (Present base frags) = base.0 <ℤ pos end
LiesBelow end _ = Unit {0}

-- what the first page of a table has does
abbrev pub FirstBelow : ℕ → List Page → Type 0
FirstBelow end [] = Unit {0}
FirstBelow end (page ∷ pages) = LiesBelow end page

-- Nothing was reserved in a log since it began: all that it has is on the device, and it keeps no failure.
pub record IsIdle {D C : Type 0} (log : Log D C) : Type 0 where
  pub reserved : reserved_end log ≡ synced_end log
  pub unsealed : NoneSealed log
  pub fault : fault_of log ≡ None

-- A log begins on a table of bounds below a cut, and has the records of that.
pub record HasTable {D C : Type 0} (trace : D → Trace) (sum : List ℕ → ℕ) (log : Log D C) (pages : List Page) (H : History) (cut : ℕ) : Type 0 where
  pub acknowledged : ℕ
  pub floor : ℕ
  pub unmarked : List Message
  pub fits : Fits trace sum log H acknowledged floor unmarked
  pub bounds : IsOfBounds H
  pub table : IsTable pages H cut
  pub stable : synced_end log ≡ cut

-- A message of a log's history of bounds is the last one below a cut, and its record is there.
pub record HoldsAt {D C : Type 0} (trace : D → Trace) (sum : List ℕ → ℕ) (log : Log D C) (H : History) (m : Message) (cut n : ℕ) : Type 0 where
  pub acknowledged : ℕ
  pub floor : ℕ
  pub unmarked : List Message
  pub fits : Fits trace sum log H acknowledged floor unmarked
  pub last : IsLastMessage H cut m n
  pub inline : IsInline m.pointer
  pub stable : synced_end log ≡ cut
  pub entry : Contains (table H cut m.page) m

-- a failure of the device was counted, and only that was
abbrev pub CountsFailure : {T : Type 0} → Result T Error → ℕ → ℕ → Type 0
CountsFailure (Ok v) before after = after ≡ before
CountsFailure (Err e) before after = CountsError e before after
