-- What a command does that calls a log which is open, whatever the device has: what it is answered, why, and which calls of the device it makes. Of what the
-- log holds nothing is told here.
use Rattle.std.specs.Prelude.{◌≡◌, ◌⊎◌, ◌+◌, ◌%◌, ◌^◌, ◌++◌, true, ℕ, ℤ, IsTrue, List, length, Option, None, Some, Result, Ok, Err, Vec}
use Rattle.std.specs.Bool.{MatchBool}
use Rattle.std.specs.List.{All}
use Rattle.std.specs.IoError.{error_kind}
use Rattle.std.specs.declared.alloc.Global.{Global}
use Rattle.std.specs.declared.io.Error.{Error as IoError}
use Rattle.std.specs.declared.io.ErrorKind.TheVariants.{AlreadyExists, NotFound}
use Rattle.sled_codec.specs.declared.result.DiskPtr.{DiskPtr}
use Rattle.sled_codec.specs.declared.result.Error.{Error}
use Rattle.sled_codec.specs.declared.result.Error.TheVariants.{Io}
use Rattle.sled_codec.specs.declared.serialization.message.LogKind.{LogKind}
use Rattle.sled_codec.specs.declared.serialization.message.LogKind.TheVariants as does
use Rattle.sled_codec.specs.Spelling.{short_bytes}
use Rattle.sled_store.specs.Answers.{is_fault}
use Rattle.sled_store.specs.Device.{BlobRemoved, Cut, Event, Synced, Trace, Wrote, state_of}
use Rattle.sled_store.specs.Moments.{IsLater}
use Rattle.sled_core.specs.declared.logger.Log.{Log}
use Rattle.sled_core.specs.declared.logger.read_message.LogRead.{LogRead}
use Rattle.sled_core.specs.Fits.{device_of, fault_of, in_blob, segment_size_of}
use Rattle.sled_core.specs.Manifests.{kind_for}
use Rattle.sled_core.specs.Reading.{data_of}
use Rattle.sled_core.specs.ReadPointer.{IsReadOf}
use Rattle.sled_log.specs.declared.session.command.Command.{Command}
use Rattle.sled_log.specs.declared.session.command.Command.TheVariants as command
use Rattle.sled_log.specs.declared.session.command.Reply.{Reply}
use Rattle.sled_log.specs.declared.session.command.Reply.TheVariants as reply
use Rattle.sled_log.specs.RunStates.{DeviceView}
use Rattle.sled_log.specs.TicketActs.{BlobActs, RemoveActs, making_for}

-- A reply has the shape of one to a command.
abbrev pub IsReplyTo : Command → Reply → Type 0
IsReplyTo c (reply.Failed e) = Unit {0}
IsReplyTo c (reply.Refused w) = Unit {0}
IsReplyTo (command.Replace page item) (reply.Reserved number place pointer) = Unit {0}
IsReplyTo (command.Link page item) (reply.Reserved number place pointer) = Unit {0}
IsReplyTo (command.Free page) (reply.Reserved number place pointer) = Unit {0}
IsReplyTo (command.Rewrite page) (reply.Reserved number place pointer) = Unit {0}
IsReplyTo command.BeginBatch (reply.Reserved number place pointer) = Unit {0}
IsReplyTo command.EndBatch (reply.Done place pointer) = Unit {0}
IsReplyTo (command.Complete t) (reply.Done place pointer) = Unit {0}
IsReplyTo (command.Abort t) (reply.Done place pointer) = Unit {0}
IsReplyTo (command.Write i) reply.Written = Unit {0}
IsReplyTo command.Flush (reply.Flushed n) = Unit {0}
IsReplyTo (command.Stable place) (reply.Flushed n) = Unit {0}
IsReplyTo (command.Read page) (reply.Page items) = Unit {0}
IsReplyTo (command.Read page) reply.FreePage = Unit {0}
IsReplyTo c r = ⊥

-- An error that a command answers is no failure of the device: there is a blob already of the name of one that is to be made, or none of the name of one that
-- is to be read.
abbrev pub IsBlobError : Command → IoError → Type 0
IsBlobError (command.Replace page item) e = error_kind e ≡ AlreadyExists
IsBlobError (command.Link page item) e = error_kind e ≡ AlreadyExists
IsBlobError (command.Read page) e = error_kind e ≡ NotFound
IsBlobError c e = ⊥

-- Why a reply is given, where such errors are no failures of the device: one that fails with an error of the device does so where the device failed in this
-- command, which is counted; or else nothing was done, as where the log keeps a failure of an earlier command; or for such an error. Behind each other reply as
-- many failures of the device are counted as before.
abbrev pub IsCausedBy : (IoError → Type 0) → Reply → DeviceView → DeviceView → Type 0
IsCausedBy Beside (reply.Failed (Io e)) old new =
    (IsTrue (is_fault e) × (new.failures ≡ (old.failures + 1) % 2 ^ 64)) ⊎ (new ≡ old) ⊎ (Beside e × (new.failures ≡ old.failures))
IsCausedBy Beside r old new = new.failures ≡ old.failures

-- The blob of an item that goes to one was made, under some place, or the calls for it were made up to one that failed. Where the item goes to none the
-- device is left alone.
abbrev pub MakesSomeBlob : (List ℕ → ℕ) → ℕ → LogKind → ℕ → List ℕ → Reply → DeviceView → DeviceView → Type 0
MakesSomeBlob sum size kind page bytes r old new =
    MatchBool (in_blob size (length bytes)) ((place : ℤ) × BlobActs (making_for sum (kind_for kind page true 8) place bytes) None old r new) (new ≡ old)

-- an event of the writing of buffers: a write to the log file or a sync of it; or the removal of a blob or a cut of the file, behind a write
abbrev pub IsWriting : Event → Type 0
IsWriting (Wrote at asked now) = Unit {0}
IsWriting Synced = Unit {0}
IsWriting (BlobRemoved place done) = Unit {0}
IsWriting (Cut asked now) = Unit {0}
IsWriting e = ⊥

-- only such events were added to a trace
abbrev pub OnlyWrites : Trace → Trace → Type 0
OnlyWrites old new = (es : List Event) × (new ≡ es ++ old) × All IsWriting es

-- An item was read for a page, at some moment from one trace to another: it is that of a record of the log file, or of a blob, which is whole and passes its
-- checksum.
pub record ItemWasRead (sum : List ℕ → ℕ) (size page : ℕ) (old new : Trace) (item : List ℕ) : Type 0 where
  pub moment : Trace
  pub behind : IsLater old moment
  pub before : IsLater moment new
  pub number : ℕ
  pub pointer : DiskPtr
  pub read : LogRead
  pub is : IsReadOf sum size (state_of moment) page number pointer read
  pub item_is : data_of read ≡ Some item

-- What a command asks of the device: nothing where it is refused, and nothing else than what is for it.
abbrev pub LogCalls : (List ℕ → ℕ) → ℕ → Command → Reply → DeviceView → DeviceView → Type 0
LogCalls sum size c (reply.Refused w) old new = new ≡ old
LogCalls sum size (command.Replace page item) r old new = MakesSomeBlob sum size does.Replace page (short_bytes item.items) r old new
LogCalls sum size (command.Link page item) r old new = MakesSomeBlob sum size does.Link page (short_bytes item.items) r old new
LogCalls sum size (command.Abort t) r old new = (blob : Option ℤ) × RemoveActs blob None old r new
LogCalls sum size (command.Write i) r old new = OnlyWrites old.trace new.trace
LogCalls sum size command.Flush r old new = OnlyWrites old.trace new.trace
LogCalls sum size (command.Stable place) r old new = OnlyWrites old.trace new.trace
LogCalls sum size (command.Read page) (reply.Page items) old new =
    OnlyWrites old.trace new.trace × All (λ item. ItemWasRead sum size page old.trace new.trace item.items) items.items
LogCalls sum size (command.Read page) (reply.Failed e) old new = OnlyWrites old.trace new.trace
LogCalls sum size c r old new = new ≡ old

-- What a command does of which a log is asked that is open.
pub record LogActs (sum : List ℕ → ℕ) (size : ℕ) (c : Command) (r : Reply) (old new : DeviceView) : Type 0 where
  pub shape : IsReplyTo c r
  pub cause : IsCausedBy (IsBlobError c) r old new
  pub calls : LogCalls sum size c r old new
  pub later : IsLater old.trace new.trace

-- So it is from one log to another.
abbrev pub ActsOver : {D C : Type 0} → (D → DeviceView) → (List ℕ → ℕ) → Log D C → Command → Reply → Log D C → Type 0
ActsOver view sum old c r new = LogActs sum (segment_size_of old) c r (view (device_of old)) (view (device_of new))

-- a place was kept, or that failed
abbrev pub IsPlaceReply : Reply → Type 0
IsPlaceReply (reply.Reserved number place pointer) = Unit {0}
IsPlaceReply (reply.Failed e) = Unit {0}
IsPlaceReply r = ⊥

-- What keeping a place for a message of this kind and page, with this item, does to the device.
pub record KeepsPlaceBy (sum : List ℕ → ℕ) (size : ℕ) (kind : LogKind) (page : ℕ) (bytes : List ℕ) (r : Reply) (old new : DeviceView) : Type 0 where
  pub shape : IsPlaceReply r
  pub cause : IsCausedBy (λ e. (in_blob size (length bytes) ≡ true) × (error_kind e ≡ AlreadyExists)) r old new
  pub calls : MakesSomeBlob sum size kind page bytes r old new
  pub later : IsLater old.trace new.trace

abbrev pub KeepsPlaceOver : {D C : Type 0} → (D → DeviceView) → (List ℕ → ℕ) → Log D C → LogKind → ℕ → List ℕ → Reply → Log D C → Type 0
KeepsPlaceOver view sum old kind page bytes r new =
    KeepsPlaceBy sum (segment_size_of old) kind page bytes r (view (device_of old)) (view (device_of new))

-- What the reading of one item does to the device.
abbrev pub ReadsItemOver : {D C : Type 0} → (D → DeviceView) → (List ℕ → ℕ) → Log D C → ℕ → Log D C → Result (Vec ℕ Global) Error → Type 0
ReadsItemOver view sum old page new (Ok item) =
    let before = view (device_of old) in let now = view (device_of new) in
    (fault_of new ≡ None) × (now.failures ≡ before.failures) × OnlyWrites before.trace now.trace
    × ItemWasRead sum (segment_size_of old) page before.trace now.trace item.items
ReadsItemOver view sum old page new (Err (Io e)) =
    let before = view (device_of old) in let now = view (device_of new) in
    (fault_of old ≡ None
    → (IsTrue (is_fault e) × (now.failures ≡ (before.failures + 1) % 2 ^ 64)) ⊎ ((error_kind e ≡ NotFound) × (now.failures ≡ before.failures)))
    × OnlyWrites before.trace now.trace
ReadsItemOver view sum old page new (Err e) =
    let before = view (device_of old) in let now = view (device_of new) in (now.failures ≡ before.failures) × OnlyWrites before.trace now.trace

-- Some items were read of a log that keeps no failure.
pub record ReadsSomeOver {D C : Type 0} (view : D → DeviceView) (sum : List ℕ → ℕ) (old : Log D C) (page : ℕ) (new : Log D C)
    (items : List (Vec ℕ Global)) : Type 0 where
  pub sound : fault_of new ≡ None
  pub size : segment_size_of new ≡ segment_size_of old
  pub failures : (view (device_of new)).failures ≡ (view (device_of old)).failures
  pub writes : OnlyWrites (view (device_of old)).trace (view (device_of new)).trace
  pub read : All (λ item. ItemWasRead sum (segment_size_of old) page (view (device_of old)).trace (view (device_of new)).trace item.items) items

-- What the reading of all items of a page does to the device.
abbrev pub ReadsEntriesOver : {D C : Type 0} → (D → DeviceView) → (List ℕ → ℕ) → Log D C → ℕ → Log D C → Result (Vec (Vec ℕ Global) Global) Error → Type 0
ReadsEntriesOver view sum old page new (Ok items) = ReadsSomeOver view sum old page new items.items
ReadsEntriesOver view sum old page new (Err e) =
    IsCausedBy (λ x. error_kind x ≡ NotFound) (reply.Failed e) (view (device_of old)) (view (device_of new))
    × OnlyWrites (view (device_of old)).trace (view (device_of new)).trace
