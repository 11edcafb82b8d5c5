-- What a reservation does to the log and to its device, by whether the item goes to a blob.
use Rattle.std.specs.Prelude.{◌≡◌, ◌⊎◌, ◌+◌, ◌%◌, ◌^◌, ℕ, ℤ, pos, Bool, true, false, IsTrue, List, Option, None, Some, IsSome}
use Rattle.std.specs.Prelude.{Result, Ok, Err, IfOk, OnOk}
use Rattle.std.specs.declared.io.Error.{Error as IoError}
use Rattle.std.specs.declared.io.ErrorKind.TheVariants.{AlreadyExists}
use Rattle.std.specs.IoError.{error_kind}
use Rattle.sled_codec.specs.declared.result.Error.{Error}
use Rattle.sled_codec.specs.declared.result.Error.TheVariants.{Io, OutOfMemory}
use Rattle.sled_codec.specs.declared.serialization.message.LogKind.{LogKind}
use Rattle.sled_codec.specs.declared.serialization.message.MessageKind.{MessageKind}
use Rattle.sled_codec.specs.Kinds.{code_of}
use Rattle.sled_store.specs.Answers.{is_fault}
use Rattle.sled_store.specs.Blobs.{UnlessFault, blob_bytes, making}
use Rattle.sled_store.specs.Device.{Trace, state_of}
use Rattle.sled_store.specs.Script.{Performs, after_all}
use Rattle.sled_core.specs.declared.logger.Log.{Log}
use Rattle.sled_core.specs.Causes.{ReserveAnswers, ReserveCauses}
use Rattle.sled_core.specs.Fits.{Awaits, IsLeastOpen, IsUnchanged, IsUsedUpFor, blob_at, config_of, device_of, fault_of, given_up_of, message_as, open_for}
use Rattle.sled_core.specs.Fits.{segment_size_of}
use Rattle.sled_core.specs.Fits.{pooled_behind, pooled_of}
use Rattle.sled_core.specs.Fits.{size_for, target_of, waiting_behind}
use Rattle.sled_core.specs.Among.{AreAmong}
use Rattle.sled_core.specs.Keeps.{KeepsSeen, Preserves}
use Rattle.sled_core.specs.LogStatus.{LeavesStatus, reserving_at, status_of}
use Rattle.sled_core.specs.Manifests.{is_manifest, kind_for}
use Rattle.sled_core.specs.Marked.{BeginsMarked}
use Rattle.sled_core.specs.Prepared.{IsMadeReady}
use Rattle.sled_core.specs.Running.{IsStored}
use Rattle.sled_core.specs.Tickets.{is_manifest_of, own_blob}
use Rattle.sled_core.specs.declared.reservation.Reservation.{Reservation}
use Rattle.sled_codec.specs.History.{Message}

-- A blob is made for a message of a kind, where it has one: at this place, with this item, its bytes are synced and then its name. A refusal leaves the
-- device as it was.
pub record MakesBlob {T D C : Type 0} (trace : D → Trace) (sum : List ℕ → ℕ) (result : Result T Error) (kind : Option MessageKind) (place : ℤ) (item : List ℕ)
    (old new : Log D C) : Type 0 where
  pub calls : (k : MessageKind) → kind ≡ Some k → Performs (making place (blob_bytes sum (code_of k) item)) (trace (device_of old)) (trace (device_of new))
  pub done : (k : MessageKind) → kind ≡ Some k
      → OnOk result (trace (device_of new) ≡ after_all (making place (blob_bytes sum (code_of k) item)) (trace (device_of old)))
  pub refused : UnlessFault result (trace (device_of old)) (trace (device_of new))

-- Why a blob was not made, and what the log keeps of that: a failure of the device alone.
abbrev pub MadeAnswers : {T : Type 0} → Result T Error → Option (List ℕ) → Option IoError → ℕ → ℕ → Type 0
MadeAnswers (Ok _) file new before after = (new ≡ None) × (file ≡ None) × (after ≡ before)
MadeAnswers (Err (Io e)) file new before after =
    ((new ≡ Some e) × IsTrue (is_fault e) × (after ≡ (before + 1) % 2 ^ 64))
    ⊎ ((new ≡ None) × (error_kind e ≡ AlreadyExists) × IsSome file × (after ≡ before))
MadeAnswers (Err OutOfMemory) file new before after = (new ≡ None) × (after ≡ before)
MadeAnswers (Err _) file new before after = ⊥

-- A reservation makes the blob of an item that goes to one; else it leaves the device alone.
abbrev pub TouchesBlob : {T D C : Type 0} → (D → Trace) → (List ℕ → ℕ) → Result T Error → Bool → Option MessageKind → ℤ → List ℕ → Log D C → Log D C → Type 0
TouchesBlob trace sum result false kind place item old new = config_of new ≡ config_of old
TouchesBlob trace sum result true kind place item old new = MakesBlob trace sum result kind place item old new

-- What a refusal leaves of a log: it is as it was; where the item goes to a blob and that was refused, or memory for it, a further segment may have been
-- begun. A failure of the device left it so only where the log kept that before.
abbrev pub RefusalLeaves : {T D C : Type 0} → (List ℕ → ℕ) → Result T Error → Bool → Log D C → Log D C → ℕ → ℕ → Type 0
RefusalLeaves sum (Ok _) in_blob old new page n = Unit {0}
RefusalLeaves sum (Err (Io e)) in_blob old new page n =
    ((fault_of old ≡ Some e) × IsUnchanged old new) ⊎ ((in_blob ≡ true) × (fault_of old ≡ None) × IsMadeReady sum old new page n)
RefusalLeaves sum (Err OutOfMemory) in_blob old new page n = IsUnchanged old new ⊎ ((in_blob ≡ true) × IsMadeReady sum old new page n)
RefusalLeaves sum (Err _) in_blob old new page n = IsUnchanged old new

-- what a reservation of a log finds for a message of a page whose item goes to a blob or not, with a body of n bytes in its record
abbrev pub reserve_causes : {D C : Type 0} → (D → Trace) → (D → ℕ) → LogKind → ℕ → Bool → ℕ → Log D C → Log D C → ReserveCauses
reserve_causes trace faults kind page blob n old new = record {
  old = fault_of old;
  new = fault_of new;
  kind = kind_for kind page blob n;
  open_count = open_for old page n;
  in_blob = blob;
  file = (state_of (trace (device_of old))).blobs.file (pos (target_of old page n).place);
  before = faults (device_of old);
  after = faults (device_of new);
}

-- A log has a reservation of a page's record with a body of n bytes, behind all that it had: what is reserved ends with that record, whose place comes last
-- among the open ones; what counts as given up was given up before. Where it had no room in the current segment, that is sealed, and a further one begins
-- with it, whose header has the last stable place for its mark.
pub record StandsBehind {D C : Type 0} (sum : List ℕ → ℕ) (old new : Log D C) (page n : ℕ) : Type 0 where
  pub stands : let q = target_of old page n in
      LeavesStatus (waiting_behind sum old page n) (reserving_at (segment_size_of old) q q.place (size_for old page n) (status_of old)) new
  pub given_up : AreAmong (given_up_of new) (given_up_of old)
  pub pooled : pooled_of new ≡ pooled_behind old page n
  pub marked : BeginsMarked sum old new

-- What a reservation comes to, by whether the item goes to a blob, and how long the body of its record is.
pub record ReservesAs {D C : Type 0} (trace : D → Trace) (faults : D → ℕ) (sum : List ℕ → ℕ) (result : Result Reservation Error) (kind : LogKind) (page : ℕ)
    (item : List ℕ) (blob : Bool) (n : ℕ) (old new : Log D C) : Type 0 where
  pub ticket : IfOk result (λ ticket. Awaits new ticket (message_as old kind page blob n item))
  pub stored : OnOk result (IsStored trace sum new (message_as old kind page blob n item))
  pub manifest : IfOk result (λ ticket. is_manifest_of ticket ≡ is_manifest kind page)
  -- the blob that it made, where it made one
  pub own : IfOk result (λ ticket. own_blob ticket ≡ blob_at blob (target_of old page n).place)
  pub behind : OnOk result (StandsBehind sum old new page n)
  pub others : (ticket : Reservation) (m : Message) → Awaits old ticket m → Awaits new ticket m
  pub answers : ReserveAnswers result (IsUsedUpFor old page n) (IsLeastOpen old) (reserve_causes trace faults kind page blob n old new)
  pub device : TouchesBlob trace sum result blob (kind_for kind page true 8) (pos (target_of old page n).place) item old new
  pub keeps : Preserves trace sum old new
  pub seen : KeepsSeen old new
  pub left : RefusalLeaves sum result blob old new page n
