-- What a call of a device answers, and the event that it adds.
use Rattle.std.specs.Prelude.{◌≡◌, ◌⊎◌, ◌≤◌, ◌+◌, ◌%◌, ◌^◌, ℕ, Bool, true, false, if◌then◌else◌, List, ◌∷◌, length, Result, Ok, Err, IsTrue, Option, None, Some}
use Rattle.std.specs.Bool.{MatchBool}
use Rattle.std.specs.IoError.{error_kind}
use Rattle.std.specs.declared.io.Error.{Error}
use Rattle.std.specs.declared.io.ErrorKind.{ErrorKind}
use Rattle.std.specs.declared.io.ErrorKind.TheVariants.{OutOfMemory, NotFound, AlreadyExists}
use Rattle.sled_store.specs.Device.{Event, Trace, Wrote, Cut, Synced, BlobMade, BlobSynced, BlobRemoved, SnapshotFilled, SnapshotPublished, SnapshotRemoved}
use Rattle.sled_store.specs.Device.{NamesSynced, StopAsked, Crashed}

-- of the kinds of errors, those that are failures of the device
abbrev pub is_fault_kind : ErrorKind → Bool
is_fault_kind OutOfMemory = false
is_fault_kind NotFound = false
is_fault_kind AlreadyExists = false
is_fault_kind _ = true

-- The device failed. All other errors are refusals, which change nothing.
abbrev pub is_fault : Error → Bool
is_fault e = is_fault_kind (error_kind e)

-- the count of failures rises by one with each of them, and wraps
abbrev pub Counts : {T : Type 0} → Result T Error → ℕ → ℕ → Type 0
Counts (Ok _) old new = new ≡ old
Counts (Err e) old new = new ≡ (if is_fault e then (old + 1) % 2 ^ 64 else old)

-- an error is a failure of the device
abbrev pub Fails : {T : Type 0} → Result T Error → Type 0
Fails (Ok _) = Unit {0}
Fails (Err e) = IsTrue (is_fault e)

-- an error is a failure of the device, or is of this kind
abbrev pub FailsOr : {T : Type 0} → ErrorKind → Result T Error → Type 0
FailsOr kind (Ok _) = Unit {0}
FailsOr kind (Err e) = MatchBool (is_fault e) (Unit {0}) (error_kind e ≡ kind)

-- an error is a failure of the device, or it is of this kind and this is so
abbrev pub FailsOrSays : {T : Type 0} → ErrorKind → Type 0 → Result T Error → Type 0
FailsOrSays kind so (Ok _) = Unit {0}
FailsOrSays kind so (Err e) = MatchBool (is_fault e) (Unit {0}) ((error_kind e ≡ kind) × so)

-- an error is a failure of the device, or memory was wanted, or it is of this kind and this is so
abbrev pub FailsWantsOrSays : {T : Type 0} → ErrorKind → Type 0 → Result T Error → Type 0
FailsWantsOrSays kind so (Ok _) = Unit {0}
FailsWantsOrSays kind so (Err e) = MatchBool (is_fault e) (Unit {0}) ((error_kind e ≡ OutOfMemory) ⊎ ((error_kind e ≡ kind) × so))

-- the kind of the error, if it is one
abbrev pub kind_in : {T : Type 0} → Result T Error → Option ErrorKind
kind_in (Ok _) = None
kind_in (Err e) = Some (error_kind e)

-- What a failure may leave of a call, in place of its event. A write has any bytes in its range, as far as it came, and a cut any length
-- from the new one on; a name is made or removed, or not.
abbrev pub Tears : Event → Event → Type 0
Tears (Wrote at asked now) e = (torn : List ℕ) × (length torn ≤ length asked) × (e ≡ Wrote at asked torn)
Tears (Cut asked now) e = (torn : ℕ) × (asked ≤ torn) × (e ≡ Cut asked torn)
Tears (BlobMade place asked now done) e = (torn : List ℕ) × (made : Bool) × (e ≡ BlobMade place asked torn made)
Tears (BlobRemoved place done) e = (gone : Bool) × (e ≡ BlobRemoved place gone)
Tears (SnapshotFilled asked now) e = (torn : List ℕ) × (e ≡ SnapshotFilled asked torn)
Tears (SnapshotPublished number done) e = (made : Bool) × (e ≡ SnapshotPublished number made)
Tears (SnapshotRemoved number done) e = (gone : Bool) × (e ≡ SnapshotRemoved number gone)
Tears Synced e = ⊥
Tears (BlobSynced place) e = ⊥
Tears NamesSynced e = ⊥
Tears (StopAsked n) e = ⊥
Tears (Crashed left) e = ⊥

-- A call that succeeded added its event. A refusal added none, and a failure none or what it leaves of the call.
abbrev pub Does : {T : Type 0} → Event → Result T Error → Trace → Trace → Type 0
Does event (Ok _) old new = new ≡ event ∷ old
Does event (Err e) old new = (new ≡ old) ⊎ (IsTrue (is_fault e) × ((torn : Event) × Tears event torn × (new ≡ torn ∷ old)))
