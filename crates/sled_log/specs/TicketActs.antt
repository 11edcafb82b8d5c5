-- What the commands do to the device that keep places for messages and give these up: the blob of an item is made, or removed.
use Rattle.std.specs.Prelude.{◌≡◌, ◌⊎◌, true, ℕ, ℤ, pos, IsTrue, IsSome, List, [], length, slice_get, Option, None, Some}
use Rattle.std.specs.Bool.{MatchBool}
use Rattle.std.specs.declared.io.Error.{Error as IoError}
use Rattle.sled_codec.specs.declared.result.Error.TheVariants.{Io, OutOfMemory}
use Rattle.sled_codec.specs.declared.serialization.message.LogKind.{LogKind}
use Rattle.sled_codec.specs.declared.serialization.message.MessageKind.{MessageKind}
use Rattle.sled_codec.specs.History.{Message}
use Rattle.sled_codec.specs.Kinds.{code_of}
use Rattle.sled_store.specs.Answers.{is_fault}
use Rattle.sled_store.specs.Blobs.{blob_bytes, making}
use Rattle.sled_store.specs.Device.{Event}
use Rattle.sled_store.specs.Script.{Performs, after_all}
use Rattle.sled_core.specs.Fits.{in_blob}
use Rattle.sled_core.specs.Manifests.{kind_for}
use Rattle.sled_core.specs.OwnBlobs.{removing}
use Rattle.sled_log.specs.declared.session.command.Reply.{Reply}
use Rattle.sled_log.specs.declared.session.command.Reply.TheVariants as reply
use Rattle.sled_log.specs.RunStates.{DeviceView, LogView, body_length_in, target_in}
use Rattle.sled_log.specs.TicketSteps.{own_of}

-- These calls on a blob were made: all of them where the command did what it is for, those up to one that failed where the device did, and none where it
-- was refused.
abbrev pub BlobActs : List Event → Option IoError → DeviceView → Reply → DeviceView → Type 0
BlobActs es fault old (reply.Failed (Io e)) new =
    Performs es old.trace new.trace × (IsTrue (is_fault e) ⊎ (new.trace ≡ old.trace)) × (IsSome fault → new ≡ old)
BlobActs es fault old (reply.Failed OutOfMemory) new = (new.trace ≡ old.trace) × (new.failures ≡ old.failures)
BlobActs es fault old (reply.Failed e) new = new ≡ old
BlobActs es fault old r new = (new.trace ≡ after_all es old.trace) × (new.failures ≡ old.failures)

-- the calls that make the blob of a message of a kind under a place
abbrev pub making_for : (List ℕ → ℕ) → Option MessageKind → ℤ → List ℕ → List Event
making_for sum None place bytes = []
making_for sum (Some kind) place bytes = making place (blob_bytes sum (code_of kind) bytes)

-- A reservation makes the blob of an item that goes to one.
abbrev pub ReserveActs : (List ℕ → ℕ) → ℕ → LogView → LogKind → ℕ → List ℕ → DeviceView → Reply → DeviceView → Type 0
ReserveActs sum size l kind page bytes old r new =
    MatchBool (in_blob size (length bytes))
    (BlobActs (making_for sum (kind_for kind page true 8) (pos (target_in size l page (body_length_in size (length bytes))).place) bytes) l.status.fault old r new)
    (new ≡ old)

-- the blob that the reservation of a ticket made
abbrev pub own_by : Option (Option Message) → Option ℤ
own_by (Some (Some m)) = own_of m
own_by _ = None

-- What removes a blob, where there is one.
abbrev pub RemoveActs : Option ℤ → Option IoError → DeviceView → Reply → DeviceView → Type 0
RemoveActs None fault old r new = new ≡ old
RemoveActs (Some place) fault old r new = BlobActs (removing (Some place)) fault old r new

-- Where a message is given up, its own blob is removed.
abbrev pub AbortActs : ℕ → LogView → DeviceView → Reply → DeviceView → Type 0
AbortActs t l old r new = RemoveActs (own_by (slice_get l.tickets t)) l.status.fault old r new
