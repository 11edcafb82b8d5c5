-- What the commands come to that keep places for messages, complete these, give them up, and begin and end batches.
use Rattle.std.specs.Prelude.{◌≡◌, ◌⊎◌, ◌+◌, ◌-◌, ◌<◌, ◌==◌, ◌∷◌, ◌++◌, ℕ, ℤ, pos, set, if◌then◌else◌, true, List, [], length, slice_get, Option, None, Some}
use Rattle.std.specs.Prelude.{Err}
use Rattle.std.specs.Ordering.{int_eq}
use Rattle.std.specs.declared.io.Error.{Error as IoError}
use Rattle.sled_codec.specs.declared.result.DiskPtr.{DiskPtr}
use Rattle.sled_codec.specs.declared.result.DiskPtr.TheVariants.{Inline, Blob}
use Rattle.sled_codec.specs.declared.result.Error.{Error}
use Rattle.sled_codec.specs.declared.result.Error.TheVariants.{Held, Io, OutOfMemory, PlacesUsedUp}
use Rattle.sled_codec.specs.declared.serialization.message.LogKind.{LogKind}
use Rattle.sled_codec.specs.Spelling.{short_signed}
use Rattle.sled_codec.specs.History.{Batch, Batched, Completed, History, Message, Step}
use Rattle.sled_store.specs.Device.{state_of}
use Rattle.sled_core.specs.Buffers.{most_open}
use Rattle.sled_core.specs.Fits.{in_blob}
use Rattle.sled_core.specs.Logged.{in_log}
use Rattle.sled_core.specs.Manifests.{manifest_page}
use Rattle.sled_core.specs.OpenPlaces.{places_from}
use Rattle.sled_core.specs.OwnBlobs.{RemovedAnswers}
use Rattle.sled_core.specs.Positions.{Position}
use Rattle.sled_core.specs.Reserves.{MadeAnswers}
use Rattle.sled_core.specs.LogStatus.{failing, is_behind, noted_too, pinned, reserving_at}
use Rattle.sled_log.specs.declared.session.command.Reply.{Reply}
use Rattle.sled_log.specs.declared.session.command.Reply.TheVariants as reply
use Rattle.sled_log.specs.RunStates.{DeviceView, EndsInReach, LogView, RunState, body_length_in, made_ready, message_at, one_blob, page_now}
use Rattle.sled_log.specs.RunStates.{places_without, rewriting_at, target_in, with_status, with_log}
use Rattle.sled_log.specs.SessionMarks.{mark_for, marking, without_pin}

-- the place and the pointer that are answered are those of a message
abbrev pub IsAnswerFor : Message → ℤ → DiskPtr → Type 0
IsAnswerFor m place pointer = (place ≡ pos m.place) × (pointer ≡ m.pointer)

-- the log with a reservation for a message that begins at this position, which has a pin
abbrev pub reserving : ℕ → LogView → Position → Message → LogView
reserving size l q m = record (with_status l (pinned (reserving_at size q m.place m.size l.status))) { tickets = l.tickets ++ Some m ∷ [] }

-- the places of the open reservations of the buffer that a record would be of that begins at this position
abbrev pub opens_beside : LogView → Position → List ℕ
opens_beside l q = if is_behind l.status q then [] else places_from l.status.start.place l.status.opens

-- A place was kept for this message, under the next number.
pub record HasReserved (size : ℕ) (a : RunState) (l : LogView) (q : Position) (m : Message) (ticket : ℕ) (place : ℤ) (pointer : DiskPtr) (new : DeviceView)
    (b : RunState) : Type 0 where
  pub fault : l.status.fault ≡ None
  pub in_reach : EndsInReach size q
  pub few : length (opens_beside l q) < most_open
  pub number : ticket ≡ length l.tickets
  pub answer : IsAnswerFor m place pointer
  pub leads : b ≡ with_log a new (Some (reserving size l q m))

-- The buffer of the record has 127 open reservations, and this is the least place of them.
pub record IsFullOfOpen (l : LogView) (q : Position) (at : ℤ) : Type 0 where
  pub fault : l.status.fault ≡ None
  pub full : length (opens_beside l q) ≡ most_open
  pub least : ℕ
  pub others : List ℕ
  pub first : opens_beside l q ≡ least ∷ others
  pub is : at ≡ pos least

-- Why no place was kept for a record that begins at this position, with nothing done.
abbrev pub RefusedStep : ℕ → RunState → LogView → Position → Error → RunState → Type 0
RefusedStep size a l q (Io e) b = (l.status.fault ≡ Some e) × (b ≡ a)
RefusedStep size a l q OutOfMemory b = (l.status.fault ≡ None) × (b ≡ a)
RefusedStep size a l q PlacesUsedUp b = (l.status.fault ≡ None) × (EndsInReach size q → ⊥) × (b ≡ a)
RefusedStep size a l q (Held at) b = IsFullOfOpen l q at × (b ≡ a)
RefusedStep size a l q _ b = ⊥

-- a record that begins at this position has a place: its segment is in reach, and its buffer has fewer than 127 open reservations
abbrev pub HasRecordPlace : ℕ → LogView → Position → Error → Type 0
HasRecordPlace size l q OutOfMemory = Unit {0}
HasRecordPlace size l q _ = EndsInReach size q × (length (opens_beside l q) < most_open)

-- The blob of an item wasn't made: the device failed, and the log keeps that; or there was one of that name, or memory for it was refused, and it keeps
-- neither. It is ready for the record then, which it has none of.
pub record BlobRefused (size : ℕ) (a : RunState) (l : LogView) (q : Position) (e : Error) (new : DeviceView) (b : RunState) : Type 0 where
  pub fault : l.status.fault ≡ None
  pub room : HasRecordPlace size l q e
  pub kept : Option IoError
  pub cause : MadeAnswers {T = Unit {0}} (Err e) ((state_of a.device.trace).blobs.file (pos q.place)) kept a.device.failures new.failures
  pub leads : b ≡ with_log a new (Some (made_ready l q kept))

abbrev pub ReserveStep : ℕ → RunState → LogView → LogKind → ℕ → List ℕ → Reply → DeviceView → RunState → Type 0
ReserveStep size a l kind page bytes (reply.Reserved ticket place pointer) new b =
    HasReserved size a l (target_in size l page (body_length_in size (length bytes))) (message_at size l kind page bytes) ticket place pointer new b
ReserveStep size a l kind page bytes (reply.Failed e) new b =
    RefusedStep size a l (target_in size l page (body_length_in size (length bytes))) e b
    ⊎ ((in_blob size (length bytes) ≡ true) × BlobRefused size a l (target_in size l page (body_length_in size (length bytes))) e new b)
ReserveStep size a l kind page bytes _ new b = ⊥

-- A place was kept for a Replace of a page that is one Replace with its item in a blob: the item stays there.
pub record HasRewritten (size : ℕ) (a : RunState) (l : LogView) (page ticket : ℕ) (place : ℤ) (pointer : DiskPtr) (new : DeviceView)
    (b : RunState) : Type 0 where
  pub message : Message
  pub is : page_now a.history page ≡ message ∷ []
  pub blob : ℤ
  pub there : one_blob (message ∷ []) ≡ Some blob
  pub reserved : HasReserved size a l (target_in size l page 8) (rewriting_at size l page blob message.bytes) ticket place pointer new b

abbrev pub RewriteStep : ℕ → RunState → LogView → ℕ → Reply → DeviceView → RunState → Type 0
RewriteStep size a l page (reply.Reserved ticket place pointer) new b = HasRewritten size a l page ticket place pointer new b
RewriteStep size a l page (reply.Failed e) new b = RefusedStep size a l (target_in size l page 8) e b
RewriteStep size a l page _ new b = ⊥

-- the log with a ticket spent, with reservations open at these places, and this many pages begun
abbrev pub spent : LogView → ℕ → List ℕ → ℕ → LogView
spent l t places begun = record l { status = record l.status { opens = places }; begun = begun; tickets = set l.tickets t None }

-- the log with this failure kept
abbrev pub keeping : IoError → LogView → LogView
keeping e l = record l { status = failing (Some e) l.status }

-- The message of an open reservation comes to the history. Where it is the first of its page, that is begun. It is marked at once, and its pin goes back; or
-- memory for the mark is refused, and it is due, and the pin stays out.
pub record HasCompleted (size : ℕ) (a : RunState) (l : LogView) (t : ℕ) (place : ℤ) (pointer : DiskPtr) (new : DeviceView) (b : RunState) : Type 0 where
  pub message : Message
  pub reserved : slice_get l.tickets t ≡ Some (Some message)
  pub fault : l.status.fault ≡ None
  pub answer : IsAnswerFor message place pointer
  pub history : History
  pub step : Step a.history (Completed message) history
  -- the log, but for the mark
  pub log : LogView
  pub is : log ≡ spent l t (places_without message.place l.status.opens) (if message.page == l.begun then l.begun + 1 else l.begun)
  pub leads : (b ≡ record a { device = new; history = history; log = Some (marking size (mark_for size a.floor a.history message) log) })
      ⊎ (b ≡ record a { device = new; history = history; log = Some log; due = Some (mark_for size a.floor a.history message) })

-- Without memory for it nothing is done. Where the log keeps a failure the ticket is spent, with its pin, and the reservation stays open.
abbrev pub CompleteStep : ℕ → RunState → LogView → ℕ → Reply → DeviceView → RunState → Type 0
CompleteStep size a l t (reply.Done place pointer) new b = HasCompleted size a l t place pointer new b
CompleteStep size a l t (reply.Failed (Io e)) new b = (l.status.fault ≡ Some e) × (b ≡ with_log a new (Some (without_pin (spent l t l.status.opens l.begun))))
CompleteStep size a l t (reply.Failed OutOfMemory) new b = (l.status.fault ≡ None) × (b ≡ a)
CompleteStep size a l t _ new b = ⊥

-- the log once this message was given up
abbrev pub giving_up : Message → LogView → LogView
giving_up m l = record l { given_up = in_log m ∷ l.given_up }

-- The message of an open reservation is given up.
pub record HasAborted (a : RunState) (l : LogView) (t : ℕ) (place : ℤ) (pointer : DiskPtr) (new : DeviceView) (b : RunState) : Type 0 where
  pub message : Message
  pub reserved : slice_get l.tickets t ≡ Some (Some message)
  pub fault : l.status.fault ≡ None
  pub answer : IsAnswerFor message place pointer
  pub leads : b ≡ with_log a new (Some (giving_up message (without_pin (spent l t (places_without message.place l.status.opens) l.begun))))

-- the blob that the reservation of a session's message made, which lies at a place: its name is that place, while the item of a rewritten one stays in the
-- blob of an earlier message
abbrev pub own_in : ℤ → DiskPtr → Option ℤ
own_in place (Inline lid) = None
own_in place (Blob lid blob) = if int_eq blob place then Some blob else None

abbrev pub own_of : Message → Option ℤ
own_of m = own_in (pos m.place) m.pointer

-- Its ticket is spent, with its pin, and the reservation stays open: the log kept a failure, or the device failed to remove the message's own blob, and the log
-- keeps that.
pub record AbortFails (a : RunState) (l : LogView) (t : ℕ) (e : IoError) (new : DeviceView) (b : RunState) : Type 0 where
  pub message : Message
  pub reserved : slice_get l.tickets t ≡ Some (Some message)
  pub cause : RemovedAnswers {T = Unit {0}} (Err (Io e)) (own_of message) l.status.fault (Some e) a.device.failures new.failures
  pub leads : b ≡ with_log a new (Some (keeping e (without_pin (spent l t l.status.opens l.begun))))

abbrev pub AbortStep : RunState → LogView → ℕ → Reply → DeviceView → RunState → Type 0
AbortStep a l t (reply.Done place pointer) new b = HasAborted a l t place pointer new b
AbortStep a l t (reply.Failed (Io e)) new b = AbortFails a l t e new b
AbortStep a l t _ new b = ⊥

-- the item of a manifest that is reserved, whose peg isn't known yet
abbrev pub blank_manifest : List ℕ
blank_manifest = short_signed (pos 0)

-- The open ticket of a manifest.
pub record HasBegun (l : LogView) : Type 0 where
  pub ticket : ℕ
  pub message : Message
  pub reserved : slice_get l.tickets ticket ≡ Some (Some message)
  pub manifest : message.page ≡ manifest_page

-- its batch ends with the greatest place that was reserved
abbrev pub batch_ended_by : LogView → Message → Batch
batch_ended_by l m = record { low = m.place; peg = l.status.reserved - 1 }

-- the log with one more batch noted, by place
abbrev pub noting : Batch → LogView → LogView
noting batch l = record l { status = noted_too batch l.status }

-- A batch that was begun comes to the history, and is noted.
pub record HasEndedBatch (a : RunState) (l : LogView) (place : ℤ) (pointer : DiskPtr) (new : DeviceView) (b : RunState) : Type 0 where
  pub begun : HasBegun l
  pub fault : l.status.fault ≡ None
  pub answer : IsAnswerFor begun.message place pointer
  pub history : History
  pub step : Step a.history (Batched (batch_ended_by l begun.message)) history
  pub leads : b ≡ record a {
    device = new;
    history = history;
    log = Some (noting (batch_ended_by l begun.message) (without_pin (spent l begun.ticket (places_without begun.message.place l.status.opens) l.begun)));
  }

-- Where the log keeps a failure its ticket is spent, with its pin, and the reservation stays open.
abbrev pub EndStep : RunState → LogView → Reply → DeviceView → RunState → Type 0
EndStep a l (reply.Done place pointer) new b = HasEndedBatch a l place pointer new b
EndStep a l (reply.Failed (Io e)) new b =
    (l.status.fault ≡ Some e) × ((begun : HasBegun l) × (b ≡ with_log a new (Some (without_pin (spent l begun.ticket l.status.opens l.begun)))))
EndStep a l _ new b = ⊥
