-- The invariant of a running log, and what a recovery leaves for it: over a history, the end of what was acknowledged, the floor, and the completed
-- messages that were not marked yet.
use Rattle.std.specs.Prelude.{◌+◌, nat_lt, max, if◌then◌else◌, ℕ, List, [], ◌∷◌, Option}
use Rattle.sled_codec.specs.declared.result.DiskPtr.{DiskPtr}
use Rattle.sled_codec.specs.declared.result.DiskPtr.TheVariants.{Inline, Blob}
use Rattle.sled_codec.specs.History.{Message, Batch, History}
use Rattle.sled_store.specs.Device.{Trace, NamesState, LeavesName, state_of}
use Rattle.sled_core.specs.declared.logger.Log.{Log}
use Rattle.sled_core.specs.Good.{HasOwnBlob}
use Rattle.sled_core.specs.Reading.{BlobIsBelow}

-- whatever a crash leaves of the blob that a message names, if any, it has the item
abbrev pub KeepsItem : (List ℕ → ℕ) → NamesState → Message → DiskPtr → Type 0
KeepsItem sum blobs m (Inline lid) = Unit {0}
KeepsItem sum blobs m (Blob lid place) = (left : Option (List ℕ)) → LeavesName blobs place left → HasOwnBlob sum left m

-- The greatest end of messages that begin below a place, and of batches.

abbrev pub last_message : ℕ → List Message → ℕ
last_message place [] = 0
last_message place (m ∷ ms) = if nat_lt m.place place then max (m.place + m.size) (last_message place ms) else last_message place ms

abbrev pub last_batch : ℕ → List Batch → ℕ
last_batch place [] = 0
last_batch place (b ∷ bs) = if nat_lt b.low place then max (max b.low b.peg + 1) (last_batch place bs) else last_batch place bs

-- What is acknowledged of a history once all below a place is durable. (Behind its last record what fills a segment may be durable too, which a recovery
-- doesn't count.)
abbrev pub end_below : ℕ → History → ℕ
end_below place H = max (last_message place H.messages) (last_batch place H.batches)

-- The blob of a message, if it has one, was made no later than its record, and whatever a crash leaves of it, it has the item.
pub record IsStored {D C : Type 0} (trace : D → Trace) (sum : List ℕ → ℕ) (log : Log D C) (m : Message) : Type 0 where
  pub below : BlobIsBelow m m.pointer
  pub item : KeepsItem sum (state_of (trace log.config.device)).blobs m m.pointer
