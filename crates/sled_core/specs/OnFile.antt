-- Which messages of a history an iterator of a log gives.
use Rattle.std.specs.Prelude.{◌≡◌, ◌↔◌, ◌*◌, ◌/◌, ◌≤◌, ◌<◌, ℕ, ℤ, pos, true, false, is_some, List, Option, Contains}
use Rattle.sled_codec.specs.declared.result.DiskPtr.{DiskPtr}
use Rattle.sled_codec.specs.declared.result.DiskPtr.TheVariants.{Inline, Blob}
use Rattle.sled_codec.specs.History.{Message, History}
use Rattle.sled_codec.specs.WellFormed.{LieApart}
use Rattle.sled_store.specs.SegmentStates.{Machine, is_free, slot_at}
use Rattle.sled_core.specs.Iterates.{Item}

-- a slot that isn't free has the segment that begins at a place
abbrev pub HasSegment : Machine → ℕ → Type 0
HasSegment m place = (k : ℕ) × (is_free (slot_at m k).state ≡ false) × ((slot_at m k).lsn ≡ place)

-- the blob that a message names, if any, is there
abbrev pub HasBlobThere : (ℤ → Option (List ℕ)) → DiskPtr → Type 0
HasBlobThere blobs (Inline lid) = Unit {0}
HasBlobThere blobs (Blob lid place) = is_some (blobs place) ≡ true

-- a message as an iterator gives it
abbrev pub item_of : Message → Item
item_of n = (n.kind, n.page, pos n.place, n.pointer, n.size)

-- The messages of a history from one place on and below another whose segment a slot has, and whose blob, if any, is there; by place.
pub record AreOnFile (size : ℕ) (m : Machine) (blobs : ℤ → Option (List ℕ)) (H : History) (from to : ℕ) (ms : List Message) : Type 0 where
  pub apart : LieApart ms
  pub are : (n : Message)
      → Contains ms n ↔ (Contains H.messages n × (from ≤ n.place) × (n.place < to) × HasSegment m (n.place / size * size) × HasBlobThere blobs n.pointer)
