-- What proofs, and functions that no user calls, need beside `specs/Outdated.antt`: an unmarked message lies in an active segment. No public contract names it.
use Rattle.std.specs.Prelude.{◌≡◌, ◌*◌, ◌/◌, ℕ, ℤ, true, List, Contains}
use Rattle.sled_codec.specs.History.{Message}
use Rattle.sled_store.specs.Marks.{slot_with}
use Rattle.sled_store.specs.Outdated.{NamesBlob}
use Rattle.sled_store.specs.SegmentStates.{Machine, is_active, slot_at}

-- no slot has a blob of this message among those that go
abbrev pub NamesNoOutdated : Machine → Message → Type 0
NamesNoOutdated m e = (k : ℕ) (blob : ℤ) → Contains (slot_at m k).blobs blob → NamesBlob e blob → ⊥

-- the segment of a message is active, in its slot
pub record IsInActive (size : ℕ) (m : Machine) (e : Message) : Type 0 where
  pub active : is_active (slot_at m (slot_with size e)).state ≡ true
  pub lsn : (slot_at m (slot_with size e)).lsn ≡ e.place / size * size

-- so it is with each of these messages
abbrev pub AreInActive : ℕ → Machine → List Message → Type 0
AreInActive size m messages = (e : Message) → Contains messages e → IsInActive size m e
