-- What proofs, and functions that no user calls, need beside `specs/Accounts.antt`. No public contract names it.
use Rattle.std.specs.Prelude.{◌≡◌, ◌⊎◌, ◌≤◌, ◌<◌, ◌+◌, ℕ, false, IsTrue, length, slice_index_or}
use Rattle.sled_store.specs.SegmentStates.{Machine, is_free, slot_at, has_page}
use Rattle.sled_store.specs.declared.segment.slot.Slot.{Slot}
use Rattle.sled_store.specs.declared.segment.accountant.SegmentAccountant.{SegmentAccountant}

-- a page may be linked without taking memory
pub record HasRoomToLink (s : Slot) : Type 0 where
  pub pages : length s.pages.0 < s.pages.1
  pub left : length s.pages.0 + 1 ≤ s.left.1

-- a page may be noted as replaced without taking memory
abbrev pub HasRoomForGone : ℕ → Slot → Type 0
HasRoomForGone pid s = IsTrue (has_page s.gone.0 pid) ⊎ (length s.gone.0 < s.gone.1)

-- a page may be noted as replaced in a slot
abbrev pub GoneFits : ℕ → SegmentAccountant → ℕ → Type 0
GoneFits pid a k = (d : Slot) → HasRoomForGone pid (slice_index_or a.slots.items k d)

-- this many blobs may be noted without taking memory
abbrev pub HasRoomForBlobs : ℕ → Slot → Type 0
HasRoomForBlobs n s = length s.blobs.0 + n ≤ s.blobs.1

-- a segment lies in a slot
pub record IsUsed (m : Machine) (k : ℕ) : Type 0 where
  pub within : k < length m.slots
  pub used : is_free (slot_at m k).state ≡ false
