-- What an accountant keeps, as the machine that it stands for, and how its indexes are tied to the slots.
use Rattle.std.specs.Prelude.{◌≡◌, ◌≤◌, ◌<◌, ◌+◌, ◌*◌, ◌^◌, ℕ, true, false, List, [], length, map, take, slice_index_or, Result, Ok, Err}
use Rattle.std.specs.List.{All}
use Rattle.std.specs.List.Sorted.{IsStrictlySortedBy}
use Rattle.std.specs.Map.{keys_of}
use Rattle.std.specs.Ordering.{nat_cmp}
use Rattle.sled_codec.specs.declared.result.Error.{Error}
use Rattle.sled_codec.specs.declared.result.Error.TheVariants.{OutOfMemory, PlacesUsedUp}
use Rattle.sled_store.specs.SegmentStates.{SlotState, Machine, is_free, is_draining, free_slot, free_among, inactive_among, active_among, waiting_among}
use Rattle.sled_store.specs.SegmentStates.{next_slot}
use Rattle.sled_store.specs.declared.segment.slot.Slot.{Slot}
use Rattle.sled_store.specs.declared.segment.cleaner.SegmentCleaner.{SegmentCleaner}
use Rattle.sled_store.specs.declared.segment.accountant.SegmentAccountant.{SegmentAccountant}

-- the state that a slot of an accountant stands for
abbrev pub slot_state : Slot → SlotState
slot_state s = record { state = s.state; lsn = s.lsn; held = s.held; pages = s.pages.0; gone = s.gone.0; latest = s.latest; blobs = s.blobs.0 }

-- a set of pages: the pages, and how many there is room for
abbrev pub PageSet : Type 0
PageSet = List ℕ × ℕ

-- the pages of a slot of a cleaner that were not asked for yet
abbrev pub left_in : PageSet → List ℕ
left_in s = s.0

-- a slot, and what it has of the pages by slot
abbrev pub with_pages : List (List ℕ) → ℕ → ℕ × List ℕ
with_pages ps k = (k, slice_index_or ps k [])

-- the pages that a cleaner still has, by slot
abbrev pub cleaner_of : SegmentCleaner → List (ℕ × List ℕ)
cleaner_of c = map (with_pages (map left_in c.entries.items)) c.draining.0

-- the machine that an accountant stands for
abbrev pub machine_of : SegmentAccountant → Machine
machine_of a = record { slots = map slot_state a.slots.items; tip = a.tip; cleaner = cleaner_of a.cleaner }

-- the size of segments that an accountant was made for
abbrev pub size_of : SegmentAccountant → ℕ
size_of a = a.size

-- a slot that may be drained has room for the pages that it then gives to the cleaner
abbrev pub HasRoomToDrain : Slot → Type 0
HasRoomToDrain s = is_draining s.state ≡ false → length s.pages.0 ≤ s.left.1

-- each slot is there once, in ascending order, and below a number
pub record AreEntries (count : ℕ) (es : List (ℕ × List ℕ)) : Type 0 where
  pub ascending : IsStrictlySortedBy nat_cmp (keys_of es)
  pub below : All (λ k. k < count) (keys_of es)

-- each slot below a number may be drained without taking memory for the cleaner
pub record HasRoomToClean (count : ℕ) (c : SegmentCleaner) : Type 0 where
  pub draining : count ≤ c.draining.1
  pub entries : count ≤ length c.entries.items

-- a cleaner was made for segments of a size, knows of slots below a number only, and has room for all of these
pub record IsCleaner (size count : ℕ) (c : SegmentCleaner) : Type 0 where
  pub size_is : c.size ≡ size
  pub entries : AreEntries count (cleaner_of c)
  pub room : HasRoomToClean count c

-- The slots up to the tip, and those that were cut off.
pub record AreSlots (tip : ℕ) (slots : List SlotState) : Type 0 where
  pub within : tip ≤ length slots
  pub cut_off : (k : ℕ) → tip ≤ k → is_free (slice_index_or slots k free_slot).state ≡ true
  -- a free slot knows of nothing
  pub free_slots : (k : ℕ) → is_free (slice_index_or slots k free_slot).state ≡ true → slice_index_or slots k free_slot ≡ free_slot
  pub places : (k : ℕ) → (slice_index_or slots k free_slot).lsn < 2 ^ 63

-- slots behind their places
abbrev pub Placed : Type 0
Placed = List (ℕ × ℕ)

-- The lists by which slots are found are those that are read off the slots.
pub record AreIndexes (tip : ℕ) (slots : List SlotState) (free : List ℕ) (active : Placed) (inactive : List ℕ) (waiting : Placed) : Type 0 where
  pub free_is : free ≡ free_among (take tip slots)
  pub active_is : active ≡ active_among slots
  pub inactive_is : inactive ≡ inactive_among slots
  pub waiting_is : waiting ≡ waiting_among slots

-- there is room for this many slots wherever a slot may be noted, but in the cleaner
pub record HasRooms (count : ℕ) (a : SegmentAccountant) : Type 0 where
  pub free : count ≤ a.free.1
  pub active : count ≤ a.active.1
  pub inactive : count ≤ a.inactive.1
  pub waiting : count ≤ a.waiting.1

-- An accountant for segments of a size: each slot is in one state, its indexes are those of the slots, and what it may have to note has room.
pub record IsAccountant (size : ℕ) (a : SegmentAccountant) : Type 0 where
  pub size_is : a.size ≡ size
  pub some : 0 < size
  pub small : size < 2 ^ 32
  pub in_reach : length (machine_of a).slots * size < 2 ^ 63
  pub slots : AreSlots a.tip (machine_of a).slots
  pub indexes : AreIndexes a.tip (machine_of a).slots a.free.0 a.active.0 a.inactive.0 a.waiting.0
  pub cleaner : IsCleaner size (length (machine_of a).slots) a.cleaner
  pub room_to_drain : All HasRoomToDrain a.slots.items
  pub rooms : HasRooms (length (machine_of a).slots) a

-- the segment at a place, and its slot, end below 2^63
pub record MayHandOut (size lsn : ℕ) (m : Machine) : Type 0 where
  pub place : lsn + size < 2 ^ 63
  pub offset : next_slot m * size + size < 2 ^ 63

-- Why no slot was handed out: places or offsets are used up, or memory was refused.
abbrev pub NextAnswers : {T : Type 0} → Result T Error → Type 0 → Type 0
NextAnswers (Ok _) may = may
NextAnswers (Err PlacesUsedUp) may = may → ⊥
NextAnswers (Err OutOfMemory) may = may
NextAnswers (Err _) may = ⊥
