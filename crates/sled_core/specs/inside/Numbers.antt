-- What keeps the numbers of segments apart, from one start to the next: in the slot of a segment that is needed nothing that is the log's own has a greater
-- number, and what is of its number lies there. So a number that is forgotten, and comes again, meets nothing that looks like it.
use Rattle.std.specs.Prelude.{◌≡◌, ◌*◌, ◌/◌, ◌≤◌, ◌<◌, ℕ, ℤ, false, List, Option, Contains}
use Rattle.sled_codec.specs.History.{Message, History, table}
use Rattle.sled_codec.specs.Snapshots.{SnapshotModel}
use Rattle.sled_store.specs.Device.{State}
use Rattle.sled_store.specs.Marks.{slot_with}
use Rattle.sled_store.specs.SegmentStates.{Machine, is_free, slot_at}
use Rattle.sled_store.specs.SnapshotFiles.{BeginsFrom}
use Rattle.sled_core.specs.NoForeign.{NoHeaderOfZeros}
use Rattle.sled_core.specs.declared.logger.joined_marks.JoinedMarks.{JoinedMarks}
use Rattle.sled_core.specs.inside.Hides.{IsOwnHeader, IsOwnRecord, LiesInSlot}
use Rattle.sled_core.specs.inside.LogSegments.{held_since}

-- A slot has a number: nothing that is the log's own in it has a greater one, and what is of that number lies in no other slot.
pub record HasNumber (sum : List ℕ → ℕ) (size : ℕ) (s : State) (k number : ℕ) : Type 0 where
  pub greatest : (n at : ℕ) (text : List ℕ) → LiesInSlot size k at text → IsOwnRecord sum size s n at text → n ≤ number
  pub only : (j at : ℕ) (text : List ℕ) → LiesInSlot size j at text → IsOwnRecord sum size s number at text → j ≡ k

-- each record that is the log's own lies in one slot
abbrev pub LieInSlots : (List ℕ → ℕ) → ℕ → State → Type 0
LieInSlots sum size s = (number at : ℕ) (text : List ℕ) → IsOwnRecord sum size s number at text → (k : ℕ) × LiesInSlot size k at text

-- The slot of an entry of some table at a place or above it has the entry's number, and the slot of a header that is own has that of its segment, from that of
-- the place on. (In a content in which nothing is foreign each header is own.)
pub record NumbersStay (sum : List ℕ → ℕ) (size : ℕ) (s : State) (H : History) (A : ℕ) : Type 0 where
  pub entries : (cut page : ℕ) (e : Message) → A ≤ cut → Contains (table H cut page) e → HasNumber sum size s (slot_with size e) (e.place / size)
  pub later : (k place : ℕ) (mark : ℤ) → IsOwnHeader sum size s k place mark → A / size * size ≤ place → HasNumber sum size s k (place / size)
  pub lie : LieInSlots sum size s

-- While a log runs with these slots, and its segments end at a place: nothing own is of a number that is still to come, and the slot of a segment has its
-- number.
pub record HasNumbers (sum : List ℕ → ℕ) (size base : ℕ) (s : State) (m : Machine) (end : ℕ) : Type 0 where
  pub to_come : (number at : ℕ) (text : List ℕ) → IsOwnRecord sum size s number at text → number * size < end
  pub taken : (k : ℕ) → is_free (slot_at m k).state ≡ false → HasNumber sum size s k ((slot_at m k).lsn / size)
  -- each header that is own, of a segment from a place on, is that of the segment that its slot has
  pub headers : (k place : ℕ) (mark : ℤ) → base ≤ place → IsOwnHeader sum size s k place mark
      → (is_free (slot_at m k).state ≡ false) × ((slot_at m k).lsn ≡ place)
  pub lie : LieInSlots sum size s

-- the slot of a message has its segment
pub record IsInSlot (size : ℕ) (m : Machine) (e : Message) : Type 0 where
  pub taken : is_free (slot_at m (slot_with size e)).state ≡ false
  pub lsn : (slot_at m (slot_with size e)).lsn ≡ e.place / size * size

-- From a place on, which isn't above another, each message is in the slot of its segment, and so is each entry of the table there.
pub record HaveSlots (sum : List ℕ → ℕ) (size base : ℕ) (H : History) (A : ℕ) (m : Machine) : Type 0 where
  pub later : (e : Message) → Contains H.messages e → base ≤ e.place → IsInSlot size m e
  pub older : (page : ℕ) (e : Message) → Contains (table H base page) e → IsInSlot size m e
  pub not_above : NoHeaderOfZeros sum → base ≤ A

-- So it is from the segment of the mark on that joined, or from the place of the snapshot with which a log began.
abbrev pub HaveSlotsFrom : (List ℕ → ℕ) → JoinedMarks → ℕ → (ℤ → Option (List ℕ)) → History → ℕ → Machine → Type 0
HaveSlotsFrom sum marks size snapshots H A m =
    (first : SnapshotModel) → BeginsFrom sum snapshots first → HaveSlots sum size (held_since size marks first) H A m
