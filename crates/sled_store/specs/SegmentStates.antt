-- Segments that come back, as a machine: each slot of the log file is in one state, and what a call makes of them leaves no choice.
use Rattle.std.specs.Prelude.{◌≡◌, ◌==◌, ◌&&◌, ◌+◌, ◌-◌, ◌*◌, ◌/◌, ◌^◌, ◌<◌, ◌≤ℤ◌, ℕ, zero, suc, ℤ, pos, negsuc, unsigned_abs, min, max, Bool, true, false, not}
use Rattle.std.specs.Prelude.{nat_lt, nat_le, if◌then◌else◌, List, [], ◌∷◌, ◌++◌, length, map, filter, take, set, slice_index_or, Option, None, Some}
use Rattle.std.specs.List.{All, list_any}
use Rattle.std.specs.declared.cmp.Ordering.{Ordering}
use Rattle.std.specs.Ordering.{nat_cmp, int_cmp, int_eq, ordering_then}
use Rattle.std.specs.BTreeMap.{insert_entry, is_at}
use Rattle.std.specs.BTreeSet.{insert_key}
use Rattle.std.specs.Map.{remove_entry}
use Rattle.sled_codec.specs.declared.result.DiskPtr.{DiskPtr}
use Rattle.sled_codec.specs.declared.result.DiskPtr.TheVariants.{Inline, Blob}
use Rattle.sled_codec.specs.Pointers.{lid_of}
use Rattle.sled_store.specs.Begin.{first_or}
use Rattle.sled_store.specs.Blobs.{removing_blobs}
use Rattle.sled_store.specs.Device.{Event, Cut, Synced}
use Rattle.sled_store.specs.declared.segment.slot.State.{State}
use Rattle.sled_store.specs.declared.segment.slot.State.TheVariants.{Free, Active, Inactive, Draining}
use Rattle.sled_store.specs.declared.segment.slot.CacheInfo.{CacheInfo}

-- A slot of the file, and the segment in it.
pub record SlotState : Type 0 where
  pub state : State
  -- the place where the segment begins
  pub lsn : ℕ
  -- what the records sum up to that were linked here and not replaced since
  pub held : ℕ
  -- the pages that were linked here, and those that another segment has replaced, in ascending order
  pub pages : List ℕ
  pub gone : List ℕ
  -- the greatest place of a segment that replaced one of these pages
  pub latest : Option ℕ
  -- the blobs that go when the segment is deactivated, in ascending order
  pub blobs : List ℤ

-- All slots of a log file, and what is to be written again so that more of them come free.
pub record Machine : Type 0 where
  -- each slot that was ever handed out or found, also those that were cut off since
  pub slots : List SlotState
  -- how many of them are not cut off
  pub tip : ℕ
  -- by slot, the pages that are still to be written again
  pub cleaner : List (ℕ × List ℕ)

-- a machine, and the calls of the device that are due on the way to it
pub record Step : Type 0 where
  pub machine : Machine
  pub calls : List Event

-- nothing was handed out yet
abbrev pub unused_machine : Machine
unused_machine = record { slots = []; tip = 0; cleaner = [] }

-- Slots.

-- no segment lies in a slot in this state
abbrev pub is_free : State → Bool
is_free Free = true
is_free _ = false

-- messages are still linked to its segment
abbrev pub is_active : State → Bool
is_active Active = true
is_active _ = false

-- all of its segment is stable, and it was not drained
abbrev pub is_inactive : State → Bool
is_inactive Inactive = true
is_inactive _ = false

-- its pages are to be written again elsewhere
abbrev pub is_draining : State → Bool
is_draining Draining = true
is_draining _ = false

-- no segment is in it
abbrev pub free_slot : SlotState
free_slot = record { state = Free; lsn = 0; held = 0; pages = []; gone = []; latest = None; blobs = [] }

-- a segment that begins at this place, with nothing linked yet
abbrev pub taken_slot : ℕ → SlotState
taken_slot lsn = record { state = Active; lsn = lsn; held = 0; pages = []; gone = []; latest = None; blobs = [] }

-- a slot by its number; a free one where there is none
abbrev pub slot_at : Machine → ℕ → SlotState
slot_at m k = slice_index_or m.slots k free_slot

-- where the segment in a slot begins, where one lies there
abbrev pub segment_in : SlotState → Option ℕ
segment_in s = if is_free s.state then None else Some s.lsn

-- the same machine but for one slot
abbrev pub with_slot : ℕ → SlotState → Machine → Machine
with_slot k s m = record { slots = set m.slots k s; tip = m.tip; cleaner = m.cleaner }

-- the slots from the i-th on that pass a test, in ascending order
abbrev pub slots_where : (SlotState → Bool) → ℕ → List SlotState → List ℕ
slots_where test i [] = []
slots_where test i (s ∷ ss) = if test s then i ∷ slots_where test (suc i) ss else slots_where test (suc i) ss

-- the slots among these that no segment lies in
abbrev pub free_among : List SlotState → List ℕ
free_among slots = slots_where (λ s. is_free s.state) 0 slots

-- the slots among these whose segments are inactive
abbrev pub inactive_among : List SlotState → List ℕ
inactive_among slots = slots_where (λ s. is_inactive s.state) 0 slots

-- by place, and by slot where the places are the same
abbrev pub by_place : ℕ × ℕ → ℕ × ℕ → Ordering
by_place x y = ordering_then (nat_cmp x.0 y.0) (nat_cmp x.1 y.1)

-- a slot more, behind its place
abbrev pub beside : Option ℕ → ℕ → List (ℕ × ℕ) → List (ℕ × ℕ)
beside None k ps = ps
beside (Some place) k ps = insert_key by_place ps (place, k)

-- the slots from the i-th on that have a place by this, each behind it, in ascending order
abbrev pub slots_by : (SlotState → Option ℕ) → ℕ → List SlotState → List (ℕ × ℕ)
slots_by place i [] = []
slots_by place i (s ∷ ss) = beside (place s) i (slots_by place (suc i) ss)

-- where the segment begins, if it is active
abbrev pub active_place : SlotState → Option ℕ
active_place s = if is_active s.state then Some s.lsn else None

-- the active segments, each by its place and its slot, in ascending order
abbrev pub active_among : List SlotState → List (ℕ × ℕ)
active_among slots = slots_by active_place 0 slots

-- the same pages
abbrev pub same_pages : List ℕ → List ℕ → Bool
same_pages [] [] = true
same_pages (p ∷ ps) (q ∷ qs) = (p == q) && same_pages ps qs
same_pages _ _ = false

-- a segment that is drained and whose pages are all replaced
abbrev pub is_done : SlotState → Bool
is_done s = is_draining s.state && same_pages s.pages s.gone

-- the segment that the free of such a slot has to wait for, or had to
abbrev pub waited_place : SlotState → Option ℕ
waited_place s = if is_done s then s.latest else None

-- the slots that are done, each behind the place of its latest replacement
abbrev pub waiting_among : List SlotState → List (ℕ × ℕ)
waiting_among slots = slots_by waited_place 0 slots

-- Handing out.

-- the lowest free slot that is not cut off, or else the one behind all of them
abbrev pub next_slot : Machine → ℕ
next_slot m = first_or m.tip (free_among (take m.tip m.slots))

-- a slot is put among them, or behind them
abbrev pub put_slot : ℕ → SlotState → List SlotState → List SlotState
put_slot k s slots = if nat_lt k (length slots) then set slots k s else slots ++ s ∷ []

-- the segment at a place gets the next slot
abbrev pub handed_out : ℕ → Machine → Machine
handed_out lsn m = record { slots = put_slot (next_slot m) (taken_slot lsn) m.slots; tip = max m.tip (next_slot m + 1); cleaner = m.cleaner }

-- Marks.

-- A message lies in the segment that its slot holds.
pub record LiesIn (size : ℕ) (m : Machine) (info : CacheInfo) : Type 0 where
  pub slot : lid_of info.pointer / size < length m.slots
  pub taken : is_free (slot_at m (lid_of info.pointer / size)).state ≡ false
  pub not_negative : pos 0 ≤ℤ info.lsn
  pub lsn : unsigned_abs info.lsn / size * size ≡ (slot_at m (lid_of info.pointer / size)).lsn

-- a message may be marked, in place of older ones: its segment is active, and each older one lies in a segment
pub record MayMark (size : ℕ) (m : Machine) (info : CacheInfo) (old : List CacheInfo) : Type 0 where
  pub lies : LiesIn size m info
  pub active : is_active (slot_at m (lid_of info.pointer / size)).state ≡ true
  pub old_lie : All (LiesIn size m) old

-- sizes are counted up to 2^64 - 1
abbrev pub counted : ℕ → ℕ
counted n = min n (2 ^ 64 - 1)

-- a page is linked to a segment by a record of this length
abbrev pub linked_slot : ℕ → ℕ → SlotState → SlotState
linked_slot pid len s = record s { held = counted (s.held + len); pages = insert_key nat_cmp s.pages pid }

-- a page is linked to the segment in which its message lies
abbrev pub linked : ℕ → ℕ → CacheInfo → Machine → Machine
linked size pid info m = let k = lid_of info.pointer / size in with_slot k (linked_slot pid info.log_size (slot_at m k)) m

-- the blob of a replaced message goes, unless the message that replaces it has it
abbrev pub outdated : DiskPtr → DiskPtr → List ℤ → List ℤ
outdated (Blob lid place) (Blob lid_then place_then) blobs = if int_eq place place_then then blobs else insert_key int_cmp blobs place_then
outdated (Inline lid) (Blob lid_then place_then) blobs = insert_key int_cmp blobs place_then
outdated pointer (Inline lid_then) blobs = blobs

-- the blobs of all replaced messages go, but for that of the message that replaces them
abbrev pub all_outdated : DiskPtr → List CacheInfo → List ℤ → List ℤ
all_outdated pointer [] blobs = blobs
all_outdated pointer (o ∷ os) blobs = all_outdated pointer os (outdated pointer o.pointer blobs)

-- they go with the segment of that message
abbrev pub outdating : ℕ → CacheInfo → List CacheInfo → Machine → Machine
outdating size info old m =
    let k = lid_of info.pointer / size in
    let s = slot_at m k in
    with_slot k (record s { blobs = all_outdated info.pointer old s.blobs }) m

-- the greater of a place and one that may be there
abbrev pub later : ℕ → Option ℕ → Option ℕ
later place None = Some place
later place (Some other) = Some (max place other)

-- a record of a page, of this length, was replaced by one in the segment at a place
abbrev pub replaced_slot : ℕ → ℕ → ℕ → SlotState → SlotState
replaced_slot pid len place s = record s {
  held = s.held - len;
  gone = if place == s.lsn then s.gone else insert_key nat_cmp s.gone pid;
  latest = later place s.latest;
}

-- what an inactive segment holds is little enough to write it again
abbrev pub is_sparse : ℕ → SlotState → Bool
is_sparse size s = is_inactive s.state && nat_le (s.held * 100 / size) 50

-- a page is among these
abbrev pub has_page : List ℕ → ℕ → Bool
has_page pages p = list_any (is_at (nat_cmp p)) pages

-- the pages that were not replaced
abbrev pub left_pages : SlotState → List ℕ
left_pages s = filter (λ p. not (has_page s.gone p)) s.pages

-- its segment is drained
abbrev pub drained_slot : SlotState → SlotState
drained_slot s = record s { state = Draining }

-- a segment is drained: the pages that are left go to the cleaner
abbrev pub drained : ℕ → Machine → Machine
drained k m = record { slots = set m.slots k (drained_slot (slot_at m k)); tip = m.tip; cleaner = insert_entry nat_cmp m.cleaner k (left_pages (slot_at m k)) }

-- a segment is drained where it is inactive and holds little
abbrev pub drained_if_sparse : ℕ → ℕ → Machine → Machine
drained_if_sparse size k m = if is_sparse size (slot_at m k) then drained k m else m

-- An older message of a page is replaced. The free of its slot waits, since the segment that replaces it is active.
abbrev pub replaced_one : ℕ → ℕ → ℕ → CacheInfo → Machine → Machine
replaced_one size pid place o m =
    let k = lid_of o.pointer / size in
    drained_if_sparse size k (with_slot k (replaced_slot pid o.log_size place (slot_at m k)) m)

-- older messages of a page are replaced, one after another
abbrev pub replaced_all : ℕ → ℕ → ℕ → List CacheInfo → Machine → Machine
replaced_all size pid place [] m = m
replaced_all size pid place (o ∷ os) m = replaced_all size pid place os (replaced_one size pid place o m)

-- the beginning of the segment that holds a place
abbrev pub segment_place : ℕ → ℤ → ℕ
segment_place size lsn = unsigned_abs lsn / size * size

-- a message is marked in place of older ones
abbrev pub replaced : ℕ → ℕ → CacheInfo → List CacheInfo → Machine → Machine
replaced size pid info old m = replaced_all size pid (segment_place size info.lsn) old (outdating size info old (linked size pid info m))

-- Freeing.

-- a slot is free at the end of the file, and another one is free
abbrev pub may_be_cut : ℕ → List SlotState → Bool
may_be_cut k slots = is_free (slice_index_or slots k free_slot).state && nat_lt 1 (length (free_among (take (suc k) slots)))

-- how many slots are left when those at the end are cut off that may be
abbrev pub left_after : ℕ → List SlotState → ℕ
left_after zero slots = zero
left_after (suc k) slots = if may_be_cut k slots then left_after k slots else suc k

-- each of them is cut off, and the cut is synced
abbrev pub cutting : ℕ → ℕ → List SlotState → List Event
cutting size zero slots = []
cutting size (suc k) slots = if may_be_cut k slots then Cut (k * size) (k * size) ∷ Synced ∷ cutting size k slots else []

-- a slot is free again, and what the cleaner still has of it is forgotten
abbrev pub freed : ℕ → ℕ → Machine → Step
freed size k m =
    let slots = set m.slots k free_slot in
    record {
      machine = record { slots = slots; tip = left_after m.tip slots; cleaner = remove_entry (is_at (nat_cmp k)) m.cleaner };
      calls = cutting size m.tip slots;
    }

-- Deactivation.

-- one step after another
abbrev pub followed_by : Step → (Machine → Step) → Step
followed_by step more = let next = more step.machine in record { machine = next.machine; calls = step.calls ++ next.calls }

-- nothing is asked of the device
abbrev pub without_calls : Machine → Step
without_calls m = record { machine = m; calls = [] }

-- a step for each of a list, in turn
abbrev pub in_turn : {X : Type 0} → (X → Machine → Step) → List X → Machine → Step
in_turn step [] m = without_calls m
in_turn step (x ∷ xs) m = followed_by (step x m) (in_turn step xs)

-- a place is that of an active segment
abbrev pub is_active_place : Machine → Option ℕ → Bool
is_active_place m None = false
is_active_place m (Some place) = list_any (λ a. a.0 == place) (active_among m.slots)

-- a slot that is done is freed, unless its free has to wait
abbrev pub freed_if_done : ℕ → ℕ → Machine → Step
freed_if_done size k m =
    let s = slot_at m k in
    if is_done s && not (is_active_place m s.latest) then freed size k m else without_calls m

-- what is due for one segment: a drain, and then a free
abbrev pub tested : ℕ → ℕ → Machine → Step
tested size k m = freed_if_done size k (drained_if_sparse size k m)

-- the slots whose free waits for the segment at this place
abbrev pub waiting_for : ℕ → Machine → List ℕ
waiting_for place m = map (λ w. w.1) (filter (λ w. w.0 == place) (waiting_among m.slots))

-- more than five segments are inactive, and the free slots are at least half of the number of free and inactive ones plus one
abbrev pub is_wasteful : List SlotState → Bool
is_wasteful slots =
    let free = length (free_among slots) in
    let inactive = length (inactive_among slots) in
    nat_lt 5 inactive && nat_le 50 (free * 100 / (1 + free + inactive))

-- then the highest inactive segment is drained
abbrev pub drained_if_wasteful : Machine → Machine
drained_if_wasteful m = let inactive = inactive_among m.slots in if is_wasteful m.slots then drained (slice_index_or inactive (length inactive - 1) 0) m else m

-- its segment is no longer active, and its blobs are gone
abbrev pub inactive_slot : SlotState → SlotState
inactive_slot s = record s { state = Inactive; blobs = [] }

-- A segment is no longer active: blobs go, then slots that waited for it are freed, it is tested, and where much is free one more segment is drained.
abbrev pub deactivated : ℕ → ℕ × ℕ → Machine → Step
deactivated size a m =
    let s = slot_at m a.1 in
    let gone : Step = record { machine = with_slot a.1 (inactive_slot s) m; calls = removing_blobs s.blobs } in
    let waited = followed_by gone (λ n. in_turn (freed size) (waiting_for a.0 n) n) in
    followed_by (followed_by waited (tested size a.1)) (λ n. without_calls (drained_if_wasteful n))

-- a segment lies below the segment of a mark
abbrev pub is_due : ℕ → ℤ → ℕ → Bool
is_due size (pos mark) place = nat_le (place + size) (mark / size * size)
is_due size (negsuc mark) place = false

-- all active segments that a mark leaves behind are deactivated, the lowest first
abbrev pub stabilized : ℕ → ℤ → Machine → Step
stabilized size mark m = in_turn (deactivated size) (filter (λ a. is_due size mark a.0) (active_among m.slots)) m

-- The cleaner.

-- what is left of it when a page was asked for: the first page goes, or a slot that has none left
abbrev pub popped : List (ℕ × List ℕ) → List (ℕ × List ℕ)
popped [] = []
popped ((k, []) ∷ es) = es
popped ((k, p ∷ ps) ∷ es) = (k, ps) ∷ es

-- the first page of the first slot, with the offset of the slot in the file
abbrev pub first_page : ℕ → List (ℕ × List ℕ) → Option (ℕ × ℕ)
first_page size [] = None
first_page size ((k, []) ∷ es) = None
first_page size ((k, p ∷ ps) ∷ es) = Some (p, k * size)
