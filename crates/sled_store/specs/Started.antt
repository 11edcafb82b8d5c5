-- What an accountant finds on a log file that a recovery left: which segment lies in each slot, and which slots at the end of the file are cut off.
use Rattle.std.specs.Prelude.{◌≡◌, ◌==◌, ◌*◌, ℕ, suc, Bool, true, false, if◌then◌else◌, List, [], ◌∷◌, ◌++◌, map, Option, None, Some, Result, Ok, Err}
use Rattle.std.specs.List.{list_any, range_with_len}
use Rattle.sled_codec.specs.declared.result.Error.{Error}
use Rattle.sled_codec.specs.Snapshots.{Entry, Page, SnapshotModel, stable_place}
use Rattle.sled_store.specs.Begin.{entries_in, entries_of, slot_of, sizes_in, slots_of, is_active, unused, filling}
use Rattle.sled_store.specs.StartCauses.{StartRefuses}
use Rattle.sled_store.specs.SegmentStates.{SlotState, Machine, Step, free_slot}
use Rattle.sled_store.specs.SlotTables.{number_in, active_entry}
use Rattle.sled_store.specs.Stabilizing.{cut_back}
use Rattle.sled_store.specs.declared.segment.slot.State.{State}
use Rattle.sled_store.specs.declared.segment.slot.State.TheVariants.{Active, Inactive}

-- the pages from the i-th on that have an entry in a slot, in ascending order
abbrev pub pages_in : ℕ → ℕ → ℕ → List Page → List ℕ
pages_in size k i [] = []
pages_in size k i (p ∷ ps) = if list_any (λ e. slot_of size e == k) (entries_in p) then i ∷ pages_in size k (suc i) ps else pages_in size k (suc i) ps

-- the entries of a snapshot, behind its active segment as an entry of no bytes
abbrev pub all_entries : SnapshotModel → List Entry
all_entries s = active_entry (stable_place s.stable) s.active ++ entries_of s.pages

-- the state of a slot that is in use
abbrev pub used_state : Bool → State
used_state true = Active
used_state false = Inactive

-- the state of a slot, where this is the number of the segment in it: what a snapshot has there counts as linked
abbrev pub found_slot : ℕ → SnapshotModel → ℕ → Option ℕ → SlotState
found_slot size s k None = free_slot
found_slot size s k (Some n) = record {
  state = used_state (is_active size s.active k);
  lsn = n * size;
  held = sizes_in size k (entries_of s.pages);
  pages = pages_in size k 0 s.pages;
  gone = [];
  latest = None;
  blobs = [];
}

-- what a snapshot has in the slots of a file: those that it doesn't use are free
abbrev pub found : ℕ → ℕ → SnapshotModel → Machine
found size slots s = record { slots = map (λ k. found_slot size s k (number_in size k (all_entries s))) (range_with_len 0 slots); tip = slots; cleaner = [] }

-- An accountant starts on a file of this length: slots that the snapshot doesn't use are filled with zeros, and cut off at the end of the file while
-- another one is free.
abbrev pub started : ℕ → ℕ → SnapshotModel → Step
started size len s =
    let slots = slots_of size len in
    let cut = cut_back size (found size slots s) in
    record { machine = cut.machine; calls = filling size (unused size slots s) ++ cut.calls }

-- An accountant starts only where a log can begin on the snapshot and a further segment is in reach, and without a failure. Else this says why not.
abbrev pub FoundOrRefuses : {T : Type 0} → Result T Error → (startable in_reach unwritten : Type 0) → ℕ → ℕ → Type 0
FoundOrRefuses (Ok _) startable in_reach unwritten before after = startable × in_reach × (after ≡ before)
FoundOrRefuses (Err e) startable in_reach unwritten before after = StartRefuses e startable in_reach unwritten before after
