-- The parts of a start of an accountant: what each of its steps makes of the slots.
use Rattle.std.specs.Prelude.{◌≡◌, ◌*◌, ◌^◌, ◌<◌, ℕ, suc, List, [], ◌∷◌, set, slice_index_or, Option, None, Some}
use Rattle.std.specs.List.{All}
use Rattle.sled_codec.specs.Snapshots.{Entry, Page, SnapshotModel, stable_place}
use Rattle.sled_store.specs.declared.segment.slot_table.SlotTable.{SlotTable}
use Rattle.sled_store.specs.Begin.{entries_in, entries_of, slot_of, sizes_in, is_active, IsPlacedIn}
use Rattle.sled_store.specs.SegmentStates.{SlotState, free_slot, taken_slot, linked_slot, free_among, inactive_among, active_among}
use Rattle.sled_store.specs.SlotTables.{IsSlotTable}
use Rattle.sled_store.specs.Started.{all_entries, used_state}

-- the state of a slot before its pages are known, by what a table has of it
abbrev pub begun_slot : ℕ → Option ℕ → ℕ → Option (ℕ × ℕ) → SlotState
begun_slot size active k None = free_slot
begun_slot size active k (Some v) = record (taken_slot (v.0 * size)) { state = used_state (is_active size active k) }

-- a page is linked to the slot of one of its entries
abbrev pub entry_linked : ℕ → ℕ → Entry → List SlotState → List SlotState
entry_linked size pid e slots = let k = slot_of size e in set slots k (linked_slot pid e.2 (slice_index_or slots k free_slot))

-- a page is linked to the slots of its entries, one after another
abbrev pub entries_linked : ℕ → ℕ → List Entry → List SlotState → List SlotState
entries_linked size pid [] slots = slots
entries_linked size pid (e ∷ es) slots = entries_linked size pid es (entry_linked size pid e slots)

-- the pages from the i-th on are linked to the slots of their entries, one after another
abbrev pub pages_linked : ℕ → ℕ → List Page → List SlotState → List SlotState
pages_linked size i [] slots = slots
pages_linked size i (p ∷ ps) slots = pages_linked size (suc i) ps (entries_linked size i (entries_in p) slots)

-- A table has what a snapshot says, and that fits in this many slots.
pub record FillsSlots (size slots : ℕ) (s : SnapshotModel) (t : SlotTable) : Type 0 where
  pub table : IsSlotTable size t (all_entries s)
  pub placed : All (IsPlacedIn size slots (stable_place s.stable)) (entries_of s.pages)
  pub counted : (k : ℕ) → sizes_in size k (entries_of s.pages) < 2 ^ 63
  pub stable : stable_place s.stable < 2 ^ 63
  pub in_reach : slots * size < 2 ^ 63

-- The indexes of slots, none of which is drained.
pub record AreNoted (slots : List SlotState) (free : List ℕ) (active : List (ℕ × ℕ)) (inactive : List ℕ) : Type 0 where
  pub free_is : free ≡ free_among slots
  pub active_is : active ≡ active_among slots
  pub inactive_is : inactive ≡ inactive_among slots
