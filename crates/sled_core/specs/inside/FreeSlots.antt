-- What proofs, and functions that no user calls, need beside `specs/FreeSlots.antt`. No public contract names it.
use Rattle.std.specs.Prelude.{◌≡◌, ◌≤◌, ◌+◌, ◌*◌, ◌%◌, ℕ, true, false, List, Option, None, All}
use Rattle.std.specs.declared.io.Error.{Error as IoError}
use Rattle.sled_store.specs.SegmentStates.{Machine, is_free, slot_at}
use Rattle.sled_core.specs.Begun.{SegmentView}
use Rattle.sled_core.specs.inside.Begun.{line_end}
use Rattle.sled_core.specs.SealedBuffers.{AreZeros}

-- Each slot that is free has zeros in the log file, as far as that goes; so a segment that is begun there is all that a reader finds of it.
abbrev pub FreeAreZeros : ℕ → List ℕ → Machine → Type 0
FreeAreZeros size log m = (k : ℕ) → is_free (slot_at m k).state ≡ true → AreZeros log (k * size) (k * size + size)

-- the slot of a segment isn't free, so a write to it leaves those that are alone
pub record HasSlot (size : ℕ) (m : Machine) (v : SegmentView) : Type 0 where
  -- the slot, counted from 0
  pub number : ℕ
  pub lies : v.parts.site.slot ≡ number * size
  pub taken : is_free (slot_at m number).state ≡ false
  -- and it has that segment
  pub is : (slot_at m number).lsn ≡ v.parts.site.place

-- Each slot that isn't free has a segment of its own, which begins where one can, and ends at this place at most.
pub record HaveOwn (size end : ℕ) (m : Machine) : Type 0 where
  pub aligned : (k : ℕ) → is_free (slot_at m k).state ≡ false → (slot_at m k).lsn % size ≡ 0
  pub below : (k : ℕ) → is_free (slot_at m k).state ≡ false → (slot_at m k).lsn + size ≤ end
  pub one : (j k : ℕ) → is_free (slot_at m j).state ≡ false → is_free (slot_at m k).state ≡ false → (slot_at m j).lsn ≡ (slot_at m k).lsn → j ≡ k

-- A log with these segments: where it keeps no failure the free slots have zeros, the slots of its segments aren't free, and each slot that isn't has a
-- segment of its own, up to the last of these.
pub record HasSlots (size : ℕ) (line : List SegmentView) (log : List ℕ) (fault : Option IoError) (m : Machine) : Type 0 where
  pub taken : All (HasSlot size m) line
  pub zeros : fault ≡ None → FreeAreZeros size log m
  pub own : HaveOwn size (line_end size line) m
