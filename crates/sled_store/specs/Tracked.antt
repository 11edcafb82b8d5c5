-- What the slots say of a history of which each message was marked: a slot has each message that a table may need.
use Rattle.std.specs.Prelude.{◌≡◌, ◌⊎◌, ◌+◌, ◌*◌, ◌/◌, ◌%◌, ◌≤◌, ℕ, true, false, List, Some, slice_index_or, Contains}
use Rattle.sled_codec.specs.History.{Message, History, table}
use Rattle.sled_store.specs.Marks.{HasReplacement, slot_with}
use Rattle.sled_store.specs.SegmentStates.{SlotState, Machine, is_free, is_active, free_slot}

-- a slot by its number; a free one where there is none
abbrev pub at : List SlotState → ℕ → SlotState
at ss k = slice_index_or ss k free_slot

-- a segment holds a message, and has its page
pub record IsHeld (size : ℕ) (s : SlotState) (e : Message) : Type 0 where
  pub taken : is_free s.state ≡ false
  pub lsn : e.place / size * size ≡ s.lsn
  pub page : Contains s.pages e.page

-- a segment begins at a place, and is active
pub record IsActiveAt (ss : List SlotState) (place : ℕ) : Type 0 where
  pub slot : ℕ
  pub active : is_active (at ss slot).state ≡ true
  pub lsn : (at ss slot).lsn ≡ place

-- the segment at a place is active, or it ends at or below the base
abbrev pub IsActiveOrBelow : ℕ → ℕ → List SlotState → ℕ → Type 0
IsActiveOrBelow size base ss place = IsActiveAt ss place ⊎ (place + size ≤ base)

-- Slots behind the tip are free, each message lies in its segment or is spent, and what replaced a page is noted. What isn't active ends at the base or below.
pub record IsTracked (size base : ℕ) (H : History) (Spent : Message → Type 0) (ss : List SlotState) (tip : ℕ) : Type 0 where
  pub cut_off : (k : ℕ) → tip ≤ k → is_free (at ss k).state ≡ true
  pub messages : (e : Message) → Contains H.messages e → IsHeld size (at ss (slot_with size e)) e ⊎ Spent e
  pub gone : (k page : ℕ) → Contains (at ss k).gone page → HasReplacement size H (at ss k) page
  pub latest : (k place : ℕ) → (at ss k).latest ≡ Some place → IsActiveOrBelow size base ss place
  pub within : (k page : ℕ) → Contains (at ss k).gone page → Contains (at ss k).pages page
  pub stable : (k : ℕ) → is_free (at ss k).state ≡ false → is_active (at ss k).state ≡ false → (at ss k).lsn + size ≤ base
  pub aligned : (k : ℕ) → is_free (at ss k).state ≡ false → (at ss k).lsn % size ≡ 0
  pub apart : (j k : ℕ) → is_free (at ss j).state ≡ false → is_free (at ss k).state ≡ false → (at ss j).lsn ≡ (at ss k).lsn → j ≡ k

-- no table below a cut from a place on has a message
abbrev pub IsNoEntry : History → ℕ → Message → Type 0
IsNoEntry H base e = (cut : ℕ) → base ≤ cut → Contains (table H cut e.page) e → ⊥

-- A machine is what marks made of the segments, and what a start found of them, where all of a history is marked: what a table from the base on has lies in
-- the slot of its segment.
abbrev pub IsAccountOf : ℕ → ℕ → History → Machine → Type 0
IsAccountOf size base H m = IsTracked size base H (IsNoEntry H base) m.slots m.tip
