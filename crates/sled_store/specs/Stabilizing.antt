-- The parts of a stabilization: what each of its steps makes of the machine of segment states, and the single moves that any beginning of it is made of.
use Rattle.std.specs.Prelude.{◌≡◌, ◌⊎◌, ◌-◌, ◌*◌, ◌<◌, ℕ, ℤ, true, false, List, [], ◌∷◌, ◌++◌, set, Option, Some, Result, OnOk}
use Rattle.std.specs.Ordering.{nat_cmp}
use Rattle.std.specs.BTreeMap.{is_at}
use Rattle.std.specs.Map.{remove_entry}
use Rattle.sled_codec.specs.declared.result.Error.{Error}
use Rattle.sled_store.specs.Blobs.{removing_blobs}
use Rattle.sled_store.specs.Device.{Event, Trace, Cut, Synced}
use Rattle.sled_store.specs.Script.{Performs, after_all}
use Rattle.sled_store.specs.SegmentStates.{Machine, Step, left_after, cutting, drained, free_slot, inactive_slot, is_active, is_active_place, is_done, is_due}
use Rattle.sled_store.specs.SegmentStates.{is_inactive, may_be_cut, slot_at, with_slot}

-- all free slots at the end of the file are cut off that may be
abbrev pub cut_back : ℕ → Machine → Step
cut_back size m = record { machine = record m { tip = left_after m.tip m.slots }; calls = cutting size m.tip m.slots }

-- no segment is in a slot any more, and what the cleaner still has of it is forgotten
abbrev pub emptied : ℕ → Machine → Machine
emptied k m = record { slots = set m.slots k free_slot; tip = m.tip; cleaner = remove_entry (is_at (nat_cmp k)) m.cleaner }

-- the last slot may be cut off
pub record MayCut (m : Machine) : Type 0 where
  pub some : 0 < m.tip
  pub may : may_be_cut (m.tip - 1) m.slots ≡ true

-- the last slot is cut off
abbrev pub shorter : Machine → Machine
shorter m = record m { tip = m.tip - 1 }

-- the calls that cut it off
abbrev pub cutting_last : ℕ → Machine → List Event
cutting_last size m = Cut ((m.tip - 1) * size) ((m.tip - 1) * size) ∷ Synced ∷ []

-- Single moves.

-- the segment at a place is due for a mark, or isn't active
abbrev pub HasEnded : ℕ → ℤ → Machine → Option ℕ → Type 0
HasEnded size mark m latest = (place : ℕ) → latest ≡ Some place → (is_due size mark place ≡ true) ⊎ (is_active_place m latest ≡ false)

-- the segment in a slot is active, and a mark leaves it behind
pub record IsLeftBehind (size : ℕ) (mark : ℤ) (m : Machine) (k : ℕ) : Type 0 where
  pub active : is_active (slot_at m k).state ≡ true
  pub due : is_due size mark (slot_at m k).lsn ≡ true

-- One move for a mark, with its calls. A segment that is due is deactivated when its blobs went, an inactive one is drained, and one that is done leaves its
-- slot where what replaced it is due or isn't active. A free slot is cut off at the end.
pub data IsMove (size : ℕ) (mark : ℤ) (old new : Machine) (calls : List Event) : Type 0 where
  deactivates : (k : ℕ) → IsLeftBehind size mark old k → new ≡ with_slot k (inactive_slot (slot_at old k)) old
      → calls ≡ removing_blobs (slot_at old k).blobs → IsMove size mark old new calls
  drains : (k : ℕ) → is_inactive (slot_at old k).state ≡ true → new ≡ drained k old → calls ≡ [] → IsMove size mark old new calls
  frees : (k : ℕ) → is_done (slot_at old k) ≡ true → HasEnded size mark old (slot_at old k).latest → new ≡ emptied k old → calls ≡ []
      → IsMove size mark old new calls
  cuts : MayCut old → new ≡ shorter old → calls ≡ cutting_last size old → IsMove size mark old new calls

-- such moves, one after another, and the calls of all of them
pub data AreMoves (size : ℕ) (mark : ℤ) (new : Machine) : Machine → List Event → Type 0 where
  no_move : (old : Machine) → new ≡ old → AreMoves size mark new old []
  moves : (old mid : Machine) (es fs : List Event) → IsMove size mark old mid es → AreMoves size mark new mid fs → AreMoves size mark new old (es ++ fs)

-- What came behind the last of them: nothing, or calls of one more, the first of which were made. Where blobs don't all go the segment is active, with all of
-- them noted. A slot is cut off before its call.
pub data EndsWith (size : ℕ) (mark : ℤ) (old new : Machine) (before after : Trace) : Type 0 where
  all_made : new ≡ old → after ≡ before → EndsWith size mark old new before after
  removes : (k : ℕ) → IsLeftBehind size mark old k → new ≡ old → Performs (removing_blobs (slot_at old k).blobs) before after
      → EndsWith size mark old new before after
  cuts_off : MayCut old → new ≡ shorter old → Performs (cutting_last size old) before after → EndsWith size mark old new before after

-- Moves for a mark were made, with all of their calls, and then one may have failed.
pub record MovesSlots {T : Type 0} (size : ℕ) (mark : ℤ) (result : Result T Error) (old new : Machine) (before after : Trace) : Type 0 where
  pub mid : Machine
  pub between : Trace
  pub calls : List Event
  pub moves : AreMoves size mark mid old calls
  pub made : between ≡ after_all calls before
  pub end : EndsWith size mark mid new between after
  pub all : OnOk result ((new ≡ mid) × (after ≡ between))
