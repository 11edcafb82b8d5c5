-- What proofs, and functions that no user calls, need beside `specs/SegmentStates.antt`. No public contract names it.
use Rattle.std.specs.Prelude.{◌≡◌, ℕ, ℤ, true, false, [], ◌∷◌, ◌++◌}
use Rattle.sled_store.specs.SegmentStates.{Machine, free_slot, is_active, is_due, slot_at}

-- one more slot, behind all others, that no segment is in
abbrev pub with_free_slot : Machine → Machine
with_free_slot m = record { slots = m.slots ++ free_slot ∷ []; tip = m.tip; cleaner = m.cleaner }

-- no active segment is due for a mark
abbrev pub NoneDue : ℕ → ℤ → Machine → Type 0
NoneDue size mark m = (k : ℕ) → is_active (slot_at m k).state ≡ true → is_due size mark (slot_at m k).lsn ≡ false
