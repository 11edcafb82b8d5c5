-- What a step of the accountant for a mark makes of the slots of an account: each keeps its segment, or loses one that ended at the beginning of the segment
-- from which on all is held then, or below. No table needs anything of a slot that is free behind the step.
use Rattle.std.proofs.Common.{◌≡◌, ◌+◌, ◌*◌, ◌/◌, ◌%◌, ◌≤◌, ℕ, ℤ, pos, negsuc, true, false, arith}
use Rattle.std.proofs.lemmas.Bool.Decides.{nat_tests}
use Rattle.sled_codec.specs.History.{History}
use Rattle.sled_store.specs.SegmentStates.{Machine, is_active, is_due, is_free, slot_at, stabilized}
use Rattle.sled_store.specs.Tracked.{IsAccountOf}
use Rattle.sled_store.proofs.Marks.FreedSteps.{free_unneeded}
use Rattle.sled_store.proofs.Marks.SlotMoves.{KeepOrLose, stabilized_slots}
use Rattle.sled_core.specs.LogSegments.{begins_from}
use Rattle.sled_core.specs.Tail.{place_of_mark}
use Rattle.sled_core.proofs.Cleared.Emptied.{NoneNeeds}
use Rattle.sled_core.proofs.Tail.Multiples.{lower_multiple, next_multiple, put_down}

-- A segment that is due for a mark ends where that one's begins, or below.
pub due_ends : (size : ℕ) (mark : ℤ) (place : ℕ) → is_due size mark place ≡ true → place + size ≤ begins_from size mark
due_ends size (pos n) place due = grind (arith, nat_tests, due)
due_ends size (negsuc n) place due = absurd (let both : false ≡ true = due in cc)

-- What is a multiple of the size, and not above a place, isn't above the beginning of the place's segment.
multiple_below : (size : ℕ) → 256 ≤ size → (end place : ℕ) → end % size ≡ 0 → end ≤ place → end ≤ place / size * size
multiple_below size some end place whole le =
    let parts = (put_down size end).0 in let low = lower_multiple size some end place le in omega (arith, parts, whole, low)

module _ (size : ℕ) (some : 256 ≤ size) (low high : ℕ) (G : History) (m : Machine) (mark : ℤ) where
  -- What is held counts from the one place, and then from the other: what isn't active, and what is due, ends below where the other's segment begins.
  pub account_ends : IsAccountOf size low G m → low ≤ high → (k : ℕ) → is_free (slot_at m k).state ≡ false → is_active (slot_at m k).state ≡ false
      → (slot_at m k).lsn + size ≤ high / size * size
  account_ends account up k taken idle =
      multiple_below size some ((slot_at m k).lsn + size) high (next_multiple size (slot_at m k).lsn (account.aligned k taken))
      (let ends = account.stable k taken idle in omega (arith, ends, up))

  pub due_under : begins_from size mark ≤ high → (place : ℕ) → is_due size mark place ≡ true → place + size ≤ high / size * size
  due_under reached place due =
      let ends = due_ends size mark place due in
      let below = multiple_below size some (begins_from size mark) high (put_down size (place_of_mark mark)).1 reached in
      omega (arith, ends, below)

  pub account_slots : IsAccountOf size low G m → low ≤ high → begins_from size mark ≤ high
      → KeepOrLose size (high / size * size) m (stabilized size mark m).machine
  account_slots account up reached =
      stabilized_slots size (high / size * size) mark m account.cut_off (account_ends account up) (due_under reached)

  pub free_needs_none : IsAccountOf size high G (stabilized size mark m).machine → (k to : ℕ)
      → is_free (slot_at (stabilized size mark m).machine k).state ≡ true → NoneNeeds size G k high to
  free_needs_none account k to free cut above below page e entry =
      free_unneeded size high G (stabilized size mark m).machine account cut page k e above entry free
