-- Where nothing is due for a mark nothing is for a lower one; nor where each active segment has the state and the place that it had.
use Rattle.std.proofs.Common.{◌≡◌, ◌∙◌, ◌+◌, ◌*◌, ◌/◌, ◌<◌, ◌≤◌, ◌≤ℤ◌, nat_le, ℕ, zero, suc, ℤ, pos, negsuc, false, sym, refl, ap, arith}
use Rattle.std.proofs.lemmas.Bool.Decides.{nat_tests}
use Rattle.std.proofs.lemmas.Int.{ints}
use Rattle.sled_store.specs.SegmentStates.{Machine, is_due}
use Rattle.sled_store.specs.inside.SegmentStates.{NoneDue}
use Rattle.sled_store.proofs.Marks.MarkSteps.{SameSegments}
use Rattle.sled_store.proofs.Marks.StableSteps.{segment_mono}

-- A segment isn't due for a place whose segment isn't above it.
pub not_due : (size floor place : ℕ) → 0 < size → floor / size * size ≤ place → is_due size (pos floor) place ≡ false
not_due size floor place some under = grind (arith, nat_tests, some, under)

-- What isn't due for a mark isn't for a lower one,
lower_not_due : (size : ℕ) (low high : ℤ) → low ≤ℤ high → (place : ℕ) → is_due size high place ≡ false → is_due size low place ≡ false
lower_not_due zero (pos a) (pos b) le place idle =
    let none : a / 0 * 0 ≡ 0 = omega arith in
    let other : b / 0 * 0 ≡ 0 = omega arith in
    ap (λ n. nat_le (place + 0) n) (none ∙ sym other) ∙ idle
lower_not_due (suc n) (pos a) (pos b) le place idle =
    let under = segment_mono (suc n) a b (omega arith) (omega (arith, ints, le)) in grind (arith, nat_tests, idle, under)
lower_not_due size (pos a) (negsuc b) le place idle = absurd (omega (arith, ints, le))
lower_not_due size (negsuc a) high le place idle = refl

-- so it is of all that are active,
pub none_lower : (size : ℕ) (low high : ℤ) → low ≤ℤ high → (m : Machine) → NoneDue size high m → NoneDue size low m
none_lower size low high le m none k active = lower_not_due size low high le _ (none k active)

-- and of slots that have the segments that they had.
pub none_same : (size : ℕ) (mark : ℤ) (m n : Machine) → SameSegments m.slots n.slots → NoneDue size mark m → NoneDue size mark n
none_same size mark m n same none k active =
    ap (λ (place : ℕ). is_due size mark place) (same k).lsn ∙ none k (sym (same k).active ∙ active)
