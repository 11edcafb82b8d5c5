-- A byte that is not loose after a write or a cut was not loose before, and reads as before.
use Rattle.std.proofs.Common.{◌≡◌, ◌⊎◌, ◌≤◌, ◌<◌, ◌+◌, ◌||◌, ◌&&◌, ℕ, zero, suc, min, max, Bool, true, false, nat_lt, nat_le, List, length, take, get_or, refl, arith, inl, inr}
use Rattle.std.proofs.lemmas.Bool.Decides.{nat_tests}
use Rattle.std.proofs.lemmas.Bool.{cases_lt}
use Rattle.std.proofs.lemmas.List.{get_or-take}
use Rattle.sled_store.specs.Device.{LogState, log_step, overwritten, end_of, Wrote, Cut}
use Rattle.sled_store.proofs.LogFile.OverwrittenLemmas.{overwritten-below, overwritten-above}

pub end_of-some : (at n : ℕ) → 0 < n → end_of at n ≡ at + n
end_of-some at zero some = absurd (omega arith)
end_of-some at (suc n) some = refl

pub end_of-le : (at n m : ℕ) → n ≤ m → end_of at n ≤ at + m
end_of-le at zero m le = omega arith
end_of-le at (suc n) m le = omega arith

pub end_of-mono : (at n m : ℕ) → n ≤ m → end_of at n ≤ end_of at m
end_of-mono at zero m le = omega arith
end_of-mono at (suc n) zero le = absurd (omega arith)
end_of-mono at (suc n) (suc m) le = omega arith

pub either_false : (a b : Bool) → a || b ≡ false → (a ≡ false) × (b ≡ false)
either_false false b none = (refl, none)
either_false true b none = absurd (cc)

pub or-true : (a : Bool) → a || true ≡ true
or-true true = refl
or-true false = refl

pub or-swap : (a b c : Bool) → (a || b) || c ≡ (a || c) || b
or-swap true b c = refl
or-swap false true true = refl
or-swap false true false = refl
or-swap false false true = refl
or-swap false false false = refl

pub inside : (from end i : ℕ) → from ≤ i → i < end → nat_le from i && nat_lt i end ≡ true
inside from end i low high = grind (arith, nat_tests)

pub outside : (from end i : ℕ) → nat_le from i && nat_lt i end ≡ false → (i < from) ⊎ (end ≤ i)
outside from end i apart = elim (cases_lt i from) [ inl low ↦ inl low | inr high ↦ elim (cases_lt i end) [ inl in_range ↦ absurd (clash (inside from end i high in_range) apart) | inr past ↦ inr past ] ]
  where
    clash : {b : Bool} → b ≡ true → b ≡ false → ⊥
    clash is not = cc

pub within_cut : (cut i : ℕ) → nat_le cut i ≡ false → i < cut
within_cut cut i low = grind (arith, nat_tests)

-- outside the range of a write a byte stays
pub unwritten : (bytes : List ℕ) (at : ℕ) (asked now : List ℕ) (i : ℕ) → nat_le (min at (length bytes)) i && nat_lt i (end_of at (max (length asked) (length now))) ≡ false
    → get_or (overwritten bytes at now) i 0 ≡ get_or bytes i 0
unwritten bytes at asked now i apart = elim (outside (min at (length bytes)) (end_of at (max (length asked) (length now))) i apart) [
  | inl low ↦ overwritten-below bytes at now i (omega arith) (omega arith)
  | inr high ↦ overwritten-above bytes at now i (omega (arith, end_of-mono at (length now) (max (length asked) (length now)) (omega arith)))
]

pub firm_written : (s : LogState) (at : ℕ) (asked now : List ℕ) (i : ℕ) → (log_step (Wrote at asked now) s).is_unsynced i ≡ false
    → (s.is_unsynced i ≡ false) × (get_or (overwritten s.bytes at now) i 0 ≡ get_or s.bytes i 0)
firm_written s at asked now i firm =
    let parts = either_false (s.is_unsynced i) (nat_le (min at (length s.bytes)) i && nat_lt i (end_of at (max (length asked) (length now)))) firm in
    (parts.0, unwritten s.bytes at asked now i parts.1)

pub firm_cut : (s : LogState) (asked now i : ℕ) → (log_step (Cut asked now) s).is_unsynced i ≡ false → (s.is_unsynced i ≡ false) × (get_or (take now s.bytes) i 0 ≡ get_or s.bytes i 0)
firm_cut s asked now i firm =
    let parts = either_false (s.is_unsynced i) (nat_le (min asked now) i) firm in
    let low : i < min asked now = within_cut (min asked now) i parts.1 in
    (parts.0, get_or-take now s.bytes i 0 (omega arith))
