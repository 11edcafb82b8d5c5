-- A range of the log file that nothing touched since the last sync reads the same after each crash, and stays so behind writes and cuts elsewhere.
use Rattle.std.proofs.Common.{◌≡◌, ◌⊎◌, ◌≤◌, ◌<◌, ◌+◌, ◌-◌, ◌||◌, ◌&&◌, ℕ, min, max, Bool, false, nat_lt, nat_le, List, length, take, drop, get_or, refl, sym, ◌∙◌, ap, arith, inl, inr, length-take, length-drop}
use Rattle.std.proofs.lemmas.Bool.Decides.{nat_tests}
use Rattle.std.proofs.lemmas.List.{get_or-take, get_or-drop}
use Rattle.std.proofs.lemmas.Grind.{same_number_lists}
use Rattle.sled_store.specs.Device.{LogState, log_step, at_rest, overwritten, end_of, LeavesLog, Wrote, Cut}
use Rattle.sled_store.specs.inside.Durable.{IsDurable}
use Rattle.sled_store.proofs.LogFile.OverwrittenLemmas.{length-overwritten, overwritten-below, overwritten-above}
use Rattle.sled_store.proofs.LogFile.LooseLemmas.{end_of-le, firm_written, firm_cut}

-- The same bytes, read at each offset of a range, are the same part.
pub same_part : (xs ys : List ℕ) (from to : ℕ) → to ≤ length xs → to ≤ length ys → ((i : ℕ) → from ≤ i → i < to → get_or xs i 0 ≡ get_or ys i 0)
    → take (to - from) (drop from xs) ≡ take (to - from) (drop from ys)
same_part xs ys from to in_xs in_ys same =
    same_number_lists (take (to - from) (drop from xs)) (take (to - from) (drop from ys))
    (simp (length-take, length-drop) (omega arith))
    (λ k low. let short : k < to - from = part_short xs from to k low in
    get_or-take (to - from) (drop from xs) k 0 short ∙ get_or-drop from xs k 0 ∙ same (from + k) (omega arith) (omega arith)
    ∙ sym (get_or-take (to - from) (drop from ys) k 0 short ∙ get_or-drop from ys k 0))
  where
    part_short : (xs : List ℕ) (from to k : ℕ) → k < length (take (to - from) (drop from xs)) → k < to - from
    part_short xs from to k low = omega (arith, length-take (to - from) (drop from xs))

-- What a crash leaves.

pub durable_byte : (s : LogState) (from to : ℕ) (left : List ℕ) → IsDurable s from to → LeavesLog s left → (i : ℕ) → from ≤ i → i < to → get_or left i 0 ≡ get_or s.bytes i 0
durable_byte s from to left durable leaves i low high = leaves.kept i (omega (arith, durable.within, leaves.no_shorter)) (durable.firm i low high)

-- a durable range is in the file that is left
pub durable_there : (s : LogState) (from to : ℕ) (left : List ℕ) → IsDurable s from to → LeavesLog s left → to ≤ length left
durable_there s from to left durable leaves = omega (arith, durable.within, leaves.no_shorter)

-- and reads there as it does now
pub durable_left : (s : LogState) (from to : ℕ) (left : List ℕ) → IsDurable s from to → LeavesLog s left → take (to - from) (drop from left) ≡ take (to - from) (drop from s.bytes)
durable_left s from to left durable leaves =
    same_part left s.bytes from to (durable_there s from to left durable leaves) durable.there (durable_byte s from to left durable leaves)

-- After a sync, and after a crash, what is read is all that a crash leaves.
pub at_rest_left : (bytes left : List ℕ) → LeavesLog (at_rest bytes) left → left ≡ bytes
at_rest_left bytes left leaves =
    same_number_lists left bytes (omega (arith, leaves.no_shorter, leaves.no_longer)) (λ k low. leaves.kept k low refl)

-- What is durable.

-- all of a file at rest
pub durable_at_rest : (bytes : List ℕ) (from to : ℕ) → to ≤ length bytes → IsDurable (at_rest bytes) from to
durable_at_rest bytes from to le = record { within = le; there = le; firm = λ i low high. refl }

-- what was firm stays so outside the range of a write
firm_apart : (s : LogState) (at : ℕ) (asked now : List ℕ) (i : ℕ) → s.is_unsynced i ≡ false → (i < min at (length s.bytes)) ⊎ (at + max (length asked) (length now) ≤ i) → (log_step (Wrote at asked now) s).is_unsynced i ≡ false
firm_apart s at asked now i firm apart =
    let end = end_of at (max (length asked) (length now)) in
    let no_range : nat_le (min at (length s.bytes)) i && nat_lt i end ≡ false = out_of (min at (length s.bytes)) (at + max (length asked) (length now)) end i (end_of-le at (max (length asked) (length now)) (max (length asked) (length now)) (omega arith)) apart in
    ap (λ (b : Bool). b || (nat_le (min at (length s.bytes)) i && nat_lt i end)) firm ∙ no_range
  where
    out_of : (from top end i : ℕ) → end ≤ top → (i < from) ⊎ (top ≤ i) → nat_le from i && nat_lt i end ≡ false
    out_of from top end i le apart = grind (arith, nat_tests)

-- a write behind it, or in front of it
pub durable_written : (s : LogState) (at : ℕ) (asked now : List ℕ) (from to : ℕ) → (to ≤ at) ⊎ (at + max (length asked) (length now) ≤ from) → IsDurable s from to → IsDurable (log_step (Wrote at asked now) s) from to
durable_written s at asked now from to (inl behind) durable = record {
  within = durable.within;
  there = omega (arith, durable.there, length-overwritten s.bytes at now);
  firm = λ i low high. firm_apart s at asked now i (durable.firm i low high) (inl (omega (arith, durable.there)));
}
durable_written s at asked now from to (inr ahead) durable = record {
  within = durable.within;
  there = omega (arith, durable.there, length-overwritten s.bytes at now);
  firm = λ i low high. firm_apart s at asked now i (durable.firm i low high) (inr (omega arith));
}

-- a cut behind it
pub durable_cut : (s : LogState) (asked now from to : ℕ) → to ≤ asked → to ≤ now → IsDurable s from to → IsDurable (log_step (Cut asked now) s) from to
durable_cut s asked now from to in_asked in_now durable = record {
  within = omega (arith, durable.within);
  there = simp length-take (omega (arith, durable.there));
  firm = λ i low high. ap (λ (b : Bool). b || nat_le (min asked now) i) (durable.firm i low high) ∙ below (min asked now) i (omega arith);
}
  where
    below : (cut i : ℕ) → i < cut → nat_le cut i ≡ false
    below cut i low = grind (arith, nat_tests)

-- What is read.

-- a write elsewhere leaves a part as it was
pub part_written : (bytes : List ℕ) (at : ℕ) (now : List ℕ) (from to : ℕ) → to ≤ length bytes → (to ≤ at) ⊎ (at + length now ≤ from) → take (to - from) (drop from (overwritten bytes at now)) ≡ take (to - from) (drop from bytes)
part_written bytes at now from to there apart =
    same_part (overwritten bytes at now) bytes from to (omega (arith, length-overwritten bytes at now)) there (unread bytes at now from to there apart)
  where
    unread : (bytes : List ℕ) (at : ℕ) (now : List ℕ) (from to : ℕ) → to ≤ length bytes → (to ≤ at) ⊎ (at + length now ≤ from) → (i : ℕ) → from ≤ i → i < to → get_or (overwritten bytes at now) i 0 ≡ get_or bytes i 0
    unread bytes at now from to there (inl behind) i low high = overwritten-below bytes at now i (omega arith) (omega arith)
    unread bytes at now from to there (inr ahead) i low high = overwritten-above bytes at now i (omega (arith, end_of-le at (length now) (length now) (omega arith)))

-- so does a cut behind it
pub part_cut : (bytes : List ℕ) (now from to : ℕ) → to ≤ length bytes → to ≤ now → take (to - from) (drop from (take now bytes)) ≡ take (to - from) (drop from bytes)
part_cut bytes now from to there le =
    same_part (take now bytes) bytes from to (simp length-take (omega arith)) there (λ i low high. get_or-take now bytes i 0 (omega arith))

-- What a crash leaves before a call, it may leave after the call too.

pub before_write : (s : LogState) (at : ℕ) (asked now left : List ℕ) → LeavesLog s left → LeavesLog (log_step (Wrote at asked now) s) left
before_write s at asked now left leaves = record {
  no_shorter = leaves.no_shorter;
  no_longer = omega (arith, leaves.no_longer);
  kept = λ i low firm. let was = firm_written s at asked now i firm in leaves.kept i low was.0 ∙ sym was.1;
}

pub before_cut : (s : LogState) (asked now : ℕ) (left : List ℕ) → LeavesLog s left → LeavesLog (log_step (Cut asked now) s) left
before_cut s asked now left leaves = record {
  no_shorter = omega (arith, leaves.no_shorter);
  no_longer = leaves.no_longer;
  kept = λ i low firm. let was = firm_cut s asked now i firm in leaves.kept i low was.0 ∙ sym was.1;
}

-- What a crash leaves of a call that was torn, it may leave of the whole call.

pub torn_write : (s : LogState) (at : ℕ) (asked torn left : List ℕ) → length torn ≤ length asked → LeavesLog (log_step (Wrote at asked torn) s) left → LeavesLog (log_step (Wrote at asked asked) s) left
torn_write s at asked torn left le leaves =
    let torn_end : max (length asked) (length torn) ≡ max (length asked) (length asked) = omega arith in
    record {
      no_shorter = leaves.no_shorter;
      no_longer = omega (arith, leaves.no_longer, ap (end_of at) torn_end);
      kept = λ i low firm.
          let was = firm_written s at asked asked i firm in
          let still : (log_step (Wrote at asked torn) s).is_unsynced i ≡ false = ap (λ (n : ℕ). s.is_unsynced i || (nat_le (min at (length s.bytes)) i && nat_lt i (end_of at n))) torn_end ∙ firm in
          leaves.kept i low still ∙ (firm_written s at asked torn i still).1 ∙ sym was.1;
    }

pub torn_cut : (s : LogState) (asked torn : ℕ) (left : List ℕ) → asked ≤ torn → LeavesLog (log_step (Cut asked torn) s) left → LeavesLog (log_step (Cut asked asked) s) left
torn_cut s asked torn left le leaves =
    let same : min asked torn ≡ min asked asked = omega arith in
    record {
      no_shorter = omega (arith, leaves.no_shorter);
      no_longer = leaves.no_longer;
      kept = λ i low firm.
          let was = firm_cut s asked asked i firm in
          let still : (log_step (Cut asked torn) s).is_unsynced i ≡ false = ap (λ (n : ℕ). s.is_unsynced i || nat_le n i) same ∙ firm in
          leaves.kept i low still ∙ (firm_cut s asked torn i still).1 ∙ sym was.1;
    }
