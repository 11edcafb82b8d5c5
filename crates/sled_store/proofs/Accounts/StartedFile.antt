-- The log file that an accountant leaves where it has started: slots that the snapshot doesn't use are zeros, and those at the end that are free are cut off but for one.
use Rattle.std.proofs.Common.{◌≡◌, ◌∙◌, ◌+◌, ◌-◌, ◌*◌, ◌≤◌, ◌<◌, ◌≢◌, ℕ, zero, suc, min, Bool, true, false, if◌then◌else◌, List, [], ◌∷◌, length, take, drop, refl, sym, ap, arith, inl, inr, length-take, get_or}
use Rattle.std.specs.List.{All, Contains}
use Rattle.std.proofs.Math.Nat.{mul-le-mul_right}
use Rattle.std.proofs.lemmas.Bool.{cases_lt}
use Rattle.std.proofs.lemmas.List.{take_all, take-take, get_or-take, get_or_past}
use Rattle.sled_codec.specs.Places.{part}
use Rattle.sled_codec.specs.Snapshots.{SnapshotModel}
use Rattle.sled_store.specs.Begin.{slots_of, is_used, unused, filling}
use Rattle.sled_store.specs.Device.{Trace, LogState, state_of, at_rest, Cut, Synced}
use Rattle.sled_store.specs.Script.{after_all}
use Rattle.sled_store.specs.SegmentStates.{SlotState, may_be_cut, left_after, cutting}
use Rattle.sled_store.specs.Started.{found, started}
use Rattle.sled_store.specs.inside.Started.{left_slots}
use Rattle.sled_store.proofs.Accounts.StartNext.{left_below, used_left}
use Rattle.sled_store.proofs.LogFile.LogLemmas.{part_cut}
use Rattle.sled_store.proofs.Segments.FilledLemmas.{filled, filling-log, filling-snapshots, filling-blobs, filled_grows, filled_covered, filled_part, filled_byte, filled_zero, free_below, slot_before, begins_in}
use Rattle.sled_store.proofs.Traces.ScriptLemmas.{after_joined}

-- Slots at the end are cut off.

module _ (size : ℕ) (xs : List SlotState) where
  cutting_from : (n : ℕ) (t : Trace) (old : List ℕ) → (state_of t).log ≡ at_rest (take (n * size) old) → (state_of (after_all (cutting size n xs) t)).log ≡ at_rest (take (left_after n xs * size) old)
  cutting_from zero t old is = is
  cutting_from (suc k) t old is = by (may_be_cut k xs) (cutting_from k (Synced ∷ Cut (k * size) (k * size) ∷ t) old shorter)
    where
      le : k ≤ suc k
      le = omega arith

      shorter : at_rest (take (k * size) (state_of t).log.bytes) ≡ at_rest (take (k * size) old)
      shorter = ap (λ (l : LogState). at_rest (take (k * size) l.bytes)) is ∙ ap at_rest (take-take (k * size) (suc k * size) old (mul-le-mul_right size le))

      by : (b : Bool) → (state_of (after_all (cutting size k xs) (Synced ∷ Cut (k * size) (k * size) ∷ t))).log ≡ at_rest (take (left_after k xs * size) old)
          → (state_of (after_all (if b then Cut (k * size) (k * size) ∷ Synced ∷ cutting size k xs else []) t)).log ≡ at_rest (take ((if b then left_after k xs else suc k) * size) old)
      by true on = on
      by false on = is

  -- what is left of a settled file
  pub cutting-log : (n : ℕ) (t : Trace) (old : List ℕ) → (state_of t).log ≡ at_rest old → length old ≤ n * size → (state_of (after_all (cutting size n xs) t)).log ≡ at_rest (take (left_after n xs * size) old)
  cutting-log n t old is short = cutting_from n t old (is ∙ ap at_rest (sym (take_all (n * size) old short)))

  -- snapshots and blobs stay
  pub cutting-snapshots : (n : ℕ) (t : Trace) → (state_of (after_all (cutting size n xs) t)).snapshots ≡ (state_of t).snapshots
  cutting-snapshots zero t = refl
  cutting-snapshots (suc k) t = by (may_be_cut k xs) (cutting-snapshots k (Synced ∷ Cut (k * size) (k * size) ∷ t))
    where
      by : (b : Bool) → (state_of (after_all (cutting size k xs) (Synced ∷ Cut (k * size) (k * size) ∷ t))).snapshots ≡ (state_of t).snapshots
          → (state_of (after_all (if b then Cut (k * size) (k * size) ∷ Synced ∷ cutting size k xs else []) t)).snapshots ≡ (state_of t).snapshots
      by true on = on
      by false on = refl

  pub cutting-blobs : (n : ℕ) (t : Trace) → (state_of (after_all (cutting size n xs) t)).blobs ≡ (state_of t).blobs
  cutting-blobs zero t = refl
  cutting-blobs (suc k) t = by (may_be_cut k xs) (cutting-blobs k (Synced ∷ Cut (k * size) (k * size) ∷ t))
    where
      by : (b : Bool) → (state_of (after_all (cutting size k xs) (Synced ∷ Cut (k * size) (k * size) ∷ t))).blobs ≡ (state_of t).blobs
          → (state_of (after_all (if b then Cut (k * size) (k * size) ∷ Synced ∷ cutting size k xs else []) t)).blobs ≡ (state_of t).blobs
      by true on = on
      by false on = refl

-- The whole of a start.

-- the bytes of the log file behind it
abbrev pub started_file : ℕ → List ℕ → SnapshotModel → List ℕ
started_file size log s = take (left_slots size (length log) s * size) (filled size log (unused size (slots_of size (length log)) s))

module _ (size : ℕ) (some : 0 < size) (log : List ℕ) (s : SnapshotModel) where
  abbrev slots : ℕ
  slots = slots_of size (length log)

  abbrev free : List ℕ
  free = unused size slots s

  abbrev left : ℕ
  left = left_slots size (length log) s

  abbrev whole : List ℕ
  whole = filled size log free

  abbrev new : List ℕ
  new = started_file size log s

  free_slots : All (λ k. k < slots) free
  free_slots = λ k d lt. (free_below (is_used size s) slots k d lt).0

  pub free_begin : All (λ k. k * size < length log) free
  free_begin = λ k d lt. begins_in size (length log) (get_or free k d) some (free_slots k d lt)

  pub grows : length log ≤ length whole
  grows = filled_grows size some free log

  pub started_covered : length whole ≤ slots * size
  started_covered = filled_covered size some log free free_slots

  pub left_within : left ≤ slots
  left_within = left_below (found size slots s).slots slots

  -- What a device shows once the calls were made.
  module _ (t : Trace) where
    parts : (after_all (started size (length log) s).calls t) ≡ after_all (cutting size slots (found size slots s).slots) (after_all (filling size free) t)
    parts = after_joined (filling size free) (cutting size slots (found size slots s).slots) t

    pub started-log : (state_of t).log ≡ at_rest log → (state_of (after_all (started size (length log) s).calls t)).log ≡ at_rest new
    started-log is =
        ap (λ (h : Trace). (state_of h).log) parts
        ∙ cutting-log size (found size slots s).slots slots (after_all (filling size free) t) whole (filling-log size free t log is) started_covered

    pub started-snapshots : (state_of (after_all (started size (length log) s).calls t)).snapshots ≡ (state_of t).snapshots
    started-snapshots = ap (λ (h : Trace). (state_of h).snapshots) parts ∙ cutting-snapshots size (found size slots s).slots slots (after_all (filling size free) t) ∙ filling-snapshots size free t

    pub started-blobs : (state_of (after_all (started size (length log) s).calls t)).blobs ≡ (state_of t).blobs
    started-blobs = ap (λ (h : Trace). (state_of h).blobs) parts ∙ cutting-blobs size (found size slots s).slots slots (after_all (filling size free) t) ∙ filling-blobs size free t

  -- How long the file is.
  new_long : length new ≡ min (left * size) (length whole)
  new_long = length-take (left * size) whole

  -- what lies in the file, and in what is left of it
  pub started_inside : (to : ℕ) → to ≤ left * size → to ≤ length log → to ≤ length new
  started_inside to low there = omega (arith, new_long, low, there, grows)

  pub started_short : length new ≤ left * size
  started_short = omega (arith, new_long)

  -- A slot that is used has the bytes that it had.
  module _ (j : ℕ) (used : is_used size s j ≡ true) (inside : j < slots) where
    apart : All (λ k. k ≢ j) free
    apart = λ k d lt same. (let unused_k = (free_below (is_used size s) slots k d lt).1 in let both : true ≡ false = sym used ∙ ap (is_used size s) (sym same) ∙ unused_k in cc)

    low : j * size + size ≤ left * size
    low = slot_before size j left (used_left size slots s j used inside)

    pub started_there : (lid n : ℕ) → lid + n ≤ j * size + size → lid + n ≤ length log → lid + n ≤ length new
    started_there lid n ends there = started_inside (lid + n) (omega (arith, low, ends)) there

    pub started_part : (lid n : ℕ) → j * size ≤ lid → lid + n ≤ j * size + size → lid + n ≤ length log → part new lid n ≡ part log lid n
    started_part lid n begins ends there =
        let count : lid + n - lid ≡ n = omega arith in
        ap (λ c. take c (drop lid new)) (sym count)
        ∙ part_cut whole (left * size) lid (lid + n) (omega (arith, there, grows)) (omega (arith, ends, low))
        ∙ ap (λ c. take c (drop lid whole)) count
        ∙ filled_part size some free log j lid n free_begin apart begins ends

    pub started_byte : (i : ℕ) → j * size ≤ i → i < j * size + size → get_or new i 0 ≡ get_or log i 0
    started_byte i begins ends = get_or-take (left * size) whole i 0 (omega (arith, ends, low)) ∙ filled_byte size some free log j i free_begin apart begins ends

  -- Nothing stands behind it.
  pub started_past : (i : ℕ) → left * size ≤ i → get_or new i 0 ≡ 0
  started_past i above = get_or_past new i 0 (omega (arith, above, new_long))

  -- A slot that isn't used has zeros, or was cut off.
  pub started_zero : (k i : ℕ) → Contains free k → k * size ≤ i → i < k * size + size → get_or new i 0 ≡ 0
  started_zero k i there begins ends = elim (cases_lt i (left * size)) [
    | inl below ↦ get_or-take (left * size) whole i 0 below ∙ filled_zero size some free log k i free_begin there begins ends
    | inr above ↦ started_past i above
  ]
