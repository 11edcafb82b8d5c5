-- Where a write to one slot was torn, the other slots have the same segments as before, and all is met in them as before.
use Rattle.std.proofs.Common.{◌≡◌, ◌≢◌, ◌⊎◌, ◌≤◌, ◌<◌, ◌+◌, ◌*◌, ℕ, ℤ, pos, List, length, sym, arith, subst, inl, inr}
use Rattle.std.proofs.Math.Nat.{mul-le-mul_right, suc-mul}
use Rattle.std.proofs.lemmas.Bool.{cases_order}
use Rattle.sled_codec.specs.Places.{part}
use Rattle.sled_codec.specs.Record.{IsHeader}
use Rattle.sled_store.specs.Device.{LeavesLog, Placement}
use Rattle.sled_store.specs.Foreign.{NoForeignLog}
use Rattle.sled_core.specs.declared.iterator.Segment.{Segment}
use Rattle.sled_core.specs.declared.iterator.scan.ScannedRecord.{ScannedRecord}
use Rattle.sled_core.specs.declared.iterator.scan.ScanEnd.{ScanEnd}
use Rattle.sled_core.specs.inside.Scan.{IsFoundSegment}
use Rattle.sled_core.specs.Scan.{IsScan}
use Rattle.sled_core.proofs.Read.FoundLemmas.{found_there}
use Rattle.sled_core.proofs.Torn.TornLemmas.{after_write, part_left}
use Rattle.sled_core.proofs.Torn.WrittenParts.{twenty, header_where, scan_apart, scan_back}

-- the header that is found in a slot, where its bytes are the same
pub found_moved : (sum : List ℕ → ℕ) (size : ℕ) (log log' : List ℕ) (least : ℕ) (s : Segment) → part log' s.slot 20 ≡ part log s.slot 20 → IsFoundSegment sum size log least s → IsFoundSegment sum size log' least s
found_moved sum size log log' least s same is = record {
  slot = is.slot;
  header = subst (λ (l : List ℕ). IsHeader sum l (pos s.place) s.mark) (sym same) is.header;
  not_below = is.not_below;
}

-- one slot lies before another
slots_apart : (size a b : ℕ) → a < b → a * size + size ≤ b * size
slots_apart size a b lower =
    let one_more : a + 1 ≤ b = omega (arith, lower) in
    omega (arith, mul-le-mul_right size one_more, suc-mul a size)

module _ (sum : List ℕ → ℕ) (size : ℕ) (old : List ℕ) (slot from : ℕ) (asked now left : List ℕ) (inside : from + length asked ≤ size) (no_more : length now ≤ length asked)
    (leaves : LeavesLog (after_write old (slot * size + from) asked now) left) (long : 20 ≤ size) (k : ℕ) (other : k ≢ slot) where
  -- the write doesn't touch it
  pub apart : (k * size + size ≤ slot * size + from) ⊎ (slot * size + from + length asked ≤ k * size)
  apart = elim (cases_order k slot) [
    | inl same ↦ absurd (other same)
    | inr (inl lower) ↦ (let far = slots_apart size k slot lower in inl (omega (arith, far)))
    | inr (inr higher) ↦ (let far = slots_apart size slot k higher in inr (omega (arith, far, inside)))
  ]

  -- A segment that was found there is found.
  pub found_stays : (least : ℕ) (s : Segment) → s.slot ≡ k * size → IsFoundSegment sum size old least s → IsFoundSegment sum size left least s
  found_stays least s here is =
      let there = found_there sum size old least s is in
      let beside : (s.slot + 20 ≤ slot * size + from) ⊎ (slot * size + from + length asked ≤ s.slot) = elim apart [ inl before ↦ inl (omega (arith, before, here, long)) | inr past ↦ inr (omega (arith, past, here)) ] in
      found_moved sum size old left least s (part_left old (slot * size + from) asked now left no_more leaves s.slot 20 there beside) is

  module _ {placed : List Placement} (only_own : NoForeignLog sum size (after_write old (slot * size + from) asked now) placed left) where
    -- A header that passes there did so before.
    pub header_stood : (lsn mark : ℤ) → IsHeader sum (part left (k * size) 20) lsn mark → part old (k * size) 20 ≡ part left (k * size) 20
    header_stood lsn mark is =
        let whole = twenty sum size left (k * size) lsn mark is in
        elim (header_where sum size old (slot * size + from) asked now left no_more leaves only_own k lsn mark is) [
          | inl same ↦ same
          | inr write ↦ (
              let begins = write.begins in
              let ends = write.ends in
              absurd (elim apart [ inl before ↦ omega (arith, before, begins, long) | inr past ↦ omega (arith, past, ends, whole) ]))
        ]

    -- A segment that is found there was found before.
    pub found_before : (least : ℕ) (s : Segment) → s.slot ≡ k * size → IsFoundSegment sum size left least s → IsFoundSegment sum size old least s
    found_before least s here is =
        let header = subst (λ n. IsHeader sum (part left n 20) (pos s.place) s.mark) here is.header in
        let same = subst (λ n. part old n 20 ≡ part left n 20) (sym here) (header_stood (pos s.place) s.mark header) in
        found_moved sum size left old least s same is

    -- All is met there as before.
    pub scan_stays : (place : ℕ) (mark : ℤ) → IsHeader sum (part left (k * size) 20) (pos place) mark
        → (met : List ScannedRecord) (stop : ℕ) (why : ScanEnd) → IsScan sum size old (k * size) place met stop why → IsScan sum size left (k * size) place met stop why
    scan_stays place mark header = scan_apart sum size old (slot * size + from) asked now left no_more leaves only_own k place mark header apart

    pub scan_stood : (place : ℕ) (mark : ℤ) → IsHeader sum (part left (k * size) 20) (pos place) mark
        → (met : List ScannedRecord) (stop : ℕ) (why : ScanEnd) → IsScan sum size left (k * size) place met stop why → IsScan sum size old (k * size) place met stop why
    scan_stood place mark header = scan_back sum size old (slot * size + from) asked now left no_more leaves only_own k place mark header apart
