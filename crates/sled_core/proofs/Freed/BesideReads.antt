-- The slots beside that of a write: headers that stood in them stand in what is left, and what is left is read in them as before the write.
use Rattle.std.proofs.Common.{◌≡◌, ◌≢◌, ◌⊎◌, ◌+◌, ◌*◌, ◌/◌, ◌≤◌, ℕ, ℤ, pos, List, length, refl, arith, inl, inr}
use Rattle.std.proofs.Math.Nat.{mul-mod_left}
use Rattle.sled_codec.specs.Places.{part}
use Rattle.sled_codec.specs.Record.{IsHeader}
use Rattle.sled_store.specs.Device.{LeavesLog, Placement}
use Rattle.sled_store.specs.Foreign.{NoForeignLog}
use Rattle.sled_store.specs.Readers.{at_start}
use Rattle.sled_core.proofs.Freed.ReadsAlike.{ReadsAlike, ReadsSame, same_along}
use Rattle.sled_core.proofs.Torn.TornLemmas.{after_write, part_left}
use Rattle.sled_core.proofs.Torn.TornRecords.{long_enough}
use Rattle.sled_core.proofs.Torn.WrittenBeside as other_slots
use Rattle.sled_core.proofs.Torn.WrittenParts.{all_there, in_segment, in_this_file, record_where, twenty}

-- What is left of a write to one slot, and another slot.
module _ (sum : List ℕ → ℕ) (size : ℕ) (some : 256 ≤ size) (old : List ℕ) (slot from : ℕ) (asked now left : List ℕ) (inside : from + length asked ≤ size)
    (no_more : length now ≤ length asked) (leaves : LeavesLog (after_write old (slot * size + from) asked now) left) (k : ℕ) (other : k ≢ slot) where
  abbrev at : ℕ
  at = slot * size + from

  -- it lies beside the write
  pub beside_write : (k * size + size ≤ at) ⊎ (at + length asked ≤ k * size)
  beside_write = other_slots.apart sum size old slot from asked now left inside no_more leaves (omega (arith, some)) k other

  -- A header that stood there stands.
  pub header_beside : (lsn mark : ℤ) → IsHeader sum (part old (k * size) 20) lsn mark → part left (k * size) 20 ≡ part old (k * size) 20
  header_beside lsn mark is =
      let there = in_this_file sum size old old (k * size) 20 (omega arith) (twenty sum size old (k * size) lsn mark is) refl in
      part_left old at asked now left no_more leaves (k * size) 20 there
      (elim beside_write [ inl before ↦ inl (omega (arith, before, some)) | inr past ↦ inr (omega (arith, past)) ])

  module _ {placed : List Placement} (only_own : NoForeignLog sum size (after_write old at asked now) placed left) (place : ℕ) (mark : ℤ) where
    -- What is left is read there as before.
    pub left_as_old : IsHeader sum (part left (k * size) 20) (pos place) mark → ReadsAlike sum size left old k place
    left_as_old is = record {
      header = other_slots.header_stood sum size old slot from asked now left inside no_more leaves (omega (arith, some)) k other only_own (pos place) mark is;
      scans = other_slots.scan_stood sum size old slot from asked now left inside no_more leaves (omega (arith, some)) k other only_own place mark is;
      bytes = λ ms next path. same_along sum size left old k place same 20 at_start ms next path;
    } where
      same : ReadsSame sum size left old k place
      same here room comes h body len stands =
          let fits = in_segment sum size left (k * size) (mul-mod_left k size) here (place / size) h body len (omega (arith, room)) stands in
          let whole = all_there sum size left (k * size + here) (place / size) h body len stands in
          let eight = long_enough sum size left (k * size + here) (place / size) h body len stands in
          elim (record_where sum size old at asked now left no_more leaves only_own k place mark is here comes room h body len stands) [
            | inl stood ↦ stood
            | inr write ↦ (
                let begins = write.begins in
                let ends = write.ends in
                absurd (elim beside_write [ inl before ↦ omega (arith, before, begins, fits, eight) | inr past ↦ omega (arith, past, ends, whole, eight) ]))
          ]
