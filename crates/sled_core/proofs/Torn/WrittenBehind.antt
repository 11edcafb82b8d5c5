-- Where a write behind the header of a segment was torn, that segment is found, and in it all is met that was met before, and then the first of the records that were written.
use Rattle.std.proofs.Common.{◌≡◌, ◌≤◌, ◌<◌, ◌+◌, ◌*◌, ◌%◌, ℕ, ℤ, pos, List, ◌++◌, length, take, get_or, sym, arith, refl, subst, inl, inr}
use Rattle.std.proofs.Math.Nat.{mul-mod_left}
use Rattle.sled_codec.specs.Places.{part}
use Rattle.sled_codec.specs.Record.{IsHeader}
use Rattle.sled_store.specs.Device.{overwritten, LeavesLog, Placement}
use Rattle.sled_store.specs.Foreign.{NoForeignLog}
use Rattle.sled_store.specs.Readers.{at_start}
use Rattle.sled_core.specs.declared.iterator.scan.ScannedRecord.{ScannedRecord}
use Rattle.sled_core.specs.declared.iterator.scan.ScanEnd.{ScanEnd}
use Rattle.sled_core.specs.Scan.{IsPath, IsEnd, IsScan}
use Rattle.sled_core.proofs.Torn.TornLemmas.{after_write, part_left}
use Rattle.sled_core.proofs.Torn.WrittenParts.{twenty, in_this_file, comes_along, paths_joined, path_stays, header_where}
use Rattle.sled_core.proofs.Torn.WrittenRecords.{AreClear, MeetsFirst, meets_first}

module _ (sum : List ℕ → ℕ) (size : ℕ) (old : List ℕ) (slot from : ℕ) (asked now left : List ℕ) (no_more : length now ≤ length asked) (leaves : LeavesLog (after_write old (slot * size + from) asked now) left) (behind : 20 ≤ from) where
  abbrev new : List ℕ
  new = overwritten old (slot * size + from) asked

  aligned : slot * size % size ≡ 0
  aligned = mul-mod_left slot size

  -- The header that stood before the write stays.
  pub header_same : (lsn mark : ℤ) → IsHeader sum (part old (slot * size) 20) lsn mark → part left (slot * size) 20 ≡ part old (slot * size) 20
  header_same lsn mark is =
      let there = in_this_file sum size old old (slot * size) 20 (omega arith) (twenty sum size old (slot * size) lsn mark is) refl in
      part_left old (slot * size + from) asked now left no_more leaves (slot * size) 20 there (inl (omega (arith, behind)))

  pub header_left : (lsn mark : ℤ) → IsHeader sum (part old (slot * size) 20) lsn mark → IsHeader sum (part left (slot * size) 20) lsn mark
  header_left lsn mark is = subst (λ (l : List ℕ). IsHeader sum l lsn mark) (sym (header_same lsn mark is)) is

  module _ {placed : List Placement} (only_own : NoForeignLog sum size (after_write old (slot * size + from) asked now) placed left) where
    -- A header that passes in the slot did so before.
    pub header_stood : (lsn mark : ℤ) → IsHeader sum (part left (slot * size) 20) lsn mark → part old (slot * size) 20 ≡ part left (slot * size) 20
    header_stood lsn mark is = elim (header_where sum size old (slot * size + from) asked now left no_more leaves only_own slot lsn mark is) [
      | inl same ↦ same
      | inr write ↦ (let begins = write.begins in absurd (omega (arith, begins, behind)))
    ]

    module _ (until : ℕ) (covers : from + length asked ≤ until) (clean : (i : ℕ) → slot * size + from ≤ i → i < slot * size + until → get_or old i 0 ≡ 0) (place : ℕ) (mark : ℤ) (header : IsHeader sum (part old (slot * size) 20) (pos place) mark)
        (met : List ScannedRecord) (stood : IsPath sum size old (slot * size) place 20 met from) where
      -- what was met up to the write is met
      pub before_left : IsPath sum size left (slot * size) place 20 met from
      before_left = path_stays sum size old (slot * size + from) asked now left no_more leaves (slot * size) place aligned 20 met from (inl (omega arith)) stood

      module _ (more : List ScannedRecord) (stop : ℕ) (why : ScanEnd) where
        -- Behind it the first of the records are met that are met behind it where all is written.
        pub meets_on : AreClear size until from more → IsPath sum size new (slot * size) place from more stop → IsEnd sum size new (slot * size) place stop why → MeetsFirst sum size new left (slot * size) place from more stop why
        meets_on clear path end =
            let comes = comes_along sum size left (slot * size) aligned place 20 met from before_left at_start in
            meets_first sum size old slot from asked now left no_more leaves only_own until covers clean place mark (header_left (pos place) mark header) from more stop why (omega arith) clear comes path end

        -- So much for all that is met in the slot.
        module _ (first : MeetsFirst sum size new left (slot * size) place from more stop why) where
          pub scan_left : IsScan sum size left (slot * size) place (met ++ take first.count more) first.end first.ending
          unfolding IsScan
          scan_left = (paths_joined sum size left (slot * size) place 20 met from (take first.count more) first.end before_left first.path, first.ends)
