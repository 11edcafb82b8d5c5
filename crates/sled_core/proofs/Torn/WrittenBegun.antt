-- Where a write that begins a segment in a slot of zeros was torn, no segment is found in the slot, or that one, and in it the first of the records that were written are met.
use Rattle.std.proofs.Common.{◌≡◌, ◌⊎◌, ◌≤◌, ◌<◌, ◌+◌, ◌-◌, ◌*◌, ◌∙◌, ℕ, ℤ, pos, List, length, take, drop, replicate, get_or, sym, ap, arith, subst, inl, inr, length-take}
use Rattle.std.proofs.lemmas.Grind.{same_number_lists}
use Rattle.std.proofs.lemmas.List.{length-replicate, get_or-replicate, get_or-take, get_or-drop}
use Rattle.sled_codec.specs.Places.{part}
use Rattle.sled_codec.specs.Record.{IsHeader}
use Rattle.sled_codec.proofs.Segments.{length-short_header}
use Rattle.sled_store.specs.Device.{overwritten, LeavesLog, Placement}
use Rattle.sled_store.specs.Foreign.{NoForeignLog}
use Rattle.sled_store.specs.Readers.{at_start}
use Rattle.sled_core.specs.declared.iterator.scan.ScannedRecord.{ScannedRecord}
use Rattle.sled_core.specs.declared.iterator.scan.ScanEnd.{ScanEnd}
use Rattle.sled_core.specs.Recoverable.{NoHeaderOfZeros}
use Rattle.sled_core.specs.Scan.{IsScan}
use Rattle.sled_core.proofs.Tail.LogFileLemmas.{part_laid}
use Rattle.sled_core.proofs.Torn.TornLemmas.{after_write}
use Rattle.sled_core.proofs.Torn.TornRecords.{same_or_not}
use Rattle.sled_core.proofs.Torn.WrittenParts.{twenty, header_where}
use Rattle.sled_core.proofs.Torn.WrittenRecords.{AreClear, MeetsFirst, meets_first}

-- Where all bytes are zeros, a part of them is zeros.
pub part_zeros : (log : List ℕ) (lid len : ℕ) → length (part log lid len) ≡ len → ((i : ℕ) → lid ≤ i → i < lid + len → get_or log i 0 ≡ 0) → part log lid len ≡ replicate len 0
part_zeros log lid len whole clean =
    same_number_lists (part log lid len) (replicate len 0) (omega (arith, whole, length-replicate {A = ℕ} len 0))
    (λ k low. let short : k < len = omega (arith, low, whole) in
    get_or-take len (drop lid log) k 0 short ∙ get_or-drop lid log k 0 ∙ clean (lid + k) (omega arith) (omega (arith, short)) ∙ sym (get_or-replicate len k 0 0 short))

-- In a slot of zeros no header passes.
pub none_in_zeros : (sum : List ℕ → ℕ) (size : ℕ) → NoHeaderOfZeros sum → 20 ≤ size → (log : List ℕ) (lid : ℕ) → ((i : ℕ) → lid ≤ i → i < lid + size → get_or log i 0 ≡ 0) → (lsn mark : ℤ) → IsHeader sum (part log lid 20) lsn mark → ⊥
none_in_zeros sum size none long log lid clean lsn mark is =
    let zeros = part_zeros log lid 20 (twenty sum size log lid lsn mark is) (λ i above below. clean i above (omega (arith, below, long))) in
    none lsn mark (subst (λ (l : List ℕ). IsHeader sum l lsn mark) zeros is)

module _ (sum : List ℕ → ℕ) (size : ℕ) (old : List ℕ) (slot from : ℕ) (asked now left : List ℕ) (inside : from + length asked ≤ size) (no_more : length now ≤ length asked)
    (leaves : LeavesLog (after_write old (slot * size + from) asked now) left) (until : ℕ) (covers : from + length asked ≤ until) (clean : (i : ℕ) → slot * size + from ≤ i → i < slot * size + until → get_or old i 0 ≡ 0)
    (none : NoHeaderOfZeros sum) (first : from ≡ 0) (place : ℕ) (mark : ℤ) (begun : IsHeader sum (take 20 asked) (pos place) mark) where
  abbrev new : List ℕ
  new = overwritten old (slot * size + from) asked

  -- the write has all of the header
  pub long : 20 ≤ length asked
  long = omega (arith, ap length begun.is, length-short_header sum (pos place) mark, length-take 20 asked)

  -- no header stood in the slot
  pub none_stood : (lsn mark' : ℤ) → IsHeader sum (part old (slot * size) 20) lsn mark' → ⊥
  none_stood = none_in_zeros sum until none (omega (arith, long, covers)) old (slot * size) (λ i above below. clean i (omega (arith, above, first)) below)

  -- where all is written, the header passes
  pub header_new : IsHeader sum (part new (slot * size) 20) (pos place) mark
  header_new =
      let here : slot * size + from + 0 ≡ slot * size = omega (arith, first) in
      let written : part new (slot * size) 20 ≡ take 20 asked = ap (λ n. part new n 20) (sym here) ∙ part_laid sum size old (slot * size + from) asked 0 20 (omega (arith, long)) in
      subst (λ (l : List ℕ). IsHeader sum l (pos place) mark) (sym written) begun

  module _ {placed : List Placement} (only_own : NoForeignLog sum size (after_write old (slot * size + from) asked now) placed left) where
    -- A header that passes in the slot is that of the write.
    pub header_written : (lsn mark' : ℤ) → IsHeader sum (part left (slot * size) 20) lsn mark' → part left (slot * size) 20 ≡ take 20 asked
    header_written lsn mark' is = elim (header_where sum size old (slot * size + from) asked now left no_more leaves only_own slot lsn mark' is) [
      | inl same ↦ absurd (none_stood lsn mark' (subst (λ (l : List ℕ). IsHeader sum l lsn mark') (sym same) is))
      | inr write ↦ (
          let begins : slot * size - (slot * size + from) ≡ 0 = omega (arith, first) in
          let whole = twenty sum size left (slot * size) lsn mark' is in
          sym (ap (λ n. part asked n 20) (sym begins) ∙ ap (part asked (slot * size - (slot * size + from))) (sym whole) ∙ write.same))
    ]

    -- That one passes, or none does.
    pub begun_or_none : IsHeader sum (part left (slot * size) 20) (pos place) mark ⊎ ((lsn mark' : ℤ) → IsHeader sum (part left (slot * size) 20) lsn mark' → ⊥)
    begun_or_none = elim (same_or_not (part left (slot * size) 20) (take 20 asked)) [
      | inl same ↦ inl (subst (λ (l : List ℕ). IsHeader sum l (pos place) mark) (sym same) begun)
      | inr other ↦ inr (λ lsn mark' is. other (header_written lsn mark' is))
    ]

    -- Where it passes, the first of the records that were written are met, and none behind them.
    module _ (header : IsHeader sum (part left (slot * size) 20) (pos place) mark) (more : List ScannedRecord) (stop : ℕ) (why : ScanEnd) where
      pub meets_begun : AreClear size until 20 more → IsScan sum size new (slot * size) place more stop why → MeetsFirst sum size new left (slot * size) place 20 more stop why
      unfolding IsScan
      meets_begun clear (path, end) = meets_first sum size old slot from asked now left no_more leaves only_own until covers clean place mark header 20 more stop why (omega (arith, first)) clear at_start path end
