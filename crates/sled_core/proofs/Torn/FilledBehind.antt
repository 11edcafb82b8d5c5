-- Behind zeros in some slots of a settled log file, and the sync: the file is the old one with zeros in these slots, no segment is found in them, and the other slots are as before.
use Rattle.std.proofs.Common.{◌≡◌, ◌≢◌, ◌≤◌, ◌<◌, ◌*◌, ℕ, ℤ, List, [], ◌∷◌, length, refl, sym, ap, arith, subst}
use Rattle.std.specs.List.{All, Contains}
use Rattle.sled_codec.specs.Places.{part}
use Rattle.sled_codec.specs.Record.{IsHeader}
use Rattle.sled_store.specs.Begin.{fill}
use Rattle.sled_store.specs.Device.{LogState, log_step, at_rest, Synced, LeavesLog}
use Rattle.sled_store.proofs.LogFile.LogLemmas.{at_rest_left}
use Rattle.sled_store.proofs.Segments.FilledLemmas.{filled, filled_part, filled_zero}
use Rattle.sled_core.specs.declared.iterator.Segment.{Segment}
use Rattle.sled_core.specs.declared.iterator.scan.ScannedRecord.{ScannedRecord}
use Rattle.sled_core.specs.declared.iterator.scan.ScanEnd.{ScanEnd}
use Rattle.sled_core.specs.Recoverable.{NoHeaderOfZeros}
use Rattle.sled_core.specs.inside.Scan.{IsFoundSegment}
use Rattle.sled_core.specs.Scan.{IsScan}
use Rattle.sled_core.proofs.Torn.AlikeSlots.{SameIn, found_same, scan_same}
use Rattle.sled_core.proofs.Torn.FilledSlots.{after_zeros}
use Rattle.sled_core.proofs.Torn.WrittenBegun.{none_in_zeros}

-- What is read behind the writes is the file with zeros in these slots.
pub zeros_bytes : (size : ℕ) (ks : List ℕ) (s : LogState) → (after_zeros size s ks).bytes ≡ filled size s.bytes ks
zeros_bytes size [] s = refl
zeros_bytes size (k ∷ ks) s = zeros_bytes size ks (log_step (fill size k) s)

-- Behind the sync that is settled, so a crash leaves just that.
pub zeros_synced : (size : ℕ) (old ks : List ℕ) → log_step Synced (after_zeros size (at_rest old) ks) ≡ at_rest (filled size old ks)
zeros_synced size old ks = ap at_rest (zeros_bytes size ks (at_rest old))

pub zeros_left : (size : ℕ) (old ks left : List ℕ) → LeavesLog (log_step Synced (after_zeros size (at_rest old) ks)) left → left ≡ filled size old ks
zeros_left size old ks left leaves = at_rest_left (filled size old ks) left (subst (λ (s : LogState). LeavesLog s left) (zeros_synced size old ks) leaves)

module _ (sum : List ℕ → ℕ) (size : ℕ) (old ks : List ℕ) (long : 20 ≤ size) (begin : All (λ k. k * size < length old) ks) where
  abbrev new : List ℕ
  new = filled size old ks

  some : 0 < size
  some = omega (arith, long)

  -- No header passes in a slot that was filled.
  pub none_in_filled : NoHeaderOfZeros sum → (j : ℕ) → Contains ks j → (lsn mark : ℤ) → IsHeader sum (part new (j * size) 20) lsn mark → ⊥
  none_in_filled none j has = none_in_zeros sum size none long new (j * size) (λ i low high. filled_zero size some ks old j i begin has low high)

  -- Another slot has the bytes that it had.
  module _ (j : ℕ) (other : All (λ k. k ≢ j) ks) where
    pub filled_same : SameIn size old new j
    filled_same lid len low high there = filled_part size some ks old j lid len begin other low high

    filled_back : SameIn size new old j
    filled_back lid len low high there = sym (filled_part size some ks old j lid len begin other low high)

    -- So the same segments are found there,
    pub filled_found : (least : ℕ) (s : Segment) → s.slot ≡ j * size → IsFoundSegment sum size old least s → IsFoundSegment sum size new least s
    filled_found = found_same sum size old new j filled_same long

    pub filled_found_before : (least : ℕ) (s : Segment) → s.slot ≡ j * size → IsFoundSegment sum size new least s → IsFoundSegment sum size old least s
    filled_found_before = found_same sum size new old j filled_back long

    -- and all is met in them as before.
    module _ (place : ℕ) (met : List ScannedRecord) (stop : ℕ) (why : ScanEnd) where
      pub filled_met : IsScan sum size old (j * size) place met stop why → IsScan sum size new (j * size) place met stop why
      filled_met = scan_same sum size old new j filled_same filled_back place met stop why

      pub filled_met_before : IsScan sum size new (j * size) place met stop why → IsScan sum size old (j * size) place met stop why
      filled_met_before = scan_same sum size new old j filled_back filled_same place met stop why
