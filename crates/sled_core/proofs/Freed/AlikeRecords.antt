-- What is met in one file is met in another that has the same bytes up to there.
use Rattle.std.proofs.Common.{◌≡◌, ◌+◌, ◌/◌, ◌≤◌, ℕ, List, [], ◌∷◌, ◌++◌, length, sym, subst}
use Rattle.sled_codec.specs.Places.{part}
use Rattle.sled_core.specs.declared.iterator.scan.ScannedRecord.{ScannedRecord}
use Rattle.sled_core.specs.Scan.{IsMet, IsPath}
use Rattle.sled_core.proofs.Tail.LogFileLemmas.{record_moved}
use Rattle.sled_core.proofs.Torn.WrittenRecords.{AlikeAlong}

module _ (sum : List ℕ → ℕ) (size : ℕ) (old left : List ℕ) where
  -- A record,
  pub met_alike : (lid number : ℕ) (x : ScannedRecord) → part left lid x.len ≡ part old lid x.len → lid + x.len ≤ length left
      → IsMet sum size old lid number x → IsMet sum size left lid number x
  unfolding IsMet
  met_alike lid number x alike there (h, body, stands, says) = (h, body, record_moved sum size old left lid number h body x.len alike there stands, says)

  module _ (slot place : ℕ) where
    -- and records one behind another.
    pub path_alike : (from : ℕ) (ms : List ScannedRecord) (next : ℕ) → IsPath sum size old slot place from ms next → AlikeAlong old left slot from ms
        → IsPath sum size left slot place from ms next
    path_alike from [] next path alike = path
    path_alike from (m ∷ ms) next (room, at_place, met, path) (bytes, there, alike) =
        (room, at_place, met_alike (slot + from) (place / size) m bytes there met, path_alike (from + m.len) ms next path alike)

    -- The last one of them has the same bytes.
    pub alike_last : (from : ℕ) (ms : List ScannedRecord) (at : ℕ) (x : ScannedRecord) → IsPath sum size old slot place from ms at
        → AlikeAlong old left slot from (ms ++ x ∷ []) → (part left (slot + at) x.len ≡ part old (slot + at) x.len) × (slot + at + x.len ≤ length left)
    alike_last from [] at x path (bytes, there, alike) =
        subst (λ n. (part left (slot + n) x.len ≡ part old (slot + n) x.len) × (slot + n + x.len ≤ length left)) (sym path) (bytes, there)
    alike_last from (m ∷ ms) at x (room, at_place, met, path) (bytes, there, alike) = alike_last (from + m.len) ms at x path alike
