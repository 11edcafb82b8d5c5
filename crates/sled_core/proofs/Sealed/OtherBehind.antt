-- A sealed buffer of a segment behind the first one is written, behind one that isn't: torn or whole, a reader finds what he found before.
use Rattle.std.proofs.Common.{◌≡◌, ◌≤◌, ◌+◌, ◌%◌, ◌⊎◌, ℕ, false, List, ◌∷◌, ◌++◌, length, refl, arith}
use Rattle.std.specs.List.{All, Contains}
use Rattle.sled_codec.specs.History.{History}
use Rattle.sled_codec.specs.Snapshots.{SnapshotModel}
use Rattle.sled_store.specs.Device.{overwritten, LeavesLog, Placement}
use Rattle.sled_store.specs.Foreign.{NoForeignLog}
use Rattle.sled_core.specs.OpenBatches.{stable_below}
use Rattle.sled_core.specs.declared.iobuf.Reserved.{Reserved}
use Rattle.sled_core.specs.declared.iobuf.Sealed.{Sealed}
use Rattle.sled_core.specs.declared.iobuf.SegmentPosition.{SegmentPosition}
use Rattle.sled_core.specs.inside.Buffers.{Stands}
use Rattle.sled_core.specs.inside.Reached.{BegunSegment, StandsAmong}
use Rattle.sled_core.specs.Recoverable.{NoHeaderOfZeros}
use Rattle.sled_core.specs.inside.SealedBuffers.{AreSealed, Laid}
use Rattle.sled_core.specs.SealedBuffers.{bytes_between, sealed_end}
use Rattle.sled_core.proofs.Reached.StandsTo.{StandsTo}
use Rattle.sled_core.proofs.Sealed.BehindUnwritten.{stands_in_gap, torn_in_gap}
use Rattle.sled_core.proofs.Sealed.GapWritten.{other_gap}
use Rattle.sled_core.proofs.Sealed.LaidLemmas.{EndsRise}
use Rattle.sled_core.proofs.Sealed.OneWritten.{long, rises_at}
use Rattle.sled_core.proofs.Torn.TornLemmas.{after_write}

module _ (sum : List ℕ → ℕ) (none : NoHeaderOfZeros sum) (size : ℕ) (some : 256 ≤ size) (file : List ℕ) (site : SegmentPosition) (from : ℕ) (others : List BegunSegment) (y : BegunSegment) (known : Contains others y) (slot_begins : y.site.slot % size ≡ 0)
    (bytes : List ℕ) (begins : (y.from ≡ 0) ⊎ (20 ≤ y.from)) (rs : List Reserved) (x : Sealed) (xs : List Sealed) (b : Sealed) (rest : List Sealed) (fresh : x.is_written ≡ false) (are : AreSealed y.from rs (x ∷ xs ++ b ∷ rest))
    (rise : EndsRise y.from (x ∷ xs ++ b ∷ rest) size) (inside : b.end ≤ length bytes) (number : ℕ) (stand : All (Stands sum size number bytes) rs) (laid : Laid file y.site.slot bytes y.from (x ∷ xs ++ b ∷ rest) size)
    (reach : ℕ) (H : History) (first : SnapshotModel) {held : ℕ} (among : StandsAmong sum held size file site from others reach H first) where
  -- where it begins
  abbrev at : ℕ
  at = sealed_end x.end xs

  abbrev asked : List ℕ
  asked = bytes_between bytes at b.end

  -- What a crash leaves of it.
  pub torn_other_behind : (now left : List ℕ) → length now ≤ length asked → LeavesLog (after_write file (y.site.slot + at) asked now) left → {placed : List Placement}
      → NoForeignLog sum size (after_write file (y.site.slot + at) asked now) placed left → StandsTo sum size left H (stable_below reach H.batches) first reach
  torn_other_behind = torn_in_gap sum none size some file y.site slot_begins bytes y.from begins rs x xs b rest fresh are rise inside number stand reach H first file laid among.stands (among.behind y known)

  -- All of it, where the file reaches up to the slot.
  pub other_behind_written : y.site.slot ≤ length file → StandsAmong sum held size (overwritten file (y.site.slot + at) asked) site from others reach H first
  other_behind_written there =
      let fits : at + length asked ≤ size = (let l = long file y.site.slot bytes y.from (x ∷ xs) b rest size rise inside in let up = (rises_at x.end xs b rest size rise.1).2 in omega (arith, l, up)) in
      other_gap sum size some file site from others reach H first among y.site at asked fits slot_begins there y known refl
      (stands_in_gap sum none size some file y.site slot_begins bytes y.from begins rs x xs b rest fresh are rise inside number stand reach H first file laid among.stands (among.behind y known) there)
