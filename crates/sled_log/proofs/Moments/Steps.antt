-- What a recovery writes to the log file, one step behind another: zeros behind the cut, a snapshot with the cut for its place, and zeros over slots that the pass did not read. Each keeps the file recoverable, up to the same cut.
use Rattle.std.proofs.Common.{◌≡◌, ◌+◌, ◌%◌, ◌≤◌, ℕ, List, length, replicate, Option, Some}
use Rattle.sled_codec.specs.History.{History, CutFits}
use Rattle.sled_codec.specs.Snapshots.{SnapshotModel, stable_place}
use Rattle.sled_store.specs.Device.{LeavesLog, overwritten, Placement}
use Rattle.sled_store.specs.Foreign.{NoForeignLog}
use Rattle.sled_core.specs.declared.iterator.Segment.{Segment}
use Rattle.sled_core.specs.inside.Recoverable.{ActiveFits, IsRecoverableLog}
use Rattle.sled_core.specs.Recoverable.{NoHeaderOfZeros}
use Rattle.sled_core.specs.inside.Scan.{IsFoundSegment}
use Rattle.sled_core.proofs.Torn.TornLemmas.{after_write}
use Rattle.sled_log.specs.Recovery.{Scanned}
use Rattle.sled_log.proofs.Moments.CutSegment.{cut_segment}
use Rattle.sled_log.proofs.Moments.FromCut.{EndsAtCut}
use Rattle.sled_log.proofs.Moments.PublishedCut.{of_cut, ends_too}
use Rattle.sled_log.proofs.Moments.UnreadSlot.{unread_inside}
use Rattle.sled_log.proofs.Moments.ZeroedCut.{zeros_behind_cut}
use Rattle.sled_log.proofs.Moments.ZeroedWhole.{y, zeros_written, ends_at_cut}

module _ (sum : List ℕ → ℕ) (size : ℕ) (old : List ℕ) (some : 256 ≤ size) (H : History) (A : ℕ) (first : SnapshotModel) (cut : ℕ × Option ℕ) (is : IsRecoverableLog sum size old H A first cut) (fits : CutFits H cut.0)
    (active : ActiveFits size (stable_place first.stable) first.active) where
  module _ (slot : ℕ) (has_slot : cut.1 ≡ Some slot) (at count : ℕ) (from_cut : at ≡ slot + cut.0 % size) where
    -- Zeros are written behind the cut, and a crash comes.
    pub zeros_left : at + count ≤ slot + size → (now left : List ℕ) → length now ≤ length (replicate {A = ℕ} count 0) → LeavesLog (after_write old at (replicate count 0) now) left
        → (placed : List Placement) → NoForeignLog sum size (after_write old at (replicate count 0) now) placed left → NoHeaderOfZeros sum → IsRecoverableLog sum size left H A first cut
    zeros_left to_end now left no_more leaves placed only_own none =
        let its = cut_segment sum size old some H A first cut is active slot has_slot in
        zeros_behind_cut sum size old some H A first cut is fits slot has_slot its.0 its.1 its.2 its.3 at count from_cut to_end now left no_more leaves only_own none

    -- They are all written, and synced: the reading of the segment of the cut ends there.
    abbrev pub StandZeroed : Type 0
    StandZeroed = (r : IsRecoverableLog sum size (overwritten old at (replicate count 0)) H A first cut) × (z : Scanned) × EndsAtCut sum size (overwritten old at (replicate count 0)) some r.scanned cut z

    pub zeros_stand : at + count ≡ slot + size → StandZeroed
    zeros_stand to_end =
        let its = cut_segment sum size old some H A first cut is active slot has_slot in (
          zeros_written sum size old some H A first cut is fits slot has_slot its.0 its.1 its.2 its.3 at count from_cut to_end,
          y sum size old some H A first cut is fits slot has_slot its.0 its.1 its.2 its.3 at count from_cut to_end,
          ends_at_cut sum size old some H A first cut is fits slot has_slot its.0 its.1 its.2 its.3 at count from_cut to_end,
        )

  -- Zeros are written over a slot in which no segment below the cut lies, under a snapshot with the cut for its place, and a crash comes.
  module _ (next : SnapshotModel) (place : stable_place next.stable ≡ cut.0) (as_cut : next.active ≡ cut.1) (at count : ℕ) (now left : List ℕ) (no_more : length now ≤ length (replicate {A = ℕ} count 0))
      (leaves : LeavesLog (after_write old at (replicate count 0) now) left) {placed : List Placement} (only_own : NoForeignLog sum size (after_write old at (replicate count 0) now) placed left) (none : NoHeaderOfZeros sum)
      (slot : ℕ) (slot_at : slot % size ≡ 0) (begin : slot ≤ at) (end : at + count ≤ slot + size) (free : (s : Segment) → IsFoundSegment sum size old 0 s → s.slot ≡ slot → cut.0 ≤ s.place) where
    -- where the reading of the segment of the cut ends at the cut
    pub unread_left : (z : Scanned) → EndsAtCut sum size old some is.scanned cut z → IsRecoverableLog sum size left H A next cut
    unread_left z ends =
        unread_inside sum size old some H A cut (of_cut sum size old some H A first cut is) at count now left no_more leaves only_own none fits slot slot_at begin end free next place z (ends_too sum size old some H A first cut is z ends)
