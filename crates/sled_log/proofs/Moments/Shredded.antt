-- The rest of the segment of the cut is filled with zeros, and synced: what is read from that segment on ends at the cut, as it does without that where the cut is the end of a segment.
-- Then the slots that were not read are filled too: under a snapshot with the cut for its place the log file can be recovered up to the cut.
use Rattle.std.proofs.Common.{◌≡◌, ◌+◌, ◌-◌, ◌%◌, ◌<◌, ◌≤◌, ℕ, List, replicate, Option, Some, None, refl, arith, inl, inr}
use Rattle.sled_codec.specs.History.{History, CutFits}
use Rattle.sled_codec.specs.Snapshots.{SnapshotModel, stable_place}
use Rattle.sled_store.specs.Device.{LogState, overwritten, at_rest}
use Rattle.sled_store.proofs.LogFile.OverwrittenLemmas.{length-overwritten}
use Rattle.sled_core.specs.declared.iterator.Segment.{Segment}
use Rattle.sled_core.specs.inside.Recoverable.{ActiveFits, IsRecoverableLog}
use Rattle.sled_core.specs.Recoverable.{NoHeaderOfZeros}
use Rattle.sled_core.specs.inside.Scan.{IsFoundSegment}
use Rattle.sled_log.specs.Recovery.{shred_range_of}
use Rattle.sled_log.specs.WritesBack.{after_shredding, after_zeroing}
use Rattle.sled_log.proofs.Moments.CutSegment.{cut_segment, ends_segment}
use Rattle.sled_log.proofs.Moments.PublishedCut.{of_cut, of_all, ends_too}
use Rattle.sled_log.proofs.Moments.Steps.{zeros_stand}
use Rattle.sled_log.proofs.Moments.UnreadSlots.{IsFree, AreFree, StopsAtCut, recoverable_at, all_zeroed}
use Rattle.sled_log.proofs.Moments.ZeroedWhole.{found_new}

module _ (sum : List ℕ → ℕ) (size : ℕ) (old : List ℕ) (some : 256 ≤ size) (H : History) (A : ℕ) (first : SnapshotModel) (cut : ℕ × Option ℕ) (is : IsRecoverableLog sum size old H A first cut) (fits : CutFits H cut.0)
    (active : ActiveFits size (stable_place first.stable) first.active) where
  -- What this asks of a log file that is at rest: it can be recovered as before, what is read ends at the cut, no segment is found that was not there, and slots that were free are.
  pub record IsShredded (log : LogState) : Type 0 where
    pub rests : log ≡ at_rest log.bytes
    pub same_cut : IsRecoverableLog sum size log.bytes H A first cut
    pub stops : StopsAtCut sum size log.bytes some H A cut
    pub found : (s : Segment) → IsFoundSegment sum size log.bytes 0 s → IsFoundSegment sum size old 0 s
    pub free : (slot : ℕ) → IsFree sum size old cut.0 slot → IsFree sum size log.bytes cut.0 slot

  -- The segment of the cut is active.
  module _ (slot : ℕ) (has_slot : cut.1 ≡ Some slot) where
    abbrev at : ℕ
    at = slot + cut.0 % size

    abbrev count : ℕ
    count = size - cut.0 % size

    abbrev new : List ℕ
    new = overwritten old at (replicate count 0)

    to_end : at + count ≡ slot + size
    to_end = let inside : cut.0 % size < size = omega (arith, some) in omega (arith, inside)

    was_found : (s : Segment) → IsFoundSegment sum size new 0 s → IsFoundSegment sum size old 0 s
    was_found s found =
        let its = cut_segment sum size old some H A first cut is active slot has_slot in
        found_new sum size old some H A first cut is fits slot has_slot its.0 its.1 its.2 its.3 at count refl to_end 0 s found

    still_free : (other : ℕ) → IsFree sum size old cut.0 other → IsFree sum size new cut.0 other
    still_free other was = record {
      aligned = was.aligned;
      reach = (let there = was.reach in omega (arith, there, length-overwritten old at (replicate count 0)));
      free = λ s found same. was.free s (was_found s found) same;
    }

    pub filled : IsShredded (at_rest new)
    filled =
        let stand = zeros_stand sum size old some H A first cut is fits active slot has_slot at count refl to_end in
        record {
          rests = refl;
          same_cut = stand.0;
          stops = record { parts = of_cut sum size new some H A first cut stand.0; stops = inl (stand.1, ends_too sum size new some H A first cut stand.0 stand.1 stand.2) };
          found = was_found;
          free = still_free;
        }

  -- It is the end of a segment.
  pub full : cut.1 ≡ None → IsShredded (at_rest old)
  full no_slot =
      let its = ends_segment sum size old some H A first cut is no_slot in
      record {
        rests = refl;
        same_cut = is;
        stops = record { parts = of_cut sum size old some H A first cut is; stops = inr (no_slot, its.aligned, λ s there. its.none s (of_all sum size old some H A first cut is s there)) };
        found = λ s found. found;
        free = λ slot was. was;
      }

  abbrev pub shredded : LogState
  shredded = after_shredding (shred_range_of size cut.0 cut.1) (at_rest old)

  pub is_shredded : IsShredded shredded
  is_shredded = by cut.1 refl where
    by : (o : Option ℕ) → cut.1 ≡ o → IsShredded (after_shredding (shred_range_of size cut.0 o) (at_rest old))
    by None no_slot = full no_slot
    by (Some slot) has_slot = filled slot has_slot

  -- Then slots that are free are filled, one behind another.
  module _ (none : NoHeaderOfZeros sum) (unread : List ℕ) (free : AreFree sum size old cut.0 unread) where
    abbrev pub zeroed : LogState
    zeroed = after_zeroing size unread (at_rest shredded.bytes)

    pub stops_zeroed : StopsAtCut sum size zeroed.bytes some H A cut
    stops_zeroed = all_zeroed sum size some H A cut none unread shredded.bytes (λ slot there. is_shredded.free slot (free slot there)) is_shredded.stops

    -- So the log file that a recovery leaves can be recovered, under the snapshot that it leaves.
    pub zeroed_recoverable : (next : SnapshotModel) → stable_place next.stable ≡ cut.0 → ActiveFits size (stable_place next.stable) next.active → IsRecoverableLog sum size zeroed.bytes H A next cut
    zeroed_recoverable next place next_active = recoverable_at sum size zeroed.bytes some H A cut stops_zeroed fits next place next_active
