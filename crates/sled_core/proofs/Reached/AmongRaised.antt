-- A file stands with what is held counted from the segment of a mark that stands, or from the snapshot's place, where that is higher: so it is with zeros
-- behind its end, too.
use Rattle.std.proofs.Common.{◌-◌, ◌≤◌, ℕ, ℤ, List, length, replicate, arith, inl, inr}
use Rattle.sled_codec.specs.History.{History}
use Rattle.sled_codec.specs.Snapshots.{SnapshotModel, stable_place}
use Rattle.sled_core.specs.LogSegments.{held_from}
use Rattle.sled_core.specs.Tail.{least_place}
use Rattle.sled_core.specs.declared.iobuf.SegmentPosition.{SegmentPosition}
use Rattle.sled_core.specs.inside.LogFile.{padded}
use Rattle.sled_core.specs.inside.MarksFit.{MarkStands}
use Rattle.sled_core.specs.OpenBatches.{stable_below}
use Rattle.sled_core.specs.inside.Reached.{BegunSegment, StandsAmong}
use Rattle.sled_core.proofs.Read.FoundLemmas.{found_there}
use Rattle.sled_core.proofs.Reached.MarksRaise.{marks_raise}
use Rattle.sled_core.proofs.Reserve.Ranges.{part-append}
use Rattle.sled_core.proofs.Torn.WrittenBeside.{found_moved}

pub among_raised : (sum : List ℕ → ℕ) (size : ℕ) → 256 ≤ size → (log : List ℕ) (H : History) (first : SnapshotModel) (mark : ℤ)
    → MarkStands sum size log first mark → {site : SegmentPosition} {from reach : ℕ} {others : List BegunSegment}
    → StandsAmong sum (held_from size (stable_place first.stable) mark) size log site from others reach H first
    → (now : StandsAmong sum (held_from size (stable_place first.stable) mark) size log site from others reach H first)
    × (held_from size (stable_place first.stable) mark ≤ now.stands.from)
among_raised sum size some log H first mark stands {reach = reach} among = (
  record {
    stands = marks_raise sum size log some H (stable_below reach H.batches) first reach among.stands mark stands among.low;
    low = omega arith;
    reached = among.reached;
    led = among.led;
    here = among.here;
    behind = among.behind;
    apart = among.apart;
    last = among.last;
    below = among.below;
  },
  omega arith,
)

-- A mark that stands does with zeros behind the file's end.
pub mark_beyond : (sum : List ℕ → ℕ) (size : ℕ) (log : List ℕ) (first : SnapshotModel) (mark : ℤ) (to : ℕ) → MarkStands sum size log first mark
    → MarkStands sum size (padded to log) first mark
mark_beyond sum size log first mark to (inl low) = inl low
mark_beyond sum size log first mark to (inr (s, found, up)) =
    inr (
      s,
      found_moved sum size log (padded to log) (least_place size first) s
          (part-append log (replicate (to - length log) 0) s.slot 20 (found_there sum size log (least_place size first) s found)) found,
      up,
    )
