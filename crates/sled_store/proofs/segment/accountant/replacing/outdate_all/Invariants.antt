-- So far: the blobs of the messages up to here are noted, and there is room for the others.
use Rattle.std.proofs.Common.{◌≡◌, ◌≤◌, ◌+◌, ◌-◌, take, length}
use Rattle.sled_store.specs.SegmentStates.{all_outdated}
use Rattle.sled_store.proofs.segment.accountant.replacing.outdate_all.Given as goal

abbrev pub invariant-loop-o : goal.invariant-loop-o
invariant-loop-o l =
    record {
      blobs : l.slot.blobs.0 ≡ all_outdated l.pointer (take l.o-index l.old) l.fn.slot.blobs.0;
      rest : l.slot ≡ record l.fn.slot { blobs = l.slot.blobs };
      room : length l.slot.blobs.0 + (length l.old - l.o-index) ≤ l.slot.blobs.1;
    }
