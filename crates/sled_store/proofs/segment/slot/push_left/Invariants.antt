-- So far: of the pages up to here, those that were not replaced were put in, and the rest has room.
use Rattle.std.proofs.Common.{◌≡◌, ◌≤◌, ◌+◌, ◌-◌, take, filter, length, not}
use Rattle.sled_store.specs.SegmentStates.{has_page}
use Rattle.sled_store.proofs.segment.slot.push_left.Given as goal

abbrev pub invariant-loop-pid : goal.invariant-loop-pid
invariant-loop-pid l =
    record {
      items : l.left.0 ≡ filter (λ p. not (has_page l.gone.0 p)) (take l.pid-index l.pages.0);
      room : length l.left.0 + (length l.pages.0 - l.pid-index) ≤ l.left.1;
    }
