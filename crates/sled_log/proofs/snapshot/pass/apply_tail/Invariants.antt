use Rattle.std.proofs.Common.{◌≡◌, ◌+◌, ◌++◌, ℕ, List, map, take, false}
use Rattle.std.specs.List.{All}
use Rattle.sled_codec.specs.Snapshots.{SnapshotModel}
use Rattle.sled_log.specs.Recovery.{AreClosed, Scanned}
use Rattle.sled_log.specs.Passes.{FitsStop, HasMade, IsPass, pass_of}
use Rattle.sled_log.proofs.snapshot.pass.apply_tail.Given as goal

-- those so far were applied, and no batch is open in them
abbrev pub invariant-loop-pass : goal.invariant-loop-pass
invariant-loop-pass l =
    record {
      made : (first : SnapshotModel) (passes : List Scanned) → AreClosed l.fn.end passes → HasMade l.fn.end first passes l.fn.replay → HasMade l.fn.end first (passes ++ map pass_of (take l.pass-index l.tail)) l.replay;
      closed : AreClosed l.fn.end (map pass_of (take l.pass-index l.tail));
      stop : (size : ℕ) → All (IsPass size) l.tail → FitsStop size l.fn.replay.stop → FitsStop size l.replay.stop;
      count : l.replay.count ≡ l.fn.replay.count + l.pass-index;
      goes_on : l.fn.replay.is_open ≡ false;
    }
