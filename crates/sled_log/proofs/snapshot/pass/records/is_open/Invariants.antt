use Rattle.std.proofs.Common.{◌≡◌, drop, is_some}
use Rattle.sled_log.specs.Recovery.{open_at}
use Rattle.sled_log.proofs.snapshot.pass.records.is_open.Given as goal

-- one begins among what is left, if any does
abbrev pub invariant-loop-record : goal.invariant-loop-record
invariant-loop-record l =
    record {
      left : is_some (open_at l.fn.end (drop l.record-index l.met)) ≡ is_some (open_at l.fn.end l.met);
    }
