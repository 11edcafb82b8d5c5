-- So far: those up to here lie in the segments that their slots hold.
use Rattle.std.proofs.Common.{take}
use Rattle.std.specs.List.{All}
use Rattle.sled_store.specs.SegmentStates.{LiesIn}
use Rattle.sled_store.specs.Accounts.{machine_of, size_of}
use Rattle.sled_store.proofs.segment.accountant.SegmentAccountant.all_lie.Given as goal

abbrev pub invariant-loop-info : goal.invariant-loop-info
invariant-loop-info l = All (LiesIn (size_of l.self) (machine_of l.self)) (take l.info-index l.infos)
