-- So far: the node is the last that is marked on its level.
use Rattle.std.proofs.Common.{◌^◌}
use Rattle.sled_store.proofs.Accounts.TreeLemmas.{IsHighestOn}
use Rattle.sled_store.proofs.segment.slot_set.highest.Given as goal

abbrev pub invariant-loop : goal.invariant-loop
invariant-loop l = IsHighestOn (2 ^ l.counter) l.node l.marks
