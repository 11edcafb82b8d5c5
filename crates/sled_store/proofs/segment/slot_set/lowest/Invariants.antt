-- So far: the node is the first that is marked on its level.
use Rattle.std.proofs.Common.{◌^◌}
use Rattle.sled_store.proofs.Accounts.TreeLemmas.{IsLowestOn}
use Rattle.sled_store.proofs.segment.slot_set.lowest.Given as goal

abbrev pub invariant-loop : goal.invariant-loop
invariant-loop l = IsLowestOn (2 ^ l.counter) l.node l.marks
