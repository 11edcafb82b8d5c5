-- So far: none of the slots below this one is unused.
use Rattle.std.proofs.Common.{◌≡◌, [], is_some}
use Rattle.std.specs.Ordering.{nat_cmp}
use Rattle.std.specs.BTreeMap.{get}
use Rattle.sled_store.specs.Begin.{not_below}
use Rattle.sled_store.proofs.segment.start.are_used.Given as goal

abbrev pub invariant-loop-k : goal.invariant-loop-k
invariant-loop-k l = not_below (λ k. is_some (get nat_cmp l.table.held k)) l.k ≡ []
