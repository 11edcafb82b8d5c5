-- So far: the accountant is one for segments of its size.
use Rattle.sled_store.specs.Accounts.{IsAccountant}
use Rattle.store_cases.proofs.accountant.run.Given as goal

abbrev pub invariant-loop-at : goal.invariant-loop-at
invariant-loop-at l = IsAccountant l.case.config.config.segment_size l.case.accountant
