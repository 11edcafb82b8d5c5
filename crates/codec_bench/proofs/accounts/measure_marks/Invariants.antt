-- So far: the accountant is one for segments of its size.
use Rattle.sled_store.specs.Accounts.{IsAccountant}
use Rattle.codec_bench.proofs.accounts.measure_marks.Given as goal

abbrev pub invariant-loop : goal.invariant-loop
invariant-loop l = IsAccountant l.work.config.config.segment_size l.work.accountant
