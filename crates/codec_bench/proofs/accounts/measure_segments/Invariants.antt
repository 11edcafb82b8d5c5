-- So far: the accountant is one for segments of its size.
use Rattle.sled_store.specs.Accounts.{IsAccountant}
use Rattle.codec_bench.proofs.accounts.measure_segments.Given as goal

abbrev pub invariant-loop-2 : goal.invariant-loop-2
invariant-loop-2 l = IsAccountant l.work.config.config.segment_size l.work.accountant
