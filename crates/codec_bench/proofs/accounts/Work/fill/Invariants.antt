-- So far: the accountant is one for segments of its size.
use Rattle.sled_store.specs.Accounts.{IsAccountant}
use Rattle.codec_bench.proofs.accounts.Work.fill.Given as goal

abbrev pub invariant-loop-page : goal.invariant-loop-page
invariant-loop-page l = IsAccountant l.self.config.config.segment_size l.self.accountant
