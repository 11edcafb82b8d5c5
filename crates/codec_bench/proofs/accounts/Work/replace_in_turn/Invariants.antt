-- So far: the accountant is one for segments of its size.
use Rattle.sled_store.specs.Accounts.{IsAccountant}
use Rattle.codec_bench.proofs.accounts.Work.replace_in_turn.Given as goal

abbrev pub invariant-loop : goal.invariant-loop
invariant-loop l = IsAccountant l.self.config.config.segment_size l.self.accountant
