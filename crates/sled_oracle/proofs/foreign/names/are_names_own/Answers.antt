-- Each file that was left is tried.
use Rattle.std.proofs.Common.{◌<◌, ℕ, length, arith, rules}
use Rattle.sled_oracle.proofs.Walks.NameLemmas.{own_names, names_own}
use Rattle.sled_oracle.proofs.foreign.names.are_names_own.Goals as goal

pub returns-then-not-own-clause-own : goal.returns-then-not-own-clause-own
returns-then-not-own-clause-own g c = λ s noted. (
  λ t. cc,
  λ own.
      let told = c.in_ok-own.ensures.own.1 (names_own (g.K.FileKind.Passes g.C.Checksum.sum_of) c.args.past.now s noted c.args.left.now own c.file-item.result) in
      let other = c.if-not-own.true in
      cc,
)

pub returns-clause-own : goal.returns-clause-own
returns-clause-own g c = λ s noted. (
  λ t. own_names (g.K.FileKind.Passes g.C.Checksum.sum_of) c.args.past.now s noted c.args.left.now
      (λ f there. let k : ℕ = there.0 in let below : k < length c.args.left.now = there.1 in c.loop-file.invariant k (omega (arith, below, c.loop-file-test.false)) f there.2),
  λ own. search rules,
)
