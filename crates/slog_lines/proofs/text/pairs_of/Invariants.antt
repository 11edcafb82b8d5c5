use Rattle.std.proofs.Common.{◌≡◌, ◌++◌, length}
use Rattle.slog_lines.specs.Hex.{digits_of}
use Rattle.slog_lines.proofs.text.pairs_of.Given as goal

abbrev pub invariant-loop-rest : goal.invariant-loop-rest
invariant-loop-rest l = digits_of l.bytes.items ++ l.rest ≡ l.fn.text

abbrev pub decreases-loop-rest : goal.decreases-loop-rest
decreases-loop-rest l = length l.rest
