-- What is written lies within the buffer.
use Rattle.std.proofs.Common.{◌≤◌, length}
use Rattle.codec_bench.proofs.numbers.encode_all.Given as goal

abbrev pub invariant-loop-value : goal.invariant-loop-value
invariant-loop-value l = l.at ≤ length l.buf
