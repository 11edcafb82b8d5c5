-- What is written lies within the buffer.
use Rattle.std.proofs.Common.{◌≤◌, length}
use Rattle.codec_bench.proofs.headers.encode_all.Given as goal

abbrev pub invariant-loop-header : goal.invariant-loop-header
invariant-loop-header l = l.at ≤ length l.buf
