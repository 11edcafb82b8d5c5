-- What is left, put onto the sum so far, gives the whole sum.
use Rattle.std.proofs.Common.{◌≡◌, drop}
use Rattle.example.specs.Sums.{times_31}
use Rattle.example.proofs.checksum.Times31Checksum.sum.Given as goal

abbrev pub invariant-loop-byte : goal.invariant-loop-byte
invariant-loop-byte l = times_31 l.sum (drop l.byte-index l.bytes) ≡ times_31 0 l.bytes
