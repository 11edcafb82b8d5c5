-- What is left, put onto the sum so far, gives the whole sum.
use Rattle.std.proofs.Common.{◌≡◌, length}
use Rattle.sled_file.specs.Crc.{crc_from}
use Rattle.sled_file.proofs.crc32.over_eights.Given as goal

abbrev pub invariant-loop-rest : goal.invariant-loop-rest
invariant-loop-rest l = crc_from l.sum l.rest ≡ crc_from l.crc l.fn.bytes

abbrev pub decreases-loop-rest : goal.decreases-loop-rest
decreases-loop-rest l = length l.rest
