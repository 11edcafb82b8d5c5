-- What is left, put onto the sum so far, gives the whole sum.
use Rattle.std.proofs.Common.{◌≡◌, drop}
use Rattle.sled_file.specs.Crc.{crc_from}
use Rattle.sled_file.proofs.crc32.over_bytes.Given as goal

abbrev pub invariant-loop-byte : goal.invariant-loop-byte
invariant-loop-byte l = crc_from l.sum (drop l.byte-index l.bytes) ≡ crc_from l.crc l.bytes
