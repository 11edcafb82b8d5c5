-- The sum so far and what the bytes behind the index weigh are the whole sum.
use Rattle.std.proofs.Common.{◌≡◌, ◌+◌, ◌%◌, ◌^◌, drop}
use Rattle.sled_codec.specs.Sums.{weighed}
use Rattle.sled_codec.proofs.serialization.checksum.PlaceSumChecksum.sum.Given as goal

abbrev pub invariant-loop-b : goal.invariant-loop-b
invariant-loop-b l = record {
  place : l.place ≡ l.b-index % 2 ^ 32;
  total : (l.total + weighed (l.b-index + 1) (drop l.b-index l.bytes)) % 2 ^ 32 ≡ weighed 1 l.bytes % 2 ^ 32;
}
