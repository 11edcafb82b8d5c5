-- The values so far are written.
use Rattle.std.proofs.Common.{◌≡◌, ◌+◌, length, map, take}
use Rattle.std.specs.List.{flat_map}
use Rattle.sled_codec.specs.Written.{written}
use Rattle.sled_codec.proofs.serialization.each.serialize_each.Given as goal

abbrev pub invariant-loop-value : goal.invariant-loop-value
invariant-loop-value g l = record {
  next : l.next ≡ l.at + length (flat_map g.T.Serialize.short (take l.value-index (map g.T.Serialize.meaning l.values)));
  bytes : l.buf ≡ written l.fn.buf l.at (flat_map g.T.Serialize.short (take l.value-index (map g.T.Serialize.meaning l.values)));
}
