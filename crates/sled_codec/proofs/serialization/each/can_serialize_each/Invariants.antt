-- The values so far have spellings, of this length.
use Rattle.std.proofs.Common.{◌≡◌, ◌<◌, ◌^◌, length, map, take}
use Rattle.std.specs.List.{All, flat_map}
use Rattle.sled_codec.proofs.serialization.each.can_serialize_each.Given as goal

abbrev pub invariant-loop-value : goal.invariant-loop-value
invariant-loop-value g l = record {
  size : l.size ≡ length (flat_map g.T.Serialize.short (take l.value-index (map g.T.Serialize.meaning l.values)));
  small : l.size < 2 ^ 64;
  fits : All g.T.Serialize.fits (take l.value-index (map g.T.Serialize.meaning l.values));
}
