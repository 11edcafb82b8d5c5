-- The length of what is written for the values so far.
use Rattle.std.proofs.Common.{◌≡◌, length, map, take}
use Rattle.std.specs.List.{flat_map}
use Rattle.sled_codec.proofs.serialization.each.size_of_each.Given as goal

abbrev pub invariant-loop-value : goal.invariant-loop-value
invariant-loop-value g l = l.size ≡ length (flat_map g.T.Serialize.short (take l.value-index (map g.T.Serialize.meaning l.values)))
