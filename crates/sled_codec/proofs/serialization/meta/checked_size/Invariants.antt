-- The names so far and those to come are all, and the length of those so far is a `u64`.
use Rattle.std.proofs.Common.{◌≡◌, ◌++◌, ◌<◌, ◌^◌, List, length, map}
use Rattle.std.specs.List.{All, flat_map}
use Rattle.sled_codec.specs.Metas.{Named, named, FitsNamed, short_named}
use Rattle.sled_codec.proofs.serialization.meta.checked_size.Given as goal

abbrev pub invariant-loop-name : goal.invariant-loop-name
invariant-loop-name l = (done : List Named) × (done ++ map named l.name-iterator ≡ map named l.names.entries) × (l.size ≡ length (flat_map short_named done)) × All FitsNamed done × (l.size < 2 ^ 64)
