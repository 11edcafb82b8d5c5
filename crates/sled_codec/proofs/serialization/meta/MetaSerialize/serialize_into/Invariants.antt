-- The names so far are written, and with those to come they are all.
use Rattle.std.proofs.Common.{◌≡◌, ◌+◌, ◌++◌, List, length, map}
use Rattle.std.specs.List.{flat_map}
use Rattle.sled_codec.specs.Written.{written}
use Rattle.sled_codec.specs.Metas.{Named, named, short_named}
use Rattle.sled_codec.proofs.serialization.meta.MetaSerialize.serialize_into.Given as goal

abbrev pub invariant-loop-name : goal.invariant-loop-name
invariant-loop-name l = (done : List Named) × (done ++ map named l.name-iterator ≡ map named l.self.inner.entries) × (l.next ≡ l.at + length (flat_map short_named done)) × (l.buf ≡ written l.fn.buf l.at (flat_map short_named done))
