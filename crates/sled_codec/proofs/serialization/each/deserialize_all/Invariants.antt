-- The values so far were taken off the front, and each turn takes a byte at least.
use Rattle.std.proofs.Common.{◌≡◌, ◌++◌, ℕ, List, length, map}
use Rattle.sled_codec.specs.Spelling.{SpellsEach}
use Rattle.sled_codec.proofs.serialization.each.deserialize_all.Given as goal

abbrev pub invariant-loop-rest : goal.invariant-loop-rest
invariant-loop-rest g l = (front : List ℕ) × SpellsEach g.T.Serialize.Spells front (map g.T.Serialize.meaning l.values.items) × (l.bytes ≡ front ++ l.rest)

abbrev pub decreases-loop-rest : goal.decreases-loop-rest
decreases-loop-rest g l = length l.rest
