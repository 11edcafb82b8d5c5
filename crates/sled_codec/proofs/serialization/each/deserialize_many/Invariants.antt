-- The values so far were taken off the front.
use Rattle.std.proofs.Common.{◌≡◌, ◌++◌, ℕ, List, length, map}
use Rattle.sled_codec.specs.Spelling.{SpellsEach}
use Rattle.sled_codec.proofs.serialization.each.deserialize_many.Given as goal

abbrev pub invariant-loop : goal.invariant-loop
invariant-loop g l = (front : List ℕ) × SpellsEach g.T.Serialize.Spells front (map g.T.Serialize.meaning l.values.items) × (l.fn.buf.now ≡ front ++ l.rest) × (length l.values.items ≡ l.counter)
