-- The pairs so far were taken off the front and put in, and each turn takes a byte at least.
use Rattle.std.proofs.Common.{◌≡◌, ◌++◌, ℕ, List, length, reverse}
use Rattle.std.specs.FinMap.{from_entries}
use Rattle.sled_codec.specs.Spelling.{SpellsEach}
use Rattle.sled_codec.specs.Metas.{Named, SpellsNamed, numbers_in}
use Rattle.sled_codec.proofs.serialization.meta.read_names.Given as goal

abbrev pub invariant-loop-rest : goal.invariant-loop-rest
invariant-loop-rest l = (front : List ℕ) × (pairs : List Named) × SpellsEach SpellsNamed front pairs × (l.bytes ≡ front ++ l.rest) × (numbers_in l.names ≡ from_entries (reverse pairs))

abbrev pub decreases-loop-rest : goal.decreases-loop-rest
decreases-loop-rest l = length l.rest
