-- Numbers by byte strings: what a meta says, and its spelling.
use Rattle.std.specs.Prelude.{◌≡◌, ◌^◌, ◌<◌, ℕ, List, ◌++◌, length, map, reverse}
use Rattle.std.specs.List.{All, flat_map}
use Rattle.std.specs.Ordering.{nat_cmp}
use Rattle.std.specs.Cmp.Lexicographic.{slice_cmp}
use Rattle.std.specs.declared.cmp.Ordering.{Ordering}
use Rattle.std.specs.declared.vec.Vec.{Vec}
use Rattle.std.specs.declared.alloc.Global.{Global}
use Rattle.std.specs.BTreeMap.{BTreeMap}
use Rattle.std.specs.FinMap.{FinMap, entries, from_sorted, from_entries}
use Rattle.sled_codec.specs.declared.serialization.meta.Meta.{Meta}
use Rattle.sled_codec.specs.Spelling.{SpellsNumber, short_number, SpellsBytes, short_bytes, SpellsPair, SpellsEach}

-- byte strings are in order by the first byte in which they differ
abbrev pub name_cmp : List ℕ → List ℕ → Ordering
name_cmp = slice_cmp nat_cmp

-- a byte string and its number
abbrev pub Named : Type 0
Named = List ℕ × ℕ

-- numbers by byte strings
abbrev pub Numbers : Type 0
Numbers = FinMap name_cmp ℕ

-- what they are as code holds them

abbrev pub named : Vec ℕ Global × ℕ → Named
named e = (e.0.items, e.1)

abbrev pub numbers_in : BTreeMap (Vec ℕ Global) ℕ → Numbers
numbers_in names = from_sorted (map named names.entries)

abbrev pub numbers_of : Meta → Numbers
numbers_of m = numbers_in m.inner

-- A name and its number, one behind the other.

abbrev pub SpellsNamed : List ℕ → Named → Type 0
SpellsNamed text p = SpellsPair SpellsBytes SpellsNumber text p.0 p.1

abbrev pub FitsNamed : Named → Type 0
FitsNamed p = (length p.0 < 2 ^ 63) × (p.1 < 2 ^ 64)

abbrev pub short_named : Named → List ℕ
short_named p = short_bytes p.0 ++ short_number p.1

-- They stand one behind another, and of two with the same name the later one counts.
pub record SpellsMeta (text : List ℕ) (m : Numbers) : Type 0 where
  pub pairs : List Named
  pub spelled : SpellsEach SpellsNamed text pairs
  pub is : m ≡ from_entries (reverse pairs)

-- in the order of the names
abbrev pub short_meta : Numbers → List ℕ
short_meta m = flat_map short_named (entries m)

abbrev pub FitsMeta : Numbers → Type 0
FitsMeta m = All FitsNamed (entries m) × (length (short_meta m) < 2 ^ 64)
