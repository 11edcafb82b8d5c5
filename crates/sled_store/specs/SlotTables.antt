-- What is known of the entries of a snapshot that were gone through.
use Rattle.std.specs.Prelude.{◌≡◌, ◌==◌, ◌^◌, ◌<◌, ℕ, pos, if◌then◌else◌, List, [], ◌∷◌, Option, Some, None, option_map}
use Rattle.std.specs.List.{list_any}
use Rattle.std.specs.Ordering.{nat_cmp}
use Rattle.std.specs.BTreeMap.{get}
use Rattle.std.specs.BTreeSet.{contains}
use Rattle.sled_codec.specs.declared.result.DiskPtr.TheVariants.{Inline}
use Rattle.sled_codec.specs.Snapshots.{Entry}
use Rattle.sled_store.specs.declared.segment.slot_table.SlotTable.{SlotTable}
use Rattle.sled_store.specs.Begin.{slot_of, segment_number_of, sizes_in, AreApart}

-- the number of the segment that the first entry in a slot is of
abbrev pub number_in : ℕ → ℕ → List Entry → Option ℕ
number_in size k [] = None
number_in size k (e ∷ es) = if slot_of size e == k then Some (segment_number_of size e) else number_in size k es

-- entries may lie together in the slots of a file
pub record AreFit (size : ℕ) (es : List Entry) : Type 0 where
  pub apart : AreApart size es
  pub counted : (k : ℕ) → sizes_in size k es < 2 ^ 63

-- A book knows of each slot which segment lies there and how much of it, and which segments there are.
pub record IsSlotTable (size : ℕ) (b : SlotTable) (es : List Entry) : Type 0 where
  pub held : (k : ℕ) → get nat_cmp b.held k ≡ option_map (λ n. (n, sizes_in size k es)) (number_in size k es)
  pub numbers : (n : ℕ) → contains nat_cmp b.numbers n ≡ list_any (λ e. segment_number_of size e == n) es
  pub fit : AreFit size es

-- The active segment as an entry of no bytes, where there is one.
abbrev pub active_entry : ℕ → Option ℕ → List Entry
active_entry stable None = []
active_entry stable (Some a) = (pos stable, Inline a, 0) ∷ []
