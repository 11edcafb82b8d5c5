-- That messages of ever greater places are given of segments one behind another.
use Rattle.std.specs.Prelude.{◌≡◌, ◌⊎◌, ◌+◌, ◌≤◌, ℕ, suc, pos, List, [], ◌∷◌}
use Rattle.sled_core.specs.declared.iterator.Segment.{Segment}
use Rattle.sled_core.specs.Iterates.{Item}
use Rattle.sled_core.specs.Replayed.{IsDamagedBefore, IsReplayed}
use Rattle.sled_core.specs.Tail.{Scanned}

-- Segments lie one behind another from a place on: none begins before the one in front of it ends.
abbrev pub FollowFrom : ℕ → ℕ → List Segment → Type 0
FollowFrom size low [] = Unit {0}
FollowFrom size low (s ∷ ss) = (low ≤ s.place) × FollowFrom size (s.place + size) ss

-- A segment is read by a pass that ends at a place: up to a batch that is open, or to its end, or up to a damaged record.
abbrev pub IsReadBy : (List ℕ → ℕ) → ℕ → List ℕ → ℕ → Segment → Type 0
IsReadBy sum size log end s = IsDamagedBefore sum size log end s ⊎ ((x : Scanned) × (x.segment ≡ s) × IsReplayed sum size log end x)

-- Messages lie one behind another from a place on: each has a greater place than the one in front of it.
abbrev pub RiseFrom : ℕ → List Item → Type 0
RiseFrom low [] = Unit {0}
RiseFrom low (item ∷ items) = (place : ℕ) × (item.2 ≡ pos place) × (low ≤ place) × RiseFrom (suc place) items
