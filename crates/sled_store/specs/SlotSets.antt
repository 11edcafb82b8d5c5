-- A set of slots as a complete binary tree in one list of marks: the root is node 1, the children of node i are 2i and 2i + 1, and the leaf of slot k is
-- node width + k.
use Rattle.std.specs.Prelude.{◌≡◌, ◌<◌, ◌+◌, ◌*◌, ◌^◌, ◌||◌, ℕ, suc, Bool, false, List, [], ◌∷◌, length, drop, if◌then◌else◌, slice_index_or}

-- whether a node is marked
abbrev pub mark : List Bool → ℕ → Bool
mark marks i = slice_index_or marks i false

-- the indexes of the marks from the i-th on that are set, in ascending order
abbrev pub marked_from : ℕ → List Bool → List ℕ
marked_from i [] = []
marked_from i (b ∷ bs) = if b then i ∷ marked_from (suc i) bs else marked_from (suc i) bs

-- the slots whose leaves are marked
abbrev pub marked_slots : ℕ → List Bool → List ℕ
marked_slots width marks = marked_from 0 (drop width marks)

-- a node is marked exactly where one of its children is
abbrev pub IsTied : List Bool → ℕ → Type 0
IsTied marks i = mark marks i ≡ (mark marks (2 * i) || mark marks (2 * i + 1))

-- each inner node is marked exactly where one of its children is
abbrev pub AreTied : ℕ → List Bool → Type 0
AreTied width marks = (i : ℕ) → 0 < i → i < width → IsTied marks i

-- A tree over so many leaves: none, or 2 to the power of its depth.
pub record IsSlotTree (depth width count : ℕ) (marks : List Bool) : Type 0 where
  pub leaves : length marks ≡ 2 * width
  pub full : 0 < width → width ≡ 2 ^ depth
  pub tied : AreTied width marks
  pub counted : count ≡ length (marked_slots width marks)
