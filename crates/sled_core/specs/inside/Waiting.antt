-- What proofs, and functions that no user calls, need beside `specs/Waiting.antt`. No public contract names it.
use Rattle.std.specs.Prelude.{nat_lt, ℕ, if◌then◌else◌, List, [], ◌∷◌}
use Rattle.sled_core.specs.Waiting.{BufferAt}

-- of buffers one behind another, those that begin below a place, and the others
abbrev pub begun_below : ℕ → List BufferAt → List BufferAt
begun_below to [] = []
begun_below to (b ∷ bs) = if nat_lt b.place to then b ∷ begun_below to bs else []
