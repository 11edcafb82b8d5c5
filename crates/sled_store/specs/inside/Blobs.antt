-- What proofs, and functions that no user calls, need beside `specs/Blobs.antt`. No public contract names it.
use Rattle.std.specs.Prelude.{ℤ, List, filter, int_le}

-- those of a list from one on
abbrev pub from_place : ℤ → List ℤ → List ℤ
from_place least places = filter (λ p. int_le least p) places
