-- Places in the log, and where they lie in segments of a size. A place is a number here; a call that answers one gives it as a signed number.
use Rattle.std.specs.Prelude.{◌-◌, ◌*◌, ◌/◌, ◌%◌, ◌≤◌, ℕ, List, take, drop}

-- the number of the segment that holds a place
abbrev pub segment_of : ℕ → ℕ → ℕ
segment_of size place = place / size

-- how far into its segment a place lies
abbrev pub offset_of : ℕ → ℕ → ℕ
offset_of size place = place % size

-- a record may begin here: behind the header of the segment, with room for the longest header of a message
pub record MayBegin (size place : ℕ) : Type 0 where
  pub behind_header : 20 ≤ offset_of size place
  pub before_end : offset_of size place ≤ size - 32

-- n bytes from an offset on
abbrev pub part : List ℕ → ℕ → ℕ → List ℕ
part bytes at n = take n (drop at bytes)

-- the bytes of a slot of the file
abbrev pub slot_bytes : ℕ → List ℕ → ℕ → List ℕ
slot_bytes size file slot = part file (slot * size) size
