-- What contracts see of a log's pool: how many emptied buffers of segments there are for further segments, and for how many bytes each has room.
use Rattle.std.specs.Prelude.{◌==◌, ◌+◌, ℕ, Bool, if◌then◌else◌, min, List, [], ◌∷◌}
use Rattle.sled_core.specs.Begun.{SegmentView}

pub record Pool : Type 0 where
  pub count : ℕ
  pub room : ℕ

-- how many there are once one more was given, where one is: there are four at most
abbrev pub with_given : Bool → ℕ → ℕ
with_given given n = if given then min 4 (n + 1) else n

-- how many of these segments aren't wholly on the device
abbrev pub count_unwritten : ℕ → List SegmentView → ℕ
count_unwritten size [] = 0
count_unwritten size (v ∷ vs) = (if v.parts.written_len == size then 0 else 1) + count_unwritten size vs
