-- The headers of a log's segments that aren't on the device yet, as a list.
use Rattle.std.specs.Prelude.{◌==◌, ◌++◌, if◌then◌else◌, ℕ, List, [], ◌∷◌, take}
use Rattle.sled_core.specs.Begun.{SegmentView}

-- The bytes of a header, and the place where its segment begins.
pub record HeadAt : Type 0 where
  pub place : ℕ
  pub bytes : List ℕ

-- that of a segment
abbrev pub head_of : SegmentView → HeadAt
head_of v = record { place = v.parts.site.place; bytes = take 20 v.parts.bytes }

-- the same where nothing of the segment is on the device
abbrev pub heads_in : SegmentView → List HeadAt
heads_in v = if v.parts.written_len == 0 then head_of v ∷ [] else []

-- and of segments one behind another
abbrev pub heads_along : List SegmentView → List HeadAt
heads_along [] = []
heads_along (v ∷ vs) = heads_in v ++ heads_along vs
