-- Where what fills the segments of a log begins, of what isn't on the device yet, as a list.
use Rattle.std.specs.Prelude.{◌+◌, if◌then◌else◌, ℕ, List, [], ◌∷◌, ◌++◌}
use Rattle.sled_core.specs.declared.iobuf.Reserved.{Reserved}
use Rattle.sled_core.specs.declared.iobuf.SegmentPosition.{SegmentPosition}
use Rattle.sled_core.specs.Begun.{SegmentView}
use Rattle.sled_core.specs.Buffers.{padding_state}

-- Where something begins that fills a segment, and the place behind it, where the next segment begins.
pub record FillingAt : Type 0 where
  pub next : ℕ
  pub from : ℕ

-- that of an entry of a segment that lies there
abbrev pub filling_of : SegmentPosition → Reserved → FillingAt
filling_of site r = record { next = site.place + (r.from + r.len); from = site.place + r.from }

-- those of its entries that fill it, of which there is one at most
abbrev pub fillings_in : SegmentPosition → List Reserved → List FillingAt
fillings_in site [] = []
fillings_in site (r ∷ rs) = if padding_state r.state then filling_of site r ∷ fillings_in site rs else fillings_in site rs

-- and of segments one behind another
abbrev pub fillings_along : List SegmentView → List FillingAt
fillings_along [] = []
fillings_along (v ∷ vs) = fillings_in v.parts.site v.parts.reserved ++ fillings_along vs
