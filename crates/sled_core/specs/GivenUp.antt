-- Which messages of a log were given up, of those that it has in memory, as lists.
use Rattle.std.specs.Prelude.{ℕ, Bool, true, false, if◌then◌else◌, List, [], ◌∷◌, ◌++◌}
use Rattle.sled_codec.specs.History.{Message}
use Rattle.sled_core.specs.declared.iobuf.ReservationState.{ReservationState}
use Rattle.sled_core.specs.declared.iobuf.ReservationState.TheVariants.{Open, Completed, Canceled, Manifest, Padding}
use Rattle.sled_core.specs.declared.iobuf.Reserved.{Reserved}
use Rattle.sled_core.specs.declared.iobuf.SegmentPosition.{SegmentPosition}
use Rattle.sled_core.specs.Begun.{SegmentView}
use Rattle.sled_core.specs.Buffers.{message_in}

-- given up
abbrev pub canceled_state : ReservationState → Bool
canceled_state Open = false
canceled_state Completed = false
canceled_state Canceled = true
canceled_state Manifest = false
canceled_state Padding = false

-- the messages of those reservations of a segment that were given up, by place, as a log has them that has the segment there
abbrev pub given_up_in : SegmentPosition → List ℕ → List Reserved → List Message
given_up_in site bytes [] = []
given_up_in site bytes (r ∷ rs) = if canceled_state r.state then message_in site bytes r ∷ given_up_in site bytes rs else given_up_in site bytes rs

-- and of those of segments one behind another
abbrev pub given_up_along : List SegmentView → List Message
given_up_along [] = []
given_up_along (v ∷ vs) = given_up_in v.parts.site v.parts.bytes v.parts.reserved ++ given_up_along vs
