-- How the bytes of a segment are seen that are there, or were given away.
use Rattle.std.specs.Prelude.{Option, None, Some, vec_capacity}
use Rattle.sled_core.specs.inside.LaidBytes.{LaidBytes}
use Rattle.sled_core.specs.declared.iobuf.bytes.SegmentBytes.TheInside.{Inside}

abbrev pub laid_of : Inside → LaidBytes
laid_of a = elim a.laid as (λ _. LaidBytes) [
  | None ↦ record { items = a.bytes.items; room = vec_capacity a.bytes }
  | Some s ↦ record { items = s.value.items; room = 0 }
]
