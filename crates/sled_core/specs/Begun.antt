-- The segments that a log has begun, and what it has of each: the first one that isn't wholly on the device, and those behind it.
use Rattle.std.specs.Prelude.{ℕ, List, ◌∷◌, map, Option, None, Some}
use Rattle.sled_core.specs.declared.iobuf.IoBuf.{IoBuf}
use Rattle.sled_core.specs.declared.iobuf.Reserved.{Reserved}
use Rattle.sled_core.specs.declared.iobuf.Sealed.{Sealed}
use Rattle.sled_core.specs.declared.iobuf.SegmentPosition.{SegmentPosition}
use Rattle.sled_core.specs.declared.logger.io_bufs.IoBufs.{IoBufs}
use Rattle.sled_core.specs.declared.logger.io_bufs.SegmentBuffer.{SegmentBuffer}
use Rattle.sled_core.specs.SealedBuffers.{sealed_end}

-- What a log has of a segment: where it lies, its bytes, how many of them were written without a gap, the buffers that were sealed since, and the
-- reservations since.
pub record SegmentParts : Type 0 where
  pub site : SegmentPosition
  pub bytes : List ℕ
  pub written_len : ℕ
  -- where what fills it begins, if anything does
  pub filled : Option ℕ
  pub sealed : List Sealed
  pub reserved : List Reserved

-- the same of what code keeps of it
abbrev pub parts_at : SegmentPosition → IoBuf → SegmentParts
parts_at site b =
    record { site = site; bytes = b.bytes.items; written_len = b.written_len; filled = b.filled; sealed = b.sealed.items; reserved = b.reserved.items }

-- What a log has of a segment, and how many reservations there were in it before those that it keeps: a ticket's number counts these too.
pub record SegmentView : Type 0 where
  pub parts : SegmentParts
  pub gone : ℕ

abbrev pub view_at : SegmentPosition → IoBuf → SegmentView
view_at site b = record { parts = parts_at site b; gone = b.gone }

abbrev pub segment_view : SegmentBuffer → SegmentView
segment_view s = view_at s.site s.buffer

-- all segments of a log, by place
abbrev pub line_at : SegmentPosition → IoBuf → List SegmentBuffer → List SegmentView
line_at site b behind = view_at site b ∷ map segment_view behind

abbrev pub line_in : IoBufs → List SegmentView
line_in segments = line_at segments.first.site segments.first.buffer segments.behind.items

-- how far the records of a segment of so many bytes go: up to what fills it
abbrev pub records_to : Option ℕ → ℕ → ℕ
records_to None len = len
records_to (Some from) len = from

-- where the current buffer of a segment begins
abbrev pub begin_of : SegmentView → ℕ
begin_of v = sealed_end v.parts.written_len v.parts.sealed
