-- What is lent of the open segments of a log: one of them, by its number.
use Rattle.std.specs.Prelude.{ℕ}
use Rattle.std.specs.Borrow.{Fml, Lends, MutBor}
use Rattle.sled_core.specs.inside.Begun.{with_nth}
use Rattle.sled_core.specs.contracts.logger.io_bufs.IoBufs.{the_row as segments_row}
use Rattle.sled_core.specs.contracts.logger.io_bufs.SegmentBuffer.{the_row as segment_row}
use Rattle.sled_core.specs.declared.logger.io_bufs.IoBufs.{IoBufs}
use Rattle.sled_core.specs.declared.logger.io_bufs.SegmentBuffer.{SegmentBuffer}

-- Once the borrow ends, the n-th one is what was left behind it.
abbrev pub LendsSegment : MutBor IoBufs → ℕ → MutBor SegmentBuffer → Fml
LendsSegment segments n lent = Lends segments_row segment_row segments lent (with_nth segments.now n)
