use Rattle.std.specs.Prelude.{◌≡◌, length}
use Rattle.sled_core.specs.Begun.{line_in}
use Rattle.sled_core.specs.inside.Begun.{last_buffer_in}
use Rattle.sled_core.specs.inside.Turned.{promoted}
use Rattle.sled_core.proofs.logger.io_bufs.IoBufs.promote.Given as goal

-- Segments are left out until the first one isn't wholly on the device, or is the last.
abbrev pub invariant-loop-self : goal.invariant-loop-self
invariant-loop-self l = record {
  left : promoted l.size (line_in l.self) ≡ promoted l.fn.size (line_in l.fn.self);
  last : last_buffer_in l.self ≡ last_buffer_in l.fn.self;
  size : l.size ≡ l.fn.size;
}

abbrev pub decreases-loop-self : goal.decreases-loop-self
decreases-loop-self l = length l.self.behind.items
