-- Each buffer that can be written has its place.
use Rattle.std.proofs.Common.{rules, arith, ◌≡◌, ap, length, deque_len}
use Rattle.sled_core.specs.Fits.{line_of}
use Rattle.sled_core.proofs.Line.Segments.{line_segments}
use Rattle.sled_core.proofs.Pending.Found.{pending_length}
use Rattle.sled_core.proofs.logger.Log.pending.Goals as goal

pub returns : goal.returns
returns g c =
    let log = c.args.self.now in
    let long : deque_len log.ready.places ≡ length log.ready.places.items = search rules in
    let many = pending_length log.config.config.segment_size log.segments.first.site.place (line_of log) (line_segments log) in
    omega (arith, long, c.len.ensures, many, ap length log.line.indexed.places)
