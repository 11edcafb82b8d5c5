-- The place that is read is that of the buffer that is asked for: the segment that has it is looked at, and in it the first sealed buffer that ends behind it.
use Rattle.std.proofs.Common.{rules, arith, ◌≡◌, ap, length, deque_len}
use Rattle.sled_core.specs.Fits.{line_of}
use Rattle.sled_core.proofs.Line.Buffers.{Finds}
use Rattle.sled_core.proofs.Line.Segments.{line_segments}
use Rattle.sled_core.proofs.Pending.Found.{above_written, below_end, finds_it, lies_behind, number_within, pending_length, place_behind}
use Rattle.sled_core.proofs.logger.Log.ready_at.Given.{Over}
use Rattle.sled_core.proofs.logger.Log.ready_at.Goals as goal

pub index-place-requires : goal.index-place-requires
index-place-requires g c =
    let log = c.args.self.now in
    let long : deque_len log.ready.places ≡ length log.ready.places.items = search rules in
    let many = pending_length log.config.config.segment_size log.segments.first.site.place (line_of log) (line_segments log) in
    omega (arith, long, many, c.requires, ap length log.line.indexed.places)

pub segment_of-n-requires : goal.segment_of-n-requires
segment_of-n-requires g c = place_behind c.args.self.now c.args.i c.index-place.result.now c.requires c.index-place.ensures

pub segment-requires : goal.segment-requires
segment-requires g c = number_within c.args.self.now c.args.i c.index-place.result.now c.requires c.index-place.ensures c.segment_of-n.result c.segment_of-n.ensures

pub overflow_sub-place : goal.overflow_sub-place
overflow_sub-place g c =
    lies_behind c.args.self.now c.args.i c.index-place.result.now c.requires c.index-place.ensures c.segment_of-n.result c.segment_of-n.ensures c.segment.result.0 c.segment.result.1.now c.segment.ensures.view

pub around-k-requires-clause-sealed : goal.around-k-requires-clause-sealed
around-k-requires-clause-sealed g c =
    below_end c.args.self.now c.args.i c.index-place.result.now c.requires c.index-place.ensures c.segment_of-n.result c.segment_of-n.ensures c.segment.result.0 c.segment.result.1.now c.segment.ensures.view

pub around-k-requires-clause-behind : goal.around-k-requires-clause-behind
around-k-requires-clause-behind g c =
    above_written c.args.self.now c.args.i c.index-place.result.now c.requires c.index-place.ensures c.segment_of-n.result c.segment_of-n.ensures c.segment.result.0 c.segment.result.1.now c.segment.ensures.view

its : (g : Over) (c : goal.After-around-k g) → Finds (line_of c.args.self.now) c.args.i c.segment_of-n.result c.around-k.result.0
its g c =
    finds_it c.args.self.now c.args.i c.index-place.result.now c.requires c.index-place.ensures c.segment_of-n.result c.segment_of-n.ensures c.segment.result.0 c.segment.result.1.now c.segment.ensures.view
    c.around-k.result.0 c.around-k.ensures.within c.around-k.ensures.point

pub returns-clause-ready : goal.returns-clause-ready
returns-clause-ready g c = (its g c).ready

pub returns-clause-writes : goal.returns-clause-writes
returns-clause-writes g c = (its g c).writes

pub returns-clause-left : goal.returns-clause-left
returns-clause-left g c = (its g c).left

pub returns-clause-one : goal.returns-clause-one
returns-clause-one g c = (its g c).one
