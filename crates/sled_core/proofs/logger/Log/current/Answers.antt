-- The segment that is being filled is the last one.
use Rattle.std.proofs.Common.{◌≡◌, ◌+◌, ◌≤◌, ◌<◌, ◌^◌, sym, subst, length, Some}
use Rattle.std.specs.List.{slice_get}
use Rattle.sled_core.specs.Begun.{SegmentView}
use Rattle.sled_core.specs.inside.Begun.{open_segments}
use Rattle.sled_core.proofs.Holds.Facts.{current_facts}
use Rattle.sled_core.proofs.Line.NthOpen.{last_buffer_is, last_is}
use Rattle.sled_core.proofs.Line.Pooling.{there_last}
use Rattle.sled_core.proofs.logger.Log.current.Given.{Over}
use Rattle.sled_core.proofs.logger.Log.current.Goals as goal

its_last : (g : Over) (c : goal.After-result-1 g) → slice_get (open_segments c.args.self.now.segments) (length c.args.self.now.segments.behind.items) ≡ Some c.segment-s.result.now
its_last g c = subst (λ n. slice_get (open_segments c.args.self.now.segments) n ≡ Some c.segment-s.result.now) c.last_index.ensures c.segment-s.ensures

pub returns-clause-view : goal.returns-clause-view
returns-clause-view g c = sym (last_is c.args.self.now c.segment-s.result.now (its_last g c))

pub returns-clause-buffer : goal.returns-clause-buffer
returns-clause-buffer g c = sym (last_buffer_is c.args.self.now.segments c.segment-s.result.now (its_last g c))

pub returns-clause-there : goal.returns-clause-there
returns-clause-there g c =
    let log = c.args.self.now in
    there_last log c.segment-s.result.now (its_last g c)

pub returns-clause-short : goal.returns-clause-short
returns-clause-short g c = subst (λ (v : SegmentView). length v.parts.bytes ≤ c.args.self.now.config.config.segment_size) (last_is c.args.self.now c.segment-s.result.now (its_last g c)) (current_facts c.args.self.now).short

pub returns-clause-place_in_reach : goal.returns-clause-place_in_reach
returns-clause-place_in_reach g c = subst (λ (v : SegmentView). v.parts.site.place + c.args.self.now.config.config.segment_size < 2 ^ 63) (last_is c.args.self.now c.segment-s.result.now (its_last g c)) (current_facts c.args.self.now).place_small

pub returns-clause-slot_in_reach : goal.returns-clause-slot_in_reach
returns-clause-slot_in_reach g c = subst (λ (v : SegmentView). v.parts.site.slot + c.args.self.now.config.config.segment_size < 2 ^ 63) (last_is c.args.self.now c.segment-s.result.now (its_last g c)) (current_facts c.args.self.now).slot_small
