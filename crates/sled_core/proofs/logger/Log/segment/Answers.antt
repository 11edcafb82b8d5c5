-- The n-th segment is that of the line.
use Rattle.sled_core.proofs.Line.NthOpen.{nth_is, nth_there}
use Rattle.sled_core.proofs.logger.Log.segment.Goals as goal

pub returns-clause-view : goal.returns-clause-view
returns-clause-view g c = nth_there c.args.self.now c.args.n c.segment-s.result.now c.segment-s.ensures

pub returns-clause-short : goal.returns-clause-short
returns-clause-short g c = (nth_is c.args.self.now c.args.n c.segment-s.result.now c.segment-s.ensures).short

pub returns-clause-place_in_reach : goal.returns-clause-place_in_reach
returns-clause-place_in_reach g c = (nth_is c.args.self.now c.args.n c.segment-s.result.now c.segment-s.ensures).place_small

pub returns-clause-slot_in_reach : goal.returns-clause-slot_in_reach
returns-clause-slot_in_reach g c = (nth_is c.args.self.now c.args.n c.segment-s.result.now c.segment-s.ensures).slot_small

pub returns-clause-place : goal.returns-clause-place
returns-clause-place g c = (nth_is c.args.self.now c.args.n c.segment-s.result.now c.segment-s.ensures).at
