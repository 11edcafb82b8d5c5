-- A reservation of one of the segments is completed.
use Rattle.std.proofs.Common.{false, refl, arith}
use Rattle.sled_core.specs.declared.iobuf.ReservationState.TheVariants.{Completed}
use Rattle.sled_core.specs.declared.logger.io_bufs.SegmentBuffer.{SegmentBuffer}
use Rattle.sled_core.specs.inside.Buffers.{completing}
use Rattle.sled_core.specs.Fits.{line_of}
use Rattle.sled_core.specs.inside.Turned.{HasOpenIn}
use Rattle.sled_core.proofs.Line.EndedIn.{completes, has_ended, index_within, its_view, number_within, numbered, one_open}
use Rattle.sled_core.proofs.Pending.EndsIn.{Ended, in_reach, indexed, own}
use Rattle.sled_core.proofs.Line.Pooling.{kept_with}
use Rattle.sled_core.proofs.logger.Log.complete_in.Goals as goal

-- Its segment has it, and it is open.

pub segment_mut-s-requires : goal.segment_mut-s-requires
segment_mut-s-requires g c = number_within c.args.self.now c.args.n c.args.index c.requires.awaited

pub overflow_sub-i : goal.overflow_sub-i
overflow_sub-i g c = numbered c.args.self.now c.args.n c.args.index c.requires.awaited c.segment_mut-s.result.now c.segment_mut-s.ensures.value

pub complete-requires-clause-within : goal.complete-requires-clause-within
complete-requires-clause-within g c = index_within c.args.self.now c.args.n c.args.index c.requires.awaited c.segment_mut-s.result.now c.segment_mut-s.ensures.value

pub complete-requires-clause-awaited : goal.complete-requires-clause-awaited
complete-requires-clause-awaited g c = one_open c.args.self.now c.args.n c.args.index c.requires.awaited c.segment_mut-s.result.now c.segment_mut-s.ensures.value

pub note_ended-requires : goal.note_ended-requires
note_ended-requires g c =
    let log = c.args.self.now in
    let its : HasOpenIn (line_of log) c.args.n c.args.index = c.requires.awaited in
    let s : SegmentBuffer = c.segment_mut-s.result.now in
    let did : Ended log c.args.n c.args.index its (λ bytes r. completing r) Completed s.site s.buffer c.complete.new.self =
    record { mine = its_view log c.args.n c.args.index its s c.segment_mut-s.ensures.value; did = c.complete.ensures } in
    record {
      place = in_reach log c.args.n c.args.index its (λ bytes r. completing r) Completed s.site s.buffer c.complete.new.self did;
      own = own log c.args.n c.args.index its (λ bytes r. completing r) Completed s.site s.buffer c.complete.new.self did;
    }

pub invariant_of-self : goal.invariant_of-self
invariant_of-self g c =
    let log = c.args.self.now in
    let its : HasOpenIn (line_of log) c.args.n c.args.index = c.requires.awaited in
    let s : SegmentBuffer = c.segment_mut-s.result.now in
    let there = c.segment_mut-s.ensures.value in
    let now = has_ended log c.args.n c.args.index its (λ bytes r. completing r) Completed (completes log c.args.n c.args.index its) s there c.complete.new.self c.complete.ensures in
    let did : Ended log c.args.n c.args.index its (λ bytes r. completing r) Completed s.site s.buffer c.complete.new.self =
    record { mine = its_view log c.args.n c.args.index its s there; did = c.complete.ensures } in
    record {
      line = record {
        lies = now.lie;
        filled = now.filled;
        indexed = indexed log c.args.n c.args.index its (λ bytes r. completing r) Completed s.site s.buffer c.complete.new.self did _ (now.line its.segment its.reserved its.among its.there) c.note_ended.new.self c.note_ended.ensures;
      };
      account = log.account;
      noted = record {
        pegs = log.noted.pegs;
        counted = now.counted false log.batches.manifests (c.requires.message its.segment its.reserved its.among its.there) refl;
      };
      pooling = kept_with log c.args.n s (record { site = s.site; buffer = c.complete.new.self }) there
          (λ some. let room = c.complete.ensures.room in omega (arith, some, room));
    }

pub returns-clause-line : goal.returns-clause-line
returns-clause-line g c =
    let log = c.args.self.now in
    let its : HasOpenIn (line_of log) c.args.n c.args.index = c.requires.awaited in
    (has_ended log c.args.n c.args.index its (λ bytes r. completing r) Completed (completes log c.args.n c.args.index its) c.segment_mut-s.result.now c.segment_mut-s.ensures.value c.complete.new.self c.complete.ensures).line
