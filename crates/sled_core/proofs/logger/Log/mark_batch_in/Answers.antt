-- The manifest of a batch has ended, in one of the segments.
use Rattle.std.proofs.Common.{◌≡◌, ◌+◌, ◌-◌, ◌<◌, refl, set, subst, sym, true, arith}
use Rattle.std.specs.List.{All}
use Rattle.sled_core.specs.declared.iobuf.ReservationState.TheVariants.{Manifest}
use Rattle.sled_core.specs.declared.iobuf.Reserved.{Reserved}
use Rattle.sled_core.specs.declared.logger.batches.NotedBatch.{NotedBatch}
use Rattle.sled_core.specs.declared.logger.io_bufs.SegmentBuffer.{SegmentBuffer}
use Rattle.sled_core.specs.inside.Buffers.{marking}
use Rattle.sled_core.specs.Fits.{line_of}
use Rattle.sled_core.specs.inside.OpenPlaces.{open_manifests}
use Rattle.sled_core.specs.inside.Turned.{HasOpenIn, ended_now}
use Rattle.sled_core.proofs.Line.EndedIn.{has_ended, index_within, its_view, marks, number_within, numbered, one_is, one_open}
use Rattle.sled_core.proofs.Line.OpenManifests.{manifests_ended, some_counted}
use Rattle.sled_core.proofs.Pending.EndsIn.{Ended, in_reach, indexed, own}
use Rattle.sled_core.proofs.Line.Pooling.{kept_with}
use Rattle.sled_core.proofs.logger.Log.mark_batch_in.Goals as goal

-- It was counted.
pub end_manifest-requires : goal.end_manifest-requires
end_manifest-requires g c =
    let log = c.args.self.now in
    let its : HasOpenIn (line_of log) c.args.n c.args.index = c.requires.awaited in
    let i = c.args.index - its.segment.gone in
    let text = marking g.C.Checksum.sum_of its.segment.parts.bytes its.reserved c.args.peg in
    let ended = manifests_ended (line_of log) c.args.n its.segment i its.reserved text Manifest true its.among its.there its.open_yet (c.requires.kind its.segment its.reserved its.among its.there) refl in
    some_counted true (open_manifests (line_of log)) (open_manifests (set (line_of log) c.args.n (ended_now i its.reserved text Manifest its.segment))) log.batches.manifests ended log.noted.counted

-- Its segment has it, and it is open.

pub segment_mut-s-requires : goal.segment_mut-s-requires
segment_mut-s-requires g c = number_within c.args.self.now c.args.n c.args.index c.requires.awaited

pub overflow_sub-i : goal.overflow_sub-i
overflow_sub-i g c = numbered c.args.self.now c.args.n c.args.index c.requires.awaited c.segment_mut-s.result.now c.segment_mut-s.ensures.value

pub mark_batch-requires-clause-within : goal.mark_batch-requires-clause-within
mark_batch-requires-clause-within g c = index_within c.args.self.now c.args.n c.args.index c.requires.awaited c.segment_mut-s.result.now c.segment_mut-s.ensures.value

pub mark_batch-requires-clause-awaited : goal.mark_batch-requires-clause-awaited
mark_batch-requires-clause-awaited g c = one_open c.args.self.now c.args.n c.args.index c.requires.awaited c.segment_mut-s.result.now c.segment_mut-s.ensures.value

pub mark_batch-requires-clause-body : goal.mark_batch-requires-clause-body
mark_batch-requires-clause-body g c = λ r there.
    let its : HasOpenIn _ _ _ = c.requires.awaited in
    subst (λ (x : Reserved). x.len ≡ x.header_len + 8) (one_is c.args.self.now c.args.n c.args.index its c.segment_mut-s.result.now c.segment_mut-s.ensures.value r there)
    (c.requires.body its.segment its.reserved its.among its.there)

pub note_ended-requires : goal.note_ended-requires
note_ended-requires g c =
    let log = c.args.self.now in
    let its : HasOpenIn (line_of log) c.args.n c.args.index = c.requires.awaited in
    let s : SegmentBuffer = c.segment_mut-s.result.now in
    let did : Ended log c.args.n c.args.index its (λ bytes r. marking g.C.Checksum.sum_of bytes r c.args.peg) Manifest s.site s.buffer c.mark_batch.new.self =
    record { mine = its_view log c.args.n c.args.index its s c.segment_mut-s.ensures.value; did = c.mark_batch.ensures } in
    record {
      place = in_reach log c.args.n c.args.index its (λ bytes r. marking g.C.Checksum.sum_of bytes r c.args.peg) Manifest s.site s.buffer c.mark_batch.new.self did;
      own = own log c.args.n c.args.index its (λ bytes r. marking g.C.Checksum.sum_of bytes r c.args.peg) Manifest s.site s.buffer c.mark_batch.new.self did;
    }

pub invariant_of-self : goal.invariant_of-self
invariant_of-self g c =
    let log = c.args.self.now in
    let its : HasOpenIn (line_of log) c.args.n c.args.index = c.requires.awaited in
    let s : SegmentBuffer = c.segment_mut-s.result.now in
    let there = c.segment_mut-s.ensures.value in
    let now = has_ended log c.args.n c.args.index its (λ bytes r. marking g.C.Checksum.sum_of bytes r c.args.peg) Manifest (marks log c.args.n c.args.index its g.C.Checksum.sum_of c.args.peg (c.requires.body its.segment its.reserved its.among its.there)) s there c.mark_batch.new.self c.mark_batch.ensures in
    let did : Ended log c.args.n c.args.index its (λ bytes r. marking g.C.Checksum.sum_of bytes r c.args.peg) Manifest s.site s.buffer c.mark_batch.new.self =
    record { mine = its_view log c.args.n c.args.index its s there; did = c.mark_batch.ensures } in
    record {
      line = record {
        lies = now.lie;
        filled = now.filled;
        indexed = indexed log c.args.n c.args.index its (λ bytes r. marking g.C.Checksum.sum_of bytes r c.args.peg) Manifest s.site s.buffer c.mark_batch.new.self did _ (now.line its.segment its.reserved its.among its.there) c.note_ended.new.self c.note_ended.ensures;
      };
      account = log.account;
      noted = record {
        pegs = subst (All (λ (b : NotedBatch). b.peg < log.reserved_to)) (sym c.end_manifest.ensures.items) log.noted.pegs;
        counted = now.counted true c.end_manifest.new.self.manifests (c.requires.kind its.segment its.reserved its.among its.there) c.end_manifest.ensures.manifests;
      };
      pooling = kept_with log c.args.n s (record { site = s.site; buffer = c.mark_batch.new.self }) there
          (λ some. let room = c.mark_batch.ensures.room in omega (arith, some, room));
    }

pub returns-clause-line : goal.returns-clause-line
returns-clause-line g c =
    let log = c.args.self.now in
    let its : HasOpenIn (line_of log) c.args.n c.args.index = c.requires.awaited in
    (has_ended log c.args.n c.args.index its (λ bytes r. marking g.C.Checksum.sum_of bytes r c.args.peg) Manifest (marks log c.args.n c.args.index its g.C.Checksum.sum_of c.args.peg (c.requires.body its.segment its.reserved its.among its.there)) c.segment_mut-s.result.now c.segment_mut-s.ensures.value c.mark_batch.new.self c.mark_batch.ensures).line
