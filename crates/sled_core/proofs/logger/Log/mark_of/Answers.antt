-- A buffer that begins its segment has the whole header: the first record of it begins behind that.
use Rattle.std.proofs.Common.{◌≡◌, ◌∙◌, ◌≤◌, ◌+◌, ◌-◌, List, ℕ, ap, sym, subst, arith, take, drop, length, Some}
use Rattle.std.specs.List.{slice_get}
use Rattle.std.proofs.lemmas.List.{length-take}
use Rattle.sled_core.specs.Begun.{SegmentView, view_at}
use Rattle.sled_core.specs.declared.iobuf.IoBuf.{IoBuf}
use Rattle.sled_core.specs.declared.iobuf.SegmentPosition.{SegmentPosition}
use Rattle.sled_core.specs.declared.logger.Log.{Log}
use Rattle.sled_core.specs.Fits.{line_of}
use Rattle.sled_core.specs.HeaderMark.{mark_at}
use Rattle.sled_core.specs.SealedBuffers.{bytes_between, sealed_end}
use Rattle.sled_core.specs.inside.Turned.{IsReadyIn, mark_of}
use Rattle.sled_core.proofs.Holds.Facts.{nth_facts}
use Rattle.sled_core.proofs.Line.NthOpen.{nth_there}
use Rattle.sled_core.proofs.Reserve.Ranges.{chain_grows}
use Rattle.sled_core.proofs.Sealed.Around.{sealed_at}
use Rattle.sled_core.proofs.Sealed.Slices.{end_to, slice_between}
use Rattle.sled_core.proofs.Line.Pooling.{ready_there}
use Rattle.sled_core.proofs.logger.Log.mark_of.Goals as goal

-- the buffer ends behind the header
ends_behind : {D C : Type 0} (log : Log D C) (n k : ℕ) (r : IsReadyIn (line_of log) n k) (v : SegmentView) → slice_get (line_of log) n ≡ Some v → 20 ≤ sealed_end v.parts.written_len (take (k + 1) v.parts.sealed)
ends_behind log n k r v among =
    let same : r.segment ≡ v = (let both : Some r.segment ≡ Some v = sym r.among ∙ among in cc) in
    let facts = nth_facts log n r.segment r.among in
    let s = sealed_at r.segment.parts.written_len r.segment.parts.reserved r.segment.parts.sealed k r.buffer facts.are r.there in
    let up = chain_grows _ _ _ s.chain in
    let end = end_to r.segment.parts.written_len r.segment.parts.sealed k r.buffer r.there in
    subst (λ (w : SegmentView). 20 ≤ sealed_end w.parts.written_len (take (k + 1) w.parts.sealed)) same (omega (arith, up, end))

pub as_slice-requires : goal.as_slice-requires
as_slice-requires g c = ready_there c.args.self.now c.args.n c.args.k c.requires.ready c.segment-s.result.now c.segment-s.ensures

pub mark_at-requires : goal.mark_at-requires
mark_at-requires g c = λ none.
    let site = c.segment-s.result.now.site in
    let b = c.segment-s.result.now.buffer in
    let long = ends_behind c.args.self.now c.args.n c.args.k c.requires.ready (view_at site b) (nth_there c.args.self.now c.args.n c.segment-s.result.now c.segment-s.ensures) in
    let end = c.span-from.ensures.to in
    let bytes = ap length c.as_slice.ensures.value in
    omega (arith, none, long, end, bytes, c.span-from.ensures.rises, c.span-from.ensures.inside, length-take (c.span-from.result.1 - c.span-from.result.0) (drop c.span-from.result.0 c.as_slice.result.now))

-- Its mark is that of its bytes.
mark_is : (k : ℕ) (site : SegmentPosition) (b : IoBuf) (from to : ℕ) (whole : List ℕ) → from ≡ sealed_end b.written_len (take k b.sealed.items) → to ≡ sealed_end b.written_len (take (k + 1) b.sealed.items)
    → from ≤ to → whole ≡ b.bytes.items → mark_at from (take (to - from) (drop from whole)) ≡ mark_of k (view_at site b)
mark_is k site b from to whole at end rises same =
    ap (mark_at from) (slice_between whole b.bytes.items from to rises same) ∙ (λ i. mark_at (at i) (bytes_between b.bytes.items (at i) (end i)))

pub returns : goal.returns
returns g c = λ v among.
    let site = c.segment-s.result.now.site in
    let b = c.segment-s.result.now.buffer in
    let same : view_at site b ≡ v = (let both : Some (view_at site b) ≡ Some v = sym (nth_there c.args.self.now c.args.n c.segment-s.result.now c.segment-s.ensures) ∙ among in cc) in
    c.mark_at.ensures
    ∙ mark_is c.args.k site b c.span-from.result.0 c.span-from.result.1 c.as_slice.result.now c.span-from.ensures.from c.span-from.ensures.to c.span-from.ensures.rises c.as_slice.ensures.value
    ∙ ap (mark_of c.args.k) same
