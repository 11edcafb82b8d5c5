-- The buffer of a segment, one of whose sealed buffers can be written.
use Rattle.std.proofs.Common.{◌≡◌, ◌∙◌, ◌<◌, sym, subst, ℕ, true, List, length, Some}
use Rattle.std.specs.List.{slice_get}
use Rattle.std.proofs.lemmas.Option.{slice_get_within}
use Rattle.sled_core.specs.Begun.{SegmentView, view_at}
use Rattle.sled_core.specs.declared.iobuf.IoBuf.{IoBuf}
use Rattle.sled_core.specs.declared.iobuf.Sealed.{Sealed}
use Rattle.sled_core.specs.declared.iobuf.SegmentPosition.{SegmentPosition}
use Rattle.sled_core.specs.inside.SealedBuffers.{is_ready}
use Rattle.sled_core.specs.inside.Turned.{IsReadyIn}

-- Its sealed buffer can be written.
pub record HasReady (b : IoBuf) (k : ℕ) : Type 0 where
  pub within : k < length b.sealed.items
  pub ready : (x : Sealed) → slice_get b.sealed.items k ≡ Some x → is_ready x ≡ true

pub ready_at : (line : List SegmentView) (n k : ℕ) (site : SegmentPosition) (b : IoBuf) → slice_get line n ≡ Some (view_at site b) → IsReadyIn line n k → HasReady b k
ready_at line n k site b there ready =
    let one : Some ready.segment ≡ Some (view_at site b) = sym ready.among ∙ there in
    let same : ready.segment ≡ view_at site b = cc in
    let its : slice_get b.sealed.items k ≡ Some ready.buffer = subst (λ (v : SegmentView). slice_get v.parts.sealed k ≡ Some ready.buffer) same ready.there in
    record {
      within = slice_get_within b.sealed.items k ready.buffer its;
      ready = λ x at. (let both : Some ready.buffer ≡ Some x = sym its ∙ at in let equal : ready.buffer ≡ x = cc in subst (λ (y : Sealed). is_ready y ≡ true) equal ready.ready);
    }
