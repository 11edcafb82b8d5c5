-- What code makes of the segment that is being filled, in the first buffer or in the last one behind it, is made of the last segment of the line.
use Rattle.std.proofs.Common.{◌≡◌, ◌∙◌, ◌<◌, ◌≤◌, ◌+◌, ◌^◌, ap, sym, arith, subst, ℕ, zero, suc, List, [], ◌∷◌, length, set, Some}
use Rattle.std.specs.List.{slice_get}
use Rattle.sled_core.specs.inside.Begun.{FollowOn}
use Rattle.sled_core.specs.Begun.{SegmentView, line_at, view_at}
use Rattle.sled_core.specs.declared.iobuf.IoBuf.{IoBuf}
use Rattle.sled_core.specs.declared.iobuf.SegmentPosition.{SegmentPosition}
use Rattle.sled_core.specs.declared.logger.io_bufs.SegmentBuffer.{SegmentBuffer}
use Rattle.sled_core.specs.Waiting.{at_last}

pub line_first : (f : SegmentView → SegmentView) (site : SegmentPosition) (b new : IoBuf) (ss : List SegmentBuffer) → length ss ≡ 0 → view_at site new ≡ f (view_at site b) → line_at site new ss ≡ at_last f (line_at site b ss)
line_first f site b new [] none is = ap (λ (v : SegmentView). v ∷ []) is
line_first f site b new (s ∷ ss) none is = absurd (omega (arith, none))

-- They follow one another with another one in the place of one of them, at its place and within its size.
pub follow_with : (size place : ℕ) (ss : List SegmentBuffer) (n : ℕ) (s s' : SegmentBuffer) → slice_get ss n ≡ Some s → s'.site ≡ s.site → length s'.buffer.bytes.items ≤ size → FollowOn size place ss → FollowOn size place (set ss n s')
follow_with size place [] n s s' there site inside follow = follow
follow_with size place (x ∷ xs) zero s s' there site inside follow =
    let same : x ≡ s = cc in
    let at : s'.site ≡ x.site = site ∙ ap (λ (y : SegmentBuffer). y.site) (sym same) in
    subst (λ (p : SegmentPosition). (p.place ≡ place) × (length s'.buffer.bytes.items ≤ size) × (p.place + size < 2 ^ 63) × (p.slot + size < 2 ^ 63) × FollowOn size (place + size) xs) (sym at)
    (follow.0, inside, follow.2, follow.3, follow.4)
follow_with size place (x ∷ xs) (suc n) s s' there site inside follow = (follow.0, follow.1, follow.2, follow.3, follow_with size (place + size) xs n s s' there site inside follow.4)

-- each of them is within its size
pub follow_in : (size place : ℕ) (ss : List SegmentBuffer) (n : ℕ) (s : SegmentBuffer) → slice_get ss n ≡ Some s → FollowOn size place ss → length s.buffer.bytes.items ≤ size
follow_in size place [] n s there follow = cc
follow_in size place (x ∷ xs) zero s there follow = let same : x ≡ s = cc in subst (λ (y : SegmentBuffer). length y.buffer.bytes.items ≤ size) same follow.1
follow_in size place (x ∷ xs) (suc n) s there follow = follow_in size (place + size) xs n s there follow.4
