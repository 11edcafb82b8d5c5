-- No reservation is open where none is in any of the segments.
use Rattle.std.proofs.Common.{◌≡◌, zero, suc, true, List, [], ◌∷◌, map, refl, subst, arith}
use Rattle.std.specs.List.{All}
use Rattle.std.proofs.lemmas.List.Elements.{All-cons, All-tail}
use Rattle.sled_core.specs.Begun.{SegmentView, segment_view}
use Rattle.sled_core.specs.inside.Begun.{open_segments}
use Rattle.sled_core.specs.Buffers.{none_open}
use Rattle.sled_core.specs.Fits.{NoneOpenIn}
use Rattle.sled_core.specs.declared.logger.io_bufs.SegmentBuffer.{SegmentBuffer}
use Rattle.sled_core.proofs.logger.Log.none_open.Goals as goal

-- in each of them
each_open : (ss : List SegmentBuffer) → All (λ s. none_open s.buffer.reserved.items ≡ true) ss → NoneOpenIn (map segment_view ss)
each_open [] all n v there = cc
each_open (s ∷ ss) all zero v there = let same : segment_view s ≡ v = cc in subst (λ (w : SegmentView). none_open w.parts.reserved ≡ true) same (all 0 s (omega arith))
each_open (s ∷ ss) all (suc n) v there = each_open ss (All-tail (λ x. none_open x.buffer.reserved.items ≡ true) s ss all) n v there

all_open : (ss : List SegmentBuffer) → NoneOpenIn (map segment_view ss) → All (λ s. none_open s.buffer.reserved.items ≡ true) ss
all_open [] each = λ k d lt. absurd (omega (arith, lt))
all_open (s ∷ ss) each = All-cons (λ x. none_open x.buffer.reserved.items ≡ true) s ss (each 0 (segment_view s) refl) (all_open ss (λ n v there. each (suc n) v there))

pub returns : goal.returns
returns g c =
    let segments = c.args.self.now.segments in
    (λ yes. each_open (open_segments segments) (c.none_open.ensures.0 yes), λ none. c.none_open.ensures.1 (all_open (open_segments segments) none))
