-- What code makes where a further segment is begun: it lies behind the others, and all of them are filled as they have to be.
use Rattle.std.proofs.Common.{None, ◌≡◌, ◌∙◌, ◌<◌, ◌≤◌, ◌+◌, ◌*◌, ◌^◌, ◌-ℤ◌, ap, refl, arith, ℕ, pos, List, [], ◌∷◌, ◌++◌, length}
use Rattle.std.proofs.Math.Nat.{suc-mul}
use Rattle.std.proofs.lemmas.List.{map-append}
use Rattle.sled_codec.proofs.Segments.{length-short_header}
use Rattle.sled_codec.specs.Record.{short_header}
use Rattle.sled_store.specs.SegmentStates.{Machine, next_slot}
use Rattle.sled_core.specs.inside.Begun.{AreFilled, FollowOn, last_buffer}
use Rattle.sled_core.specs.Begun.{SegmentView, line_at, segment_view, view_at}
use Rattle.sled_core.specs.declared.iobuf.IoBuf.{IoBuf}
use Rattle.sled_core.specs.declared.iobuf.SegmentPosition.{SegmentPosition}
use Rattle.sled_core.specs.declared.logger.io_bufs.SegmentBuffer.{SegmentBuffer}
use Rattle.sled_core.specs.inside.Turned.{IsBegunView, begun_view, next_line}
use Rattle.sled_core.specs.Waiting.{closed_now, last_of}
use Rattle.sled_core.proofs.Line.Begins.{closable}
use Rattle.sled_core.proofs.Line.Closes.{IsClosable, closed_begin, closed_ends, closed_entered, closed_records, filled_site}
use Rattle.sled_core.proofs.Line.Entered.{filled_begun, filled_last, last_unfilled, last_used}
use Rattle.sled_core.proofs.Holds.Facts.{IsSegment}

-- They follow one another with one more at the end.
pub follow_one : (size place : ℕ) (ss : List SegmentBuffer) (s : SegmentBuffer) → s.site.place ≡ place + length ss * size → length s.buffer.bytes.items ≤ size → s.site.place + size < 2 ^ 63 → s.site.slot + size < 2 ^ 63 → FollowOn size place ss
    → FollowOn size place (ss ++ s ∷ [])
follow_one size place [] s at short place_small slot_small follow = (omega (arith, at), short, place_small, slot_small, tt)
follow_one size place (x ∷ xs) s at short place_small slot_small follow =
    (follow.0, follow.1, follow.2, follow.3, follow_one size (place + size) xs s (omega (arith, at, suc-mul (length xs) size)) short place_small slot_small follow.4)

pub line_more : (site : SegmentPosition) (b : IoBuf) (ss : List SegmentBuffer) (s : SegmentBuffer) → line_at site b (ss ++ s ∷ []) ≡ line_at site b ss ++ segment_view s ∷ []
line_more site b ss s = ap (λ (l : List SegmentView). view_at site b ∷ l) (map-append segment_view ss (s ∷ []))

-- Its buffer is the last one then.
pub last_one : (b : IoBuf) (ss : List SegmentBuffer) (s : SegmentBuffer) → last_buffer b (ss ++ s ∷ []) ≡ s.buffer
last_one b [] s = refl
last_one b (x ∷ xs) s = last_one x.buffer xs s

-- What code has of the new one.
pub begun_is : (sum : List ℕ → ℕ) (size : ℕ) (m : Machine) (stable : ℕ) (v : SegmentView) (site : SegmentPosition) (b : IoBuf) → site.place ≡ v.parts.site.place + size → site.slot ≡ next_slot m * size → IsBegunView sum site stable b
    → view_at site b ≡ begun_view sum size m stable v
begun_is sum size m stable v site b at slot is =
    is.view
    ∙ (λ i. record { parts = record { site = record { place = at i; slot = slot i }; bytes = short_header sum (pos (at i)) (pos stable -ℤ pos 1); written_len = 0; filled = None; sealed = []; reserved = [] }; gone = 0 })

-- The segments are filled then, where the one that is filled up has more than its header.
pub filled_next : (sum : List ℕ → ℕ) (size to : ℕ) (m : Machine) (stable : ℕ) (v : SegmentView) (vs : List SegmentView) {place : ℕ} → IsSegment size place (last_of v vs) → 0 < size → 20 < length (last_of v vs).parts.bytes
    → AreFilled size to (v ∷ vs) → AreFilled size to (next_line sum size m stable (v ∷ vs))
filled_next sum size to m stable v vs {place = its_place} here some used filled =
    let w : SegmentView = last_of v vs in
    let last = filled_last size to v vs filled in
    let unfilled = last_unfilled size to v vs filled in
    let its : IsClosable size w = closable size its_place w here last.0 in
    let long = length-short_header sum (pos (w.parts.site.place + size)) (pos stable -ℤ pos 1) in
    let low = last.1 in
    let short = its.short in
    let site : (closed_now sum size w).parts.site.place ≡ w.parts.site.place = ap (λ (p : SegmentPosition). p.place) (filled_site sum size w) in
    let above = last_used size to v vs filled used in
    filled_begun size to (closed_now sum size) (begun_view sum size m stable w) (some, omega (arith, low, short, long), tt) tt (omega arith) (omega (arith, long))
    v vs (closed_begin sum size w its.short its.small) (closed_entered sum size to w last.2)
    (closed_records sum size w its.short unfilled.0 unfilled.1, closed_ends sum size to w its.short last.1 unfilled.0, λ _. omega (arith, above, site)) filled
