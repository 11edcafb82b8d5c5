-- What each segment of a log keeps, whichever it is.
use Rattle.std.proofs.Common.{◌≡◌, ◌<◌, ◌≤◌, ◌+◌, ◌*◌, ◌^◌, refl, arith, subst, ℕ, zero, suc, List, [], ◌∷◌, length, max, drop, map, Some}
use Rattle.std.specs.List.{All, slice_get}
use Rattle.std.proofs.lemmas.List.{length-map}
use Rattle.sled_core.specs.inside.Begun.{FollowOn}
use Rattle.sled_core.specs.Begun.{SegmentView, begin_of, segment_view, view_at}
use Rattle.sled_core.specs.inside.Buffers.{IsChain, IsHeaded}
use Rattle.sled_core.specs.Buffers.{most_open, open_in}
use Rattle.sled_core.specs.declared.iobuf.IoBuf.{IoBuf}
use Rattle.sled_core.specs.declared.iobuf.SegmentPosition.{SegmentPosition}
use Rattle.sled_core.specs.declared.logger.Log.{Log}
use Rattle.sled_core.specs.declared.logger.io_bufs.SegmentBuffer.{SegmentBuffer}
use Rattle.sled_core.specs.Fits.{current_of, line_of}
use Rattle.sled_core.specs.inside.SealedBuffers.{AreSealed, FirstUnwritten}
use Rattle.sled_core.specs.SealedBuffers.{sealed_count}
use Rattle.sled_core.proofs.Holds.Nth.{last_get}

-- A segment at a place: within its size and in reach, with its buffers and reservations one behind another.
pub record IsSegment (size place : ℕ) (v : SegmentView) : Type 0 where
  pub at : v.parts.site.place ≡ place
  pub short : length v.parts.bytes ≤ size
  pub place_small : v.parts.site.place + size < 2 ^ 63
  pub slot_small : v.parts.site.slot + size < 2 ^ 63
  pub begun : 20 ≤ length v.parts.bytes
  pub begins : begin_of v ≤ length v.parts.bytes
  pub fresh : FirstUnwritten v.parts.sealed
  pub are : AreSealed v.parts.written_len v.parts.reserved v.parts.sealed
  pub chain : IsChain (max 20 (begin_of v)) (drop (sealed_count v.parts.sealed) v.parts.reserved) (length v.parts.bytes)
  pub headed : All IsHeaded v.parts.reserved
  pub within : All (λ r. r.from + r.len ≤ length v.parts.bytes) v.parts.reserved
  pub parted : sealed_count v.parts.sealed ≤ length v.parts.reserved
  pub few : open_in (drop (sealed_count v.parts.sealed) v.parts.reserved) ≤ most_open
  pub numbered : v.gone + length v.parts.reserved ≤ length v.parts.bytes

segment_facts : (size : ℕ) (site : SegmentPosition) (b : IoBuf) → length b.bytes.items ≤ size → site.place + size < 2 ^ 63 → site.slot + size < 2 ^ 63 → IsSegment size site.place (view_at site b)
segment_facts size site b short place_small slot_small = record {
  at = refl;
  short = short;
  place_small = place_small;
  slot_small = slot_small;
  begun = b.begun;
  begins = omega (arith, b.begins, b.behind);
  fresh = b.head;
  are = b.are;
  chain = subst (λ n. IsChain (max 20 n) (drop (sealed_count b.sealed.items) b.reserved.items) (length b.bytes.items)) b.begins (subst (λ n. IsChain (max 20 b.begin) (drop n b.reserved.items) (length b.bytes.items)) b.before b.chain);
  headed = b.headed;
  within = b.within;
  parted = omega (arith, b.before, b.parted);
  few = subst (λ n. open_in (drop n b.reserved.items) ≤ most_open) b.before (omega (arith, b.counted, b.few));
  numbered = b.numbered;
}

behind_facts : (size place : ℕ) (ss : List SegmentBuffer) → FollowOn size place ss → (n : ℕ) (v : SegmentView) → slice_get (map segment_view ss) n ≡ Some v → IsSegment size (place + n * size) v
behind_facts size place [] follow n v there = cc
behind_facts size place (s ∷ ss) follow zero v there =
    let same : segment_view s ≡ v = cc in
    subst (λ (w : SegmentView). IsSegment size (place + 0 * size) w) same
    (subst (λ n. IsSegment size n (segment_view s)) (let is : s.site.place ≡ place = follow.0 in omega (arith, is)) (segment_facts size s.site s.buffer follow.1 follow.2 follow.3))
behind_facts size place (s ∷ ss) follow (suc n) v there =
    subst (λ p. IsSegment size p v) (omega arith) (behind_facts size (place + size) ss follow.4 n v there)

-- So it is with the n-th segment of a log, and with the one that is being filled.
pub nth_facts : {D C : Type 0} (log : Log D C) (n : ℕ) (v : SegmentView) → slice_get (line_of log) n ≡ Some v → IsSegment log.config.config.segment_size (log.segments.first.site.place + n * log.config.config.segment_size) v
nth_facts log zero v there =
    let size : ℕ = log.config.config.segment_size in
    let same : segment_view log.segments.first ≡ v = cc in
    subst (λ (w : SegmentView). IsSegment size (log.segments.first.site.place + 0 * size) w) same
    (subst (λ p. IsSegment size p (segment_view log.segments.first)) (omega arith) (segment_facts size log.segments.first.site log.segments.first.buffer log.line.lies.in_segment log.line.lies.place_in_reach log.line.lies.slot_in_reach))
nth_facts log (suc n) v there =
    let size : ℕ = log.config.config.segment_size in
    subst (λ p. IsSegment size p v) (omega arith) (behind_facts size (log.segments.first.site.place + size) log.segments.behind.items log.line.lies.follow n v there)

pub current_facts : {D C : Type 0} (log : Log D C) → IsSegment log.config.config.segment_size (log.segments.first.site.place + length log.segments.behind.items * log.config.config.segment_size) (current_of log)
current_facts log =
    let size : ℕ = log.config.config.segment_size in
    let here = nth_facts log (length (map segment_view log.segments.behind.items)) (current_of log) (last_get (segment_view log.segments.first) (map segment_view log.segments.behind.items)) in
    subst (λ n. IsSegment size (log.segments.first.site.place + n * size) (current_of log)) (length-map log.segments.behind.items segment_view) here
