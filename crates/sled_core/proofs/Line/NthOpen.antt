-- One of the open segments of a log, by its number, as code has it: and the segments with another buffer in its place.
use Rattle.std.proofs.Common.{◌≡◌, ◌∙◌, ◌<◌, ◌≤◌, ◌+◌, ◌*◌, ◌^◌, ap, sym, refl, arith, subst, ℕ, zero, suc, List, [], ◌∷◌, length, map, set, Some}
use Rattle.std.specs.List.{slice_get}
use Rattle.std.specs.VecDeque.{deque_capacity, deque_len}
use Rattle.std.proofs.lemmas.List.{length-map, length-set, map-set}
use Rattle.std.proofs.lemmas.Option.{slice_get_within}
use Rattle.sled_core.specs.inside.Begun.{FollowOn, LieWithin, last_buffer, last_buffer_in, open_segments, with_nth}
use Rattle.sled_core.specs.Begun.{SegmentView, line_in, segment_view}
use Rattle.sled_core.specs.declared.iobuf.SegmentPosition.{SegmentPosition}
use Rattle.sled_core.specs.declared.logger.Log.{Log}
use Rattle.sled_core.specs.declared.logger.io_bufs.IoBufs.{IoBufs}
use Rattle.sled_core.specs.declared.logger.io_bufs.SegmentBuffer.{SegmentBuffer}
use Rattle.sled_core.specs.Fits.{current_of, line_of}
use Rattle.sled_core.specs.Waiting.{at_last, last_of}
use Rattle.sled_core.proofs.Holds.Facts.{IsSegment, nth_facts}
use Rattle.sled_core.proofs.Holds.Nth.{at_last_set, map_get, set_get}
use Rattle.sled_core.proofs.Line.Filling.{follow_in, follow_with}

-- The segments with another one in the place of the n-th are seen so.

pub line_with : (segments : IoBufs) (n : ℕ) (s : SegmentBuffer) → line_in (with_nth segments n s) ≡ set (line_in segments) n (segment_view s)
line_with segments zero s = refl
line_with segments (suc n) s = ap (λ (l : List SegmentView). segment_view segments.first ∷ l) (map-set segment_view segments.behind.items n s)

pub get_with : (segments : IoBufs) (n : ℕ) (s t : SegmentBuffer) → slice_get (open_segments segments) n ≡ Some s → slice_get (open_segments (with_nth segments n t)) n ≡ Some t
get_with segments zero s t there = refl
get_with segments (suc n) s t there = set_get segments.behind.items n s t there

pub many_with : (segments : IoBufs) (n : ℕ) (s : SegmentBuffer) → length (with_nth segments n s).behind.items ≡ length segments.behind.items
many_with segments zero s = refl
many_with segments (suc n) s = length-set segments.behind.items n s

-- The first one lies where it did, and as much of it is written, where that is so of the one that is changed; and there is room for as many behind it.

pub site_with : (segments : IoBufs) (n : ℕ) (s t : SegmentBuffer) → slice_get (open_segments segments) n ≡ Some s → t.site ≡ s.site → (with_nth segments n t).first.site ≡ segments.first.site
site_with segments zero s t there site = let same : segments.first ≡ s = cc in site ∙ sym (ap (λ (x : SegmentBuffer). x.site) same)
site_with segments (suc n) s t there site = refl

pub written_with : (segments : IoBufs) (n : ℕ) (s t : SegmentBuffer) → slice_get (open_segments segments) n ≡ Some s → t.buffer.written_len ≡ s.buffer.written_len → (with_nth segments n t).first.buffer.written_len ≡ segments.first.buffer.written_len
written_with segments zero s t there written = let same : segments.first ≡ s = cc in written ∙ sym (ap (λ (x : SegmentBuffer). x.buffer.written_len) same)
written_with segments (suc n) s t there written = refl

pub room_with : (segments : IoBufs) (n : ℕ) (s : SegmentBuffer) → deque_len segments.behind < deque_capacity segments.behind → deque_len (with_nth segments n s).behind < deque_capacity (with_nth segments n s).behind
room_with segments zero s room = room
room_with segments (suc n) s room = room

-- The last one is the one at the number of those behind the first.

last_at : (x : SegmentBuffer) (xs : List SegmentBuffer) (s : SegmentBuffer) → slice_get (x ∷ xs) (length xs) ≡ Some s → last_of (segment_view x) (map segment_view xs) ≡ segment_view s
last_at x [] s there = let same : x ≡ s = cc in ap segment_view same
last_at x (y ∷ ys) s there = last_at y ys s there

buffer_at : (x : SegmentBuffer) (xs : List SegmentBuffer) (s : SegmentBuffer) → slice_get (x ∷ xs) (length xs) ≡ Some s → last_buffer x.buffer xs ≡ s.buffer
buffer_at x [] s there = let same : x ≡ s = cc in ap (λ (y : SegmentBuffer). y.buffer) same
buffer_at x (y ∷ ys) s there = buffer_at y ys s there

pub last_buffer_is : (segments : IoBufs) (s : SegmentBuffer) → slice_get (open_segments segments) (length segments.behind.items) ≡ Some s → last_buffer_in segments ≡ s.buffer
last_buffer_is segments s there = buffer_at segments.first segments.behind.items s there

pub last_buffer_with : (segments : IoBufs) (s t : SegmentBuffer) → slice_get (open_segments segments) (length segments.behind.items) ≡ Some s → last_buffer_in (with_nth segments (length segments.behind.items) t) ≡ t.buffer
last_buffer_with segments s t there =
    let n : ℕ = length segments.behind.items in
    let now : IoBufs = with_nth segments n t in
    last_buffer_is now t (subst (λ k. slice_get (open_segments now) k ≡ Some t) (sym (many_with segments n t)) (get_with segments n s t there))

-- Where it is changed, the last segment of the line is.
pub line_with_last : (f : SegmentView → SegmentView) (segments : IoBufs) (s t : SegmentBuffer) → slice_get (open_segments segments) (length segments.behind.items) ≡ Some s → segment_view t ≡ f (segment_view s)
    → line_in (with_nth segments (length segments.behind.items) t) ≡ at_last f (line_in segments)
line_with_last f segments s t there is =
    let vs : List SegmentView = map segment_view segments.behind.items in
    let v : SegmentView = segment_view segments.first in
    let last : last_of v vs ≡ segment_view s = last_at segments.first segments.behind.items s there in
    line_with segments (length segments.behind.items) t
    ∙ (λ i. set (v ∷ vs) (sym (length-map segments.behind.items segment_view) i) ((is ∙ ap f (sym last)) i))
    ∙ sym (at_last_set f v vs)

-- They lie within their size also with another one at the same place, of which no more is on the device.
pub within_with : (size : ℕ) (segments : IoBufs) (n : ℕ) (s t : SegmentBuffer) → slice_get (open_segments segments) n ≡ Some s → t.site ≡ s.site → length t.buffer.bytes.items ≤ size → t.buffer.written_len ≤ s.buffer.written_len
    → LieWithin size segments → LieWithin size (with_nth segments n t)
within_with size segments zero s t there site short written lie =
    let same : segments.first ≡ s = cc in
    let here : segments.first.site ≡ t.site = ap (λ (x : SegmentBuffer). x.site) same ∙ sym site in
    let place : segments.first.site.place ≡ t.site.place = ap (λ (p : SegmentPosition). p.place) here in
    record {
      in_segment = short;
      place_in_reach = (let old = lie.place_in_reach in omega (arith, old, place));
      slot_in_reach = (let old = lie.slot_in_reach in omega (arith, old, ap (λ (p : SegmentPosition). p.slot) here));
      waits = λ some. (let old = lie.waits some in omega (arith, old, written, ap (λ (x : SegmentBuffer). x.buffer.written_len) same));
      follow = subst (λ p. FollowOn size (p + size) segments.behind.items) place lie.follow;
    }
within_with size segments (suc n) s t there site short written lie = record {
  in_segment = lie.in_segment;
  place_in_reach = lie.place_in_reach;
  slot_in_reach = lie.slot_in_reach;
  waits = λ some. lie.waits (let many = length-set segments.behind.items n t in omega (arith, some, many));
  follow = follow_with size (segments.first.site.place + size) segments.behind.items n s t there site short lie.follow;
}

pub short_in : (size : ℕ) (segments : IoBufs) (n : ℕ) (s : SegmentBuffer) → slice_get (open_segments segments) n ≡ Some s → LieWithin size segments → length s.buffer.bytes.items ≤ size
short_in size segments zero s there lie = let same : segments.first ≡ s = cc in subst (λ (x : SegmentBuffer). length x.buffer.bytes.items ≤ size) same lie.in_segment
short_in size segments (suc n) s there lie = follow_in size (segments.first.site.place + size) segments.behind.items n s there lie.follow

-- The same ones with more room.
pub within_same : (size : ℕ) (old new : IoBufs) → new.first ≡ old.first → new.behind.items ≡ old.behind.items → LieWithin size old → LieWithin size new
within_same size old new first behind lie = record {
  in_segment = subst (λ (s : SegmentBuffer). length s.buffer.bytes.items ≤ size) (sym first) lie.in_segment;
  place_in_reach = subst (λ (s : SegmentBuffer). s.site.place + size < 2 ^ 63) (sym first) lie.place_in_reach;
  slot_in_reach = subst (λ (s : SegmentBuffer). s.site.slot + size < 2 ^ 63) (sym first) lie.slot_in_reach;
  waits = λ some. subst (λ (s : SegmentBuffer). s.buffer.written_len < size) (sym first) (lie.waits (let many = ap (λ (l : List SegmentBuffer). length l) behind in omega (arith, some, many)));
  follow = subst (λ (s : SegmentBuffer). FollowOn size (s.site.place + size) new.behind.items) (sym first) (subst (FollowOn size (old.first.site.place + size)) (sym behind) lie.follow);
}

pub line_same : (old new : IoBufs) → new.first ≡ old.first → new.behind.items ≡ old.behind.items → line_in new ≡ line_in old
line_same old new first behind = λ i. segment_view (first i) ∷ map segment_view (behind i)

-- One that holds what it did leaves the line as it is.
set_still : {T : Type 0} (xs : List T) (n : ℕ) (x : T) → slice_get xs n ≡ Some x → set xs n x ≡ xs
set_still [] n x there = refl
set_still (y ∷ ys) zero x there = let same : y ≡ x = cc in ap (λ z. z ∷ ys) (sym same)
set_still (y ∷ ys) (suc n) x there = ap (λ l. y ∷ l) (set_still ys n x there)

pub line_still : (segments : IoBufs) (n : ℕ) (s t : SegmentBuffer) → slice_get (open_segments segments) n ≡ Some s → segment_view t ≡ segment_view s → line_in (with_nth segments n t) ≡ line_in segments
line_still segments n s t there same = line_with segments n t ∙ ap (set (line_in segments) n) same ∙ set_still (line_in segments) n (segment_view s) (map_get segment_view (open_segments segments) n s there)

module _ {D C : Type 0} (log : Log D C) where
  -- The n-th one is one of the line.
  module _ (n : ℕ) (s : SegmentBuffer) (there : slice_get (open_segments log.segments) n ≡ Some s) where
    pub nth_there : slice_get (line_of log) n ≡ Some (segment_view s)
    nth_there = map_get segment_view (open_segments log.segments) n s there

    pub nth_is : IsSegment log.config.config.segment_size (log.segments.first.site.place + n * log.config.config.segment_size) (segment_view s)
    nth_is = nth_facts log n (segment_view s) nth_there

    pub nth_same : (v : SegmentView) → slice_get (line_of log) n ≡ Some v → segment_view s ≡ v
    nth_same v among = let both : Some (segment_view s) ≡ Some v = sym nth_there ∙ among in cc

  -- There is one at a number of the line.
  pub nth_within : (n : ℕ) (v : SegmentView) → slice_get (line_of log) n ≡ Some v → n ≤ length log.segments.behind.items
  nth_within n v among =
      let within = slice_get_within (line_of log) n v among in
      omega (arith, within, length-map log.segments.behind.items segment_view)

  pub last_is : (s : SegmentBuffer) → slice_get (open_segments log.segments) (length log.segments.behind.items) ≡ Some s → current_of log ≡ segment_view s
  last_is s there = last_at log.segments.first log.segments.behind.items s there
