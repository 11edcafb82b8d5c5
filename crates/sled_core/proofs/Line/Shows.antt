-- The buffers of segments with the current one as it would be sealed: what is seen of them, how long they are, and that none is held up where no reservation is open.
use Rattle.std.proofs.Common.{◌≡◌, ◌≤◌, ◌<◌, ◌+◌, ◌*◌, ◌/◌, ◌^◌, ap, refl, arith, ℕ, suc, Bool, true, false, if◌then◌else◌, List, [], ◌∷◌, ◌++◌, length, length-append, map, take, drop, None}
use Rattle.std.specs.List.{All}
use Rattle.std.proofs.Math.Nat.{div-le_self}
use Rattle.std.proofs.lemmas.Bool.Decides.{nat_tests}
use Rattle.std.proofs.lemmas.List.Elements.{All-append, All-cons, All-head, All-nil, All-tail}
use Rattle.sled_core.specs.Begun.{SegmentView, begin_of, segment_view}
use Rattle.sled_core.specs.Buffers.{first_open_in, none_open}
use Rattle.sled_core.specs.invariants.Caps.{segment_rest}
use Rattle.sled_core.specs.declared.iobuf.Reserved.{Reserved}
use Rattle.sled_core.specs.declared.iobuf.Sealed.{Sealed}
use Rattle.sled_core.specs.declared.iobuf.SegmentPosition.{SegmentPosition}
use Rattle.sled_core.specs.declared.logger.Log.{Log}
use Rattle.sled_core.specs.Fits.{NoneOpen, NoneOpenIn, buffers_of, current_begin, current_of, held_len, line_of, sealing_end, segment_size_of, start_of, waiting_of}
use Rattle.sled_core.specs.Positions.{is_short}
use Rattle.sled_core.specs.SealedBuffers.{seal_at, sealed_count, sealed_end}
use Rattle.sled_core.specs.Waiting.{BufferAt, HasLength, as_sealed, at_last, buffer_at, closed_now, filled_now, holds_any, placed, sealed_now, turned_now, unwritten, unwritten_in, unwritten_of}
use Rattle.sled_core.proofs.Line.Below.{none_first}
use Rattle.sled_core.proofs.Line.Closes.{by_filled, filled_begin, filled_ended}
use Rattle.sled_core.proofs.Holds.Facts.{IsSegment, current_facts}
use Rattle.sled_core.proofs.Line.Last.{All-at_last}
use Rattle.sled_core.proofs.Line.Segments.{AreSegments, line_segments}
use Rattle.sled_core.proofs.Line.Spans.{AddsSpan, at_last_more, at_last_unwritten, closed_adds, current_span, line_closed_adds, sealed_adds}
use Rattle.sled_core.proofs.Reserve.OpenCounts.{none_open_count}
use Rattle.sled_core.proofs.Sealed.Ended.{ends_rise, ends_up}
use Rattle.sled_core.proofs.Sealed.EndedParts.{ended_behind, ended_front}
use Rattle.sled_core.proofs.Sealed.LaidLemmas.{EndsRise, ends_below}
use Rattle.sled_core.proofs.Sealed.OneWritten.{length-between}

-- What is seen of the current one: it lies behind the sealed ones, from where it begins up to where it ends.

-- the number of a segment in reach fits its header
pub number_small : (size place : ℕ) (v : SegmentView) → IsSegment size place v → v.parts.site.place / size < 2 ^ 64
number_small size place v is = let near = is.place_small in omega (arith, near, div-le_self v.parts.site.place size)

module _ (sum : List ℕ → ℕ) (size : ℕ) where
  as_sealed_adds : (place : ℕ) (v : SegmentView) → IsSegment size place v → holds_any v ≡ true
      → AddsSpan (unwritten_of v.parts) (unwritten_of (as_sealed sum size v).parts) (current_span v (if is_short size (length v.parts.bytes) then size else length v.parts.bytes))
  as_sealed_adds place v is any = by_any (holds_any v) any (by_short (is_short size (length v.parts.bytes))) where
    by_short : (o : Bool) → AddsSpan (unwritten_of v.parts) (unwritten_of (if o then closed_now sum size v else sealed_now v).parts) (current_span v (if o then size else length v.parts.bytes))
    by_short true = closed_adds sum size place v is (number_small size place v is)
    by_short false = sealed_adds v

    by_any : (o : Bool) → o ≡ true → AddsSpan (unwritten_of v.parts) (unwritten_of (turned_now sum size v).parts) (current_span v (if is_short size (length v.parts.bytes) then size else length v.parts.bytes))
        → AddsSpan (unwritten_of v.parts) (unwritten_of (if o then turned_now sum size v else v).parts) (current_span v (if is_short size (length v.parts.bytes) then size else length v.parts.bytes))
    by_any true some adds = adds
    by_any false some adds = cc

-- So it is with a log,
pub buffers_add : {D C : Type 0} (sum : List ℕ → ℕ) (log : Log D C) → 0 < held_len log → AddsSpan (waiting_of log) (buffers_of sum log) (record { place = current_begin log; end = sealing_end log; lid = (start_of log).lid })
buffers_add sum log some =
    let size : ℕ = segment_size_of log in
    let any : holds_any (current_of log) ≡ true = grind (arith, nat_tests, some) in
    let one = as_sealed_adds sum size (log.segments.first.site.place + length log.segments.behind.items * size) (current_of log) (current_facts log) any in
    record { more = one.more; is = at_last_more (as_sealed sum size) (segment_view log.segments.first) (map segment_view log.segments.behind.items) one.more one.is; seen = one.seen }

-- which has no current one where that holds nothing,
pub buffers_still : {D C : Type 0} (sum : List ℕ → ℕ) (log : Log D C) → held_len log ≡ 0 → buffers_of sum log ≡ waiting_of log
buffers_still sum log none =
    let size : ℕ = segment_size_of log in
    let nothing : holds_any (current_of log) ≡ false = grind (arith, nat_tests, none) in
    at_last_unwritten (as_sealed sum size) (segment_view log.segments.first) (map segment_view log.segments.behind.items)
    (ap (λ (o : Bool). unwritten_of (if o then turned_now sum size (current_of log) else current_of log).parts) nothing)

-- and where its segment is filled to the end.
pub buffers_closed : {D C : Type 0} (sum : List ℕ → ℕ) (log : Log D C) → AddsSpan (waiting_of log) (unwritten (at_last (closed_now sum (segment_size_of log)) (line_of log))) (record { place = current_begin log; end = (current_of log).parts.site.place + segment_size_of log; lid = (start_of log).lid })
buffers_closed sum log =
    let size : ℕ = segment_size_of log in
    let place : ℕ = log.segments.first.site.place + length log.segments.behind.items * size in
    line_closed_adds sum size place (segment_view log.segments.first) (map segment_view log.segments.behind.items) (current_facts log) (number_small size place (current_of log) (current_facts log))

-- How long they are.

-- the sealed ones of a segment end one behind another, within its bytes
abbrev EndsIn : SegmentView → Type 0
EndsIn v = EndsRise v.parts.written_len v.parts.sealed (length v.parts.bytes)

long_in : (site : SegmentPosition) (bytes : List ℕ) (from : ℕ) (bs : List Sealed) (rs : List Reserved) → EndsRise from bs (length bytes) → All HasLength (unwritten_in site bytes from bs rs)
long_in site bytes from [] rs rise = All-nil HasLength
long_in site bytes from (b ∷ bs) rs rise = by_test (long_in site bytes b.end bs (drop b.count rs) rise.1) b.is_written where
  own : HasLength (buffer_at site bytes from b.end (take b.count rs))
  own =
      let up = rise.0 in
      let within = ends_below b.end bs (length bytes) rise.1 in
      let long = length-between bytes from b.end (omega (arith, within.0, within.1)) in
      omega (arith, up, long)

  by_test : All HasLength (unwritten_in site bytes b.end bs (drop b.count rs)) → (o : Bool)
      → All HasLength (if o then unwritten_in site bytes b.end bs (drop b.count rs) else buffer_at site bytes from b.end (take b.count rs) ∷ unwritten_in site bytes b.end bs (drop b.count rs))
  by_test rest true = rest
  by_test rest false = All-cons HasLength (buffer_at site bytes from b.end (take b.count rs)) (unwritten_in site bytes b.end bs (drop b.count rs)) own rest

-- of each of these what holds of those of each segment
all_unwritten : (P : SegmentView → Type 0) (Q : BufferAt → Type 0) → ((v : SegmentView) → P v → All Q (unwritten_of v.parts)) → (vs : List SegmentView) → All P vs → All Q (unwritten vs)
all_unwritten P Q own [] all = All-nil Q
all_unwritten P Q own (v ∷ vs) all = All-append Q (unwritten_of v.parts) (unwritten vs) (own v (All-head P v vs all)) (all_unwritten P Q own vs (All-tail P v vs all))

rise_higher : (from : ℕ) (bs : List Sealed) (to high : ℕ) → to ≤ high → EndsRise from bs to → EndsRise from bs high
rise_higher from [] to high le rise = omega (arith, le, rise)
rise_higher from (b ∷ bs) to high le rise = (rise.0, rise_higher b.end bs to high le rise.1)

rise_one : (from : ℕ) (bs : List Sealed) (b : Sealed) (to : ℕ) → sealed_end from bs < b.end → b.end ≤ to → EndsRise from bs to → EndsRise from (bs ++ b ∷ []) to
rise_one from [] b to some within rise = (some, within)
rise_one from (x ∷ xs) b to some within rise = (rise.0, rise_one x.end xs b to some within rise.1)

sealed_ends : (v : SegmentView) → begin_of v < length v.parts.bytes → EndsIn v → EndsIn (sealed_now v)
sealed_ends v some rise = rise_one v.parts.written_len v.parts.sealed (seal_at (length v.parts.bytes) (drop (sealed_count v.parts.sealed) v.parts.reserved)) (length v.parts.bytes) some (omega arith) rise

module _ (sum : List ℕ → ℕ) (size : ℕ) where
  filled_longer : (v : SegmentView) → length v.parts.bytes ≤ length (filled_now sum size v).parts.bytes
  filled_longer v = by_filled sum size (λ x. length v.parts.bytes ≤ length x.parts.bytes) v (λ _. omega (arith, length-append v.parts.bytes (segment_rest sum size (v.parts.site.place / size) (length v.parts.bytes)))) (λ _. omega arith)

  filled_ends : (v : SegmentView) → EndsIn v → EndsIn (filled_now sum size v)
  filled_ends v rise = by_filled sum size EndsIn v
      (λ _. rise_higher v.parts.written_len v.parts.sealed (length v.parts.bytes) (length (v.parts.bytes ++ segment_rest sum size (v.parts.site.place / size) (length v.parts.bytes)))
      (omega (arith, length-append v.parts.bytes (segment_rest sum size (v.parts.site.place / size) (length v.parts.bytes)))) rise)
      (λ _. rise)

  closed_ends : (v : SegmentView) → begin_of v < length v.parts.bytes → EndsIn v → EndsIn (closed_now sum size v)
  closed_ends v some rise = sealed_ends (filled_now sum size v) (let same = filled_begin sum size v in let more = filled_longer v in omega (arith, some, same, more)) (filled_ends v rise)

  as_sealed_ends : (v : SegmentView) → EndsIn v → EndsIn (as_sealed sum size v)
  as_sealed_ends v rise = by_any (holds_any v) refl where
    by_short : begin_of v < length v.parts.bytes → (o : Bool) → EndsIn (if o then closed_now sum size v else sealed_now v)
    by_short some true = closed_ends v some rise
    by_short some false = sealed_ends v some rise

    by_any : (o : Bool) → holds_any v ≡ o → EndsIn (if o then turned_now sum size v else v)
    by_any true is = by_short (grind (arith, nat_tests, is)) (is_short size (length v.parts.bytes))
    by_any false is = rise

segments_end : (size place : ℕ) (vs : List SegmentView) → AreSegments size place vs → All EndsIn vs
segments_end size place [] are = All-nil EndsIn
segments_end size place (v ∷ vs) are =
    let here = are.0 in
    let up = ends_up v.parts.written_len v.parts.reserved v.parts.sealed here.are in
    let begins = here.begins in
    All-cons EndsIn v vs (ends_rise v.parts.written_len v.parts.reserved v.parts.sealed (length v.parts.bytes) here.are (omega (arith, up, begins)) begins) (segments_end size (place + size) vs are.1)

pub buffers_long : {D C : Type 0} (sum : List ℕ → ℕ) (log : Log D C) → All HasLength (buffers_of sum log)
buffers_long sum log =
    let size : ℕ = segment_size_of log in
    all_unwritten EndsIn HasLength (λ v rise. long_in v.parts.site v.parts.bytes v.parts.written_len v.parts.sealed v.parts.reserved rise) (at_last (as_sealed sum size) (line_of log))
    (All-at_last EndsIn (as_sealed sum size) (as_sealed_ends sum size) (line_of log) (segments_end size log.segments.first.site.place (line_of log) (line_segments log)))

-- None of them is held up where no reservation is open.

abbrev pub IsFree : BufferAt → Type 0
IsFree b = b.held ≡ None

abbrev HasNoneOpen : SegmentView → Type 0
HasNoneOpen v = none_open v.parts.reserved ≡ true

free_in : (site : SegmentPosition) (bytes : List ℕ) (from : ℕ) (bs : List Sealed) (rs : List Reserved) → none_open rs ≡ true → All IsFree (unwritten_in site bytes from bs rs)
free_in site bytes from [] rs ended = All-nil IsFree
free_in site bytes from (b ∷ bs) rs ended = by_test (free_in site bytes b.end bs (drop b.count rs) (ended_behind b.count rs ended)) b.is_written where
  own : first_open_in (take b.count rs) ≡ None
  own = none_first (take b.count rs) (none_open_count (take b.count rs) (ended_front b.count rs ended))

  by_test : All IsFree (unwritten_in site bytes b.end bs (drop b.count rs)) → (o : Bool)
      → All IsFree (if o then unwritten_in site bytes b.end bs (drop b.count rs) else buffer_at site bytes from b.end (take b.count rs) ∷ unwritten_in site bytes b.end bs (drop b.count rs))
  by_test rest true = rest
  by_test rest false = All-cons IsFree (buffer_at site bytes from b.end (take b.count rs)) (unwritten_in site bytes b.end bs (drop b.count rs)) (ap (placed site.place) own) rest

each_ended : (vs : List SegmentView) → NoneOpenIn vs → All HasNoneOpen vs
each_ended [] ended = All-nil HasNoneOpen
each_ended (v ∷ vs) ended = All-cons HasNoneOpen v vs (ended 0 v refl) (each_ended vs (λ n w there. ended (suc n) w there))

as_sealed_ended : (sum : List ℕ → ℕ) (size : ℕ) (v : SegmentView) → HasNoneOpen v → HasNoneOpen (as_sealed sum size v)
as_sealed_ended sum size v ended = by_any (by_short (is_short size (length v.parts.bytes))) (holds_any v) where
  by_short : (o : Bool) → HasNoneOpen (if o then closed_now sum size v else sealed_now v)
  by_short true = filled_ended sum size v ended
  by_short false = ended

  by_any : HasNoneOpen (turned_now sum size v) → (o : Bool) → HasNoneOpen (if o then turned_now sum size v else v)
  by_any turned true = turned
  by_any turned false = ended

pub buffers_free : {D C : Type 0} (sum : List ℕ → ℕ) (log : Log D C) → NoneOpen log → All IsFree (buffers_of sum log)
buffers_free sum log ended =
    let size : ℕ = segment_size_of log in
    all_unwritten HasNoneOpen IsFree (λ v none. free_in v.parts.site v.parts.bytes v.parts.written_len v.parts.sealed v.parts.reserved none) (at_last (as_sealed sum size) (line_of log))
    (All-at_last HasNoneOpen (as_sealed sum size) (as_sealed_ended sum size) (line_of log) (each_ended (line_of log) ended))
