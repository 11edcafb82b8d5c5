-- What is seen of the buffers of segments that aren't on the device, and where the current one begins: what the calls of a log make of that.
use Rattle.std.proofs.Common.{◌≡◌, ◌∙◌, ◌<◌, ◌+◌, ◌-◌, ◌*◌, ◌/◌, ◌^◌, ap, sym, refl, arith, ℕ, zero, suc, Bool, true, false, nat_lt, if◌then◌else◌, List, [], ◌∷◌, ◌++◌, length, take, drop, set, Some}
use Rattle.std.specs.List.{slice_get}
use Rattle.std.proofs.lemmas.List.{append-nil, map-append}
use Rattle.sled_store.specs.SegmentStates.{Machine, next_slot}
use Rattle.sled_core.specs.Begun.{SegmentView, begin_of}
use Rattle.sled_core.specs.declared.iobuf.Reserved.{Reserved}
use Rattle.sled_core.specs.declared.iobuf.ReservationState.{ReservationState}
use Rattle.sled_core.specs.declared.iobuf.Sealed.{Sealed}
use Rattle.sled_core.specs.declared.iobuf.SegmentPosition.{SegmentPosition}
use Rattle.sled_core.specs.inside.SealedBuffers.{one_ended, one_fewer}
use Rattle.sled_core.specs.SealedBuffers.{seal_at, sealed_count}
use Rattle.sled_core.specs.inside.Turned.{begun_view, ended_now, next_line, promoted, reserved_now, written_now}
use Rattle.sled_core.specs.Waiting.{BufferAt, Span, at_last, buffer_at, closed_now, filled_now, last_of, sealed_now, span_of, spans, start_in, unwritten, unwritten_in, unwritten_of}
use Rattle.sled_core.proofs.Line.Closes.{filled_length}
use Rattle.sled_core.proofs.Line.Current.{filled_same, unwritten_more, unwritten_one}
use Rattle.sled_core.proofs.Holds.Facts.{IsSegment}
use Rattle.sled_core.proofs.Line.Gathered.{gathered_adds, gathered_last}
use Rattle.sled_core.proofs.Line.Last.{last_behind_all, last_changed, unwritten-append, unwritten_gather}
use Rattle.sled_core.proofs.Line.Promotes.{last_promoted, last_set}
use Rattle.sled_core.proofs.Line.Segments.{written_begin}
use Rattle.sled_core.proofs.Sealed.Appended.{end_one}
use Rattle.sled_core.proofs.Sealed.InBuffer.{end_ended}

-- One of the reservations has ended.

-- What is seen of the buffers of a segment isn't of its bytes and reservations.
spans_plain : (site : SegmentPosition) (bytes others : List ℕ) (from : ℕ) (bs : List Sealed) (rs more : List Reserved) → spans (unwritten_in site others from bs more) ≡ spans (unwritten_in site bytes from bs rs)
spans_plain site bytes others from [] rs more = refl
spans_plain site bytes others from (b ∷ bs) rs more = by_test (spans_plain site bytes others b.end bs (drop b.count rs) (drop b.count more)) b.is_written where
  by_test : spans (unwritten_in site others b.end bs (drop b.count more)) ≡ spans (unwritten_in site bytes b.end bs (drop b.count rs)) → (o : Bool)
      → spans (if o then unwritten_in site others b.end bs (drop b.count more) else buffer_at site others from b.end (take b.count more) ∷ unwritten_in site others b.end bs (drop b.count more))
      ≡ spans (if o then unwritten_in site bytes b.end bs (drop b.count rs) else buffer_at site bytes from b.end (take b.count rs) ∷ unwritten_in site bytes b.end bs (drop b.count rs))
  by_test rest true = rest
  by_test rest false = ap (λ (l : List Span). record { place = site.place + from; end = site.place + b.end; lid = site.slot + from } ∷ l) rest

spans_ended : (site : SegmentPosition) (bytes others : List ℕ) (from i : ℕ) (bs : List Sealed) (rs more : List Reserved) → spans (unwritten_in site others from (one_ended i bs) more) ≡ spans (unwritten_in site bytes from bs rs)
spans_ended site bytes others from i [] rs more = refl
spans_ended site bytes others from i (b ∷ bs) rs more = by_index (spans_ended site bytes others b.end (i - b.count) bs (drop b.count rs) (drop b.count more)) (nat_lt i b.count) where
  seen : List Span → Bool → List Span
  seen rest o = if o then rest else record { place = site.place + from; end = site.place + b.end; lid = site.slot + from } ∷ rest

  seen_is : (text : List ℕ) (later : List Sealed) (all : List Reserved) (o : Bool)
      → spans (if o then unwritten_in site text b.end later (drop b.count all) else buffer_at site text from b.end (take b.count all) ∷ unwritten_in site text b.end later (drop b.count all)) ≡ seen (spans (unwritten_in site text b.end later (drop b.count all))) o
  seen_is text later all true = refl
  seen_is text later all false = refl

  by_index : spans (unwritten_in site others b.end (one_ended (i - b.count) bs) (drop b.count more)) ≡ spans (unwritten_in site bytes b.end bs (drop b.count rs)) → (o : Bool) → spans (unwritten_in site others from (if o then one_fewer b ∷ bs else b ∷ one_ended (i - b.count) bs) more) ≡ spans (unwritten_in site bytes from (b ∷ bs) rs)
  by_index rest true = seen_is others bs more b.is_written ∙ ap (λ (l : List Span). seen l b.is_written) (spans_plain site bytes others b.end bs (drop b.count rs) (drop b.count more)) ∙ sym (seen_is bytes bs rs b.is_written)
  by_index rest false =
      seen_is others (one_ended (i - b.count) bs) more b.is_written
      ∙ ap (λ (l : List Span). seen l b.is_written) rest
      ∙ sym (seen_is bytes bs rs b.is_written)

-- So nothing is seen of it.
module _ (i : ℕ) (r : Reserved) (ending : List ℕ) (state : ReservationState) where
  pub ended_spans : (line : List SegmentView) (n : ℕ) (v : SegmentView) → slice_get line n ≡ Some v → spans (unwritten (set line n (ended_now i r ending state v))) ≡ spans (unwritten line)
  ended_spans [] n v there = refl
  ended_spans (x ∷ xs) zero v there =
      let same : x ≡ v = cc in
      let now : SegmentView = ended_now i r ending state v in
      map-append span_of (unwritten_of now.parts) (unwritten xs)
      ∙ ap (λ (l : List Span). l ++ spans (unwritten xs)) (spans_ended v.parts.site v.parts.bytes now.parts.bytes v.parts.written_len i v.parts.sealed v.parts.reserved now.parts.reserved)
      ∙ sym (map-append span_of (unwritten_of v.parts) (unwritten xs))
      ∙ ap (λ (y : SegmentView). spans (unwritten_of y.parts ++ unwritten xs)) (sym same)
  ended_spans (x ∷ xs) (suc n) v there =
      map-append span_of (unwritten_of x.parts) (unwritten (set xs n (ended_now i r ending state v)))
      ∙ ap (λ (l : List Span). spans (unwritten_of x.parts) ++ l) (ended_spans xs n v there)
      ∙ sym (map-append span_of (unwritten_of x.parts) (unwritten xs))

  pub ended_start : (d : SegmentView) (line : List SegmentView) (n : ℕ) (v : SegmentView) → slice_get line n ≡ Some v → start_in (last_of d (set line n (ended_now i r ending state v))) ≡ start_in (last_of d line)
  ended_start d line n v there =
      last_set start_in d line n v (ended_now i r ending state v) there
      (ap (λ m. record { place = v.parts.site.place + m; lid = v.parts.site.slot + m }) (end_ended v.parts.written_len i v.parts.sealed))

-- The last segment is another now.

-- with as many buffers, they are those that they were
pub at_last_unwritten : (f : SegmentView → SegmentView) (v : SegmentView) (vs : List SegmentView) → unwritten_of (f (last_of v vs)).parts ≡ unwritten_of (last_of v vs).parts → unwritten (at_last f (v ∷ vs)) ≡ unwritten (v ∷ vs)
at_last_unwritten f v vs same = gathered_last (λ v. unwritten_of v.parts) unwritten unwritten_gather f v vs same

-- with one more, that comes behind them all
pub at_last_more : (f : SegmentView → SegmentView) (v : SegmentView) (vs : List SegmentView) (b : BufferAt) → unwritten_of (f (last_of v vs)).parts ≡ unwritten_of (last_of v vs).parts ++ b ∷ [] → unwritten (at_last f (v ∷ vs)) ≡ unwritten (v ∷ vs) ++ b ∷ []
at_last_more f v vs b one = gathered_adds (λ v. unwritten_of v.parts) unwritten unwritten_gather f (b ∷ []) v vs one

-- A reservation is made: the sealed buffers are those that they were, and the current one begins where it did.
module _ (more : List ℕ) (r : Reserved) where
  pub reserved_unwritten : (size place : ℕ) (v : SegmentView) (vs : List SegmentView) → IsSegment size place (last_of v vs) → unwritten (at_last (reserved_now more r) (v ∷ vs)) ≡ unwritten (v ∷ vs)
  reserved_unwritten size place v vs is =
      let w : SegmentView = last_of v vs in
      at_last_unwritten (reserved_now more r) v vs (unwritten_more w.parts.site w.parts.bytes more w.parts.written_len w.parts.sealed w.parts.reserved (r ∷ []) is.are is.begins)

  pub reserved_start : (d v : SegmentView) (vs : List SegmentView) → start_in (last_of d (at_last (reserved_now more r) (v ∷ vs))) ≡ start_in (last_of v vs)
  reserved_start d v vs = ap start_in (last_changed (reserved_now more r) d v vs)

-- One more buffer comes behind these, of which this is seen.
pub record AddsSpan (old new : List BufferAt) (s : Span) : Type 0 where
  pub more : BufferAt
  pub is : new ≡ old ++ more ∷ []
  pub seen : span_of more ≡ s

pub spans_added : (old new : List BufferAt) (s : Span) → AddsSpan old new s → spans new ≡ spans old ++ s ∷ []
spans_added old new s adds = ap spans adds.is ∙ map-append span_of old (adds.more ∷ []) ∙ ap (λ (x : Span). spans old ++ x ∷ []) adds.seen

-- what is seen of the current buffer of a segment, where it ends there
abbrev pub current_span : SegmentView → ℕ → Span
current_span v end = record { place = v.parts.site.place + begin_of v; end = v.parts.site.place + end; lid = v.parts.site.slot + begin_of v }

-- The current buffer is sealed: it comes behind the others, and the next one begins where it ends.
pub sealed_adds : (v : SegmentView) → AddsSpan (unwritten_of v.parts) (unwritten_of (sealed_now v).parts) (current_span v (length v.parts.bytes))
sealed_adds v =
    let b : Sealed = seal_at (length v.parts.bytes) (drop (sealed_count v.parts.sealed) v.parts.reserved) in
    let one = unwritten_one v.parts.site v.parts.bytes v.parts.written_len v.parts.sealed v.parts.reserved b refl in
    record { more = buffer_at v.parts.site v.parts.bytes (begin_of v) b.end one.0; is = one.1; seen = refl }

pub sealed_begin : (v : SegmentView) → begin_of (sealed_now v) ≡ length v.parts.bytes
sealed_begin v = end_one v.parts.written_len v.parts.sealed (seal_at (length v.parts.bytes) (drop (sealed_count v.parts.sealed) v.parts.reserved))

pub sealed_start : (d v : SegmentView) (vs : List SegmentView) → start_in (last_of d (at_last sealed_now (v ∷ vs)))
    ≡ record { place = (last_of v vs).parts.site.place + length (last_of v vs).parts.bytes; lid = (last_of v vs).parts.site.slot + length (last_of v vs).parts.bytes }
sealed_start d v vs =
    let w : SegmentView = last_of v vs in
    ap start_in (last_changed sealed_now d v vs) ∙ ap (λ m. record { place = w.parts.site.place + m; lid = w.parts.site.slot + m }) (sealed_begin w)

-- So it is where its segment is filled to the end first.
module _ (sum : List ℕ → ℕ) (size : ℕ) where
  pub closed_adds : (place : ℕ) (v : SegmentView) → IsSegment size place v → v.parts.site.place / size < 2 ^ 64 → AddsSpan (unwritten_of v.parts) (unwritten_of (closed_now sum size v).parts) (current_span v size)
  closed_adds place v is small =
      let full : SegmentView = filled_now sum size v in
      let one = sealed_adds full in
      let same = filled_same sum size v is.are is.begins in
      let long = filled_length sum size v is.short small in
      record {
        more = one.more;
        is = one.is ∙ ap (λ (l : List BufferAt). l ++ one.more ∷ []) same.0;
        seen = one.seen ∙ (λ i. record { place = (same.2 i).place + same.1 i; end = (same.2 i).place + long i; lid = (same.2 i).slot + same.1 i });
      }

  pub line_closed_adds : (place : ℕ) (v : SegmentView) (vs : List SegmentView) → IsSegment size place (last_of v vs) → (last_of v vs).parts.site.place / size < 2 ^ 64
      → AddsSpan (unwritten (v ∷ vs)) (unwritten (at_last (closed_now sum size) (v ∷ vs))) (current_span (last_of v vs) size)
  line_closed_adds place v vs is small =
      let one = closed_adds place (last_of v vs) is small in
      record { more = one.more; is = at_last_more (closed_now sum size) v vs one.more one.is; seen = one.seen }

  -- A further segment is begun: its header isn't sealed, so the sealed buffers are those of the segments before it, and the current one begins with it.
  module _ (m : Machine) (stable : ℕ) where
    pub next_unwritten : (v : SegmentView) (vs : List SegmentView) → unwritten (next_line sum size m stable (v ∷ vs)) ≡ unwritten (at_last (closed_now sum size) (v ∷ vs))
    next_unwritten v vs = unwritten-append (at_last (closed_now sum size) (v ∷ vs)) (begun_view sum size m stable (last_of v vs) ∷ []) ∙ append-nil (unwritten (at_last (closed_now sum size) (v ∷ vs)))

    pub next_start : (d v : SegmentView) (vs : List SegmentView) → start_in (last_of d (next_line sum size m stable (v ∷ vs))) ≡ record { place = (last_of v vs).parts.site.place + size; lid = next_slot m * size }
    next_start d v vs =
        ap start_in (last_behind_all d (begun_view sum size m stable (last_of v vs)) (at_last (closed_now sum size) (v ∷ vs)))
        ∙ (λ i. record { place = nothing ((last_of v vs).parts.site.place + size) i; lid = nothing (next_slot m * size) i })
      where
        nothing : (n : ℕ) → n + 0 ≡ n
        nothing n = omega arith

-- A sealed buffer of the n-th segment is written, and the segments that are wholly on the device are left out: the current buffer begins where it did.
pub written_start : (size : ℕ) (d : SegmentView) (line : List SegmentView) (n : ℕ) (v : SegmentView) (k : ℕ) → slice_get line n ≡ Some v → start_in (last_of d (promoted size (set line n (written_now k v)))) ≡ start_in (last_of d line)
written_start size d line n v k there =
    ap start_in (last_promoted size d (set line n (written_now k v)))
    ∙ last_set start_in d line n v (written_now k v) there (ap (λ m. record { place = v.parts.site.place + m; lid = v.parts.site.slot + m }) (written_begin v k))
