-- The i-th of the places of buffers that can be written is that of the i-th such buffer: which segment has it, and which of its sealed ones it is.
use Rattle.std.proofs.Common.{◌≡◌, ◌∙◌, ◌<◌, ◌≤◌, ◌+◌, ◌-◌, ◌*◌, ◌/◌, ap, sym, refl, arith, subst, ℕ, zero, suc, Bool, true, false, if◌then◌else◌, List, [], ◌∷◌, length, length-append, take, get_or, Some, inl, inr}
use Rattle.std.specs.List.{slice_get}
use Rattle.std.specs.List.Sorted.{IsPartitionPoint}
use Rattle.std.proofs.Math.ListN.{get_or-append}
use Rattle.std.proofs.Math.Nat.{suc-mul}
use Rattle.std.proofs.Math.Seq.{get_or-append_right}
use Rattle.std.proofs.lemmas.Bool.{cases_lt}
use Rattle.std.proofs.lemmas.List.{length-map}
use Rattle.std.proofs.lemmas.Nat.{div-mul-add}
use Rattle.std.proofs.lemmas.Option.{slice_get_within}
use Rattle.sled_core.specs.Begun.{SegmentView, begin_of, segment_view, view_at}
use Rattle.sled_core.specs.declared.iobuf.IoBuf.{IoBuf}
use Rattle.sled_core.specs.declared.iobuf.Sealed.{Sealed}
use Rattle.sled_core.specs.declared.iobuf.SegmentPosition.{SegmentPosition}
use Rattle.sled_core.specs.declared.logger.Log.{Log}
use Rattle.sled_core.specs.Fits.{line_of, waiting_of}
use Rattle.sled_core.specs.inside.ReadyBuffers.{ready_in, ready_places}
use Rattle.sled_core.specs.inside.SealedBuffers.{is_ready, ready_count}
use Rattle.sled_core.specs.SealedBuffers.{sealed_end}
use Rattle.sled_core.specs.inside.Turned.{begin_at}
use Rattle.sled_core.specs.Waiting.{pending_in, unwritten}
use Rattle.sled_core.proofs.Line.Buffers.{Finds, finds_behind, finds_first, pending_first}
use Rattle.sled_core.proofs.Holds.Facts.{IsSegment, nth_facts}
use Rattle.sled_core.proofs.Line.Segments.{AreSegments, line_segments}
use Rattle.sled_core.proofs.Pending.Places.{Rise, rise_of, rise_up}
use Rattle.sled_core.proofs.Pending.Segments.{ready_of}
use Rattle.sled_core.proofs.Reserve.Parts.{get_there}

-- As many have a place as can be written.
pub ready_length : (place from : ℕ) (bs : List Sealed) → length (ready_in place from bs) ≡ ready_count bs
ready_length place from [] = refl
ready_length place from (b ∷ bs) = by (is_ready b) (ready_length place b.end bs) where
  by : (o : Bool) → length (ready_in place b.end bs) ≡ ready_count bs → length (if o then (place + from) ∷ ready_in place b.end bs else ready_in place b.end bs) ≡ (if o then suc (ready_count bs) else ready_count bs)
  by true rest = ap suc rest
  by false rest = rest

pub pending_length : (size place : ℕ) (vs : List SegmentView) → AreSegments size place vs → length (ready_places vs) ≡ pending_in (unwritten vs)
pending_length size place [] are = refl
pending_length size place (v ∷ vs) are =
    let all = pending_first size place v vs are.0 in
    let own = ready_length v.parts.site.place v.parts.written_len v.parts.sealed in
    let rest = pending_length size (place + size) vs are.1 in
    omega (arith, all, own, rest, length-append (ready_of v) (ready_places vs))

-- A sealed buffer of a segment that begins at a place, and so many before it can be written.
record FoundIn (place from : ℕ) (bs : List Sealed) (i p : ℕ) : Type 0 where
  k : ℕ
  buffer : Sealed
  there : slice_get bs k ≡ Some buffer
  ready : is_ready buffer ≡ true
  at : p ≡ place + sealed_end from (take k bs)
  count : ready_count (take k bs) ≡ i

found_in : (place from : ℕ) (bs : List Sealed) (i d : ℕ) → i < length (ready_in place from bs) → FoundIn place from bs i (get_or (ready_in place from bs) i d)
found_in place from [] i d lt = absurd (omega (arith, lt))
found_in place from (b ∷ bs) i d lt = by (is_ready b) refl i lt (found_in place b.end bs) where
  by : (o : Bool) → is_ready b ≡ o → (i : ℕ) → i < length (if o then (place + from) ∷ ready_in place b.end bs else ready_in place b.end bs)
      → ((i d : ℕ) → i < length (ready_in place b.end bs) → FoundIn place b.end bs i (get_or (ready_in place b.end bs) i d))
      → FoundIn place from (b ∷ bs) i (get_or (if o then (place + from) ∷ ready_in place b.end bs else ready_in place b.end bs) i d)
  by true is zero lt rest = record { k = 0; buffer = b; there = refl; ready = is; at = refl; count = refl }
  by true is (suc i) lt rest =
      let found = rest i d (omega (arith, lt)) in
      record {
        k = suc found.k;
        buffer = found.buffer;
        there = found.there;
        ready = found.ready;
        at = found.at;
        count = ap (λ (o : Bool). if o then suc (ready_count (take found.k bs)) else ready_count (take found.k bs)) is ∙ ap suc found.count;
      }
  by false is i lt rest =
      let found = rest i d lt in
      record {
        k = suc found.k;
        buffer = found.buffer;
        there = found.there;
        ready = found.ready;
        at = found.at;
        count = ap (λ (o : Bool). if o then suc (ready_count (take found.k bs)) else ready_count (take found.k bs)) is ∙ found.count;
      }

-- A buffer of a line that begins at a place is the i-th that can be written.
pub record Found (size place : ℕ) (vs : List SegmentView) (i p : ℕ) : Type 0 where
  pub n : ℕ
  pub k : ℕ
  pub segment : SegmentView
  pub among : slice_get vs n ≡ Some segment
  pub buffer : Sealed
  pub there : slice_get segment.parts.sealed k ≡ Some buffer
  pub at : p ≡ segment.parts.site.place + begin_at segment k
  pub lies : segment.parts.site.place ≡ place + n * size
  pub finds : Finds vs i n k

pub found : (size place : ℕ) (vs : List SegmentView) (i d : ℕ) → AreSegments size place vs → i < length (ready_places vs) → Found size place vs i (get_or (ready_places vs) i d)
found size place [] i d are lt = absurd (omega (arith, lt))
found size place (v ∷ vs) i d are lt = elim (cases_lt i (length (ready_of v))) [
  | inl own ↦ (
      let its = found_in v.parts.site.place v.parts.written_len v.parts.sealed i d own in
      let count = ready_length v.parts.site.place v.parts.written_len v.parts.sealed in
      let lies = are.0.at in
      record {
        n = 0;
        k = its.k;
        segment = v;
        among = refl;
        buffer = its.buffer;
        there = its.there;
        at = get_or-append (ready_of v) (ready_places vs) d i own ∙ its.at;
        lies = omega (arith, lies);
        finds = finds_first size place v vs i its.k are.0 (omega (arith, own, count)) (slice_get_within v.parts.sealed its.k its.buffer its.there) (ready_there v.parts.sealed its.k its.buffer its.there its.ready) its.count;
      })
  | inr later ↦ (
      let count = ready_length v.parts.site.place v.parts.written_len v.parts.sealed in
      let rest = found size (place + size) vs (i - length (ready_of v)) d are.1 (omega (arith, later, lt, length-append (ready_of v) (ready_places vs))) in
      let lies = rest.lies in
      record {
        n = suc rest.n;
        k = rest.k;
        segment = rest.segment;
        among = rest.among;
        buffer = rest.buffer;
        there = rest.there;
        at = get_or-append_right (ready_of v) (ready_places vs) i d later ∙ rest.at;
        lies = omega (arith, lies, suc-mul rest.n size);
        finds = finds_behind size place v vs i rest.n rest.k are.0 (omega (arith, later, count)) (subst (λ m. Finds vs (i - m) rest.n rest.k) count rest.finds);
      })
]
  where
    ready_there : (bs : List Sealed) (k : ℕ) (b : Sealed) → slice_get bs k ≡ Some b → is_ready b ≡ true → (x : Sealed) → slice_get bs k ≡ Some x → is_ready x ≡ true
    ready_there bs k b there ready x found = let both : Some b ≡ Some x = sym there ∙ found in let same : b ≡ x = cc in ap is_ready (sym same) ∙ ready

-- It is the one around the offset where it begins.

ends_before : (from : ℕ) (bs : List Sealed) (k j : ℕ) (d : Sealed) → Rise from bs → j < k → k < length bs → (get_or bs j d).end ≤ sealed_end from (take k bs)
ends_before from [] k j d rise lt within = absurd (omega (arith, within))
ends_before from (b ∷ bs) zero j d rise lt within = absurd (omega (arith, lt))
ends_before from (b ∷ bs) (suc k) zero d rise lt within = rise_front b.end bs k rise.1 where
  rise_front : (at : ℕ) (cs : List Sealed) (m : ℕ) → Rise at cs → at ≤ sealed_end at (take m cs)
  rise_front at cs zero up = omega arith
  rise_front at [] (suc m) up = omega arith
  rise_front at (c ∷ cs) (suc m) up = let here = up.0 in let rest = rise_front c.end cs m up.1 in omega (arith, here, rest)
ends_before from (b ∷ bs) (suc k) (suc j) d rise lt within = ends_before b.end bs k j d rise.1 (omega (arith, lt)) (omega (arith, within))

begins_before : (from : ℕ) (bs : List Sealed) (k : ℕ) (b : Sealed) → Rise from bs → slice_get bs k ≡ Some b → sealed_end from (take k bs) < b.end
begins_before from [] k b rise there = cc
begins_before from (x ∷ bs) zero b rise there = let same : x ≡ b = cc in let is = ap (λ (y : Sealed). y.end) same in let here = rise.0 in omega (arith, is, here)
begins_before from (x ∷ bs) (suc k) b rise there = begins_before x.end bs k b rise.1 there

pub around_begin : (from : ℕ) (bs : List Sealed) (k : ℕ) (b : Sealed) (at j : ℕ) → Rise from bs → slice_get bs k ≡ Some b → at ≡ sealed_end from (take k bs) → j < length bs → IsPartitionPoint (λ (x : Sealed). x.end ≤ at) (λ (x : Sealed). at < x.end) bs j → j ≡ k
around_begin from bs k b at j rise there is within point = elim (cases_lt j k) [
  | inl less ↦ absurd (
      let up = ends_before from bs k j b rise less (slice_get_within bs k b there) in
      let low = point.1 j b (omega arith) within in
      omega (arith, up, low, is))
  | inr le ↦ elim (cases_lt k j) [
    | inl more ↦ absurd (
        let low = begins_before from bs k b rise there in
        let same = ap (λ (x : Sealed). x.end) (get_there bs k b b there) in
        let up = point.0 k b (omega arith) more in
        omega (arith, low, same, up, is))
    | inr same ↦ omega (arith, le, same)
  ]
]

-- Where it begins it lies within the sealed ones.
pub begin_within : (from : ℕ) (bs : List Sealed) (k : ℕ) (b : Sealed) → Rise from bs → slice_get bs k ≡ Some b → (from ≤ sealed_end from (take k bs)) × (sealed_end from (take k bs) < sealed_end from bs)
begin_within from [] k b rise there = cc
begin_within from (x ∷ bs) zero b rise there = let here = rise.0 in let up = rise_up x.end bs rise.1 in (omega arith, omega (arith, here, up))
begin_within from (x ∷ bs) (suc k) b rise there = let here = rise.0 in let rest = begin_within x.end bs k b rise.1 there in let low = rest.0 in (omega (arith, here, low), rest.1)

-- In a log code reads the place, and finds the segment and the buffer by it.
module _ {D C : Type 0} (log : Log D C) (i p : ℕ) (few : i < pending_in (waiting_of log)) (read : p ≡ get_or log.ready.places.items i p) where
  abbrev size : ℕ
  size = log.config.config.segment_size

  its : Found size log.segments.first.site.place (line_of log) i p
  its =
      let many = pending_length size log.segments.first.site.place (line_of log) (line_segments log) in
      subst (Found size log.segments.first.site.place (line_of log) i) (ap (λ (l : List ℕ). get_or l i p) (sym log.line.indexed.places) ∙ sym read) (found size log.segments.first.site.place (line_of log) i p (line_segments log) (omega (arith, few, many)))

  its_facts : IsSegment size (log.segments.first.site.place + its.n * size) its.segment
  its_facts = nth_facts log its.n its.segment its.among

  lies_in : (its.segment.parts.written_len ≤ begin_at its.segment its.k) × (begin_at its.segment its.k < begin_of its.segment)
  lies_in = begin_within its.segment.parts.written_len its.segment.parts.sealed its.k its.buffer (rise_of its.segment.parts.written_len its.segment.parts.reserved its.segment.parts.sealed its_facts.are) its.there

  number_is : (p - log.segments.first.site.place) / size ≡ its.n
  number_is =
      let at = its.at in
      let lies = its.lies in
      let short = its_facts.short in
      let begins = its_facts.begins in
      let inside = lies_in.1 in
      ap (λ m. m / size) (let same : p - log.segments.first.site.place ≡ its.n * size + begin_at its.segment its.k = omega (arith, at, lies) in same)
      ∙ div-mul-add its.n size (begin_at its.segment its.k) (omega (arith, short, begins, inside))

  pub place_behind : log.segments.first.site.place ≤ p
  place_behind = let at = its.at in let lies = its.lies in omega (arith, at, lies)

  module _ (n : ℕ) (by_place : n ≡ (p - log.segments.first.site.place) / size) where
    same_number : its.n ≡ n
    same_number = sym (by_place ∙ number_is)

    pub number_within : n ≤ length log.segments.behind.items
    number_within =
        let within = slice_get_within (line_of log) its.n its.segment its.among in
        let same = same_number in
        omega (arith, within, same, length-map log.segments.behind.items segment_view)

    module _ (site : SegmentPosition) (b : IoBuf) (view : slice_get (line_of log) n ≡ Some (view_at site b)) where
      same_segment : its.segment ≡ view_at site b
      same_segment = let both : Some its.segment ≡ Some (view_at site b) = sym its.among ∙ ap (slice_get (line_of log)) same_number ∙ view in cc

      pub lies_behind : site.place ≤ p
      lies_behind = let at = its.at in let same = ap (λ (v : SegmentView). v.parts.site.place) same_segment in omega (arith, at, same)

      offset_is : p - site.place ≡ begin_at (view_at site b) its.k
      offset_is =
          let at = its.at in
          let same = ap (λ (v : SegmentView). v.parts.site.place) same_segment in
          let begins = ap (λ (v : SegmentView). begin_at v its.k) same_segment in
          omega (arith, at, same, begins)

      pub above_written : b.written_len ≤ p - site.place
      above_written =
          let at = offset_is in
          let low = subst (λ (v : SegmentView). v.parts.written_len ≤ begin_at v its.k) same_segment lies_in.0 in
          omega (arith, at, low)

      pub below_end : p - site.place < sealed_end b.written_len b.sealed.items
      below_end =
          let at = offset_is in
          let high = subst (λ (v : SegmentView). begin_at v its.k < begin_of v) same_segment lies_in.1 in
          omega (arith, at, high)

      pub finds_it : (k : ℕ) → k < length b.sealed.items → IsPartitionPoint (λ (x : Sealed). x.end ≤ p - site.place) (λ (x : Sealed). p - site.place < x.end) b.sealed.items k → Finds (line_of log) i n k
      finds_it k within point =
          let same : k ≡ its.k = around_begin b.written_len b.sealed.items its.k its.buffer (p - site.place) k (rise_of b.written_len b.reserved.items b.sealed.items b.are) (ap (λ (v : SegmentView). slice_get v.parts.sealed its.k) (sym same_segment) ∙ its.there) offset_is within point in
          subst (λ m. Finds (line_of log) i m k) same_number (subst (Finds (line_of log) i its.n) (sym same) its.finds)
