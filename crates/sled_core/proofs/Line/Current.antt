-- The current buffer of a line counts among those that aren't on the device as it would be sealed: it comes behind all the others.
use Rattle.std.proofs.Common.{◌≡◌, ◌∙◌, ◌≤◌, ◌+◌, ◌/◌, nat_lt, ap, sym, refl, arith, subst, ℕ, Bool, true, false, if◌then◌else◌, List, [], ◌∷◌, ◌++◌, length, drop, take, append_assoc}
use Rattle.std.proofs.lemmas.List.{append-nil, drop-append-le, length-take, take-append-le}
use Rattle.sled_core.specs.Begun.{SegmentView, begin_of}
use Rattle.sled_core.specs.declared.iobuf.Reserved.{Reserved}
use Rattle.sled_core.specs.declared.iobuf.Sealed.{Sealed}
use Rattle.sled_core.specs.declared.iobuf.SegmentPosition.{SegmentPosition}
use Rattle.sled_core.specs.Buffers.{padding_at}
use Rattle.sled_core.specs.invariants.Caps.{segment_rest}
use Rattle.sled_core.specs.Positions.{is_short}
use Rattle.sled_core.specs.inside.SealedBuffers.{AreSealed}
use Rattle.sled_core.specs.SealedBuffers.{bytes_between, seal_at, sealed_count, sealed_end}
use Rattle.sled_core.specs.Waiting.{BufferAt, as_sealed, buffer_at, buffers_in, filled_now, free_below, held_below, holds_any, sealed_now, turned_now, unwritten, unwritten_in, unwritten_of, with_filling}
use Rattle.sled_core.proofs.Line.Below.{BeginFrom, begin_lower, free_front, held_front}
use Rattle.sled_core.proofs.Holds.Facts.{IsSegment}
use Rattle.sled_core.proofs.Line.Lying.{end_of}
use Rattle.sled_core.proofs.Line.Segments.{AreSegments}
use Rattle.sled_core.proofs.Sealed.Ended.{ends_up}
use Rattle.sled_core.specs.HeaderMark.{mark_at}

-- More bytes and reservations behind those of sealed buffers leave these alone.
pub unwritten_more : (site : SegmentPosition) (bytes more : List ℕ) (from : ℕ) (bs : List Sealed) (rs others : List Reserved) → AreSealed from rs bs → sealed_end from bs ≤ length bytes → unwritten_in site (bytes ++ more) from bs (rs ++ others) ≡ unwritten_in site bytes from bs rs
unwritten_more site bytes more from [] rs others are inside = refl
unwritten_more site bytes more from (b ∷ bs) rs others are inside =
    let counted = are.0.counted in
    let within : b.count ≤ length rs = omega (arith, counted, length-take b.count rs) in
    let up = ends_up b.end (drop b.count rs) bs are.1 in
    let rest : unwritten_in site (bytes ++ more) b.end bs (drop b.count (rs ++ others)) ≡ unwritten_in site bytes b.end bs (drop b.count rs) =
    ap (unwritten_in site (bytes ++ more) b.end bs) (drop-append-le b.count rs others within) ∙ unwritten_more site bytes more b.end bs (drop b.count rs) others are.1 inside in
    let text : bytes_between (bytes ++ more) from b.end ≡ bytes_between bytes from b.end = ap (drop from) (take-append-le b.end bytes more (omega (arith, up, inside))) in
    let own : take b.count (rs ++ others) ≡ take b.count rs = take-append-le b.count rs others within in
    let here : buffer_at site (bytes ++ more) from b.end (take b.count (rs ++ others)) ≡ buffer_at site bytes from b.end (take b.count rs) =
    λ i. record { place = site.place + from; end = site.place + b.end; lid = site.slot + from; bytes = text i; held = (buffer_at site bytes from b.end (own i)).held; mark = mark_at from (text i) } in
    λ i. if b.is_written then rest i else here i ∷ rest i

-- One more sealed one comes behind them.
pub unwritten_one : (site : SegmentPosition) (bytes : List ℕ) (from : ℕ) (bs : List Sealed) (rs : List Reserved) (b : Sealed) → b.is_written ≡ false
    → (own : List Reserved) × (unwritten_in site bytes from (bs ++ b ∷ []) rs ≡ unwritten_in site bytes from bs rs ++ buffer_at site bytes (sealed_end from bs) b.end own ∷ [])
unwritten_one site bytes from [] rs b fresh = (take b.count rs, ap (λ (o : Bool). if o then [] else buffer_at site bytes from b.end (take b.count rs) ∷ []) fresh)
unwritten_one site bytes from (x ∷ xs) rs b fresh =
    let rest = unwritten_one site bytes x.end xs (drop x.count rs) b fresh in
    (rest.0, by_test rest.0 x.is_written rest.1)
  where
    by_test : (own : List Reserved) (o : Bool) → unwritten_in site bytes x.end (xs ++ b ∷ []) (drop x.count rs) ≡ unwritten_in site bytes x.end xs (drop x.count rs) ++ buffer_at site bytes (sealed_end x.end xs) b.end own ∷ []
        → (if o then unwritten_in site bytes x.end (xs ++ b ∷ []) (drop x.count rs) else buffer_at site bytes from x.end (take x.count rs) ∷ unwritten_in site bytes x.end (xs ++ b ∷ []) (drop x.count rs))
        ≡ (if o then unwritten_in site bytes x.end xs (drop x.count rs) else buffer_at site bytes from x.end (take x.count rs) ∷ unwritten_in site bytes x.end xs (drop x.count rs)) ++ buffer_at site bytes (sealed_end x.end xs) b.end own ∷ []
    by_test own true is = is
    by_test own false is = ap (λ (l : List BufferAt). buffer_at site bytes from x.end (take x.count rs) ∷ l) is

-- Some buffers come behind others, none of which begins before a place; there is one at most.
pub record ComeBehind (from : ℕ) (old new : List BufferAt) : Type 0 where
  pub more : List BufferAt
  pub is : new ≡ old ++ more
  pub begin : BeginFrom from more
  pub few : length more ≤ 1
  pub at : (b : BufferAt) → more ≡ b ∷ [] → b.place ≡ from

none_more : (from : ℕ) (bs : List BufferAt) → ComeBehind from bs bs
none_more from bs = record { more = []; is = sym (append-nil bs); begin = tt; few = omega arith; at = λ b same. cc }

one_more : (from : ℕ) (old new : List BufferAt) (b : BufferAt) → b.place ≡ from → new ≡ old ++ b ∷ [] → ComeBehind from old new
one_more from old new b place is = record { more = b ∷ []; is = is; begin = (omega (arith, place), tt); few = omega arith; at = λ x same. (let one : b ≡ x = cc in sym (ap (λ (y : BufferAt). y.place) one) ∙ place) }

sealed_behind : (v : SegmentView) → ComeBehind (v.parts.site.place + begin_of v) (unwritten_of v.parts) (unwritten_of (sealed_now v).parts)
sealed_behind v =
    let b : Sealed = seal_at (length v.parts.bytes) (drop (sealed_count v.parts.sealed) v.parts.reserved) in
    let one = unwritten_one v.parts.site v.parts.bytes v.parts.written_len v.parts.sealed v.parts.reserved b refl in
    one_more (v.parts.site.place + begin_of v) (unwritten_of v.parts) (unwritten_of (sealed_now v).parts) (buffer_at v.parts.site v.parts.bytes (begin_of v) b.end one.0) refl one.1

module _ (sum : List ℕ → ℕ) (size : ℕ) where
  pub filled_same : (v : SegmentView) → AreSealed v.parts.written_len v.parts.reserved v.parts.sealed → begin_of v ≤ length v.parts.bytes
      → (unwritten_of (filled_now sum size v).parts ≡ unwritten_of v.parts) × (begin_of (filled_now sum size v) ≡ begin_of v) × ((filled_now sum size v).parts.site ≡ v.parts.site)
  filled_same v are inside = by_test (nat_lt (length v.parts.bytes) size) where
    by_test : (o : Bool)
        → (unwritten_of (if o then with_filling size v (segment_rest sum size (v.parts.site.place / size) (length v.parts.bytes)) else v).parts ≡ unwritten_of v.parts)
        × (begin_of (if o then with_filling size v (segment_rest sum size (v.parts.site.place / size) (length v.parts.bytes)) else v) ≡ begin_of v)
        × ((if o then with_filling size v (segment_rest sum size (v.parts.site.place / size) (length v.parts.bytes)) else v).parts.site ≡ v.parts.site)
    by_test true =
        (unwritten_more v.parts.site v.parts.bytes (segment_rest sum size (v.parts.site.place / size) (length v.parts.bytes)) v.parts.written_len v.parts.sealed v.parts.reserved (padding_at size (length v.parts.bytes) ∷ []) are inside, refl, refl)
    by_test false = (refl, refl, refl)

  as_sealed_behind : (place : ℕ) (v : SegmentView) → IsSegment size place v → ComeBehind (v.parts.site.place + begin_of v) (unwritten_of v.parts) (unwritten_of (as_sealed sum size v).parts)
  as_sealed_behind place v here = by_any (holds_any v) (by_short (is_short size (length v.parts.bytes))) where
    closed : ComeBehind (v.parts.site.place + begin_of v) (unwritten_of v.parts) (unwritten_of (sealed_now (filled_now sum size v)).parts)
    closed =
        let same = filled_same v here.are here.begins in
        let full : SegmentView = filled_now sum size v in
        subst (λ (s : SegmentPosition). ComeBehind (s.place + begin_of v) (unwritten_of v.parts) (unwritten_of (sealed_now full).parts)) same.2
        (subst (λ n. ComeBehind (full.parts.site.place + n) (unwritten_of v.parts) (unwritten_of (sealed_now full).parts)) same.1
        (subst (λ (l : List BufferAt). ComeBehind (full.parts.site.place + begin_of full) l (unwritten_of (sealed_now full).parts)) same.0 (sealed_behind full)))

    by_short : (o : Bool) → ComeBehind (v.parts.site.place + begin_of v) (unwritten_of v.parts) (unwritten_of (if o then sealed_now (filled_now sum size v) else sealed_now v).parts)
    by_short true = closed
    by_short false = sealed_behind v

    by_any : (o : Bool) → ComeBehind (v.parts.site.place + begin_of v) (unwritten_of v.parts) (unwritten_of (turned_now sum size v).parts) → ComeBehind (v.parts.site.place + begin_of v) (unwritten_of v.parts) (unwritten_of (if o then turned_now sum size v else v).parts)
    by_any true is = is
    by_any false is = none_more (v.parts.site.place + begin_of v) (unwritten_of v.parts)

  -- So it is in a line.
  pub line_current : (place : ℕ) (v : SegmentView) (vs : List SegmentView) → AreSegments size place (v ∷ vs) → ComeBehind (end_of (v ∷ vs)) (unwritten (v ∷ vs)) (buffers_in sum size (v ∷ vs))
  line_current place v [] are =
      let own = as_sealed_behind place v are.0 in
      record {
        more = own.more;
        is = append-nil (unwritten_of (as_sealed sum size v).parts) ∙ own.is ∙ ap (λ (l : List BufferAt). l ++ own.more) (sym (append-nil (unwritten_of v.parts)));
        begin = own.begin;
        few = own.few;
        at = own.at;
      }
  line_current place v (w ∷ ws) are =
      let rest = line_current (place + size) w ws are.1 in
      record {
        more = rest.more;
        is = ap (λ (l : List BufferAt). unwritten_of v.parts ++ l) rest.is ∙ sym (append_assoc (unwritten_of v.parts) (unwritten (w ∷ ws)) rest.more);
        begin = rest.begin;
        few = rest.few;
        at = rest.at;
      }

  -- It isn't written, and holds nothing up, where it begins behind a place.

  pub current_free : (place to : ℕ) (v : SegmentView) (vs : List SegmentView) → AreSegments size place (v ∷ vs) → to ≤ end_of (v ∷ vs) → free_below to (buffers_in sum size (v ∷ vs)) ≡ free_below to (unwritten (v ∷ vs))
  current_free place to v vs are sealed =
      let is = line_current place v vs are in
      ap (free_below to) is.is ∙ free_front to (unwritten (v ∷ vs)) is.more (begin_lower (end_of (v ∷ vs)) to is.more sealed is.begin)

  pub current_holds : (place to : ℕ) (v : SegmentView) (vs : List SegmentView) → AreSegments size place (v ∷ vs) → to ≤ end_of (v ∷ vs) → held_below to (buffers_in sum size (v ∷ vs)) ≡ held_below to (unwritten (v ∷ vs))
  current_holds place to v vs are sealed =
      let is = line_current place v vs are in
      ap (held_below to) is.is ∙ held_front to (unwritten (v ∷ vs)) is.more (begin_lower (end_of (v ∷ vs)) to is.more sealed is.begin)
