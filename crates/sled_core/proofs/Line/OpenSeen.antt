-- The open reservations of a log by place: which buffers they hold up, and which of them are of the current one.
use Rattle.std.proofs.Common.{◌≡◌, ◌∙◌, ◌≤◌, ◌<◌, ◌+◌, ◌-◌, ◌/◌, ◌↔◌, ap, sym, refl, arith, subst, ℕ, ℤ, pos, zero, suc, max, Bool, true, false, if◌then◌else◌, List, [], ◌∷◌, ◌++◌, length, length-append, map, take, drop, set}
use Rattle.std.specs.List.{All, Contains}
use Rattle.std.proofs.lemmas.Bool.Decides.{nat_tests}
use Rattle.std.proofs.lemmas.List.{append-nil, drop-append-le, drop-drop}
use Rattle.std.proofs.lemmas.List.Elements.{All-append, All-cons, All-drop, All-nil, All-take, All-weaker}
use Rattle.sled_codec.specs.History.{Message}
use Rattle.sled_store.proofs.Segments.Elements.{in_first, in_rest}
use Rattle.sled_core.specs.Begun.{SegmentView, begin_of, segment_view}
use Rattle.sled_core.specs.inside.Buffers.{IsChain, ended}
use Rattle.sled_core.specs.Buffers.{none_open, padding_at}
use Rattle.sled_core.specs.declared.iobuf.ReservationState.TheVariants.{Completed}
use Rattle.sled_core.specs.declared.iobuf.Reserved.{Reserved}
use Rattle.sled_core.specs.declared.iobuf.Sealed.{Sealed}
use Rattle.sled_core.specs.declared.iobuf.SegmentPosition.{SegmentPosition}
use Rattle.sled_core.specs.declared.logger.Log.{Log}
use Rattle.sled_core.specs.declared.reservation.Reservation.{Reservation}
use Rattle.sled_core.specs.Fits.{Awaits, IsLeastOpen, NoneOpen, NoneOpenIn, buffers_of, current_begin, current_of, current_reserved_in, line_of, open_of, open_places, segment_size_of}
use Rattle.sled_core.specs.OpenPlaces.{first_between, open_places_along, open_places_in, places_from}
use Rattle.sled_core.specs.Positions.{is_short}
use Rattle.sled_core.specs.inside.SealedBuffers.{AreSealed}
use Rattle.sled_core.specs.SealedBuffers.{sealed_count, sealed_end}
use Rattle.sled_core.specs.Tickets.{index_of}
use Rattle.sled_core.specs.Waiting.{BufferAt, as_sealed, at_last, buffer_at, closed_now, holds_any, last_of, sealed_now, turned_now, unwritten, unwritten_in, unwritten_of}
use Rattle.sled_core.proofs.Line.Closes.{by_filled, filled_up, more_of}
use Rattle.sled_core.proofs.Line.EntryPlaces.{segment_chain}
use Rattle.sled_core.proofs.Holds.Facts.{IsSegment}
use Rattle.sled_core.proofs.Line.OpenBetween.{AreBelow, AreFrom, between_before, between_behind, between_own, chain_below, chain_from, from_all, from_behind, places_count, places_first}
use Rattle.sled_core.proofs.Line.OpenPlaces.{as_sealed_places, none_placed, placed_none_open, places_of, places_parted, takes_ended, takes_in}
use Rattle.sled_core.proofs.Line.Segments.{AreSegments, line_segments}
use Rattle.sled_core.proofs.Line.Shows.{number_small}
use Rattle.sled_core.proofs.Reached.CapStands.{length-segment_rest}
use Rattle.sled_core.proofs.Reserve.Ranges.{chain-append, chain_grows}
use Rattle.sled_core.proofs.Sealed.Appended.{seal_are}
use Rattle.sled_core.proofs.Sealed.Ended.{chain_rest, ends_up, sealed_more}
use Rattle.sled_core.proofs.Sealed.Runs.{end_begun}

-- A segment at a place has its entries one behind another, within its size, and those of its sealed buffers are theirs.
pub record IsLaid (size place : ℕ) (v : SegmentView) : Type 0 where
  pub at : v.parts.site.place ≡ place
  pub are : AreSealed v.parts.written_len v.parts.reserved v.parts.sealed
  pub end : ℕ
  pub inside : end ≤ size
  pub held : end ≤ length v.parts.bytes
  pub chain : IsChain (max 20 v.parts.written_len) v.parts.reserved end
  pub some : All (λ r. 0 < r.len) v.parts.reserved

-- So do segments one behind another from a place on.
abbrev pub AreLaid : ℕ → ℕ → List SegmentView → Type 0
AreLaid size place [] = Unit {0}
AreLaid size place (v ∷ vs) = IsLaid size place v × AreLaid size (place + size) vs

each_some : {size place : ℕ} (v : SegmentView) → IsSegment size place v → All (λ r. 0 < r.len) v.parts.reserved
each_some v f = λ k d lt. (f.headed k d lt).0

-- Those of a log do,
segment_laid : (size place : ℕ) (v : SegmentView) → IsSegment size place v → IsLaid size place v
segment_laid size place v f = record { at = f.at; are = f.are; end = length v.parts.bytes; inside = f.short; held = omega arith; chain = segment_chain v f; some = each_some v f }

pub segments_laid : (size place : ℕ) (vs : List SegmentView) → AreSegments size place vs → AreLaid size place vs
segments_laid size place [] are = tt
segments_laid size place (v ∷ vs) are = (segment_laid size place v are.0, segments_laid size (place + size) vs are.1)

-- also with the current buffer as it would be sealed.
sealed_laid : (size place : ℕ) (v : SegmentView) → begin_of v < length v.parts.bytes → IsSegment size place v → IsLaid size place (sealed_now v)
sealed_laid size place v some f = record {
  at = f.at;
  are = seal_are v.parts.written_len v.parts.reserved v.parts.sealed (begin_of v) (sealed_count v.parts.sealed) (length v.parts.bytes) f.are refl refl some f.chain;
  end = length v.parts.bytes;
  inside = f.short;
  held = omega arith;
  chain = segment_chain v f;
  some = each_some v f;
}

closed_laid : (sum : List ℕ → ℕ) (size place : ℕ) (v : SegmentView) → begin_of v < length v.parts.bytes → IsSegment size place v → IsLaid size place (closed_now sum size v)
closed_laid sum size place v some f = by_filled sum size (λ x. IsLaid size place (sealed_now x)) v filled (λ full. sealed_laid size place v some f) where
  filled : length v.parts.bytes < size → IsLaid size place (sealed_now (filled_up sum size v))
  filled less =
      let rs : List Reserved = v.parts.reserved in
      let bs : List Sealed = v.parts.sealed in
      let n : ℕ = length v.parts.bytes in
      let its : Reserved = padding_at size n in
      let new : ℕ = length (v.parts.bytes ++ more_of sum size v) in
      let longer = length-append v.parts.bytes (more_of sum size v) in
      let end : n + (size - n) ≡ size = omega (arith, less) in
      let all : new ≡ size = omega (arith, longer, length-segment_rest sum size (v.parts.site.place / size) n f.short (number_small size place v f), less) in
      let own : drop (sealed_count bs) (rs ++ its ∷ []) ≡ drop (sealed_count bs) rs ++ its ∷ [] = drop-append-le (sealed_count bs) rs (its ∷ []) f.parted in
      let behind : IsChain (max 20 (begin_of v)) (drop (sealed_count bs) (rs ++ its ∷ [])) new =
      subst (λ (l : List Reserved). IsChain (max 20 (begin_of v)) l new) (sym own)
      (subst (λ m. IsChain (max 20 (begin_of v)) (drop (sealed_count bs) rs ++ its ∷ []) m) (end ∙ sym all) (chain-append (max 20 (begin_of v)) n (drop (sealed_count bs) rs) its f.chain refl)) in
      record {
        at = f.at;
        are = seal_are v.parts.written_len (rs ++ its ∷ []) bs (begin_of v) (sealed_count bs) new (sealed_more v.parts.written_len rs bs (its ∷ []) f.are) refl refl (omega (arith, some, longer)) behind;
        end = n + (size - n);
        inside = omega (arith, end);
        held = omega (arith, end, all);
        chain = chain-append (max 20 v.parts.written_len) n rs its (segment_chain v f) refl;
        some = All-append (λ r. 0 < r.len) rs (its ∷ []) (each_some v f) (All-cons (λ r. 0 < r.len) its [] (omega (arith, less)) (All-nil (λ r. 0 < r.len)));
      }

as_sealed_laid : (sum : List ℕ → ℕ) (size place : ℕ) (v : SegmentView) → IsSegment size place v → IsLaid size place (as_sealed sum size v)
as_sealed_laid sum size place v f = by_any (holds_any v) refl where
  by_short : begin_of v < length v.parts.bytes → (o : Bool) → IsLaid size place (if o then closed_now sum size v else sealed_now v)
  by_short some true = closed_laid sum size place v some f
  by_short some false = sealed_laid size place v some f

  by_any : (o : Bool) → holds_any v ≡ o → IsLaid size place (if o then turned_now sum size v else v)
  by_any true is = by_short (grind (arith, nat_tests, is)) (is_short size (length v.parts.bytes))
  by_any false is = segment_laid size place v f

pub line_laid : (sum : List ℕ → ℕ) (size place : ℕ) (vs : List SegmentView) → AreSegments size place vs → AreLaid size place (at_last (as_sealed sum size) vs)
line_laid sum size place [] are = tt
line_laid sum size place (v ∷ []) are = (as_sealed_laid sum size place v are.0, tt)
line_laid sum size place (v ∷ w ∷ ws) are = (segment_laid size place v are.0, line_laid sum size (place + size) (w ∷ ws) are.1)

-- Where their open reservations lie.

laid_from : (size place : ℕ) (v : SegmentView) → IsLaid size place v → AreFrom place (places_of v)
laid_from size place v is =
    let base : ℕ = v.parts.site.place in
    All-weaker (λ p. base + max 20 v.parts.written_len ≤ p) (λ p. place ≤ p) (λ p le. let at = is.at in omega (arith, at, le)) (places_of v) (chain_from base (max 20 v.parts.written_len) is.end v.parts.reserved is.chain)

laid_below : (size place : ℕ) (v : SegmentView) → IsLaid size place v → AreBelow (place + size) (places_of v)
laid_below size place v is =
    let base : ℕ = v.parts.site.place in
    All-weaker (λ p. p < base + is.end) (λ p. p < place + size) (λ p lt. let at = is.at in let inside = is.inside in omega (arith, at, inside, lt)) (places_of v)
    (chain_below base (max 20 v.parts.written_len) is.end v.parts.reserved is.chain is.some)

along_from : (size place : ℕ) (vs : List SegmentView) → AreLaid size place vs → AreFrom place (open_places_along vs)
along_from size place [] are = All-nil (λ p. place ≤ p)
along_from size place (v ∷ vs) are = All-append (λ p. place ≤ p) (places_of v) (open_places_along vs) (laid_from size place v are.0)
    (All-weaker (λ p. place + size ≤ p) (λ p. place ≤ p) (λ p le. omega (arith, le)) (open_places_along vs) (along_from size (place + size) vs are.1))

-- Each buffer is held up by the first of them within it.

-- A buffer lies from a place on, and up to another; the first of these places that lies in it holds it up.
record IsHeldIn (from to : ℕ) (ps : List ℕ) (b : BufferAt) : Type 0 where
  low : from ≤ b.place
  high : b.end ≤ to
  held : b.held ≡ first_between b.place b.end ps

-- the chain goes on behind the first buffer
pub begun_rest : (from end : ℕ) (b : Sealed) (bs : List Sealed) (rs : List Reserved) → AreSealed from rs (b ∷ bs) → IsChain (max 20 from) rs end → IsChain (max 20 b.end) (drop b.count rs) end
begun_rest from end b bs rs are chain =
    subst (λ n. IsChain n (drop b.count rs) end) (sym (end_begun from (take b.count rs) b are.0)) (chain_rest (max 20 from) end rs b.count b.end chain are.0.chain)

-- Of a segment: the first sealed buffer and those behind it.
module _ (site : SegmentPosition) (bytes : List ℕ) (from end : ℕ) (b : Sealed) (bs : List Sealed) (rs : List Reserved) (are : AreSealed from rs (b ∷ bs)) (chain : IsChain (max 20 from) rs end) (some : All (λ r. 0 < r.len) rs) where
  abbrev base : ℕ
  base = site.place

  abbrev first : List Reserved
  first = take b.count rs

  abbrev later : List Reserved
  later = drop b.count rs

  abbrev Held : BufferAt → Type 0
  Held = IsHeldIn (base + from) (base + end) (open_places_in base rs)

  abbrev HeldLater : BufferAt → Type 0
  HeldLater = IsHeldIn (base + b.end) (base + end) (open_places_in base later)

  behind : IsChain b.end later end
  behind = chain_rest (max 20 from) end rs b.count b.end chain are.0.chain

  first_below : AreBelow (base + b.end) (open_places_in base first)
  first_below = chain_below base (max 20 from) b.end first are.0.chain (All-take (λ r. 0 < r.len) b.count rs some)

  first_from : AreFrom (base + from) (open_places_in base first)
  first_from = All-weaker (λ p. base + max 20 from ≤ p) (λ p. base + from ≤ p) (λ p le. omega (arith, le)) (open_places_in base first) (chain_from base (max 20 from) b.end first are.0.chain)

  further : (x : BufferAt) → HeldLater x → Held x
  further x is =
      let up = are.0.rises in
      let low = is.low in
      record {
        low = omega (arith, low, up);
        high = is.high;
        held = is.held ∙ sym (ap (first_between x.place x.end) (places_parted base b.count rs) ∙ between_behind x.place x.end (base + b.end) (open_places_in base first) (open_places_in base later) low first_below);
      }

  here : Held (buffer_at site bytes from b.end first)
  here = record {
    low = omega arith;
    high = (let up = chain_grows b.end end later behind in omega (arith, up));
    held = sym (
        ap (first_between (base + from) (base + b.end)) (places_parted base b.count rs)
        ∙ between_before (base + from) (base + b.end) (base + b.end) (open_places_in base first) (open_places_in base later) (omega arith) (chain_from base b.end end later behind)
        ∙ between_own (base + from) (base + b.end) base first first_from first_below);
  }

  held_one : All HeldLater (unwritten_in site bytes b.end bs later) → All Held (unwritten_in site bytes from (b ∷ bs) rs)
  held_one rest = by_test (All-weaker HeldLater Held further (unwritten_in site bytes b.end bs later) rest) b.is_written where
    by_test : All Held (unwritten_in site bytes b.end bs later) → (o : Bool) → All Held (if o then unwritten_in site bytes b.end bs later else buffer_at site bytes from b.end first ∷ unwritten_in site bytes b.end bs later)
    by_test rest true = rest
    by_test rest false = All-cons Held (buffer_at site bytes from b.end first) (unwritten_in site bytes b.end bs later) here rest

held_in : (site : SegmentPosition) (bytes : List ℕ) (from end : ℕ) (bs : List Sealed) (rs : List Reserved) → AreSealed from rs bs → IsChain (max 20 from) rs end → All (λ r. 0 < r.len) rs
    → All (IsHeldIn (site.place + from) (site.place + end) (open_places_in site.place rs)) (unwritten_in site bytes from bs rs)
held_in site bytes from end [] rs are chain some = All-nil (IsHeldIn (site.place + from) (site.place + end) (open_places_in site.place rs))
held_in site bytes from end (b ∷ bs) rs are chain some =
    held_one site bytes from end b bs rs are chain some
    (held_in site bytes b.end end bs (drop b.count rs) are.1 (begun_rest from end b bs rs are chain) (All-drop (λ r. 0 < r.len) b.count rs some))

-- So of segments one behind another.
record IsHeldFrom (from : ℕ) (ps : List ℕ) (b : BufferAt) : Type 0 where
  low : from ≤ b.place
  held : b.held ≡ first_between b.place b.end ps

module _ (size place : ℕ) (v : SegmentView) (vs : List SegmentView) (is : IsLaid size place v) (are : AreLaid size (place + size) vs) where
  abbrev HeldAlong : BufferAt → Type 0
  HeldAlong = IsHeldFrom place (places_of v ++ open_places_along vs)

  own_along : (x : BufferAt) → IsHeldIn (v.parts.site.place + v.parts.written_len) (v.parts.site.place + is.end) (places_of v) x → HeldAlong x
  own_along x held =
      let at = is.at in
      let inside = is.inside in
      let low = held.low in
      let high = held.high in
      record {
        low = omega (arith, at, low);
        held = held.held ∙ sym (between_before x.place x.end (place + size) (places_of v) (open_places_along vs) (omega (arith, at, inside, high)) (along_from size (place + size) vs are));
      }

  further_along : (x : BufferAt) → IsHeldFrom (place + size) (open_places_along vs) x → HeldAlong x
  further_along x held =
      let low = held.low in
      record {
        low = omega (arith, low);
        held = held.held ∙ sym (between_behind x.place x.end (place + size) (places_of v) (open_places_along vs) low (laid_below size place v is));
      }

  held_both : All (IsHeldFrom (place + size) (open_places_along vs)) (unwritten vs) → All HeldAlong (unwritten (v ∷ vs))
  held_both rest = All-append HeldAlong (unwritten_of v.parts) (unwritten vs)
      (All-weaker (IsHeldIn (v.parts.site.place + v.parts.written_len) (v.parts.site.place + is.end) (places_of v)) HeldAlong own_along (unwritten_of v.parts)
      (held_in v.parts.site v.parts.bytes v.parts.written_len is.end v.parts.sealed v.parts.reserved is.are is.chain is.some))
      (All-weaker (IsHeldFrom (place + size) (open_places_along vs)) HeldAlong further_along (unwritten vs) rest)

held_along : (size place : ℕ) (vs : List SegmentView) → AreLaid size place vs → All (IsHeldFrom place (open_places_along vs)) (unwritten vs)
held_along size place [] are = All-nil (IsHeldFrom place [])
held_along size place (v ∷ vs) are = held_both size place v vs are.0 are.1 (held_along size (place + size) vs are.1)

pub buffers_held : {D C : Type 0} (sum : List ℕ → ℕ) (log : Log D C) → All (λ b. b.held ≡ first_between b.place b.end (open_places log)) (buffers_of sum log)
buffers_held sum log =
    let size : ℕ = segment_size_of log in
    let v : SegmentView = segment_view log.segments.first in
    let vs : List SegmentView = map segment_view log.segments.behind.items in
    let now : List SegmentView = at_last (as_sealed sum size) (line_of log) in
    let same : open_places_along now ≡ open_places log = as_sealed_places sum size v vs in
    All-weaker (IsHeldFrom log.segments.first.site.place (open_places_along now)) (λ b. b.held ≡ first_between b.place b.end (open_places log)) (λ b is. is.held ∙ ap (first_between b.place b.end) same) (buffers_of sum log)
    (held_along size log.segments.first.site.place now (line_laid sum size log.segments.first.site.place (line_of log) (line_segments log)))

-- Those from where the current buffer begins on are its own.

own_from_end : (base from end : ℕ) (bs : List Sealed) (rs : List Reserved) → AreSealed from rs bs → IsChain (max 20 from) rs end → All (λ r. 0 < r.len) rs
    → places_from (base + sealed_end from bs) (open_places_in base rs) ≡ open_places_in base (drop (sealed_count bs) rs)
own_from_end base from end [] rs are chain some = from_all (base + from) (base + max 20 from) (open_places_in base rs) (omega arith) (chain_from base (max 20 from) end rs chain)
own_from_end base from end (b ∷ bs) rs are chain some =
    let own : List Reserved = take b.count rs in
    let later : List Reserved = drop b.count rs in
    let to : ℕ = base + sealed_end b.end bs in
    let up = ends_up b.end later bs are.1 in
    ap (places_from to) (places_parted base b.count rs)
    ∙ from_behind to (base + b.end) (open_places_in base own) (open_places_in base later) (omega (arith, up)) (chain_below base (max 20 from) b.end own are.0.chain (All-take (λ r. 0 < r.len) b.count rs some))
    ∙ own_from_end base b.end end bs later are.1 (begun_rest from end b bs rs are chain) (All-drop (λ r. 0 < r.len) b.count rs some)
    ∙ ap (open_places_in base) (drop-drop (sealed_count bs) b.count rs)

-- the last segment lies at the first one or behind it
last_above : (size place : ℕ) (v : SegmentView) (vs : List SegmentView) → AreLaid size place (v ∷ vs) → place ≤ (last_of v vs).parts.site.place
last_above size place v [] are = let at = are.0.at in omega (arith, at)
last_above size place v (w ∷ ws) are = let rest = last_above size (place + size) w ws are.1 in omega (arith, rest)

line_from_begin : (size place : ℕ) (v : SegmentView) (vs : List SegmentView) → AreLaid size place (v ∷ vs)
    → places_from ((last_of v vs).parts.site.place + begin_of (last_of v vs)) (open_places_along (v ∷ vs)) ≡ open_places_in (last_of v vs).parts.site.place (current_reserved_in (last_of v vs))
line_from_begin size place v [] are =
    ap (places_from (v.parts.site.place + begin_of v)) (append-nil (places_of v))
    ∙ own_from_end v.parts.site.place v.parts.written_len are.0.end v.parts.sealed v.parts.reserved are.0.are are.0.chain are.0.some
line_from_begin size place v (w ∷ ws) are =
    let up = last_above size (place + size) w ws are.1 in
    from_behind ((last_of w ws).parts.site.place + begin_of (last_of w ws)) (place + size) (places_of v) (open_places_along (w ∷ ws)) (omega (arith, up)) (laid_below size place v are.0)
    ∙ line_from_begin size (place + size) w ws are.1

own_places : {D C : Type 0} (log : Log D C) → places_from (current_begin log) (open_places log) ≡ open_places_in (current_of log).parts.site.place (current_reserved_in (current_of log))
own_places log =
    let size : ℕ = segment_size_of log in
    line_from_begin size log.segments.first.site.place (segment_view log.segments.first) (map segment_view log.segments.behind.items) (segments_laid size log.segments.first.site.place (line_of log) (line_segments log))

-- So there are as many of them as it has open ones, and the first is the least of these.
pub current_count : {D C : Type 0} (log : Log D C) → open_of log ≡ length (places_from (current_begin log) (open_places log))
current_count log = sym (ap length (own_places log) ∙ places_count (current_of log).parts.site.place (current_reserved_in (current_of log)))

pub current_least : {D C : Type 0} (log : Log D C) (at : ℤ) → IsLeastOpen log at → (place : ℕ) × (rest : List ℕ) × (places_from (current_begin log) (open_places log) ≡ place ∷ rest) × (at ≡ pos place)
current_least log at least =
    let base : ℕ = (current_of log).parts.site.place in
    let first = places_first base least.0 (current_reserved_in (current_of log)) least.1 in
    (base + least.0, first.0, own_places log ∙ first.1, least.2)

-- There are none exactly where no reservation is open.

none_along : (vs : List SegmentView) → NoneOpenIn vs → open_places_along vs ≡ []
none_along [] none = refl
none_along (v ∷ vs) none =
    ap (λ (l : List ℕ). l ++ open_places_along vs) (none_placed v.parts.site.place v.parts.reserved (none 0 v refl))
    ∙ none_along vs (λ n w there. none (suc n) w there)

both_empty : (xs ys : List ℕ) → xs ++ ys ≡ [] → (xs ≡ []) × (ys ≡ [])
both_empty [] ys is = (refl, is)
both_empty (x ∷ xs) ys is = cc

along_none : (vs : List SegmentView) → open_places_along vs ≡ [] → NoneOpenIn vs
along_none [] is n w there = cc
along_none (v ∷ vs) is zero w there =
    let same : v ≡ w = cc in
    subst (λ (x : SegmentView). none_open x.parts.reserved ≡ true) same (placed_none_open v.parts.site.place v.parts.reserved (both_empty (places_of v) (open_places_along vs) is).0)
along_none (v ∷ vs) is (suc n) w there = along_none vs (both_empty (places_of v) (open_places_along vs) is).1 n w there

pub none_is_empty : {D C : Type 0} (log : Log D C) → NoneOpen log ↔ (open_places log ≡ [])
none_is_empty log = (λ none. none_along (line_of log) none, λ is. along_none (line_of log) is)

-- A ticket is for one of them.

in_between : (xs ys : List ℕ) (x : ℕ) → Contains (xs ++ x ∷ ys) x
in_between [] ys x = in_first x ys
in_between (y ∷ xs) ys x = in_rest y x (xs ++ x ∷ ys) (in_between xs ys x)

pub ticket_places : {D C : Type 0} (log : Log D C) (ticket : Reservation) (m : Message) → Awaits log ticket m → Contains (open_places log) m.place
ticket_places log ticket m a =
    let v : SegmentView = a.segment in
    let r : Reserved = a.reserved in
    let i : ℕ = index_of ticket - v.gone in
    let new : SegmentView = record v { parts = record v.parts { reserved = set v.parts.reserved i (ended Completed r) } } in
    let out = takes_in (v.parts.site.place + r.from) (line_of log) a.number v new a.among (takes_ended v.parts.site.place v.parts.reserved i r (ended Completed r) a.there a.own.open_yet refl) in
    let here : m.place ≡ v.parts.site.place + r.from = ap (λ (x : Message). x.place) a.message in
    subst (λ n. Contains (open_places log) n) (sym here) (subst (λ (l : List ℕ). Contains l (v.parts.site.place + r.from)) (sym out.was) (in_between out.before out.after (v.parts.site.place + r.from)))
