-- Where a reservation of one of a log's segments has ended, its record stands in a buffer that isn't on the device: a sealed one, or the current one as it would be sealed.
use Rattle.std.proofs.Common.{◌≡◌, ◌∙◌, ◌≤◌, ◌<◌, ◌+◌, ◌-◌, ◌/◌, ap, sym, refl, arith, subst, inl, inr, ℕ, zero, suc, max, Bool, true, false, nat_lt, if◌then◌else◌, List, [], ◌∷◌, ◌++◌, length, drop, set, Some, length-append}
use Rattle.std.specs.List.{slice_get}
use Rattle.std.proofs.lemmas.Bool.{cases_lt}
use Rattle.std.proofs.lemmas.Bool.Decides.{nat_tests}
use Rattle.std.proofs.lemmas.List.{append-nil}
use Rattle.sled_codec.specs.Places.{part}
use Rattle.sled_codec.specs.Written.{written}
use Rattle.sled_codec.specs.declared.serialization.message.MessageKind.{MessageKind}
use Rattle.sled_core.specs.declared.iobuf.ReservationState.{ReservationState}
use Rattle.sled_core.specs.declared.iobuf.ReservationState.TheVariants.{Open}
use Rattle.sled_core.specs.declared.iobuf.Reserved.{Reserved}
use Rattle.sled_core.specs.declared.iobuf.Sealed.{Sealed}
use Rattle.sled_core.specs.declared.iobuf.SegmentPosition.{SegmentPosition}
use Rattle.sled_core.specs.inside.Begun.{AreFilled}
use Rattle.sled_core.specs.Begun.{SegmentView, begin_of}
use Rattle.sled_core.specs.inside.Buffers.{IsHeaded, ending}
use Rattle.sled_core.specs.Buffers.{padding_at}
use Rattle.sled_core.specs.invariants.Caps.{segment_rest}
use Rattle.sled_core.specs.Positions.{is_short}
use Rattle.sled_core.specs.inside.SealedBuffers.{one_ended}
use Rattle.sled_core.specs.SealedBuffers.{seal_at, sealed_count}
use Rattle.sled_core.specs.inside.Turned.{ended_now}
use Rattle.sled_core.specs.Waiting.{as_sealed, at_last, buffers_in, closed_now, holds_any, sealed_now, turned_now, unwritten, unwritten_in, unwritten_of, with_filling}
use Rattle.sled_core.proofs.Line.EndedLine.{ended_bytes}
use Rattle.sled_core.proofs.Holds.Facts.{IsSegment}
use Rattle.sled_core.proofs.Reserve.Ranges.{at_there, part-append}
use Rattle.sled_core.proofs.Sealed.Covering.{StandsIn, last_stands, sealed_stands, stands_left, stands_right}
use Rattle.sled_core.proofs.Sealed.Ended.{get_behind, lies_in}
use Rattle.sled_core.proofs.Sealed.InBuffer.{end_ended}

-- An entry of a segment with this text at it, once that has ended.
module _ {size place : ℕ} (v : SegmentView) (facts : IsSegment size place v) (i : ℕ) (r : Reserved) (there : slice_get v.parts.reserved i ≡ Some r) (is_open : r.state ≡ Open) (word : ℕ) (kind : MessageKind) (state : ReservationState) (text : List ℕ)
    (is : part (written v.parts.bytes r.from (ending word kind)) r.from r.len ≡ text) where
  abbrev e : SegmentView
  e = ended_now i r (ending word kind) state v

  abbrev bs : List Sealed
  bs = one_ended i v.parts.sealed

  -- it lies within the bytes
  inside : r.from + r.len ≤ length v.parts.bytes
  inside = at_there (λ (x : Reserved). x.from + x.len ≤ length v.parts.bytes) v.parts.reserved i r there facts.within

  long : length e.parts.bytes ≡ length v.parts.bytes
  long = ended_bytes v i r word kind facts there is_open

  -- an entry of the current buffer lies in that
  current_low : sealed_count v.parts.sealed ≤ i → begin_of v ≤ r.from
  current_low above =
      let lies = lies_in (max 20 (begin_of v)) (length v.parts.bytes) (drop (sealed_count v.parts.sealed) v.parts.reserved) (i - sealed_count v.parts.sealed) r facts.chain (get_behind v.parts.reserved (sealed_count v.parts.sealed) i r above there) in
      let low = lies.0 in
      omega (arith, low)

  -- where that is empty the entry is of a sealed one
  of_sealed : length v.parts.bytes ≤ begin_of v → i < sealed_count v.parts.sealed
  of_sealed full = elim (cases_lt i (sealed_count v.parts.sealed)) [
    | inl below ↦ below
    | inr above ↦ (
        let low = current_low above in
        let some = (at_there IsHeaded v.parts.reserved i r there facts.headed).0 in
        let within = inside in
        absurd (omega (arith, low, some, within, full)))
  ]

  -- A sealed one has it,
  pub ended_sealed : length v.parts.bytes ≤ begin_of v → StandsIn v.parts.site r.from r.len text (unwritten_of e.parts)
  ended_sealed full =
      subst (λ (l : List Sealed). StandsIn v.parts.site r.from r.len text (unwritten_in v.parts.site e.parts.bytes v.parts.written_len l e.parts.reserved)) (append-nil bs)
      (sealed_stands v.parts.site e.parts.bytes r text is is_open v.parts.written_len i v.parts.reserved v.parts.sealed facts.are there (of_sealed full) [] e.parts.reserved)

  -- or the current one as it is sealed, with more behind it or not.
  with_last : (bytes : List ℕ) (own now : List Reserved) → length v.parts.bytes ≤ length bytes → part bytes r.from r.len ≡ text → StandsIn v.parts.site r.from r.len text (unwritten_in v.parts.site bytes v.parts.written_len (bs ++ seal_at (length bytes) own ∷ []) now)
  with_last bytes own now far stands = elim (cases_lt i (sealed_count v.parts.sealed)) [
    | inl below ↦ sealed_stands v.parts.site bytes r text stands is_open v.parts.written_len i v.parts.reserved v.parts.sealed facts.are there below (seal_at (length bytes) own ∷ []) now
    | inr above ↦ last_stands v.parts.site bytes r.from r.len text stands v.parts.written_len bs (seal_at (length bytes) own) refl
        (let low = current_low above in let same = end_ended v.parts.written_len i v.parts.sealed in omega (arith, low, same)) (let within = inside in omega (arith, within, far)) now
  ]

  sealed_has : StandsIn v.parts.site r.from r.len text (unwritten_of (sealed_now e).parts)
  sealed_has = with_last e.parts.bytes (drop (sealed_count bs) e.parts.reserved) e.parts.reserved (let same = long in omega (arith, same)) is

  closed_has : (sum : List ℕ → ℕ) → StandsIn v.parts.site r.from r.len text (unwritten_of (closed_now sum size e).parts)
  closed_has sum = by (nat_lt (length e.parts.bytes) size) where
    more : List ℕ
    more = segment_rest sum size (e.parts.site.place / size) (length e.parts.bytes)

    by : (o : Bool) → StandsIn v.parts.site r.from r.len text (unwritten_of (sealed_now (if o then with_filling size e (segment_rest sum size (e.parts.site.place / size) (length e.parts.bytes)) else e)).parts)
    by true = with_last (e.parts.bytes ++ segment_rest sum size (e.parts.site.place / size) (length e.parts.bytes)) (drop (sealed_count bs) (e.parts.reserved ++ padding_at size (length e.parts.bytes) ∷ [])) (e.parts.reserved ++ padding_at size (length e.parts.bytes) ∷ [])
        (let same = long in omega (arith, same, length-append e.parts.bytes (segment_rest sum size (e.parts.site.place / size) (length e.parts.bytes))))
        (part-append e.parts.bytes (segment_rest sum size (e.parts.site.place / size) (length e.parts.bytes)) r.from r.len (let same = long in let within = inside in omega (arith, same, within)) ∙ is)
    by false = sealed_has

  pub ended_current : (sum : List ℕ → ℕ) → StandsIn v.parts.site r.from r.len text (unwritten_of (as_sealed sum size e).parts)
  ended_current sum = by (holds_any e) refl where
    short : (o : Bool) → StandsIn v.parts.site r.from r.len text (unwritten_of (if o then closed_now sum size e else sealed_now e).parts)
    short true = closed_has sum
    short false = sealed_has

    by : (o : Bool) → holds_any e ≡ o → StandsIn v.parts.site r.from r.len text (unwritten_of (if o then turned_now sum size e else e).parts)
    by true test = short (is_short size (length e.parts.bytes))
    by false test = ended_sealed (
        let over : length e.parts.bytes ≤ begin_of e = grind (arith, nat_tests, test) in
        let same = end_ended v.parts.written_len i v.parts.sealed in
        let as_long = long in
        omega (arith, over, same, as_long))

-- Among those of all segments is that of the n-th one.
pub stands_line : (site : SegmentPosition) (from len : ℕ) (text : List ℕ) (f : SegmentView → SegmentView) (size to : ℕ) (line : List SegmentView) (n : ℕ) (v e : SegmentView) → slice_get line n ≡ Some v → AreFilled size to line
    → StandsIn site from len text (unwritten_of (f e).parts) → (begin_of v ≡ size → StandsIn site from len text (unwritten_of e.parts)) → StandsIn site from len text (unwritten (at_last f (set line n e)))
stands_line site from len text f size to [] n v e there filled last full = cc
stands_line site from len text f size to (x ∷ []) zero v e there filled last full = stands_left site from len text (unwritten_of (f e).parts) [] last
stands_line site from len text f size to (x ∷ []) (suc n) v e there filled last full = cc
stands_line site from len text f size to (x ∷ w ∷ ws) zero v e there filled last full =
    let same : x ≡ v = cc in
    stands_left site from len text (unwritten_of e.parts) (unwritten (at_last f (w ∷ ws))) (full (sym (ap begin_of same) ∙ filled.0))
stands_line site from len text f size to (x ∷ w ∷ ws) (suc zero) v e there filled last full =
    stands_right site from len text (unwritten_of x.parts) (unwritten (at_last f (e ∷ ws))) (stands_line site from len text f size to (w ∷ ws) zero v e there filled.2 last full)
stands_line site from len text f size to (x ∷ w ∷ ws) (suc (suc n)) v e there filled last full =
    stands_right site from len text (unwritten_of x.parts) (unwritten (at_last f (w ∷ set ws n e))) (stands_line site from len text f size to (w ∷ ws) (suc n) v e there filled.2 last full)

pub ended_stands : (sum : List ℕ → ℕ) (size to : ℕ) (line : List SegmentView) (n : ℕ) {place : ℕ} (v : SegmentView) (facts : IsSegment size place v) (i : ℕ) (r : Reserved) (there : slice_get v.parts.reserved i ≡ Some r) (is_open : r.state ≡ Open)
    (word : ℕ) (kind : MessageKind) (state : ReservationState) (text : List ℕ) → slice_get line n ≡ Some v → AreFilled size to line → part (written v.parts.bytes r.from (ending word kind)) r.from r.len ≡ text
    → StandsIn v.parts.site r.from r.len text (buffers_in sum size (set line n (ended_now i r (ending word kind) state v)))
ended_stands sum size to line n v facts i r there is_open word kind state text among filled is =
    stands_line v.parts.site r.from r.len text (as_sealed sum size) size to line n v (ended_now i r (ending word kind) state v) among filled
    (ended_current v facts i r there is_open word kind state text is sum)
    (λ full. ended_sealed v facts i r there is_open word kind state text is (let short = facts.short in omega (arith, full, short)))
