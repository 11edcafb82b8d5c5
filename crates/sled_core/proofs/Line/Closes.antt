-- The segment that is being filled is filled to its end, and its buffer is sealed: the segments hold and fit what they did.
use Rattle.std.proofs.Common.{◌≡◌, ◌∙◌, ◌<◌, ◌≤◌, ◌+◌, ◌/◌, ◌^◌, ap, sym, refl, arith, subst, inl, inr, ℕ, zero, suc, List, [], ◌∷◌, ◌++◌, length, drop, Option, Some, true, false, nat_lt, if◌then◌else◌, Bool, length-append}
use Rattle.std.specs.List.{slice_get}
use Rattle.std.specs.declared.io.Error.{Error as IoError}
use Rattle.std.proofs.lemmas.Bool.Decides.{nat_tests}
use Rattle.sled_codec.specs.History.{History, Message}
use Rattle.sled_store.specs.Device.{State}
use Rattle.sled_core.specs.inside.Begun.{IsUnfilled}
use Rattle.sled_core.specs.Begun.{SegmentParts, SegmentView, begin_of, records_to}
use Rattle.sled_core.specs.Buffers.{message_in, none_open, open_state, padding_at, pointer_as, item_as}
use Rattle.sled_core.specs.inside.Buffers.{records_end}
use Rattle.sled_core.specs.invariants.Caps.{segment_rest}
use Rattle.sled_core.specs.declared.iobuf.Reserved.{Reserved}
use Rattle.sled_core.specs.inside.Fits.{HoldsLine}
use Rattle.sled_core.specs.inside.Running.{FitsLine}
use Rattle.sled_core.specs.inside.SealedBuffers.{AreSealed}
use Rattle.sled_core.specs.SealedBuffers.{seal_at, sealed_count}
use Rattle.sled_core.specs.Waiting.{at_last, closed_now, filled_now, last_of, sealed_now, with_filling}
use Rattle.sled_core.specs.declared.logger.joined_marks.JoinedMarks.{JoinedMarks}
use Rattle.sled_core.proofs.Holds.HoldsLemmas.{body-append}
use Rattle.sled_core.proofs.Line.OneChanged.{last_fits, last_holds}
use Rattle.sled_core.proofs.Line.SegmentKeeps.{KeepsAllHeld, sealed_also, segment_closes, segment_seals}
use Rattle.sled_core.proofs.Line.Entered.{IsEntered, LiesBehind, unfilled_to}
use Rattle.sled_core.proofs.Reserve.BeginBelow.{entered_more}
use Rattle.sled_core.proofs.Reached.CapStands.{length-segment_rest}
use Rattle.sled_core.proofs.Reserve.RecordEnds.{records_more}
use Rattle.sled_core.proofs.Sealed.Appended.{end_one}
use Rattle.sled_core.proofs.Sealed.LaidLemmas.{EndsRise}

-- A segment of this size can be filled to its end: its current buffer begins within it.
pub record IsClosable (size : ℕ) (v : SegmentView) : Type 0 where
  pub short : length v.parts.bytes ≤ size
  pub some : begin_of v < size
  pub small : v.parts.site.place / size < 2 ^ 64
  pub rise : EndsRise v.parts.written_len v.parts.sealed (length v.parts.bytes)
  pub begun : 20 ≤ length v.parts.bytes
  pub so_far : v.parts.written_len ≤ length v.parts.bytes
  pub are : AreSealed v.parts.written_len v.parts.reserved v.parts.sealed

module _ (sum : List ℕ → ℕ) (size : ℕ) where
  -- what is put behind its bytes
  abbrev pub more_of : SegmentView → List ℕ
  more_of v = segment_rest sum size (v.parts.site.place / size) (length v.parts.bytes)

  abbrev pub filled_up : SegmentView → SegmentView
  filled_up v = with_filling size v (more_of v)

  -- Something of a segment is so once it is filled, where it is so with that behind it, and as it is.
  pub by_filled : (P : SegmentView → Type 0) (v : SegmentView) → (length v.parts.bytes < size → P (filled_up v)) → (size ≤ length v.parts.bytes → P v) → P (filled_now sum size v)
  by_filled P v less full = by (nat_lt (length v.parts.bytes) size) refl where
    by : (b : Bool) → nat_lt (length v.parts.bytes) size ≡ b → P (if b then filled_up v else v)
    by true test = less (grind (arith, nat_tests, test))
    by false test = full (grind (arith, nat_tests, test))

  -- It lies where it lay, with as much written and the same buffers sealed, up to its end.
  pub filled_site : (v : SegmentView) → (filled_now sum size v).parts.site ≡ v.parts.site
  filled_site v = by_filled (λ x. x.parts.site ≡ v.parts.site) v (λ _. refl) (λ _. refl)

  pub filled_gone : (v : SegmentView) → (filled_now sum size v).gone ≡ v.gone
  filled_gone v = by_filled (λ x. x.gone ≡ v.gone) v (λ _. refl) (λ _. refl)

  pub filled_written : (v : SegmentView) → (filled_now sum size v).parts.written_len ≡ v.parts.written_len
  filled_written v = by_filled (λ x. x.parts.written_len ≡ v.parts.written_len) v (λ _. refl) (λ _. refl)

  pub filled_begin : (v : SegmentView) → begin_of (filled_now sum size v) ≡ begin_of v
  filled_begin v = by_filled (λ x. begin_of x ≡ begin_of v) v (λ _. refl) (λ _. refl)

  pub filled_length : (v : SegmentView) → length v.parts.bytes ≤ size → v.parts.site.place / size < 2 ^ 64 → length (filled_now sum size v).parts.bytes ≡ size
  filled_length v short small = by_filled (λ x. length x.parts.bytes ≡ size) v
      (λ less. let rest = length-segment_rest sum size (v.parts.site.place / size) (length v.parts.bytes) short small in omega (arith, rest, short, length-append v.parts.bytes (more_of v)))
      (λ full. omega (arith, full, short))

  -- Its current buffer ends where the segment does once it is sealed.
  pub closed_begin : (v : SegmentView) → length v.parts.bytes ≤ size → v.parts.site.place / size < 2 ^ 64 → begin_of (closed_now sum size v) ≡ size
  closed_begin v short small =
      let w : SegmentView = filled_now sum size v in
      end_one w.parts.written_len w.parts.sealed (seal_at (length w.parts.bytes) (drop (sealed_count w.parts.sealed) w.parts.reserved)) ∙ filled_length v short small

  -- Its reservations begin below a place still: what fills it is none.
  pub closed_entered : (to : ℕ) (v : SegmentView) → IsEntered to v → IsEntered to (closed_now sum size v)
  closed_entered to v entered = by_filled (λ (x : SegmentView). IsEntered to (sealed_now x)) v
      (λ _. entered_more to v.parts.site.place v.parts.reserved (padding_at size (length v.parts.bytes)) entered (λ none. absurd (none refl)))
      (λ _. entered)

  -- What fills it begins where its records end, and a place that doesn't lie behind them then lies in front of that, or behind the segment.
  pub closed_records : (v : SegmentView) → length v.parts.bytes ≤ size → IsUnfilled v.parts.filled → length v.parts.bytes ≤ records_end v.parts.reserved (length v.parts.bytes)
      → records_to (closed_now sum size v).parts.filled size ≤ records_end (closed_now sum size v).parts.reserved size
  closed_records v short unfilled whole = by_filled (λ (x : SegmentView). records_to (sealed_now x).parts.filled size ≤ records_end (sealed_now x).parts.reserved size) v
      (λ less. let more = records_more v.parts.reserved (padding_at size (length v.parts.bytes)) (length v.parts.bytes) size short (omega arith) in omega (arith, more, whole))
      (λ full.
      let all = subst (λ n. n ≤ records_end v.parts.reserved n) (let long : length v.parts.bytes ≡ size = omega (arith, full, short) in long) whole in
      omega (arith, all, unfilled_to v.parts.filled size unfilled))

  pub closed_ends : (to : ℕ) (v : SegmentView) → length v.parts.bytes ≤ size → to ≤ v.parts.site.place + length v.parts.bytes → IsUnfilled v.parts.filled → LiesBehind size to (closed_now sum size v)
  closed_ends to v short low unfilled = by_filled (λ (x : SegmentView). LiesBehind size to (sealed_now x)) v (λ less inside. low) (λ full inside. omega (arith, inside, unfilled_to v.parts.filled size unfilled))

  -- A reservation of it that is open is of it still, for the same message.
  get_more : (rs more : List Reserved) (i : ℕ) (r : Reserved) → slice_get rs i ≡ Some r → slice_get (rs ++ more) i ≡ Some r
  get_more [] more i r there = cc
  get_more (x ∷ xs) more zero r there = there
  get_more (x ∷ xs) more (suc i) r there = get_more xs more i r there

  pub filled_there : (v : SegmentView) (i : ℕ) (r : Reserved) → slice_get v.parts.reserved i ≡ Some r → slice_get (filled_now sum size v).parts.reserved i ≡ Some r
  filled_there v i r there = by_filled (λ x. slice_get x.parts.reserved i ≡ Some r) v (λ _. get_more v.parts.reserved (padding_at size (length v.parts.bytes) ∷ []) i r there) (λ _. there)

  pub filled_message : (v : SegmentView) (r : Reserved) → r.from + r.len ≤ length v.parts.bytes → r.header_len ≤ r.len
      → message_in v.parts.site v.parts.bytes r ≡ message_in (filled_now sum size v).parts.site (filled_now sum size v).parts.bytes r
  filled_message v r within headed = by_filled (λ x. message_in v.parts.site v.parts.bytes r ≡ message_in x.parts.site x.parts.bytes r) v
      (λ _. ap (λ (body : List ℕ). record { kind = r.log_kind; page = r.page; place = v.parts.site.place + r.from; pointer = pointer_as r.blob (v.parts.site.slot + r.from); size = r.len; bytes = item_as r.blob body }) (sym (body-append v.parts.bytes (more_of v) r within headed)))
      (λ _. refl)

  -- None is open that wasn't.
  none_more : (rs : List Reserved) (r : Reserved) → open_state r.state ≡ false → none_open rs ≡ true → none_open (rs ++ r ∷ []) ≡ true
  none_more [] r closed ended = ap (λ b. if b then false else true) closed
  none_more (x ∷ xs) r closed ended = by (open_state x.state) ended (λ rest. none_more xs r closed rest) where
    by : (b : Bool) → (if b then false else none_open xs) ≡ true → (none_open xs ≡ true → none_open (xs ++ r ∷ []) ≡ true) → (if b then false else none_open (xs ++ r ∷ [])) ≡ true
    by true is rest = is
    by false is rest = rest is

  pub filled_ended : (v : SegmentView) → none_open v.parts.reserved ≡ true → none_open (filled_now sum size v).parts.reserved ≡ true
  filled_ended v ended = by_filled (λ x. none_open x.parts.reserved ≡ true) v (λ _. none_more v.parts.reserved (padding_at size (length v.parts.bytes)) refl ended) (λ _. ended)

  module _ (device : State) (fault : Option IoError) where
    -- The last one is filled and sealed, as far as it isn't full: that holds what it held.
    module _ (marks : JoinedMarks) (v : SegmentView) (vs : List SegmentView) (its : IsClosable size (last_of v vs)) where
      abbrev w : SegmentView
      w = last_of v vs

      abbrev s : SegmentParts
      s = w.parts

      abbrev closing : Bool → SegmentView
      closing b = sealed_now (if b then filled_up w else w)

      in_room : length s.bytes < size → KeepsAllHeld sum size device fault s (closing true).parts.bytes (closing true).parts.sealed (closing true).parts.reserved
      in_room less = segment_closes sum size device fault s less its.small its.rise its.begun its.some its.are

      in_none : size ≤ length s.bytes → KeepsAllHeld sum size device fault s s.bytes (sealed_also s) s.reserved
      in_none full = let some = its.some in segment_seals sum size device fault s its.short (omega (arith, some, full)) its.are

      -- What segments hold they hold then,
      pub line_closed : (H : History) → HoldsLine sum marks size device fault (v ∷ vs) H → HoldsLine sum marks size device fault (at_last (closed_now sum size) (v ∷ vs)) H
      line_closed H = by (nat_lt (length s.bytes) size) refl where
        by : (b : Bool) → nat_lt (length s.bytes) size ≡ b → HoldsLine sum marks size device fault (v ∷ vs) H → HoldsLine sum marks size device fault (at_last (closed_now sum size) (v ∷ vs)) H
        by true test = last_holds sum size device fault marks v vs (closing true).parts.bytes (Some (length s.bytes)) (closing true).parts.sealed (closing true).parts.reserved
            (closed_now sum size) (ap closing test) (in_room (grind (arith, nat_tests, test))) H
        by false test = last_holds sum size device fault marks v vs s.bytes s.filled (sealed_also s) s.reserved (closed_now sum size) (ap closing test) (in_none (grind (arith, nat_tests, test))) H

      -- and what they fit they fit.
      pub line_fits_closed : (reach pins : ℕ) (H : History) (A f : ℕ) (U : List Message) → FitsLine sum marks size device fault (v ∷ vs) reach pins H A f U
          → FitsLine sum marks size device fault (at_last (closed_now sum size) (v ∷ vs)) reach pins H A f U
      line_fits_closed reach pins H A f U = by (nat_lt (length s.bytes) size) refl where
        by : (b : Bool) → nat_lt (length s.bytes) size ≡ b → FitsLine sum marks size device fault (v ∷ vs) reach pins H A f U
            → FitsLine sum marks size device fault (at_last (closed_now sum size) (v ∷ vs)) reach pins H A f U
        by true test = let less : length s.bytes < size = grind (arith, nat_tests, test) in
            last_fits sum size device fault marks v vs (closing true).parts.bytes (Some (length s.bytes)) (closing true).parts.sealed (closing true).parts.reserved
            (closed_now sum size) (ap closing test) (in_room less) (inr (let so_far = its.so_far in omega (arith, so_far, less))) reach pins H A f U
        by false test = last_fits sum size device fault marks v vs s.bytes s.filled (sealed_also s) s.reserved (closed_now sum size) (ap closing test)
            (in_none (grind (arith, nat_tests, test))) (inl refl) reach pins H A f U
