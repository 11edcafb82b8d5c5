-- What each call makes of the cleared file: a reservation that is made or ends, a buffer that is sealed, a segment that is begun and a mark leave it.
-- A buffer that is written is written over it, and a slot that is freed is emptied.
use Rattle.std.proofs.Common.{◌≡◌, ◌∙◌, ◌+◌, ◌/◌, ◌^◌, ◌≤◌, ◌<◌, ℕ, zero, suc, Some, Bool, true, false, nat_lt, if◌then◌else◌, List, [], ◌∷◌, length, take, drop, set, refl, ap, arith, subst, inl, inr, length-append}
use Rattle.std.specs.List.{slice_get}
use Rattle.std.proofs.lemmas.Bool.{cases_lt}
use Rattle.std.proofs.lemmas.List.{get_or-set_other, get_or-set_same, get_or_past, length-set}
use Rattle.sled_store.specs.Device.{overwritten}
use Rattle.sled_store.specs.SegmentStates.{Machine, SlotState, free_slot, freed, handed_out, is_free, next_slot, slot_at}
use Rattle.sled_store.proofs.Marks.MarkSteps.{SameSegments}
use Rattle.sled_core.specs.declared.iobuf.Reserved.{Reserved}
use Rattle.sled_core.specs.declared.iobuf.ReservationState.{ReservationState}
use Rattle.sled_core.specs.declared.iobuf.Sealed.{Sealed}
use Rattle.sled_core.specs.Begun.{SegmentView, begin_of}
use Rattle.sled_core.specs.Positions.{is_short}
use Rattle.sled_core.specs.SealedBuffers.{seal_at, sealed_count, sealed_end}
use Rattle.sled_core.specs.Waiting.{as_sealed, at_last, closed_now, holds_any, last_of, sealed_now, turned_now, with_filling}
use Rattle.sled_core.specs.inside.Cleared.{cleared, is_unwritten_of}
use Rattle.sled_core.specs.inside.FreeSlots.{HasSlot}
use Rattle.sled_core.specs.inside.SealedBuffers.{behind_run, run_end, written_at}
use Rattle.sled_core.specs.inside.Turned.{begun_view, ended_now, next_line, promoted, reserved_now, written_now}
use Rattle.sled_core.specs.invariants.Caps.{segment_rest}
use Rattle.sled_core.proofs.Cleared.Offsets.{LineRises, OthersBeside}
use Rattle.sled_core.proofs.Cleared.Moves.{cleared_begun, cleared_emptied, cleared_line, cleared_promoted, cleared_written, line_last, line_set, unwritten_ended, unwritten_sealed}
use Rattle.sled_core.proofs.Cleared.Emptied.{IsEmptied}
use Rattle.sled_core.proofs.Reached.CapStands.{length-segment_rest}
use Rattle.sled_core.proofs.Sealed.LaidLemmas.{EndsRise}
use Rattle.sled_core.proofs.Start.OwnSlots.{handed_other}

-- Of one segment the same isn't written,

-- once its current buffer is sealed,
pub sealed_same : (size : ℕ) (v : SegmentView) (i : ℕ) → begin_of v ≤ length v.parts.bytes → length v.parts.bytes ≤ size
    → is_unwritten_of size (sealed_now v).parts i ≡ is_unwritten_of size v.parts i
sealed_same size v i low high =
    unwritten_sealed v.parts.site.slot v.parts.written_len v.parts.sealed
    (seal_at (length v.parts.bytes) (drop (sealed_count v.parts.sealed) v.parts.reserved)) size i refl low high

module _ (sum : List ℕ → ℕ) (size : ℕ) (v : SegmentView) (i : ℕ) (low : begin_of v ≤ length v.parts.bytes) (high : length v.parts.bytes ≤ size)
    (small : v.parts.site.place / size < 2 ^ 64) where
  -- once it is filled besides,
  pub closed_same : is_unwritten_of size (closed_now sum size v).parts i ≡ is_unwritten_of size v.parts i
  closed_same = by (nat_lt (length v.parts.bytes) size) where
    rest : List ℕ
    rest = segment_rest sum size (v.parts.site.place / size) (length v.parts.bytes)

    by : (t : Bool) → is_unwritten_of size (sealed_now (if t then with_filling size v rest else v)).parts i ≡ is_unwritten_of size v.parts i
    by false = sealed_same size v i low high
    by true =
        let more = length-segment_rest sum size (v.parts.site.place / size) (length v.parts.bytes) high small in
        let long = length-append v.parts.bytes rest in
        sealed_same size (with_filling size v rest) i (omega (arith, low, long)) (omega (arith, high, more, long))

  -- and as it would be sealed.
  pub as_sealed_same : is_unwritten_of size (as_sealed sum size v).parts i ≡ is_unwritten_of size v.parts i
  as_sealed_same = by (holds_any v) (turned (is_short size (length v.parts.bytes))) where
    turned : (t : Bool) → is_unwritten_of size (if t then closed_now sum size v else sealed_now v).parts i ≡ is_unwritten_of size v.parts i
    turned true = closed_same
    turned false = sealed_same size v i low high

    by : (t : Bool) → is_unwritten_of size (turned_now sum size v).parts i ≡ is_unwritten_of size v.parts i
        → is_unwritten_of size (if t then turned_now sum size v else v).parts i ≡ is_unwritten_of size v.parts i
    by true is = is
    by false is = refl

-- A slot that is freed is free.
pub freed_free : (size : ℕ) (m : Machine) (k : ℕ) → is_free (slot_at (freed size k m).machine k).state ≡ true
freed_free size m k = elim (cases_lt k (length m.slots)) [
  | inl inside ↦ ap (λ (s : SlotState). is_free s.state) (get_or-set_same m.slots k free_slot free_slot inside)
  | inr past ↦ ap (λ (s : SlotState). is_free s.state) (get_or_past (set m.slots k free_slot) k free_slot (omega (arith, past, length-set m.slots k free_slot)))
]

-- So of all segments.

module _ (size : ℕ) (m : Machine) (log : List ℕ) where
  -- A reservation is made.
  pub cleared_reserved : (more : List ℕ) (r : Reserved) (line : List SegmentView)
      → cleared size m (at_last (reserved_now more r) line) log ≡ cleared size m line log
  cleared_reserved more r [] = refl
  cleared_reserved more r (v ∷ vs) =
      cleared_line size m m (v ∷ vs) (at_last (reserved_now more r) (v ∷ vs)) log (λ k. refl) (λ i. line_last size (reserved_now more r) v vs i refl)

  -- One is completed or aborted.
  pub cleared_ended : (line : List SegmentView) (n : ℕ) (v : SegmentView) (j : ℕ) (r : Reserved) (ending : List ℕ) (state : ReservationState)
      → slice_get line n ≡ Some v
      → cleared size m (set line n (ended_now j r ending state v)) log ≡ cleared size m line log
  cleared_ended line n v j r ending state among = cleared_line size m m line (set line n (ended_now j r ending state v)) log (λ k. refl)
      (λ i. line_set size line n v (ended_now j r ending state v) i among (unwritten_ended v.parts.site.slot v.parts.written_len j v.parts.sealed size i))

  -- A message is marked: the slots have the segments that they had.
  pub cleared_marked : (n : Machine) (line : List SegmentView) → SameSegments m.slots n.slots → cleared size n line log ≡ cleared size m line log
  cleared_marked n line same = cleared_line size m n line line log (λ k. (same k).free) (λ i. refl)

  -- A slot is freed.
  pub cleared_freed : 0 < size → (k : ℕ) (line : List SegmentView) → IsEmptied size k (cleared size m line log) (cleared size (freed size k m).machine line log)
  cleared_freed some k line = cleared_emptied size some m line log (freed size k m).machine k (freed_free size m k)
      (λ j other. ap (λ (s : SlotState). is_free s.state) (get_or-set_other m.slots k j free_slot free_slot other))

  module _ (sum : List ℕ → ℕ) (v : SegmentView) (vs : List SegmentView) (low : begin_of (last_of v vs) ≤ length (last_of v vs).parts.bytes)
      (high : length (last_of v vs).parts.bytes ≤ size)
      (small : (last_of v vs).parts.site.place / size < 2 ^ 64) where
    -- The current buffer is sealed.
    pub cleared_sealed : cleared size m (at_last (as_sealed sum size) (v ∷ vs)) log ≡ cleared size m (v ∷ vs) log
    cleared_sealed = cleared_line size m m (v ∷ vs) (at_last (as_sealed sum size) (v ∷ vs)) log (λ k. refl)
        (λ i. line_last size (as_sealed sum size) v vs i (as_sealed_same sum size (last_of v vs) i low high small))

    pub cleared_closed : cleared size m (at_last (closed_now sum size) (v ∷ vs)) log ≡ cleared size m (v ∷ vs) log
    cleared_closed = cleared_line size m m (v ∷ vs) (at_last (closed_now sum size) (v ∷ vs)) log (λ k. refl)
        (λ i. line_last size (closed_now sum size) v vs i (closed_same sum size (last_of v vs) i low high small))

    -- A further segment is begun, in the slot that is handed out.
    pub cleared_next : 0 < size → (place stable : ℕ) → is_free (slot_at m (next_slot m)).state ≡ true → next_slot m ≤ length m.slots
        → cleared size (handed_out place m) (next_line sum size m stable (v ∷ vs)) log ≡ cleared size m (v ∷ vs) log
    cleared_next some place stable free within =
        cleared_begun size some m (handed_out place m) (at_last (closed_now sum size) (v ∷ vs)) (begun_view sum size m stable (last_of v vs))
        (next_slot m) log refl refl refl free
        (λ j other. ap (λ (s : SlotState). is_free s.state) (handed_other m within place j other))
        ∙ cleared_closed

-- The buffers of a segment lie one behind another still, once one of them is written and those at the front that are go.
rise_written : (from : ℕ) (bs : List Sealed) (k to : ℕ) → EndsRise from bs to → EndsRise from (written_at k bs) to
rise_written from [] k to rise = rise
rise_written from (b ∷ bs) zero to rise = rise
rise_written from (b ∷ bs) (suc k) to rise = (rise.0, rise_written b.end bs k to rise.1)

rise_run : (from : ℕ) (bs : List Sealed) (to : ℕ) → EndsRise from bs to → EndsRise (run_end from bs) (behind_run bs) to
rise_run from [] to rise = rise
rise_run from (b ∷ bs) to rise = by_test b.is_written (rise_run b.end bs to rise.1) where
  by_test : (t : Bool) → EndsRise (run_end b.end bs) (behind_run bs) to
      → EndsRise (if t then run_end b.end bs else from) (if t then behind_run bs else b ∷ bs) to
  by_test true rest = rest
  by_test false rest = rise

each_set : (P : SegmentView → Type 0) (line : List SegmentView) (n : ℕ) (w : SegmentView) → P w → ((j : ℕ) (u : SegmentView) → slice_get line j ≡ Some u → P u)
    → (j : ℕ) (u : SegmentView) → slice_get (set line n w) j ≡ Some u → P u
each_set P [] n w now each j u there = each j u there
each_set P (x ∷ xs) zero w now each zero u there = let same : w ≡ u = cc in subst P same now
each_set P (x ∷ xs) zero w now each (suc j) u there = each (suc j) u there
each_set P (x ∷ xs) (suc n) w now each zero u there = each 0 u there
each_set P (x ∷ xs) (suc n) w now each (suc j) u there = each_set P xs n w now (λ i y at. each (suc i) y at) j u there

-- A buffer is written, and the segments at the front that are wholly written leave.
pub cleared_write : (size : ℕ) (m : Machine) (line : List SegmentView) (log : List ℕ) (n : ℕ) (v : SegmentView) (among : slice_get line n ≡ Some v)
    (k : ℕ) (b : Sealed) (there : slice_get v.parts.sealed k ≡ Some b)
    (has : HasSlot size m v) (rises : LineRises size line)
    (beside : OthersBeside size line n v)
    (xs : List ℕ) → sealed_end v.parts.written_len (take k v.parts.sealed) + length xs ≡ b.end
    → cleared size m (promoted size (set line n (written_now k v)))
    (overwritten log (v.parts.site.slot + sealed_end v.parts.written_len (take k v.parts.sealed)) xs)
    ≡ overwritten (cleared size m line log) (v.parts.site.slot + sealed_end v.parts.written_len (take k v.parts.sealed)) xs
cleared_write size m line log n v among k b there has rises beside xs long =
    cleared_promoted size m (set line n (written_now k v)) (overwritten log (v.parts.site.slot + sealed_end v.parts.written_len (take k v.parts.sealed)) xs)
    (each_set (λ u. EndsRise u.parts.written_len u.parts.sealed size) line n (written_now k v)
    (rise_run v.parts.written_len (written_at k v.parts.sealed) size (rise_written v.parts.written_len v.parts.sealed k size (rises n v among))) rises)
    ∙ cleared_written size m line log n v among k b there has rises beside xs long
