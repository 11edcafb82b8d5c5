-- What the calls of a log make of what is seen of its buffers that aren't on the device, and of where the current one begins.
use Rattle.std.proofs.Common.{◌≡◌, ◌∙◌, ◌≤◌, ◌<◌, ◌+◌, ◌*◌, ap, sym, refl, arith, inl, inr, ℕ, zero, suc, Bool, true, false, nat_lt, if◌then◌else◌, List, [], ◌∷◌, length, map, drop, set, Some}
use Rattle.std.specs.List.{slice_get}
use Rattle.std.proofs.lemmas.Bool.Decides.{nat_tests}
use Rattle.sled_store.specs.Device.{Event}
use Rattle.sled_store.specs.SegmentStates.{Machine, next_slot}
use Rattle.sled_core.specs.Begun.{SegmentView, segment_view}
use Rattle.sled_core.specs.declared.iobuf.Reserved.{Reserved}
use Rattle.sled_core.specs.declared.iobuf.ReservationState.{ReservationState}
use Rattle.sled_core.specs.declared.logger.Log.{Log}
use Rattle.sled_core.specs.Fits.{KeepsBuffers, buffers_of, current_begin, current_of, is_moved, ledger_for, ledger_of, ledger_sealed, line_of, machine_at, position_sealed, position_with, segment_size_of, start_behind, start_of, waiting_behind, waiting_of}
use Rattle.sled_core.specs.Keeps.{LeavesSome, position_for, sealed_for, start_for, start_sealed}
use Rattle.sled_core.specs.Ledger.{ledger_behind}
use Rattle.sled_core.specs.Positions.{is_short, position_in}
use Rattle.sled_core.specs.inside.LeavesAbove.{LeavesAbove}
use Rattle.sled_core.specs.inside.Turned.{ended_now, next_line, promoted, reserved_now, written_now}
use Rattle.sled_core.specs.Waiting.{BufferAt, BufferStart, at_last, closed_now, last_of, front_below, not_below, sealed_now, spans, start_in, unwritten}
use Rattle.sled_core.proofs.Line.Below.{BeginFrom, IsFirst}
use Rattle.sled_core.proofs.Holds.Facts.{current_facts}
use Rattle.sled_core.proofs.Line.Spans.{ended_spans, ended_start, next_start, next_unwritten, reserved_start, reserved_unwritten, sealed_start, written_start}

-- A log whose segments are these has these buffers, and its current one begins there.

-- where the current buffer begins, of these segments, of which there is one
abbrev pub start_at : {D C : Type 0} → Log D C → List SegmentView → BufferStart
start_at log line = start_in (last_of (segment_view log.segments.first) line)

-- One of the reservations has ended: nothing is seen of it.
pub ended_buffers : {D C : Type 0} (old new : Log D C) (n : ℕ) (v : SegmentView) (i : ℕ) (r : Reserved) (ending : List ℕ) (state : ReservationState) → slice_get (line_of old) n ≡ Some v
    → line_of new ≡ set (line_of old) n (ended_now i r ending state v) → KeepsBuffers old new
ended_buffers old new n v i r ending state there is = record {
  waiting = ap (λ (l : List SegmentView). spans (unwritten l)) is ∙ ended_spans i r ending state (line_of old) n v there;
  start = ap (start_at old) is ∙ ended_start i r ending state (segment_view old.segments.first) (line_of old) n v there;
}

-- nor where nothing is another
pub same_buffers : {D C : Type 0} (old new : Log D C) → line_of new ≡ line_of old → (waiting_of new ≡ waiting_of old) × (start_of new ≡ start_of old)
same_buffers old new is = (ap unwritten is, ap (start_at old) is)

-- The next record begins in the same place then, whichever slots are left.
pub same_with : {D C : Type 0} (old new : Log D C) → line_of new ≡ line_of old → segment_size_of new ≡ segment_size_of old → (m : Machine) → position_with new m ≡ position_with old m
same_with old new line size m = λ i. position_in (size i) (last_of (segment_view old.segments.first) (line i)) m

-- A reservation is made in the current segment: the sealed buffers are those that they were, and the current one begins where it did.
pub reserved_buffers : {D C : Type 0} (old new : Log D C) (more : List ℕ) (r : Reserved) → line_of new ≡ at_last (reserved_now more r) (line_of old) → (waiting_of new ≡ waiting_of old) × (start_of new ≡ start_of old)
reserved_buffers old new more r is =
    let first : SegmentView = segment_view old.segments.first in
    let behind : List SegmentView = map segment_view old.segments.behind.items in (
      ap unwritten is ∙ reserved_unwritten more r (segment_size_of old) (old.segments.first.site.place + length old.segments.behind.items * segment_size_of old) first behind (current_facts old),
      ap (start_at old) is ∙ reserved_start more r first first behind,
    )

-- A further segment is begun: the one before it is filled to its end and sealed, and the current buffer begins with the new one.
pub next_buffers : {D C : Type 0} (sum : List ℕ → ℕ) (old new : Log D C) (stable : ℕ) → line_of new ≡ next_line sum (segment_size_of old) (machine_at old) stable (line_of old)
    → (waiting_of new ≡ unwritten (at_last (closed_now sum (segment_size_of old)) (line_of old)))
    × (start_of new ≡ record { place = (current_of old).parts.site.place + segment_size_of old; lid = next_slot (machine_at old) * segment_size_of old })
next_buffers sum old new stable is =
    let size : ℕ = segment_size_of old in
    let first : SegmentView = segment_view old.segments.first in
    let behind : List SegmentView = map segment_view old.segments.behind.items in
    (ap unwritten is ∙ next_unwritten sum size (machine_at old) stable first behind, ap (start_at old) is ∙ next_start sum size (machine_at old) stable first first behind)

-- So it is with a reservation for an item of n bytes of a page.
module _ {D C : Type 0} (sum : List ℕ → ℕ) (old new : Log D C) (page n : ℕ) (more : List ℕ) (r : Reserved) where
  -- where it has a place in the current segment
  pub seals_here : is_moved old page n ≡ false → line_of new ≡ at_last (reserved_now more r) (line_of old) → (waiting_of new ≡ waiting_behind sum old page n) × (start_of new ≡ start_behind old page n)
  seals_here stays is =
      let same = reserved_buffers old new more r is in
      let closed : List BufferAt = unwritten (at_last (closed_now sum (segment_size_of old)) (line_of old)) in
      let next : BufferStart = record { place = (current_of old).parts.site.place + segment_size_of old; lid = next_slot (machine_at old) * segment_size_of old } in (
        same.0 ∙ sym (ap (λ (o : Bool). if o then closed else waiting_of old) stays),
        same.1 ∙ sym (ap (λ (o : Bool). if o then next else start_of old) stays),
      )

-- The current buffer is sealed: the next one begins behind it,
pub seal_starts : {D C : Type 0} (old new : Log D C) → is_short (segment_size_of old) (length (current_of old).parts.bytes) ≡ false → line_of new ≡ at_last sealed_now (line_of old) → start_of new ≡ start_sealed old
seal_starts old new room is =
    let size : ℕ = segment_size_of old in
    let first : SegmentView = segment_view old.segments.first in
    let behind : List SegmentView = map segment_view old.segments.behind.items in
    let v : SegmentView = current_of old in
    let next : BufferStart = record { place = v.parts.site.place + size; lid = next_slot (machine_at old) * size } in
    let here : BufferStart = record { place = v.parts.site.place + length v.parts.bytes; lid = v.parts.site.slot + length v.parts.bytes } in
    ap (start_at old) is ∙ sealed_start first first behind ∙ sym (ap (λ (o : Bool). if o then next else here) room)

-- or with the next segment, where no further record has room.
pub turn_starts : {D C : Type 0} (sum : List ℕ → ℕ) (old new : Log D C) (stable : ℕ) → is_short (segment_size_of old) (length (current_of old).parts.bytes) ≡ true
    → line_of new ≡ next_line sum (segment_size_of old) (machine_at old) stable (line_of old) → start_of new ≡ start_sealed old
turn_starts sum old new stable short is =
    let size : ℕ = segment_size_of old in
    let v : SegmentView = current_of old in
    let next : BufferStart = record { place = v.parts.site.place + size; lid = next_slot (machine_at old) * size } in
    let here : BufferStart = record { place = v.parts.site.place + length v.parts.bytes; lid = v.parts.site.slot + length v.parts.bytes } in
    (next_buffers sum old new stable is).1 ∙ sym (ap (λ (o : Bool). if o then next else here) short)

-- A sealed buffer is written: the current one begins where it did.
pub written_starts : {D C : Type 0} (old new : Log D C) (size n : ℕ) (v : SegmentView) (k : ℕ) → slice_get (line_of old) n ≡ Some v → line_of new ≡ promoted size (set (line_of old) n (written_now k v)) → start_of new ≡ start_of old
written_starts old new size n v k there is = ap (start_at old) is ∙ written_start size (segment_view old.segments.first) (line_of old) n v k there

-- The buffers that begin below a place are written one behind another.

-- Of old ones some at the front are written, which begin below a place, and the new ones are left.
pub record IsLeft (to : ℕ) (old new : List BufferAt) : Type 0 where
  pub count : ℕ
  pub is : new ≡ drop count old
  pub others : not_below to old ≡ not_below to new

pub left_all : (to : ℕ) (bs : List BufferAt) → IsLeft to bs bs
left_all to bs = record { count = 0; is = refl; others = refl }

-- One more is written.
pub left_further : (to : ℕ) (old mid new : List BufferAt) (es : List Event) → IsLeft to old mid → IsFirst to mid new es → IsLeft to old new
left_further to old mid new es left step = record {
  count = suc left.count;
  is = sym (drop_first left.count old step.first new (sym left.is ∙ step.is));
  others = left.others ∙ ap (not_below to) step.is ∙ ap (λ (o : Bool). if o then not_below to new else step.first ∷ new) (let below = step.below in let test : nat_lt step.first.place to ≡ true = grind (arith, nat_tests, below) in test);
} where
  drop_first : (n : ℕ) (xs : List BufferAt) (y : BufferAt) (ys : List BufferAt) → drop n xs ≡ y ∷ ys → drop (suc n) xs ≡ ys
  drop_first zero [] y ys same = cc
  drop_first zero (x ∷ xs) y ys same = cc
  drop_first (suc n) [] y ys same = cc
  drop_first (suc n) (x ∷ xs) y ys same = drop_first n xs y ys same

-- Where what is left begins at the place or behind it, all that begin below it are written.
pub left_above : (to : ℕ) (old new : List BufferAt) → IsLeft to old new → BeginFrom to new → new ≡ not_below to old
left_above to old new left begin = sym (left.others ∙ still new begin) where
  still : (bs : List BufferAt) → BeginFrom to bs → not_below to bs ≡ bs
  still [] begin = refl
  still (b ∷ bs) begin = ap (λ (o : Bool). if o then not_below to bs else b ∷ bs) (let low = begin.0 in let test : nat_lt b.place to ≡ false = grind (arith, nat_tests, low) in test)

-- What a call leaves that writes those that begin below a place.
module _ {D C : Type 0} (sum : List ℕ → ℕ) (to : ℕ) where
  -- where these are sealed
  module _ (old new : Log D C) (sealed : to ≤ current_begin old) (start : start_of new ≡ start_of old) where
    not_current : nat_lt (current_begin old) to ≡ false
    not_current = grind (arith, nat_tests, sealed)

    for_is : sealed_for sum to old ≡ waiting_of old
    for_is = ap (λ (o : Bool). if o then buffers_of sum old else waiting_of old) not_current

    start_is : start_for to old ≡ start_of old
    start_is = ap (λ (o : Bool). if o then start_sealed old else start_of old) not_current

    ledger_is : ledger_for to old ≡ ledger_of old
    ledger_is = ap (λ (o : Bool). if o then ledger_sealed old else ledger_of old) not_current

    position_is : (m : Machine) → position_for to old m ≡ position_with old m
    position_is m = ap (λ (o : Bool). if o then position_sealed old m else position_with old m) not_current

    pub leaves_above : IsLeft to (waiting_of old) (waiting_of new) → BeginFrom to (waiting_of new) → ((m : Machine) → position_with new m ≡ position_with old m)
        → ledger_of new ≡ ledger_behind (segment_size_of old) (front_below to (waiting_of old)) (ledger_of old) → LeavesAbove sum to old new
    leaves_above left begin with_slots ledger = record {
      left = left_above to (waiting_of old) (waiting_of new) left begin ∙ ap (not_below to) (sym for_is);
      start = start ∙ sym start_is;
      position = λ m. with_slots m ∙ sym (position_is m);
      ledger = ledger ∙ (λ i. ledger_behind (segment_size_of old) (front_below to (sym for_is i)) (sym ledger_is i));
    }

  -- and where the current one is sealed first, which begins below the place
  module _ (old mid new : Log D C) (below : current_begin old < to) (sealed : to ≤ current_begin mid) (waiting : waiting_of mid ≡ buffers_of sum old) (start : start_of mid ≡ start_sealed old)
      (with_slots : (m : Machine) → position_with mid m ≡ position_sealed old m) (ledger : ledger_of mid ≡ ledger_sealed old) (size : segment_size_of mid ≡ segment_size_of old) where
    current : nat_lt (current_begin old) to ≡ true
    current = grind (arith, nat_tests, below)

    pub same_for : sealed_for sum to mid ≡ sealed_for sum to old
    same_for = for_is mid mid sealed refl ∙ waiting ∙ sym (ap (λ (o : Bool). if o then buffers_of sum old else waiting_of old) current)

    pub same_start : start_for to mid ≡ start_for to old
    same_start = start_is mid mid sealed refl ∙ start ∙ sym (ap (λ (o : Bool). if o then start_sealed old else start_of old) current)

    pub same_position : (m : Machine) → position_for to mid m ≡ position_for to old m
    same_position m = position_is mid mid sealed refl m ∙ with_slots m ∙ sym (ap (λ (o : Bool). if o then position_sealed old m else position_with old m) current)

    pub same_ledger : ledger_for to mid ≡ ledger_for to old
    same_ledger = ledger_is mid mid sealed refl ∙ ledger ∙ sym (ap (λ (o : Bool). if o then ledger_sealed old else ledger_of old) current)

    pub above_first : LeavesAbove sum to mid new → LeavesAbove sum to old new
    above_first leaves = record {
      left = leaves.left ∙ ap (not_below to) same_for;
      start = leaves.start ∙ same_start;
      position = λ m. leaves.position m ∙ same_position m;
      ledger = leaves.ledger ∙ (λ i. ledger_behind (size i) (front_below to (same_for i)) (same_ledger i));
    }

    pub some_first : LeavesSome sum to mid new → LeavesSome sum to old new
    some_first (inl same) = inr (0, same.0 ∙ waiting ∙ sym (ap (λ (o : Bool). if o then buffers_of sum old else waiting_of old) current), same.1 ∙ start ∙ sym (ap (λ (o : Bool). if o then start_sealed old else start_of old) current))
    some_first (inr left) = inr (left.0, left.1 ∙ ap (drop left.0) same_for, left.2 ∙ same_start)
