-- A batch is noted whose manifest ends in a segment behind the first one: the log holds the history with it, and the other segments hold what they held.
use Rattle.std.proofs.Common.{◌≡◌, ◌≤◌, ◌<◌, ◌+◌, ◌^◌, ◌∙◌, ℕ, true, List, [], ◌∷◌, ◌++◌, length, set, take, Option, Some, refl, ap, subst, arith, inl, inr}
use Rattle.std.specs.List.{All, Contains, slice_get}
use Rattle.std.specs.declared.io.Error.{Error as IoError}
use Rattle.std.proofs.lemmas.List.Elements.{All-contains, Contains-append_left, Contains-append_right}
use Rattle.sled_codec.specs.Written.{written}
use Rattle.sled_codec.specs.History.{AddsBatch, Batch, History, Message}
use Rattle.sled_codec.specs.Snapshots.{stable_place}
use Rattle.sled_store.specs.Device.{State}
use Rattle.sled_store.proofs.Segments.Elements.{in_cases, in_first, in_nothing, in_rest}
use Rattle.sled_core.specs.declared.iobuf.ReservationState.TheVariants.{Manifest, Open}
use Rattle.sled_core.specs.declared.iobuf.Reserved.{Reserved}
use Rattle.sled_core.specs.declared.iobuf.Sealed.{Sealed}
use Rattle.sled_core.specs.declared.iobuf.SegmentPosition.{SegmentPosition}
use Rattle.sled_core.specs.Begun.{SegmentParts}
use Rattle.sled_core.specs.Fits.{held_of}
use Rattle.sled_core.specs.inside.Buffers.{ended, marking}
use Rattle.sled_core.specs.inside.Fits.{HoldBehind, HoldsIn, HoldsNext, HoldsSegment, log_parts}
use Rattle.sled_core.specs.inside.LogFile.{StaysBelow}
use Rattle.sled_core.specs.LogFile.{StaysFrom}
use Rattle.sled_core.specs.Manifests.{is_manifest}
use Rattle.sled_core.specs.declared.logger.joined_marks.JoinedMarks.{JoinedMarks}
use Rattle.sled_core.specs.inside.SealedBuffers.{one_ended}
use Rattle.sled_core.proofs.Line.HeldAround.{HoldAround, MarksBelow, apart_with, behind_below, behind_place, held_around, held_here, marks_same, now_with, stays_below, together}
use Rattle.sled_core.proofs.Line.SegmentKeeps.{ended_are}
use Rattle.sled_core.proofs.Line.FitsCompleted.{front_low}
use Rattle.sled_core.proofs.Flush.Completed.{grows}
use Rattle.sled_core.proofs.Holds.BegunMarks.{begun-marks, stays-marks, stays_below-marks}
use Rattle.sled_core.proofs.Holds.BehindKept.{behind_fewer}
use Rattle.sled_core.proofs.Holds.CompletedLemmas.{segment-fewer}
use Rattle.sled_core.proofs.Line.FirstHoldsMarked.{InReach, begin_from, behind-with, marks_higher, noted_adds, noted_history}
use Rattle.sled_core.proofs.Holds.MarkedSegments.{marks_alone, marks_behind, marks_head, marks_long, marks_within, segment-marked, segment-with}
use Rattle.sled_core.proofs.Holds.PegLemmas.{IsOff, LiesOff}
use Rattle.sled_core.proofs.Reached.Marks.{less_than}
use Rattle.sled_core.proofs.Reserve.Ranges.{all_split}
use Rattle.sled_core.proofs.Sealed.InBuffer.{end_ended}

-- Segments one behind another end where the next one begins.
pub end_before : (sum : List ℕ → ℕ) (size : ℕ) (device : State) (fault : Option IoError) (place : ℕ) (ss : List SegmentParts) (stays : Message → Type 0) (batches : List Batch) (ms : List Message)
    → HoldBehind sum size device fault place ss stays batches ms → (s : SegmentParts) → Contains ss s → s.site.place + size ≤ behind_place size place ss
end_before sum size device fault place [] stays batches ms holds s among = absurd (in_nothing s among)
end_before sum size device fault place (y ∷ ys) stays batches ms (own, later, all, here, rest) s among = elim (in_cases y s ys among) [
  | inl same ↦ (
      let next = here.next in
      let up = (behind_below sum size device fault (place + size) ys stays batches later rest).0 in
      subst (λ (z : SegmentParts). z.site.place + size ≤ behind_place size (place + size) ys) same (omega (arith, next, up)))
  | inr behind ↦ end_before sum size device fault (place + size) ys stays batches later rest s behind
]

module _ (sum : List ℕ → ℕ) (size : ℕ) (site : SegmentPosition) (device : State) (fault : Option IoError) (bytes : List ℕ) (from : ℕ) (bs : List Sealed) (rs : List Reserved) (H : History)
    (pre : List SegmentParts) (s : SegmentParts) (post : List SegmentParts) {marks : JoinedMarks} (holds : HoldsIn sum marks (log_parts size site device fault bytes from bs rs) (pre ++ s ∷ post) H)
    (short : length bytes ≤ size) (small_places : All InReach (pre ++ s ∷ post))
    (i : ℕ) (r : Reserved) (there : slice_get s.reserved i ≡ Some r) (is_open : r.state ≡ Open) (manifest : is_manifest r.log_kind r.page ≡ true)
    (peg : ℕ) (small : peg < 2 ^ 63) (later : s.site.place + r.from < peg) (off_first : LiesOff size site rs bytes peg) (offs : All (IsOff size peg) (pre ++ s ∷ post)) where
  abbrev stable : ℕ
  stable = held_of holds.begun

  abbrev stays : Message → Type 0
  stays = stays_below sum size site device fault bytes from bs rs H pre s post holds

  abbrev parts : HoldAround sum size device fault (site.place + size) pre s post stays H.batches holds.later
  parts = held_around sum size site device fault bytes from bs rs H pre s post holds

  -- where that segment begins
  abbrev begins : ℕ
  begins = behind_place size (site.place + size) pre

  abbrev here : HoldsNext sum size device fault begins s stays H.batches parts.own
  here = held_here sum size site device fault bytes from bs rs H pre s post holds

  -- the batch
  abbrev b : Batch
  b = record { low = s.site.place + r.from; peg = peg }

  abbrev now : History
  now = noted_history H b

  abbrev new : List ℕ
  new = written s.bytes r.from (marking sum s.bytes r peg)

  -- the segment with it
  abbrev marked_now : SegmentParts
  marked_now = now_with s new s.written_len (one_ended i s.sealed) (set s.reserved i (ended Manifest r))

  -- Where the peg lies of each of the segments.
  off : (x : SegmentParts) → Contains (pre ++ s ∷ post) x → LiesOff size x.site x.reserved x.bytes peg
  off x among = (All-contains (IsOff size peg) (pre ++ s ∷ post) x offs among).off

  off_here : LiesOff size s.site s.reserved s.bytes peg
  off_here = off s (Contains-append_right pre (s ∷ post) s (in_first s post))

  -- The batch begins behind what is written of its segment, and in front of the next one.
  pub batch_above : s.site.place + s.written_len ≤ b.low
  batch_above = marks_behind sum size s.site device fault s.bytes s.written_len s.sealed s.reserved parts.own H.batches here.segment i r there is_open manifest here.are peg small off_here

  pub batch_inside : b.low < s.site.place + size
  batch_inside =
      let low = marks_within sum size s.site device fault s.bytes s.written_len s.sealed s.reserved parts.own H.batches here.segment i r there is_open manifest here.are peg small off_here in
      let inside = here.inside in
      omega (arith, low, inside)

  long : length new ≡ length s.bytes
  long = marks_long sum size s.site device fault s.bytes s.written_len s.sealed s.reserved parts.own H.batches here.segment i r there is_open manifest here.are peg small off_here

  -- The header is the same, and no other batch begins there.
  batch_head : take 20 new ≡ take 20 s.bytes
  batch_head = marks_head sum size s.site device fault s.bytes s.written_len s.sealed s.reserved parts.own H.batches here.segment i r there is_open manifest here.are peg small off_here

  pub batch_alone : (c : Batch) → Contains H.batches c → c.low ≡ b.low → ⊥
  batch_alone c among same = marks_alone sum size s.site device fault s.bytes s.written_len s.sealed s.reserved parts.own H.batches here.segment i r there is_open manifest here.are peg small off_here here.inside c among same

  -- It begins behind the first segment.
  behind_first : site.place + size ≤ b.low
  behind_first =
      let up = (front_low sum size site device fault bytes from bs rs H pre s post holds short).0 in
      let at = batch_above in
      omega (arith, up, at)

  pub batch_past : site.place + from ≤ b.low
  batch_past =
      let first = grows sum size site device fault bytes from bs rs (record { messages = holds.head; batches = H.batches }) holds.own in
      let far = behind_first in
      omega (arith, first, short, far)

  past : stable_place holds.begun.first.stable ≤ b.low
  past = let reached = holds.begun.reached in let at = batch_past in omega (arith, at, reached)

  adds : AddsBatch H b now
  adds = noted_adds H b later

  -- what stays of the segments before the first one is the same
  stayed : (x : Message) → StaysBelow now stable site.place x → stays x
  stayed x its = stays_below-marks H now b adds stable site.place x its

  abbrev stays' : Message → Type 0
  stays' = StaysBelow now stable site.place

  reach_parts : All InReach pre × InReach s × All InReach post
  reach_parts = all_split InReach pre post s small_places

  -- The marks of all these segments lie below the batch.
  below : MarksBelow sum b.low (pre ++ s ∷ post)
  below = marks_higher sum (site.place + from) b.low (pre ++ s ∷ post) batch_past holds.marked

  front_marked : HoldBehind sum size device fault (site.place + size) pre stays' now.batches parts.before
  front_marked =
      behind_fewer sum size device fault (site.place + size) pre stays stays' now.batches parts.before stayed
      (behind-with sum size device fault (site.place + size) pre stays H.batches parts.before b
      (λ x among. let far = end_before sum size device fault (site.place + size) pre stays H.batches parts.before parts.front x among in let at = batch_above in let next = here.next in inr (omega (arith, far, at, next)))
      (λ x among. off x (Contains-append_left pre (s ∷ post) x among)) reach_parts.0 (λ x among. below x (Contains-append_left pre (s ∷ post) x among)) parts.front)

  behind_all : (x : SegmentParts) → Contains post x → Contains (pre ++ s ∷ post) x
  behind_all x among = Contains-append_right pre (s ∷ post) x (in_rest s x post among)

  rest_marked : HoldBehind sum size device fault (begins + size) post stays' now.batches parts.after
  rest_marked =
      behind_fewer sum size device fault (begins + size) post stays stays' now.batches parts.after stayed
      (behind-with sum size device fault (begins + size) post stays H.batches parts.after b
      (λ x among. let far = begin_from sum size device fault (begins + size) post stays H.batches parts.after parts.rest x among in let inside = batch_inside in let next = here.next in inl (omega (arith, far, inside, next)))
      (λ x among. off x (behind_all x among)) reach_parts.2 (λ x among. below x (behind_all x among)) parts.rest)

  next_marked : HoldsNext sum size device fault begins marked_now stays' now.batches parts.own
  next_marked =
      let inside = here.inside in
      let held = here.held in
      let behind = here.behind in
      let as_long = long in
      record {
        next = here.next;
        inside = omega (arith, inside, as_long);
        are = ended_are sum size device fault s (record { messages = parts.own; batches = H.batches }) here.segment i r there is_open Manifest refl here.are;
        held = omega (arith, held, as_long, end_ended s.written_len i s.sealed);
        behind = omega (arith, behind, as_long);
        segment = segment-fewer sum size s.site device fault new s.written_len (one_ended i s.sealed) (set s.reserved i (ended Manifest r)) (record { messages = parts.own; batches = now.batches }) stays stays' (λ x under its. stayed x its)
            (segment-marked sum size s.site device fault s.bytes s.written_len s.sealed s.reserved parts.own H.batches here.segment i r there is_open manifest here.are peg small off_here);
        above = here.above;
      }

  others_marked : HoldBehind sum size device fault (site.place + size) (pre ++ marked_now ∷ post) stays' now.batches (parts.before ++ (parts.own ++ parts.after))
  others_marked = together sum size device fault (site.place + size) pre marked_now post stays' now.batches parts.before parts.own parts.after front_marked next_marked rest_marked

  -- The first segment's mark lies below its own place.
  first_marked : HoldsSegment sum (log_parts size site device fault bytes from bs rs) (StaysFrom now stable) (record { messages = holds.head; batches = now.batches })
  first_marked =
      segment-fewer sum size site device fault bytes from bs rs (record { messages = holds.head; batches = now.batches }) (StaysFrom H stable) (StaysFrom now stable) (λ x under its. stays-marks H now b adds stable x its)
      (segment-with sum size site device fault bytes from bs rs holds.head H.batches b (inr behind_first) off_first holds.own
      (λ none. let m = holds.own.records.header none in let far = behind_first in less_than m.mark site.place b.low (omega (arith, far)) m.of_history.below))

  -- The log holds the history with the batch, begun from the same snapshot.
  pub behind-holds-marked : HoldsIn sum marks (log_parts size site device fault bytes from bs rs) (pre ++ marked_now ∷ post) now
  behind-holds-marked = record {
    begun = begun-marks H now b adds sum size device.snapshots.file site from holds.begun past;
    head = holds.head;
    later = parts.before ++ (parts.own ++ parts.after);
    messages = holds.messages ∙ ap (λ (l : List Message). holds.head ++ l) parts.messages;
    own = first_marked;
    others = others_marked;
    apart = apart_with pre s post site new s.written_len (one_ended i s.sealed) (set s.reserved i (ended Manifest r)) holds.apart;
    marked = marks_same sum (site.place + from) pre s marked_now post refl (λ none. (none, batch_head)) holds.marked;
  }
