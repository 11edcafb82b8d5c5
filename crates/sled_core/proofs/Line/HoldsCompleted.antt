-- A message is completed in a segment behind the first one: it is added between those of the segments before it and those of the segments behind it, and the log holds the history with it.
use Rattle.std.proofs.Common.{◌≡◌, ◌≤◌, ◌<◌, ◌+◌, ◌∙◌, ℕ, List, ◌∷◌, ◌++◌, length, set, Option, Some, refl, sym, ap, subst, arith, append_assoc, inl, inr, false}
use Rattle.std.specs.List.{All, Contains, slice_get}
use Rattle.std.specs.declared.io.Error.{Error as IoError}
use Rattle.std.proofs.lemmas.List.Elements.{All-contains, Contains-append_cases}
use Rattle.sled_codec.specs.Written.{written}
use Rattle.sled_codec.specs.History.{AddsMessage, Batch, History, Message}
use Rattle.sled_store.specs.Device.{State}
use Rattle.sled_store.proofs.Segments.Elements.{all_from_in}
use Rattle.sled_core.specs.Manifests.{is_manifest}
use Rattle.sled_core.specs.declared.iobuf.ReservationState.TheVariants.{Open, Completed}
use Rattle.sled_core.specs.declared.iobuf.Reserved.{Reserved}
use Rattle.sled_core.specs.declared.iobuf.Sealed.{Sealed}
use Rattle.sled_core.specs.declared.iobuf.SegmentPosition.{SegmentPosition}
use Rattle.sled_core.specs.inside.Buffers.{completing, ended}
use Rattle.sled_core.specs.Buffers.{message_in}
use Rattle.sled_core.specs.Begun.{SegmentParts}
use Rattle.sled_core.specs.Fits.{held_of}
use Rattle.sled_core.specs.inside.Fits.{HoldBehind, HoldsIn, HoldsNext, HoldsSegment, log_parts}
use Rattle.sled_core.specs.inside.LogFile.{StaysBelow}
use Rattle.sled_core.specs.LogFile.{StaysFrom}
use Rattle.sled_core.specs.declared.logger.joined_marks.JoinedMarks.{JoinedMarks}
use Rattle.sled_core.specs.inside.SealedBuffers.{one_ended}
use Rattle.sled_core.proofs.Line.HeldAround.{HoldAround, apart_with, behind_below, behind_place, held_around, held_here, marks_same, now_with, stays_below, together}
use Rattle.sled_core.proofs.Line.SegmentKeeps.{ended_are, ended_head, ended_long}
use Rattle.sled_core.proofs.Flush.Completed.{all_below, grows}
use Rattle.sled_core.proofs.Holds.Added.{was_or_added}
use Rattle.sled_core.proofs.Holds.BegunLemmas.{begun-adds, stays_adds}
use Rattle.sled_core.proofs.Holds.BehindKept.{behind_fewer}
use Rattle.sled_core.proofs.Holds.CompletedLemmas.{behind_head, behind_written, ends_within, segment-complete, segment-fewer}
use Rattle.sled_core.proofs.Holds.HeldFrom.{held_reached}
use Rattle.sled_core.proofs.Holds.WholeHistory.{behind_above}
use Rattle.sled_core.proofs.Sealed.InBuffer.{end_ended}

-- a list in four parts
four : (a b c d : List Message) → a ++ (b ++ (c ++ d)) ≡ (a ++ (b ++ c)) ++ d
four a b c d = ap (λ (l : List Message). a ++ l) (sym (append_assoc b c d)) ∙ sym (append_assoc a (b ++ c) d)

module _ (sum : List ℕ → ℕ) (size : ℕ) (site : SegmentPosition) (device : State) (fault : Option IoError) (bytes : List ℕ) (from : ℕ) (bs : List Sealed) (rs : List Reserved) (H : History)
    (pre : List SegmentParts) (s : SegmentParts) (post : List SegmentParts) {marks : JoinedMarks} (holds : HoldsIn sum marks (log_parts size site device fault bytes from bs rs) (pre ++ s ∷ post) H)
    (short : length bytes ≤ size) (i : ℕ) (r : Reserved) (there : slice_get s.reserved i ≡ Some r) (is_open : r.state ≡ Open) (none : is_manifest r.log_kind r.page ≡ false) where
  abbrev stable : ℕ
  stable = held_of holds.begun

  abbrev stays : Message → Type 0
  stays = stays_below sum size site device fault bytes from bs rs H pre s post holds

  abbrev parts : HoldAround sum size device fault (site.place + size) pre s post stays H.batches holds.later
  parts = held_around sum size site device fault bytes from bs rs H pre s post holds

  -- where that segment begins
  abbrev begins : ℕ
  begins = behind_place size (site.place + size) pre

  abbrev here : HoldsNext sum size device fault begins s stays H.batches parts.own
  here = held_here sum size site device fault bytes from bs rs H pre s post holds

  abbrev own_history : History
  own_history = record { messages = parts.own; batches = H.batches }

  -- the message
  abbrev m : Message
  m = message_in s.site s.bytes r

  abbrev completed : List ℕ
  completed = written s.bytes r.from (completing r)

  -- what the segment holds then
  pub done_here : (H' : History) × AddsMessage own_history m H' × ((stays' : Message → Type 0) → ((x : Message) → x.place < s.site.place → stays' x → stays x)
      → HoldsSegment sum (log_parts size s.site device fault completed s.written_len (one_ended i s.sealed) (set s.reserved i (ended Completed r))) stays' H')
  done_here = segment-complete sum size s.site device fault s.bytes s.written_len s.sealed s.reserved i r own_history here.segment there is_open here.behind here.are none

  -- it lies in its segment,
  low : begins ≤ m.place
  low =
      let far = behind_written sum size s.site device fault s.bytes s.written_len s.sealed s.reserved i r own_history here.segment there in
      let next = here.next in
      omega (arith, far, next)

  -- behind its header,
  behind_header : begins + 20 ≤ m.place
  behind_header =
      let far = behind_head sum size s.site device fault s.bytes s.written_len s.sealed s.reserved i r own_history here.segment there in
      let next = here.next in
      omega (arith, far, next)

  high : m.place < begins + size
  high =
      let near = ends_within sum size s.site device fault s.bytes s.written_len s.sealed s.reserved i r own_history here.segment there is_open in
      let next = here.next in
      let inside = here.inside in
      omega (arith, near, next, inside)

  -- behind the segments before it
  front_below : (site.place + size ≤ begins) × All (λ x. x.place < begins) parts.before
  front_below = behind_below sum size device fault (site.place + size) pre stays H.batches parts.before parts.front

  -- and so behind what was written of the first one
  pub above_written : site.place + from ≤ m.place
  above_written =
      let first = grows sum size site device fault bytes from bs rs (record { messages = holds.head; batches = H.batches }) holds.own in
      let up = front_below.0 in
      let at = low in
      omega (arith, first, short, up, at)

  past : stable ≤ m.place
  past = let reached = held_reached marks.ordered holds.begun in let at = above_written in omega (arith, at, reached)

  -- all that is held then
  abbrev pub completed_history : History
  completed_history = record { messages = holds.head ++ (parts.before ++ (done_here.0.messages ++ parts.after)); batches = done_here.0.batches }

  lower : (x : Message) → Contains (holds.head ++ (parts.before ++ done_here.1.before)) x → x.place < m.place
  lower x among = elim (Contains-append_cases holds.head (parts.before ++ done_here.1.before) x among) [
    | inl first ↦ (
        let b = All-contains (λ (y : Message). (y.place < site.place + length bytes) × (y.place + y.size ≤ site.place + length bytes)) holds.head x
        (all_below sum size site device fault bytes from bs rs (record { messages = holds.head; batches = H.batches }) holds.own) first in
        let up = front_below.0 in
        let at = low in
        omega (arith, b.0, short, up, at))
    | inr behind ↦ elim (Contains-append_cases parts.before done_here.1.before x behind) [
      | inl earlier ↦ (let b = All-contains (λ (y : Message). y.place < begins) parts.before x front_below.1 earlier in let at = low in omega (arith, b, at))
      | inr mine ↦ done_here.1.lower x mine
    ]
  ]

  higher : (x : Message) → Contains (done_here.1.after ++ parts.after) x → m.place < x.place
  higher x among = elim (Contains-append_cases done_here.1.after parts.after x among) [
    | inl mine ↦ done_here.1.higher x mine
    | inr later ↦ (
        let far = All-contains (λ (y : Message). begins + size ≤ y.place) parts.after x (behind_above sum size device fault (begins + size) post stays H.batches parts.after parts.rest) later in
        let near = high in
        omega (arith, far, near))
  ]

  -- The message is added there.
  pub adds_here : AddsMessage H m completed_history
  adds_here = record {
    changes = done_here.1.changes;
    before = holds.head ++ (parts.before ++ done_here.1.before);
    after = done_here.1.after ++ parts.after;
    old = holds.messages ∙ ap (λ (l : List Message). holds.head ++ l) (parts.messages ∙ ap (λ (l : List Message). parts.before ++ l) (ap (λ (l : List Message). l ++ parts.after) done_here.1.old ∙ append_assoc done_here.1.before done_here.1.after parts.after))
        ∙ four holds.head parts.before done_here.1.before (done_here.1.after ++ parts.after);
    new = ap (λ (l : List Message). holds.head ++ (parts.before ++ l)) (ap (λ (l : List Message). l ++ parts.after) done_here.1.new ∙ append_assoc done_here.1.before (m ∷ done_here.1.after) parts.after)
        ∙ four holds.head parts.before done_here.1.before (m ∷ (done_here.1.after ++ parts.after));
    lower = lower;
    higher = higher;
    batches = done_here.1.batches;
  }

  -- what stays of the segments before the first one is the same
  stayed : (x : Message) → StaysBelow completed_history stable site.place x → stays x
  stayed x its = let at = above_written in let under = its.1 in (stays_adds H completed_history m adds_here stable past x (omega (arith, at, under)) its.0, its.1)

  -- each of the segment's messages is one that it had, or this one
  all_still : (P : Message → Type 0) → All P parts.own → P m → All P done_here.0.messages
  all_still P had mine = all_from_in P done_here.0.messages (λ x among. elim (was_or_added own_history done_here.0 m done_here.1 x among) [
    | inl was ↦ All-contains P parts.own x had was
    | inr same ↦ subst P same mine
  ])

  -- What the segment holds, and all behind the first one.
  next_completed : HoldsNext sum size device fault begins (now_with s completed s.written_len (one_ended i s.sealed) (set s.reserved i (ended Completed r))) (StaysBelow completed_history stable site.place) done_here.0.batches done_here.0.messages
  next_completed =
      let inside = here.inside in
      let held = here.held in
      let behind = here.behind in
      let long : length completed ≡ length s.bytes = ended_long sum size device fault s own_history here.segment i r there is_open r.sum r.kind in
      record {
        next = here.next;
        inside = omega (arith, inside, long);
        are = ended_are sum size device fault s own_history here.segment i r there is_open Completed refl here.are;
        held = omega (arith, held, long, end_ended s.written_len i s.sealed);
        behind = omega (arith, behind, long);
        segment = done_here.2 (StaysBelow completed_history stable site.place) (λ x under its. stayed x its);
        above = all_still (λ x. begins + 20 ≤ x.place) here.above behind_header;
      }

  pub behind_completed : HoldBehind sum size device fault (site.place + size) (pre ++ now_with s completed s.written_len (one_ended i s.sealed) (set s.reserved i (ended Completed r)) ∷ post) (StaysBelow completed_history stable site.place) done_here.0.batches
      (parts.before ++ (done_here.0.messages ++ parts.after))
  behind_completed =
      let stays' : Message → Type 0 = StaysBelow completed_history stable site.place in
      together sum size device fault (site.place + size) pre (now_with s completed s.written_len (one_ended i s.sealed) (set s.reserved i (ended Completed r))) post stays' done_here.0.batches parts.before done_here.0.messages parts.after
      (subst (λ (b : List Batch). HoldBehind sum size device fault (site.place + size) pre stays' b parts.before) (sym done_here.1.batches)
      (behind_fewer sum size device fault (site.place + size) pre stays stays' H.batches parts.before stayed parts.front))
      next_completed
      (subst (λ (b : List Batch). HoldBehind sum size device fault (begins + size) post stays' b parts.after) (sym done_here.1.batches)
      (behind_fewer sum size device fault (begins + size) post stays stays' H.batches parts.after stayed parts.rest))

  -- What the first segment holds it holds still.
  pub first_completed : HoldsSegment sum (log_parts size site device fault bytes from bs rs) (StaysFrom completed_history stable) (record { messages = holds.head; batches = done_here.0.batches })
  first_completed =
      subst (λ (b : List Batch). HoldsSegment sum (log_parts size site device fault bytes from bs rs) (StaysFrom completed_history stable) (record { messages = holds.head; batches = b })) (sym done_here.1.batches)
      (segment-fewer sum size site device fault bytes from bs rs (record { messages = holds.head; batches = H.batches }) (StaysFrom H stable) (StaysFrom completed_history stable)
      (λ x under its. let at = above_written in stays_adds H completed_history m adds_here stable past x (omega (arith, at, under)) its) holds.own)

  -- The log holds the history with the message, begun from the same snapshot.
  abbrev pub behind-complete : HoldsIn sum marks (log_parts size site device fault bytes from bs rs) (pre ++ now_with s completed s.written_len (one_ended i s.sealed) (set s.reserved i (ended Completed r)) ∷ post) completed_history
  behind-complete = record {
    begun = begun-adds H completed_history m adds_here sum size device.snapshots.file site from above_written holds.begun;
    head = holds.head;
    later = parts.before ++ (done_here.0.messages ++ parts.after);
    messages = refl;
    own = first_completed;
    others = behind_completed;
    apart = apart_with pre s post site completed s.written_len (one_ended i s.sealed) (set s.reserved i (ended Completed r)) holds.apart;
    marked = marks_same sum (site.place + from) pre s (now_with s completed s.written_len (one_ended i s.sealed) (set s.reserved i (ended Completed r))) post refl
        (λ first. (first, ended_head sum size device fault s own_history here.segment i r there is_open r.sum r.kind)) holds.marked;
  }
