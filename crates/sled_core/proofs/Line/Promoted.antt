-- The first segment of a log is wholly on the device: the next one becomes the first, and the log holds what it held.
use Rattle.std.proofs.Common.{◌≡◌, ◌≢◌, ◌⊎◌, ◌∙◌, ◌≤◌, ◌<◌, ◌+◌, ◌%◌, ℕ, max, List, [], ◌∷◌, ◌++◌, length, map, Option, None, sym, ap, subst, arith, append_assoc, inl, inr}
use Rattle.std.specs.List.{All, Contains}
use Rattle.std.specs.declared.io.Error.{Error as IoError}
use Rattle.std.proofs.lemmas.Bool.{cases_lt}
use Rattle.std.proofs.lemmas.List.{append-nil}
use Rattle.std.proofs.lemmas.List.Elements.{All-contains, Contains-append_cases}
use Rattle.sled_codec.specs.declared.result.DiskPtr.TheVariants.{Inline}
use Rattle.sled_codec.specs.History.{History, Message}
use Rattle.sled_store.specs.Device.{State}
use Rattle.sled_store.proofs.Segments.Elements.{in_first, in_rest}
use Rattle.sled_core.specs.declared.iobuf.Reserved.{Reserved}
use Rattle.sled_core.specs.declared.iobuf.Sealed.{Sealed}
use Rattle.sled_core.specs.declared.iobuf.SegmentPosition.{SegmentPosition}
use Rattle.sled_core.specs.inside.Buffers.{IsChain, completed_in}
use Rattle.sled_core.specs.Begun.{SegmentParts}
use Rattle.sled_core.specs.Fits.{EndBelow, IsBegunFrom, held_of}
use Rattle.sled_core.specs.inside.Fits.{HoldBehind, HoldsIn, HoldsNext, HoldsSegment, begun_segment, log_parts}
use Rattle.sled_core.specs.LogFile.{IsLogFile, StandsElsewhere, StaysFrom}
use Rattle.sled_core.specs.declared.logger.joined_marks.JoinedMarks.{JoinedMarks}
use Rattle.sled_core.specs.inside.LogFile.{StaysBelow}
use Rattle.sled_core.specs.inside.Reached.{BegunSegment}
use Rattle.sled_core.proofs.Line.Stays.{behind_stays, elsewhere_of, segment-earlier, segment-stays, stays_among}
use Rattle.sled_core.proofs.Flush.Completed.{all_apart, all_below}
use Rattle.sled_core.proofs.Flush.FlushLemmas.{on_file}
use Rattle.sled_core.proofs.Holds.WholeHistory.{behind_above}
use Rattle.sled_core.proofs.Reached.Marks.{less_than}
use Rattle.sled_core.proofs.Reached.SegmentsBeside.{follows}
use Rattle.std.proofs.lemmas.Int.{ints}

module _ (sum : List ℕ → ℕ) (size : ℕ) (site : SegmentPosition) (device : State) (fault : Option IoError) (bytes : List ℕ) (from : ℕ) (bs : List Sealed) (rs : List Reserved) (H : History)
    (s : SegmentParts) (ss : List SegmentParts) {marks : JoinedMarks} (holds : HoldsIn sum marks (log_parts size site device fault bytes from bs rs) (s ∷ ss) H) (big : 256 ≤ size) (full : from ≡ size) (none_left : rs ≡ []) where
  abbrev stable : ℕ
  stable = held_of holds.begun

  abbrev first : History
  first = record { messages = holds.head; batches = H.batches }

  -- the messages of the next segment, and what it holds
  abbrev own : List Message
  own = holds.others.0

  abbrev later : List Message
  later = holds.others.1

  abbrev here : HoldsNext sum size device fault (site.place + size) s (StaysBelow H stable site.place) H.batches own
  here = holds.others.3

  -- the first one has no more bytes
  long : length bytes ≡ size
  long =
      let chain : IsChain (max 20 from) [] (length bytes) = subst (λ (l : List Reserved). IsChain (max 20 from) l (length bytes)) none_left holds.own.records.chain in
      omega (arith, chain, full, big)

  first_below : EndBelow (site.place + length bytes) holds.head
  first_below = all_below sum size site device fault bytes from bs rs first holds.own

  -- its messages were all written
  all_written : (m : Message) → Contains holds.head m → Contains holds.own.records.earlier m
  all_written m among =
      let all : holds.head ≡ holds.own.records.earlier = holds.own.records.messages ∙ ap (λ (l : List Reserved). holds.own.records.earlier ++ completed_in site bytes l) none_left ∙ append-nil holds.own.records.earlier in
      subst (λ (l : List Message). Contains l m) all among

  -- One that stays and lies below the next segment stays as before, or is one of the first segment's, and stands in its slot.
  stays_or_stands : (other : SegmentPosition) → other.slot % size ≡ 0 → other.slot ≢ site.slot → fault ≡ None → (m : Message) → StaysFrom H stable m → m.place < s.site.place → (lid : ℕ) → m.pointer ≡ Inline lid
      → StaysBelow H stable site.place m ⊎ StandsElsewhere sum size device.log.bytes other lid m
  stays_or_stands other aligned apart whole m its low lid inline = elim (cases_lt m.place site.place) [
    | inl under ↦ inl (its, under)
    | inr over ↦ inr (
        let next = here.next in
        let among : Contains (holds.head ++ holds.later) m = subst (λ (l : List Message). Contains l m) holds.messages (stays_among H stable m its) in
        elim (Contains-append_cases holds.head holds.later m among) [
          | inl mine ↦ (
              let file : IsLogFile sum size device.log.bytes site from holds.own.records.earlier (StaysFrom H stable) = on_file sum size device.log site from holds.own.records.earlier (StaysFrom H stable) (holds.own.written whole) in
              elsewhere_of sum size (omega (arith, big)) device.log.bytes site other holds.own.records.slot_begins aligned apart from lid m (omega (arith, full)) (file.own m (all_written m mine) over lid inline))
          | inr behind ↦ (
              let far = All-contains (λ (x : Message). site.place + size ≤ x.place) holds.later m (behind_above sum size device fault (site.place + size) (s ∷ ss) (StaysBelow H stable site.place) H.batches holds.later holds.others) behind in
              absurd (omega (arith, far, low, next)))
        ])
  ]

  -- the slots of those behind the first one are others
  other_slot : (y : BegunSegment) → Contains (map begun_segment (s ∷ ss)) y → y.site.slot ≢ site.slot
  other_slot y among = (follows site (map begun_segment (s ∷ ss)) holds.apart y among).1

  -- What the next segment holds, with all before it,
  pub promoted_own : HoldsSegment sum (log_parts size s.site device fault s.bytes s.written_len s.sealed s.reserved) (StaysFrom H stable) (record { messages = holds.head ++ own; batches = H.batches })
  promoted_own =
      let next = here.next in
      let whole = long in
      let over : All (λ m. s.site.place ≤ m.place) own = λ k d lt. let b = here.above k d lt in omega (arith, b, next) in
      let below : EndBelow s.site.place holds.head = λ k d lt. let b = first_below k d lt in (omega (arith, b.0, next, whole), omega (arith, b.1, next, whole)) in
      segment-earlier sum size s.site device fault s.bytes s.written_len s.sealed s.reserved holds.head own H.batches below (all_apart sum size site device fault bytes from bs rs first holds.own) over
      (segment-stays sum size s.site device fault s.bytes s.written_len s.sealed s.reserved (record { messages = own; batches = H.batches }) (StaysBelow H stable site.place) (StaysFrom H stable)
      (λ none m its low lid inline. stays_or_stands s.site here.segment.records.slot_begins (other_slot (begun_segment s) (in_first (begun_segment s) (map begun_segment ss))) none m its low lid inline) here.segment)

  -- and those behind it, beside the messages of the first one.
  pub promoted_others : HoldBehind sum size device fault (s.site.place + size) ss (StaysBelow H stable s.site.place) H.batches later
  promoted_others =
      behind_stays sum size device fault (s.site.place + size) ss (StaysBelow H stable site.place) (StaysBelow H stable s.site.place) H.batches later
      (λ y among aligned none m its low lid inline. stays_or_stands y.site aligned (other_slot y (in_rest (begun_segment s) y (map begun_segment ss) among)) none m its.0 its.1 lid inline)
      (subst (λ n. HoldBehind sum size device fault (n + size) ss (StaysBelow H stable site.place) H.batches later) (sym here.next) holds.others.4)

  -- The log was begun from the same snapshot.
  abbrev pub promoted_begun : IsBegunFrom sum marks.joined marks.durable size device.snapshots.file s.site s.written_len H
  promoted_begun = record {
    first = holds.begun.first;
    begins = holds.begun.begins;
    table = holds.begun.table;
    fits = holds.begun.fits;
    least = (let least = holds.begun.least in let next = here.next in omega (arith, least, next));
    reached = (let reached = holds.begun.reached in let next = here.next in omega (arith, reached, next, full));
    joined = holds.begun.joined;
    written = (let written = holds.begun.written in let next = here.next in omega (arith, ints, written, next, full));
    marked = (let marked = holds.begun.marked in let next = here.next in omega (arith, marked, next));
  }

  abbrev pub promoted : HoldsIn sum marks (log_parts size s.site device fault s.bytes s.written_len s.sealed s.reserved) ss H
  promoted = record {
    begun = promoted_begun;
    head = holds.head ++ own;
    later = later;
    messages = holds.messages ∙ ap (λ (l : List Message). holds.head ++ l) holds.others.2 ∙ sym (append_assoc holds.head own later);
    own = promoted_own;
    others = promoted_others;
    apart = holds.apart.1;
    marked = λ x among none mark header. less_than mark (site.place + from) (s.site.place + s.written_len) (let next = here.next in omega (arith, next, full)) (holds.marked x (in_rest s x ss among) none mark header);
  }
