-- Where the messages lie of a history that a log holds over several segments: those of the first one and before it, below those of each one behind it.
use Rattle.std.proofs.Common.{◌<◌, ◌⊎◌, ◌≤◌, ◌+◌, ℕ, List, [], ◌∷◌, length, Option, sym, ap, subst, arith, inl, inr}
use Rattle.std.specs.List.{All, Contains}
use Rattle.std.specs.declared.io.Error.{Error as IoError}
use Rattle.std.proofs.lemmas.List.Elements.{All-append, All-contains, Contains-append_cases, Contains-append_left}
use Rattle.sled_codec.specs.History.{Message, Batch, History}
use Rattle.sled_codec.specs.WellFormed.{LieApart}
use Rattle.sled_store.specs.Device.{State}
use Rattle.sled_store.proofs.Histories.Ascending.{Ascends, apart_ascends}
use Rattle.sled_core.specs.declared.iobuf.Reserved.{Reserved}
use Rattle.sled_core.specs.declared.iobuf.Sealed.{Sealed}
use Rattle.sled_core.specs.declared.iobuf.SegmentPosition.{SegmentPosition}
use Rattle.sled_core.specs.Begun.{SegmentParts}
use Rattle.sled_core.specs.declared.logger.joined_marks.JoinedMarks.{JoinedMarks}
use Rattle.sled_core.specs.inside.Fits.{HoldBehind, HoldsIn, log_parts}
use Rattle.sled_core.proofs.Flush.Completed.{all_apart, all_below, apart_both}
use Rattle.sled_core.proofs.Reached.BufferPath.{HasOnly}

-- The messages of segments behind a place lie at or above it,
pub behind_above : (sum : List ℕ → ℕ) (size : ℕ) (device : State) (fault : Option IoError) (place : ℕ) (ss : List SegmentParts) (stays : Message → Type 0) (batches : List Batch) (ms : List Message)
    → HoldBehind sum size device fault place ss stays batches ms → All (λ m. place ≤ m.place) ms
behind_above sum size device fault place [] stays batches ms is = λ k d lt. absurd (omega (arith, ap length is, lt))
behind_above sum size device fault place (s ∷ ss) stays batches ms (own, later, all, here, rest) =
    let far = behind_above sum size device fault (place + size) ss stays batches later rest in
    subst (All (λ (m : Message). place ≤ m.place)) (sym all) (All-append (λ (m : Message). place ≤ m.place) own later (λ k d lt. let a = here.above k d lt in omega (arith, a)) (λ k d lt. let b = far k d lt in omega (arith, b)))

-- and lie one behind another.
pub behind_apart : (sum : List ℕ → ℕ) (size : ℕ) (device : State) (fault : Option IoError) (place : ℕ) (ss : List SegmentParts) (stays : Message → Type 0) (batches : List Batch) (ms : List Message)
    → HoldBehind sum size device fault place ss stays batches ms → LieApart ms
behind_apart sum size device fault place [] stays batches ms is = subst LieApart (sym is) tt
behind_apart sum size device fault place (s ∷ ss) stays batches ms (own, later, all, here, rest) =
    let H : History = record { messages = own; batches = batches } in
    let next = here.next in
    let inside = here.inside in
    let below = all_below sum size s.site device fault s.bytes s.written_len s.sealed s.reserved H here.segment in
    subst LieApart (sym all) (apart_both (place + size) own later (all_apart sum size s.site device fault s.bytes s.written_len s.sealed s.reserved H here.segment)
    (behind_apart sum size device fault (place + size) ss stays batches later rest) (λ k d lt. let b = below k d lt in omega (arith, b.1, next, inside))
    (behind_above sum size device fault (place + size) ss stays batches later rest))

module _ (sum : List ℕ → ℕ) (size : ℕ) (site : SegmentPosition) (device : State) (fault : Option IoError) (bytes : List ℕ) (from : ℕ) (bs : List Sealed) (rs : List Reserved) (H : History)
    {behind : List SegmentParts} {marks : JoinedMarks} (holds : HoldsIn sum marks (log_parts size site device fault bytes from bs rs) behind H) where
  -- what the first segment holds
  abbrev pub of_first : History
  of_first = record { messages = holds.head; batches = H.batches }

  -- a message is of the first segment, or of one before it, or of one behind it
  pub which_part : (m : Message) → Contains H.messages m → Contains holds.head m ⊎ Contains holds.later m
  which_part m there = Contains-append_cases holds.head holds.later m (subst (λ (ms : List Message). Contains ms m) holds.messages there)

  pub later_above : All (λ m. site.place + size ≤ m.place) holds.later
  later_above = behind_above sum size device fault (site.place + size) behind _ H.batches holds.later holds.others

  -- one below the end of the first segment is none of those behind it
  pub of_head : (m : Message) → Contains H.messages m → m.place < site.place + size → Contains holds.head m
  of_head m there low = elim (which_part m there) [
    | inl head ↦ head
    | inr later ↦ absurd (let far = All-contains (λ (x : Message). site.place + size ≤ x.place) holds.later m later_above later in omega (arith, far, low))
  ]

  -- All messages lie one behind another.
  pub whole_apart : length bytes ≤ size → LieApart H.messages
  whole_apart inside =
      let below = all_below sum size site device fault bytes from bs rs of_first holds.own in
      subst LieApart (sym holds.messages) (apart_both (site.place + size) holds.head holds.later (all_apart sum size site device fault bytes from bs rs of_first holds.own)
      (behind_apart sum size device fault (site.place + size) behind _ H.batches holds.later holds.others) (λ k d lt. let b = below k d lt in omega (arith, b.1, inside)) later_above)

  pub whole_ascends : length bytes ≤ size → Ascends H.messages
  whole_ascends inside = apart_ascends H.messages (whole_apart inside)

  -- What is all of the first segment's that begins in a part of it is all that does.
  pub whole_only : (ms : List Message) (batches : List Batch) (low high : ℕ) → high ≤ site.place + size → HasOnly of_first ms batches low high → HasOnly H ms batches low high
  whole_only ms batches low high end only = record {
    there = λ m its. subst (λ (l : List Message). Contains l m) (sym holds.messages) (Contains-append_left holds.head holds.later m (only.there m its));
    only = λ m there. elim (which_part m there) [
      | inl first ↦ only.only m first
      | inr later ↦ inr (inr (let far = All-contains (λ (x : Message). site.place + size ≤ x.place) holds.later m later_above later in omega (arith, end, far)))
    ];
    noted = only.noted;
    begun = only.begun;
  }
