-- A place is reserved in the segment that is being filled: its placeholder stands behind what is there, and the log holds and fits what it did.
use Rattle.std.proofs.Common.{◌≡◌, ◌∙◌, ◌<◌, ◌≤◌, ◌+◌, ◌-◌, ◌/◌, ap, sym, refl, arith, subst, inl, inr, ℕ, List, [], ◌∷◌, ◌++◌, length, length-append, length-take, take, drop, Option, Some, if◌then◌else◌}
use Rattle.std.specs.List.{All, slice_get}
use Rattle.std.specs.declared.io.Error.{Error as IoError}
use Rattle.std.proofs.lemmas.List.{drop-append-le, take-append-le}
use Rattle.sled_codec.specs.History.{History, Message}
use Rattle.sled_store.specs.Device.{State}
use Rattle.sled_store.specs.SegmentStates.{Machine}
use Rattle.sled_core.specs.inside.Begun.{AreFilled}
use Rattle.sled_core.specs.Begun.{SegmentParts, SegmentView, begin_of}
use Rattle.sled_core.specs.inside.Buffers.{HasText, IsHeaded}
use Rattle.sled_core.specs.Buffers.{message_in, item_as}
use Rattle.sled_core.specs.declared.iobuf.Reserved.{Reserved}
use Rattle.sled_core.specs.declared.iobuf.ReservationState.TheVariants.{Open}
use Rattle.sled_core.specs.declared.iobuf.Sealed.{Sealed}
use Rattle.sled_core.specs.declared.iobuf.SegmentPosition.{SegmentPosition}
use Rattle.sled_core.specs.declared.reservation.Reservation.{Reservation}
use Rattle.sled_core.specs.Fits.{AwaitsIn}
use Rattle.sled_core.specs.inside.Fits.{HoldsLine}
use Rattle.sled_core.specs.inside.FreeSlots.{HasSlot, HasSlots, HaveOwn}
use Rattle.sled_core.specs.inside.Running.{FitsLine}
use Rattle.sled_core.specs.inside.SealedBuffers.{AreSealed}
use Rattle.sled_core.specs.Tickets.{IsFor, index_of}
use Rattle.sled_core.specs.inside.Turned.{reserved_now}
use Rattle.sled_core.specs.Waiting.{at_last, buffer_at, last_of, unwritten_in}
use Rattle.sled_core.proofs.Holds.HoldsLemmas.{body-append}
use Rattle.sled_core.proofs.Line.Entered.{behind_filling, used_up}
use Rattle.sled_core.proofs.Line.Segments.{AreSegments}
use Rattle.sled_core.proofs.Reserve.BeginBelow.{entered_more, entered_up}
use Rattle.sled_core.proofs.Reserve.RecordEnds.{records_open}
use Rattle.sled_core.proofs.Line.LineEnds.{end_at_last}
use Rattle.sled_core.proofs.Line.OneChanged.{last_fits, last_holds}
use Rattle.sled_core.proofs.Line.SegmentKeeps.{KeepsAllHeld, segment_reserves}
use Rattle.sled_core.proofs.Line.Last.{All-at_last, last_get_of}
use Rattle.sled_core.proofs.Reserve.Ranges.{at_there}
use Rattle.sled_core.proofs.Reserve.ReserveLemmas.{there_append, there_last}
use Rattle.sled_core.proofs.Sealed.LaidLemmas.{EndsRise, ends_below}
use Rattle.sled_core.specs.HeaderMark.{mark_at}
use Rattle.sled_core.specs.declared.logger.joined_marks.JoinedMarks.{JoinedMarks}

-- A reservation with these bytes has a place behind what is there in a segment of this size.
pub record HasPlaceFor (sum : List ℕ → ℕ) (size : ℕ) (more : List ℕ) (r : Reserved) (v : SegmentView) : Type 0 where
  pub begun : 20 ≤ length v.parts.bytes
  pub written : v.parts.written_len ≤ length v.parts.bytes
  pub begins : begin_of v ≤ length v.parts.bytes
  pub are : AreSealed v.parts.written_len v.parts.reserved v.parts.sealed
  pub within : All (λ x. x.from + x.len ≤ length v.parts.bytes) v.parts.reserved
  pub headed : All IsHeaded v.parts.reserved
  pub at : r.from ≡ length v.parts.bytes
  pub long : r.len ≡ length more
  pub some : 0 < length more
  pub open_yet : r.state ≡ Open
  pub room : r.from + 32 ≤ size
  pub text : HasText sum (v.parts.site.place / size) (v.parts.bytes ++ more) r
  pub inside : length (v.parts.bytes ++ more) ≤ size

module _ (sum : List ℕ → ℕ) (size : ℕ) (more : List ℕ) (r : Reserved) where
  abbrev now : SegmentView → SegmentView
  now = reserved_now more r

  -- It is reserved in the last one: that holds what it held with it.
  its_place : (device : State) (fault : Option IoError) (v : SegmentView) → HasPlaceFor sum size more r v
      → KeepsAllHeld sum size device fault v.parts (v.parts.bytes ++ more) v.parts.sealed (v.parts.reserved ++ r ∷ [])
  its_place device fault v its = segment_reserves sum size device fault v.parts more r its.begun its.written its.begins its.are its.within its.at its.long its.open_yet its.room its.text its.inside

  module _ (device : State) (fault : Option IoError) where
    -- What segments hold they hold then,
    pub line_reserved : (marks : JoinedMarks) (H : History) (v : SegmentView) (vs : List SegmentView) → HasPlaceFor sum size more r (last_of v vs) → HoldsLine sum marks size device fault (v ∷ vs) H → HoldsLine sum marks size device fault (at_last now (v ∷ vs)) H
    line_reserved marks H v vs its =
        let s : SegmentParts = (last_of v vs).parts in
        last_holds sum size device fault marks v vs (s.bytes ++ more) s.filled s.sealed (s.reserved ++ r ∷ []) now refl (its_place device fault (last_of v vs) its) H

    -- and what they fit they fit.
    pub line_fits_reserved : (marks : JoinedMarks) (reach pins : ℕ) (H : History) (A f : ℕ) (U : List Message) (v : SegmentView) (vs : List SegmentView) → HasPlaceFor sum size more r (last_of v vs) → FitsLine sum marks size device fault (v ∷ vs) reach pins H A f U
        → FitsLine sum marks size device fault (at_last now (v ∷ vs)) reach pins H A f U
    line_fits_reserved marks reach pins H A f U v vs its =
        let s : SegmentParts = (last_of v vs).parts in
        last_fits sum size device fault marks v vs (s.bytes ++ more) s.filled s.sealed (s.reserved ++ r ∷ []) now refl (its_place device fault (last_of v vs) its) (inl refl) reach pins H A f U

  -- Their slots are the same.
  pub slots_reserved : (line : List SegmentView) (log : List ℕ) (fault : Option IoError) (m : Machine) → HasSlots size line log fault m → HasSlots size (at_last now line) log fault m
  slots_reserved line log fault m slots = record {
    taken = All-at_last (HasSlot size m) now (λ v here. record { number = here.number; lies = here.lies; taken = here.taken; is = here.is }) line slots.taken;
    zeros = slots.zeros;
    own = subst (λ n. HaveOwn size n m) (sym (end_at_last size now (λ _. refl) line)) slots.own;
  }

  -- Tickets are for what they were for,
  pub awaits_reserved : (v : SegmentView) (vs : List SegmentView) → HasPlaceFor sum size more r (last_of v vs) → (ticket : Reservation) (m : Message) → AwaitsIn (v ∷ vs) ticket m → AwaitsIn (at_last now (v ∷ vs)) ticket m
  awaits_reserved v vs its ticket m awaits = elim (last_get_of now v vs awaits.number awaits.segment awaits.among) [
    | inl still ↦ record { number = awaits.number; segment = awaits.segment; among = still; reserved = awaits.reserved; numbered = awaits.numbered; there = awaits.there; own = awaits.own; message = awaits.message }
    | inr changed ↦ (
        let s : SegmentView = awaits.segment in
        let here : HasPlaceFor sum size more r s = subst (HasPlaceFor sum size more r) (sym changed.0) its in
        let i : ℕ = index_of ticket - s.gone in
        let within = at_there (λ x. x.from + x.len ≤ length s.parts.bytes) s.parts.reserved i awaits.reserved awaits.there here.within in
        let headed = (at_there IsHeaded s.parts.reserved i awaits.reserved awaits.there here.headed).1 awaits.own.open_yet in
        record {
          number = awaits.number;
          segment = now s;
          among = changed.1;
          reserved = awaits.reserved;
          numbered = awaits.numbered;
          there = there_append s.parts.reserved (r ∷ []) i awaits.reserved awaits.there;
          own = awaits.own;
          message = awaits.message ∙ ap (λ (l : List ℕ). record (message_in s.parts.site s.parts.bytes awaits.reserved) { bytes = item_as awaits.reserved.blob l }) (sym (body-append s.parts.bytes more awaits.reserved within headed.1));
        })
  ]

  -- and the new one is for the message that stands there.
  last_there : (f : SegmentView → SegmentView) (v : SegmentView) (vs : List SegmentView) → slice_get (at_last f (v ∷ vs)) (length vs) ≡ Some (f (last_of v vs))
  last_there f v [] = refl
  last_there f v (x ∷ xs) = last_there f x xs

  pub ticket_reserved : (v : SegmentView) (vs : List SegmentView) (ticket : Reservation) → index_of ticket ≡ (last_of v vs).gone + length (last_of v vs).parts.reserved → IsFor (last_of v vs).parts.site r ticket
      → AwaitsIn (at_last now (v ∷ vs)) ticket (message_in (last_of v vs).parts.site ((last_of v vs).parts.bytes ++ more) r)
  ticket_reserved v vs ticket index own =
      let s : SegmentView = last_of v vs in
      record {
        number = length vs;
        segment = now s;
        among = last_there now v vs;
        reserved = r;
        numbered = omega (arith, index);
        there = ap (slice_get (s.parts.reserved ++ r ∷ [])) (let at : index_of ticket - s.gone ≡ length s.parts.reserved = omega (arith, index) in at) ∙ there_last s.parts.reserved r;
        own = own;
        message = refl;
      }

  -- The buffers that aren't written are the same.
  unwritten_more : (site : SegmentPosition) (bytes : List ℕ) (from : ℕ) (bs : List Sealed) (rs : List Reserved) → AreSealed from rs bs → EndsRise from bs (length bytes) → unwritten_in site (bytes ++ more) from bs (rs ++ r ∷ []) ≡ unwritten_in site bytes from bs rs
  unwritten_more site bytes from [] rs are rise = refl
  unwritten_more site bytes from (b ∷ bs) rs are rise =
      let count = are.0.counted in
      let within : b.count ≤ length rs = omega (arith, count, length-take b.count rs) in
      let end : b.end ≤ length bytes = (let e = ends_below b.end bs (length bytes) rise.1 in omega (arith, e.0, e.1)) in
      let rest : unwritten_in site (bytes ++ more) b.end bs (drop b.count (rs ++ r ∷ [])) ≡ unwritten_in site bytes b.end bs (drop b.count rs) =
      ap (unwritten_in site (bytes ++ more) b.end bs) (drop-append-le b.count rs (r ∷ []) within) ∙ unwritten_more site bytes b.end bs (drop b.count rs) are.1 rise.1 in
      let here : buffer_at site (bytes ++ more) from b.end (take b.count (rs ++ r ∷ [])) ≡ buffer_at site bytes from b.end (take b.count rs) =
      ap (λ (l : List Reserved). buffer_at site (bytes ++ more) from b.end l) (take-append-le b.count rs (r ∷ []) within)
      ∙ ap (λ (l : List ℕ). record (buffer_at site bytes from b.end (take b.count rs)) { bytes = drop from l; mark = mark_at from (drop from l) }) (take-append-le b.end bytes more end) in
      λ i. if b.is_written then rest i else here i ∷ rest i

  -- All begins below the end of the new record.
  pub filled_reserved : (to to' place : ℕ) (v : SegmentView) (vs : List SegmentView) → AreSegments size place (v ∷ vs) → r.state ≡ Open → r.from ≡ length (last_of v vs).parts.bytes → 0 < length more
      → to' ≡ (last_of v vs).parts.site.place + length (last_of v vs).parts.bytes + length more → AreFilled size to (v ∷ vs) → (to ≤ to') × AreFilled size to' (at_last now (v ∷ vs))
  filled_reserved to to' place v [] are is_open begins some is filled =
      let up : to ≤ to' = (let old = filled.1 in omega (arith, old, is)) in
      let facts = are.0 in
      let long = length-append v.parts.bytes more in (
        up,
        (
          filled.0,
          omega (arith, is, long),
          entered_more to' v.parts.site.place v.parts.reserved r (entered_up to to' v.parts.site.place v.parts.reserved up filled.2) (λ _. omega (arith, begins, is, some)),
          filled.3,
          records_open v.parts.reserved r (length v.parts.bytes) (length (v.parts.bytes ++ more)) (λ k d lt. let inside = facts.within k d lt in let byte = (facts.headed k d lt).0 in omega (arith, inside, byte)) filled.4 is_open,
          λ used. omega (arith, used, is, long),
        ),
      )
  filled_reserved to to' place v (w ∷ []) are is_open begins some is filled =
      let rest = filled_reserved to to' (place + size) w [] are.1 is_open begins some is filled.2 in
      (rest.0, (filled.0, entered_up to to' v.parts.site.place v.parts.reserved rest.0 filled.1, rest.1, filled.3, behind_filling size to' place v w [] are (omega (arith, is, some)), used_up to to' v rest.0 filled.5))
  filled_reserved to to' place v (w ∷ x ∷ xs) are is_open begins some is filled =
      let rest = filled_reserved to to' (place + size) w (x ∷ xs) are.1 is_open begins some is filled.2 in
      (rest.0, (filled.0, entered_up to to' v.parts.site.place v.parts.reserved rest.0 filled.1, rest.1, filled.3, behind_filling size to' place v w (x ∷ xs) are (omega (arith, is, some)), used_up to to' v rest.0 filled.5))
