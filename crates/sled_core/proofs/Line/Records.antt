-- The record of a message of the history stands where its pointer says, where its place is on the device, whichever segment it is of, and though a buffer before it may not be.
use Rattle.std.proofs.Common.{◌≡◌, ◌⊎◌, ◌∙◌, ◌≤◌, ◌<◌, ◌+◌, ◌-◌, ◌/◌, ◌%◌, ◌^◌, ◌&&◌, nat_le, nat_lt, ℕ, max, Bool, true, false, if◌then◌else◌, suc, Some, Option, List, [], ◌∷◌, ◌++◌, length, map, take, drop, None, refl, sym, ap, subst, arith, inl, inr, take-append-drop}
use Rattle.std.specs.List.{All, Contains, slice_get}
use Rattle.std.proofs.lemmas.Bool.{cases_lt}
use Rattle.std.proofs.lemmas.Bool.Decides.{nat_tests}
use Rattle.std.proofs.lemmas.List.Elements.{All-contains, All-drop, All-take, Contains-append_cases}
use Rattle.std.proofs.Math.Nat.{div-le_self}
use Rattle.sled_codec.specs.declared.result.DiskPtr.{DiskPtr}
use Rattle.sled_codec.specs.declared.result.DiskPtr.TheVariants.{Inline, Blob}
use Rattle.sled_codec.specs.History.{Batch, Message, History, table}
use Rattle.sled_codec.specs.Places.{MayBegin}
use Rattle.sled_codec.specs.Pointers.{lid_of}
use Rattle.sled_store.specs.Device.{LogState, State}
use Rattle.sled_store.proofs.Histories.EarlierEntries.{entry_earlier}
use Rattle.sled_core.specs.inside.Begun.{AreFilled}
use Rattle.sled_core.specs.Begun.{SegmentView}
use Rattle.sled_core.specs.Fits.{held_of}
use Rattle.sled_core.specs.declared.iobuf.Reserved.{Reserved}
use Rattle.sled_core.specs.declared.iobuf.Sealed.{Sealed}
use Rattle.sled_core.specs.declared.iobuf.SegmentPosition.{SegmentPosition}
use Rattle.sled_core.specs.inside.Buffers.{IsChain, Stands, completed_in}
use Rattle.sled_core.specs.inside.Cleared.{IsWrittenIn, StandWritten}
use Rattle.sled_core.specs.inside.Fits.{HoldBehind, HoldsLine, HoldsSegment, log_parts, parts_in}
use Rattle.sled_core.specs.LogFile.{MessageStands, StandsElsewhere, StandsHere, StaysFrom}
use Rattle.sled_core.specs.inside.LogFile.{StaysBelow}
use Rattle.sled_core.specs.Reading.{IsInline}
use Rattle.sled_core.specs.inside.SealedBuffers.{AreSealed, Agrees}
use Rattle.sled_core.specs.SealedBuffers.{sealed_end}
use Rattle.sled_core.specs.Waiting.{BufferAt, buffer_at, unwritten, unwritten_in, unwritten_of}
use Rattle.sled_core.specs.declared.logger.joined_marks.JoinedMarks.{JoinedMarks}
use Rattle.sled_core.proofs.Flush.Completed.{which}
use Rattle.sled_core.proofs.Holds.ReachLemmas.{completed_behind}
use Rattle.sled_core.proofs.Holds.WholeHistory.{whole_ascends}
use Rattle.sled_core.proofs.Line.Around.{begin_above, found, found_on, or_found}
use Rattle.sled_core.proofs.Line.Lying.{end_of}
use Rattle.sled_core.proofs.Line.Segments.{AreSegments}
use Rattle.sled_core.proofs.Line.StandsThere.{here_there, line_elsewhere}
use Rattle.sled_core.proofs.Reached.BufferStands.{StandsOwn, own_in}
use Rattle.sled_core.proofs.Reserve.Entries.{some_long}
use Rattle.sled_core.proofs.Reserve.Ranges.{completed-append, completed_between}
use Rattle.sled_core.proofs.Sealed.Ended.{chain_rest, ends_rise, ends_up}
use Rattle.sled_core.proofs.Sealed.LaidLemmas.{EndsRise, ends_below}
use Rattle.sled_core.proofs.Sealed.Runs.{end_begun}

-- an inline pointer is one to its offset
pub inline_is : (p : DiskPtr) → IsInline p → p ≡ Inline (lid_of p)
inline_is (Inline lid) is = refl
inline_is (Blob lid place) is = absurd is

-- The record stands at an offset at which one may begin.
pub record IsHeldAt (sum : List ℕ → ℕ) (size : ℕ) (log : List ℕ) (lid : ℕ) (m : Message) : Type 0 where
  pub begins : MayBegin size lid
  pub stands : MessageStands sum size log lid (m.place / size) m

-- The sealed buffer of a segment that has an offset is written.
abbrev written_around : ℕ → List Sealed → Bool
written_around at [] = false
written_around at (b ∷ bs) = if nat_lt at b.end then b.is_written else written_around at bs

-- So it is where none that isn't has it.
around_written : (site : SegmentPosition) (bytes : List ℕ) (off from : ℕ) (bs : List Sealed) (rs : List Reserved) → from ≤ off → off < sealed_end from bs → found (site.place + off) (unwritten_in site bytes from bs rs) ≡ None → written_around off bs ≡ true
around_written site bytes off from [] rs low high none = absurd (omega (arith, low, high))
around_written site bytes off from (b ∷ bs) rs low high none = elim (cases_lt off b.end) [
  | inl here ↦ (let test : nat_lt off b.end ≡ true = grind (arith, nat_tests, here) in ap (λ (o : Bool). if o then b.is_written else written_around off bs) test ∙ by_test here b.is_written refl none)
  | inr later ↦ (let test : nat_lt off b.end ≡ false = grind (arith, nat_tests, later) in ap (λ (o : Bool). if o then b.is_written else written_around off bs) test
      ∙ around_written site bytes off b.end bs (drop b.count rs) later high (by_later later b.is_written none))
]
  where
    rest : List BufferAt
    rest = unwritten_in site bytes b.end bs (drop b.count rs)

    first : BufferAt
    first = buffer_at site bytes from b.end (take b.count rs)

    by_test : off < b.end → (o : Bool) → b.is_written ≡ o → found (site.place + off) (if o then rest else first ∷ rest) ≡ None → o ≡ true
    by_test here true is none = refl
    by_test here false is none =
        let lower : nat_le (site.place + from) (site.place + off) ≡ true = let le : site.place + from ≤ site.place + off = omega (arith, low) in grind (arith, nat_tests, le) in
        let upper : nat_lt (site.place + off) (site.place + b.end) ≡ true = let lt : site.place + off < site.place + b.end = omega (arith, here) in grind (arith, nat_tests, lt) in
        let some : Some first ≡ None = sym (ap (λ (o : Bool). if o && nat_lt (site.place + off) (site.place + b.end) then Some first else found (site.place + off) rest) lower
        ∙ ap (λ (o : Bool). if o then Some first else found (site.place + off) rest) upper) ∙ none in
        cc

    by_later : b.end ≤ off → (o : Bool) → found (site.place + off) (if o then rest else first ∷ rest) ≡ None → found (site.place + off) rest ≡ None
    by_later later true none = none
    by_later later false none =
        let ended : nat_lt (site.place + off) (site.place + b.end) ≡ false = let le : site.place + b.end ≤ site.place + off = omega (arith, later) in grind (arith, nat_tests, le) in
        by_low (nat_le (site.place + from) (site.place + off)) ended none
      where
        by_low : (o : Bool) → nat_lt (site.place + off) (site.place + b.end) ≡ false → (if o && nat_lt (site.place + off) (site.place + b.end) then Some first else found (site.place + off) rest) ≡ None → found (site.place + off) rest ≡ None
        by_low true ended none = sym (ap (λ (p : Bool). if p then Some first else found (site.place + off) rest) ended) ∙ none
        by_low false ended none = none

module _ (sum : List ℕ → ℕ) (size : ℕ) (site : SegmentPosition) (log bytes : List ℕ) (place_begins : site.place % size ≡ 0) (slot_begins : site.slot % size ≡ 0) (place_small : site.place + size < 2 ^ 63) (slot_small : site.slot + size < 2 ^ 63) where
  abbrev number : ℕ
  number = site.place / size

  number_small : site.place / size < 2 ^ 63
  number_small = omega (arith, div-le_self site.place size, place_small)

  -- the messages of reservations in a chain
  abbrev Between : ℕ → ℕ → Message → Type 0
  Between low high m = (site.place + low ≤ m.place) × (m.place < site.place + high) × (m.place + m.size ≤ site.place + high)

  -- Each that was completed, of a buffer that is written, stands in the file.
  written_one : (from : ℕ) (rs : List Reserved) (bs : List Sealed) (end : ℕ) → AreSealed from rs bs → IsChain (max 20 from) rs end
      → All (Stands sum size number bytes) rs → EndsRise from bs end → end ≤ size → StandWritten log site.slot bytes from bs → (m : Message)
      → Contains (completed_in site bytes rs) m → written_around (m.place - site.place) bs ≡ true → StandsOwn sum size log site end m
  written_one from rs [] end are chain stand rise short laid m there is = let never : ⊥ = cc in absurd never
  written_one from rs (b ∷ bs) end are chain stand rise short laid m there is =
      let own : List Reserved = take b.count rs in
      let more : List Reserved = drop b.count rs in
      let stand_own : All (Stands sum size number bytes) own = All-take (Stands sum size number bytes) b.count rs stand in
      let stand_more : All (Stands sum size number bytes) more = All-drop (Stands sum size number bytes) b.count rs stand in
      let high = ends_below b.end bs end rise.1 in
      let behind : IsChain b.end more end = chain_rest (max 20 from) end rs b.count b.end chain are.0.chain in
      let parts : Contains (completed_in site bytes own ++ completed_in site bytes more) m =
      subst (λ (ms : List Message). Contains ms m) (ap (completed_in site bytes) (sym (take-append-drop b.count rs)) ∙ completed-append site bytes own more) there in
      elim (Contains-append_cases (completed_in site bytes own) (completed_in site bytes more) m parts) [
        | inl first ↦ (
            let lies = All-contains (Between (max 20 from) b.end) (completed_in site bytes own) m (completed_between site bytes (max 20 from) b.end own are.0.chain (some_long sum size number bytes own stand_own)) first in
            let low : nat_lt (m.place - site.place) b.end ≡ true = (let lt : m.place - site.place < b.end = omega (arith, lies.0, lies.1) in grind (arith, nat_tests, lt)) in
            let written : b.is_written ≡ true = sym (ap (λ (o : Bool). if o then b.is_written else written_around (m.place - site.place) bs) low) ∙ is in
            let agrees : Agrees log site.slot bytes from b.end = laid.0 written in
            let s = All-contains (StandsOwn sum size log site b.end) (completed_in site bytes own) m
            (own_in sum size site log bytes from b.end agrees (omega (arith, high.0, high.1, short)) place_begins slot_begins slot_small number_small (max 20 from) own (omega arith) are.0.chain stand_own) first in
            λ lid pointer. let at = s lid pointer in record { at = at.at; place = at.place; offset = at.offset; begins = at.begins; stands = at.stands; inside = (let w = at.inside in omega (arith, w, high.0, high.1)) })
        | inr later ↦ (
            let lies = All-contains (Between b.end end) (completed_in site bytes more) m (completed_between site bytes b.end end more behind (some_long sum size number bytes more stand_more)) later in
            let far : nat_lt (m.place - site.place) b.end ≡ false = (let le : b.end ≤ m.place - site.place = omega (arith, lies.0) in grind (arith, nat_tests, le)) in
            written_one b.end more bs end are.1 (subst (λ n. IsChain n more end) (sym (end_begun from own b are.0)) behind) stand_more rise.1 short laid.1 m
            later
            (sym (ap (λ (o : Bool). if o then b.is_written else written_around (m.place - site.place) bs) far) ∙ is))
      ]

-- Of one segment: a message that it holds is in what was written without a gap, or in a sealed buffer, which is written where none that isn't has it.
module _ (sum : List ℕ → ℕ) (size : ℕ) (site : SegmentPosition) (device : State) (bytes : List ℕ) (from : ℕ) (bs : List Sealed) (rs : List Reserved) (H : History) {stays : Message → Type 0} (holds : HoldsSegment sum (log_parts size site device None bytes from bs rs) stays H) where
  -- Those that were written without a gap, of which the file shows so much.
  shown_here : (m : Message) → Contains holds.records.earlier m → site.place ≤ m.place → (lid : ℕ) → m.pointer ≡ Inline lid
      → StandsHere sum size device.log.bytes site from lid m
  shown_here m early above lid pointer =
      let on = holds.written refl in
      subst (λ (l : List ℕ). StandsHere sum size l site from lid m) (sym (ap (λ (s : LogState). s.bytes) on.settled)) (on.file.own m early above lid pointer)

  -- A file that has all that is written of the segment as it is shown.
  module _ (log : List ℕ) (its : IsWrittenIn device.log.bytes log site.slot bytes from bs) where
    on_device : (m : Message) → Contains holds.records.earlier m → site.place ≤ m.place → (lid : ℕ) → m.pointer ≡ Inline lid → IsHeldAt sum size log lid m
    on_device m early above lid pointer =
        let s = here_there sum size device.log.bytes log its.long site from its.front lid m (shown_here m early above lid pointer) in
        record { begins = s.begins; stands = s.stands }

    pub segment_record : AreSealed from rs bs → from ≤ length bytes → sealed_end from bs ≤ length bytes → length bytes ≤ size → site.place + size < 2 ^ 63
        → site.slot + size < 2 ^ 63 → (m : Message) → Contains H.messages m → site.place ≤ m.place
        → (m.place < site.place + size → m.place < site.place + sealed_end from bs) → found m.place (unwritten_in site bytes from bs rs) ≡ None
        → (lid : ℕ) → m.pointer ≡ Inline lid → IsHeldAt sum size log lid m
    segment_record are low high short place_small slot_small m there above inside none lid pointer =
        elim (which sum size site device None bytes from bs rs H holds m there) [
          | inl early ↦ on_device m early above lid pointer
          | inr late ↦ (
              let lies = All-contains (λ x. (site.place + max 20 from ≤ x.place) × (x.place < site.place + length bytes)
              × (x.place + x.size ≤ site.place + length bytes)) (completed_in site bytes rs) m
              (completed_between site bytes (max 20 from) (length bytes) rs holds.records.chain
              (some_long sum size (site.place / size) bytes rs holds.records.stand)) late in
              let upper : m.place < site.place + sealed_end from bs = inside (omega (arith, lies.1, short)) in
              let off : m.place ≡ site.place + (m.place - site.place) = omega (arith, above) in
              let around = around_written site bytes (m.place - site.place) from bs rs (omega (arith, lies.0)) (omega (arith, above, upper))
              (ap (λ p. found p (unwritten_in site bytes from bs rs)) (sym off) ∙ none) in
              let s = written_one sum size site log bytes holds.records.place_begins holds.records.slot_begins place_small slot_small from rs bs
              (length bytes) are holds.records.chain holds.records.stand (ends_rise from rs bs (length bytes) are low high) short its.stand m late around lid
              pointer in
              record { begins = s.begins; stands = s.stands })
        ]

  -- written or not, its record has a place where one may begin
  pub segment_begins : length bytes ≤ size → (m : Message) → Contains H.messages m → site.place ≤ m.place → (lid : ℕ) → m.pointer ≡ Inline lid → MayBegin size lid
  segment_begins short m there above lid pointer = elim (cases_lt m.place (site.place + from)) [
    | inl written ↦ elim (which sum size site device None bytes from bs rs H holds m there) [
      | inl early ↦ (shown_here m early above lid pointer).begins
      | inr late ↦ (
          let lies = All-contains (λ x. (site.place + max 20 from ≤ x.place) × (x.place < site.place + length bytes) × (x.place + x.size ≤ site.place + length bytes)) (completed_in site bytes rs) m
          (completed_between site bytes (max 20 from) (length bytes) rs holds.records.chain (some_long sum size (site.place / size) bytes rs holds.records.stand)) late in
          absurd (omega (arith, lies.0, written)))
    ]
    | inr later ↦ (
        let lies = completed_behind sum size site device None bytes from bs rs H holds short m there later in
        subst (MayBegin size) (ap lid_of pointer) lies.begins)
  ]

-- Of segments one behind another.

in_nothing : (m : Message) → Contains [] m → ⊥
in_nothing m there = let lt = there.1 in omega (arith, lt)

none_both : (a b : Option BufferAt) → or_found a b ≡ None → (a ≡ None) × (b ≡ None)
none_both None b is = (refl, is)
none_both (Some x) b is = cc

module _ (sum : List ℕ → ℕ) (size : ℕ) (device : State) (to : ℕ) where
  -- a file has all that is written of each of them as it is shown
  abbrev pub AreWrittenIn : List ℕ → List SegmentView → Type 0
  AreWrittenIn log vs = (n : ℕ) (u : SegmentView) → slice_get vs n ≡ Some u
      → IsWrittenIn device.log.bytes log u.parts.site.slot u.parts.bytes u.parts.written_len u.parts.sealed

  module _ (log : List ℕ) where
    its_record : (place : ℕ) (v : SegmentView) (vs : List SegmentView) → AreSegments size place (v ∷ vs) → AreFilled size to (v ∷ vs)
        → AreWrittenIn log (v ∷ vs) → (H : History) {stays : Message → Type 0}
        → HoldsSegment sum (log_parts size v.parts.site device None v.parts.bytes v.parts.written_len v.parts.sealed v.parts.reserved) stays H
        → (m : Message) → Contains H.messages m → v.parts.site.place ≤ m.place → m.place < end_of (v ∷ vs)
        → found m.place (unwritten (v ∷ vs)) ≡ None → (lid : ℕ) → m.pointer ≡ Inline lid → IsHeldAt sum size log lid m
    its_record place v vs are filled written H holds m there above lower none lid pointer =
        let here = are.0 in
        let begins = here.begins in
        let up = ends_up v.parts.written_len v.parts.reserved v.parts.sealed here.are in
        segment_record sum size v.parts.site device v.parts.bytes v.parts.written_len v.parts.sealed v.parts.reserved H holds log (written 0 v refl) here.are
        (omega (arith, begins, up)) begins here.short here.place_small here.slot_small m there above
        (λ inside. begin_above size to m.place (v ∷ vs) 0 v filled refl inside lower)
        (none_both _ _ (sym (found_on m.place (unwritten_of v.parts) (unwritten vs)) ∙ none)).0 lid pointer

    behind_record : (place : ℕ) (vs : List SegmentView) → AreSegments size place vs → AreFilled size to vs → AreWrittenIn log vs → (stays : Message → Type 0)
        (batches : List Batch) (ms : List Message) → HoldBehind sum size device None place (map parts_in vs) stays batches ms
        → (m : Message) → Contains ms m → m.place < end_of vs → found m.place (unwritten vs) ≡ None → (lid : ℕ) → m.pointer ≡ Inline lid
        → IsHeldAt sum size log lid m
    behind_record place [] are filled written stays batches ms hold m there lower none lid pointer =
        absurd (in_nothing m (subst (λ (l : List Message). Contains l m) hold there))
    behind_record place (v ∷ []) are filled written stays batches ms (own, later, all, next, rest) m there lower none lid pointer =
        elim (Contains-append_cases own later m (subst (λ (l : List Message). Contains l m) all there)) [
          | inl mine ↦ (
              let above = All-contains (λ x. place + 20 ≤ x.place) own m next.above mine in
              let at = are.0.at in
              its_record place v [] are filled written (record { messages = own; batches = batches }) next.segment m mine (omega (arith, above, at)) lower none
              lid pointer)
          | inr others ↦ absurd (in_nothing m (subst (λ (l : List Message). Contains l m) rest others))
        ]
    behind_record place (v ∷ w ∷ ws) are filled written stays batches ms (own, later, all, next, rest) m there lower none lid pointer =
        elim (Contains-append_cases own later m (subst (λ (l : List Message). Contains l m) all there)) [
          | inl mine ↦ (
              let above = All-contains (λ x. place + 20 ≤ x.place) own m next.above mine in
              let at = are.0.at in
              its_record place v (w ∷ ws) are filled written (record { messages = own; batches = batches }) next.segment m mine (omega (arith, above, at)) lower
              none lid pointer)
          | inr others ↦
              behind_record (place + size) (w ∷ ws) are.1 filled.2 (λ n u at. written (suc n) u at) stays batches later rest m others lower
              (none_both _ _ (sym (found_on m.place (unwritten_of v.parts) (unwritten (w ∷ ws))) ∙ none)).1 lid pointer
        ]

  behind_begins : (place : ℕ) (vs : List SegmentView) → AreSegments size place vs → (stays : Message → Type 0) (batches : List Batch) (ms : List Message) → HoldBehind sum size device None place (map parts_in vs) stays batches ms
      → (m : Message) → Contains ms m → (lid : ℕ) → m.pointer ≡ Inline lid → MayBegin size lid
  behind_begins place [] are stays batches ms hold m there lid pointer = absurd (in_nothing m (subst (λ (l : List Message). Contains l m) hold there))
  behind_begins place (v ∷ vs) are stays batches ms (own, later, all, next, rest) m there lid pointer = elim (Contains-append_cases own later m (subst (λ (l : List Message). Contains l m) all there)) [
    | inl mine ↦ (
        let above = All-contains (λ x. place + 20 ≤ x.place) own m next.above mine in
        let at = are.0.at in
        segment_begins sum size v.parts.site device v.parts.bytes v.parts.written_len v.parts.sealed v.parts.reserved (record { messages = own; batches = batches }) next.segment are.0.short m mine (omega (arith, above, at)) lid pointer)
    | inr others ↦ behind_begins (place + size) vs are.1 stays batches later rest m others lid pointer
  ]

  -- A message lies in one of them, or it is an earlier one that stays.
  module _ (place : ℕ) (v : SegmentView) (vs : List SegmentView) (are : AreSegments size place (v ∷ vs)) (H : History) (marks : JoinedMarks) (holds : HoldsLine sum marks size device None (v ∷ vs) H) where
    abbrev pub first_stable : ℕ
    first_stable = held_of holds.begun

    elsewhere : (m : Message) → StaysFrom H first_stable m → m.place < v.parts.site.place → (lid : ℕ) → m.pointer ≡ Inline lid
        → StandsElsewhere sum size device.log.bytes v.parts.site lid m
    elsewhere m stays lower lid pointer = line_elsewhere sum size device None refl v vs H holds m stays lower lid pointer 0 v refl

    -- In a file that has what is written of the segments as it is shown, and what is shown of earlier ones that stay.
    module _ (log : List ℕ) (written : AreWrittenIn log (v ∷ vs))
        (older : (m : Message) → StaysFrom H first_stable m → m.place < v.parts.site.place → (lid : ℕ) → m.pointer ≡ Inline lid
        → MessageStands sum size device.log.bytes lid (m.place / size) m → MessageStands sum size log lid (m.place / size) m) where
      pub line_record : AreFilled size to (v ∷ vs) → (m : Message) → Contains H.messages m → (v.parts.site.place ≤ m.place) ⊎ StaysFrom H first_stable m
          → m.place < end_of (v ∷ vs) → found m.place (unwritten (v ∷ vs)) ≡ None → (lid : ℕ) → m.pointer ≡ Inline lid → IsHeldAt sum size log lid m
      line_record filled m there has lower none lid pointer = elim (cases_lt m.place v.parts.site.place) [
        | inl early ↦ elim has [
          | inl above ↦ absurd (omega (arith, above, early))
          | inr stays ↦ (
              let s = elsewhere m stays early lid pointer in
              record { begins = s.begins; stands = older m stays early lid pointer s.stands })
        ]
        | inr above ↦ elim (Contains-append_cases holds.head holds.later m (subst (λ (l : List Message). Contains l m) holds.messages there)) [
          | inl mine ↦
              its_record log place v vs are filled written (record { messages = holds.head; batches = H.batches }) holds.own m mine above lower none lid pointer
          | inr others ↦
              by_rest vs are.1 filled (λ n u at. written (suc n) u at) lower
              (none_both _ _ (sym (found_on m.place (unwritten_of v.parts) (unwritten vs)) ∙ none)).1 holds.others others
        ]
      ]
        where
          by_rest : (ws : List SegmentView) → AreSegments size (place + size) ws → AreFilled size to (v ∷ ws) → AreWrittenIn log ws → m.place < end_of (v ∷ ws)
              → found m.place (unwritten ws) ≡ None
              → HoldBehind sum size device None (v.parts.site.place + size) (map parts_in ws) (StaysBelow H first_stable v.parts.site.place) H.batches
              holds.later
              → Contains holds.later m → IsHeldAt sum size log lid m
          by_rest [] are filled written lower none hold there = absurd (in_nothing m (subst (λ (l : List Message). Contains l m) hold there))
          by_rest (w ∷ ws) segments filled written lower none hold there =
              let at : v.parts.site.place ≡ place = are.0.at in
              behind_record log (place + size) (w ∷ ws) segments filled.2 written (StaysBelow H first_stable v.parts.site.place) H.batches holds.later
              (subst (λ p. HoldBehind sum size device None (p + size) (map parts_in (w ∷ ws)) (StaysBelow H first_stable v.parts.site.place) H.batches
              holds.later) at hold)
              m there lower none lid pointer

    -- An entry of a table below a place that isn't below the one where the log began stays.
    pub entry_stays : length v.parts.bytes ≤ size → (m : Message) → Contains H.messages m → (cut : ℕ) → first_stable ≤ cut → Contains (table H cut m.page) m → StaysFrom H first_stable m
    entry_stays short m there cut far entry = elim (cases_lt m.place first_stable) [
      | inl low ↦ inl (entry_earlier H (whole_ascends sum size v.parts.site device None v.parts.bytes v.parts.written_len v.parts.sealed v.parts.reserved H holds short) first_stable cut m.page far m low entry)
      | inr above ↦ inr (above, there)
    ]

    pub line_begins : (m : Message) → Contains H.messages m → (v.parts.site.place ≤ m.place) ⊎ StaysFrom H first_stable m → (lid : ℕ) → m.pointer ≡ Inline lid → MayBegin size lid
    line_begins m there has lid pointer = elim (cases_lt m.place v.parts.site.place) [
      | inl early ↦ elim has [
        | inl above ↦ absurd (omega (arith, above, early))
        | inr stays ↦ (elsewhere m stays early lid pointer).begins
      ]
      | inr above ↦ elim (Contains-append_cases holds.head holds.later m (subst (λ (l : List Message). Contains l m) holds.messages there)) [
        | inl mine ↦ segment_begins sum size v.parts.site device v.parts.bytes v.parts.written_len v.parts.sealed v.parts.reserved (record { messages = holds.head; batches = H.batches }) holds.own are.0.short m mine above lid pointer
        | inr others ↦ (
            let at : v.parts.site.place ≡ place = are.0.at in
            behind_begins (place + size) vs are.1 (StaysBelow H first_stable v.parts.site.place) H.batches holds.later
            (subst (λ p. HoldBehind sum size device None (p + size) (map parts_in vs) (StaysBelow H first_stable v.parts.site.place) H.batches holds.later) at holds.others) m others lid pointer)
      ]
    ]
