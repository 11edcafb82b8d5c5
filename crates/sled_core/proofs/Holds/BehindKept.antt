-- The segments behind the first one hold what they held where something is written in the slot of the first one.
use Rattle.std.proofs.Common.{◌≡◌, ◌≢◌, ◌⊎◌, ◌≤◌, ◌<◌, ◌+◌, ◌/◌, ◌%◌, ℕ, pos, List, [], ◌∷◌, length, map, Option, None, sym, subst, arith, inl, inr}
use Rattle.std.specs.List.{Contains}
use Rattle.std.specs.declared.io.Error.{Error as IoError}
use Rattle.std.proofs.lemmas.Bool.{cases_order}
use Rattle.sled_codec.specs.declared.result.DiskPtr.TheVariants.{Inline}
use Rattle.sled_codec.specs.Record.{IsHeader}
use Rattle.sled_codec.specs.History.{Message, Batch, History}
use Rattle.sled_store.specs.Device.{LogState, State, at_rest, overwritten}
use Rattle.sled_store.proofs.Segments.Elements.{in_first, in_rest}
use Rattle.sled_core.specs.declared.iobuf.Reserved.{Reserved}
use Rattle.sled_core.specs.declared.iobuf.Sealed.{Sealed}
use Rattle.sled_core.specs.declared.iobuf.SegmentPosition.{SegmentPosition}
use Rattle.sled_core.specs.Begun.{SegmentParts}
use Rattle.sled_core.specs.Fits.{held_of}
use Rattle.sled_core.specs.inside.Fits.{HoldBehind, HoldsIn, HoldsSegment, begun_segment, log_parts}
use Rattle.sled_core.specs.LogFile.{HasHeader, IsLogFile, StandsElsewhere, StandsHere, StaysFrom}
use Rattle.sled_core.specs.inside.LogFile.{StaysBelow}
use Rattle.sled_core.specs.inside.Reached.{BegunSegment}
use Rattle.sled_core.specs.inside.SealedBuffers.{AreSealed, Laid}
use Rattle.sled_core.specs.SealedBuffers.{sealed_end}
use Rattle.sled_core.specs.declared.logger.joined_marks.JoinedMarks.{JoinedMarks}
use Rattle.sled_core.proofs.Flush.FlushLemmas.{on_file}
use Rattle.sled_core.proofs.Holds.CompletedLemmas.{segment-fewer}
use Rattle.sled_core.proofs.Tail.LogFileLemmas.{file_grows, header_there, message_kept, part_kept}
use Rattle.sled_core.proofs.Flush.LogFileKept.{elsewhere_kept}
use Rattle.sled_core.proofs.Reached.SegmentsBeside.{follows}
use Rattle.sled_core.proofs.Sealed.Ended.{ends_rise}
use Rattle.sled_core.proofs.Sealed.LaidLemmas.{laid_same}
use Rattle.sled_core.proofs.Sealed.OneWritten.{overwritten_beside}
use Rattle.sled_core.proofs.Tail.Multiples.{apart}

-- What stays of earlier segments may be less.
pub behind_fewer : (sum : List ℕ → ℕ) (size : ℕ) (device : State) (fault : Option IoError) (place : ℕ) (ss : List SegmentParts) (stays stays' : Message → Type 0) (batches : List Batch) (ms : List Message)
    → ((x : Message) → stays' x → stays x) → HoldBehind sum size device fault place ss stays batches ms → HoldBehind sum size device fault place ss stays' batches ms
behind_fewer sum size device fault place [] stays stays' batches ms fewer holds = holds
behind_fewer sum size device fault place (s ∷ ss) stays stays' batches ms fewer (own, later, all, here, rest) = (
  own,
  later,
  all,
  record {
    next = here.next;
    inside = here.inside;
    are = here.are;
    held = here.held;
    behind = here.behind;
    segment = segment-fewer sum size s.site device fault s.bytes s.written_len s.sealed s.reserved (record { messages = own; batches = batches }) stays stays' (λ x low its. fewer x its) here.segment;
    above = here.above;
  },
  behind_fewer sum size device fault (place + size) ss stays stays' batches later fewer rest,
)

-- What stands in the slot of a segment stands there behind a write beside it.
module _ (sum : List ℕ → ℕ) (size : ℕ) (old : List ℕ) (at : ℕ) (xs : List ℕ) (some : 0 < length xs) (site : SegmentPosition) (beside : (at + length xs ≤ site.slot) ⊎ (site.slot + size ≤ at)) where
  abbrev new : List ℕ
  new = overwritten old at xs

  here_beside : (from lid : ℕ) (m : Message) → from ≤ size → StandsHere sum size old site from lid m → StandsHere sum size new site from lid m
  here_beside from lid m short s =
      let within = s.inside in
      let offset = s.offset in
      record {
        at = s.at;
        place = s.place;
        offset = s.offset;
        begins = s.begins;
        stands = message_kept sum size old at xs lid (m.place / size) m (elim beside [ inl before ↦ inr (omega (arith, before, offset)) | inr behind ↦ inl (omega (arith, behind, offset, within, short)) ]) s.stands;
        inside = s.inside;
      }

  header_beside : 20 ≤ size → HasHeader sum old site → HasHeader sum new site
  header_beside large h =
      let there : site.slot + 20 ≤ length old = header_there sum old site h in
      let aside : (site.slot + 20 ≤ at) ⊎ (at + length xs ≤ site.slot) = elim beside [ inl before ↦ inr before | inr behind ↦ inl (omega (arith, behind, large)) ] in
      record { mark = h.mark; header = subst (λ (l : List ℕ). IsHeader sum l (pos site.place) h.mark) (sym (part_kept sum size old at xs site.slot 20 there aside)) h.header; below = h.below }

  file_beside : (from : ℕ) (earlier : List Message) (stays : Message → Type 0) → from ≤ size → IsLogFile sum size old site from earlier stays
      → ((m : Message) → stays m → (lid : ℕ) → m.pointer ≡ Inline lid → StandsElsewhere sum size old site lid m → StandsElsewhere sum size new site lid m) → IsLogFile sum size new site from earlier stays
  file_beside from earlier stays short file others = record {
    own = λ m among above lid is. here_beside from lid m short (file.own m among above lid is);
    elsewhere = λ m its low lid is. others m its lid is (file.elsewhere m its low lid is);
    begun = file.begun;
    header = λ later. header_beside (let far = file.begun later in omega (arith, far, short)) (file.header later);
  }

  laid_beside : (bytes : List ℕ) (from : ℕ) (bs : List Sealed) (rs : List Reserved) → AreSealed from rs bs → from ≤ size → sealed_end from bs ≤ size → Laid old site.slot bytes from bs size → Laid new site.slot bytes from bs size
  laid_beside bytes from bs rs are low high laid =
      laid_same site.slot old new bytes from bs size (ends_rise from rs bs size are low high)
      (record {
        grows = file_grows sum size old at xs;
        same = λ i above below. overwritten_beside old at xs (site.slot + i) some (elim beside [ inl before ↦ inr (omega (arith, before)) | inr behind ↦ inl (omega (arith, behind, below)) ]);
      }) laid

-- A segment holds what it held behind a write beside its slot, where what stays of earlier ones stands there still.
pub segment_beside : (sum : List ℕ → ℕ) (size : ℕ) (site : SegmentPosition) (device : State) (fault : Option IoError) (bytes : List ℕ) (from : ℕ) (bs : List Sealed) (rs : List Reserved) (H : History) {stays : Message → Type 0}
    → HoldsSegment sum (log_parts size site device fault bytes from bs rs) stays H → AreSealed from rs bs → from ≤ size → sealed_end from bs ≤ size → fault ≡ None
    → (at : ℕ) (xs : List ℕ) → 0 < length xs → (at + length xs ≤ site.slot) ⊎ (site.slot + size ≤ at) → (new : State) → new.log ≡ at_rest (overwritten device.log.bytes at xs)
    → ((m : Message) → stays m → (lid : ℕ) → m.pointer ≡ Inline lid → StandsElsewhere sum size device.log.bytes site lid m → StandsElsewhere sum size (overwritten device.log.bytes at xs) site lid m)
    → HoldsSegment sum (log_parts size site new fault bytes from bs rs) stays H
segment_beside sum size site device fault bytes from bs rs H {stays} holds are low high whole at xs some beside new is others = record {
  records = holds.records;
  written = λ none. record {
    log = overwritten device.log.bytes at xs;
    settled = is;
    file = file_beside sum size device.log.bytes at xs some site beside from holds.records.earlier stays low (on_file sum size device.log site from holds.records.earlier stays (holds.written whole)) others;
  };
  laid = λ none. subst (λ (l : LogState). Laid l.bytes site.slot bytes from bs size) (sym is) (laid_beside sum size device.log.bytes at xs some site beside bytes from bs rs are low high (holds.laid whole));
}

-- slots that are apart don't overlap
pub slots_apart : (size : ℕ) → 0 < size → (a b : ℕ) → a % size ≡ 0 → b % size ≡ 0 → a ≢ b → (a + size ≤ b) ⊎ (b + size ≤ a)
slots_apart size some a b at_a at_b other = elim (cases_order a b) [
  | inl same ↦ absurd (other same)
  | inr (inl lower) ↦ inl (apart size some a b at_a at_b lower)
  | inr (inr higher) ↦ inr (apart size some b a at_b at_a higher)
]

-- So do all behind the first one, in whose slot something is written.
pub behind_beside : (sum : List ℕ → ℕ) (size : ℕ) → 0 < size → (site : SegmentPosition) → site.slot % size ≡ 0 → (device : State) (fault : Option IoError) → fault ≡ None → (at : ℕ) (xs : List ℕ) → 0 < length xs → site.slot ≤ at → at + length xs ≤ site.slot + size
    → (new : State) → new.log ≡ at_rest (overwritten device.log.bytes at xs)
    → (stays : Message → Type 0) → ((other : SegmentPosition) (m : Message) → stays m → (lid : ℕ) → m.pointer ≡ Inline lid → StandsElsewhere sum size device.log.bytes other lid m → StandsElsewhere sum size (overwritten device.log.bytes at xs) other lid m)
    → (place : ℕ) (ss : List SegmentParts) (batches : List Batch) (ms : List Message) → ((y : BegunSegment) → Contains (map begun_segment ss) y → y.site.slot ≢ site.slot)
    → HoldBehind sum size device fault place ss stays batches ms → HoldBehind sum size new fault place ss stays batches ms
behind_beside sum size some site slot_begins device fault whole at xs long low high new is stays others place [] batches ms other holds = holds
behind_beside sum size some site slot_begins device fault whole at xs long low high new is stays others place (s ∷ ss) batches ms other (own, later, all, here, rest) = (
  own,
  later,
  all,
  record {
    next = here.next;
    inside = here.inside;
    are = here.are;
    held = here.held;
    behind = here.behind;
    segment = (
        let inside = here.inside in
        let held = here.held in
        let begun = here.behind in
        let beside : (at + length xs ≤ s.site.slot) ⊎ (s.site.slot + size ≤ at) = elim (slots_apart size some s.site.slot site.slot here.segment.records.slot_begins slot_begins (other (begun_segment s) (in_first (begun_segment s) (map begun_segment ss)))) [
          | inl before ↦ inr (omega (arith, before, low))
          | inr behind ↦ inl (omega (arith, behind, high))
        ] in
        segment_beside sum size s.site device fault s.bytes s.written_len s.sealed s.reserved (record { messages = own; batches = batches }) here.segment here.are (omega (arith, inside, begun)) (omega (arith, inside, held)) whole at xs long beside new is (others s.site));
    above = here.above;
  },
  behind_beside sum size some site slot_begins device fault whole at xs long low high new is stays others (place + size) ss batches later (λ y among. other y (in_rest (begun_segment s) y (map begun_segment ss) among)) rest,
)

-- So it is where a buffer of the first segment of a log is written.
pub others_written : (sum : List ℕ → ℕ) (size : ℕ) (site : SegmentPosition) (device : State) (fault : Option IoError) (bytes : List ℕ) (from : ℕ) (bs : List Sealed) (rs : List Reserved) (H : History) {behind : List SegmentParts}
    {marks : JoinedMarks} (holds : HoldsIn sum marks (log_parts size site device fault bytes from bs rs) behind H) → 0 < size → fault ≡ None → (at : ℕ) (xs : List ℕ) → 0 < length xs → site.slot ≤ at → at + length xs ≤ site.slot + size
    → (new : State) → new.log ≡ at_rest (overwritten device.log.bytes at xs)
    → HoldBehind sum size new fault (site.place + size) behind (StaysBelow H (held_of holds.begun) site.place) H.batches holds.later
others_written sum size site device fault bytes from bs rs H {behind} holds some whole at xs long low high new is =
    let stays : Message → Type 0 = StaysFrom H (held_of holds.begun) in
    let file : IsLogFile sum size device.log.bytes site from holds.own.records.earlier stays = on_file sum size device.log site from holds.own.records.earlier stays (holds.own.written whole) in
    behind_beside sum size some site holds.own.records.slot_begins device fault whole at xs long low high new is (StaysBelow H (held_of holds.begun) site.place)
    (λ other m its lid inline stands.
    let kept = elsewhere_kept sum size device.log.bytes at xs site lid m low high (file.elsewhere m its.0 its.1 lid inline) in
    record { begins = stands.begins; stands = kept.stands; apart = stands.apart })
    (site.place + size) behind H.batches holds.later (λ y among. (follows site (map begun_segment behind) holds.apart y among).1) holds.others
