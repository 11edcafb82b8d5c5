-- What a log holds it holds over a file that has the same bytes in the slots of its segments, and in those of the messages that stay.
use Rattle.std.proofs.Common.{◌≡◌, ◌∙◌, ◌+◌, ◌-◌, ◌*◌, ◌/◌, ◌%◌, ◌<◌, ◌≤◌, ℕ, Bool, true, false, pos, List, [], ◌∷◌, length, get_or, Option, None, sym, ap}
use Rattle.std.proofs.Common.{subst, arith}
use Rattle.std.specs.List.{Contains}
use Rattle.std.specs.declared.io.Error.{Error as IoError}
use Rattle.sled_codec.specs.declared.result.DiskPtr.TheVariants.{Inline}
use Rattle.sled_codec.specs.History.{Batch, History, Message}
use Rattle.sled_codec.specs.Record.{IsHeader}
use Rattle.sled_store.specs.Device.{LogState, NamesState, Placement, State, Temporary, at_rest}
use Rattle.sled_store.proofs.Segments.Elements.{in_first, in_rest}
use Rattle.sled_core.specs.declared.iobuf.Reserved.{Reserved}
use Rattle.sled_core.specs.declared.iobuf.Sealed.{Sealed}
use Rattle.sled_core.specs.declared.iobuf.SegmentPosition.{SegmentPosition}
use Rattle.sled_core.specs.declared.logger.joined_marks.JoinedMarks.{JoinedMarks}
use Rattle.sled_core.specs.Begun.{SegmentParts}
use Rattle.sled_core.specs.Fits.{held_of}
use Rattle.sled_core.specs.LogFile.{HasHeader, IsLogFile, MessageStands, StandsHere, StaysFrom}
use Rattle.sled_core.specs.Reading.{StandsAt}
use Rattle.sled_core.specs.SealedBuffers.{AreZeros}
use Rattle.sled_core.specs.inside.Fits.{HoldBehind, HoldsIn, HoldsSegment, log_parts}
use Rattle.sled_core.specs.inside.LogFile.{StaysBelow}
use Rattle.sled_core.specs.inside.SealedBuffers.{Laid, LaidOne}
use Rattle.sled_core.proofs.Cleared.Offsets.{slot_is}
use Rattle.sled_core.proofs.Freed.SameSlots.{SameSlot, slot_ends, slot_in, slot_part}
use Rattle.sled_core.proofs.Sealed.Ended.{ends_rise}
use Rattle.sled_core.proofs.Sealed.LaidLemmas.{EndsRise, ends_below}
use Rattle.sled_core.proofs.Tail.Multiples.{put_down}
use Rattle.sled_core.proofs.Torn.AlikeSlots.{SameIn, record_same}
use Rattle.sled_core.proofs.Torn.TornRecords.{long_enough}

module _ (sum : List ℕ → ℕ) (size : ℕ) (some : 256 ≤ size) (old new : List ℕ) where
  -- A record in such a slot stands as it did,
  message_same : (lid : ℕ) (m : Message) → SameSlot size old new (lid / size) → MessageStands sum size old lid (m.place / size) m
      → MessageStands sum size new lid (m.place / size) m
  message_same lid m same s = record {
    header = s.header;
    stands = subst (At new) (sym whole)
        (record_same sum size old new k alike m.place (lid % size) inside s.header m.bytes m.size (subst (At old) whole s.stands));
    known = s.known;
    short = alike lid m.size (omega (arith, parts)) (let fits = s.stands.in_slot in omega (arith, parts, fits)) s.stands.in_file ∙ s.short;
    page = s.page;
  } where
    k : ℕ
    k = lid / size

    At : List ℕ → ℕ → Type 0
    At file n = StandsAt sum size file n (m.place / size) s.header m.bytes m.size

    parts : k * size + lid % size ≡ lid
    parts = (put_down size lid).0

    whole : lid ≡ k * size + lid % size
    whole = sym parts

    inside : lid % size < size
    inside = omega (arith, some)

    alike : SameIn size old new k
    alike = slot_in size old new k same

  -- and so does a header.
  header_same : (site : SegmentPosition) → site.slot % size ≡ 0 → SameSlot size old new (site.slot / size) → HasHeader sum old site → HasHeader sum new site
  header_same site aligned same h = record {
    mark = h.mark;
    header = subst (λ (l : List ℕ). IsHeader sum l (pos site.place) h.mark)
        (sym (slot_part size old new (site.slot / size) same site.slot 20 (omega (arith, parts, aligned)) (omega (arith, parts, aligned, some)))) h.header;
    below = h.below;
  } where
    parts : site.slot / size * size + site.slot % size ≡ site.slot
    parts = (put_down size site.slot).0

  -- So what stands in the file does.
  file_same : (site : SegmentPosition) (from : ℕ) (messages : List Message) (stays : Message → Type 0) → site.slot % size ≡ 0 → from ≤ size
      → SameSlot size old new (site.slot / size)
      → ((m : Message) → stays m → m.place < site.place → (lid : ℕ) → m.pointer ≡ Inline lid → SameSlot size old new (lid / size))
      → IsLogFile sum size old site from messages stays → IsLogFile sum size new site from messages stays
  file_same site from messages stays aligned short own others file = record {
    own = λ m among above lid is. here lid m (file.own m among above lid is);
    elsewhere = λ m its low lid is.
        let s = file.elsewhere m its low lid is in
        record { begins = s.begins; stands = message_same lid m (others m its low lid is) s.stands; apart = s.apart };
    begun = file.begun;
    header = λ later. header_same site aligned own (file.header later);
  } where
    here : (lid : ℕ) (m : Message) → StandsHere sum size old site from lid m → StandsHere sum size new site from lid m
    here lid m s =
        let parts = (put_down size site.slot).0 in
        let offset = s.offset in
        let within = s.inside in
        let its = long_enough sum size old lid (m.place / size) s.stands.header m.bytes m.size s.stands.stands in
        let k : lid / size ≡ site.slot / size =
        slot_is size (site.slot / size) lid (omega (arith, parts, aligned, offset)) (omega (arith, parts, aligned, offset, within, short, its)) in
        record {
          at = s.at;
          place = s.place;
          offset = s.offset;
          begins = s.begins;
          stands = message_same lid m (subst (SameSlot size old new) (sym k) own) s.stands;
          inside = s.inside;
        }

  zeros_kept : (slot from to : ℕ) → to ≤ size → ((i : ℕ) → i < size → get_or new (slot + i) 0 ≡ get_or old (slot + i) 0)
      → AreZeros old (slot + from) (slot + to) → AreZeros new (slot + from) (slot + to)
  zeros_kept slot from to high same zeros i above below =
      let at : slot + (i - slot) ≡ i = omega (arith, above) in
      ap (λ n. get_or new n 0) (sym at) ∙ same (i - slot) (omega (arith, below, high, at)) ∙ ap (λ n. get_or old n 0) at ∙ zeros i above below

  -- What it has of sealed buffers it has.
  laid_kept : (slot : ℕ) (bytes : List ℕ) (from : ℕ) (bs : List Sealed) → EndsRise from bs size
      → ((i : ℕ) → i < size → get_or new (slot + i) 0 ≡ get_or old (slot + i) 0) → ((end : ℕ) → end ≤ size → slot + end ≤ length old → slot + end ≤ length new)
      → Laid old slot bytes from bs size → Laid new slot bytes from bs size
  laid_kept slot bytes from [] rise same there laid = zeros_kept slot from size (omega arith) same laid
  laid_kept slot bytes from (b ∷ bs) rise same there laid =
      let below = ends_below b.end bs size rise.1 in
      (one b.is_written (omega (arith, below.0, below.1)) laid.0, laid_kept slot bytes b.end bs rise.1 same there laid.1) where
        one : (o : Bool) → b.end ≤ size → LaidOne old slot bytes from o b.end → LaidOne new slot bytes from o b.end
        one true high its = record {
          same = λ i above low. same i (omega (arith, low, high)) ∙ its.same i above low;
          in_file = there b.end high its.in_file;
          in_bytes = its.in_bytes;
        }
        one false high zeros = zeros_kept slot from b.end high same zeros

  -- Two devices, of which the one has the one file at rest, and the other the other one, and the same snapshots.
  module _ (device : State) (log : LogState) (blobs : NamesState) (temporary : Temporary) (placed : List Placement) (fault : Option IoError)
      (was : fault ≡ None → device.log ≡ at_rest old) (is : fault ≡ None → log ≡ at_rest new) where
    abbrev now : State
    now = record { log = log; blobs = blobs; snapshots = device.snapshots; temporary = temporary; placed = placed }

    -- A segment holds what it held,
    pub segment_same : (site : SegmentPosition) (bytes : List ℕ) (from : ℕ) (bs : List Sealed) (rs : List Reserved) (H : History) {stays : Message → Type 0}
        → EndsRise from bs size → from ≤ size → SameSlot size old new (site.slot / size)
        → ((m : Message) → stays m → m.place < site.place → (lid : ℕ) → m.pointer ≡ Inline lid → SameSlot size old new (lid / size))
        → HoldsSegment sum (log_parts size site device fault bytes from bs rs) stays H
        → HoldsSegment sum (log_parts size site now fault bytes from bs rs) stays H
    segment_same site bytes from bs rs H {stays} rise short own others holds = record {
      records = holds.records;
      written = λ none.
          let w = holds.written none in
          let at : w.log ≡ old = ap (λ (l : LogState). l.bytes) (sym w.settled ∙ was none) in
          record {
            log = new;
            settled = is none;
            file = file_same site from holds.records.earlier stays holds.records.slot_begins short own others
                (subst (λ (l : List ℕ). IsLogFile sum size l site from holds.records.earlier stays) at w.file);
          };
      laid = λ none.
          subst (λ (l : LogState). Laid l.bytes site.slot bytes from bs size) (sym (is none))
          (laid_kept site.slot bytes from bs rise (λ i below. own.bytes (site.slot + i) (omega (arith, parts, aligned)) (omega (arith, parts, aligned, below)))
          (λ end below there. slot_ends size old new (site.slot / size) own (site.slot + end) (omega (arith, parts, aligned, below)) there)
          (subst (λ (l : LogState). Laid l.bytes site.slot bytes from bs size) (was none) (holds.laid none)));
    } where
      aligned : site.slot % size ≡ 0
      aligned = holds.records.slot_begins

      parts : site.slot / size * size + site.slot % size ≡ site.slot
      parts = (put_down size site.slot).0

    -- and so do all behind a first one,
    pub behind_same : (place : ℕ) (ss : List SegmentParts) (stays : Message → Type 0) (batches : List Batch) (ms : List Message)
        → ((s : SegmentParts) → Contains ss s → SameSlot size old new (s.site.slot / size))
        → ((m : Message) → stays m → (lid : ℕ) → m.pointer ≡ Inline lid → SameSlot size old new (lid / size))
        → HoldBehind sum size device fault place ss stays batches ms → HoldBehind sum size now fault place ss stays batches ms
    behind_same place [] stays batches ms own others holds = holds
    behind_same place (s ∷ ss) stays batches ms own others (its, later, all, here, rest) = (
      its,
      later,
      all,
      record {
        next = here.next;
        inside = here.inside;
        are = here.are;
        held = here.held;
        behind = here.behind;
        segment =
            let inside = here.inside in
            let held = here.held in
            let behind = here.behind in
            segment_same s.site s.bytes s.written_len s.sealed s.reserved (record { messages = its; batches = batches })
            (ends_rise s.written_len s.reserved s.sealed size here.are (omega (arith, inside, behind)) (omega (arith, inside, held)))
            (omega (arith, inside, behind)) (own s (in_first s ss)) (λ m stay low lid at. others m stay lid at) here.segment;
        above = here.above;
      },
      behind_same (place + size) ss stays batches later (λ x there. own x (in_rest s x ss there)) others rest,
    )

    -- so the log holds what it held.
    unfoldable pub holds_same : (site : SegmentPosition) (bytes : List ℕ) (from : ℕ) (bs : List Sealed) (rs : List Reserved)
        (behind : List SegmentParts) (H : History) → EndsRise from bs size → from ≤ size → SameSlot size old new (site.slot / size)
        → ((s : SegmentParts) → Contains behind s → SameSlot size old new (s.site.slot / size))
        → {marks : JoinedMarks} → (holds : HoldsIn sum marks (log_parts size site device fault bytes from bs rs) behind H)
        → ((m : Message) → StaysFrom H (held_of holds.begun) m → (lid : ℕ) → m.pointer ≡ Inline lid → SameSlot size old new (lid / size))
        → HoldsIn sum marks (log_parts size site now fault bytes from bs rs) behind H
    holds_same site bytes from bs rs behind H rise short own after holds others = record {
      begun = holds.begun;
      head = holds.head;
      later = holds.later;
      messages = holds.messages;
      own = segment_same site bytes from bs rs (record { messages = holds.head; batches = H.batches }) rise short own
          (λ m stay low lid at. others m stay lid at) holds.own;
      others = behind_same (site.place + size) behind (StaysBelow H (held_of holds.begun) site.place) H.batches holds.later after
          (λ m stay lid at. others m stay.0 lid at) holds.others;
      apart = holds.apart;
      marked = holds.marked;
    }
