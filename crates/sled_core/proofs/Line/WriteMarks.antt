-- A log writes a buffer: in what is shown behind that its marks stand, as the header with which the buffer begins, if it does with one, is found; and that
-- header's mark is passed.
use Rattle.std.proofs.Common.{◌≡◌, ◌∙◌, ◌⊎◌, ◌==◌, ◌<◌, ◌≤◌, ◌≤ℤ◌, ◌+◌, ◌*◌, ◌++◌, ℕ, suc, ℤ, pos, max, Bool, true, false, if◌then◌else◌, List, length, take, drop, Option, None, Some, refl, sym, ap, subst, arith, inl, inr, ◌<ℤ◌, zero, [], ◌∷◌}
use Rattle.std.proofs.Common.{take-append-drop}
use Rattle.std.specs.List.{Contains, slice_get}
use Rattle.std.specs.declared.io.Error.{Error as IoError}
use Rattle.std.proofs.lemmas.Bool.Decides.{nat_tests}
use Rattle.std.proofs.lemmas.List.{take-take}
use Rattle.sled_codec.specs.History.{Batch, History}
use Rattle.sled_codec.specs.Record.{IsHeader}
use Rattle.sled_codec.specs.Snapshots.{SnapshotModel}
use Rattle.sled_store.specs.Device.{State, overwritten}
use Rattle.sled_store.specs.SegmentStates.{Machine}
use Rattle.sled_store.specs.SnapshotFiles.{BeginsFrom}
use Rattle.sled_core.specs.Begun.{SegmentView}
use Rattle.sled_core.specs.HeaderMark.{greater_mark, mark_at, mark_in}
use Rattle.sled_core.specs.Recoverable.{NoHeaderOfZeros}
use Rattle.sled_core.specs.SealedBuffers.{bytes_between, sealed_count}
use Rattle.sled_core.specs.declared.iobuf.Sealed.{Sealed}
use Rattle.sled_core.specs.declared.iterator.Segment.{Segment}
use Rattle.sled_core.specs.declared.logger.joined_marks.JoinedMarks.{JoinedMarks}
use Rattle.sled_core.specs.inside.Fits.{HoldsLine, written_to}
use Rattle.sled_core.specs.inside.FreeSlots.{HasSlot, HasSlots}
use Rattle.sled_core.specs.inside.MarksFit.{IsPassed, MarkStands}
use Rattle.sled_core.specs.inside.Scan.{IsFoundSegment}
use Rattle.sled_core.specs.inside.SealedBuffers.{AreSealed, is_ready}
use Rattle.sled_core.specs.inside.Slots.{marked_at}
use Rattle.sled_core.specs.Tail.{least_place}
use Rattle.sled_core.specs.inside.Turned.{mark_of}
use Rattle.sled_core.proofs.Holds.Facts.{IsSegment}
use Rattle.sled_core.proofs.Line.Ends.{with_part}
use Rattle.sled_core.proofs.Line.EndsBatch.{parts_there}
use Rattle.sled_core.proofs.Line.MarksJoin.{IsMarkLow, low_under, written_short}
use Rattle.sled_core.proofs.Line.OlderSlots.{newest_low}
use Rattle.sled_core.proofs.Line.PlacedWrite.{begins_so}
use Rattle.sled_core.proofs.Line.Segments.{AreSegments, first_below, nth_segment}
use Rattle.sled_core.proofs.Line.Writes.{buffer_begin, buffer_bytes, rises}
use Rattle.sled_core.proofs.Line.WrittenSlots.{first_begins}
use Rattle.sled_core.proofs.OwnLog.NoHeader.{no_header_of}
use Rattle.sled_core.proofs.Reached.BufferPath.{buffer_header}
use Rattle.sled_core.proofs.Reached.MarkWritten.{HasHead, header_begins, stands_written}
use Rattle.sled_core.proofs.Reached.ReadMark.{header_mark}
use Rattle.sled_core.proofs.Reserve.Ranges.{at_there, chain_grows, there_split}
use Rattle.sled_core.proofs.Sealed.LaidLemmas.{EndsRise}
use Rattle.sled_core.proofs.Sealed.OneWritten.{length-between, rises_at, sealed_at}
use Rattle.sled_core.proofs.Sealed.Slices.{end_to}
use Rattle.sled_core.proofs.Sealed.Zeros.{begin_zeros}
use Rattle.std.proofs.lemmas.Bool.{cases_lt}
use Rattle.std.proofs.lemmas.Int.{ints}

-- A buffer that doesn't begin its segment begins with no header.
no_mark : (from : ℕ) (bytes : List ℕ) → 0 < from → mark_at from bytes ≡ None
unfolding mark_at
no_mark from bytes some = ap (λ (o : Bool). if o then Some (mark_in bytes) else None) (let not : (from == 0) ≡ false = grind (arith, nat_tests, some) in not)

-- The header of a segment of which nothing is written has a mark below what is written of the first one.
mark_before : (sum : List ℕ → ℕ) (marks : JoinedMarks) (size : ℕ) (device : State) (fault : Option IoError) (line : List SegmentView) (H : History)
    → HoldsLine sum marks size device fault line H → (n : ℕ) (v : SegmentView) → slice_get line n ≡ Some v → v.parts.written_len ≡ 0 → (mark : ℤ)
    → IsHeader sum (take 20 v.parts.bytes) (pos v.parts.site.place) mark → mark <ℤ pos v.parts.site.place → mark <ℤ pos (written_to line)
mark_before sum marks size device fault [] H holds n v there fresh mark header under = absurd holds
mark_before sum marks size device fault (w ∷ ws) H holds zero v there fresh mark header under =
    let same : w ≡ v = cc in
    let at = ap (λ (x : SegmentView). x.parts.site.place) same in
    omega (arith, ints, under, at)
mark_before sum marks size device fault (w ∷ ws) H holds (suc n) v there fresh mark header under =
    holds.marked v.parts (parts_there ws n v there) fresh mark header

module _ (sum : List ℕ → ℕ) (size : ℕ) (big : 256 ≤ size) (device : State) (fault : Option IoError) (whole : fault ≡ None) (v : SegmentView) (k : ℕ)
    (b : Sealed) (there : slice_get v.parts.sealed k ≡ Some b) (ready : is_ready b ≡ true) (place : ℕ) (line : List SegmentView)
    (are : AreSegments size place line) (n : ℕ) (among : slice_get line n ≡ Some v) (m : Machine) (slots : HasSlots size line device.log.bytes fault m)
    (H : History) (marks : JoinedMarks) (holds : HoldsLine sum marks size device fault line H) where
  abbrev begin : ℕ
  begin = buffer_begin sum size big device fault whole v k b there ready

  abbrev asked : List ℕ
  asked = buffer_bytes sum size big device fault whole v k b there ready

  abbrev slot : ℕ
  slot = v.parts.site.slot

  abbrev log : List ℕ
  log = device.log.bytes

  has : HasSlot size m v
  has = at_there (HasSlot size m) line n v among slots.taken

  is : IsSegment size v.parts.site.place v
  is = nth_segment size place line are n v among

  lies : (v.parts.written_len ≤ begin) × (begin < b.end) × (b.end ≤ length v.parts.bytes)
  lies = rises_at v.parts.written_len (take k v.parts.sealed) b (drop (suc k) v.parts.sealed) (length v.parts.bytes)
      (subst (λ (cs : List Sealed). EndsRise v.parts.written_len cs (length v.parts.bytes)) (there_split v.parts.sealed k b there)
      (rises sum size big device fault whole v k b there ready v.parts.site.place is))

  long : begin + length asked ≡ b.end
  long = omega (arith, length-between v.parts.bytes begin b.end lies.2, lies.1)

  -- It has bytes behind a header.
  enough : 20 ≤ b.end
  enough =
      let front : List Sealed = take k v.parts.sealed in
      let its = sealed_at v.parts.written_len v.parts.reserved front b (drop (suc k) v.parts.sealed)
      (subst (λ (cs : List Sealed). AreSealed v.parts.written_len v.parts.reserved cs) (there_split v.parts.sealed k b there) is.are) in
      let up = chain_grows (max 20 begin) b.end (take b.count (drop (sealed_count front) v.parts.reserved)) its.chain in
      omega (arith, up)

  its_mark : mark_of k v ≡ mark_at begin asked
  its_mark = ap (λ e. mark_at begin (bytes_between v.parts.bytes begin e)) (end_to v.parts.written_len v.parts.sealed k b there)

  -- The header with which it begins, if it does.
  record HasOwnMark : Type 0 where
    mark : ℤ
    header : IsHeader sum (take 20 v.parts.bytes) (pos v.parts.site.place) mark
    under : mark <ℤ pos v.parts.site.place
    apart : (b : Batch) → Contains H.batches b → (mark <ℤ pos b.low) ⊎ (pos b.peg ≤ℤ mark)
    is_mark : mark_of k v ≡ Some mark
    begins : asked ≡ take 20 v.parts.bytes ++ drop 20 asked

  own_mark : begin ≡ 0 → HasOwnMark
  own_mark at_first =
      with_part sum size device fault marks line n v H holds among (λ stays own segment.
      let has_mark = segment.records.header (omega (arith, lies.0, at_first)) in
      let small = is.place_small in
      let header = buffer_header sum v.parts.site v.parts.bytes _ has_mark (omega (arith, small)) in
      let text : List ℕ = take 20 v.parts.bytes in
      let rest : List ℕ = drop 20 asked in
      let begins : asked ≡ text ++ rest =
      sym (take-append-drop 20 asked) ∙ ap (λ (l : List ℕ). l ++ rest) (
      ap (λ i. take 20 (drop i (take b.end v.parts.bytes))) at_first
      ∙ take-take 20 b.end v.parts.bytes enough) in
      record {
        mark = has_mark.mark;
        header = header;
        under = has_mark.of_history.below;
        apart = has_mark.of_history.apart;
        is_mark = its_mark ∙ ap (λ i. mark_at i asked) at_first ∙ ap (mark_at 0) begins ∙ header_mark sum text rest (pos v.parts.site.place) has_mark.mark header;
        begins = begins;
      })

  -- What is written of the segment ends behind its header.
  begun : (v.parts.written_len ≡ 0) ⊎ (20 ≤ v.parts.written_len)
  begun = elim (cases_lt 0 v.parts.written_len) [
    | inl more ↦ inr (with_part sum size device fault marks line n v H holds among (λ stays own segment. (segment.written whole).file.begun more))
    | inr none ↦ inl (omega (arith, none))
  ]

  no_own_mark : 20 ≤ begin → mark_of k v ≡ None
  no_own_mark later = its_mark ∙ no_mark begin asked (omega (arith, later))

  first_or_later : (begin ≡ 0) ⊎ (20 ≤ begin)
  first_or_later = begins_so v.parts.written_len v.parts.reserved v.parts.sealed is.are begun k

  -- Its mark lies below what is written, and in no batch:
  mark_apart : (mark : ℤ) → mark_of k v ≡ Some mark
      → (mark <ℤ pos (written_to line)) × ((b : Batch) → Contains H.batches b → (mark <ℤ pos b.low) ⊎ (pos b.peg ≤ℤ mark))
  mark_apart mark its = elim first_or_later [
    | inl at_first ↦ (
        let own = own_mark at_first in
        let both : Some mark ≡ Some own.mark = sym its ∙ own.is_mark in
        let same : mark ≡ own.mark = cc in
        subst (λ z. (z <ℤ pos (written_to line)) × ((b : Batch) → Contains H.batches b → (z <ℤ pos b.low) ⊎ (pos b.peg ≤ℤ z))) (sym same) (
          mark_before sum marks size device fault line H holds n v among (omega (arith, lies.0, at_first)) own.mark own.header own.under,
          own.apart,
        ))
    | inr later ↦ absurd (let both : None ≡ Some mark = sym (no_own_mark later) ∙ its in cc)
  ]

  -- so it is no higher than that,
  pub mark_low : (mark : ℤ) → mark_of k v ≡ Some mark → IsMarkLow size line mark
  mark_low mark its =
      low_under size big place line are (first_begins sum size marks device fault line H holds) (written_short size place line are) mark
      (mark_apart mark its).0

  -- and is passed.
  pub mark_passed : (first : SnapshotModel) (mark : ℤ) → mark_of k v ≡ Some mark → IsPassed first (written_to line) H.batches mark
  mark_passed first mark its = inr (mark_apart mark its)

  module _ (none : NoHeaderOfZeros sum) (first : SnapshotModel) (newest : BeginsFrom sum device.snapshots.file first) where
    abbrev least : ℕ
    least = least_place size first

    low_place : least ≤ v.parts.site.place
    low_place =
        let low = newest_low sum size marks device fault line H holds first newest in
        let up = first_below size place line are n v among in
        omega (arith, low, up)

    -- Where nothing of the segment was written, no header is found in its slot.
    nothing_yet : v.parts.written_len ≡ 0 → (s : Segment) → IsFoundSegment sum size log least s → s.slot ≡ slot → ⊥
    nothing_yet fresh s found same =
        with_part sum size device fault marks line n v H holds among (λ stays own segment.
        no_header_of sum none log slot
        (begin_zeros log slot v.parts.bytes v.parts.written_len v.parts.sealed v.parts.reserved size is.fresh is.are (omega (arith, big)) (segment.laid whole) fresh)
        (pos s.place) s.mark (subst (λ at. IsHeader sum (take 20 (drop at log)) (pos s.place) s.mark) same found.header))

    -- The buffer begins with a header, which is found then, or behind it.
    head : HasHead sum size (overwritten log (slot + begin) asked) least (mark_of k v)
    head = elim first_or_later [
      | inl at_first ↦ (
          let own = own_mark at_first in
          let at = has.lies in
          let short = is.short in
          let there = header_begins sum size log big has.number (slot + begin) asked (omega (arith, at)) (omega (arith, at, long, lies.2, short)) least
          v.parts.site.place own.mark (take 20 v.parts.bytes) (drop 20 asked) (omega (arith, at, at_first)) own.header own.begins low_place in
          subst (HasHead sum size (overwritten log (slot + begin) asked) least) (sym own.is_mark)
          (marked_at (has.number * size) v.parts.site.place own.mark, there, refl))
      | inr later ↦ subst (HasHead sum size (overwritten log (slot + begin) asked) least) (sym (no_own_mark later)) tt
    ]

    pub marks_written : (durable : ℤ) → MarkStands sum size log first durable
        → MarkStands sum size (overwritten log (slot + begin) asked) first (greater_mark (mark_of k v) durable)
    marks_written durable =
        let at = has.lies in
        let short = is.short in
        stands_written sum size log big has.number (slot + begin) asked (omega (arith, at)) (omega (arith, at, long, lies.2, short)) first
        (λ s found same. elim first_or_later [
          | inl at_first ↦ absurd (nothing_yet (omega (arith, lies.0, at_first)) s found (omega (arith, same, at)))
          | inr later ↦ omega (arith, later, at)
        ])
        (mark_of k v) head durable
