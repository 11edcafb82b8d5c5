-- What is shown of a log file is read of bytes that count: slot by slot. A free one shows no segment, one whose segment has left the line all that the file
-- has, and one of the line what is written of its segment, where reading ends.
use Rattle.std.proofs.Common.{◌≡◌, ◌∙◌, ◌+◌, ◌*◌, ◌/◌, ◌%◌, ◌^◌, ◌≤◌, ◌<◌, ℕ, ℤ, pos, Some, true, false, List, ◌++◌, length, drop, get_or, refl, sym, subst, arith, inl, inr, length-take, length-drop}
use Rattle.std.specs.List.{Contains, slice_get}
use Rattle.std.proofs.Math.Nat.{mul-mod_left}
use Rattle.std.proofs.lemmas.Bool.{cases_Bool, cases_lt}
use Rattle.sled_codec.specs.declared.serialization.message.MessageHeader.{MessageHeader}
use Rattle.sled_codec.specs.History.{History}
use Rattle.sled_codec.specs.Places.{part}
use Rattle.sled_codec.specs.Record.{IsHeader}
use Rattle.sled_codec.specs.Sums.{flipped}
use Rattle.sled_store.specs.Readers.{Reads}
use Rattle.sled_store.specs.SegmentStates.{Machine, is_free, slot_at}
use Rattle.sled_store.proofs.Own.ReaderLemmas.{no_lower, reads_apart, starts}
use Rattle.sled_core.specs.declared.iterator.Segment.{Segment}
use Rattle.sled_core.specs.declared.iterator.scan.ScannedRecord.{ScannedRecord}
use Rattle.sled_core.specs.declared.iterator.scan.ScanEnd.{ScanEnd}
use Rattle.sled_core.specs.declared.iterator.scan.ScanEnd.TheVariants.{Broken}
use Rattle.sled_core.specs.Begun.{SegmentView}
use Rattle.sled_core.specs.Reading.{StandsAt}
use Rattle.sled_core.specs.Recoverable.{NoHeaderOfZeros}
use Rattle.sled_core.specs.Scan.{EndsThere, IsEnd, IsScan}
use Rattle.sled_core.specs.Tail.{IsScanned, Scanned, AreScanned, IsOrdering}
use Rattle.sled_core.specs.inside.Cleared.{cleared, is_stale, is_unwritten_of}
use Rattle.sled_core.specs.inside.FreeSlots.{HasSlot}
use Rattle.sled_core.specs.inside.Hides.{ReadsShown}
use Rattle.sled_core.specs.inside.Reached.{IsReadTo, IsSoFar, StandsIn}
use Rattle.sled_core.specs.inside.Scan.{IsFoundSegment}
use Rattle.sled_core.specs.inside.Slots.{IsWholeSegment, marked_at}
use Rattle.sled_core.proofs.Cleared.Offsets.{Beside, LineRises, OthersBeside, cleared_zeros, zeroed_beside, zeroed_long, zeroed_there}
use Rattle.sled_core.proofs.Cleared.Moves.{part_same}
use Rattle.sled_core.proofs.Freed.ClearedShows.{front_shown, none_stale, stale_in}
use Rattle.sled_core.proofs.OwnLog.Kept.{part_in}
use Rattle.sled_core.proofs.OwnLog.Paths.{path_reads}
use Rattle.sled_core.proofs.Read.ScanLemmas.{aligned_offset}
use Rattle.sled_core.proofs.Tail.Moved.{one_in_slot}
use Rattle.sled_core.proofs.Tail.OneTail.{segment_there}
use Rattle.sled_core.proofs.Torn.WrittenBegun.{none_in_zeros}
use Rattle.sled_core.proofs.Torn.WrittenParts.{path_rises}

-- What a reader reads in a segment stands there.
module _ (sum : List ℕ → ℕ) (size : ℕ) (log : List ℕ) (slot : ℕ) (aligned : slot % size ≡ 0) (reach : slot + size < 2 ^ 64) where
  abbrev text : List ℕ
  text = part log slot size

  inside_slot : (to : ℕ) → to ≤ length text → to ≤ size
  inside_slot to fits = omega (arith, fits, length-take size (drop slot log))

  module _ (number first at len : ℕ) (above : 0 < at) (r : Reads sum size number text first at len) where
    abbrev pub header_read : MessageHeader
    header_read = record {
      crc32 = flipped (sum (r.body ++ drop 4 r.is.header));
      kind = r.kind;
      segment_number = record { 0 = number };
      pid = r.page;
      len = length r.body;
    }

    pub read_stands : StandsAt sum size log (slot + at) number header_read r.body len
    read_stands =
        let room = r.room in
        let inside = r.inside in
        let fits = inside_slot (at + len) inside in
        record {
          header = r.is.header;
          spelled = r.is.spelled;
          is = sym (part_in size log slot at len fits) ∙ r.is.is;
          counted = refl;
          numbered = refl;
          summed = refl;
          valid = r.is.valid;
          in_file = omega (arith, inside, above, length-take size (drop slot log), length-drop slot log);
          in_slot = omega (arith, fits, aligned_offset slot at size aligned (omega (arith, room)));
          small = omega (arith, fits, reach);
        }

  -- So where reading ends for want of a record or of room, all that is read ends there or before.
  module _ (place : ℕ) (ms : List ScannedRecord) (stop : ℕ) (why : ScanEnd) (scan : IsScan sum size log slot place ms stop why)
      (broken : stop + 32 ≤ size → why ≡ Broken) where
    abbrev number : ℕ
    number = place / size

    pub stop_behind : 20 ≤ stop
    unfolding IsScan
    stop_behind = path_rises sum size log slot place 20 ms stop scan.0

    none_reads : (len : ℕ) → Reads sum size number text stop stop len → ⊥
    unfolding IsScan EndsThere
    none_reads len r =
        let ends = subst (λ (o : ScanEnd). IsEnd sum size log slot place stop o) (broken r.room) scan.1 in
        let low = stop_behind in
        ends.1 (header_read number stop stop len (omega (arith, low)) r) r.body len (read_stands number stop stop len (omega (arith, low)) r)

    pub reads_before : (at len : ℕ) → Reads sum size number text 20 at len → at + len ≤ stop
    unfolding IsScan
    reads_before at len r = elim (reads_apart sum size number text 20 stop at len (path_reads sum size log slot place 20 ms stop aligned scan.0) r) [
      | inl below ↦ below
      | inr on ↦ elim (cases_lt stop at) [
        | inl less ↦ (let s = starts sum size number text stop at on.comes less in absurd (none_reads s.len s.reads))
        | inr most ↦ (
            let low = no_lower sum size number text stop at on.comes in
            let same : at ≡ stop = omega (arith, low, most) in
            absurd (none_reads len (subst (λ n. Reads sum size number text stop n len) same on)))
      ]
    ]

-- nothing is written of a segment without its header
abbrev pub HeadWaits : ℕ → SegmentView → Type 0
HeadWaits size v =
    v.parts.written_len ≡ 0 → (i : ℕ) → v.parts.site.slot ≤ i → i < v.parts.site.slot + 20 → is_unwritten_of size v.parts i ≡ true

module _ (sum : List ℕ → ℕ) (none : NoHeaderOfZeros sum) (size : ℕ) (some : 256 ≤ size) (m : Machine) (line : List SegmentView) (log : List ℕ)
    (rises : LineRises size line) where
  abbrev shown : List ℕ
  shown = cleared size m line log

  positive : 0 < size
  positive = omega (arith, some)

  -- A header that is shown in a slot is that of its segment, and stands in the file, and so does each record of it that is read.
  abbrev pub ShowsSlot : ℕ → Type 0
  ShowsSlot k =
      (place : ℕ) (mark : ℤ) → IsHeader sum (part shown (k * size) 20) (pos place) mark
      → (is_free (slot_at m k).state ≡ false) × ((slot_at m k).lsn ≡ place) × (part log (k * size) 20 ≡ part shown (k * size) 20)
      × ((at len : ℕ) → Reads sum size (place / size) (part shown (k * size) size) 20 at len → part log (k * size + at) len ≡ part shown (k * size + at) len)

  -- bytes that are the same make the same parts
  parts_shown : (lid len : ℕ) → ((i : ℕ) → lid ≤ i → i < lid + len → get_or shown i 0 ≡ get_or log i 0) → part log lid len ≡ part shown lid len
  parts_shown lid len same = sym (part_same log shown lid len (zeroed_long (is_stale size m line) log) same)

  -- what is read of a slot lies in it
  read_inside : (k number at len : ℕ) → Reads sum size number (part shown (k * size) size) 20 at len → at + len ≤ size
  read_inside k number at len r = let inside = r.inside in omega (arith, inside, length-take size (drop (k * size) shown))

  found_of : (k place : ℕ) (mark : ℤ) → IsHeader sum (part shown (k * size) 20) (pos place) mark → IsFoundSegment sum size shown 0 (marked_at (k * size) place mark)
  found_of k place mark header = record { slot = mul-mod_left k size; header = header; not_below = omega arith }

  -- A free slot shows none.
  pub free_shows : (k : ℕ) → is_free (slot_at m k).state ≡ true → ShowsSlot k
  free_shows k free place mark header =
      absurd (none_in_zeros sum size none (omega (arith, some)) shown (k * size) ((cleared_zeros size positive m line log).0 k free) (pos place) mark header)

  -- One whose segment has left the line shows all.
  pub older_shows : (k : ℕ) → is_free (slot_at m k).state ≡ false
      → ((j : ℕ) (u : SegmentView) → slice_get line j ≡ Some u → Beside size u.parts.site.slot (k * size))
      → (H : History) → IsWholeSegment sum size shown H (k * size) (slot_at m k).lsn → ShowsSlot k
  older_shows k taken gone H whole place mark header = (
    taken,
    one_in_slot sum size shown 0 0 (marked_at (k * size) (slot_at m k).lsn whole.mark) (marked_at (k * size) place mark) whole.found
        (found_of k place mark header) refl,
    parts_shown (k * size) 20 (λ i low high. same i low (omega (arith, high, some))),
    λ at len r. let inside = read_inside k (place / size) at len r in
        parts_shown (k * size + at) len (λ i low high. same i (omega (arith, low)) (omega (arith, high, inside))),
  ) where
    same : (i : ℕ) → k * size ≤ i → i < k * size + size → get_or shown i 0 ≡ get_or log i 0
    same i low high = zeroed_beside (is_stale size m line) log i (none_stale size positive m line log rises k taken gone i low high)

  -- One of the line shows what is written of its segment, and that is read to its end.
  module _ (n : ℕ) (v : SegmentView) (among : slice_get line n ≡ Some v) (has : HasSlot size m v) (apart : OthersBeside size line n v)
      (waits : HeadWaits size v) (reach : v.parts.site.slot + size < 2 ^ 64) (least : ℕ) (ordering : List Segment)
      (numbers : IsOrdering sum size shown least ordering) (scanned : List Scanned) (reads : AreScanned sum size shown ordering scanned) (records : ℕ)
      (stands : StandsIn sum size shown least scanned v.parts.site v.parts.written_len records) where
    abbrev slot : ℕ
    slot = v.parts.site.slot

    abbrev from : ℕ
    from = v.parts.written_len

    lies : slot ≡ has.number * size
    lies = has.lies

    nothing_yet : from ≡ 0 → (place : ℕ) (mark : ℤ) → IsHeader sum (part shown slot 20) (pos place) mark → ⊥
    nothing_yet fresh place mark header =
        none_in_zeros sum 20 none (omega arith) shown slot
        (λ i low high. zeroed_there (is_stale size m line) log i
        (stale_in size positive m line log rises n v among has apart i low (omega (arith, high, some)) ∙ waits fresh i low high))
        (pos place) mark header

    written_shows : 0 < from → ShowsSlot has.number
    unfolding IsScan
    written_shows more place mark header = (
      has.taken,
      has.is ∙ sym r.2.at_place ∙ sym same_place,
      parts_shown (has.number * size) 20 (λ i low high. front i (omega (arith, low, lies)) (omega (arith, high, lies, behind r.3))),
      λ at len read. let inside = within at len read r.3 in
          parts_shown (has.number * size + at) len (λ i low high. front i (omega (arith, low, lies)) (omega (arith, high, lies, inside))),
    ) where
      r : (stop : ℕ) × (why : ScanEnd) × IsReadTo scanned slot v.parts.site.place stop why × IsSoFar size from stop why × (from ≡ size → records ≤ stop)
      r = stands.read more

      its : Contains ordering r.2.scan.segment × IsScanned sum size shown r.2.scan
      its = segment_there sum size shown ordering scanned reads r.2.scan r.2.there

      found : IsFoundSegment sum size shown least r.2.scan.segment
      found = (numbers.found r.2.scan.segment).0 its.0

      here : r.2.scan.segment.slot ≡ has.number * size
      here = r.2.in_slot ∙ lies

      same_place : place ≡ r.2.scan.segment.place
      same_place = one_in_slot sum size shown 0 least (marked_at (has.number * size) place mark) r.2.scan.segment (found_of has.number place mark header) found (sym here)

      front : (i : ℕ) → slot ≤ i → i < slot + from → get_or shown i 0 ≡ get_or log i 0
      front = front_shown size positive m line log rises n v among has apart

      behind : IsSoFar size from r.0 r.1 → 20 ≤ from
      behind (inl (ends, broken)) =
          let low = path_rises sum size shown r.2.scan.segment.slot r.2.scan.segment.place 20 r.2.scan.met r.2.scan.stop its.1.0 in omega (arith, low, ends, r.2.ended)
      behind (inr (full, goes)) = omega (arith, full, some)

      within : (at len : ℕ) → Reads sum size (place / size) (part shown (has.number * size) size) 20 at len → IsSoFar size from r.0 r.1 → at + len ≤ from
      within at len read (inr (full, goes)) = let inside = read_inside has.number (place / size) at len read in omega (arith, inside, full)
      within at len read (inl (ends, broken)) =
          let stops : r.2.scan.stop ≡ from = r.2.ended ∙ ends in
          let there = subst (λ k. Reads sum size (r.2.scan.segment.place / size) (part shown k size) 20 at len) (sym here)
          (subst (λ k. Reads sum size (k / size) (part shown (has.number * size) size) 20 at len) same_place read) in
          let before = reads_before sum size shown r.2.scan.segment.slot found.slot (omega (arith, r.2.in_slot, reach)) r.2.scan.segment.place r.2.scan.met r.2.scan.stop r.2.scan.why its.1
          (λ room. r.2.ends ∙ broken (omega (arith, room, stops))) at len there in
          omega (arith, before, stops)

    pub line_shows : ShowsSlot has.number
    line_shows place mark header = elim (cases_lt 0 from) [
      | inl more ↦ written_shows more place mark header
      | inr fresh ↦ absurd (nothing_yet (omega (arith, fresh)) place mark (subst (λ k. IsHeader sum (part shown k 20) (pos place) mark) (sym lies) header))
    ]

  -- So it is where each slot shows so.
  pub reads_shown : ((k : ℕ) → is_free (slot_at m k).state ≡ false → ShowsSlot k) → ReadsShown sum size m shown log
  reads_shown each = record {
    slots = λ k place mark header. let its = all k place mark header in (its.0, its.1);
    headers = λ k place mark header. (all k place mark header).2;
    records = λ k place mark at len header r. (all k place mark header).3 at len r;
  } where
    all : (k : ℕ) → ShowsSlot k
    all k = elim (cases_Bool (is_free (slot_at m k).state)) [ inl free ↦ free_shows k free | inr taken ↦ each k taken ]
