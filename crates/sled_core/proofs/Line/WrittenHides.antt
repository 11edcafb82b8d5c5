-- A buffer of a segment of the line is written at its place and synced: what the log file has besides what is shown is what it may have. What is own of other
-- segments stands still, or was written over; what the write placed is of the segment that its slot has, and is shown.
use Rattle.std.proofs.Common.{◌≡◌, ◌⊎◌, ◌∙◌, ◌+◌, ◌-◌, ◌*◌, ◌/◌, ◌%◌, ◌^◌, ◌≤◌, ◌<◌, ℕ, ℤ, pos, Some, max, List, [], ◌∷◌, length, take, drop, set, get_or, refl, sym, ap, subst, arith, inl, inr, length-take, length-drop}
use Rattle.std.specs.List.{All, slice_get}
use Rattle.std.proofs.Math.Nat.{mul-mod_left}
use Rattle.std.proofs.lemmas.Bool.{cases_lt}
use Rattle.std.proofs.lemmas.List.{ext_get_or, get_or-drop, get_or-take, take-take}
use Rattle.sled_codec.specs.History.{History}
use Rattle.sled_codec.specs.Places.{part}
use Rattle.sled_codec.specs.Record.{IsHeader, short_header}
use Rattle.sled_codec.proofs.Segments.{length-short_header, one_header}
use Rattle.sled_store.specs.Device.{State, Synced, Wrote, overwritten, step}
use Rattle.sled_store.specs.Foreign.{Covers, HeaderWasPlaced, RecordWasPlaced}
use Rattle.sled_store.specs.SegmentStates.{Machine, slot_at}
use Rattle.sled_store.proofs.LogFile.OverwrittenLemmas.{length-overwritten}
use Rattle.sled_store.proofs.Own.ReachedLemmas.{record_some}
use Rattle.sled_core.specs.declared.iobuf.Reserved.{Reserved}
use Rattle.sled_core.specs.declared.iobuf.Sealed.{Sealed}
use Rattle.sled_core.specs.Begun.{SegmentView}
use Rattle.sled_core.specs.SealedBuffers.{bytes_between}
use Rattle.sled_core.specs.inside.Begun.{line_end}
use Rattle.sled_core.specs.inside.Buffers.{IsChain, Stands}
use Rattle.sled_core.specs.inside.Cleared.{cleared, is_stale}
use Rattle.sled_core.specs.inside.FreeSlots.{HasSlot, HaveOwn}
use Rattle.sled_core.specs.inside.Hides.{Hides, IsGone, IsOwnHeader, IsOwnRecord, LiesInSlot, ReadsShown}
use Rattle.sled_core.specs.inside.Turned.{begin_at, written_now}
use Rattle.sled_core.proofs.OwnLog.BufferPlaces.{buffer_places}
use Rattle.sled_core.proofs.Cleared.Offsets.{LineRises, OthersBeside, slot_is, zeroed_long}
use Rattle.sled_core.proofs.Cleared.Moves.{cleared_written, within}
use Rattle.sled_core.proofs.Numbers.Hides.{gone_less}
use Rattle.sled_core.proofs.Numbers.OwnLess.{less_synced}
use Rattle.sled_core.proofs.OwnLog.Placed.{asked_now, stands_covered}
use Rattle.sled_core.proofs.OwnLog.WrittenOwn.{header_or_written, header_synced, placed_covers, placed_first, record_or_written, record_synced}
use Rattle.sled_core.proofs.Line.LineEnds.{end_set}
use Rattle.sled_core.proofs.Read.FoundLemmas.{pos_injective}
use Rattle.sled_core.proofs.Reserve.Ranges.{chain_grows}
use Rattle.sled_core.proofs.Sealed.OneWritten.{length-between, overwritten_beside, overwritten_inside}
use Rattle.sled_core.proofs.Tail.Multiples.{put_down}

-- The same bytes are written over two files that are as long. A text that stood in one and stands in the other behind it stands in the one behind it, too.
module _ (shown log : List ℕ) (same : length shown ≡ length log) (at : ℕ) (xs : List ℕ) (some : 0 < length xs) (lid : ℕ) (text : List ℕ)
    (was : part shown lid (length text) ≡ text) (now : part (overwritten log at xs) lid (length text) ≡ text) where
  abbrev len : ℕ
  len = length text

  part_long : (file : List ℕ) → length file ≡ length (overwritten log at xs) → length (part file lid len) ≡ len
  part_long file alike =
      let new : List ℕ = overwritten log at xs in
      omega (arith, alike, ap length now, length-take len (drop lid file), length-drop lid file, length-take len (drop lid new), length-drop lid new)

  its_byte : (file : List ℕ) (i : ℕ) → i < len → get_or (part file lid len) i 0 ≡ get_or file (lid + i) 0
  its_byte file i below = get_or-take len (drop lid file) i 0 below ∙ get_or-drop lid file i 0

  pub text_written : part (overwritten shown at xs) lid len ≡ text
  text_written = ext_get_or 0 (part (overwritten shown at xs) lid len) text whole
      (λ i lt. let below : i < len = omega (arith, lt, whole) in its_byte (overwritten shown at xs) i below ∙ each i below) where
        whole : length (part (overwritten shown at xs) lid len) ≡ len
        whole = part_long (overwritten shown at xs) (omega (arith, same, length-overwritten shown at xs, length-overwritten log at xs))

        outside : (i : ℕ) → i < len → (lid + i < at) ⊎ (at + length xs ≤ lid + i) → get_or (overwritten shown at xs) (lid + i) 0 ≡ get_or text i 0
        outside i below how = overwritten_beside shown at xs (lid + i) some how ∙ sym (its_byte shown i below) ∙ ap (λ (l : List ℕ). get_or l i 0) was

        inside : (i : ℕ) → i < len → at ≤ lid + i → lid + i < at + length xs → get_or (overwritten shown at xs) (lid + i) 0 ≡ get_or text i 0
        inside i below low high =
            let j : ℕ = lid + i - at in
            let there : at + j ≡ lid + i = omega (arith, low) in
            let short : j < length xs = omega (arith, low, high) in
            ap (λ n. get_or (overwritten shown at xs) n 0) (sym there) ∙ overwritten_inside shown at xs j short
            ∙ sym (overwritten_inside log at xs j short) ∙ ap (λ n. get_or (overwritten log at xs) n 0) there
            ∙ sym (its_byte (overwritten log at xs) i below) ∙ ap (λ (l : List ℕ). get_or l i 0) now

        each : (i : ℕ) → i < len → get_or (overwritten shown at xs) (lid + i) 0 ≡ get_or text i 0
        each i below = elim (cases_lt (lid + i) at) [
          | inl before ↦ outside i below (inl before)
          | inr low ↦ elim (cases_lt (lid + i) (at + length xs)) [ inl high ↦ inside i below low high | inr behind ↦ outside i below (inr behind) ]
        ]

-- What is shown is read of bytes that count (`Quiet: shown_read` says so of a log that runs). The segment has its slot, as each slot that isn't free has its
-- own (`HasSlots`), and its buffers lie one behind another (`IsSegment`). The buffer's entries stand in its bytes, and where it has the header it begins
-- with that (`HoldsRecords`). The mark's segment isn't above that of a buffer that isn't written, nor is the snapshot's.
module _ (sum : List ℕ → ℕ) (size : ℕ) (some : 256 ≤ size) (s : State) (m : Machine) (line : List SegmentView) (least base : ℕ) (H : History)
    (hides : Hides sum size s m line least base H) (reads : ReadsShown sum size m (cleared size m line s.log.bytes) s.log.bytes)
    (n : ℕ) (v : SegmentView) (among : slice_get line n ≡ Some v) (k : ℕ) (b : Sealed) (there : slice_get v.parts.sealed k ≡ Some b)
    (has : HasSlot size m v) (rises : LineRises size line) (beside : OthersBeside size line n v) (own : HaveOwn size (line_end size line) m)
    (place_small : v.parts.site.place + size < 2 ^ 63) (inside : b.end ≤ length v.parts.bytes)
    (begins : (begin_at v k ≡ 0) ⊎ (20 ≤ begin_at v k)) (entries : List Reserved) (chain : IsChain (max 20 (begin_at v k)) entries b.end)
    (stand : All (Stands sum size (v.parts.site.place / size) v.parts.bytes) entries) (above : base ≤ v.parts.site.place) (later : least ≤ v.parts.site.place)
    (header : begin_at v k ≡ 0 → (mark : ℤ) × IsHeader sum (take 20 v.parts.bytes) (pos v.parts.site.place) mark) where
  abbrev place : ℕ
  place = v.parts.site.place

  abbrev begin : ℕ
  begin = begin_at v k

  abbrev xs : List ℕ
  xs = bytes_between v.parts.bytes begin b.end

  abbrev at : ℕ
  at = v.parts.site.slot + begin

  abbrev under_way : State
  under_way = step (Wrote at xs xs) s

  -- the state behind the write and its sync, and the segments behind it
  abbrev pub behind : State
  behind = step Synced under_way

  abbrev pub line_behind : List SegmentView
  line_behind = set line n (written_now k v)

  abbrev before : List ℕ
  before = cleared size m line s.log.bytes

  abbrev after : List ℕ
  after = cleared size m line_behind behind.log.bytes

  rows : (v.parts.written_len ≤ begin) × (begin < b.end) × (b.end ≤ size)
  rows = within size m line s.log.bytes n v among k b there has rises beside

  long : begin + length xs ≡ b.end
  long = omega (arith, length-between v.parts.bytes begin b.end inside, rows.1)

  written_over : after ≡ overwritten before at xs
  written_over = cleared_written size m line s.log.bytes n v among k b there has rises beside xs long

  -- A text that stood in what was shown, and stands in the file behind the write, is shown behind it.
  stays : (lid : ℕ) (text : List ℕ) → part before lid (length text) ≡ text → part behind.log.bytes lid (length text) ≡ text
      → part after lid (length text) ≡ text
  stays lid text was now =
      ap (λ (l : List ℕ). part l lid (length text)) written_over
      ∙ text_written before s.log.bytes (zeroed_long (is_stale size m line) s.log.bytes) at xs (omega (arith, long, rows.1)) lid text was now

  -- So is one that was written.
  laid : (lid : ℕ) (text : List ℕ) → Covers (at, xs) lid text → part after lid (length text) ≡ text
  laid lid text c = ap (λ (l : List ℕ). part l lid (length text)) written_over ∙ stands_covered sum size before at xs lid text c

  -- Segments at multiples of the size have numbers of their own.
  one_number : (p q : ℕ) → p % size ≡ 0 → q % size ≡ 0 → p / size ≡ q / size → p ≡ q
  one_number p q first second same = omega (arith, (put_down size p).0, (put_down size q).0, first, second, ap (λ i. i * size) same)

  aligned : place % size ≡ 0
  aligned = ap (λ i. i % size) (sym has.is) ∙ own.aligned has.number has.taken

  ends : place + size ≤ line_end size line
  ends = let below = own.below has.number has.taken in let at_place = has.is in omega (arith, below, at_place)

  -- A record that the write placed is of the segment's number, and lies in its slot.
  module _ (number lid : ℕ) (text : List ℕ) (r : IsOwnRecord sum size behind number lid text)
      (placed : RecordWasPlaced sum size (asked_now at xs ∷ []) number lid text) where
    its_number : number ≡ place / size
    its_number =
        (buffer_places sum size v.parts.site (ap (λ i. i % size) has.lies ∙ mul-mod_left has.number size) place_small v.parts.bytes begin b.end rows.2 inside
        (omega (arith, rows.1, rows.2)) begins entries chain stand (asked_now at xs) refl refl number lid text placed r.kind r.page r.body r.is).0

    its_slot : (j : ℕ) → LiesInSlot size j lid text → j ≡ has.number
    its_slot j (low, high) =
        let c = placed_covers sum size (asked_now at xs) number lid text placed in
        let from = c.begins in
        let to = c.ends in
        let lies = has.lies in
        let more = record_some sum text r.kind r.page number r.body r.is in
        sym (slot_is size j lid low (omega (arith, high, more)))
        ∙ slot_is size has.number lid (omega (arith, from, lies)) (omega (arith, to, more, lies, long, rows.2))

  -- A record that is own behind the write was own before, or the write placed it.
  old_or_new : (number lid : ℕ) (text : List ℕ) → IsOwnRecord sum size behind number lid text
      → IsOwnRecord sum size s number lid text ⊎ RecordWasPlaced sum size (asked_now at xs ∷ []) number lid text
  old_or_new number lid text r = record_or_written sum size s at xs xs number lid text ((less_synced sum size under_way).records number lid text r)

  -- And so it is with a header; what the write placed is that of the segment.
  module _ (j lid : ℕ) (mark : ℤ) (h : IsOwnHeader sum size behind j lid mark) where
    abbrev was : IsOwnHeader sum size under_way j lid mark
    was = (less_synced sum size under_way).headers j lid mark h

    header_old_or_new : IsOwnHeader sum size s j lid mark ⊎ HeaderWasPlaced (asked_now at xs ∷ []) (j * size) was.text
    header_old_or_new = header_or_written sum size s at xs xs j lid mark was

    header_long : length was.text ≡ 20
    header_long = ap length was.is.is ∙ length-short_header sum (pos lid) mark

    -- it lies in the segment's slot, begins the segment, and is shown
    record IsItsHeader : Type 0 where
      slot : j ≡ has.number
      place : lid ≡ v.parts.site.place
      shown : IsHeader sum (part after (j * size) 20) (pos lid) mark

    its_header : HeaderWasPlaced (asked_now at xs ∷ []) (j * size) was.text → IsItsHeader
    its_header placed = record {
      slot = here;
      place = pos_injective lid place (one_header sum was.text (pos lid) mark (pos place) (header first).0 was.is
          (subst (λ (l : List ℕ). IsHeader sum l (pos place) (header first).0) bytes (header first).1)).0;
      shown = subst (λ (l : List ℕ). IsHeader sum l (pos lid) mark)
          (sym (ap (part after (j * size)) (sym header_long) ∙ laid (j * size) was.text covers)) was.is;
    } where
      both : (at ≡ j * size) × (take 20 xs ≡ was.text)
      both = placed_first (asked_now at xs) (j * size) was.text placed

      here : j ≡ has.number
      here =
          let lies = has.lies in
          sym (slot_is size j at (omega (arith, both.0)) (omega (arith, both.0, some)))
          ∙ slot_is size has.number at (omega (arith, lies)) (omega (arith, lies, rows.1, rows.2))

      first : begin ≡ 0
      first = let lies = has.lies in omega (arith, both.0, lies, ap (λ i. i * size) here)

      grows : 20 ≤ b.end
      grows = let up = chain_grows (max 20 begin) b.end entries chain in omega (arith, up)

      bytes : take 20 v.parts.bytes ≡ was.text
      bytes =
          sym (take-take 20 b.end v.parts.bytes grows)
          ∙ ap (λ i. take 20 (bytes_between v.parts.bytes i b.end)) (sym first)
          ∙ both.1

      covers : Covers (at, xs) (j * size) was.text
      covers = record {
        begins = omega (arith, both.0);
        ends = omega (arith, both.0, header_long, long, first, grows);
        same = ap (λ i. part xs i (length was.text)) (let none : j * size - at ≡ 0 = omega (arith, both.0) in none) ∙ ap (λ i. take i xs) header_long ∙ both.1;
      }

    -- One that was shown before is shown behind the write.
    still_shown : IsHeader sum (part before (j * size) 20) (pos lid) mark → IsHeader sum (part after (j * size) 20) (pos lid) mark
    still_shown shown =
        let text : List ℕ = short_header sum (pos lid) mark in
        let twenty : length text ≡ 20 = length-short_header sum (pos lid) mark in
        let stood : part before (j * size) (length text) ≡ text = ap (part before (j * size)) twenty ∙ shown.is in
        let same : h.text ≡ text = h.is.is in
        let stands : part behind.log.bytes (j * size) (length text) ≡ text =
        subst (λ (l : List ℕ). part behind.log.bytes (j * size) (length l) ≡ l) same (header_synced sum size under_way j lid mark h) in
        record {
          is = ap (part after (j * size)) (sym twenty) ∙ stays (j * size) text stood stands;
          place_fits = shown.place_fits;
          mark_fits = shown.mark_fits;
        }

  -- A header of the segment that was own before lies in its slot.
  old_header : (j lid : ℕ) (mark : ℤ) → IsOwnHeader sum size s j lid mark → lid ≡ place → j ≡ has.number
  old_header j lid mark h same = elim (hides.headers j lid mark (omega (arith, later, same)) h) [
    | inl shown ↦ (let its = reads.slots j lid mark shown in own.one j has.number its.0 has.taken (its.1 ∙ same ∙ sym has.is))
    | inr gone ↦ absurd (let lies = gone.below in omega (arith, lies, same, above, some))
  ]

  -- A segment that is gone is still gone: its number isn't that of the segment.
  still_gone : (j lid : ℕ) (mark : ℤ) → IsGone sum size s m base H j lid mark → IsGone sum size behind m base H j lid mark
  still_gone j lid mark gone = gone_less sum size s behind m m base base H j lid mark
      (λ i text r. elim (old_or_new (lid / size) i text r) [
        | inl old ↦ old
        | inr new ↦ absurd (
            let same = one_number lid place gone.aligned aligned (its_number (lid / size) i text r new) in
            let lies = gone.below in
            omega (arith, same, lies, above, some))
      ]) (λ its. its) (omega arith) gone

  -- So it stays.
  pub hides_written : Hides sum size behind m line_behind least base H
  hides_written = record {
    to_come = λ number lid text r.
        let end = end_set size line n v (written_now k v) among refl in
        elim (old_or_new number lid text r) [
          | inl old ↦ (let low = hides.to_come number lid text old in omega (arith, low, end))
          | inr new ↦ omega (arith, ends, end, some, (put_down size place).0, ap (λ i. i * size) (its_number number lid text r new))
        ];
    taken = λ j number lid text used lies r. elim (old_or_new number lid text r) [
      | inl old ↦ (
          let had = hides.taken j number lid text used lies old in
          (had.0, λ same. stays lid text (had.1 same) (record_synced sum size under_way number lid text r)))
      | inr new ↦ (
        (let here = ap (λ i. (slot_at m i).lsn) (its_slot number lid text r new j lies) ∙ has.is in
            omega (arith, its_number number lid text r new ∙ ap (λ i. i / size) (sym here))),
        λ same. laid lid text (placed_covers sum size (asked_now at xs) number lid text new),
      )
    ];
    free = λ i number lid text lies r j used same. elim (old_or_new number lid text r) [
      | inl old ↦ hides.free i number lid text lies old j used same
      | inr new ↦ (
          let at_place = one_number (slot_at m j).lsn place (own.aligned j used) aligned (sym same ∙ its_number number lid text r new) in
          own.one j has.number used has.taken (at_place ∙ sym has.is) ∙ sym (its_slot number lid text r new i lies))
    ];
    headers = λ j lid mark low h. elim (header_old_or_new j lid mark h) [
      | inl old ↦ elim (hides.headers j lid mark low old) [
        | inl shown ↦ inl (still_shown j lid mark h shown)
        | inr gone ↦ inr (still_gone j lid mark gone)
      ]
      | inr new ↦ inl (its_header j lid mark h new).shown
    ];
    alone = λ i j lid mark other low g h. elim (header_old_or_new i lid mark g) [
      | inl old_g ↦ elim (header_old_or_new j lid other h) [
        | inl old_h ↦ hides.alone i j lid mark other low old_g old_h
        | inr new_h ↦ (let its = its_header j lid other h new_h in old_header i lid mark old_g its.place ∙ sym its.slot)
      ]
      | inr new_g ↦ (
          let first = its_header i lid mark g new_g in
          elim (header_old_or_new j lid other h) [
            | inl old_h ↦ first.slot ∙ sym (old_header j lid other old_h first.place)
            | inr new_h ↦ first.slot ∙ sym (its_header j lid other h new_h).slot
          ])
    ];
  }
