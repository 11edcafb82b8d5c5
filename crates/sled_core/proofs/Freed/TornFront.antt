-- A write to the slot of a segment of which a reader of what a crash leaves may come to a part: what is left reads in the slot as what was shown with the first
-- bytes of the write, up to where its reading ends, and zeros behind; or with all of it.
use Rattle.std.proofs.Common.{◌≡◌, ◌⊎◌, ◌∙◌, ◌<◌, ◌+◌, ◌-◌, ◌*◌, ◌/◌, ◌%◌, ◌≤◌, ℕ, zero, suc, ℤ, pos, List, [], ◌∷◌, ◌++◌, length, take, drop, get_or, sym, subst, arith, inl, inr, length-take}
use Rattle.std.proofs.Math.Nat.{mul-mod_left}
use Rattle.std.proofs.lemmas.Bool.{cases_lt}
use Rattle.std.proofs.lemmas.List.{take_all}
use Rattle.sled_codec.specs.declared.serialization.message.MessageHeader.{MessageHeader}
use Rattle.sled_codec.specs.History.{History}
use Rattle.sled_codec.specs.Places.{part}
use Rattle.sled_codec.specs.Record.{IsHeader}
use Rattle.sled_store.specs.Device.{State, overwritten}
use Rattle.sled_store.specs.Foreign.{Covers, IsWhole}
use Rattle.sled_store.specs.Readers.{Reads, at_start}
use Rattle.sled_store.specs.SegmentStates.{Machine}
use Rattle.sled_store.proofs.LogFile.LooseLemmas.{end_of-some}
use Rattle.sled_store.proofs.LogFile.OverwrittenLemmas.{length-overwritten}
use Rattle.sled_store.proofs.Segments.Elements.{in_first}
use Rattle.sled_core.specs.Begun.{SegmentView}
use Rattle.sled_core.specs.declared.iterator.scan.ScannedRecord.{ScannedRecord}
use Rattle.sled_core.specs.declared.iterator.scan.ScanEnd.{ScanEnd}
use Rattle.sled_core.specs.declared.iterator.scan.ScanEnd.TheVariants.{Capped, Broken}
use Rattle.sled_core.specs.Reading.{StandsAt}
use Rattle.sled_core.specs.Scan.{EndsThere, IsEnd, IsMet, IsPath, IsScan}
use Rattle.sled_core.specs.inside.Cleared.{cleared}
use Rattle.sled_core.specs.inside.OwnLog.{ReadsOwn}
use Rattle.sled_core.proofs.Freed.AlikeRecords.{path_alike}
use Rattle.sled_core.proofs.Freed.FrontWritten.{PlacedHeader, PlacedRecord, front_above, front_below}
use Rattle.sled_core.proofs.Freed.Known.{LeavesOwn, WritesSlot}
use Rattle.sled_core.proofs.Freed.LeftOwn.{read_where, shown_or_asked}
use Rattle.sled_core.proofs.Freed.OwnAlike.{alike_below, own_alike, part_alike, path_inside}
use Rattle.sled_core.proofs.Freed.ReadsAlike.{ReadsAlike, one_alike}
use Rattle.sled_core.proofs.Freed.TornUnread.{SlotReads, one_place}
use Rattle.sled_core.proofs.Read.GivesLemmas.{one_len}
use Rattle.sled_core.proofs.Read.PathLemmas.{zeros_empty}
use Rattle.sled_core.proofs.Tail.LogFileLemmas.{record_moved}
use Rattle.sled_core.proofs.Torn.TornLemmas.{after_write}
use Rattle.sled_core.proofs.Torn.TornRecords.{long_enough}
use Rattle.sled_core.proofs.Torn.WrittenParts.{ComesTo, all_there, comes_along, in_this_file, paths_joined, twenty}
use Rattle.sled_core.proofs.Torn.WrittenRecords.{AlikeAlong, AreClear, IsClear, MeetsFirst, alike_joined, laid_there, meets_front, meets_within}

-- Records that one file has from another one, and a third one too, have the same bytes in both.
pub alike_between : (a b c : List ℕ) (slot from : ℕ) (ms : List ScannedRecord) → AlikeAlong a b slot from ms → AlikeAlong a c slot from ms
    → AlikeAlong b c slot from ms
alike_between a b c slot from [] first second = tt
alike_between a b c slot from (m ∷ ms) first second = (second.0 ∙ sym first.0, second.1, alike_between a b c slot (from + m.len) ms first.2 second.2)

module _ (sum : List ℕ → ℕ) (size : ℕ) (a b : List ℕ) (slot place : ℕ) where
  -- the first of the records that are met in one file end where they do in another one
  path_taken : (n from : ℕ) (more : List ScannedRecord) (stop end : ℕ) → IsPath sum size a slot place from more stop
      → IsPath sum size b slot place from (take n more) end → IsPath sum size a slot place from (take n more) end
  path_taken zero from more stop end path other = other
  path_taken (suc n) from [] stop end path other = other
  path_taken (suc n) from (m ∷ ms) stop end path other = (path.0, path.1, path.2, path_taken n (from + m.len) ms stop end path.3 other.3)

  -- and there a record may begin or not as at each of them
  clear_taken : (until n from : ℕ) (more : List ScannedRecord) (end : ℕ) → AreClear size until from more → IsPath sum size b slot place from (take n more) end
      → IsClear size until end
  clear_taken until zero from [] end clear path = subst (IsClear size until) (sym path) clear
  clear_taken until zero from (m ∷ ms) end clear path = subst (IsClear size until) (sym path) clear.0
  clear_taken until (suc n) from [] end clear path = subst (IsClear size until) (sym path) clear
  clear_taken until (suc n) from (m ∷ ms) end clear path = clear_taken until n (from + m.len) ms end clear.1 path.3

  -- a record stands where the next one is met
  next_stands : (n from : ℕ) (more : List ScannedRecord) (stop : ℕ) → n < length more → IsPath sum size a slot place from (drop n more) stop
      → (h : MessageHeader) × (body : List ℕ) × (len : ℕ) × StandsAt sum size a (slot + from) (place / size) h body len
  unfolding IsMet
  next_stands n from [] stop few path = absurd (omega (arith, few))
  next_stands zero from (m ∷ ms) stop few (room, at_place, (h, body, stands, says), path) = (h, body, m.len, stands)
  next_stands (suc n) from (m ∷ ms) stop few path = next_stands n from ms stop (omega (arith, few)) path

module _ {sum : List ℕ → ℕ} {size : ℕ} {s : State} {m : Machine} {line : List SegmentView} {least base : ℕ} {H : History} {slot from : ℕ} {asked : List ℕ}
    {place until : ℕ} (w : WritesSlot sum size s m line least base H slot from asked place until) {now left : List ℕ}
    (l : LeavesOwn sum size s (slot * size + from) asked now left) (mark : ℤ) (header : IsHeader sum (part left (slot * size) 20) (pos place) mark)
    (own_header : PlacedHeader sum size s (cleared size m line s.log.bytes) (slot * size + from) asked now (slot * size) (part left (slot * size) 20)) where
  abbrev shown : List ℕ
  shown = cleared size m line s.log.bytes

  abbrev at : ℕ
  at = slot * size + from

  abbrev new : List ℕ
  new = overwritten shown at asked

  abbrev Header : ℕ → List ℕ → Type 0
  Header = PlacedHeader sum size s shown at asked now

  abbrev Own : ℕ → ℕ → List ℕ → Type 0
  Own = PlacedRecord sum size s shown at asked now

  some : 256 ≤ size
  some = w.known.some

  aligned : slot * size % size ≡ 0
  aligned = mul-mod_left slot size

  -- What a reader reads of the segment in what is left is own.
  whole_there : (lid : ℕ) (text : List ℕ) → (part shown lid (length text) ≡ text) ⊎ Covers (at, asked) lid text
      → IsWhole (after_write shown at asked now) lid text
  unfolding IsWhole
  whole_there lid text (inl stands) = inl stands
  whole_there lid text (inr covers) = inr ((at, asked), in_first (at, asked) [], covers)

  own_left : ReadsOwn sum size Header Own left slot
  own_left = record {
    header = λ lsn mark' is. own_header;
    records = λ lsn mark' here len is r.
        let one = one_place sum size left slot lsn place mark' mark is header in
        let read = subst (λ n. Reads sum size (n / size) (part left (slot * size) size) 20 here len) one r in
        subst (λ n. Own (n / size) (slot * size + here) (part left (slot * size + here) len)) (sym one) (
          (l.only_own.records slot place mark here len header read).0,
          whole_there (slot * size + here) (part left (slot * size + here) len)
              (read_where sum size s m line least base H w.known.hides at asked now left l.only_own slot place mark header w.taken w.its here len read),
        );
  }

  -- A file in which the segment is read as in what is left.
  module _ (file : List ℕ) (same_header : part left (slot * size) 20 ≡ part file (slot * size) 20) (met : List ScannedRecord) (stop : ℕ) (why : ScanEnd)
      (read : IsScan sum size file (slot * size) place met stop why) (read_left : IsScan sum size left (slot * size) place met stop why)
      (alike : AlikeAlong file left (slot * size) 20 met)
      (cap : why ≡ Capped → (h : MessageHeader) (body : List ℕ) (len : ℕ) → StandsAt sum size file (slot * size + stop) (place / size) h body len
      → (part left (slot * size + stop) len ≡ part file (slot * size + stop) len) × (slot * size + stop + len ≤ length left)) where
    header_in : IsHeader sum (part file (slot * size) 20) (pos place) mark
    header_in = subst (λ (l : List ℕ). IsHeader sum l (pos place) mark) same_header header

    read_as_left : SlotReads sum size s shown at asked now left H least base slot file
    read_as_left = record {
      own = own_alike sum size (omega (arith, some)) file left slot place w.reach mark header_in same_header met stop why read read_left alike cap Header
          Own own_left;
      reads = λ p mark' is.
          subst (ReadsAlike sum size file left slot) (sym (one_place sum size file slot p place mark' mark is header_in))
          (one_alike sum size file left slot place same_header met stop why read read_left alike);
      others = λ p mark' low is. inl (subst (λ (l : List ℕ). IsHeader sum l (pos p) mark') same_header is);
    }

  -- Where all is written the records go on from an offset of the segment. Up to there what is left is read as where all is written, and so is what lies behind
  -- the write.
  module _ (same_header : part left (slot * size) 20 ≡ part new (slot * size) 20) (first : ℕ) (low : 20 ≤ first) (later : from ≤ first)
      (reaches : first ≡ from → slot * size + from ≤ length shown) (before : List ScannedRecord)
      (path_before : IsPath sum size new (slot * size) place 20 before first) (alike_before : AlikeAlong new left (slot * size) 20 before)
      (more : List ScannedRecord) (stop : ℕ) (why : ScanEnd) (clear : AreClear size until first more)
      (path : IsPath sum size new (slot * size) place first more stop) (end : IsEnd sum size new (slot * size) place stop why)
      (behind : (here : ℕ) → until ≤ here → here + 32 ≤ size → ComesTo sum size new (slot * size) place here → (h : MessageHeader) (body : List ℕ) (len : ℕ)
      → StandsAt sum size new (slot * size + here) (place / size) h body len → part left (slot * size + here) len ≡ part new (slot * size + here) len) where
    -- A record to which a reader of what is left comes stands where all is written.
    same : (here : ℕ) → first ≤ here → here + 32 ≤ size → (here + 5 ≤ until) ⊎ (until ≤ here) → ComesTo sum size left (slot * size) place here
        → (h : MessageHeader) (body : List ℕ) (len : ℕ) → StandsAt sum size left (slot * size + here) (place / size) h body len
        → part new (slot * size + here) len ≡ part left (slot * size + here) len
    same here above room near comes h body len stands =
        laid_there sum size shown slot from asked left until w.covers w.clean place here (omega (arith, above, later)) near h body len stands
        (shown_or_asked sum size s m line least base H w.known.hides at asked now left l.only_own slot place mark header w.taken w.its here comes room h
        body len stands)

    path_left : IsPath sum size left (slot * size) place 20 before first
    path_left = path_alike sum size new left (slot * size) place 20 before first path_before alike_before

    abbrev Front : Type 0
    Front = MeetsFirst sum size new left (slot * size) place first more stop why

    front : Front
    front = meets_front sum size new left slot place first until same first more stop why (omega arith) clear
        (comes_along sum size left (slot * size) aligned place 20 before first path_left at_start) path end

    -- What is met in what is left.
    module _ (f : Front) where
      abbrev met : List ScannedRecord
      met = before ++ take f.count more

      met_left : IsPath sum size left (slot * size) place 20 met f.end
      met_left = paths_joined sum size left (slot * size) place 20 before first (take f.count more) f.end path_left f.path

      met_new : IsPath sum size new (slot * size) place 20 met f.end
      met_new = paths_joined sum size new (slot * size) place 20 before first (take f.count more) f.end path_before
          (path_taken sum size new left (slot * size) place f.count first more stop f.end path f.path)

      met_alike : AlikeAlong new left (slot * size) 20 met
      met_alike = alike_joined new left (slot * size) sum size new place 20 before first (take f.count more) path_before alike_before f.alike

      scan_left : IsScan sum size left (slot * size) place met f.end f.ending
      unfolding IsScan
      scan_left = (met_left, f.ends)

      above : first ≤ f.end
      above = (meets_within sum size new left (slot * size) place first more stop why f).0

      clear_there : IsClear size until f.end
      clear_there = clear_taken sum size new left (slot * size) place until f.count first more f.end clear f.path

      comes_left : ComesTo sum size left (slot * size) place f.end
      comes_left = comes_along sum size left (slot * size) aligned place 20 met f.end met_left at_start

      comes_new : ComesTo sum size new (slot * size) place f.end
      comes_new = comes_along sum size new (slot * size) aligned place 20 met f.end met_new at_start

      -- All of the records are met, and the reading ends as where all is written.
      module _ (ends : f.end ≡ stop) (is : f.ending ≡ why) where
        end_new : IsEnd sum size new (slot * size) place f.end f.ending
        end_new = subst (λ n. IsEnd sum size new (slot * size) place n f.ending) (sym ends) (subst (IsEnd sum size new (slot * size) place stop) (sym is) end)

        scan_new : IsScan sum size new (slot * size) place met f.end f.ending
        unfolding IsScan
        scan_new = (met_new, end_new)

        cap_there : f.ending ≡ Capped → (h : MessageHeader) (body : List ℕ) (len : ℕ) → StandsAt sum size new (slot * size + f.end) (place / size) h body len
            → (part left (slot * size + f.end) len ≡ part new (slot * size + f.end) len) × (slot * size + f.end + len ≤ length left)
        unfolding EndsThere
        cap_there capped h body len stands =
            let is_end = subst (IsEnd sum size left (slot * size) place f.end) capped f.ends in
            let room = is_end.0 in
            let (h', body', len', stands', is_cap) = is_end.1 in
            let alike = same f.end above room (clear_there room) comes_left h' body' len' stands' in
            let there = stands'.in_file in
            let some' = long_enough sum size left (slot * size + f.end) (place / size) h' body' len' stands' in
            let whole = all_there sum size left (slot * size + f.end) (place / size) h' body' len' stands' in
            let also = record_moved sum size left new (slot * size + f.end) (place / size) h' body' len' alike
            (in_this_file sum size new left (slot * size + f.end) len' (omega (arith, some')) whole alike) stands' in
            let one : len' ≡ len = one_len sum size new (slot * size + f.end) (place / size) h' h body' body len' len also stands in (
              subst (λ n. part left (slot * size + f.end) n ≡ part new (slot * size + f.end) n) one (sym alike),
              omega (arith, there, one),
            )

        all_slot : SlotReads sum size s shown at asked now left H least base slot new
        all_slot = read_as_left new same_header met f.end f.ending scan_new scan_left met_alike cap_there

      -- One more stands there where all is written, but not in what is left.
      module _ (broken : f.ending ≡ Broken) (h : MessageHeader) (body : List ℕ) (len : ℕ)
          (stands : StandsAt sum size new (slot * size + f.end) (place / size) h body len) where
        end_left : IsEnd sum size left (slot * size) place f.end Broken
        end_left = subst (IsEnd sum size left (slot * size) place f.end) broken f.ends

        in_write : f.end + 5 ≤ until
        unfolding EndsThere
        in_write = elim (clear_there end_left.0) [
          | inl near ↦ near
          | inr far ↦ (
              let alike = behind f.end far end_left.0 comes_new h body len stands in
              let eight = long_enough sum size new (slot * size + f.end) (place / size) h body len stands in
              let whole = all_there sum size new (slot * size + f.end) (place / size) h body len stands in
              absurd (end_left.1 h body len (record_moved sum size new left (slot * size + f.end) (place / size) h body len alike
              (in_this_file sum size left new (slot * size + f.end) len (omega (arith, eight)) whole alike) stands)))
        ]

        -- So many bytes of the write are read.
        abbrev count : ℕ
        count = f.end - from

        abbrev front_only : List ℕ
        front_only = overwritten shown at (take count asked)

        reaches_there : at + count ≡ slot * size + f.end
        reaches_there = omega (arith, above, later)

        below : (i : ℕ) → i < slot * size + f.end → get_or front_only i 0 ≡ get_or new i 0
        below i under = front_below shown at asked count i (omega (arith, under, reaches_there))

        new_inside : slot * size + f.end ≤ length new
        new_inside =
            let whole = twenty sum size left (slot * size) (pos place) mark header in
            path_inside sum size new (slot * size) place 20 met f.end
            (in_this_file sum size new left (slot * size) 20 (omega arith) whole (sym same_header)) met_new

        inside : slot * size + f.end ≤ length front_only
        inside = elim (cases_lt count (length asked)) [
          | inr all ↦ subst (λ (l : List ℕ). slot * size + f.end ≤ length (overwritten shown at l)) (sym (take_all count asked all)) new_inside
          | inl less ↦ elim (cases_lt 0 count) [
            | inl more_bytes ↦ (
                let long = length-take count asked in
                omega (
                  arith,
                  length-overwritten shown at (take count asked),
                  end_of-some at (length (take count asked)) (omega (arith, long, more_bytes, less)),
                  long,
                  less,
                  reaches_there,
                ))
            | inr none ↦ (
                let at_from = reaches (omega (arith, none, above, later)) in
                omega (arith, length-overwritten shown at (take count asked), at_from, none, above, later))
          ]
        ]

        front_header : part left (slot * size) 20 ≡ part front_only (slot * size) 20
        front_header = same_header ∙ sym (part_alike new front_only (slot * size) 20 (omega (arith, new_inside, above, low)) (omega (arith, inside, above, low))
            (λ i over under. below i (omega (arith, under, above, low))))

        front_alike : AlikeAlong new front_only (slot * size) 20 met
        front_alike = alike_below sum size new front_only (slot * size) place f.end inside below 20 met f.end met_new (omega arith)

        front_ends : IsEnd sum size front_only (slot * size) place f.end Broken
        unfolding EndsThere
        front_ends = (
          end_left.0,
          zeros_empty sum size front_only (slot * size + f.end) (place / size)
              (front_above shown at asked count (slot * size + f.end + 4) (omega (arith, reaches_there))
              ∙ w.clean (slot * size + f.end + 4) (omega (arith, above, later)) (omega (arith, in_write))),
        )

        front_scan : IsScan sum size front_only (slot * size) place met f.end Broken
        unfolding IsScan
        front_scan = (path_alike sum size new front_only (slot * size) place 20 met f.end met_new front_alike, front_ends)

        left_scan : IsScan sum size left (slot * size) place met f.end Broken
        unfolding IsScan
        left_scan = (met_left, end_left)

        front_slot : SlotReads sum size s shown at asked now left H least base slot front_only
        front_slot = read_as_left front_only front_header met f.end Broken front_scan left_scan
            (alike_between new front_only left (slot * size) 20 met front_alike met_alike)
            (λ capped. absurd (let never : Broken ≡ Capped = capped in cc))

      -- So some of the write is read.
      abbrev pub ReadsFront : Type 0
      ReadsFront = (n : ℕ) × SlotReads sum size s shown at asked now left H least base slot (overwritten shown at (take n asked))

      by_front : ReadsFront
      unfolding EndsThere
      by_front = elim f.how [
        | inr (few, broken) ↦ (
            let next = next_stands sum size new left (slot * size) place f.count f.end more stop few f.rest in
            (f.end - from, front_slot broken next.0 next.1 next.2 next.3))
        | inl (all, ends, alike) ↦ elim alike [
          | inl is ↦ (
            length asked,
            subst (λ (l : List ℕ). SlotReads sum size s shown at asked now left H least base slot (overwritten shown at l))
                (sym (take_all (length asked) asked (omega arith)))
                (all_slot ends is),
          )
          | inr (capped, broken) ↦ (
              let is_end = subst (λ n. IsEnd sum size new (slot * size) place n Capped) (sym ends)
              (subst (IsEnd sum size new (slot * size) place stop) capped end) in
              let cap = is_end.1 in
              (f.end - from, front_slot broken cap.0 cap.1 cap.2 cap.3))
        ]
      ]

    pub front_reads : (n : ℕ) × SlotReads sum size s shown at asked now left H least base slot (overwritten shown at (take n asked))
    front_reads = by_front front
