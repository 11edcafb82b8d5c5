-- Each buffer of a log that nothing holds up is whole records, each with its sum, of which those that every reader passes over are of messages that were given up, and what fills its segment from where the log has it; and so is the current one as it would be sealed.
use Rattle.std.proofs.Common.{◌≡◌, ◌∙◌, ◌⊎◌, ◌+◌, ◌-◌, ◌/◌, ◌%◌, ◌≤◌, ◌<◌, ap, sym, refl, arith, subst, inl, inr, ℕ, ℤ, pos, suc, max, Bool, true, false, if◌then◌else◌, List, [], ◌∷◌, ◌++◌, length, length-append, length-take, length-drop, map, take, drop, Option, None, Some, is_some}
use Rattle.std.specs.Prelude.{◌<ℤ◌}
use Rattle.std.specs.List.{All, Contains, slice_get}
use Rattle.std.proofs.lemmas.Bool.{cases_lt}
use Rattle.std.proofs.lemmas.Bool.Decides.{nat_tests}
use Rattle.std.proofs.lemmas.List.{append_assoc, append-nil, drop-drop, drop-take, take-append-drop, take-append-le, take-take}
use Rattle.std.proofs.lemmas.List.Elements.{Contains-append_left, Contains-append_right, All-append, All-drop, All-head, All-cons, All-nil, All-tail, All-take}
use Rattle.sled_codec.specs.declared.serialization.message.MessageKind.{MessageKind}
use Rattle.sled_codec.specs.declared.serialization.message.MessageKind.TheVariants as kind
use Rattle.sled_codec.specs.History.{History, Message}
use Rattle.sled_codec.specs.Places.{part}
use Rattle.sled_codec.specs.Record.{short_header, short_record}
use Rattle.sled_store.specs.Device.{State, Trace}
use Rattle.sled_core.proofs.Line.Heads.{head_there}
use Rattle.sled_core.specs.Fillings.{FillingAt, filling_of, fillings_along, fillings_in}
use Rattle.sled_core.specs.inside.Shown.{shown_of}
use Rattle.sled_core.specs.HeaderMark.{mark_at}
use Rattle.sled_core.specs.Heads.{HeadAt}
use Rattle.sled_core.specs.Begun.{SegmentView, segment_view}
use Rattle.sled_core.specs.inside.Buffers.{IsChain, SpellsBlob, Stands, StandsBy, text_as, text_in}
use Rattle.sled_core.specs.Buffers.{body_in, first_open_in, item_as, message_in, none_open, open_state, pointer_as}
use Rattle.sled_core.specs.Canceled.{IsBodyAt}
use Rattle.sled_core.specs.invariants.Caps.{segment_rest}
use Rattle.sled_core.specs.declared.iobuf.ReservationState.{ReservationState}
use Rattle.sled_core.specs.declared.iobuf.ReservationState.TheVariants as state
use Rattle.sled_core.specs.declared.iobuf.Reserved.{Reserved}
use Rattle.sled_core.specs.declared.iobuf.Sealed.{Sealed}
use Rattle.sled_core.specs.declared.iobuf.SegmentPosition.{SegmentPosition}
use Rattle.sled_core.specs.declared.logger.Log.{Log}
use Rattle.sled_core.specs.invariants.Fits.{Holds}
use Rattle.sled_core.specs.inside.Fits.{HoldsLine}
use Rattle.sled_core.specs.Fits.{buffers_of, current_of, fault_of, fillings_of, given_up_of, heads_of, line_of, reserved_end, sealing_end}
use Rattle.sled_core.specs.Among.{AreAmong}
use Rattle.sled_core.specs.GivenUp.{given_up_along, given_up_in}
use Rattle.sled_core.specs.Logged.{logged}
use Rattle.sled_core.specs.Manifests.{kind_for}
use Rattle.sled_core.specs.Positions.{is_short}
use Rattle.sled_core.specs.inside.SealedBuffers.{AreSealed}
use Rattle.sled_core.specs.SealedBuffers.{bytes_between}
use Rattle.sled_core.specs.Waiting.{BufferAt, as_sealed, at_last, buffer_at, closed_now, holds_any, placed, sealed_now, turned_now, unwritten, unwritten_in, unwritten_of}
use Rattle.sled_core.specs.WholeBuffers.{AreRecordsAmong, IsFilling, IsRecordAmong, IsWholeBuffer, IsWholeText, RecordParts, records_text}
use Rattle.sled_core.proofs.Line.Closes.{by_filled, filled_up, more_of}
use Rattle.sled_core.proofs.Line.EntryPlaces.{segment_chain}
use Rattle.sled_core.proofs.Line.Ends.{with_part}
use Rattle.sled_core.proofs.Holds.Facts.{IsSegment}
use Rattle.sled_core.proofs.Line.Among.{among_same}
use Rattle.sled_core.proofs.Line.Entered.{last_used_to}
use Rattle.sled_core.proofs.Line.FillingsAlong.{as_sealed_fillings, filling_at, fillings_behind, fillings_first, fillings_front, fillings_rest, its_fillings}
use Rattle.sled_core.proofs.Line.GivenUp.{as_sealed_given, given_behind, given_first, given_front, given_in, given_rest}
use Rattle.sled_core.proofs.Line.OpenSeen.{AreLaid, begun_rest, line_laid}
use Rattle.sled_core.proofs.Line.Segments.{AreSegments, line_segments, nth_segment}
use Rattle.sled_core.proofs.Line.Shows.{number_small}
use Rattle.sled_core.proofs.Read.ScanLemmas.{aligned_number, aligned_offset}
use Rattle.sled_core.proofs.Holds.Filled.{filled_stand}
use Rattle.sled_core.proofs.Reserve.Ranges.{chain_grows}
use Rattle.sled_core.proofs.Reserve.ReserveLemmas.{kind_valid, manifest_there}

-- What fills a segment goes by the same places.
filled_at : (sum : List ℕ → ℕ) (size : ℕ) (fillings : List FillingAt) (number : ℕ) (rest : List ℕ) {place at from to : ℕ} → place ≡ at → from ≡ to → IsFilling sum size fillings number place from rest → IsFilling sum size fillings number at to rest
filled_at sum size fillings number rest {place = place} {to = to} same here filled =
    subst (λ n. IsFilling sum size fillings number n to rest) same (subst (λ n. IsFilling sum size fillings number place n rest) here filled)

-- The bytes of a text up to an offset, from another one on, are a part of it and those behind that.
between_parted : (bytes : List ℕ) (at n end : ℕ) → at + n ≤ end → bytes_between bytes at end ≡ part bytes at n ++ bytes_between bytes (at + n) end
between_parted bytes at n end le =
    let back : at + (end - at) ≡ end = omega (arith, le) in
    let front : take n (drop at (take end bytes)) ≡ part bytes at n =
    ap (take n) (ap (λ e. drop at (take e bytes)) (sym back) ∙ drop-take at (end - at) bytes) ∙ take-take n (end - at) (drop at bytes) (omega (arith, le)) in
    sym (take-append-drop n (drop at (take end bytes))) ∙ (λ i. front i ++ drop-drop n at (take end bytes) i)

-- there are none from its end on
between_none : (bytes : List ℕ) (at end : ℕ) → end ≤ at → end ≤ length bytes → bytes_between bytes at end ≡ []
between_none bytes at end le inside = none_long (bytes_between bytes at end) (omega (arith, le, length-drop at (take end bytes), length-take end bytes))
  where
    none_long : (xs : List ℕ) → length xs ≡ 0 → xs ≡ []
    none_long [] is = refl
    none_long (x ∷ xs) is = absurd (omega (arith, is))

-- what is in a record for its message has that one for its body
own_body : (blob : Option ℤ) (lid : ℕ) (body : List ℕ) → SpellsBlob blob body → IsBodyAt (pointer_as blob lid) (item_as blob body) body
own_body None lid body spells = refl
own_body (Some place) lid body spells = spells

-- Records of a segment that lies there, where these messages were given up, and this fills segments.
module _ (sum : List ℕ → ℕ) (size number : ℕ) (site : SegmentPosition) (bytes : List ℕ) (messages : List Message) (fillings : List FillingAt) where
  abbrev Stand : Reserved → Type 0
  Stand = Stands sum size number bytes

  -- From one offset to another there are whole records, and behind them at most what fills the segment.
  record HasRecords (at end : ℕ) : Type 0 where
    records : List RecordParts
    rest : List ℕ
    is : bytes_between bytes at end ≡ records_text sum number records ++ rest
    each : AreRecordsAmong sum number messages (site.place + at) records
    filled : IsFilling sum size fillings number (site.place + at + length (records_text sum number records)) (at + length (records_text sum number records)) rest

  -- A record of a reservation with this kind.
  abbrev record_as : Reserved → MessageKind → RecordParts
  record_as r k = record { kind = k; page = r.page; body = body_in bytes r }

  -- It stands in front of others.
  one_more : (r : Reserved) (end : ℕ) (k : MessageKind) → r.from + r.len ≤ end → end ≤ length bytes → text_in bytes r ≡ short_record sum k r.page number (body_in bytes r)
      → IsRecordAmong messages (site.place + r.from) (record_as r k) → HasRecords (r.from + r.len) end → HasRecords r.from end
  one_more r end k within inside is its more =
      let one : RecordParts = record_as r k in
      let text : List ℕ = records_text sum number more.records in
      let long : length (short_record sum k r.page number (body_in bytes r)) ≡ r.len =
      ap length (sym is) ∙ (let n = length-take r.len (drop r.from bytes) in let m = length-drop r.from bytes in let all : length (text_in bytes r) ≡ r.len = omega (arith, n, m, within, inside) in all) in
      let joined = length-append (short_record sum k r.page number (body_in bytes r)) text in
      record {
        records = one ∷ more.records;
        rest = more.rest;
        is = between_parted bytes r.from r.len end within
            ∙ (λ i. is i ++ more.is i)
            ∙ sym (append_assoc (short_record sum k r.page number (body_in bytes r)) text more.rest);
        each = (its, subst (λ n. AreRecordsAmong sum number messages n more.records) (let behind : site.place + (r.from + r.len) ≡ site.place + r.from + length (short_record sum k r.page number (body_in bytes r)) = omega (arith, long) in behind) more.each);
        filled = filled_at sum size fillings number more.rest (let up : site.place + (r.from + r.len) + length text ≡ site.place + r.from + length (records_text sum number (one ∷ more.records)) = omega (arith, long, joined) in up)
            (let up : r.from + r.len + length text ≡ r.from + length (records_text sum number (one ∷ more.records)) = omega (arith, long, joined) in up) more.filled;
      }

  -- What fills a segment stands alone.
  filling : (r : Reserved) (end : ℕ) → r.from + r.len ≡ size → text_in bytes r ≡ segment_rest sum size number r.from → r.from + r.len ≤ end → end ≤ size → end ≤ length bytes → Contains fillings (filling_of site r) → HasRecords r.from end
  filling r end to_end is within short inside there =
      let long : length (text_in bytes r) ≡ r.len = omega (arith, length-take r.len (drop r.from bytes), length-drop r.from bytes, within, inside) in
      let place : site.place + r.from ≡ site.place + r.from + 0 = omega arith in
      let next : site.place + (r.from + r.len) ≡ site.place + r.from + length (text_in bytes r) = omega (arith, long) in
      record {
        records = [];
        rest = text_in bytes r;
        is = between_parted bytes r.from r.len end within
            ∙ ap (λ (l : List ℕ). text_in bytes r ++ l) (between_none bytes (r.from + r.len) end (omega (arith, to_end, short)) inside) ∙ append-nil (text_in bytes r);
        each = tt;
        filled = filled_at sum size fillings number (text_in bytes r) place (let here : r.from ≡ r.from + 0 = omega arith in here) (inr (omega (arith, long, to_end), is, subst (λ n. Contains fillings (record { next = n; from = site.place + r.from })) next there));
      }

  -- One of a message or a manifest is no other.
  of_message : (r : Reserved) (place : ℕ) → kind_for r.log_kind r.page (is_some r.blob) (length (body_in bytes r)) ≡ Some r.kind → IsRecordAmong messages place (record_as r r.kind)
  of_message r place known =
      let own = kind_valid r.log_kind r.page (is_some r.blob) (length (body_in bytes r)) r.kind known in
      (own.2, own.0, manifest_there r.log_kind r.page (is_some r.blob) (length (body_in bytes r)) r.kind known, λ bad. absurd (own.1 bad))

  -- An entry that has ended.
  entry : (r : Reserved) (end : ℕ) → r.from + r.len ≤ end → end ≤ size → end ≤ length bytes → (s : ReservationState) → r.state ≡ s → open_state s ≡ false → StandsBy s sum size number bytes r
      → (r.state ≡ state.Canceled → Contains messages (message_in site bytes r)) → (r.state ≡ state.Padding → Contains fillings (filling_of site r)) → HasRecords (r.from + r.len) end → HasRecords r.from end
  entry r end within short inside state.Open is never stands given fills more = absurd (let bad : true ≡ false = never in cc)
  entry r end within short inside state.Completed is ended stands given fills more =
      one_more r end r.kind within inside (stands.text.is ∙ ap (text_as sum r.kind r.page number (body_in bytes r)) is) (of_message r (site.place + r.from) stands.text.known) more
  entry r end within short inside state.Canceled is ended stands given fills more =
      one_more r end kind.Canceled within inside (stands.text.is ∙ ap (text_as sum r.kind r.page number (body_in bytes r)) is)
      (λ bad. cc, λ bad. cc, λ bad. absurd (let never : kind.Canceled ≡ kind.BatchManifest = bad in cc), λ same. (message_in site bytes r, given is, refl, refl, own_body r.blob (site.slot + r.from) (body_in bytes r) stands.text.names)) more
  entry r end within short inside state.Manifest is ended stands given fills more =
      one_more r end r.kind within inside (stands.text.is ∙ ap (text_as sum r.kind r.page number (body_in bytes r)) is) (of_message r (site.place + r.from) stands.text.known) more
  entry r end within short inside state.Padding is ended stands given fills more = filling r end stands.to_end stands.is within short inside (fills is)

  has_records : (at end : ℕ) (rs : List Reserved) → IsChain at rs end → All Stand rs → AreAmong (given_up_in site bytes rs) messages → AreAmong (fillings_in site rs) fillings → none_open rs ≡ true → end ≤ size → end ≤ length bytes → HasRecords at end
  has_records at end [] chain stand given fills ended short inside = record { records = []; rest = []; each = tt; is = between_none bytes at end (let same : at ≡ end = chain in omega (arith, same)) inside; filled = inl refl }
  has_records at end (r ∷ rs) chain stand given fills ended short inside =
      subst (λ n. HasRecords n end) chain.0
      (by (λ rest. has_records (r.from + r.len) end rs behind (All-tail Stand r rs stand) (λ m there. given m (given_rest site bytes r rs m there)) (λ f there. fills f (fillings_rest site r rs f there)) rest short inside) (open_state r.state) refl ended)
    where
      up : r.from + r.len ≤ end
      up = let grows = chain_grows (at + r.len) end rs chain.1 in let place : r.from ≡ at = chain.0 in omega (arith, grows, place)

      behind : IsChain (r.from + r.len) rs end
      behind = subst (λ n. IsChain (n + r.len) rs end) (sym chain.0) chain.1

      by : (none_open rs ≡ true → HasRecords (r.from + r.len) end) → (o : Bool) → open_state r.state ≡ o → (if o then false else none_open rs) ≡ true → HasRecords r.from end
      by more true is bad = absurd (let never : false ≡ true = bad in cc)
      by more false is rest = entry r end up short inside r.state refl is (All-head Stand r rs stand) (λ canceled. given (message_in site bytes r) (given_first site bytes r rs canceled)) (λ padding. fills (filling_of site r) (fillings_first site r rs padding)) (more rest)

-- where none holds a buffer up, none of its reservations is open
none_ahead : (rs : List Reserved) (base : ℕ) → placed base (first_open_in rs) ≡ None → none_open rs ≡ true
none_ahead [] base is = refl
none_ahead (r ∷ rs) base is = by (none_ahead rs base) (open_state r.state) is where
  by : (placed base (first_open_in rs) ≡ None → none_open rs ≡ true) → (o : Bool) → placed base (if o then Some r.from else first_open_in rs) ≡ None → (if o then false else none_open rs) ≡ true
  by more true bad = absurd (let never : Some (base + r.from) ≡ None = bad in cc)
  by more false rest = more rest

-- The buffers of a segment, where these messages were given up, these headers aren't on the device, and this fills segments.
module _ (sum : List ℕ → ℕ) (size : ℕ) (messages : List Message) (heads : List HeadAt) (fillings : List FillingAt) where
  -- it is whole, unless it is held up
  abbrev pub WholeUnlessHeld : BufferAt → Type 0
  WholeUnlessHeld b = b.held ≡ None → IsWholeBuffer sum size messages heads fillings b

  -- An offset of a segment lies behind its header; or it is where it begins, with the header, which is one of those, and whose mark lies below it.
  abbrev BeginsBuffer : SegmentPosition → List ℕ → ℕ → Type 0
  BeginsBuffer site bytes from = (20 ≤ from) ⊎ ((from ≡ 0) × Contains heads (record { place = site.place; bytes = take 20 bytes }) × (mark : ℤ) × (mark <ℤ pos site.place) × (take 20 bytes ≡ short_header sum (pos site.place) mark))

  module _ (site : SegmentPosition) (bytes : List ℕ) (aligned : site.place % size ≡ 0) (begun : 20 ≤ length bytes) where
    abbrev number : ℕ
    number = site.place / size

    abbrev Text : ℕ → ℕ → Type 0
    Text from end = IsWholeText sum size messages heads fillings number (site.place + from) from (bytes_between bytes from end)

    abbrev Records : ℕ → ℕ → Type 0
    Records at end = HasRecords sum size number site bytes messages fillings at end

    -- Behind the header records begin,
    text_behind : (from end : ℕ) → 20 ≤ from → Records (max 20 from) end → Text from end
    text_behind from end behind has =
        let at : max 20 from ≡ from = omega (arith, behind) in
        let here : Records from end = subst (λ n. Records n end) at has in
        record {
          head = [];
          records = here.records;
          rest = here.rest;
          is = here.is;
          headed = inr (behind, refl);
          each = subst (λ n. AreRecordsAmong sum number messages n here.records) (let none : site.place + from ≡ site.place + from + 0 = omega arith in none) here.each;
          filled = filled_at sum size fillings number here.rest (ap (λ n. n + length (records_text sum number here.records)) (let none : site.place + from ≡ site.place + from + 0 = omega arith in none))
              (ap (λ n. n + length (records_text sum number here.records)) (let none : from ≡ from + 0 = omega arith in none)) here.filled;
        }

    -- and where it begins the header stands in front of them.
    text_headed : (from end : ℕ) (mark : ℤ) → from ≡ 0 → Contains heads (record { place = site.place; bytes = take 20 bytes }) → mark <ℤ pos site.place → take 20 bytes ≡ short_header sum (pos site.place) mark → 20 ≤ end → Records (max 20 from) end → Text from end
    text_headed from end mark none one below header up has =
        let at : max 20 from ≡ from + 20 = omega (arith, none) in
        let here : Records (from + 20) end = subst (λ n. Records n end) at has in
        let place : site.place ≡ site.place + from = omega (arith, none) in
        let front : part bytes from 20 ≡ take 20 bytes = ap (λ n. take 20 (drop n bytes)) none in
        let text : List ℕ = records_text sum number here.records in
        record {
          head = take 20 bytes;
          records = here.records;
          rest = here.rest;
          is = between_parted bytes from 20 end (omega (arith, none, up)) ∙ (λ i. front i ++ here.is i) ∙ sym (append_assoc (take 20 bytes) text here.rest);
          headed = inl (none, subst (λ n. Contains heads (record { place = n; bytes = take 20 bytes })) place one, mark, subst (λ n. mark <ℤ pos n) place below, header ∙ ap (λ n. short_header sum (pos n) mark) place);
          each = subst (λ n. AreRecordsAmong sum number messages n here.records)
              (let behind : site.place + (from + 20) ≡ site.place + from + length (take 20 bytes) = omega (arith, length-take 20 bytes, begun) in behind) here.each;
          filled = filled_at sum size fillings number here.rest (let behind : site.place + (from + 20) + length text ≡ site.place + from + length (take 20 bytes) + length text = omega (arith, length-take 20 bytes, begun) in behind)
              (let behind : from + 20 + length text ≡ from + length (take 20 bytes) + length text = omega (arith, length-take 20 bytes, begun) in behind) here.filled;
        }

    one_whole : (from end : ℕ) (own : List Reserved) → from < size → max 20 from ≤ end → BeginsBuffer site bytes from → Records (max 20 from) end
        → IsWholeBuffer sum size messages heads fillings (buffer_at site bytes from end own)
    one_whole from end own low up begins has =
        let offset : (site.place + from) % size ≡ from = aligned_offset site.place from size aligned low in (
          subst (λ n. IsWholeText sum size messages heads fillings n (site.place + from) ((site.place + from) % size) (bytes_between bytes from end)) (sym (aligned_number site.place from size aligned low))
              (subst (λ n. IsWholeText sum size messages heads fillings number (site.place + from) n (bytes_between bytes from end)) (sym offset)
              (elim begins [
                | inl behind ↦ text_behind from end behind has
                | inr first ↦ text_headed from end first.2 first.0 first.1 first.3 first.4 (omega (arith, up)) has
              ])),
          ap (λ n. mark_at n (bytes_between bytes from end)) (sym offset),
        )

    -- All of them.
    all_whole : (from end : ℕ) (bs : List Sealed) (rs : List Reserved) → AreSealed from rs bs → IsChain (max 20 from) rs end → end ≤ size → end ≤ length bytes → All (Stands sum size number bytes) rs
        → AreAmong (given_up_in site bytes rs) messages → AreAmong (fillings_in site rs) fillings → BeginsBuffer site bytes from → All WholeUnlessHeld (unwritten_in site bytes from bs rs)
    all_whole from end [] rs are chain short inside stand given fills begins = All-nil WholeUnlessHeld
    all_whole from end (b ∷ bs) rs are chain short inside stand given fills begins =
        by_test (all_whole b.end end bs later are.1 behind short inside (All-drop (Stands sum size number bytes) b.count rs stand) (λ m there. given m (given_behind site bytes b.count rs m there)) (λ f there. fills f (fillings_behind site b.count rs f there)) (inl (omega (arith, up)))) b.is_written
      where
        own : List Reserved
        own = take b.count rs

        later : List Reserved
        later = drop b.count rs

        behind : IsChain (max 20 b.end) later end
        behind = begun_rest from end b bs rs are chain

        up : max 20 from ≤ b.end
        up = chain_grows (max 20 from) b.end own are.0.chain

        high : b.end ≤ end
        high = let grows = chain_grows (max 20 b.end) end later behind in omega (arith, grows)

        here : WholeUnlessHeld (buffer_at site bytes from b.end own)
        here free = let rises = are.0.rises in
            one_whole from b.end own (omega (arith, rises, high, short)) up begins
            (has_records sum size number site bytes messages fillings (max 20 from) b.end own are.0.chain (All-take (Stands sum size number bytes) b.count rs stand) (λ m there. given m (given_front site bytes b.count rs m there)) (λ f there. fills f (fillings_front site b.count rs f there)) (none_ahead own site.place free) (omega (arith, high, short)) (omega (arith, high, inside)))

        by_test : All WholeUnlessHeld (unwritten_in site bytes b.end bs later) → (o : Bool)
            → All WholeUnlessHeld (if o then unwritten_in site bytes b.end bs later else buffer_at site bytes from b.end own ∷ unwritten_in site bytes b.end bs later)
        by_test rest true = rest
        by_test rest false = All-cons WholeUnlessHeld (buffer_at site bytes from b.end own) (unwritten_in site bytes b.end bs later) here rest

  -- What a segment that holds a part of a history says of its bytes.
  record IsTold (v : SegmentView) : Type 0 where
    aligned : v.parts.site.place % size ≡ 0
    begun : 20 ≤ length v.parts.bytes
    stand : All (Stands sum size (v.parts.site.place / size) v.parts.bytes) v.parts.reserved
    begins : BeginsBuffer v.parts.site v.parts.bytes v.parts.written_len

  abbrev AreTold : List SegmentView → Type 0
  AreTold [] = Unit {0}
  AreTold (v ∷ vs) = IsTold v × AreTold vs

  each_told : (vs : List SegmentView) → ((n : ℕ) (v : SegmentView) → slice_get vs n ≡ Some v → IsTold v) → AreTold vs
  each_told [] told = tt
  each_told (v ∷ vs) told = (told 0 v refl, each_told vs (λ n w there. told (suc n) w there))

  -- also once it is filled and sealed.
  filled_told : (place : ℕ) (v : SegmentView) → IsSegment size place v → length v.parts.bytes < size → IsTold v → IsTold (sealed_now (filled_up sum size v))
  filled_told place v f less told =
      let bytes : List ℕ = v.parts.bytes in
      let more : List ℕ = more_of sum size v in
      let longer = length-append bytes more in
      let front : take 20 (bytes ++ more) ≡ take 20 bytes = take-append-le 20 bytes more told.begun in
      let low = told.begun in
      record {
        aligned = told.aligned;
        begun = omega (arith, longer, low);
        stand = filled_stand sum size (v.parts.site.place / size) bytes (max 20 v.parts.written_len) v.parts.reserved (number_small size place v f) less (segment_chain v f) told.stand;
        begins = elim told.begins [ inl behind ↦ inl behind | inr first ↦ inr (first.0, subst (λ (l : List ℕ). Contains heads (record { place = v.parts.site.place; bytes = l })) (sym front) first.1, first.2, first.3, front ∙ first.4) ];
      }

  told_as_sealed : (place : ℕ) (v : SegmentView) → IsSegment size place v → IsTold v → IsTold (as_sealed sum size v)
  told_as_sealed place v f told = by_any (holds_any v) where
    sealed : IsTold (sealed_now v)
    sealed = record { aligned = told.aligned; begun = told.begun; stand = told.stand; begins = told.begins }

    by_short : (o : Bool) → IsTold (if o then closed_now sum size v else sealed_now v)
    by_short true = by_filled sum size (λ x. IsTold (sealed_now x)) v (λ less. filled_told place v f less told) (λ full. sealed)
    by_short false = sealed

    by_any : (o : Bool) → IsTold (if o then turned_now sum size v else v)
    by_any true = by_short (is_short size (length v.parts.bytes))
    by_any false = told

  line_told : (place : ℕ) (vs : List SegmentView) → AreSegments size place vs → AreTold vs → AreTold (at_last (as_sealed sum size) vs)
  line_told place [] are told = tt
  line_told place (v ∷ []) are told = (told_as_sealed place v are.0 told.0, tt)
  line_told place (v ∷ w ∷ ws) are told = (told.0, line_told (place + size) (w ∷ ws) are.1 told.1)

  along : (place : ℕ) (vs : List SegmentView) → AreLaid size place vs → AreTold vs → AreAmong (given_up_along vs) messages → AreAmong (fillings_along vs) fillings → All WholeUnlessHeld (unwritten vs)
  along place [] are told given fills = All-nil WholeUnlessHeld
  along place (v ∷ vs) are told given fills =
      let is = are.0 in
      let its = told.0 in
      All-append WholeUnlessHeld (unwritten_of v.parts) (unwritten vs)
      (all_whole v.parts.site v.parts.bytes its.aligned its.begun v.parts.written_len is.end v.parts.sealed v.parts.reserved is.are is.chain is.inside is.held its.stand (λ m there. given m (Contains-append_left (given_in v) (given_up_along vs) m there)) (λ f there. fills f (Contains-append_left (its_fillings v) (fillings_along vs) f there)) its.begins)
      (along (place + size) vs are.1 told.1 (λ m there. given m (Contains-append_right (given_in v) (given_up_along vs) m there)) (λ f there. fills f (Contains-append_right (its_fillings v) (fillings_along vs) f there)))

-- what fills the segments of a log, with the current one as it would be sealed
abbrev pub own_fillings : {D C : Type 0} → Log D C → List FillingAt
own_fillings log = record { next = sealing_end log; from = reserved_end log } ∷ fillings_of log

module _ {D C : Type 0} (trace : D → Trace) (sum : List ℕ → ℕ) (log : Log D C) (H : History) where
  abbrev size : ℕ
  size = log.config.config.segment_size

  abbrev device : State
  device = shown_of trace log

  -- What fills the current segment as it would be sealed begins where what was reserved ends.
  fills_here : is_short size (length (current_of log).parts.bytes) ≡ true → filling_at size (current_of log) ≡ record { next = sealing_end log; from = reserved_end log }
  fills_here short =
      let big = log.config.config.least in
      let end = last_used_to size log.reserved_to (segment_view log.segments.first) (map segment_view log.segments.behind.items) log.line.filled (grind (arith, nat_tests, short, big)) in
      λ i. record { next = (current_of log).parts.site.place + (if sym short i then size else length (current_of log).parts.bytes); from = sym end i }

  segment_told : HoldsLine sum log.marks size device log.fault.kept (line_of log) (logged H) → log.fault.kept ≡ None → (n : ℕ) (v : SegmentView) → slice_get (line_of log) n ≡ Some v → IsTold sum size (given_up_of log) (heads_of log) (own_fillings log) v
  segment_told holds none n v there =
      let is : IsSegment size v.parts.site.place v = nth_segment size log.segments.first.site.place (line_of log) (line_segments log) n v there in
      with_part sum size device log.fault.kept _ (line_of log) n v (logged H) holds there (λ stays own segment.
      let on = segment.written none in
      record {
        aligned = segment.records.place_begins;
        begun = is.begun;
        stand = segment.records.stand;
        begins = elim (cases_lt 0 v.parts.written_len) [
          | inl some ↦ inl (on.file.begun some)
          | inr none ↦ (
              let first : v.parts.written_len ≡ 0 = omega (arith, none) in
              let head = segment.records.header first in
              inr (first, head_there (line_of log) n v there first, head.mark, head.of_history.below, head.is))
        ];
      })

  -- Each buffer of a log that holds a history and keeps no failure is whole, unless it is held up.
  pub buffers_whole : Holds trace sum log H → fault_of log ≡ None → All (WholeUnlessHeld sum size (given_up_of log) (heads_of log) (own_fillings log)) (buffers_of sum log)
  unfolding Holds
  buffers_whole holds none =
      let line : List SegmentView = line_of log in
      let are : AreSegments size log.segments.first.site.place line = line_segments log in
      let given : List Message = given_up_of log in
      let heads : List HeadAt = heads_of log in
      let fillings : List FillingAt = own_fillings log in
      along sum size given heads fillings log.segments.first.site.place (at_last (as_sealed sum size) line) (line_laid sum size log.segments.first.site.place line are)
      (line_told sum size given heads fillings log.segments.first.site.place line are (each_told sum size given heads fillings line (λ n v there. segment_told holds.shows.holds none n v there)))
      (among_same (given_up_along (at_last (as_sealed sum size) line)) given
      (as_sealed_given sum size log.segments.first.site.place (segment_view log.segments.first) (map segment_view log.segments.behind.items) are))
      (as_sealed_fillings sum size (record { next = sealing_end log; from = reserved_end log }) (segment_view log.segments.first) (map segment_view log.segments.behind.items) fills_here)
