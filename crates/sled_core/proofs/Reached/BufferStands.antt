-- Reservations that have ended stand in a file one behind another where their bytes are there, whatever else the file has.
use Rattle.std.proofs.lemmas.Int.{ints}
use Rattle.sled_codec.specs.Spelling.{low_first}
use Rattle.std.proofs.Common.{◌⊎◌, inl, inr, is_some, ℤ, Option, None, Some, pos, ◌≡◌, ◌≢◌, ◌≤◌, ◌<◌, ◌+◌, ◌-◌, ◌/◌, ◌%◌, ◌^◌, ◌∙◌, ℕ, max, true, List, [], ◌∷◌, ◌++◌, length, drop, get_or, sym, ap, arith, refl, subst, length-take, length-drop}
use Rattle.std.specs.List.{All}
use Rattle.std.proofs.lemmas.Grind.{same_number_lists}
use Rattle.std.proofs.lemmas.List.{get_or-take, get_or-drop}
use Rattle.std.proofs.lemmas.List.Elements.{All-tail}
use Rattle.sled_codec.specs.declared.result.DiskPtr.{DiskPtr}
use Rattle.sled_codec.specs.declared.result.DiskPtr.TheVariants as ptr
use Rattle.sled_codec.specs.declared.serialization.message.LogKind.{LogKind}
use Rattle.sled_codec.specs.declared.serialization.message.MessageHeader.{MessageHeader}
use Rattle.sled_codec.specs.declared.serialization.message.MessageKind.{MessageKind}
use Rattle.sled_codec.specs.declared.serialization.message.MessageKind.TheVariants as kind
use Rattle.sled_codec.specs.Kinds.{kind_written}
use Rattle.sled_codec.specs.Pointers.{lid_of}
use Rattle.sled_codec.specs.Sums.{flipped}
use Rattle.sled_codec.specs.Places.{part}
use Rattle.sled_codec.specs.Record.{short_record, IsRecord}
use Rattle.sled_codec.specs.History.{Message}
use Rattle.sled_codec.proofs.Records.{short_is_record}
use Rattle.sled_store.specs.Device.{overwritten}
use Rattle.sled_store.proofs.LogFile.LooseLemmas.{end_of-some}
use Rattle.sled_store.proofs.LogFile.OverwrittenLemmas.{length-overwritten}
use Rattle.sled_core.specs.declared.iobuf.ReservationState.{ReservationState}
use Rattle.sled_core.specs.declared.iobuf.ReservationState.TheVariants.{Open, Completed, Canceled, Manifest, Padding}
use Rattle.sled_core.specs.declared.iobuf.Reserved.{Reserved}
use Rattle.sled_core.specs.declared.iobuf.SegmentPosition.{SegmentPosition}
use Rattle.sled_core.specs.declared.iterator.scan.ScannedRecord.{ScannedRecord}
use Rattle.sled_core.specs.declared.iterator.scan.RecordContent.{RecordContent}
use Rattle.sled_core.specs.declared.iterator.scan.RecordContent.TheVariants.{BatchStart, Gives, NamesBlob, Skipped}
use Rattle.sled_core.specs.inside.Buffers.{SpellsBlob, text_as, IsChain, completed_in, HasText, NoPadding, Stands}
use Rattle.sled_core.specs.Buffers.{body_in, item_as, pointer_as, message_in, none_open}
use Rattle.sled_core.specs.inside.SealedBuffers.{Agrees}
use Rattle.sled_core.specs.LogFile.{MessageStands, StandsHere}
use Rattle.sled_core.specs.Reading.{StandsAt}
use Rattle.sled_core.specs.inside.Recoverable.{MeetsMessage, NamesBlobOf, StandsInline}
use Rattle.sled_core.specs.Scan.{IsMet, IsPath}
use Rattle.sled_core.proofs.Reserve.CompletesLemmas.{kind_of_message}
use Rattle.sled_core.proofs.Reserve.MarksLemmas.{blobless, kind_of_manifest}
use Rattle.sled_core.proofs.Reached.OpenTickets.{by_first}
use Rattle.sled_core.proofs.Read.GivesLemmas.{kind_blob}
use Rattle.sled_core.proofs.Read.PathLemmas.{is_met}
use Rattle.sled_core.proofs.Read.ScanLemmas.{aligned_number, aligned_offset}
use Rattle.sled_core.proofs.Reserve.Entries.{completed_plain, reserved_in}
use Rattle.sled_core.proofs.Reserve.Ranges.{all_own, chain_grows}

-- what a record of this kind says of its message
abbrev pub content_of : MessageKind → LogKind → ℕ → DiskPtr → RecordContent
content_of k does page (ptr.Inline lid) = Gives does page (ptr.Inline lid)
content_of k does page (ptr.Blob lid place) = NamesBlob k page lid place

-- what a reader meets of a reservation that has ended (a padding isn't met: the reading ends there)
abbrev pub met_as : ReservationState → MessageKind → Message → ScannedRecord
met_as Canceled k m = record { place = m.place; len = m.size; what = Skipped }
met_as Manifest k m = record { place = m.place; len = m.size; what = BatchStart (pos (low_first m.bytes)) }
met_as _ k m = record { place = m.place; len = m.size; what = content_of k m.kind m.page m.pointer }

-- and of some, by place
abbrev pub met_in : SegmentPosition → List ℕ → List Reserved → List ScannedRecord
met_in site bytes [] = []
met_in site bytes (r ∷ rs) = met_as r.state r.kind (message_in site bytes r) ∷ met_in site bytes rs

-- the record of a message stands in the current segment below an offset, where its pointer says, if its item is there
abbrev pub StandsOwn : (List ℕ → ℕ) → ℕ → List ℕ → SegmentPosition → ℕ → Message → Type 0
StandsOwn sum size log site to m = (lid : ℕ) → m.pointer ≡ ptr.Inline lid → StandsHere sum size log site to lid m

-- Where from one offset of a segment up to another the file has the bytes of its buffer, the parts of both are the same.
pub same_part : (log : List ℕ) (slot : ℕ) (bytes : List ℕ) (from to : ℕ) → Agrees log slot bytes from to → (k n : ℕ) → from ≤ k → k + n ≤ to → part log (slot + k) n ≡ part bytes k n
same_part log slot bytes from to agrees k n le within =
    let in_file = agrees.in_file in
    let in_bytes = agrees.in_bytes in
    let long : length (part log (slot + k) n) ≡ n = omega (arith, length-take n (drop (slot + k) log), length-drop (slot + k) log, within, in_file) in
    let also : length (part bytes k n) ≡ n = omega (arith, length-take n (drop k bytes), length-drop k bytes, within, in_bytes) in
    same_number_lists (part log (slot + k) n) (part bytes k n) (long ∙ sym also) (λ j below.
    let lt : j < n = omega (arith, below, long) in
    let at : slot + k + j ≡ slot + (k + j) = omega arith in
    get_or-take n (drop (slot + k) log) j 0 lt ∙ get_or-drop (slot + k) log j 0
    ∙ ap (λ i. get_or log i 0) at ∙ agrees.same (k + j) (omega (arith, le)) (omega (arith, lt, within))
    ∙ sym (get_or-take n (drop k bytes) j 0 lt ∙ get_or-drop k bytes j 0))

module _ (sum : List ℕ → ℕ) (size : ℕ) (site : SegmentPosition) (log bytes : List ℕ) (from to : ℕ) (agrees : Agrees log site.slot bytes from to) (short : to ≤ size)
    (place_begins : site.place % size ≡ 0) (slot_begins : site.slot % size ≡ 0) (slot_small : site.slot + size < 2 ^ 63) (number_small : site.place / size < 2 ^ 63) where
  abbrev number : ℕ
  number = site.place / size

  -- One that has ended.
  module _ (r : Reserved) (stands : HasText sum number bytes r) (behind : from ≤ r.from) (within : r.from + r.len ≤ to) where
    abbrev body : List ℕ
    body = body_in bytes r

    text_there : part log (site.slot + r.from) r.len ≡ text_as sum r.kind r.page number body r.state
    text_there = same_part log site.slot bytes from to agrees r.from r.len behind within ∙ stands.is

    offset : (site.slot + r.from) % size ≡ r.from
    offset = aligned_offset site.slot r.from size slot_begins (let h = stands.headed in let l = stands.long in omega (arith, within, short, h, l))

    body_short : length body ≤ r.len
    body_short = let long = stands.long in omega (arith, length-take (r.len - r.header_len) (drop (r.from + r.header_len) bytes))

    -- it is a record of a kind
    as_record : (k : MessageKind) → k ≢ kind.Corrupted → IsRecord sum (short_record sum k r.page number body) k r.page number body
    as_record k valid = short_is_record sum k r.page number body valid stands.page (omega (arith, number_small)) (omega (arith, body_short, within, short, slot_small))

    abbrev header_as : List ℕ → MessageKind → MessageHeader
    header_as head k = record { crc32 = flipped (sum (body ++ drop 4 head)); kind = k; segment_number = record { 0 = number }; pid = r.page; len = length body }

    -- that stands in the file
    record_stands : (k : MessageKind) (valid : k ≢ kind.Corrupted) → part log (site.slot + r.from) r.len ≡ short_record sum k r.page number body
        → StandsAt sum size log (site.slot + r.from) number (header_as (as_record k valid).header k) body r.len
    record_stands k valid there =
        let in_file = agrees.in_file in
        let is = as_record k valid in
        record {
          header = is.header;
          spelled = is.spelled;
          is = there ∙ is.is;
          counted = refl;
          numbered = refl;
          summed = refl;
          valid = valid;
          in_file = omega (arith, within, in_file);
          in_slot = omega (arith, offset, within, short);
          small = omega (arith, within, short, slot_small);
        }

    -- completed, it is that of its message
    record_there : r.state ≡ Completed → part log (site.slot + r.from) r.len ≡ short_record sum r.kind r.page number body
    record_there is = text_there ∙ ap (text_as sum r.kind r.page number body) is

    its_kind : r.state ≡ Completed → kind_written r.log_kind r.page (is_some r.blob) ≡ Some r.kind
    its_kind is = kind_of_message r.log_kind r.page (is_some r.blob) (length body) r.kind stands.known (stands.whole is)

    -- where it has its item
    pub one_stands : r.state ≡ Completed → r.blob ≡ None → MessageStands sum size log (site.slot + r.from) number (message_in site bytes r)
    one_stands is plain =
        let in_body : MessageStands sum size log (site.slot + r.from) number (record (message_in site bytes r) { bytes = body }) = record {
          header = header_as (as_record r.kind stands.valid).header r.kind;
          stands = record_stands r.kind stands.valid (record_there is);
          known = ap (λ (o : Option ℤ). kind_written r.log_kind r.page (is_some o)) (sym plain) ∙ its_kind is;
          short = record_there is;
          page = refl;
        } in
        subst (λ (l : List ℕ). MessageStands sum size log (site.slot + r.from) number (record (message_in site bytes r) { bytes = l })) (sym (ap (λ (o : Option ℤ). item_as o body) plain)) in_body

    -- in the segment of its place
    in_its_segment : r.state ≡ Completed → r.from + 32 ≤ size → r.blob ≡ None → MessageStands sum size log (site.slot + r.from) ((site.place + r.from) / size) (message_in site bytes r)
    in_its_segment is room plain =
        let place : number ≡ (site.place + r.from) / size = sym (aligned_number site.place r.from size place_begins (omega (arith, room))) in
        subst (λ n. MessageStands sum size log (site.slot + r.from) n (message_in site bytes r)) place (one_stands is plain)

    pub one_inline : r.state ≡ Completed → r.from + 32 ≤ size → StandsInline sum size log (message_in site bytes r) (message_in site bytes r).pointer
    one_inline is room = by r.blob refl where
      by : (o : Option ℤ) → r.blob ≡ o → StandsInline sum size log (message_in site bytes r) (pointer_as o (site.slot + r.from))
      by None plain = in_its_segment is room plain
      by (Some place) named = tt

    -- and below the end, at its pointer
    one_own : r.state ≡ Completed → 20 ≤ r.from → r.from + 32 ≤ size → StandsOwn sum size log site to (message_in site bytes r)
    one_own is headed room lid pointer = by r.blob refl pointer where
      by : (o : Option ℤ) → r.blob ≡ o → pointer_as o (site.slot + r.from) ≡ ptr.Inline lid → StandsHere sum size log site to lid (message_in site bytes r)
      by (Some place) named same = cc
      by None plain same = subst (λ n. StandsHere sum size log site to n (message_in site bytes r)) (ap lid_of same) (record {
        at = r.from;
        place = refl;
        offset = refl;
        begins = record { behind_header = omega (arith, offset, headed); before_end = omega (arith, offset, room) };
        stands = in_its_segment is room plain;
        inside = within;
      })

    -- or it names the blob that has its item
    one_names : r.state ≡ Completed → (place : ℤ) → r.blob ≡ Some place → IsMet sum size log (site.slot + r.from) number (record { place = site.place + r.from; len = r.len; what = NamesBlob r.kind r.page (site.slot + r.from) place })
    unfolding IsMet
    one_names is place named =
        let known : kind_written r.log_kind r.page true ≡ Some r.kind = ap (λ (o : Option ℤ). kind_written r.log_kind r.page (is_some o)) (sym named) ∙ its_kind is in (
          header_as (as_record r.kind stands.valid).header r.kind,
          body,
          record_stands r.kind stands.valid (record_there is),
          (refl, refl, refl, kind_blob r.log_kind r.page r.kind known, subst (λ (o : Option ℤ). SpellsBlob o body) named stands.names),
        )

    one_met : r.state ≡ Completed → IsMet sum size log (site.slot + r.from) number (met_as Completed r.kind (message_in site bytes r))
    one_met is = by r.blob refl where
      by : (o : Option ℤ) → r.blob ≡ o → IsMet sum size log (site.slot + r.from) number (record { place = site.place + r.from; len = r.len; what = content_of r.kind r.log_kind r.page (pointer_as o (site.slot + r.from)) })
      by None plain = subst (λ (p : DiskPtr). IsMet sum size log (site.slot + r.from) number (record { place = site.place + r.from; len = r.len; what = Gives r.log_kind r.page p }))
          (ap (λ (o : Option ℤ). pointer_as o (site.slot + r.from)) plain)
          (is_met sum size log (site.slot + r.from) number (message_in site bytes r) (one_stands is plain) (ap (λ (o : Option ℤ). pointer_as o (site.slot + r.from)) plain))
      by (Some place) named = one_names is place named

    -- which is what a reader meets of its message
    pub one_meets : r.state ≡ Completed → MeetsMessage (met_as Completed r.kind (message_in site bytes r)) (message_in site bytes r)
    one_meets is = record { place = refl; len = refl; what = by r.blob refl } where
      by : (o : Option ℤ) → r.blob ≡ o → (content_of r.kind r.log_kind r.page (pointer_as r.blob (site.slot + r.from)) ≡ Gives r.log_kind r.page (pointer_as r.blob (site.slot + r.from))) ⊎ NamesBlobOf (content_of r.kind r.log_kind r.page (pointer_as r.blob (site.slot + r.from))) (message_in site bytes r)
      by None plain = inl (subst (λ (o : Option ℤ). content_of r.kind r.log_kind r.page (pointer_as o (site.slot + r.from)) ≡ Gives r.log_kind r.page (pointer_as o (site.slot + r.from))) (sym plain) refl)
      by (Some place) named =
          let pointer : pointer_as r.blob (site.slot + r.from) ≡ ptr.Blob (site.slot + r.from) place = ap (λ (o : Option ℤ). pointer_as o (site.slot + r.from)) named in
          inr (r.kind, site.slot + r.from, place, pointer, ap (λ (o : Option ℤ). kind_written r.log_kind r.page (is_some o)) (sym named) ∙ its_kind is, ap (content_of r.kind r.log_kind r.page) pointer)

    -- aborted, it is passed over
    one_skips : r.state ≡ Canceled → IsMet sum size log (site.slot + r.from) number (met_as Canceled r.kind (message_in site bytes r))
    unfolding IsMet
    one_skips is =
        let valid : kind.Canceled ≢ kind.Corrupted = λ same. cc in
        (header_as (as_record kind.Canceled valid).header kind.Canceled, body, record_stands kind.Canceled valid (text_there ∙ ap (text_as sum r.kind r.page number body) is), refl)

    -- an ended manifest begins a batch, with the peg that its body has
    one_batch : r.state ≡ Manifest → IsMet sum size log (site.slot + r.from) number (met_as Manifest r.kind (message_in site bytes r))
    unfolding IsMet
    one_batch is =
        let its = kind_of_manifest r.log_kind r.page (is_some r.blob) (length body) r.kind stands.known (stands.manifest is) in
        let peg : ℕ = low_first body in
        let small = stands.pegged is in
        let whole : item_as r.blob body ≡ body = ap (λ (o : Option ℤ). item_as o body) (blobless r.blob its.2) in
        subst (λ (l : List ℕ). IsMet sum size log (site.slot + r.from) number (record { place = site.place + r.from; len = r.len; what = BatchStart (pos (low_first l)) })) (sym whole) (
          header_as (as_record r.kind stands.valid).header r.kind,
          body,
          record_stands r.kind stands.valid (text_there ∙ ap (text_as sum r.kind r.page number body) is),
          (
            its.1,
            record { unsigned = record { long = its.0; value = refl; small = omega (arith, small) }; in_range = omega (arith, ints, small) },
          ),
        )

    met_by : (s : ReservationState) → r.state ≡ s → (s ≡ Open → ⊥) → s ≢ Padding → IsMet sum size log (site.slot + r.from) number (met_as s r.kind (message_in site bytes r))
    met_by Open is not_open plain = absurd (not_open refl)
    met_by Completed is not_open plain = one_met is
    met_by Canceled is not_open plain = one_skips is
    met_by Manifest is not_open plain = one_batch is
    met_by Padding is not_open plain = absurd (plain refl)

  -- They are met one behind another.
  pub path_in : (at : ℕ) (rs : List Reserved) → from ≤ at → IsChain at rs to → All (Stands sum size number bytes) rs → All NoPadding rs → none_open rs ≡ true
      → IsPath sum size log site.slot site.place at (met_in site bytes rs) to
  path_in at [] behind chain stand plain closed = sym chain
  path_in at (r ∷ rs) behind chain stand plain closed =
      let ended = by_first r.state rs closed in
      let here : r.from ≡ at = chain.0 in
      let grows : at + r.len ≤ to = chain_grows (at + r.len) to rs chain.1 in
      let stands = reserved_in sum size number bytes r (plain 0 r (omega arith)) (stand 0 r (omega arith)) in
      let has_room : r.from + 32 ≤ size = stands.room in
      let met = met_by r stands.text (omega (arith, here, behind)) (omega (arith, here, grows)) r.state refl ended.0 (plain 0 r (omega arith)) in
      let its_place : (met_as r.state r.kind (message_in site bytes r)).place ≡ site.place + r.from = met_place r.state r.kind (message_in site bytes r) in
      let its_len : (met_as r.state r.kind (message_in site bytes r)).len ≡ r.len = met_len r.state r.kind (message_in site bytes r) in
      let rest = path_in (at + r.len) rs (omega (arith, behind)) chain.1 (All-tail (Stands sum size number bytes) r rs stand) (All-tail NoPadding r rs plain) ended.1 in (
        omega (arith, here, has_room),
        its_place ∙ ap (λ n. site.place + n) here,
        subst (λ n. IsMet sum size log (site.slot + n) number (met_as r.state r.kind (message_in site bytes r))) here met,
        subst (λ n. IsPath sum size log site.slot site.place (at + n) (met_in site bytes rs) to) (sym its_len) rest,
      )
    where
      met_place : (s : ReservationState) (k : MessageKind) (m : Message) → (met_as s k m).place ≡ m.place
      met_place Open k m = refl
      met_place Completed k m = refl
      met_place Canceled k m = refl
      met_place Manifest k m = refl
      met_place Padding k m = refl

      met_len : (s : ReservationState) (k : MessageKind) (m : Message) → (met_as s k m).len ≡ m.size
      met_len Open k m = refl
      met_len Completed k m = refl
      met_len Canceled k m = refl
      met_len Manifest k m = refl
      met_len Padding k m = refl

  -- The messages of those that were completed stand at their pointers.
  pub own_in : (at : ℕ) (rs : List Reserved) → max 20 from ≤ at → IsChain at rs to → All (Stands sum size number bytes) rs → All (StandsOwn sum size log site to) (completed_in site bytes rs)
  own_in at [] behind chain stand = λ k d lt. absurd (omega arith)
  own_in at (r ∷ rs) behind chain stand =
      let here : r.from ≡ at = chain.0 in
      let grows : at + r.len ≤ to = chain_grows (at + r.len) to rs chain.1 in
      let rest = own_in (at + r.len) rs (omega (arith, behind)) chain.1 (All-tail (Stands sum size number bytes) r rs stand) in
      all_own (StandsOwn sum size log site to) r.state (message_in site bytes r) (completed_in site bytes rs)
      (λ own.
      let stands = reserved_in sum size number bytes r (completed_plain r.state own) (stand 0 r (omega arith)) in
      one_own r stands.text (omega (arith, here, behind)) (omega (arith, here, grows)) own (omega (arith, here, behind)) stands.room) rest

-- The bytes that are written are there.
module _ (old bytes : List ℕ) (slot from : ℕ) (behind : from < length bytes) where
  abbrev asked : List ℕ
  asked = drop from bytes

  abbrev new : List ℕ
  new = overwritten old (slot + from) asked

  pub written_within : slot + length bytes ≤ length new
  written_within = omega (arith, length-overwritten old (slot + from) asked, end_of-some (slot + from) (length asked) (omega (arith, length-drop from bytes, behind)), length-drop from bytes, behind)
