-- The write of a buffer of a segment lays down records of the segment's number alone, and only those of its entries: each stands where one of these begins.
use Rattle.std.proofs.Common.{◌≡◌, ◌≢◌, ◌⊎◌, ◌∙◌, ◌≤◌, ◌<◌, ◌+◌, ◌-◌, ◌/◌, ◌%◌, ◌^◌, ℕ, max, List, [], ◌∷◌, ◌++◌, length, drop, replicate, get_or, refl, sym, ap, subst, arith, inl, inr, length-take, length-drop}
use Rattle.std.specs.List.{All, Contains}
use Rattle.std.proofs.Math.Nat.{div-mul-le_self}
use Rattle.std.proofs.lemmas.Bool.{cases_lt}
use Rattle.std.proofs.lemmas.List.{append_assoc, get_or-append-add, get_or-drop, get_or-replicate, get_or-take, length-replicate, take-append-drop}
use Rattle.std.proofs.lemmas.List.Elements.{All-head, All-tail}
use Rattle.sled_codec.specs.declared.serialization.message.MessageKind.{MessageKind}
use Rattle.sled_codec.specs.declared.serialization.message.MessageKind.TheVariants as kind
use Rattle.sled_codec.specs.Places.{part}
use Rattle.sled_codec.specs.Record.{IsRecord, short_record}
use Rattle.sled_codec.proofs.Records.{one_message, one_record, short_is_record}
use Rattle.sled_store.specs.Device.{Placement}
use Rattle.sled_store.specs.Foreign.{IsReached, at_first, behind, first_record, RecordWasPlaced}
use Rattle.sled_store.proofs.Own.NoRecord.{no_kind}
use Rattle.sled_store.proofs.Own.ReachedLemmas.{record_some}
use Rattle.sled_store.proofs.Segments.Elements.{in_cases, in_first, in_nothing, in_rest}
use Rattle.sled_core.specs.declared.iobuf.ReservationState.{ReservationState}
use Rattle.sled_core.specs.declared.iobuf.ReservationState.TheVariants.{Open, Completed, Canceled, Manifest, Padding}
use Rattle.sled_core.specs.declared.iobuf.Reserved.{Reserved}
use Rattle.sled_core.specs.declared.iobuf.SegmentPosition.{SegmentPosition}
use Rattle.sled_core.specs.inside.Buffers.{IsChain, IsPadding, Stands, StandsBy, StandsReserved, text_as, text_in}
use Rattle.sled_core.specs.inside.Caps.{cap_page, cap_record}
use Rattle.sled_core.specs.Buffers.{body_in}
use Rattle.sled_core.specs.SealedBuffers.{bytes_between}
use Rattle.sled_core.proofs.OwnLog.Written.{first_in}
use Rattle.sled_core.proofs.Reached.CapStands.{rest_has_cap, rest_is_zeros}
use Rattle.sled_core.proofs.Reserve.Ranges.{chain_grows}
use Rattle.sled_core.proofs.Sealed.Covering.{part-between}
use Rattle.sled_core.proofs.Sealed.OneWritten.{length-between}

-- A record stands where one of these entries of a segment begins that has ended, and is what that has; or it is the Cap with which that fills the segment.
pub record IsOfEntry (sum : List ℕ → ℕ) (size number : ℕ) (bytes : List ℕ) (own : List Reserved) (at : ℕ) (text : List ℕ) : Type 0 where
  pub entry : Reserved
  pub there : Contains own entry
  pub here : entry.from ≡ at
  pub ended : entry.state ≢ Open
  pub is : (text ≡ text_in bytes entry) ⊎ ((entry.state ≡ Padding) × (text ≡ cap_record sum number (size - at - 32)))

module _ (sum : List ℕ → ℕ) (size number : ℕ) (size_small : size < 2 ^ 63) (number_small : number < 2 ^ 63) (bytes : List ℕ) (end : ℕ)
    (short : end ≤ size) (inside : end ≤ length bytes) (own : List Reserved) where
  -- From an offset on some of the entries follow, up to the end.
  record Follow (at : ℕ) : Type 0 where
    entries : List Reserved
    among : (r : Reserved) → Contains entries r → Contains own r
    chain : IsChain at entries end
    stand : All (Stands sum size number bytes) entries

  -- Or there are zeros alone, as behind a Cap.
  abbrev ZerosFrom : ℕ → Type 0
  ZerosFrom at = (i : ℕ) → at ≤ i → i < end → get_or bytes i 0 ≡ 0

  abbrev GoesOn : ℕ → Type 0
  GoesOn at = Follow at ⊎ ZerosFrom at

  -- a record at an offset, of whatever number
  module _ (at len number' : ℕ) (k : MessageKind) (page : ℕ) (body : List ℕ) (fits : at + len ≤ end)
      (rec : IsRecord sum (part bytes at len) k page number' body) where
    abbrev text : List ℕ
    text = part bytes at len

    abbrev Told : Type 0
    Told = (number' ≡ number) × IsOfEntry sum size number bytes own at text × GoesOn (at + len)

    long : 8 ≤ len
    long = let some = record_some sum text k page number' body rec in omega (arith, some, length-take len (drop at bytes))

    whole : length text ≡ len
    whole = omega (arith, fits, inside, length-take len (drop at bytes), length-drop at bytes)

    -- its fifth byte
    fifth : get_or text 4 0 ≡ get_or bytes (at + 4) 0
    fifth = get_or-take len (drop at bytes) 4 0 (omega (arith, long)) ∙ get_or-drop at bytes 4 0

    -- no record stands in zeros
    in_zeros : get_or bytes (at + 4) 0 ≡ 0 → ⊥
    in_zeros zero = no_kind sum text k page number' body rec (fifth ∙ zero)

    -- Where another one of the segment's number stands it is that one.
    module _ (other rest : List ℕ) (k' : MessageKind) (page' : ℕ) (body' : List ℕ) (its : IsRecord sum other k' page' number body')
        (front : drop at bytes ≡ other ++ rest) where
      joined : text ++ drop len (drop at bytes) ≡ other ++ rest
      joined = take-append-drop len (drop at bytes) ∙ front

      one_number : number' ≡ number
      one_number = (one_message sum text other (drop len (drop at bytes)) rest k k' page page' number' number body body' rec its joined).numbers

      one_text : text ≡ other
      one_text = one_record sum text other (drop len (drop at bytes)) rest k k' page page' number' number body body' rec its joined

    module _ (r : Reserved) (rs : List Reserved) (among : (x : Reserved) → Contains (r ∷ rs) x → Contains own x) (here : r.from ≡ at)
        (chain : IsChain (at + r.len) rs end) (stand : All (Stands sum size number bytes) rs) where
      within : at + r.len ≤ end
      within = chain_grows (at + r.len) end rs chain

      its_text : text_in bytes r ≡ part bytes at r.len
      its_text = ap (λ n. part bytes n r.len) here

      its_whole : length (part bytes at r.len) ≡ r.len
      its_whole = omega (arith, within, inside, length-take r.len (drop at bytes), length-drop at bytes)

      -- A reservation that has ended is the record.
      of_kind : (j : MessageKind) → j ≢ kind.Corrupted → r.state ≢ Open → StandsReserved sum size number bytes r
          → text_in bytes r ≡ short_record sum j r.page number (body_in bytes r) → Told
      of_kind j valid not_open stands is =
          let has : List ℕ = body_in bytes r in
          let other : List ℕ = short_record sum j r.page number has in
          let behind_it : List ℕ = drop r.len (drop at bytes) in
          let has_short = length-take (r.len - r.header_len) (drop (r.from + r.header_len) bytes) in
          let its = short_is_record sum j r.page number has valid stands.text.page (omega (arith, number_small))
          (omega (arith, has_short, within, short, size_small)) in
          let front : drop at bytes ≡ other ++ behind_it =
          sym (take-append-drop r.len (drop at bytes)) ∙ ap (λ (l : List ℕ). l ++ behind_it) (sym its_text ∙ is) in
          let same : text ≡ text_in bytes r = one_text other behind_it j r.page has its front ∙ sym is in
          let lens : len ≡ r.len = omega (arith, whole, its_whole, ap length (same ∙ its_text)) in (
            one_number other behind_it j r.page has its front,
            record { entry = r; there = among r (in_first r rs); here = here; ended = not_open; is = inl same },
            inl (record {
              entries = rs;
              among = λ x had. among x (in_rest r x rs had);
              chain = subst (λ m. IsChain (at + m) rs end) (sym lens) chain;
              stand = stand;
            }),
          )

      -- its bytes are those that it has
      its_byte : (i : ℕ) → i < r.len → get_or bytes (at + i) 0 ≡ get_or (text_in bytes r) i 0
      its_byte i below = sym (get_or-take r.len (drop at bytes) i 0 below ∙ get_or-drop at bytes i 0) ∙ ap (λ (l : List ℕ). get_or l i 0) (sym its_text)

      -- Of what fills the segment the Cap is the record, and behind it there are zeros.
      of_padding : r.state ≡ Padding → IsPadding sum size number bytes r → Told
      of_padding state p = elim (cases_lt size (r.from + 32)) [
        | inl none ↦ absurd (
            let to_end = p.to_end in
            let has : text_in bytes r ≡ replicate (size - r.from) 0 = p.is ∙ (rest_is_zeros sum size number r.from none).0 in
            in_zeros (
            its_byte 4 (omega (arith, long, fits, short, to_end, here))
            ∙ ap (λ (l : List ℕ). get_or l 4 0) has
            ∙ get_or-replicate (size - r.from) 4 0 0 (omega (arith, long, fits, short, here))))
        | inr room ↦ (
            let to_end = p.to_end in
            let n : ℕ = size - r.from - 32 in
            let cap : List ℕ = cap_record sum number n in
            let zeros : List ℕ = replicate (size - r.from - length cap) 0 in
            let behind_it : List ℕ = drop r.len (drop at bytes) in
            let has : text_in bytes r ≡ cap ++ zeros = p.is ∙ (rest_has_cap sum size number r.from room).0 in
            let its = short_is_record sum kind.Cap cap_page number (replicate n 0) (λ same. cc) (omega arith) (omega (arith, number_small))
            (omega (arith, length-replicate {A = ℕ} n 0, size_small)) in
            let front : drop at bytes ≡ cap ++ (zeros ++ behind_it) =
            sym (take-append-drop r.len (drop at bytes)) ∙ ap (λ (l : List ℕ). l ++ behind_it) (sym its_text ∙ has) ∙ append_assoc cap zeros behind_it in
            let same : text ≡ cap = one_text cap (zeros ++ behind_it) kind.Cap cap_page (replicate n 0) its front in
            let lens : len ≡ length cap = sym whole ∙ ap length same in (
              one_number cap (zeros ++ behind_it) kind.Cap cap_page (replicate n 0) its front,
              record {
                entry = r;
                there = among r (in_first r rs);
                here = here;
                ended = λ is. let both : Padding ≡ Open = sym state ∙ is in cc;
                is = inr (state, same ∙ ap (λ m. cap_record sum number (size - m - 32)) here);
              },
              inr (λ i low high.
                  let j : ℕ = i - at in
                  let m : ℕ = i - at - length cap in
                  let at_i : at + j ≡ i = omega (arith, low) in
                  let at_j : length cap + m ≡ j = omega (arith, low, lens) in
                  ap (λ x. get_or bytes x 0) (sym at_i)
                  ∙ its_byte j (omega (arith, low, high, short, to_end, here))
                  ∙ ap (λ (l : List ℕ). get_or l j 0) has
                  ∙ ap (λ x. get_or (cap ++ zeros) x 0) (sym at_j)
                  ∙ get_or-append-add cap zeros m 0
                  ∙ get_or-replicate (size - r.from - length cap) m 0 0 (omega (arith, low, high, short, to_end, here, lens))),
            ))
      ]

      of_first : Stands sum size number bytes r → Told
      of_first stands = by r.state refl stands where
        ended : (s : ReservationState) → r.state ≡ s → StandsReserved sum size number bytes r
            → text_in bytes r ≡ text_as sum r.kind r.page number (body_in bytes r) s
        ended s is reserved = reserved.text.is ∙ ap (text_as sum r.kind r.page number (body_in bytes r)) is

        by : (s : ReservationState) → r.state ≡ s → StandsBy s sum size number bytes r → Told
        by Open is reserved = absurd (
            let headed = reserved.text.headed in
            let more = reserved.text.long in
            in_zeros (its_byte 4 (omega (arith, headed, more)) ∙ ap (λ (l : List ℕ). get_or l 4 0) (ended Open is reserved)))
        by Completed is reserved = of_kind r.kind reserved.text.valid (λ o. let both : Completed ≡ Open = sym is ∙ o in cc) reserved (ended Completed is reserved)
        by Canceled is reserved = of_kind kind.Canceled (λ same. cc) (λ o. let both : Canceled ≡ Open = sym is ∙ o in cc) reserved (ended Canceled is reserved)
        by Manifest is reserved = of_kind r.kind reserved.text.valid (λ o. let both : Manifest ≡ Open = sym is ∙ o in cc) reserved (ended Manifest is reserved)
        by Padding is padding = of_padding is padding

    -- So it is of the number, and of an entry, and behind it the reading goes on.
    told : GoesOn at → Told
    told (inr zeros) = absurd (in_zeros (zeros (at + 4) (omega arith) (omega (arith, long, fits))))
    told (inl f) = by f.entries f.among f.chain f.stand where
      by : (rs : List Reserved) → ((x : Reserved) → Contains rs x → Contains own x) → IsChain at rs end → All (Stands sum size number bytes) rs → Told
      by [] among chain stand = absurd (let last : at ≡ end = chain in omega (arith, long, fits, last))
      by (r ∷ rs) among chain stand =
          of_first r rs among chain.0 chain.1 (All-tail (Stands sum size number bytes) r rs stand) (All-head (Stands sum size number bytes) r rs stand)

  -- A buffer begins in the segment with its header or behind it, and has these entries, one behind another.
  module _ (from : ℕ) (chain : IsChain (max 20 from) own end) (stand : All (Stands sum size number bytes) own) where
    abbrev asked : List ℕ
    asked = bytes_between bytes from end

    asked_part : (at len : ℕ) → from + at + len ≤ end → part asked at len ≡ part bytes (from + at) len
    asked_part at len fits =
        let back : from + at - from ≡ at = omega arith in
        ap (λ n. part asked n len) (sym back) ∙ part-between bytes from end (from + at) len (omega arith) fits

    fits_in : (at len : ℕ) → at + len ≤ length asked → 0 < len → from + at + len ≤ end
    fits_in at len fits some = omega (arith, fits, some, length-between bytes from end inside)

    -- A record in the buffer of whatever number lies in the segment.
    in_segment : (at len number' : ℕ) (k : MessageKind) (page : ℕ) (body : List ℕ) → at + len ≤ length asked
        → IsRecord sum (part asked at len) k page number' body → (from + at + len ≤ end) × IsRecord sum (part bytes (from + at) len) k page number' body
    in_segment at len number' k page body fits rec =
        let some = record_some sum (part asked at len) k page number' body rec in
        let whole_in = fits_in at len fits (omega (arith, some, length-take len (drop at asked))) in
        (whole_in, subst (λ (l : List ℕ). IsRecord sum l k page number' body) (asked_part at len whole_in) rec)

    -- Where a reader of records of one number comes to in it, the entries go on.
    comes : (number' first at : ℕ) → from + first ≡ max 20 from → IsReached sum size number' asked first at → GoesOn (from + at)
    comes number' first at begins at_first = subst GoesOn (sym begins) (inl (record { entries = own; among = λ r there. there; chain = chain; stand = stand }))
    comes number' first at begins (behind mid len k page body reached fits rec) =
        let own_rec = in_segment mid len number' k page body fits rec in
        let one = told (from + mid) len number' k page body own_rec.0 own_rec.1 (comes number' first mid begins reached) in
        subst GoesOn (omega arith) one.2

    -- So a record to which it comes is of the segment's number, and of an entry.
    record_in : (number' first at : ℕ) → from + first ≡ max 20 from → IsReached sum size number' asked first at
        → (len : ℕ) (k : MessageKind) (page : ℕ) (body : List ℕ) → at + len ≤ length asked → IsRecord sum (part asked at len) k page number' body
        → (number' ≡ number) × IsOfEntry sum size number bytes own (from + at) (part asked at len)
    record_in number' first at begins reached len k page body fits rec =
        let own_rec = in_segment at len number' k page body fits rec in
        let one = told (from + at) len number' k page body own_rec.0 own_rec.1 (comes number' first at begins reached) in
        (one.0, subst (IsOfEntry sum size number bytes own (from + at)) (sym (asked_part at len own_rec.0)) one.1)

-- The write of a buffer of a segment, into its slot.
module _ (sum : List ℕ → ℕ) (size : ℕ) (site : SegmentPosition) (slot_begins : site.slot % size ≡ 0) (place_small : site.place + size < 2 ^ 63)
    (bytes : List ℕ) (from end : ℕ) (short : end ≤ size) (inside : end ≤ length bytes)
    (below : from < size) (begins : (from ≡ 0) ⊎ (20 ≤ from)) (own : List Reserved)
    (chain : IsChain (max 20 from) own end) (stand : All (Stands sum size (site.place / size) bytes) own) where
  size_small : size < 2 ^ 63
  size_small = omega (arith, place_small)

  number_small : site.place / size < 2 ^ 63
  number_small = let low = div-mul-le_self site.place size in omega (arith, place_small, below, low)

  -- A record that it placed is of the segment's number, and one of the buffer's entries: it stands where that begins.
  pub buffer_places : (p : Placement) → p.at ≡ site.slot + from → p.bytes ≡ bytes_between bytes from end
      → (number at : ℕ) (text : List ℕ) → RecordWasPlaced sum size (p ∷ []) number at text
      → (k : MessageKind) (page : ℕ) (body : List ℕ) → IsRecord sum text k page number body
      → (number ≡ site.place / size) × (to : ℕ) × (at ≡ site.slot + to) × IsOfEntry sum size (site.place / size) bytes own to text
  unfolding RecordWasPlaced
  buffer_places p p_at p_bytes number at text (write, among, covers, reached, stood) k page body rec = elim (in_cases p write [] among) [
    | inr none ↦ absurd (in_nothing write none)
    | inl same ↦ (
        let its_at : write.at ≡ site.slot + from = ap (λ (w : Placement). w.at) (sym same) ∙ p_at in
        let its_bytes : write.bytes ≡ bytes_between bytes from end = ap (λ (w : Placement). w.bytes) (sym same) ∙ p_bytes in
        let off : ℕ = at - write.at in
        let low = covers.begins in
        let high = covers.ends in
        let start : ℕ = first_record size write.at in
        let first : from + start ≡ max 20 from =
        (let is = ap (first_record size) its_at ∙ first_in size site.slot from slot_begins below begins in omega (arith, is)) in
        let there = subst (λ (l : List ℕ). part l off (length text) ≡ text) its_bytes covers.same in
        let fits : off + length text ≤ length (bytes_between bytes from end) = omega (arith, low, high, ap length its_bytes) in
        let goes = subst (λ (l : List ℕ). IsReached sum size number l start off) its_bytes reached in
        let one = record_in sum size (site.place / size) size_small number_small bytes end short inside own from chain stand number start off first goes
        (length text) k page body fits (subst (λ (l : List ℕ). IsRecord sum l k page number body) (sym there) rec) in (
          one.0,
          from + off,
          omega (arith, its_at, low),
          subst (IsOfEntry sum size (site.place / size) bytes own (from + off)) there one.1,
        ))
  ]
