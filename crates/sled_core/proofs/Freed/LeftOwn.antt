-- What is own of the content that a crash leaves of a log file and a write to it: a header is shown, or that of a segment that is gone, or the write's. A
-- record of the segment that a slot has is shown, or is a part of the write; one of a segment that is gone was own before.
use Rattle.std.proofs.Common.{◌≡◌, ◌⊎◌, ◌∙◌, ◌<◌, ◌+◌, ◌*◌, ◌/◌, ◌≤◌, ℕ, ℤ, pos, false, List, [], ◌∷◌, length, take, drop, sym, ap, arith, inl, inr, length-take}
use Rattle.std.proofs.Math.Nat.{mul-mod_left}
use Rattle.sled_codec.specs.declared.serialization.message.MessageHeader.{MessageHeader}
use Rattle.sled_codec.specs.declared.serialization.message.MessageKind.{MessageKind}
use Rattle.sled_codec.specs.History.{History}
use Rattle.sled_codec.specs.Places.{part}
use Rattle.sled_codec.specs.Record.{IsHeader, IsRecord}
use Rattle.sled_store.specs.Device.{State, Wrote, step}
use Rattle.sled_store.specs.Foreign.{Covers, NoForeignLog, RecordWasPlaced}
use Rattle.sled_store.specs.Readers.{Reads}
use Rattle.sled_store.specs.SegmentStates.{Machine, is_free, slot_at}
use Rattle.sled_core.specs.Begun.{SegmentView}
use Rattle.sled_core.specs.Reading.{StandsAt}
use Rattle.sled_core.specs.inside.Cleared.{cleared}
use Rattle.sled_core.specs.inside.Hides.{Hides, IsGone, IsGoneSegment, IsOwnHeader, IsOwnRecord}
use Rattle.sled_core.specs.inside.Slots.{marked_at}
use Rattle.sled_core.proofs.Cleared.Offsets.{in_own}
use Rattle.sled_core.proofs.Numbers.Hides.{gone_in}
use Rattle.sled_core.proofs.Freed.ReadsAs.{own_record}
use Rattle.sled_core.proofs.OwnLog.NoneForeign.{WasPlaced, was_placed}
use Rattle.sled_core.proofs.OwnLog.Placed.{asked_now}
use Rattle.sled_core.proofs.OwnLog.WrittenOwn.{header_or_written, placed_covers, placed_first, record_or_written}
use Rattle.sled_core.proofs.Torn.TornLemmas.{after_write}
use Rattle.sled_core.proofs.Torn.TornRecords.{record_read}
use Rattle.sled_core.proofs.Torn.WrittenParts.{ComesTo, all_there}

-- a write at an offset of the file places records of one number alone
abbrev pub PlacesNumber : (List ℕ → ℕ) → ℕ → ℕ → List ℕ → ℕ → Type 0
PlacesNumber sum size at asked number =
    (other lid : ℕ) (text : List ℕ) → RecordWasPlaced sum size (asked_now at asked ∷ []) other lid text
    → (k : MessageKind) (page : ℕ) (body : List ℕ) → IsRecord sum text k page other body → other ≡ number

-- a segment that ends at the place of another one or below it has a lower number
lower_number : (size p place : ℕ) → 0 < size → p + size ≤ place → p / size ≡ place / size → ⊥
lower_number size p place some low same =
    let its = in_own size p some in
    let other = in_own size place some in
    omega (arith, low, its.0, other.1, ap (λ n. n * size) same)

module _ (sum : List ℕ → ℕ) (size : ℕ) (s : State) (m : Machine) (line : List SegmentView) (least base : ℕ) (H : History)
    (hides : Hides sum size s m line least base H) (at : ℕ) (asked now left : List ℕ)
    (only_own : NoForeignLog sum size (after_write s.log.bytes at asked now) (asked_now at asked ∷ s.placed) left) where
  abbrev shown : List ℕ
  shown = cleared size m line s.log.bytes

  -- the state while the write is under way
  abbrev under_way : State
  under_way = step (Wrote at asked now) s

  placed_left : (k : ℕ) → WasPlaced sum size under_way.placed left k
  placed_left = was_placed sum size under_way.placed left (after_write s.log.bytes at asked now) only_own

  -- A segment with its header in what is left.
  module _ (slot place : ℕ) (mark : ℤ) (header : IsHeader sum (part left (slot * size) 20) (pos place) mark) where
    -- The header was own, or the write begins with it.
    pub header_where : IsOwnHeader sum size s slot place mark ⊎ ((at ≡ slot * size) × (take 20 asked ≡ part left (slot * size) 20))
    header_where =
        let own : IsOwnHeader sum size under_way slot place mark = record {
          text = part left (slot * size) 20;
          is = header;
          placed = (placed_left slot).header (pos place) mark header;
        } in
        elim (header_or_written sum size s at asked now slot place mark own) [
          | inl before ↦ inl before
          | inr new ↦ inr (placed_first (asked_now at asked) (slot * size) (part left (slot * size) 20) new)
        ]

    -- A record that is read of it was own, or the write placed it.
    read_own : (from len : ℕ) → Reads sum size (place / size) (part left (slot * size) size) 20 from len
        → IsOwnRecord sum size s (place / size) (slot * size + from) (part left (slot * size + from) len)
        ⊎ (RecordWasPlaced sum size (asked_now at asked ∷ []) (place / size) (slot * size + from) (part left (slot * size + from) len)
        × (k : MessageKind) × (page : ℕ) × (body : List ℕ) × IsRecord sum (part left (slot * size + from) len) k page (place / size) body)
    read_own from len r =
        let own = own_record sum size under_way left placed_left slot place mark header from len r in
        elim (record_or_written sum size s at asked now (place / size) (slot * size + from) (part left (slot * size + from) len) own) [
          | inl before ↦ inl before
          | inr new ↦ inr (new, own.kind, own.page, own.body, own.is)
        ]

    -- Where the slot has the segment it is shown, or a part of the write.
    module _ (taken : is_free (slot_at m slot).state ≡ false) (its : (slot_at m slot).lsn ≡ place) where
      pub read_where : (from len : ℕ) → Reads sum size (place / size) (part left (slot * size) size) 20 from len
          → (part shown (slot * size + from) (length (part left (slot * size + from) len)) ≡ part left (slot * size + from) len)
          ⊎ Covers (at, asked) (slot * size + from) (part left (slot * size + from) len)
      read_where from len r = elim (read_own from len r) [
        | inl own ↦ (
            let inside = r.inside in
            let text : List ℕ = part left (slot * size + from) len in
            let long = length-take len (drop (slot * size + from) left) in
            let fits : from + len ≤ size = omega (arith, inside, length-take size (drop (slot * size) left)) in
            inl ((hides.taken slot (place / size) (slot * size + from) text taken (omega arith, omega (arith, fits, long)) own).1
            (ap (λ n. n / size) (sym its))))
        | inr new ↦ inr (placed_covers sum size (asked_now at asked) (place / size) (slot * size + from) (part left (slot * size + from) len) new.0)
      ]

      pub shown_or_asked : (from : ℕ) → ComesTo sum size left (slot * size) place from → from + 32 ≤ size → (h : MessageHeader) (body : List ℕ) (len : ℕ)
          → StandsAt sum size left (slot * size + from) (place / size) h body len
          → (part shown (slot * size + from) len ≡ part left (slot * size + from) len)
          ⊎ Covers (at, asked) (slot * size + from) (part left (slot * size + from) len)
      shown_or_asked from comes room h body len stands =
          let whole = all_there sum size left (slot * size + from) (place / size) h body len stands in
          elim (read_where from len
          (record_read sum size left (record { place = place; slot = slot * size }) (mul-mod_left slot size)
          (place / size) 20 from h body len room stands comes)) [
            | inl shows ↦ inl (ap (part shown (slot * size + from)) (sym whole) ∙ shows)
            | inr covers ↦ inr covers
          ]

  -- The write is one of a segment that isn't below what is held.
  module _ (some : 0 < size) (place : ℕ) (held : base ≤ place) (places : PlacesNumber sum size at asked (place / size)) where
    -- A segment that is gone stays so: of its number the write places nothing.
    gone_stays : (slot p : ℕ) (mark : ℤ) → IsHeader sum (part left (slot * size) 20) (pos p) mark → IsGone sum size s m base H slot p mark
        → IsGoneSegment sum size left H base (marked_at (slot * size) p mark)
    gone_stays slot p mark header gone = gone_in sum size s m base H slot p mark gone left (λ from len r. elim (read_own slot p mark header from len r) [
      | inl own ↦ own
      | inr (new, k, page, body, is) ↦ absurd (
          let low = gone.below in
          lower_number size p place some (omega (arith, low, held))
          (places (p / size) (slot * size + from) (part left (slot * size + from) len) new k page body is))
    ])

    -- A header that is found from the snapshot's on is shown, or that of a segment that is gone, or the write begins with it.
    pub header_shown : (slot p : ℕ) (mark : ℤ) → least ≤ p → IsHeader sum (part left (slot * size) 20) (pos p) mark
        → IsHeader sum (part shown (slot * size) 20) (pos p) mark ⊎ IsGoneSegment sum size left H base (marked_at (slot * size) p mark)
        ⊎ ((at ≡ slot * size) × (take 20 asked ≡ part left (slot * size) 20))
    header_shown slot p mark low header = elim (header_where slot p mark header) [
      | inl before ↦ elim (hides.headers slot p mark low before) [ inl is ↦ inl is | inr gone ↦ inr (inl (gone_stays slot p mark header gone)) ]
      | inr new ↦ inr (inr new)
    ]
