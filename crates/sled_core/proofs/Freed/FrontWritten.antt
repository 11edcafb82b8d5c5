-- A file with the first bytes of a write in it, and nothing of the rest: a crash may leave that of it, and beside the write what is read of it is own as
-- before.
use Rattle.std.proofs.Common.{◌≡◌, ◌⊎◌, ◌∙◌, ◌<◌, ◌+◌, ◌-◌, ◌*◌, ◌/◌, ◌≤◌, ℕ, max, min, List, [], ◌∷◌, length, take, drop, get_or, refl, sym, ap, arith, inl, inr, length-take}
use Rattle.std.proofs.lemmas.Bool.{cases_lt}
use Rattle.std.proofs.lemmas.List.{get_or-take, take_all}
use Rattle.sled_codec.specs.Places.{part}
use Rattle.sled_store.specs.Device.{LeavesLog, State, end_of, overwritten}
use Rattle.sled_store.specs.Foreign.{HeaderWasPlaced, IsWhole, NoForeignLog, RecordWasPlaced}
use Rattle.sled_store.proofs.Crashes.ForeignLemmas.{take_again}
use Rattle.sled_store.proofs.LogFile.LooseLemmas.{end_of-le, end_of-mono, outside}
use Rattle.sled_store.proofs.LogFile.OverwrittenLemmas.{length-overwritten, overwritten-above, overwritten-below}
use Rattle.sled_core.specs.inside.OwnLog.{HasOwnSlot, ReadsOwn}
use Rattle.sled_core.proofs.OwnLog.AllSlots.{header_own, record_own}
use Rattle.sled_core.proofs.OwnLog.Kept.{slot_kept}
use Rattle.sled_core.proofs.OwnLog.Placed.{asked_now, header_among, record_among}
use Rattle.sled_core.proofs.Sealed.OneWritten.{overwritten_beside, overwritten_inside}
use Rattle.sled_core.proofs.Torn.TornLemmas.{after_write}

-- A crash may leave it.
pub front_leaves : (old : List ℕ) (at : ℕ) (asked now xs : List ℕ) → length xs ≤ length asked → LeavesLog (after_write old at asked now) (overwritten old at xs)
front_leaves old at asked now xs short = record {
  no_shorter = omega (arith, length-overwritten old at xs);
  no_longer = omega (arith, length-overwritten old at xs, end_of-mono at (length xs) (max (length asked) (length now)) (omega (arith, short)));
  kept = λ i low firm.
      let apart = outside (min at (length old)) (end_of at (max (length asked) (length now))) i firm in
      bytes xs (omega (arith, short)) i apart ∙ sym (bytes now (omega arith) i apart);
} where
  bytes : (ys : List ℕ) → length ys ≤ max (length asked) (length now) → (i : ℕ) → (i < min at (length old)) ⊎ (end_of at (max (length asked) (length now)) ≤ i)
      → get_or (overwritten old at ys) i 0 ≡ get_or old i 0
  bytes ys le i (inl low) = overwritten-below old at ys i (omega (arith, low)) (omega (arith, low))
  bytes ys le i (inr high) = overwritten-above old at ys i (omega (arith, high, end_of-mono at (length ys) (max (length asked) (length now)) le))

-- The bytes of it.
module _ (old : List ℕ) (at : ℕ) (asked : List ℕ) (n : ℕ) where
  abbrev front : List ℕ
  front = overwritten old at (take n asked)

  -- below its end they are as where all is written,
  pub front_below : (i : ℕ) → i < at + n → get_or front i 0 ≡ get_or (overwritten old at asked) i 0
  front_below i low = elim (cases_lt n (length asked)) [
    | inr all ↦ ap (λ (l : List ℕ). get_or (overwritten old at l) i 0) (take_all n asked all)
    | inl less ↦ elim (cases_lt i at) [
      | inl before ↦ beside (take n asked) before ∙ sym (beside asked before)
      | inr inside ↦ (
          let k : ℕ = i - at in
          let here : at + k ≡ i = omega (arith, inside) in
          let long = length-take n asked in
          ap (λ j. get_or front j 0) (sym here)
          ∙ overwritten_inside old at (take n asked) k (omega (arith, low, inside, long, less))
          ∙ get_or-take n asked k 0 (omega (arith, low, inside))
          ∙ sym (overwritten_inside old at asked k (omega (arith, low, inside, less)))
          ∙ ap (λ j. get_or (overwritten old at asked) j 0) here)
    ]
  ] where
    beside : (xs : List ℕ) → i < at → get_or (overwritten old at xs) i 0 ≡ get_or old i 0
    beside [] before = refl
    beside (x ∷ xs) before = overwritten_beside old at (x ∷ xs) i (omega arith) (inl before)

  -- and from there on as before.
  pub front_above : (i : ℕ) → at + n ≤ i → get_or front i 0 ≡ get_or old i 0
  front_above i high = overwritten-above old at (take n asked) i
      (omega (arith, high, length-take n asked, end_of-le at (length (take n asked)) n (omega (arith, length-take n asked))))

-- What is own of a file behind a write that was asked: it was placed, and stands whole in the file or in the write.
module _ (sum : List ℕ → ℕ) (size : ℕ) (s : State) (shown : List ℕ) (at : ℕ) (asked now : List ℕ) where
  abbrev pub PlacedHeader : ℕ → List ℕ → Type 0
  PlacedHeader lid text = HeaderWasPlaced (asked_now at asked ∷ s.placed) lid text × IsWhole (after_write shown at asked now) lid text

  abbrev pub PlacedRecord : ℕ → ℕ → List ℕ → Type 0
  PlacedRecord number lid text = RecordWasPlaced sum size (asked_now at asked ∷ s.placed) number lid text × IsWhole (after_write shown at asked now) lid text

  -- Where it is so in each slot, nothing is foreign.
  pub none_foreign_behind : (left : List ℕ) → ((slot : ℕ) → ReadsOwn sum size PlacedHeader PlacedRecord left slot)
      → NoForeignLog sum size (after_write shown at asked now) (asked_now at asked ∷ s.placed) left
  none_foreign_behind left own = record {
    headers = λ slot lsn mark is. (own slot).header lsn mark is;
    records = λ slot lsn mark at len is r. (own slot).records lsn mark at len is r;
  }

  module _ (big : 20 ≤ size) (slot : ℕ) (own : HasOwnSlot sum size (HeaderWasPlaced s.placed) (RecordWasPlaced sum size s.placed) shown slot) where
    abbrev StandsHeader : ℕ → List ℕ → Type 0
    StandsHeader lid text = HeaderWasPlaced s.placed lid text × (part shown lid (length text) ≡ text)

    abbrev StandsRecord : ℕ → ℕ → List ℕ → Type 0
    StandsRecord number lid text = RecordWasPlaced sum size s.placed number lid text × (part shown lid (length text) ≡ text)

    stands_own : HasOwnSlot sum size StandsHeader StandsRecord shown slot
    stands_own = record {
      header = λ to lsn mark is. let had = own.header to lsn mark is in (had.0, (had.1, take_again 20 (drop (slot * size) shown)));
      records = λ to lsn mark from len is r. let had = own.records to lsn mark from len is r in (
        had.0,
        (had.1, take_again len (drop (slot * size + from) shown)),
      );
    }

    header_still : (lid : ℕ) (text : List ℕ) → StandsHeader lid text → PlacedHeader lid text
    unfolding IsWhole
    header_still lid text laid = (header_among sum size s at asked lid text laid.0, inl laid.1)

    record_still : (number lid : ℕ) (text : List ℕ) → StandsRecord number lid text → PlacedRecord number lid text
    unfolding IsWhole
    record_still number lid text laid = (record_among sum size s at asked number lid text laid.0, inl laid.1)

    -- It is so where nothing of it was written,
    pub shown_reads_own : ReadsOwn sum size PlacedHeader PlacedRecord shown slot
    shown_reads_own = record {
      header = λ lsn mark is. header_still (slot * size) (part shown (slot * size) 20)
          (header_own sum size StandsHeader StandsRecord shown slot stands_own lsn mark is);
      records = λ lsn mark from len is r.
          record_still (lsn / size) (slot * size + from) (part shown (slot * size + from) len)
          (record_own sum size StandsHeader StandsRecord shown slot stands_own lsn mark from len is r);
    }

    -- and in a slot beside it.
    pub beside_reads_own : (xs : List ℕ) → (slot * size + size ≤ at) ⊎ (at + length xs ≤ slot * size)
        → ReadsOwn sum size PlacedHeader PlacedRecord (overwritten shown at xs) slot
    beside_reads_own [] apart = shown_reads_own
    beside_reads_own (x ∷ xs) apart = record {
      header = header_own sum size PlacedHeader PlacedRecord (overwritten shown at (x ∷ xs)) slot kept;
      records = record_own sum size PlacedHeader PlacedRecord (overwritten shown at (x ∷ xs)) slot kept;
    } where
      kept : HasOwnSlot sum size PlacedHeader PlacedRecord (overwritten shown at (x ∷ xs)) slot
      kept = slot_kept sum size StandsHeader PlacedHeader StandsRecord PlacedRecord shown at (x ∷ xs) (omega arith) big
          (λ lid text stands laid. header_still lid text laid) (λ number lid len text stands laid. record_still number lid text laid) slot apart stands_own
