-- What a start does to a log file leaves own what is read of each slot: it writes zeros over whole slots, syncs, and cuts slots off the end.
use Rattle.std.proofs.Common.{◌≡◌, ◌≢◌, ◌∙◌, ◌≤◌, ◌<◌, ◌+◌, ◌-◌, ◌*◌, ◌/◌, ℕ, ℤ, pos, List, length, take, drop, replicate, sym, ap, subst, arith, inl, inr, length-take, length-drop}
use Rattle.std.proofs.lemmas.Bool.{cases_lt, cases_order}
use Rattle.std.proofs.lemmas.List.{length-replicate}
use Rattle.sled_codec.specs.Places.{part}
use Rattle.sled_codec.specs.Record.{IsHeader}
use Rattle.sled_codec.proofs.Segments.{length-short_header}
use Rattle.sled_store.specs.Device.{Cut, State, Synced, Wrote, step}
use Rattle.sled_store.specs.Foreign.{HeaderWasPlaced, RecordWasPlaced}
use Rattle.sled_store.specs.Readers.{Reads}
use Rattle.sled_store.proofs.Crashes.ForeignLemmas.{take_again}
use Rattle.sled_store.proofs.Crashes.StoodLemmas.{header_settled, record_settled}
use Rattle.sled_store.proofs.LogFile.LogLemmas.{part_cut}
use Rattle.sled_store.proofs.Segments.FilledLemmas.{slot_before}
use Rattle.sled_core.specs.inside.OwnLog.{ReadsPlaced}
use Rattle.sled_core.specs.Recoverable.{NoHeaderOfZeros}
use Rattle.sled_core.proofs.OwnLog.Kept.{HeadersStay, RecordsStay}
use Rattle.sled_core.proofs.OwnLog.NoneForeign.{WasPlaced}
use Rattle.sled_core.proofs.OwnLog.Placed.{header_among, record_among}
use Rattle.sled_core.proofs.OwnLog.Zeroed.{other_own, own_read, slot_zeroed}

module _ (sum : List ℕ → ℕ) (size : ℕ) (none : NoHeaderOfZeros sum) (big : 32 ≤ size) where
  abbrev zeros : List ℕ
  zeros = replicate size 0

  long : length zeros ≡ size
  long = length-replicate {A = ℕ} size 0

  some : 0 < length zeros
  some = let l = long in omega (arith, l, big)

  twenty : 20 ≤ size
  twenty = omega (arith, big)

  -- A slot is overwritten.
  module _ (s : State) (slot : ℕ) (there : slot * size ≤ length s.log.bytes) where
    abbrev after : ℕ → State
    after at = step (Wrote at zeros zeros) s

    headers_at : (at : ℕ) → HeadersStay sum size (HeaderWasPlaced s.placed) (HeaderWasPlaced (after at).placed) (RecordWasPlaced sum size s.placed) (RecordWasPlaced sum size (after at).placed) s.log.bytes at zeros some twenty
    headers_at at j text is laid = header_among sum size s at zeros j text laid

    records_at : (at : ℕ) → RecordsStay sum size (HeaderWasPlaced s.placed) (HeaderWasPlaced (after at).placed) (RecordWasPlaced sum size s.placed) (RecordWasPlaced sum size (after at).placed) s.log.bytes at zeros some twenty
    records_at at number lid len text is laid = record_among sum size s at zeros number lid text laid

    others : (at : ℕ) → at ≡ slot * size → (j : ℕ) → j ≢ slot → WasPlaced sum size s.placed s.log.bytes j → WasPlaced sum size (after at).placed (after at).log.bytes j
    others at here j other own =
        let l = long in
        other_own sum size (HeaderWasPlaced s.placed) (HeaderWasPlaced (after at).placed) (RecordWasPlaced sum size s.placed) (RecordWasPlaced sum size (after at).placed) s.log.bytes at zeros some twenty
        (headers_at at) (records_at at) slot (omega (arith, here)) (omega (arith, l, here)) there j other own

    this : WasPlaced sum size (after (slot * size + 0)).placed (after (slot * size + 0)).log.bytes slot
    this =
        own_read sum size (HeaderWasPlaced (after (slot * size + 0)).placed) (RecordWasPlaced sum size (after (slot * size + 0)).placed) (after (slot * size + 0)).log.bytes slot
        (slot_zeroed sum size (HeaderWasPlaced s.placed) (HeaderWasPlaced (after (slot * size + 0)).placed) (RecordWasPlaced sum size s.placed) (RecordWasPlaced sum size (after (slot * size + 0)).placed) s.log.bytes slot 0 size some big twenty
        (headers_at (slot * size + 0)) (records_at (slot * size + 0)) (omega arith) none (λ i. 0))

    pub slot_overwritten : ReadsPlaced sum size s → ReadsPlaced sum size (step (Wrote (slot * size) zeros zeros) s)
    slot_overwritten own j = elim (cases_order j slot) [
      | inl same ↦ subst (WasPlaced sum size (after (slot * size)).placed (after (slot * size)).log.bytes) (sym same)
          (let at : slot * size + 0 ≡ slot * size = omega arith in subst (λ n. WasPlaced sum size (after n).placed (after n).log.bytes slot) at this)
      | inr differs ↦ others (slot * size) (λ i. slot * size) j (λ same. elim differs [ inl lower ↦ omega (arith, lower, same) | inr higher ↦ omega (arith, higher, same) ]) (own j)
    ]

  -- The file is synced.
  pub file_synced : (s : State) → ReadsPlaced sum size s → ReadsPlaced sum size (step Synced s)
  file_synced s own slot = record {
    header = λ lsn mark is. header_settled s.log.bytes s.placed (slot * size) (part s.log.bytes (slot * size) 20) ((own slot).header lsn mark is) (take_again 20 (drop (slot * size) s.log.bytes));
    records = λ lsn mark at len is r.
        record_settled sum size s.log.bytes s.placed (lsn / size) (slot * size + at) (part s.log.bytes (slot * size + at) len) ((own slot).records lsn mark at len is r) (take_again len (drop (slot * size + at) s.log.bytes));
  }

  -- Slots are cut off its end.
  module _ (s : State) (last : ℕ) (inside : last * size ≤ length s.log.bytes) where
    abbrev short : List ℕ
    short = take (last * size) s.log.bytes

    same : (i n : ℕ) → i + n ≤ last * size → part short i n ≡ part s.log.bytes i n
    same i n low =
        let count : i + n - i ≡ n = omega arith in
        ap (λ k. take k (drop i short)) (sym count) ∙ part_cut s.log.bytes (last * size) i (i + n) (omega (arith, low, inside)) low ∙ ap (λ k. take k (drop i s.log.bytes)) count

    pub slots_cut : ReadsPlaced sum size s → ReadsPlaced sum size (step (Cut (last * size) (last * size)) s)
    slots_cut own slot = elim (cases_lt slot last) [
      | inl below ↦ (
          let far = slot_before size slot last below in
          let head : part short (slot * size) 20 ≡ part s.log.bytes (slot * size) 20 = same (slot * size) 20 (omega (arith, far, big)) in
          record {
            header = λ lsn mark is. subst (HeaderWasPlaced s.placed (slot * size)) (sym head) ((own slot).header lsn mark (subst (λ (l : List ℕ). IsHeader sum l lsn mark) head is));
            records = λ lsn mark at len is r.
                let in_text = r.inside in
                let fits : at + len ≤ size = omega (arith, in_text, length-take size (drop (slot * size) short)) in
                subst (RecordWasPlaced sum size s.placed (lsn / size) (slot * size + at)) (sym (same (slot * size + at) len (omega (arith, fits, far))))
                ((own slot).records lsn mark at len (subst (λ (l : List ℕ). IsHeader sum l (pos lsn) mark) head is) (subst (λ (l : List ℕ). Reads sum size (lsn / size) l 20 at len) (same (slot * size) size (omega (arith, far))) r));
          })
      | inr above ↦ record { header = λ lsn mark is. absurd (never above lsn mark is); records = λ lsn mark at len is r. absurd (never above (pos lsn) mark is) }
    ]
      where
        never : last ≤ slot → (lsn mark : ℤ) → IsHeader sum (part short (slot * size) 20) lsn mark → ⊥
        never above lsn mark is =
            let twenty_long : length (part short (slot * size) 20) ≡ 20 = ap length is.is ∙ length-short_header sum lsn mark in
            let low : last * size ≤ slot * size = elim (cases_order last slot) [
              | inl equal ↦ (let one = ap (λ n. n * size) equal in omega (arith, one))
              | inr (inl lower) ↦ (let far = slot_before size last slot lower in omega (arith, far))
              | inr (inr higher) ↦ absurd (omega (arith, higher, above))
            ] in
            omega (arith, twenty_long, low, length-take 20 (drop (slot * size) short), length-drop (slot * size) short, length-take (last * size) s.log.bytes)
