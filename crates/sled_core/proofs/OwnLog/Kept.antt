-- A write to the log file leaves own what lies beside it: what a reader reads of another slot, also with zeros behind the file's end, and what is written of another segment.
use Rattle.std.proofs.Common.{◌≡◌, ◌⊎◌, ◌∙◌, ◌≤◌, ◌<◌, ◌+◌, ◌-◌, ◌*◌, ◌/◌, ℕ, ℤ, pos, max, List, length, take, drop, get_or, sym, ap, subst, arith, inl, inr, length-take, length-drop}
use Rattle.std.proofs.lemmas.Grind.{same_number_lists}
use Rattle.std.proofs.lemmas.List.{drop-take, take-take, drop-drop, get_or-take, get_or-drop}
use Rattle.sled_codec.specs.Places.{part}
use Rattle.sled_codec.specs.Record.{IsHeader}
use Rattle.sled_store.specs.Device.{overwritten}
use Rattle.sled_store.specs.Readers.{Reads, IsOwnRange}
use Rattle.sled_store.proofs.LogFile.LooseLemmas.{end_of-some}
use Rattle.sled_store.proofs.LogFile.OverwrittenLemmas.{length-overwritten}
use Rattle.sled_store.proofs.Own.RangeLemmas.{range_stays}
use Rattle.sled_core.specs.inside.LogFile.{padded}
use Rattle.sled_core.specs.inside.OwnLog.{HasOwnSlot}
use Rattle.sled_core.proofs.Tail.LogFileLemmas.{file_grows, part_kept}
use Rattle.sled_core.proofs.Sealed.Padded.{length-padded, padded_get, padded_none}
use Rattle.sled_core.proofs.Sealed.OneWritten.{overwritten_beside}

-- the same bytes of files of one length
pub same_parts : (xs ys : List ℕ) (from n : ℕ) → length xs ≡ length ys → ((i : ℕ) → from ≤ i → i < from + n → get_or xs i 0 ≡ get_or ys i 0) → part xs from n ≡ part ys from n
same_parts xs ys from n long same =
    same_number_lists (part xs from n) (part ys from n)
    (omega (arith, long, length-take n (drop from xs), length-take n (drop from ys), length-drop from xs, length-drop from ys))
    (λ k low. let short : k < n = omega (arith, low, length-take n (drop from xs)) in
    get_or-take n (drop from xs) k 0 short ∙ get_or-drop from xs k 0 ∙ same (from + k) (omega arith) (omega (arith, short))
    ∙ sym (get_or-take n (drop from ys) k 0 short ∙ get_or-drop from ys k 0))

-- a part of a slot is a part of the file
pub part_in : (size : ℕ) (log : List ℕ) (slot at len : ℕ) → at + len ≤ size → part (part log slot size) at len ≡ part log (slot + at) len
part_in size log slot at len fits =
    let whole : at + (size - at) ≡ size = omega (arith, fits) in
    ap (λ n. take len (drop at (take n (drop slot log)))) (sym whole)
    ∙ ap (take len) (drop-take at (size - at) (drop slot log))
    ∙ take-take len (size - at) (drop at (drop slot log)) (omega (arith, fits))
    ∙ ap (take len) (drop-drop at slot log)

module _ (sum : List ℕ → ℕ) (size : ℕ) (Header Header' : ℕ → List ℕ → Type 0) (Own Own' : ℕ → ℕ → List ℕ → Type 0) (log : List ℕ) (at : ℕ) (xs : List ℕ) (some : 0 < length xs) (big : 20 ≤ size) where
  abbrev new : List ℕ
  new = overwritten log at xs

  -- what was own is so where it stands behind the write
  abbrev pub HeadersStay : Type 0
  HeadersStay = (slot : ℕ) (text : List ℕ) → part new slot 20 ≡ text → Header slot text → Header' slot text

  abbrev pub RecordsStay : Type 0
  RecordsStay = (number lid len : ℕ) (text : List ℕ) → part new lid len ≡ text → Own number lid text → Own' number lid text

  module _ (headers : HeadersStay) (records : RecordsStay) where
    -- A slot beside it.
    module _ (slot : ℕ) (apart : (slot * size + size ≤ at) ⊎ (at + length xs ≤ slot * size)) (was : HasOwnSlot sum size Header Own log slot) where
      beside : (i n : ℕ) → slot * size ≤ i → i + n ≤ slot * size + size → (i + n ≤ at) ⊎ (at + length xs ≤ i)
      beside i n low high = elim apart [ inl before ↦ inl (omega (arith, before, high)) | inr behind ↦ inr (omega (arith, behind, low)) ]

      -- with zeros behind the end it reads as before, with more of them
      reaching : ℕ → ℕ
      reaching to = max to (at + length xs)

      further : (to i n : ℕ) → slot * size ≤ i → i + n ≤ slot * size + size → part (padded to new) i n ≡ part (padded (reaching to) log) i n
      unfolding reaching
      further to i n low high = same_parts (padded to new) (padded (max to (at + length xs)) log) i n
          (omega (arith, length-padded to new, length-padded (max to (at + length xs)) log, length-overwritten log at xs, end_of-some at (length xs) some))
          (λ j above below. padded_get to new j ∙ overwritten_beside log at xs j some (elim (beside j 1 (omega (arith, low, above)) (omega (arith, high, below))) [ inl before ↦ inl (omega (arith, before)) | inr behind ↦ inr behind ]) ∙ sym (padded_get (max to (at + length xs)) log j))

      grows : length log ≤ length new
      grows = file_grows sum size log at xs

      kept : (i n : ℕ) → slot * size ≤ i → i + n ≤ slot * size + size → i + n ≤ length log → part new i n ≡ part log i n
      kept i n low high there = part_kept sum size log at xs i n there (beside i n low high)

      -- its header stood there before
      header_was : (to : ℕ) (lsn mark : ℤ) → IsHeader sum (part (padded to new) (slot * size) 20) lsn mark → (slot * size + 20 ≤ length log) × Header (slot * size) (part log (slot * size) 20)
      header_was to lsn mark is = was.header (reaching to) lsn mark (subst (λ (l : List ℕ). IsHeader sum l lsn mark) (further to (slot * size) 20 (omega arith) (omega (arith, big))) is)

      pub slot_kept : HasOwnSlot sum size Header' Own' new slot
      slot_kept = record {
        header = λ to lsn mark is.
            let had = header_was to lsn mark is in
            let there = had.0 in
            let same : part new (slot * size) 20 ≡ part log (slot * size) 20 = kept (slot * size) 20 (omega arith) (omega (arith, big)) there in
            (omega (arith, there, grows), subst (Header' (slot * size)) (sym same) (headers (slot * size) (part log (slot * size) 20) same had.1));
        records = λ to lsn mark from len is r.
            let none : padded 0 new ≡ new = padded_none 0 new (omega arith) in
            let had = header_was 0 (pos lsn) mark (subst (λ (l : List ℕ). IsHeader sum (part l (slot * size) 20) (pos lsn) mark) (sym none) is) in
            let same : part new (slot * size) 20 ≡ part log (slot * size) 20 = kept (slot * size) 20 (omega arith) (omega (arith, big)) had.0 in
            let inside = r.inside in
            let fits : from + len ≤ size = omega (arith, inside, length-take size (drop (slot * size) (padded to new))) in
            let read = was.records (reaching to) lsn mark from len (subst (λ (l : List ℕ). IsHeader sum l (pos lsn) mark) same is)
            (subst (λ (l : List ℕ). Reads sum size (lsn / size) l 20 from len) (further to (slot * size) size (omega arith) (omega arith)) r) in
            let there = read.0 in
            let stands : part new (slot * size + from) len ≡ part log (slot * size + from) len = kept (slot * size + from) len (omega arith) (omega (arith, fits)) (omega (arith, there)) in
            (omega (arith, there, grows), subst (Own' (lsn / size) (slot * size + from)) (sym stands) (records (lsn / size) (slot * size + from) len (part log (slot * size + from) len) stands read.1));
      }

    -- A range of a segment beside it.
    module _ (number slot from to : ℕ) (inside : to ≤ size) (apart : (slot + to ≤ at) ⊎ (at + length xs ≤ slot + from)) where
      pub range_kept : IsOwnRange sum size Header Own number slot (part log slot size) from to → IsOwnRange sum size Header' Own' number slot (part new slot size) from to
      range_kept range =
          let there = range.there in
          let rises = range.rises in
          let in_file : slot + to ≤ length log = omega (arith, there, rises, length-take size (drop slot log), length-drop slot log) in
          let grows : length log ≤ length new = file_grows sum size log at xs in
          let kept : (i n : ℕ) → from ≤ i → i + n ≤ to → part new (slot + i) n ≡ part log (slot + i) n = λ i n low high.
          part_kept sum size log at xs (slot + i) n (omega (arith, high, in_file)) (elim apart [ inl before ↦ inl (omega (arith, before, high)) | inr behind ↦ inr (omega (arith, behind, low)) ]) in
          let same : (i n : ℕ) → from ≤ i → i + n ≤ to → part (part new slot size) i n ≡ part (part log slot size) i n = λ i n low high.
          part_in size new slot i n (omega (arith, high, inside)) ∙ kept i n low high ∙ sym (part_in size log slot i n (omega (arith, high, inside))) in
          range_stays sum size Header Header' Own Own' number slot (part log slot size) (part new slot size) from to
          (λ i n low high. same i n (omega (arith, low)) high)
          (λ none. same 0 20 (omega (arith, none)) (omega (arith, rises)))
          (omega (arith, in_file, grows, inside, length-take size (drop slot new), length-drop slot new))
          (λ had stands. headers slot (take 20 (part log slot size)) (sym (part_at_begin slot) ∙ stands) had)
          (λ i n low high had. records number (slot + i) n (part (part log slot size) i n) (kept i n (omega (arith, low)) high ∙ sym (part_in size log slot i n (omega (arith, high, inside)))) had)
          range
        where
          part_at_begin : (slot : ℕ) → take 20 (part new slot size) ≡ part new slot 20
          part_at_begin slot = take-take 20 size (drop slot new) big
