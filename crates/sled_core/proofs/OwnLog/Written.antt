-- A sealed buffer of a segment is written, to where its records end: it is own, and so are the ranges of its segment beside it.
use Rattle.std.proofs.Common.{◌≡◌, ◌⊎◌, ◌∙◌, ◌≤◌, ◌<◌, ◌+◌, ◌-◌, ◌%◌, ℕ, max, nat_lt, if◌then◌else◌, List, length, take, drop, Some, sym, ap, refl, subst, arith, inl, inr, length-take, length-drop}
use Rattle.std.specs.List.{slice_get}
use Rattle.std.proofs.lemmas.Bool.Decides.{nat_tests}
use Rattle.sled_codec.specs.Places.{part}
use Rattle.sled_store.specs.Device.{overwritten}
use Rattle.sled_store.specs.Foreign.{Covers, IsReached, first_record}
use Rattle.sled_store.specs.Readers.{Reads, ReadsTo, IsOwnRange}
use Rattle.sled_store.proofs.Crashes.ForeignLemmas.{take_again}
use Rattle.sled_store.proofs.Own.ReaderLemmas.{no_lower, reached_in}
use Rattle.sled_core.specs.declared.iobuf.Sealed.{Sealed}
use Rattle.sled_core.specs.inside.OwnLog.{AreWritten}
use Rattle.sled_core.specs.SealedBuffers.{sealed_end}
use Rattle.sled_core.specs.inside.SealedBuffers.{written_at}
use Rattle.sled_core.proofs.Tail.LogFileLemmas.{laid_within, part_laid}
use Rattle.sled_core.proofs.OwnLog.Kept.{HeadersStay, RecordsStay, part_in, range_kept}
use Rattle.sled_core.proofs.OwnLog.SealedRanges.{one_written}
use Rattle.sled_core.proofs.Read.ScanLemmas.{aligned_offset}
use Rattle.sled_core.proofs.Sealed.LaidLemmas.{EndsRise}

-- a buffer begins with the header of its segment, or behind it
pub first_in : (size slot from : ℕ) → slot % size ≡ 0 → from < size → (from ≡ 0) ⊎ (20 ≤ from) → first_record size (slot + from) ≡ max 20 from - from
first_in size slot from aligned below begins = ap (λ n. if nat_lt 0 n then 0 else 20) (aligned_offset slot from size aligned below) ∙ by begins
  where
    by : (from ≡ 0) ⊎ (20 ≤ from) → (if nat_lt 0 from then 0 else 20) ≡ max 20 from - from
    by (inl none) = subst (λ n. (if nat_lt 0 n then 0 else 20) ≡ max 20 n - n) (sym none) refl
    by (inr behind) =
        let last : max 20 from - from ≡ 0 = omega (arith, behind) in
        let first : (if nat_lt 0 from then 0 else 20) ≡ 0 = grind (arith, nat_tests, behind) in
        first ∙ sym last

module _ (sum : List ℕ → ℕ) (size : ℕ) (log : List ℕ) (slot from : ℕ) (xs : List ℕ) (some : 0 < length xs) (fits : from + length xs ≤ size) where
  abbrev new : List ℕ
  new = overwritten log (slot + from) xs

  in_file : slot + from + length xs ≤ length new
  in_file = laid_within sum size log (slot + from) xs some

  -- the segment has it there
  laid_in : (i len : ℕ) → from ≤ i → i + len ≤ from + length xs → part xs (i - from) len ≡ part (part new slot size) i len
  laid_in i len low high =
      let here : slot + from + (i - from) ≡ slot + i = omega (arith, low) in
      sym (part_laid sum size log (slot + from) xs (i - from) len (omega (arith, low, high)))
      ∙ ap (λ n. part new n len) here
      ∙ sym (part_in size new slot i len (omega (arith, high, fits)))

  -- What is read of it is covered by the write, and a reader of its bytes alone comes to it.
  pub covered : (at len : ℕ) → from ≤ at → at + len ≤ from + length xs → Covers (slot + from, xs) (slot + at) (part (part new slot size) at len)
  covered at len low high =
      let text : List ℕ = part (part new slot size) at len in
      let back : slot + at - (slot + from) ≡ at - from = omega (arith, low) in
      let long = length-take len (drop at (part new slot size)) in
      record {
        begins = omega (arith, low);
        ends = omega (arith, low, high, long);
        same = ap (λ n. take (length text) (drop n xs)) back ∙ same_again at len low high;
      }
    where
      same_again : (at len : ℕ) → from ≤ at → at + len ≤ from + length xs → take (length (part (part new slot size) at len)) (drop (at - from) xs) ≡ part (part new slot size) at len
      same_again at len low high =
          let is = laid_in at len low high in
          ap (λ (l : List ℕ). take (length l) (drop (at - from) xs)) (sym is) ∙ take_again len (drop (at - from) xs) ∙ is

  pub reached_there : (number at len : ℕ) → slot % size ≡ 0 → from < size → (from ≡ 0) ⊎ (20 ≤ from) → Reads sum size number (part new slot size) (max 20 from) at len → at + len ≤ from + length xs
      → IsReached sum size number xs (first_record size (slot + from)) (slot + at - (slot + from))
  reached_there number at len aligned below begins r high =
      let low = no_lower sum size number (part new slot size) (max 20 from) at r.comes in
      let back : at - from ≡ slot + at - (slot + from) = omega (arith, low) in
      subst (λ n. IsReached sum size number xs n (slot + at - (slot + from))) (sym (first_in size slot from aligned below begins))
      (subst (λ n. IsReached sum size number xs (max 20 from - from) n) back
      (reached_in sum size number (part new slot size) xs from (from + length xs) (max 20 from) at laid_in (omega arith) (omega arith) (omega (arith, high)) r.comes))

  module _ (Header Header' : ℕ → List ℕ → Type 0) (Own Own' : ℕ → ℕ → List ℕ → Type 0) (big : 20 ≤ size) (number : ℕ)
      (headers : HeadersStay sum size Header Header' Own Own' log (slot + from) xs some big) (records : RecordsStay sum size Header Header' Own Own' log (slot + from) xs some big)
      (headed : from ≡ 0 → (20 ≤ length xs) × Header' slot (take 20 xs)) (begun : max 20 from ≤ from + length xs)
      (laid : (at len : ℕ) → Reads sum size number (part new slot size) (max 20 from) at len → at + len ≤ from + length xs → Own' number (slot + at) (part (part new slot size) at len))
      (to_end : from + length xs < size → ReadsTo sum size number (part new slot size) (max 20 from) (from + length xs)) where
    -- What was written is own.
    pub range_written : IsOwnRange sum size Header' Own' number slot (part new slot size) from (from + length xs)
    range_written = record {
      there = omega (arith, in_file, fits, length-take size (drop slot new), length-drop slot new);
      rises = begun;
      headed = λ none.
          let own = headed none in
          let front : take 20 (drop 0 xs) ≡ part (part new slot size) 0 20 =
          ap (λ n. take 20 (drop n xs)) (sym (let back : 0 - from ≡ 0 = omega arith in back)) ∙ laid_in 0 20 (omega (arith, none)) (omega (arith, none, own.0)) in
          subst (Header' slot) front own.1;
      comes = to_end;
      own = laid;
    }

    -- The sealed buffers of its segment, of which it is one.
    pub buffers_written : (first : ℕ) (bs : List Sealed) (k : ℕ) (b : Sealed) (to : ℕ) → slice_get bs k ≡ Some b → EndsRise first bs to → to ≤ size → sealed_end first (take k bs) ≡ from → b.end ≡ from + length xs
        → AreWritten (IsOwnRange sum size Header Own number slot (part log slot size)) first bs
        → AreWritten (IsOwnRange sum size Header' Own' number slot (part new slot size)) first (written_at k bs)
    buffers_written first bs k b to there rise short begins ends are =
        one_written (IsOwnRange sum size Header Own number slot (part log slot size)) (IsOwnRange sum size Header' Own' number slot (part new slot size)) first bs k b to there rise
        (λ f t beside range. range_kept sum size Header Header' Own Own' log (slot + from) xs some big headers records number slot f t (in_size f t range) (elim beside [
          | inl before ↦ inl (omega (arith, before, begins))
          | inr behind ↦ inr (omega (arith, behind, ends))
        ]) range)
        (subst (λ n. IsOwnRange sum size Header' Own' number slot (part new slot size) n b.end) (sym begins) (subst (IsOwnRange sum size Header' Own' number slot (part new slot size) from) (sym ends) range_written)) are
      where
        in_size : (f t : ℕ) → IsOwnRange sum size Header Own number slot (part log slot size) f t → t ≤ size
        in_size f t range = let there = range.there in omega (arith, there, length-take size (drop slot log))

    -- What was written of it before stays own.
    pub front_kept : (first : ℕ) → first ≤ from → IsOwnRange sum size Header Own number slot (part log slot size) 0 first → IsOwnRange sum size Header' Own' number slot (part new slot size) 0 first
    front_kept first low range = range_kept sum size Header Header' Own Own' log (slot + from) xs some big headers records number slot 0 first (omega (arith, low, fits)) (inl (omega (arith, low))) range
