-- What a crash leaves of a settled log file over a part of which zeros were written: a header or a record that a reader comes to stood there before.
use Rattle.std.proofs.Common.{◌≡◌, ◌≢◌, ◌⊎◌, ◌≤◌, ◌<◌, ◌+◌, ◌-◌, ◌*◌, ◌/◌, ◌%◌, ◌∙◌, ℕ, min, ℤ, pos, List, [], ◌∷◌, length, take, drop, replicate, get_or, sym, ap, arith, subst, inl, inr}
use Rattle.std.proofs.Math.Nat.{mul-mod_left}
use Rattle.std.proofs.lemmas.List.{take-replicate, drop-replicate, length-replicate, get_or-replicate, get_or-take, get_or-drop}
use Rattle.sled_codec.specs.declared.serialization.message.MessageHeader.{MessageHeader}
use Rattle.sled_codec.specs.declared.serialization.message.MessageKind.TheVariants.{Cap}
use Rattle.sled_codec.specs.Places.{part}
use Rattle.sled_codec.specs.Record.{IsHeader}
use Rattle.sled_store.specs.Device.{LeavesLog, overwritten, Placement}
use Rattle.sled_store.specs.Foreign.{Covers, NoForeignLog}
use Rattle.sled_store.specs.Readers.{ReadsTo}
use Rattle.sled_store.proofs.LogFile.OverwrittenLemmas.{overwritten-part}
use Rattle.sled_core.specs.declared.iterator.scan.ScannedRecord.{ScannedRecord}
use Rattle.sled_core.specs.Reading.{StandsAt}
use Rattle.sled_core.specs.Recoverable.{NoHeaderOfZeros}
use Rattle.sled_core.specs.Scan.{IsMet, IsPath}
use Rattle.sled_core.proofs.Tail.LogFileLemmas.{record_moved}
use Rattle.sled_core.proofs.Read.PathLemmas.{zeros_empty}
use Rattle.sled_core.proofs.Torn.TornLemmas.{after_write, left_grows, part_left}
use Rattle.sled_core.proofs.Torn.TornRecords.{long_enough, says_plain}
use Rattle.sled_core.proofs.Torn.WrittenParts.{twenty, all_there, in_this_file, comes_behind, header_where, record_where, path_stays as path_written}

-- Zeros that were written are read.
pub zeros_read : (bytes : List ℕ) (at n i : ℕ) → at ≤ i → i < at + n → get_or (overwritten bytes at (replicate n 0)) i 0 ≡ 0
zeros_read bytes at n i from to =
    let new : List ℕ = overwritten bytes at (replicate n 0) in
    let here : at + (i - at) ≡ i = omega (arith, from) in
    let within : i - at < n = omega (arith, from, to) in
    let long : length (replicate {A = ℕ} n 0) ≡ n = length-replicate n 0 in
    ap (λ k. get_or new k 0) (sym here)
    ∙ sym (get_or-drop at new (i - at) 0)
    ∙ sym (get_or-take n (drop at new) (i - at) 0 within)
    ∙ ap (λ k. get_or (take k (drop at new)) (i - at) 0) (sym long)
    ∙ ap (λ (l : List ℕ). get_or l (i - at) 0) (overwritten-part bytes at (replicate n 0))
    ∙ get_or-replicate n (i - at) 0 0 within

-- a part of zeros
part_of_zeros : (count k n : ℕ) → k + n ≤ count → part (replicate count 0) k n ≡ replicate n 0
part_of_zeros count k n within = ap (take n) (drop-replicate k count 0) ∙ take-replicate n (count - k) 0 (omega (arith, within))

-- what a write of zeros covers is zeros
pub covered_zeros : (at count from : ℕ) (text : List ℕ) → Covers (at, replicate count 0) from text → text ≡ replicate (length text) 0
covered_zeros at count from text covers =
    let begins = covers.begins in
    let ends = covers.ends in
    sym covers.same ∙ part_of_zeros count (from - at) (length text) (omega (arith, begins, ends, length-replicate {A = ℕ} count 0))

-- a record isn't zeros
pub no_zeros : (sum : List ℕ → ℕ) (size : ℕ) (log : List ℕ) (lid number : ℕ) (h : MessageHeader) (body : List ℕ) (len : ℕ) → StandsAt sum size log lid number h body len → part log lid len ≡ replicate len 0 → ⊥
no_zeros sum size log lid number h body len s zero =
    let some : 8 ≤ len = long_enough sum size log lid number h body len s in
    let kind : get_or log (lid + 4) 0 ≡ 0 =
    sym (get_or-drop lid log 4 0) ∙ sym (get_or-take len (drop lid log) 4 0 (omega (arith, some)))
    ∙ ap (λ (l : List ℕ). get_or l 4 0) zero ∙ get_or-replicate len 4 0 0 (omega (arith, some)) in
    zeros_empty sum size log lid number kind h body len s

module _ (sum : List ℕ → ℕ) (size : ℕ) (old : List ℕ) (at count : ℕ) (now left : List ℕ) (no_more : length now ≤ length (replicate {A = ℕ} count 0)) (leaves : LeavesLog (after_write old at (replicate count 0) now) left) where
  abbrev zeros : List ℕ
  zeros = replicate count 0

  pub grows : length old ≤ length left
  grows = left_grows old at zeros now left no_more leaves

  long : length zeros ≡ count
  long = length-replicate count 0

  -- a part that the write doesn't touch
  pub kept : (lid n : ℕ) → lid + n ≤ length old → (lid + n ≤ at) ⊎ (at + count ≤ lid) → part left lid n ≡ part old lid n
  kept lid n there apart =
      part_left old at zeros now left no_more leaves lid n there (elim apart [ inl before ↦ inl before | inr past ↦ inr (omega (arith, past, long)) ])

  module _ {placed : List Placement} (only_own : NoForeignLog sum size (after_write old at (replicate count 0) now) placed left) where
    -- A header that passes did so before.
    module _ (none : NoHeaderOfZeros sum) where
      pub header_stood : (slot : ℕ) (lsn mark : ℤ) → IsHeader sum (part left (slot * size) 20) lsn mark → part old (slot * size) 20 ≡ part left (slot * size) 20
      header_stood slot lsn mark is =
          let text : List ℕ = part left (slot * size) 20 in
          elim (header_where sum size old at zeros now left no_more leaves only_own slot lsn mark is) [
            | inl same ↦ same
            | inr write ↦ (
                let zero : text ≡ replicate 20 0 = covered_zeros at count (slot * size) text write ∙ ap (λ n. replicate n 0) (twenty sum size left (slot * size) lsn mark is) in
                absurd (none lsn mark (subst (λ (l : List ℕ). IsHeader sum l lsn mark) zero is)))
          ]

    -- A record of its number that a reader comes to stood there before.
    module _ (slot place : ℕ) (mark : ℤ) (header : IsHeader sum (part left (slot * size) 20) (pos place) mark) where
      aligned : slot * size % size ≡ 0
      aligned = mul-mod_left slot size

      module _ (from : ℕ) (reached : ReadsTo sum size (place / size) (part left (slot * size) size) 20 from) (room : from + 32 ≤ size) (h : MessageHeader) (body : List ℕ) (len : ℕ) (s : StandsAt sum size left (slot * size + from) (place / size) h body len) where
        whole : length (part left (slot * size + from) len) ≡ len
        whole = all_there sum size left (slot * size + from) (place / size) h body len s

        some : 8 ≤ len
        some = long_enough sum size left (slot * size + from) (place / size) h body len s

        pub same : part old (slot * size + from) len ≡ part left (slot * size + from) len
        same = elim (record_where sum size old at zeros now left no_more leaves only_own slot place mark header from reached room h body len s) [
          | inl alike ↦ alike
          | inr write ↦ absurd (no_zeros sum size left (slot * size + from) (place / size) h body len s (covered_zeros at count (slot * size + from) (part left (slot * size + from) len) write ∙ ap (λ n. replicate n 0) whole))
        ]

        pub stood : StandsAt sum size old (slot * size + from) (place / size) h body len
        stood =
            let there = in_this_file sum size old left (slot * size + from) len (omega (arith, some)) whole same in
            record_moved sum size left old (slot * size + from) (place / size) h body len same there s

        pub reached_behind : h.kind ≢ Cap → ReadsTo sum size (place / size) (part left (slot * size) size) 20 (from + len)
        reached_behind plain = comes_behind sum size left (slot * size) aligned place from h body len room plain s reached

      -- So what a reader meets one behind another it met before.
      pub path_stood : (from : ℕ) (ms : List ScannedRecord) (next : ℕ) → ReadsTo sum size (place / size) (part left (slot * size) size) 20 from → IsPath sum size left (slot * size) place from ms next → IsPath sum size old (slot * size) place from ms next
      unfolding IsMet
      path_stood from [] next reached path = path
      path_stood from (m ∷ ms) next reached path =
          let room = path.0 in
          let met = path.2 in (
            path.0,
            path.1,
            (met.0, met.1, stood from reached room met.0 met.1 m.len met.2, met.3),
            path_stood (from + m.len) ms next (reached_behind from reached room met.0 met.1 m.len met.2 (says_plain met.0 met.1 (slot * size + from) m.what met.3)) path.3,
          )

  -- What was met before the zeros, or in another slot, still is.
  pub path_stays : (slot place : ℕ) → slot % size ≡ 0 → (from : ℕ) (ms : List ScannedRecord) (next : ℕ) → (slot + next ≤ at) ⊎ (at + count ≤ slot) → IsPath sum size old slot place from ms next → IsPath sum size left slot place from ms next
  path_stays slot place aligned from ms next apart =
      let beside : (slot + min next size ≤ at) ⊎ (at + length zeros ≤ slot) = elim apart [ inl before ↦ inl (omega (arith, before)) | inr past ↦ inr (omega (arith, past, long)) ] in
      path_written sum size old at zeros now left no_more leaves slot place aligned from ms next beside
