-- What is met in a segment after zeros were written over a part of the log file, and a crash: what was met before, or the beginning of it.
use Rattle.std.proofs.Common.{◌≡◌, ◌⊎◌, ◌≤◌, ◌<◌, ◌+◌, ◌*◌, ◌/◌, ℕ, ℤ, pos, List, [], ◌∷◌, ◌++◌, length, replicate, sym, ap, arith, refl, subst, inl, inr}
use Rattle.std.proofs.Math.Nat.{mul-mod_left}
use Rattle.std.proofs.lemmas.Bool.{cases_lt}
use Rattle.std.proofs.lemmas.List.{length-replicate}
use Rattle.sled_codec.specs.declared.serialization.message.MessageHeader.{MessageHeader}
use Rattle.sled_codec.specs.Places.{part}
use Rattle.sled_codec.specs.Record.{IsHeader}
use Rattle.sled_store.specs.Device.{LeavesLog, Placement}
use Rattle.sled_store.specs.Foreign.{NoForeignLog}
use Rattle.sled_store.specs.Readers.{at_start}
use Rattle.sled_core.specs.declared.iterator.scan.ScannedRecord.{ScannedRecord}
use Rattle.sled_core.specs.declared.iterator.scan.ScanEnd.{ScanEnd}
use Rattle.sled_core.specs.declared.iterator.scan.ScanEnd.TheVariants.{Full, Capped, Broken}
use Rattle.sled_core.proofs.Read.PathLemmas.{IsEmpty}
use Rattle.sled_core.specs.Reading.{StandsAt}
use Rattle.sled_core.specs.Scan.{IsMet, IsPath, IsEnd, EndsThere, IsScan}
use Rattle.sled_core.proofs.Tail.LogFileLemmas.{record_moved}
use Rattle.sled_core.proofs.Read.GivesLemmas.{one_len}
use Rattle.sled_core.proofs.Torn.TornLemmas.{after_write}
use Rattle.sled_core.proofs.Torn.TornRecords.{same_or_not, long_enough, says_plain}
use Rattle.sled_core.proofs.Torn.WrittenParts.{ComesTo, all_there, in_this_file, comes_behind, comes_along, scan_apart}
use Rattle.sled_core.proofs.Torn.ZeroedSlots.{kept, same}

-- A reading of a segment from an offset on, of which what is met is what these begin with. The first one that isn't met reaches above a place of the file.
pub record ReadsFirst (sum : List ℕ → ℕ) (size : ℕ) (log : List ℕ) (slot place from at : ℕ) (met : List ScannedRecord) : Type 0 where
  pub found : List ScannedRecord
  pub rest : List ScannedRecord
  pub whole : met ≡ found ++ rest
  pub stop : ℕ
  pub why : ScanEnd
  pub path : IsPath sum size log slot place from found stop
  pub end : IsEnd sum size log slot place stop why
  pub above : (m : ScannedRecord) (ms : List ScannedRecord) → rest ≡ m ∷ ms → at < slot + stop + m.len

-- the first of these, or this one
abbrev first_of : ScannedRecord → List ScannedRecord → ScannedRecord
first_of x [] = x
first_of x (m ∷ ms) = m

-- Where each record that a reader comes to has the bytes that it had, and one whose bytes aren't what they were reaches above a place of the file.
module _ (sum : List ℕ → ℕ) (size : ℕ) (old left : List ℕ) (slot place at : ℕ)
    (same : (from : ℕ) → ComesTo sum size left (slot * size) place from → from + 32 ≤ size → (h : MessageHeader) (body : List ℕ) (len : ℕ) → StandsAt sum size left (slot * size + from) (place / size) h body len
    → part old (slot * size + from) len ≡ part left (slot * size + from) len)
    (touched : (from : ℕ) (h : MessageHeader) (body : List ℕ) (len : ℕ) → StandsAt sum size old (slot * size + from) (place / size) h body len → (part left (slot * size + from) len ≡ part old (slot * size + from) len → ⊥) → at < slot * size + from + len) where
  -- a reader of what is left comes to this offset
  abbrev Comes : ℕ → Type 0
  Comes = ComesTo sum size left (slot * size) place

  module _ (from : ℕ) (comes : Comes from) (room : from + 32 ≤ size) where
    -- a record that stands there did so before
    stood : (h : MessageHeader) (body : List ℕ) (len : ℕ) → StandsAt sum size left (slot * size + from) (place / size) h body len → StandsAt sum size old (slot * size + from) (place / size) h body len
    stood h body len s =
        let alike = same from comes room h body len s in
        let some = long_enough sum size left (slot * size + from) (place / size) h body len s in
        record_moved sum size left old (slot * size + from) (place / size) h body len alike
        (in_this_file sum size old left (slot * size + from) len (omega (arith, some)) (all_there sum size left (slot * size + from) (place / size) h body len s) alike) s

    -- where a record stood it still does, or none does
    still : (h : MessageHeader) (body : List ℕ) (len : ℕ) → StandsAt sum size old (slot * size + from) (place / size) h body len
        → StandsAt sum size left (slot * size + from) (place / size) h body len ⊎ ((at < slot * size + from + len) × IsEmpty sum size left (slot * size + from) (place / size))
    still h body len s = elim (same_or_not (part left (slot * size + from) len) (part old (slot * size + from) len)) [
      | inl alike ↦ (
          let some = long_enough sum size old (slot * size + from) (place / size) h body len s in
          inl (record_moved sum size old left (slot * size + from) (place / size) h body len alike
          (in_this_file sum size left old (slot * size + from) len (omega (arith, some)) (all_there sum size old (slot * size + from) (place / size) h body len s) alike) s))
      | inr other ↦ inr (
        touched from h body len s other,
        λ h' body' len' s'. (
            let before = stood h' body' len' s' in
            let one : len' ≡ len = one_len sum size old (slot * size + from) (place / size) h' h body' body len' len before s in
            other (subst (λ n. part left (slot * size + from) n ≡ part old (slot * size + from) n) one (sym (same from comes room h' body' len' s')))),
      )
    ]

    -- where none stood none does
    still_none : IsEmpty sum size old (slot * size + from) (place / size) → IsEmpty sum size left (slot * size + from) (place / size)
    still_none none h body len s = none h body len (stood h body len s)

    -- the reading ends where none does
    stops_here : (met : List ScannedRecord) → ((m : ScannedRecord) (ms : List ScannedRecord) → met ≡ m ∷ ms → at < slot * size + from + m.len) → IsEmpty sum size left (slot * size + from) (place / size) → ReadsFirst sum size left (slot * size) place from at met
    unfolding EndsThere
    stops_here met first none = record { found = []; rest = met; whole = refl; stop = from; why = Broken; path = refl; end = (room, none); above = first }

    -- a cap still stands there, or nothing does
    capped : EndsThere sum size old (slot * size + from) (place / size) Capped → ReadsFirst sum size left (slot * size) place from at []
    unfolding EndsThere
    capped (h, body, len, stands, is_cap) = elim (still h body len stands) [
      | inl there ↦ record { found = []; rest = []; whole = refl; stop = from; why = Capped; path = refl; end = (room, (h, body, len, there, is_cap)); above = λ m ms is. cc }
      | inr (above, none) ↦ stops_here [] (λ m ms is. cc) none
    ]

  -- where the reading ended before, it ends
  ended : (from : ℕ) → Comes from → (why : ScanEnd) → IsEnd sum size old (slot * size) place from why → ReadsFirst sum size left (slot * size) place from at []
  unfolding EndsThere
  ended from comes Full full = record { found = []; rest = []; whole = refl; stop = from; why = Full; path = refl; end = full; above = λ m ms is. cc }
  ended from comes Capped (room, cap) = capped from comes room cap
  ended from comes Broken (room, none) = stops_here from comes room [] (λ m ms is. cc) (still_none from comes room none)

  -- The reading of what is left meets what was met before, or the beginning of it.
  pub reads_first : (from : ℕ) (met : List ScannedRecord) (stop : ℕ) (why : ScanEnd) → Comes from → IsPath sum size old (slot * size) place from met stop → IsEnd sum size old (slot * size) place stop why
      → ReadsFirst sum size left (slot * size) place from at met
  unfolding IsMet
  reads_first from [] stop why comes path end = ended from comes why (subst (λ n. IsEnd sum size old (slot * size) place n why) path end)
  reads_first from (m ∷ ms) stop why comes (room, at_place, (h, body, stands, says), path) end = elim (still from comes room h body m.len stands) [
    | inl there ↦ (
        let further = comes_behind sum size left (slot * size) (mul-mod_left slot size) place from h body m.len room (says_plain h body (slot * size + from) m.what says) there comes in
        let on = reads_first (from + m.len) ms stop why further path end in
        record { found = m ∷ on.found; rest = on.rest; whole = ap (λ (l : List ScannedRecord). m ∷ l) on.whole; stop = on.stop; why = on.why; path = (room, at_place, (h, body, there, says), on.path); end = on.end; above = on.above })
    | inr (above, none) ↦ stops_here from comes room (m ∷ ms) (λ x xs is. subst (λ (l : List ScannedRecord). at < slot * size + from + (first_of x l).len) is above) none
  ]

  -- so it is with a whole scan
  pub scan_first : (met : List ScannedRecord) (stop : ℕ) (why : ScanEnd) → IsScan sum size old (slot * size) place met stop why → ReadsFirst sum size left (slot * size) place 20 at met
  unfolding IsScan
  scan_first met stop why (path, end) = reads_first 20 met stop why at_start path end

module _ (sum : List ℕ → ℕ) (size : ℕ) (old : List ℕ) (at count : ℕ) (now left : List ℕ) (no_more : length now ≤ length (replicate {A = ℕ} count 0)) (leaves : LeavesLog (after_write old at (replicate count 0) now) left)
    {placed : List Placement} (only_own : NoForeignLog sum size (after_write old at (replicate count 0) now) placed left)
    (slot place : ℕ) (mark : ℤ) (header : IsHeader sum (part left (slot * size) 20) (pos place) mark) where
  -- a record whose bytes aren't what they were reaches into the zeros
  touched : (from : ℕ) (h : MessageHeader) (body : List ℕ) (len : ℕ) → StandsAt sum size old (slot * size + from) (place / size) h body len → (part left (slot * size + from) len ≡ part old (slot * size + from) len → ⊥) → at < slot * size + from + len
  touched from h body len s other = elim (cases_lt at (slot * size + from + len)) [
    | inl above ↦ above
    | inr below ↦ (let there = s.in_file in absurd (other (kept sum size old at count now left no_more leaves (slot * size + from) len there (inl below))))
  ]

  -- The reading of what is left meets what was met before, or the beginning of it.
  pub scan_left : (met : List ScannedRecord) (stop : ℕ) (why : ScanEnd) → IsScan sum size old (slot * size) place met stop why → ReadsFirst sum size left (slot * size) place 20 at met
  scan_left = scan_first sum size old left slot place at (same sum size old at count now left no_more leaves only_own slot place mark header) touched

  -- A reader comes to where what is met ends.
  pub comes_on : (from : ℕ) (met : List ScannedRecord) (stop : ℕ) → ComesTo sum size left (slot * size) place from → IsPath sum size left (slot * size) place from met stop → ComesTo sum size left (slot * size) place stop
  comes_on from met stop comes path = comes_along sum size left (slot * size) (mul-mod_left slot size) place from met stop path comes

  -- In a slot that the zeros don't touch all is met as before.
  module _ (apart : (slot * size + size ≤ at) ⊎ (at + count ≤ slot * size)) where
    pub scan_same : (met : List ScannedRecord) (stop : ℕ) (why : ScanEnd) → stop ≤ size → IsScan sum size old (slot * size) place met stop why → IsScan sum size left (slot * size) place met stop why
    scan_same met stop why within =
        let beside : (slot * size + size ≤ at) ⊎ (at + length (replicate {A = ℕ} count 0) ≤ slot * size) = elim apart [ inl before ↦ inl before | inr past ↦ inr (omega (arith, past, length-replicate {A = ℕ} count 0)) ] in
        scan_apart sum size old at (replicate count 0) now left no_more leaves only_own slot place mark header beside met stop why
