-- Where a crash left the bytes of a slot as they were, and nothing was written into it since, the same segments are found in it, and all is met as before.
use Rattle.std.proofs.Common.{◌≡◌, ◌≤◌, ◌<◌, ◌+◌, ◌*◌, ◌/◌, ◌∙◌, ℕ, ℤ, pos, List, length, sym, ap, arith, subst}
use Rattle.std.proofs.Math.Nat.{mul-mod_left, mod-add-div'}
use Rattle.sled_codec.specs.declared.serialization.message.MessageHeader.{MessageHeader}
use Rattle.sled_codec.specs.Places.{part}
use Rattle.sled_codec.specs.Record.{IsHeader}
use Rattle.sled_store.specs.Device.{LogState, Placement}
use Rattle.sled_store.specs.Foreign.{IsWhole, NoForeignLog}
use Rattle.sled_core.specs.declared.iterator.Segment.{Segment}
use Rattle.sled_core.specs.declared.iterator.scan.ScannedRecord.{ScannedRecord}
use Rattle.sled_core.specs.declared.iterator.scan.ScanEnd.{ScanEnd}
use Rattle.sled_core.specs.Reading.{StandsAt}
use Rattle.sled_core.specs.inside.Scan.{IsFoundSegment}
use Rattle.sled_core.specs.Scan.{IsScan}
use Rattle.sled_core.proofs.Tail.LogFileLemmas.{record_moved}
use Rattle.sled_core.proofs.Read.FoundLemmas.{found_there}
use Rattle.sled_core.proofs.Torn.TornRecords.{long_enough, record_read}
use Rattle.sled_core.proofs.Torn.WrittenBeside.{found_moved}
use Rattle.sled_core.proofs.Torn.WrittenParts.{ComesTo, twenty, all_there, in_this_file, in_segment, scan_alike, scan_was}

-- what lay of a slot in one file is the same in another
abbrev pub SameIn : ℕ → List ℕ → List ℕ → ℕ → Type 0
SameIn size old left slot = (lid len : ℕ) → slot * size ≤ lid → lid + len ≤ slot * size + size → lid + len ≤ length old → part left lid len ≡ part old lid len

-- what stands whole in a slot stood there in this file
abbrev pub StoodIn : ℕ → LogState → List ℕ → ℕ → Type 0
StoodIn size past old slot = (lid : ℕ) (text : List ℕ) → slot * size ≤ lid → lid + length text ≤ slot * size + size → 0 < length text → IsWhole past lid text → part old lid (length text) ≡ text

-- where a slot begins that a segment was found in
pub slot_found : (sum : List ℕ → ℕ) (size : ℕ) (log : List ℕ) (least : ℕ) (s : Segment) → IsFoundSegment sum size log least s → s.slot ≡ s.slot / size * size
slot_found sum size log least s is = let begins = is.slot in omega (arith, mod-add-div' s.slot size, begins)

module _ (sum : List ℕ → ℕ) (size : ℕ) (old left : List ℕ) (slot : ℕ) (same : SameIn size old left slot) where
  -- a record that stood in the slot stands
  pub record_same : (place from : ℕ) → from < size → (h : MessageHeader) (body : List ℕ) (len : ℕ) → StandsAt sum size old (slot * size + from) (place / size) h body len → StandsAt sum size left (slot * size + from) (place / size) h body len
  record_same place from below h body len s =
      let there = s.in_file in
      let fits = in_segment sum size old (slot * size) (mul-mod_left slot size) from (place / size) h body len below s in
      let some = long_enough sum size old (slot * size + from) (place / size) h body len s in
      let alike = same (slot * size + from) len (omega arith) (omega (arith, fits)) there in
      record_moved sum size old left (slot * size + from) (place / size) h body len alike
      (in_this_file sum size left old (slot * size + from) len (omega (arith, some)) (all_there sum size old (slot * size + from) (place / size) h body len s) alike) s

  -- a segment that was found there is found
  pub found_same : 20 ≤ size → (least : ℕ) (s : Segment) → s.slot ≡ slot * size → IsFoundSegment sum size old least s → IsFoundSegment sum size left least s
  found_same long least s here is = found_moved sum size old left least s (same s.slot 20 (omega (arith, here)) (omega (arith, here, long)) (found_there sum size old least s is)) is

  -- Where only what stood there passes, too.
  module _ (past : LogState) (stood : StoodIn size past old slot) {placed : List Placement} (only_own : NoForeignLog sum size past placed left) (long : 20 ≤ size) where
    -- A header that passes there did so before.
    pub header_was : (lsn mark : ℤ) → IsHeader sum (part left (slot * size) 20) lsn mark → part old (slot * size) 20 ≡ part left (slot * size) 20
    header_was lsn mark is =
        let whole = twenty sum size left (slot * size) lsn mark is in
        ap (part old (slot * size)) (sym whole)
        ∙ stood (slot * size) (part left (slot * size) 20) (omega arith) (omega (arith, whole, long)) (omega (arith, whole)) (only_own.headers slot lsn mark is).1

    -- A segment that is found there was found before.
    pub found_was : (least : ℕ) (s : Segment) → s.slot ≡ slot * size → IsFoundSegment sum size left least s → IsFoundSegment sum size old least s
    found_was least s here is =
        let header = subst (λ n. IsHeader sum (part left n 20) (pos s.place) s.mark) here is.header in
        found_moved sum size left old least s (subst (λ n. part old n 20 ≡ part left n 20) (sym here) (header_was (pos s.place) s.mark header)) is

    module _ (place : ℕ) (mark : ℤ) (header : IsHeader sum (part left (slot * size) 20) (pos place) mark) where
      -- A record of its number that a reader comes to stood there before.
      record_was : (from : ℕ) → ComesTo sum size left (slot * size) place from → from + 32 ≤ size → (h : MessageHeader) (body : List ℕ) (len : ℕ)
          → StandsAt sum size left (slot * size + from) (place / size) h body len → StandsAt sum size old (slot * size + from) (place / size) h body len
      record_was from comes room h body len s =
          let fits = in_segment sum size left (slot * size) (mul-mod_left slot size) from (place / size) h body len (omega (arith, room)) s in
          let read = record_read sum size left (record { place = place; slot = slot * size }) (mul-mod_left slot size) (place / size) 20 from h body len room s comes in
          let whole = all_there sum size left (slot * size + from) (place / size) h body len s in
          let some = long_enough sum size left (slot * size + from) (place / size) h body len s in
          let alike : part old (slot * size + from) len ≡ part left (slot * size + from) len =
          ap (part old (slot * size + from)) (sym whole)
          ∙ stood (slot * size + from) (part left (slot * size + from) len) (omega arith) (omega (arith, whole, fits)) (omega (arith, whole, some))
          (only_own.records slot place mark from len header read).1 in
          record_moved sum size left old (slot * size + from) (place / size) h body len alike (in_this_file sum size old left (slot * size + from) len (omega (arith, some)) whole alike) s

      -- All is met as before.
      pub scan_stays : (met : List ScannedRecord) (stop : ℕ) (why : ScanEnd) → IsScan sum size old (slot * size) place met stop why → IsScan sum size left (slot * size) place met stop why
      scan_stays = scan_alike sum size old left slot place (record_same place) record_was

      -- And all that is met was met before.
      pub scan_stood : (met : List ScannedRecord) (stop : ℕ) (why : ScanEnd) → IsScan sum size left (slot * size) place met stop why → IsScan sum size old (slot * size) place met stop why
      scan_stood = scan_was sum size old left slot place (record_same place) record_was

-- Where the slot is the same in both files, all is met alike.
pub scan_same : (sum : List ℕ → ℕ) (size : ℕ) (old left : List ℕ) (slot : ℕ) → SameIn size old left slot → SameIn size left old slot → (place : ℕ) (met : List ScannedRecord) (stop : ℕ) (why : ScanEnd)
    → IsScan sum size old (slot * size) place met stop why → IsScan sum size left (slot * size) place met stop why
scan_same sum size old left slot same back place = scan_alike sum size old left slot place (record_same sum size old left slot same place) (λ from comes room. record_same sum size left old slot back place from (omega (arith, room)))
