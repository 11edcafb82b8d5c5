-- A segment in a slot that is read in one file as in another one. Where each segment of a file is read so in another one, and each other one of that from a
-- place on is gone, that reads as the file.
use Rattle.std.proofs.Common.{◌≡◌, ◌⊎◌, ◌∙◌, ◌+◌, ◌*◌, ◌/◌, ◌≤◌, ℕ, ℤ, pos, List, [], ◌∷◌, ◌++◌, refl, sym, subst, arith, inl, inr}
use Rattle.std.proofs.Math.Nat.{mul-mod_left}
use Rattle.sled_codec.specs.declared.serialization.message.MessageHeader.{MessageHeader}
use Rattle.sled_codec.specs.History.{History}
use Rattle.sled_codec.specs.Places.{part}
use Rattle.sled_codec.specs.Record.{IsHeader}
use Rattle.sled_core.specs.declared.iterator.Segment.{Segment}
use Rattle.sled_core.specs.declared.iterator.scan.ScannedRecord.{ScannedRecord}
use Rattle.sled_core.specs.declared.iterator.scan.ScanEnd.{ScanEnd}
use Rattle.sled_core.specs.Reading.{StandsAt}
use Rattle.sled_core.specs.Scan.{IsMet, IsPath, IsScan}
use Rattle.sled_core.specs.Tail.{Scanned}
use Rattle.sled_core.specs.inside.Hides.{IsGoneSegment}
use Rattle.sled_core.specs.inside.Scan.{IsFoundSegment}
use Rattle.sled_core.specs.inside.Slots.{marked_at}
use Rattle.sled_core.proofs.Freed.AlikeRecords.{path_alike}
use Rattle.sled_core.proofs.Freed.Gone.{ReadsAs}
use Rattle.sled_core.proofs.Tail.OneReading.{one_scan, path_begins}
use Rattle.sled_core.proofs.Torn.AlikeSlots.{slot_found}
use Rattle.sled_core.proofs.Torn.TornRecords.{long_enough, says_plain}
use Rattle.sled_core.proofs.Torn.WrittenBeside.{found_moved}
use Rattle.sled_core.proofs.Torn.WrittenParts.{ComesTo, all_there, comes_behind, in_this_file}
use Rattle.sled_core.proofs.Torn.WrittenRecords.{AlikeAlong}

-- Each record of a segment in a slot that a reader of one file comes to has the same bytes in another one.
abbrev pub ReadsSame : (List ℕ → ℕ) → ℕ → List ℕ → List ℕ → ℕ → ℕ → Type 0
ReadsSame sum size left old slot place =
    (here : ℕ) → here + 32 ≤ size → ComesTo sum size left (slot * size) place here → (h : MessageHeader) (body : List ℕ) (len : ℕ)
    → StandsAt sum size left (slot * size + here) (place / size) h body len → part old (slot * size + here) len ≡ part left (slot * size + here) len

-- A segment of one file stands in another one: with its header there, and all is met in it as in the one file, with the same bytes.
pub record ReadsAlike (sum : List ℕ → ℕ) (size : ℕ) (old new : List ℕ) (slot place : ℕ) : Type 0 where
  pub header : part new (slot * size) 20 ≡ part old (slot * size) 20
  pub scans : (met : List ScannedRecord) (stop : ℕ) (why : ScanEnd) → IsScan sum size old (slot * size) place met stop why
      → IsScan sum size new (slot * size) place met stop why
  pub bytes : (ms : List ScannedRecord) (next : ℕ) → IsPath sum size old (slot * size) place 20 ms next → AlikeAlong old new (slot * size) 20 ms

-- records with the same bytes in two files, and in a third one
pub alike_on : (a b c : List ℕ) (slot from : ℕ) (ms : List ScannedRecord) → AlikeAlong a b slot from ms → AlikeAlong b c slot from ms
    → AlikeAlong a c slot from ms
alike_on a b c slot from [] first second = tt
alike_on a b c slot from (m ∷ ms) first second = (second.0 ∙ first.0, second.1, alike_on a b c slot (from + m.len) ms first.2 second.2)

-- the first of some records
pub alike_first : (a b : List ℕ) (slot from : ℕ) (ms more : List ScannedRecord) → AlikeAlong a b slot from (ms ++ more) → AlikeAlong a b slot from ms
alike_first a b slot from [] more alike = tt
alike_first a b slot from (m ∷ ms) more alike = (alike.0, alike.1, alike_first a b slot (from + m.len) ms more alike.2)

module _ (sum : List ℕ → ℕ) (size : ℕ) where
  -- It is so of three files, one behind another.
  pub alike_joined : (a b c : List ℕ) (slot place : ℕ) → ReadsAlike sum size a b slot place → ReadsAlike sum size b c slot place
      → ReadsAlike sum size a c slot place
  alike_joined a b c slot place first second = record {
    header = second.header ∙ first.header;
    scans = λ met stop why read. second.scans met stop why (first.scans met stop why read);
    bytes = λ ms next path.
        let alike = first.bytes ms next path in
        alike_on a b c (slot * size) 20 ms alike (second.bytes ms next (path_alike sum size a b (slot * size) place 20 ms next path alike));
  }

  -- Where each record to which a reader of a file comes has the same bytes in another one, it has along each path.
  module _ (old new : List ℕ) (slot place : ℕ) where
    pub same_along : ReadsSame sum size old new slot place → (from : ℕ) → ComesTo sum size old (slot * size) place from → (ms : List ScannedRecord) (next : ℕ)
        → IsPath sum size old (slot * size) place from ms next → AlikeAlong old new (slot * size) from ms
    unfolding IsMet
    same_along same from comes [] next path = tt
    same_along same from comes (m ∷ ms) next (room, at_place, (h, body, stands, says), path) =
        let alike = same from room comes h body m.len stands in
        let some = long_enough sum size old (slot * size + from) (place / size) h body m.len stands in
        let whole = all_there sum size old (slot * size + from) (place / size) h body m.len stands in (
          alike,
          in_this_file sum size new old (slot * size + from) m.len (omega (arith, some)) whole alike,
          same_along same (from + m.len)
              (comes_behind sum size old (slot * size) (mul-mod_left slot size) place from h body m.len room
              (says_plain h body (slot * size + from) m.what says) stands comes)
              ms next path,
        )

    -- One reading of the segment is enough.
    pub one_alike : part new (slot * size) 20 ≡ part old (slot * size) 20 → (met : List ScannedRecord) (stop : ℕ) (why : ScanEnd)
        → IsScan sum size old (slot * size) place met stop why → IsScan sum size new (slot * size) place met stop why → AlikeAlong old new (slot * size) 20 met
        → ReadsAlike sum size old new slot place
    unfolding IsScan
    one_alike header met stop why read there alike = record {
      header = header;
      scans = λ met' stop' why' read'.
          let s : Segment = marked_at (slot * size) place (pos 0) in
          let one = one_scan sum size old (record { segment = s; met = met; stop = stop; why = why })
          (record { segment = s; met = met'; stop = stop'; why = why' }) refl read read' in
          subst (λ (t : Scanned). IsScan sum size new (slot * size) place t.met t.stop t.why) one there;
      bytes = λ ms next path.
          let begins = path_begins sum size old (slot * size) place 20 ms next met stop why path read.0 read.1 in
          alike_first old new (slot * size) 20 ms begins.0 (subst (λ (l : List ScannedRecord). AlikeAlong old new (slot * size) 20 l) begins.1 alike);
    }

  -- So it is with all segments.
  module _ (least : ℕ) (H : History) (base : ℕ) (shown left : List ℕ)
      (each : (slot place : ℕ) (mark : ℤ) → IsHeader sum (part shown (slot * size) 20) (pos place) mark → ReadsAlike sum size shown left slot place)
      (others : (slot place : ℕ) (mark : ℤ) → least ≤ place → IsHeader sum (part left (slot * size) 20) (pos place) mark
      → IsHeader sum (part shown (slot * size) 20) (pos place) mark ⊎ IsGoneSegment sum size left H base (marked_at (slot * size) place mark)) where
    module _ (s : Segment) (found : IsFoundSegment sum size shown 0 s) where
      abbrev number : ℕ
      number = s.slot / size

      here : s.slot ≡ number * size
      here = slot_found sum size shown 0 s found

      its : ReadsAlike sum size shown left number s.place
      its = each number s.place s.mark (subst (λ n. IsHeader sum (part shown n 20) (pos s.place) s.mark) here found.header)

      kept_one : IsFoundSegment sum size left 0 s
      kept_one = found_moved sum size shown left 0 s (subst (λ n. part left n 20 ≡ part shown n 20) (sym here) its.header) found

      scan_one : (met : List ScannedRecord) (stop : ℕ) (why : ScanEnd) → IsScan sum size shown s.slot s.place met stop why
          → IsScan sum size left s.slot s.place met stop why
      scan_one met stop why =
          subst (λ n. IsScan sum size shown n s.place met stop why → IsScan sum size left n s.place met stop why) (sym here) (its.scans met stop why)

      bytes_one : (ms : List ScannedRecord) (next : ℕ) → IsPath sum size shown s.slot s.place 20 ms next → AlikeAlong shown left s.slot 20 ms
      bytes_one ms next = subst (λ n. IsPath sum size shown n s.place 20 ms next → AlikeAlong shown left n 20 ms) (sym here) (its.bytes ms next)

    other_one : (s : Segment) → IsFoundSegment sum size left least s → IsFoundSegment sum size shown least s ⊎ IsGoneSegment sum size left H base s
    other_one s found =
        let k : ℕ = s.slot / size in
        let at = slot_found sum size left least s found in
        elim (others k s.place s.mark found.not_below (subst (λ n. IsHeader sum (part left n 20) (pos s.place) s.mark) at found.header)) [
          | inl is ↦ inl (record {
            slot = found.slot;
            header = subst (λ n. IsHeader sum (part shown n 20) (pos s.place) s.mark) (sym at) is;
            not_below = found.not_below;
          })
          | inr gone ↦ inr (subst (λ n. IsGoneSegment sum size left H base (record { place = s.place; slot = n; mark = s.mark })) (sym at) gone)
        ]

    pub reads_as : ReadsAs sum size least H base shown left
    reads_as = record {
      kept = kept_one;
      scans = λ t found. scan_one t.segment found t.met t.stop t.why;
      bytes = λ s found ms next. bytes_one s found ms next;
      others = other_one;
    }
