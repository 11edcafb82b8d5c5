-- A segment of which nothing is read in one file but what stands in another one is read there as far as it goes, with the same bytes. So where what is read of
-- it in the other file is of the history, what is read in this one is.
use Rattle.std.proofs.Common.{◌≡◌, ◌≢◌, ◌∙◌, ◌≤◌, ◌<◌, ◌+◌, ◌*◌, ◌/◌, ◌%◌, ℕ, ℤ, List, [], ◌∷◌, refl, sym, subst, arith}
use Rattle.std.specs.List.{Contains}
use Rattle.std.proofs.Math.Nat.{mul-mod_left}
use Rattle.std.proofs.lemmas.List.Elements.{Contains-append_left}
use Rattle.sled_codec.specs.declared.serialization.message.MessageHeader.{MessageHeader}
use Rattle.sled_codec.specs.History.{History}
use Rattle.sled_codec.specs.Places.{part}
use Rattle.sled_store.specs.Readers.{at_start}
use Rattle.sled_core.specs.declared.iterator.Segment.{Segment}
use Rattle.sled_core.specs.declared.iterator.scan.ScannedRecord.{ScannedRecord}
use Rattle.sled_core.specs.declared.iterator.scan.ScanEnd.{ScanEnd}
use Rattle.sled_core.specs.declared.iterator.scan.ScanEnd.TheVariants.{Full, Capped, Broken}
use Rattle.sled_core.specs.Reading.{StandsAt}
use Rattle.sled_core.specs.Scan.{EndsThere, IsEnd, IsMet, IsPath, IsScan}
use Rattle.sled_core.specs.Tail.{IsScanned, Scanned}
use Rattle.sled_core.specs.inside.Hides.{IsTrueReading}
use Rattle.sled_core.specs.inside.Recoverable.{NothingBehind}
use Rattle.sled_core.specs.inside.Slots.{marked_at}
use Rattle.sled_core.proofs.Reached.LeftBeside.{truth_alike}
use Rattle.sled_core.proofs.Tail.LogFileLemmas.{record_moved}
use Rattle.sled_core.proofs.Tail.OneReading.{one_scan}
use Rattle.sled_core.proofs.Torn.TornRecords.{long_enough, says_plain}
use Rattle.sled_core.proofs.Torn.WrittenParts.{ComesTo, all_there, comes_along, comes_behind, in_this_file}
use Rattle.sled_core.proofs.Torn.WrittenRecords.{AlikeAlong}
use Rattle.sled_core.proofs.Torn.ZeroedScans.{ReadsFirst, scan_first}

module _ (sum : List ℕ → ℕ) (size : ℕ) (old left : List ℕ) (slot place : ℕ)
    (same : (from : ℕ) → ComesTo sum size left (slot * size) place from → from + 32 ≤ size → (h : MessageHeader) (body : List ℕ) (len : ℕ)
    → StandsAt sum size left (slot * size + from) (place / size) h body len → part old (slot * size + from) len ≡ part left (slot * size + from) len) where
  abbrev Comes : ℕ → Type 0
  Comes = ComesTo sum size left (slot * size) place

  aligned : slot * size % size ≡ 0
  aligned = mul-mod_left slot size

  -- A record to which a reader comes stands in the other file,
  stood : (from : ℕ) → Comes from → from + 32 ≤ size → (h : MessageHeader) (body : List ℕ) (len : ℕ)
      → StandsAt sum size left (slot * size + from) (place / size) h body len → StandsAt sum size old (slot * size + from) (place / size) h body len
  stood from comes room h body len s =
      let alike = same from comes room h body len s in
      let some = long_enough sum size left (slot * size + from) (place / size) h body len s in
      record_moved sum size left old (slot * size + from) (place / size) h body len alike
      (in_this_file sum size old left (slot * size + from) len (omega (arith, some))
      (all_there sum size left (slot * size + from) (place / size) h body len s) alike) s

  -- so all that is met is met there, with the same bytes,
  path_stood : (from : ℕ) → Comes from → (ms : List ScannedRecord) (next : ℕ) → IsPath sum size left (slot * size) place from ms next
      → IsPath sum size old (slot * size) place from ms next × AlikeAlong old left (slot * size) from ms
  unfolding IsMet
  path_stood from comes [] next path = (path, tt)
  path_stood from comes (x ∷ xs) next (room, at_place, (h, body, stands, says), path) =
      let plain = says_plain h body (slot * size + from) x.what says in
      let behind = comes_behind sum size left (slot * size) aligned place from h body x.len room plain stands comes in
      let rest = path_stood (from + x.len) behind xs next path in
      let there = stands.in_file in (
        (room, at_place, (h, body, stood from comes room h body x.len stands, says), rest.0),
        (sym (same from comes room h body x.len stands), there, rest.1),
      )

  -- and where the reading ends for another reason than want of a record it ends there, too.
  end_stood : (from : ℕ) → Comes from → (why : ScanEnd) → why ≢ Broken → IsEnd sum size left (slot * size) place from why
      → IsEnd sum size old (slot * size) place from why
  unfolding EndsThere
  end_stood from comes Full plain end = end
  end_stood from comes Capped plain (room, (h, body, len, s, is_cap)) = (room, (h, body, len, stood from comes room h body len s, is_cap))
  end_stood from comes Broken plain end = absurd (plain refl)

  -- one whose bytes aren't the same reaches above the file's beginning
  above : (from : ℕ) (h : MessageHeader) (body : List ℕ) (len : ℕ) → StandsAt sum size old (slot * size + from) (place / size) h body len
      → (part left (slot * size + from) len ≡ part old (slot * size + from) len → ⊥) → 0 < slot * size + from + len
  above from h body len s other = let some = long_enough sum size old (slot * size + from) (place / size) h body len s in omega (arith, some)

  module _ (H : History) (mark : ℤ) (r : IsTrueReading sum size old H (marked_at (slot * size) place mark)) where
    was : IsScan sum size old (slot * size) place r.scan.met r.scan.stop r.scan.why
    was = subst (λ (x : Segment). IsScan sum size old x.slot x.place r.scan.met r.scan.stop r.scan.why) r.segment r.read

    -- the beginning of what is met there
    first : ReadsFirst sum size left (slot * size) place 20 0 r.scan.met
    first = scan_first sum size old left slot place 0 same above r.scan.met r.scan.stop r.scan.why was

    abbrev scan : Scanned
    scan = record { segment = marked_at (slot * size) place mark; met = first.found; stop = first.stop; why = first.why }

    both : IsPath sum size old (slot * size) place 20 first.found first.stop × AlikeAlong old left (slot * size) 20 first.found
    both = path_stood 20 at_start first.found first.stop first.path

    caps : first.why ≢ Broken → NothingBehind size H place first.stop first.why
    unfolding IsScan
    caps plain =
        let comes = comes_along sum size left (slot * size) aligned place 20 first.found first.stop first.path at_start in
        let read : IsScanned sum size old scan = (both.0, end_stood first.stop comes first.why plain first.end) in
        subst (λ (u : Scanned). NothingBehind size H u.segment.place u.stop u.why) (one_scan sum size old r.scan scan r.segment r.read read) r.caps

    -- So all that is read is of the history.
    pub reading_less : IsTrueReading sum size left H (marked_at (slot * size) place mark)
    unfolding IsScan
    reading_less = record {
      scan = scan;
      segment = refl;
      read = (first.path, first.end);
      truth = truth_alike sum size old left H (slot * size) place 20 first.found first.stop both.1 first.path
          (λ x there. r.truth x (subst (λ (l : List ScannedRecord). Contains l x) (sym first.whole) (Contains-append_left first.found first.rest x there)));
      caps = (λ is. (caps (λ broken. let no : Capped ≡ Broken = sym is ∙ broken in cc)).0 is, λ plain. (caps plain).1 plain);
    }
