-- A pass meets what stands in the segments before the first batch that is open.
use Rattle.std.proofs.Common.{◌≡◌, ◌∙◌, ℕ, Bool, true, false, if◌then◌else◌, List, [], ◌∷◌, ◌++◌, Option, Some, None, refl, sym, ap, subst}
use Rattle.sled_core.specs.declared.iterator.Segment.{Segment}
use Rattle.sled_core.specs.declared.iterator.scan.ScannedRecord.{ScannedRecord}
use Rattle.sled_core.specs.Scan.{IsPath, IsScan}
use Rattle.sled_log.specs.Recovery.{Scanned, IsScanned, AreScanned, opens, open_at, before_open, passed_in, stops_in, IsReplayed, StopsOrGoesOn, AreReplayed}
use Rattle.sled_log.proofs.Replay.PassedLemmas.{passed_whole}
use Rattle.sled_core.proofs.Tail.OneReading.{path_begins, one_scan}

-- a batch that is open stays the first one, whatever is met behind it
open_stays : (end : ℕ) (ms rest : List ScannedRecord) (place : ℕ) → open_at end ms ≡ Some place → (open_at end (ms ++ rest) ≡ Some place) × (before_open end (ms ++ rest) ≡ before_open end ms)
open_stays end [] rest place is = cc
open_stays end (m ∷ ms) rest place is = by (opens end m.what) is (open_stays end ms rest place) where
  by : (b : Bool) → (if b then Some m.place else open_at end ms) ≡ Some place
      → (open_at end ms ≡ Some place → (open_at end (ms ++ rest) ≡ Some place) × (before_open end (ms ++ rest) ≡ before_open end ms))
      → ((if b then Some m.place else open_at end (ms ++ rest)) ≡ Some place) × ((if b then [] else m ∷ before_open end (ms ++ rest)) ≡ (if b then [] else m ∷ before_open end ms))
  by true is on = (is, refl)
  by false is on = ((on is).0, ap (λ (l : List ScannedRecord). m ∷ l) (on is).1)

-- the two meet the same before a batch that is open, and stop in the same place
abbrev pub IsSamePass : ℕ → List Scanned → List Scanned → Type 0
IsSamePass end [] [] = Unit {0}
IsSamePass end [] (p ∷ ps) = ⊥
IsSamePass end (x ∷ xs) [] = ⊥
IsSamePass end (x ∷ xs) (p ∷ ps) =
    (passed_in end p (open_at end p.met) ps ≡ passed_in end x (open_at end x.met) xs) × (stops_in end p (open_at end p.met) ps ≡ stops_in end x (open_at end x.met) xs)

-- behind a segment with none that is open
passes_on : (end : ℕ) (p : Scanned) (xs ps : List Scanned) → IsSamePass end xs ps → (passed_in end p None ps ≡ passed_in end p None xs) × (stops_in end p None ps ≡ stops_in end p None xs)
passes_on end p [] [] same = (refl, refl)
passes_on end p [] (q ∷ ps) same = absurd same
passes_on end p (x ∷ xs) [] same = absurd same
passes_on end p (x ∷ xs) (q ∷ ps) same = (ap (λ (l : List ScannedRecord). p.met ++ l) same.0, same.1)

module _ (sum : List ℕ → ℕ) (size : ℕ) (log : List ℕ) (end : ℕ) where
  -- what is replayed of a segment, up to a batch that is open, stands at the beginning of it
  pub begins_alike : (p x : Scanned) → p.segment ≡ x.segment → IsReplayed sum size log end p → IsScanned sum size log x → (place : ℕ) → open_at end p.met ≡ Some place
      → (open_at end x.met ≡ Some place) × (before_open end x.met ≡ before_open end p.met)
  unfolding IsScan
  begins_alike p x same replayed scan place is =
      let slot : ℕ = x.segment.slot in
      let path = subst (λ (s : Segment). IsPath sum size log s.slot s.place 20 p.met p.stop) same replayed.0 in
      let begins = path_begins sum size log slot x.segment.place 20 p.met p.stop x.met x.stop x.why path scan.0 scan.1 in
      subst (λ (l : List ScannedRecord). (open_at end l ≡ Some place) × (before_open end l ≡ before_open end p.met)) (sym begins.1) (open_stays end p.met begins.0 place is)

  pub same_pass : (ss : List Segment) (xs ps : List Scanned) → AreScanned sum size log ss xs → AreReplayed sum size log end ss ps → IsSamePass end xs ps
  same_pass [] [] [] are passed = tt
  same_pass [] [] (p ∷ ps) are passed = passed
  same_pass [] (x ∷ xs) ps are passed = absurd are
  same_pass (s ∷ ss) [] ps are passed = absurd are
  same_pass (s ∷ ss) (x ∷ xs) [] are passed = passed
  same_pass (s ∷ ss) (x ∷ xs) (p ∷ ps) are passed = by (open_at end p.met) refl passed.2 (same_pass ss xs ps are.2) where
    segments : p.segment ≡ x.segment
    segments = passed.0 ∙ sym are.0

    by : (o : Option ℕ) → open_at end p.met ≡ o → StopsOrGoesOn o ps (AreReplayed sum size log end ss ps) → (AreReplayed sum size log end ss ps → IsSamePass end xs ps) → IsSamePass end (x ∷ xs) (p ∷ ps)
    by (Some place) is stops rest =
        let begins = begins_alike p x segments passed.1 are.1 place is in (
          ap (λ o. passed_in end p o ps) is ∙ sym begins.1 ∙ sym (ap (λ o. passed_in end x o xs) begins.0),
          ap (λ o. stops_in end p o ps) is ∙ ap (λ (s : Segment). (s, place)) segments ∙ sym (ap (λ o. stops_in end x o xs) begins.0),
        )
    by None is on rest =
        let same : p ≡ x = one_scan sum size log p x segments (passed_whole sum size log end p passed.1 is) are.1 in
        let closed : open_at end x.met ≡ None = ap (λ (y : Scanned). open_at end y.met) (sym same) ∙ is in
        let behind = passes_on end p xs ps (rest on) in (
          ap (λ o. passed_in end p o ps) is ∙ behind.0 ∙ ap (λ (y : Scanned). passed_in end y None xs) same ∙ sym (ap (λ o. passed_in end x o xs) closed),
          ap (λ o. stops_in end p o ps) is ∙ behind.1 ∙ ap (λ (y : Scanned). stops_in end y None xs) same ∙ sym (ap (λ o. stops_in end x o xs) closed),
        )
