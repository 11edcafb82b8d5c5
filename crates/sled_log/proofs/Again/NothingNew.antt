-- Where no segment is found, or one whose reading ends at the place of the snapshot, recovery concludes nothing that is new.
use Rattle.std.proofs.Common.{⊎_elim, ◌≡◌, ◌∙◌, ◌+◌, ◌<◌, ◌≤◌, ℕ, ℤ, pos, Bool, true, false, nat_lt, int_lt, if◌then◌else◌, List, [], ◌∷◌, map, Option, Some, None, refl, sym, ap, subst, arith, inl, inr}
use Rattle.std.proofs.lemmas.Bool.Decides.{nat_tests}
use Rattle.sled_codec.specs.Snapshots.{SnapshotModel, stable_place}
use Rattle.sled_store.proofs.Segments.Elements.{in_nothing, only_in}
use Rattle.sled_core.specs.declared.iterator.Segment.{Segment}
use Rattle.sled_core.specs.declared.iterator.scan.ScannedRecord.{ScannedRecord}
use Rattle.sled_core.specs.declared.iterator.scan.ScanEnd.{ScanEnd}
use Rattle.sled_core.specs.Scan.{IsScan}
use Rattle.sled_core.proofs.Tail.OneReading.{one_scan}
use Rattle.sled_core.proofs.Tail.Rows.{cut_cases}
use Rattle.sled_log.specs.Recovery.{Scanned, IsScanned, GoesOn, IsTail, tail_end, begun_below, AreReplayed, open_at, stops_in, cut_of, given, passed_in, has_no_table, are_whole, table_of, is_beyond, resolved_scan, outcome_of, unchanged, RecoveryResult, Recovered, slots_in_order, PassesOver, Passes, Replays}
use Rattle.sled_log.proofs.Again.FilledRest.{broken_at}
use Rattle.sled_log.proofs.Recovers.OnePass.{same_pass}
use Rattle.sled_log.proofs.Replay.BlobLemmas.{open_resolved, stops_resolved}
use Rattle.sled_log.proofs.Replay.LineLemmas.{open_on}
use Rattle.sled_log.proofs.SnapshotFile.NewestLemmas.{chosen_well}

-- a snapshot that stays is not new
stays : (first : SnapshotModel) (unread : List ℕ) (y : RecoveryResult) → Recovered y ≡ Recovered (unchanged first unread) → y.is_new ≡ false
stays first unread y is = let same : y ≡ unchanged first unread = cc in ap (λ (w : RecoveryResult). w.is_new) same

not_beyond : (place cut : ℕ) → cut ≤ place → int_lt (pos place) (pos cut) ≡ false
not_beyond place cut low = grind (arith, nat_tests, low)

module _ (sum : List ℕ → ℕ) (size : ℕ) (log : List ℕ) (blobs : ℤ → Option (List ℕ)) (first : SnapshotModel) (y : RecoveryResult) where
  pub none_found : (tail : ℕ) → Replays sum size log blobs first [] tail (Recovered y) → y.is_new ≡ false
  none_found tail (inl damaged) = let no = damaged.1 in absurd (cc)
  none_found tail (inr ([], is_tail, good, passes)) = stays first [] y passes
  none_found tail (inr (x ∷ xs, is_tail, good, passes)) = absurd (in_nothing x.segment is_tail.0)

  module _ (s : Segment) (met : List ScannedRecord) (offset : ℕ) (scan : IsScanned sum size log (broken_at s met offset)) (behind : 0 < offset) (room : offset + 32 ≤ size) (place : first.stable ≡ Some (pos (s.place + offset))) where
    abbrev end : ℕ
    end = s.place + offset

    abbrev t : Scanned
    t = broken_at s met offset

    -- no pass over it stops above that
    low_by : (o : Option ℕ) → open_at end met ≡ o → (cut_of size (stops_in end t o [])).0 ≤ end
    unfolding IsScan
    low_by (Some p) is =
        let under = (open_on sum size log s.slot s.place end 20 met offset scan.0 p is).1 in
        ⊎_elim (λ same. omega (arith, same, under)) (λ filled. absurd (omega (arith, filled.1, under, room))) (cut_cases size (s, p))
    low_by None is = ⊎_elim (λ same. omega (arith, same)) (λ filled. absurd (omega (arith, filled.1, room))) (cut_cases size (s, end))

    low : (cut_of size (stops_in end t (open_at end met) [])).0 ≤ end
    low = low_by (open_at end met) refl

    concludes : (p : Scanned) (ps : List Scanned) (unread : List ℕ) → AreReplayed sum size log end (s ∷ []) (p ∷ ps) → Recovered y ≡ outcome_of size first end (map (resolved_scan blobs end) (p ∷ ps)) unread → y.is_new ≡ false
    concludes p ps unread are comes =
        let R : Scanned → Scanned = resolved_scan blobs end in
        let same = same_pass sum size log end (s ∷ []) (t ∷ []) (p ∷ ps) (refl, scan, tt) are in
        let at : Segment × ℕ = stops_in end (R p) (open_at end (R p).met) (map R ps) in
        let stops : at ≡ stops_in end t (open_at end met) [] = ap (λ o. stops_in end (R p) o (map R ps)) (open_resolved blobs end p.met) ∙ stops_resolved blobs end p ps (open_at end p.met) ∙ same.1 in
        let cut : ℕ × Option ℕ = cut_of size at in
        let under : cut.0 ≤ end = subst (λ (a : Segment × ℕ). (cut_of size a).0 ≤ end) (sym stops) low in
        let messages = given (stable_place first.stable) (passed_in end (R p) (open_at end (R p).met) (map R ps)) in
        let parts = chosen_well (has_no_table messages) (nat_lt cut.0 (stable_place first.stable)) (are_whole (table_of first.pages messages)) _ y (sym comes) in
        ap (λ (w : RecoveryResult). w.is_new) (sym parts.1) ∙ ap (λ (o : Option ℤ). is_beyond o cut.0) place ∙ not_beyond end cut.0 under

    passes_none : Passes sum size log blobs first (s ∷ []) (Some end) (Recovered y) → y.is_new ≡ false
    passes_none (inl damaged) = let no = damaged.0 in absurd (cc)
    passes_none (inr (ps, are, over)) = by ps _ (subst (λ (l : List Segment). AreReplayed sum size log end l ps) begun are) over where
      test : nat_lt s.place end ≡ true
      test = grind (arith, nat_tests, behind)

      begun : begun_below end (s ∷ []) ≡ s ∷ []
      begun = ap (λ (b : Bool). if b then s ∷ [] else []) test

      by : (ps : List Scanned) (unread : List ℕ) → AreReplayed sum size log end (s ∷ []) ps → PassesOver sum size blobs first end ps unread (Recovered y) → y.is_new ≡ false
      by [] unread are over = absurd are
      by (p ∷ ps) unread are (inl damaged) = let no = damaged.1 in absurd (cc)
      by (p ∷ ps) unread are (inr (good, comes)) = concludes p ps unread are comes

    pub one_found : (tail : ℕ) → Replays sum size log blobs first (s ∷ []) tail (Recovered y) → y.is_new ≡ false
    one_found tail (inl damaged) = let no = damaged.1 in absurd (cc)
    one_found tail (inr ([], is_tail, good, passes)) = stays first (slots_in_order (s ∷ [])) y passes
    one_found tail (inr (x ∷ xs, is_tail, good, passes)) =
        let same : x ≡ t = one_scan sum size log x t (sym (only_in s x.segment is_tail.0)) is_tail.2 scan in
        let none : xs ≡ [] = subst (λ (w : ScanEnd). GoesOn w xs (IsTail sum size log (s ∷ []) (tail + size) xs)) (ap (λ (w : Scanned). w.why) same) is_tail.3 in
        let ends : tail_end (x ∷ xs) ≡ Some end = ap (λ (l : List Scanned). tail_end (x ∷ l)) none ∙ ap (λ (w : Scanned). Some (w.segment.place + w.stop)) same in
        passes_none (subst (λ (o : Option ℕ). Passes sum size log blobs first (s ∷ []) o (Recovered y)) ends passes)
