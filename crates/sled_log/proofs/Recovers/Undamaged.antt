-- A recoverable log file is not damaged, and what comes of it is what comes of a pass over all its segments up to the end of the tail.
use Rattle.std.proofs.Common.{⊎_elim, ◌≡◌, ◌⊎◌, ◌∙◌, ℕ, ℤ, Bool, true, false, nat_lt, if◌then◌else◌, List, [], ◌∷◌, length, drop, map, Option, Some, None, refl, sym, ap, subst, inl, inr}
use Rattle.std.specs.List.{Contains}
use Rattle.std.proofs.lemmas.List.Elements.{Contains-append_cases, Contains-append_right}
use Rattle.sled_codec.specs.History.{History}
use Rattle.sled_codec.specs.declared.result.DiskPtr.{DiskPtr}
use Rattle.sled_codec.specs.Snapshots.{SnapshotModel, stable_place}
use Rattle.sled_core.specs.declared.iterator.Segment.{Segment}
use Rattle.sled_core.specs.declared.iterator.scan.ScannedRecord.{ScannedRecord}
use Rattle.sled_core.specs.Scan.{IsDamagedIn}
use Rattle.sled_core.specs.inside.Recoverable.{IsOfHistory, IsRecoverableLog, AreRecoverableBlobs, PassesIfThere, scanned_below, cut_over, cut_from}
use Rattle.sled_store.proofs.Segments.Elements.{in_first, in_rest, in_cases, in_nothing}
use Rattle.sled_log.specs.Recovery.{IsUnordered, Scanned, IsScanned, tail_begins, tail_end, begun_below, opens, before_open, open_at, stops_in, cut_of, least_place, AreReplayed, HasBadBlob, MeetsBadBlob, resolved, resolved_scan, given, passed_in, Outcome, Recovered, concluded, unchanged, outcome_of, IsDamagedTail, IsDamagedPass, PassesOver, slots_in_order, Passes, Replays, ContinuesFrom}
use Rattle.sled_log.proofs.Replay.BlobLemmas.{open_resolved, stops_resolved, passed_resolved}
use Rattle.sled_core.proofs.Tail.OneReading.{scan_undamaged}
use Rattle.sled_core.proofs.Tail.OneTail.{Rises, rises_of, one_at_place, one_ordering, one_tail, scan_there, reading_there, scans_below, from_below}
use Rattle.sled_log.proofs.Recovers.OnePass.{IsSamePass, same_pass}

-- What a pass meets stands in one of its segments.

before_in : (end : ℕ) (ms : List ScannedRecord) (x : ScannedRecord) → Contains (before_open end ms) x → Contains ms x
before_in end [] x there = there
before_in end (m ∷ ms) x there = by (opens end m.what) (before_in end ms x) there where
  by : (b : Bool) → (Contains (before_open end ms) x → Contains ms x) → Contains (if b then [] else m ∷ before_open end ms) x → Contains (m ∷ ms) x
  by true rest at = absurd (in_nothing x at)
  by false rest at = ⊎_elim (λ is. subst (Contains (m ∷ ms)) is (in_first m ms)) (λ later. in_rest m x ms (rest later)) (in_cases m x (before_open end ms) at)

pub passed_from : (end : ℕ) (s : Scanned) (ss : List Scanned) (o : Option ℕ) (x : ScannedRecord) → Contains (passed_in end s o ss) x → (t : Scanned) × Contains (s ∷ ss) t × Contains t.met x
passed_from end s ss (Some place) x there = (s, in_first s ss, before_in end s.met x there)
passed_from end s [] None x there = (s, in_first s [], there)
passed_from end s (t ∷ ts) None x there = ⊎_elim
    (λ own. (s, in_first s (t ∷ ts), own))
    (λ later. let rest = passed_from end t ts (open_at end t.met) x later in (rest.0, in_rest s rest.0 (t ∷ ts) rest.1, rest.2))
    (Contains-append_cases s.met (passed_in end t (open_at end t.met) ts) x there)

module _ (sum : List ℕ → ℕ) (size : ℕ) (log : List ℕ) (blobs : ℤ → Option (List ℕ)) (H : History) (A : ℕ) (first : SnapshotModel) (cut : ℕ × Option ℕ)
    (is : IsRecoverableLog sum size log H A first cut) (are : AreRecoverableBlobs sum blobs H cut.0) where
  abbrev least : ℕ
  least = least_place size first

  pub rises : Rises is.ordering
  rises = rises_of is.ordering is.numbers.ascending

  -- a reading of one of the segments is the one that is known
  pub known : (s : Scanned) → Contains is.ordering s.segment → IsScanned sum size log s → Contains is.scanned s
  known s there scan = reading_there sum size log is.ordering is.scanned is.reads s there scan

  -- No segments are found that can't be of one log.
  not_unordered : IsUnordered sum size log least → ⊥
  not_unordered (inl (s, found, bad)) = is.numbers.placed s ((is.numbers.found s).1 found) bad
  not_unordered (inr (s, t, found, also, apart, same)) =
      apart (ap (λ (x : Segment). x.slot) (one_at_place is.ordering rises s t ((is.numbers.found s).1 found) ((is.numbers.found t).1 also) same))

  -- No damaged record is met.
  no_damage_in : (s : Segment) → Contains is.ordering s → IsDamagedIn sum size log s.slot s.place → ⊥
  no_damage_in s there damaged =
      let found = scan_there sum size log is.ordering is.scanned is.reads s there in
      let x : Scanned = found.0 in
      scan_undamaged sum size log x.segment.slot x.segment.place x.met x.stop x.why found.3 (subst (λ (y : Segment). IsDamagedIn sum size log y.slot y.place) (sym found.2) damaged)

  -- No blob is there that doesn't pass for the record that names it.
  none_bad : (x : ScannedRecord) → IsOfHistory sum size log H x → HasBadBlob sum blobs x.what → ⊥
  none_bad x (inl (m, there, meets, stands, alone, apart)) bad = elim meets.what [
    | inl gives ↦ subst (HasBadBlob sum blobs) gives bad
    | inr names ↦ subst (PassesIfThere sum blobs m) names.3 (are.named m there) names.0 names.4 (subst (HasBadBlob sum blobs) names.5 bad)
  ]
  none_bad x (inr (inl (b, there, place, what, alone, apart))) bad = subst (HasBadBlob sum blobs) what bad
  none_bad x (inr (inr (what, alone, apart))) bad = subst (HasBadBlob sum blobs) what bad

  no_bad_in : (s : Scanned) → Contains is.scanned s → MeetsBadBlob sum blobs s.met → ⊥
  no_bad_in s there bad = none_bad bad.0 (is.truth s bad.0 there bad.1) bad.2

  no_damaged_tail : (name : Option DiskPtr) → IsDamagedTail sum size log blobs is.ordering (tail_begins size least is.ordering) name → ⊥
  no_damaged_tail name damaged = elim damaged.damaged [
    | inl here ↦ no_damage_in damaged.segment damaged.there here.1
    | inr bad ↦ no_bad_in bad.0 (known bad.0 (subst (Contains is.ordering) (sym bad.1) damaged.there) bad.2) (bad.3.0, bad.3.1, bad.3.2.0)
  ]

  -- The segments that begin below the end of the tail.
  module _ (end : ℕ) where
    begun_in : (ss : List Segment) (s : Segment) → Contains (begun_below end ss) s → Contains ss s
    begun_in [] s there = there
    begun_in (t ∷ ss) s there = by (nat_lt t.place end) (begun_in ss s) there where
      by : (b : Bool) → (Contains (begun_below end ss) s → Contains ss s) → Contains (if b then t ∷ begun_below end ss else begun_below end ss) s → Contains (t ∷ ss) s
      by true rest at = ⊎_elim (λ same. subst (Contains (t ∷ ss)) same (in_first t ss)) (λ later. in_rest t s ss (rest later)) (in_cases t s (begun_below end ss) at)
      by false rest at = in_rest t s ss (rest at)

    no_damaged_pass : IsDamagedPass sum size log end (begun_below end is.ordering) → ⊥
    unfolding IsDamagedIn
    no_damaged_pass damaged =
        let there : Contains (begun_below end is.ordering) damaged.segment = subst (λ (l : List Segment). Contains l damaged.segment) (sym damaged.is) (Contains-append_right damaged.first (damaged.segment ∷ damaged.rest) damaged.segment (in_first damaged.segment damaged.rest)) in
        no_damage_in damaged.segment (begun_in is.ordering damaged.segment there) (damaged.met, damaged.next, damaged.path, damaged.room, damaged.damaged)

    -- what a pass over segments that begin below the end meets is of the history
    pub passed_known : (s : Scanned) (ss : List Scanned) → scanned_below end is.scanned ≡ s ∷ ss → (x : ScannedRecord) → Contains (passed_in end s (open_at end s.met) ss) x → (t : Scanned) × Contains is.scanned t × Contains t.met x
    passed_known s ss below x there =
        let from = passed_from end s ss (open_at end s.met) x there in
        (from.0, (from_below sum size log end is.scanned from.0 (subst (λ (l : List Scanned). Contains l from.0) (sym below) from.1)).0, from.2)

    pub passed_truth : (s : Scanned) (ss : List Scanned) → scanned_below end is.scanned ≡ s ∷ ss → (x : ScannedRecord) → Contains (passed_in end s (open_at end s.met) ss) x → IsOfHistory sum size log H x
    passed_truth s ss below x there = let found = passed_known s ss below x there in is.truth found.0 x found.1 found.2

    -- what comes of the pass over these
    abbrev pub ComesOf : Scanned → List Scanned → List ℕ → Outcome → Type 0
    ComesOf s ss unread o = o ≡ concluded size first unread (given (stable_place first.stable) (map (resolved blobs) (passed_in end s (open_at end s.met) ss))) (cut_of size (stops_in end s (open_at end s.met) ss))

    comes_of : (s p : Scanned) (ss ps : List Scanned) (unread : List ℕ) (o : Outcome) → IsSamePass end (s ∷ ss) (p ∷ ps) → o ≡ outcome_of size first end (map (resolved_scan blobs end) (p ∷ ps)) unread → ComesOf s ss unread o
    comes_of s p ss ps unread o same comes =
        let R : Scanned → Scanned = resolved_scan blobs end in
        let opened : open_at end (R p).met ≡ open_at end p.met = open_resolved blobs end p.met in
        let passed = ap (λ x. passed_in end (R p) x (map R ps)) opened ∙ passed_resolved blobs end p ps (open_at end p.met) refl ∙ ap (map (resolved blobs)) same.0 in
        let stops = ap (λ x. stops_in end (R p) x (map R ps)) opened ∙ stops_resolved blobs end p ps (open_at end p.met) ∙ same.1 in
        comes
        ∙ ap (λ (l : List ScannedRecord). concluded size first unread (given (stable_place first.stable) l) (cut_of size (stops_in end (R p) (open_at end (R p).met) (map R ps)))) passed
        ∙ ap (λ (at : Segment × ℕ). concluded size first unread (given (stable_place first.stable) (map (resolved blobs) (passed_in end s (open_at end s.met) ss))) (cut_of size at)) stops

  -- no segment is read by the pass
  abbrev pub ReadsNone : List ℕ → Type 0
  ReadsNone unread = ((tail_end is.tail ≡ None) × (unread ≡ slots_in_order is.ordering)) ⊎ ((end : ℕ) × (tail_end is.tail ≡ Some end) × (scanned_below end is.scanned ≡ []))

  -- the slots of the segments that a pass did not read
  abbrev pub left_of : List Scanned → List ℕ
  left_of passes = slots_in_order (drop (length passes) is.ordering)

  -- The snapshot stays, and its place is the cut; or a pass over segments that begin below the end of the tail gives the outcome.
  abbrev pub Comes : Outcome → Type 0
  Comes o =
      ((unread : List ℕ) × ReadsNone unread × (cut ≡ (stable_place first.stable, first.active)) × (o ≡ Recovered (unchanged first unread)))
      ⊎ ((end : ℕ) × (s : Scanned) × (ss : List Scanned) × (passes : List Scanned) × (tail_end is.tail ≡ Some end) × (scanned_below end is.scanned ≡ s ∷ ss)
      × AreReplayed sum size log end (begun_below end is.ordering) passes × ComesOf end s ss (left_of passes) o)

  cut_at : (o : Option ℕ) → tail_end is.tail ≡ o → cut ≡ cut_from size first is.scanned o
  cut_at o ends = is.is_cut ∙ ap (cut_from size first is.scanned) ends

  -- where a pass was made
  over : (end : ℕ) → tail_end is.tail ≡ Some end → (passes : List Scanned) → AreReplayed sum size log end (begun_below end is.ordering) passes → (o : Outcome)
      → PassesOver sum size blobs first end passes (left_of passes) o → Comes o
  over end ends passes replayed o result =
      by (scanned_below end is.scanned) passes refl (same_pass sum size log end (begun_below end is.ordering) (scanned_below end is.scanned) passes (scans_below sum size log end is.ordering is.scanned is.reads) replayed) result where
        by : (xs ps : List Scanned) → scanned_below end is.scanned ≡ xs → IsSamePass end xs ps → PassesOver sum size blobs first end ps (left_of passes) o → Comes o
        by [] [] below same (inl bad) = let there = bad.2 in absurd (in_nothing there.0 there.1)
        by [] [] below same (inr fine) = inl (left_of passes, inr (end, ends, below), cut_at (Some end) ends ∙ ap (cut_over size first end) below, fine.1)
        by [] (p ∷ ps) below same result = absurd same
        by (x ∷ xs) [] below same result = absurd same
        by (x ∷ xs) (p ∷ ps) below same (inl bad) =
            let there = bad.2 in
            absurd (none_bad there.0 (passed_truth end x xs below there.0 (subst (λ (l : List ScannedRecord). Contains l there.0) same.0 there.1)) there.2.0)
        by (x ∷ xs) (p ∷ ps) below same (inr fine) = inr (end, x, xs, passes, ends, below, replayed, comes_of end x p xs ps (left_of passes) o same fine.1)

  passes_come : (o : Outcome) (e : Option ℕ) → tail_end is.tail ≡ e → Passes sum size log blobs first is.ordering e o → Comes o
  passes_come o None ends result = inl (slots_in_order is.ordering, inl (ends, refl), cut_at None ends, result)
  passes_come o (Some end) ends (inl damaged) = absurd (no_damaged_pass end damaged.1)
  passes_come o (Some end) ends (inr (passes, replayed, result)) = over end ends passes replayed o result

  replays_come : (o : Outcome) → Replays sum size log blobs first is.ordering (tail_begins size least is.ordering) o → Comes o
  replays_come o (inl damaged) = absurd (no_damaged_tail damaged.0 damaged.2)
  replays_come o (inr (tail, is_tail, good, result)) =
      let same : tail ≡ is.tail = one_tail sum size log is.ordering rises (tail_begins size least is.ordering) tail is.tail is_tail is.is_tail in
      passes_come o (tail_end is.tail) refl (subst (λ (t : List Scanned). Passes sum size log blobs first is.ordering (tail_end t) o) same result)

  pub what_comes : (o : Outcome) → ContinuesFrom sum size log blobs first o → Comes o
  unfolding ContinuesFrom
  what_comes o (inl damaged) = absurd (not_unordered damaged.1)
  what_comes o (inr (ordering, numbers, result)) =
      let same : ordering ≡ is.ordering = one_ordering sum size log least ordering is.ordering numbers is.numbers in
      replays_come o (subst (λ (l : List Segment). Replays sum size log blobs first l (tail_begins size least l) o) same result)
