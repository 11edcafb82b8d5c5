-- The blobs of what a pass meets, segment by segment.
use Rattle.std.proofs.Common.{◌≡◌, ◌↔◌, ◌⊎◌, ◌∙◌, ◌+◌, ◌<◌, ◌≤◌, ◌^◌, ℕ, ℤ, suc, List, [], ◌∷◌, ◌++◌, length, map, set, get_or, take, drop, append_assoc, append-nil, Option, Some, None, refl, sym, ap, subst, arith, inl, inr}
use Rattle.std.specs.List.{All}
use Rattle.std.proofs.lemmas.List.{drop_more, take_more_set, drop-set-lt, map-append}
use Rattle.std.proofs.lemmas.List.Elements.{All-cons, All-head, All-nil, All-tail}
use Rattle.sled_core.specs.declared.iterator.scan.ScannedRecord.{ScannedRecord}
use Rattle.sled_core.specs.declared.iterator.scan.RecordContent.{RecordContent}
use Rattle.sled_core.specs.declared.iterator.Segment.{Segment}
use Rattle.sled_store.specs.Device.{Trace, state_of}
use Rattle.sled_store.proofs.Segments.Elements.{in_cases, in_nothing}
use Rattle.sled_log.specs.declared.snapshot.pass.Pass.{Pass}
use Rattle.sled_log.specs.Recovery.{Scanned, StopsOrGoesOn, AreReplayed, before_open, open_at, passed_in, passed_all, HasBadBlob, MeetsBadBlob, MeetsOne, HaveGoodBlobs, resolved_scan, resolved_before}
use Rattle.sled_log.specs.Passes.{HasKinds, IsPass, pass_of, OpensLast, MeetsBadPass, PassMeets}
use Rattle.sled_core.proofs.Tail.Rows.{all_before_open}
use Rattle.sled_log.proofs.Replay.BlobLemmas.{met_behind, met_first, met_cases}
use Rattle.sled_log.proofs.Replay.LookLemmas.{all_with_blobs, met_still, written}

-- What was read in a pass: only in the last one a batch is open.
module _ (sum : List ℕ → ℕ) (size : ℕ) (log : List ℕ) (end : ℕ) where
  pub opens_last : (ss : List Segment) (xs : List Scanned) → AreReplayed sum size log end ss xs → OpensLast end xs
  opens_last ss [] are = tt
  opens_last [] (x ∷ xs) are = absurd are
  opens_last (s ∷ ss) (x ∷ xs) are = by (open_at end x.met) are.2 (opens_last ss xs) where
    by : (o : Option ℕ) → StopsOrGoesOn o xs (AreReplayed sum size log end ss xs) → (AreReplayed sum size log end ss xs → OpensLast end xs) → StopsOrGoesOn o xs (OpensLast end xs)
    by (Some p) on others = on
    by None on others = others on

-- What is met in these segments is met in all that the pass meets.
module _ (P : RecordContent → Type 0) where
  met_front : (xs ys : List ScannedRecord) → MeetsOne P xs → MeetsOne P (xs ++ ys)
  met_front [] ys met = absurd (in_nothing met.0 met.1)
  met_front (x ∷ xs) ys met = elim (met_cases P x xs met) [
    | inl here ↦ met_first P x (xs ++ ys) here
    | inr later ↦ met_behind P x (xs ++ ys) (met_front xs ys later)
  ]

  met_back : (xs ys : List ScannedRecord) → MeetsOne P ys → MeetsOne P (xs ++ ys)
  met_back [] ys met = met
  met_back (x ∷ xs) ys met = met_behind P x (xs ++ ys) (met_back xs ys met)

  met_in_two : (xs ys : List ScannedRecord) → MeetsOne P (xs ++ ys) → MeetsOne P xs ⊎ MeetsOne P ys
  met_in_two [] ys met = inr met
  met_in_two (x ∷ xs) ys met = elim (met_cases P x (xs ++ ys) met) [
    | inl here ↦ inl (met_first P x xs here)
    | inr later ↦ elim (met_in_two xs ys later) [
      | inl front ↦ inl (met_behind P x xs front)
      | inr back ↦ inr back
    ]
  ]

  module _ (end : ℕ) where
    passed_none : (s : Scanned) (ss : List Scanned) → passed_in end s None ss ≡ s.met ++ passed_all end ss
    passed_none s [] = sym (append-nil s.met)
    passed_none s (t ∷ ts) = refl

    none_last : (ss : List Scanned) → ss ≡ [] → PassMeets P end ss → ⊥
    none_last ss is met = subst (λ (l : List Scanned). PassMeets P end l) is met

    pub met_to_all : (ss : List Scanned) → OpensLast end ss → PassMeets P end ss → MeetsOne P (passed_all end ss)
    met_to_all [] last met = absurd met
    met_to_all (s ∷ ss) last met = by (open_at end s.met) refl last met (met_to_all ss) where
      by : (o : Option ℕ) → open_at end s.met ≡ o → StopsOrGoesOn o ss (OpensLast end ss) → MeetsOne P (before_open end s.met) ⊎ PassMeets P end ss
          → (OpensLast end ss → PassMeets P end ss → MeetsOne P (passed_all end ss)) → MeetsOne P (passed_in end s o ss)
      by (Some p) is on (inl here) others = here
      by (Some p) is on (inr later) others = absurd (none_last ss on later)
      by None is on (inl here) others =
          subst (MeetsOne P) (sym (passed_none s ss)) (met_front s.met (passed_all end ss) (subst (MeetsOne P) (all_before_open end s.met is) here))
      by None is on (inr later) others = subst (MeetsOne P) (sym (passed_none s ss)) (met_back s.met (passed_all end ss) (others on later))

    pub met_of_all : (ss : List Scanned) → OpensLast end ss → MeetsOne P (passed_all end ss) → PassMeets P end ss
    met_of_all [] last met = absurd (in_nothing met.0 met.1)
    met_of_all (s ∷ ss) last met = by (open_at end s.met) refl last met (met_of_all ss) where
      by : (o : Option ℕ) → open_at end s.met ≡ o → StopsOrGoesOn o ss (OpensLast end ss) → MeetsOne P (passed_in end s o ss)
          → (OpensLast end ss → MeetsOne P (passed_all end ss) → PassMeets P end ss) → MeetsOne P (before_open end s.met) ⊎ PassMeets P end ss
      by (Some p) is on met others = inl met
      by None is on met others = elim (met_in_two s.met (passed_all end ss) (subst (MeetsOne P) (passed_none s ss) met)) [
        | inl here ↦ inl (subst (MeetsOne P) (sym (all_before_open end s.met is)) here)
        | inr later ↦ inr (others on later)
      ]

-- One segment after another gets its blobs.
module _ (sum : List ℕ → ℕ) (blobs : ℤ → Option (List ℕ)) (end : ℕ) (ps : List Pass) (i : ℕ) (d : Pass) (lt : i < length ps) where
  abbrev R : Scanned → Scanned
  R = resolved_scan blobs end

  -- kinds of those that are left
  pub kinds_here : All HasKinds (drop i ps) → HasKinds (get_or ps i d)
  kinds_here all = All-head HasKinds (get_or ps i d) (drop (i + 1) ps) (subst (All HasKinds) (drop_more ps i d lt) all)

  pub kinds_on : (x : Pass) → All HasKinds (drop i ps) → All HasKinds (drop (i + 1) (set ps i x))
  kinds_on x all = subst (All HasKinds) (sym (drop-set-lt (i + 1) ps i x (omega arith))) (All-tail HasKinds (get_or ps i d) (drop (i + 1) ps) (subst (All HasKinds) (drop_more ps i d lt) all))

  -- what is met in the first of those that are left
  pub pass_meets_here : (P : RecordContent → Type 0) → MeetsOne P (before_open end (get_or ps i d).scan.met.items) → PassMeets P end (map pass_of (drop i ps))
  pass_meets_here P met = subst (λ (l : List Pass). PassMeets P end (map pass_of l)) (sym (drop_more ps i d lt)) (inl met)

  -- and behind it, when that one was set
  pub pass_meets_on : (P : RecordContent → Type 0) (x : Pass) → PassMeets P end (map pass_of (drop (i + 1) (set ps i x))) → PassMeets P end (map pass_of (drop i ps))
  pass_meets_on P x met =
      let rest = subst (λ (l : List Pass). PassMeets P end (map pass_of l)) (drop-set-lt (i + 1) ps i x (omega arith)) met in
      subst (λ (l : List Pass). PassMeets P end (map pass_of l)) (sym (drop_more ps i d lt)) (inr rest)

  -- it isn't bad: what is bad lies behind it
  pub bad_pass_on : (x : Pass) → (MeetsBadBlob sum blobs (before_open end (get_or ps i d).scan.met.items) → ⊥) → MeetsBadPass sum blobs end (map pass_of (drop i ps))
      → MeetsBadPass sum blobs end (map pass_of (drop (i + 1) (set ps i x)))
  bad_pass_on x fine bad = subst (λ (l : List Pass). MeetsBadPass sum blobs end (map pass_of l)) (sym (drop-set-lt (i + 1) ps i x (omega arith)))
      (elim (subst (λ (l : List Pass). MeetsBadPass sum blobs end (map pass_of l)) (drop_more ps i d lt) bad) [
        | inl here ↦ absurd (fine here)
        | inr later ↦ later
      ])

  pub passes_on : (x : Pass) → pass_of x ≡ R (pass_of (get_or ps i d))
      → map pass_of (take (i + 1) (set ps i x)) ++ map R (map pass_of (drop (i + 1) (set ps i x))) ≡ map pass_of (take i ps) ++ map R (map pass_of (drop i ps))
  passes_on x is =
      ap (λ (l : List Pass). map pass_of l ++ map R (map pass_of (drop (i + 1) (set ps i x)))) (take_more_set ps i x lt)
      ∙ ap (λ (l : List Pass). map pass_of (take i ps ++ x ∷ []) ++ map R (map pass_of l)) (drop-set-lt (i + 1) ps i x (omega arith))
      ∙ ap (λ (l : List Scanned). l ++ map R (map pass_of (drop (i + 1) ps))) (map-append pass_of (take i ps) (x ∷ []))
      ∙ append_assoc (map pass_of (take i ps)) (pass_of x ∷ []) (map R (map pass_of (drop (i + 1) ps)))
      ∙ ap (λ (y : Scanned). map pass_of (take i ps) ++ y ∷ map R (map pass_of (drop (i + 1) ps))) is
      ∙ ap (λ (l : List Pass). map pass_of (take i ps) ++ map R (map pass_of l)) (sym (drop_more ps i d lt))

-- their ends and their records lie where they did
module _ (size : ℕ) (blobs : ℤ → Option (List ℕ)) (end : ℕ) where
  pub pass_fits : (p q : Pass) → pass_of q ≡ resolved_scan blobs end (pass_of p) → IsPass size p → IsPass size q
  pass_fits p q is fits =
      let segment : q.segment ≡ p.segment = ap (λ (s : Scanned). s.segment) is in
      let met : q.scan.met.items ≡ resolved_before blobs end p.scan.met.items = ap (λ (s : Scanned). s.met) is in
      let stop : q.scan.stop ≡ p.scan.stop = ap (λ (s : Scanned). s.stop) is in
      record {
        slot = subst (λ (s : Segment). s.slot + size < 2 ^ 63) (sym segment) fits.slot;
        place = subst (λ (s : Segment). s.place + size < 2 ^ 63) (sym segment) fits.place;
        stop = subst (λ n. n ≤ size) (sym stop) fits.stop;
        places = subst (λ (s : Segment). All (λ (m : ScannedRecord). m.place < s.place + size) q.scan.met.items) (sym segment)
            (subst (All (λ (m : ScannedRecord). m.place < p.segment.place + size)) (sym met)
            (all_with_blobs blobs (λ (m : ScannedRecord). m.place < p.segment.place + size) (λ m lt. lt) end p.scan.met.items fits.places));
      }

  pub passes_fit : (ps qs : List Pass) → map pass_of qs ≡ map (resolved_scan blobs end) (map pass_of ps) → All (IsPass size) ps → All (IsPass size) qs
  passes_fit ps [] is fits = All-nil (IsPass size)
  passes_fit [] (q ∷ qs) is fits = absurd (cc)
  passes_fit (p ∷ ps) (q ∷ qs) is fits =
      let first : pass_of q ≡ resolved_scan blobs end (pass_of p) = cc in
      let others : map pass_of qs ≡ map (resolved_scan blobs end) (map pass_of ps) = cc in
      All-cons (IsPass size) q qs (pass_fits p q first (All-head (IsPass size) p ps fits)) (passes_fit ps qs others (All-tail (IsPass size) p ps fits))

-- blobs that pass at one moment pass at another one between which the device was only read
pub still_fine : (sum : List ℕ → ℕ) (ms : List ScannedRecord) (t u : Trace) → t ≡ u → (MeetsBadBlob sum (state_of t).blobs.file ms → ⊥) → MeetsBadBlob sum (state_of u).blobs.file ms → ⊥
still_fine sum ms t u same fine bad = fine (met_still (HasBadBlob sum) ms ms u t refl (sym same) bad)

-- one more segment of the tail has blobs that pass
pub good_more : (sum : List ℕ → ℕ) (blobs : ℤ → Option (List ℕ)) (before : List Scanned) (x : Scanned) → HaveGoodBlobs sum blobs before → (MeetsBadBlob sum blobs x.met → ⊥) → HaveGoodBlobs sum blobs (before ++ x ∷ [])
good_more sum blobs [] x good fine s there bad = elim (in_cases x s [] there) [
  | inl same ↦ fine (subst (λ (y : Scanned). MeetsBadBlob sum blobs y.met) (sym same) bad)
  | inr none ↦ in_nothing s none
]
good_more sum blobs (y ∷ before) x good fine s there bad = elim (in_cases y s (before ++ x ∷ []) there) [
  | inl same ↦ good s (0, omega arith, same) bad
  | inr later ↦ good_more sum blobs before x (λ t in_rest. good t (suc in_rest.0, let below = in_rest.1 in omega (arith, below), in_rest.2)) fine s later bad
]

-- A vector of segments that got their blobs, at a moment between which and another one the device was only read.
pub resolved_vec : (end n : ℕ) (ps now mid rest : List Pass) (t u : Trace) → length mid ≡ n → map pass_of mid ≡ map (resolved_scan (state_of t).blobs.file end) (map pass_of now) → now ≡ ps → t ≡ u
    → map pass_of (take n (mid ++ rest)) ≡ map (resolved_scan (state_of u).blobs.file end) (map pass_of ps)
resolved_vec end n ps now mid rest t u long is same read =
    ap (map pass_of) (written n mid rest long)
    ∙ is
    ∙ ap (λ (l : List Pass). map (resolved_scan (state_of t).blobs.file end) (map pass_of l)) same
    ∙ ap (λ (x : Trace). map (resolved_scan (state_of x).blobs.file end) (map pass_of ps)) read
