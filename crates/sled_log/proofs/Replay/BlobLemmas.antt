-- What the blobs of records change in what a pass meets: neither where it stops nor where its records lie.
use Rattle.std.proofs.Common.{◌≡◌, ◌⊎◌, ◌∙◌, ◌≤◌, ℕ, ℤ, suc, Bool, true, false, if◌then◌else◌, List, [], ◌∷◌, ◌++◌, map, is_some, Option, Some, None, refl, sym, ap, subst, arith, inl, inr}
use Rattle.sled_codec.specs.Kinds.{log_kind_of}
use Rattle.sled_codec.specs.declared.result.DiskPtr.{DiskPtr}
use Rattle.sled_codec.specs.declared.result.DiskPtr.TheVariants.{Blob}
use Rattle.sled_store.proofs.Segments.Elements.{in_cases, in_nothing}
use Rattle.sled_core.specs.declared.iterator.scan.ScannedRecord.{ScannedRecord}
use Rattle.sled_core.specs.declared.iterator.scan.RecordContent.{RecordContent}
use Rattle.sled_core.specs.declared.iterator.scan.RecordContent.TheVariants.{Gives, NamesBlob, Skipped, BatchStart}
use Rattle.sled_core.proofs.Tail.Rows.{all_before_open}
use Rattle.sled_log.specs.Recovery.{Scanned, opens, before_open, open_at, stops_in, passed_in, cut_of, HasBadBlob, HasDamage, MeetsBadBlob, MeetsOne, NamesBadBlob, with_blob, resolved, resolved_before, resolved_scan}
use Rattle.sled_log.proofs.Replay.LineLemmas.{LieBelow, IsLine, all_below}

module _ (blobs : ℤ → Option (List ℕ)) (end : ℕ) where
  -- a record with its blob begins a batch where it did
  opens_with : (what : RecordContent) → opens end (with_blob blobs what) ≡ opens end what
  opens_with (Gives kind page pointer) = refl
  opens_with (NamesBlob kind page lid place) = by_test (is_some (blobs place)) where
    by_test : (b : Bool) → opens end (if b then Gives (log_kind_of kind) page (Blob lid place) else Skipped) ≡ false
    by_test true = refl
    by_test false = refl
  opens_with Skipped = refl
  opens_with (BatchStart peg) = refl

  pub open_resolved : (ms : List ScannedRecord) → open_at end (resolved_before blobs end ms) ≡ open_at end ms
  open_resolved [] = refl
  open_resolved (m ∷ ms) = by_test (opens end m.what) refl (open_resolved ms) where
    by_test : (b : Bool) → opens end m.what ≡ b → open_at end (resolved_before blobs end ms) ≡ open_at end ms
        → open_at end (if b then m ∷ ms else resolved blobs m ∷ resolved_before blobs end ms) ≡ (if b then Some m.place else open_at end ms)
    by_test true is rest = ap (λ (x : Bool). if x then Some m.place else open_at end ms) is
    by_test false is rest = ap (λ (x : Bool). if x then Some m.place else open_at end (resolved_before blobs end ms)) (opens_with m.what ∙ is) ∙ rest

  before_resolved : (ms : List ScannedRecord) → before_open end (resolved_before blobs end ms) ≡ map (resolved blobs) (before_open end ms)
  before_resolved [] = refl
  before_resolved (m ∷ ms) = by_test (opens end m.what) refl (before_resolved ms) where
    by_test : (b : Bool) → opens end m.what ≡ b → before_open end (resolved_before blobs end ms) ≡ map (resolved blobs) (before_open end ms)
        → before_open end (if b then m ∷ ms else resolved blobs m ∷ resolved_before blobs end ms) ≡ map (resolved blobs) (if b then [] else m ∷ before_open end ms)
    by_test true is rest = ap (λ (x : Bool). if x then [] else m ∷ before_open end ms) is
    by_test false is rest =
        ap (λ (x : Bool). if x then [] else resolved blobs m ∷ before_open end (resolved_before blobs end ms)) (opens_with m.what ∙ is)
        ∙ ap (λ (l : List ScannedRecord). resolved blobs m ∷ l) rest

  all_resolved : (ms : List ScannedRecord) → open_at end ms ≡ None → resolved_before blobs end ms ≡ map (resolved blobs) ms
  all_resolved ms none =
      sym (all_before_open end (resolved_before blobs end ms) (open_resolved ms ∙ none)) ∙ before_resolved ms ∙ ap (map (resolved blobs)) (all_before_open end ms none)

  abbrev R : Scanned → Scanned
  R = resolved_scan blobs end

  -- the pass stops where it did
  pub stops_resolved : (s : Scanned) (ss : List Scanned) (o : Option ℕ) → stops_in end (R s) o (map R ss) ≡ stops_in end s o ss
  stops_resolved s ss (Some p) = refl
  stops_resolved s [] None = refl
  stops_resolved s (t ∷ ts) None = ap (λ o. stops_in end (R t) o (map R ts)) (open_resolved t.met) ∙ stops_resolved t ts (open_at end t.met)

  map_both : (xs ys : List ScannedRecord) → map (resolved blobs) xs ++ map (resolved blobs) ys ≡ map (resolved blobs) (xs ++ ys)
  map_both [] ys = refl
  map_both (x ∷ xs) ys = ap (λ (l : List ScannedRecord). resolved blobs x ∷ l) (map_both xs ys)

  -- and meets the same with its blobs
  pub passed_resolved : (s : Scanned) (ss : List Scanned) (o : Option ℕ) → open_at end s.met ≡ o → passed_in end (R s) o (map R ss) ≡ map (resolved blobs) (passed_in end s o ss)
  passed_resolved s ss (Some p) is = before_resolved s.met
  passed_resolved s [] None is = all_resolved s.met is
  passed_resolved s (t ∷ ts) None is =
      ap (λ o. resolved_before blobs end s.met ++ passed_in end (R t) o (map R ts)) (open_resolved t.met)
      ∙ ap (λ (l : List ScannedRecord). resolved_before blobs end s.met ++ l) (passed_resolved t ts (open_at end t.met) refl)
      ∙ ap (λ (l : List ScannedRecord). l ++ map (resolved blobs) (passed_in end t (open_at end t.met) ts)) (all_resolved s.met is)
      ∙ map_both s.met (passed_in end t (open_at end t.met) ts)

  lie_resolved : (at : ℕ) (ms : List ScannedRecord) → LieBelow at ms → LieBelow at (map (resolved blobs) ms)
  lie_resolved at [] lie = tt
  lie_resolved at (m ∷ ms) lie = (lie.0, lie_resolved at ms lie.1)

  -- so all of it lies below the cut
  pub all_below_resolved : (sum : List ℕ → ℕ) (size : ℕ) (log : List ℕ) (large : 20 ≤ size) (s : Scanned) (ss : List Scanned) → IsLine sum size log large (s ∷ ss)
      → LieBelow (cut_of size (stops_in end (R s) (open_at end (R s).met) (map R ss))).0 (passed_in end (R s) (open_at end (R s).met) (map R ss))
  all_below_resolved sum size log large s ss line =
      let opened : open_at end (R s).met ≡ open_at end s.met = open_resolved s.met in
      let stops = ap (λ o. stops_in end (R s) o (map R ss)) opened ∙ stops_resolved s ss (open_at end s.met) in
      let passed = ap (λ o. passed_in end (R s) o (map R ss)) opened ∙ passed_resolved s ss (open_at end s.met) refl in
      let below = lie_resolved (cut_of size (stops_in end s (open_at end s.met) ss)).0 (passed_in end s (open_at end s.met) ss) (all_below sum size log large end s ss line) in
      subst (λ at. LieBelow (cut_of size at).0 (passed_in end (R s) (open_at end (R s).met) (map R ss))) (sym stops)
      (subst (LieBelow (cut_of size (stops_in end s (open_at end s.met) ss)).0) (sym passed) below)

-- What is met among records.
module _ (P : RecordContent → Type 0) where
  pub met_behind : (x : ScannedRecord) (ms : List ScannedRecord) → MeetsOne P ms → MeetsOne P (x ∷ ms)
  met_behind x ms met = (met.0, (suc met.1.0, let below = met.1.1 in omega (arith, below), met.1.2), met.2)

  pub met_first : (x : ScannedRecord) (ms : List ScannedRecord) → P x.what → MeetsOne P (x ∷ ms)
  met_first x ms met = (x, (0, omega arith, refl), met)

  -- one of these, or one behind it
  pub met_cases : (x : ScannedRecord) (ms : List ScannedRecord) → MeetsOne P (x ∷ ms) → P x.what ⊎ MeetsOne P ms
  met_cases x ms met = elim (in_cases x met.0 ms met.1) [
    | inl same ↦ inl (subst (λ (y : ScannedRecord). P y.what) (sym same) met.2)
    | inr later ↦ inr (met.0, later, met.2)
  ]

  -- it is met before a batch that is open, so it is met
  pub met_before : (end : ℕ) (ms : List ScannedRecord) → MeetsOne P (before_open end ms) → MeetsOne P ms
  met_before end [] met = met
  met_before end (m ∷ ms) met = by_test (opens end m.what) (met_before end ms) met where
    by_test : (b : Bool) → (MeetsOne P (before_open end ms) → MeetsOne P ms) → MeetsOne P (if b then [] else m ∷ before_open end ms) → MeetsOne P (m ∷ ms)
    by_test true rest met = absurd (in_nothing met.0 met.1)
    by_test false rest met = elim (met_cases m (before_open end ms) met) [
      | inl here ↦ met_first m ms here
      | inr later ↦ met_behind m ms (rest later)
    ]

-- Blobs that don't pass.
module _ (sum : List ℕ → ℕ) (blobs : ℤ → Option (List ℕ)) where
  abbrev bad_of : RecordContent → Type 0
  bad_of = HasBadBlob sum blobs

  -- where there are no blobs
  none_bad : ((n : ℤ) → blobs n ≡ None) → (what : RecordContent) → HasBadBlob sum blobs what → ⊥
  none_bad none (Gives kind page pointer) bad = bad
  none_bad none (NamesBlob kind page lid place) bad = let both : None ≡ Some bad.0 = sym (none place) ∙ bad.1 in cc
  none_bad none Skipped bad = bad
  none_bad none (BatchStart peg) bad = bad

  -- a record with its blob names none
  with_none_bad : (what : RecordContent) → HasBadBlob sum blobs (with_blob blobs what) → ⊥
  with_none_bad (Gives kind page pointer) bad = bad
  with_none_bad (NamesBlob kind page lid place) bad = by_test (is_some (blobs place)) bad where
    by_test : (b : Bool) → HasBadBlob sum blobs (if b then Gives (log_kind_of kind) page (Blob lid place) else Skipped) → ⊥
    by_test true bad = bad
    by_test false bad = bad
  with_none_bad Skipped bad = bad
  with_none_bad (BatchStart peg) bad = bad

  module _ (end : ℕ) where
    -- a bad one is met before a batch that is open, or is left behind that
    pub bad_either : (ms : List ScannedRecord) → MeetsBadBlob sum blobs ms → MeetsBadBlob sum blobs (before_open end ms) ⊎ MeetsBadBlob sum blobs (resolved_before blobs end ms)
    bad_either [] bad = absurd (in_nothing bad.0 bad.1)
    bad_either (m ∷ ms) bad = by_test (opens end m.what) (bad_either ms) where
      by_test : (b : Bool) → (MeetsBadBlob sum blobs ms → MeetsBadBlob sum blobs (before_open end ms) ⊎ MeetsBadBlob sum blobs (resolved_before blobs end ms))
          → MeetsBadBlob sum blobs (if b then [] else m ∷ before_open end ms) ⊎ MeetsBadBlob sum blobs (if b then m ∷ ms else resolved blobs m ∷ resolved_before blobs end ms)
      by_test true rest = inr bad
      by_test false rest = elim (met_cases bad_of m ms bad) [
        | inl here ↦ inl (met_first bad_of m (before_open end ms) here)
        | inr later ↦ elim (rest later) [
          | inl before ↦ inl (met_behind bad_of m (before_open end ms) before)
          | inr left ↦ inr (met_behind bad_of (resolved blobs m) (resolved_before blobs end ms) left)
        ]
      ]

    -- and none is left that wasn't there
    pub bad_left : (at : Option DiskPtr) (ms : List ScannedRecord) → NamesBadBlob sum blobs (resolved_before blobs end ms) at → NamesBadBlob sum blobs ms at
    bad_left at [] bad = bad
    bad_left at (m ∷ ms) bad = by_test (opens end m.what) (bad_left at ms) bad where
      by_test : (b : Bool) → (NamesBadBlob sum blobs (resolved_before blobs end ms) at → NamesBadBlob sum blobs ms at)
          → NamesBadBlob sum blobs (if b then m ∷ ms else resolved blobs m ∷ resolved_before blobs end ms) at → NamesBadBlob sum blobs (m ∷ ms) at
      by_test true rest bad = bad
      by_test false rest bad = elim (met_cases (HasDamage sum blobs at) (resolved blobs m) (resolved_before blobs end ms) bad) [
        | inl here ↦ absurd (with_none_bad m.what here.0)
        | inr later ↦ met_behind (HasDamage sum blobs at) m ms (rest later)
      ]
