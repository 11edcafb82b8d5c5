-- Blobs that were looked for in segments, up to a batch that is open and then behind it: what is good or bad in all of them.
use Rattle.std.proofs.Common.{◌≡◌, ◌+◌, ◌<◌, ℕ, ℤ, List, [], ◌∷◌, ◌++◌, length, map, get_or, take, Option, sym, ap, subst, inl, inr, ◌∙◌}
use Rattle.std.specs.List.{All, Contains}
use Rattle.std.proofs.lemmas.List.{map-append, take_more}
use Rattle.std.proofs.lemmas.List.Elements.{All-cons, All-head, All-nil, All-tail, Contains-get_or}
use Rattle.sled_codec.specs.declared.result.DiskPtr.{DiskPtr}
use Rattle.sled_store.specs.Device.{Trace, state_of}
use Rattle.sled_store.proofs.Segments.Elements.{in_cases, in_first, in_map, in_nothing, in_rest}
use Rattle.sled_core.specs.declared.iterator.Segment.{Segment}
use Rattle.sled_core.specs.declared.iterator.scan.ScannedRecord.{ScannedRecord}
use Rattle.sled_log.specs.declared.snapshot.pass.Pass.{Pass}
use Rattle.sled_log.specs.Recovery.{Scanned, AreScanned, HaveGoodBlobs, HasDamage, MeetsBadBlob, NamesBadBlob, NamesKind, before_open, resolved_before, resolved_scan}
use Rattle.sled_log.specs.Passes.{HasKinds, MeetsBadPass, NamesBadPass, NamesBadTail, pass_of}
use Rattle.sled_log.proofs.Passes.Blobs.{good_more}
use Rattle.sled_log.proofs.Replay.BlobLemmas.{met_before, bad_either, bad_left}
use Rattle.sled_core.proofs.Iterates.Kinds.{scan_kinds}
use Rattle.sled_log.proofs.Replay.LookLemmas.{kinds_with_blobs}

module _ (sum : List ℕ → ℕ) (blobs : ℤ → Option (List ℕ)) (end : ℕ) where
  bad_of_one : (ss : List Scanned) (s : Scanned) → Contains ss s → MeetsBadBlob sum blobs (before_open end s.met) → MeetsBadPass sum blobs end ss
  bad_of_one [] s there bad = absurd (in_nothing s there)
  bad_of_one (t ∷ ts) s there bad = elim (in_cases t s ts there) [
    | inl same ↦ inl (subst (λ (x : Scanned). MeetsBadBlob sum blobs (before_open end x.met)) (sym same) bad)
    | inr later ↦ inr (bad_of_one ts s later bad)
  ]

  -- what is good up to a batch that is open, and then with those blobs, is good
  pub good_looked : (ss : List Scanned) → (MeetsBadPass sum blobs end ss → ⊥) → HaveGoodBlobs sum blobs (map (resolved_scan blobs end) ss) → HaveGoodBlobs sum blobs ss
  good_looked ss fine good s there bad = elim (bad_either sum blobs end s.met bad) [
    | inl before ↦ fine (bad_of_one ss s there before)
    | inr rest ↦ good (resolved_scan blobs end s) (in_map (resolved_scan blobs end) ss s there) rest
  ]

  -- what is bad up to such a batch
  pub bad_in_pass : (at : Option DiskPtr) (ss : List Scanned) → NamesBadPass sum blobs end ss at → NamesBadTail sum blobs ss at
  bad_in_pass at [] bad = absurd bad
  bad_in_pass at (s ∷ ss) (inl here) = (s, in_first s ss, met_before (HasDamage sum blobs at) end s.met here)
  bad_in_pass at (s ∷ ss) (inr later) = let rest = bad_in_pass at ss later in (rest.0, in_rest s rest.0 ss rest.1, rest.2)

  -- and what is with those blobs
  pub bad_in_looked : (at : Option DiskPtr) (ss : List Scanned) → NamesBadTail sum blobs (map (resolved_scan blobs end) ss) at → NamesBadTail sum blobs ss at
  bad_in_looked at [] bad = absurd (in_nothing bad.0 bad.1)
  bad_in_looked at (s ∷ ss) bad = elim (in_cases (resolved_scan blobs end s) bad.0 (map (resolved_scan blobs end) ss) bad.1) [
    | inl same ↦ (s, in_first s ss, bad_left sum blobs end at s.met (subst (λ (x : Scanned). NamesBadBlob sum blobs x.met at) (sym same) bad.2))
    | inr later ↦ let rest = bad_in_looked at ss (bad.0, later, bad.2) in (rest.0, in_rest s rest.0 ss rest.1, rest.2)
  ]

  -- kinds stay known
  pub kinds_looked : (ps qs : List Pass) → map pass_of qs ≡ map (resolved_scan blobs end) (map pass_of ps) → All HasKinds ps → All HasKinds qs
  kinds_looked ps [] is all = All-nil HasKinds
  kinds_looked [] (q ∷ qs) is all = absurd (cc)
  kinds_looked (p ∷ ps) (q ∷ qs) is all =
      let first : pass_of q ≡ resolved_scan blobs end (pass_of p) = cc in
      let others : map pass_of qs ≡ map (resolved_scan blobs end) (map pass_of ps) = cc in
      let met : q.scan.met.items ≡ resolved_before blobs end p.scan.met.items = ap (λ (s : Scanned). s.met) first in
      All-cons HasKinds q qs (subst (All (λ (m : ScannedRecord). NamesKind m.what)) (sym met) (kinds_with_blobs blobs end p.scan.met.items (All-head HasKinds p ps all))) (kinds_looked ps qs others (All-tail HasKinds p ps all))

-- one more segment whose blobs are good
pub good_next : (sum : List ℕ → ℕ) (t u : Trace) (ps : List Pass) (i : ℕ) (d : Pass) → i < length ps → t ≡ u → (MeetsBadBlob sum (state_of t).blobs.file (get_or ps i d).scan.met.items → ⊥)
    → HaveGoodBlobs sum (state_of u).blobs.file (map pass_of (take i ps)) → HaveGoodBlobs sum (state_of u).blobs.file (map pass_of (take (i + 1) ps))
good_next sum t u ps i d lt same fine good =
    let more : map pass_of (take (i + 1) ps) ≡ map pass_of (take i ps) ++ pass_of (get_or ps i d) ∷ [] = ap (map pass_of) (take_more ps i d lt) ∙ map-append pass_of (take i ps) (get_or ps i d ∷ []) in
    let still = subst (λ (x : Trace). MeetsBadBlob sum (state_of x).blobs.file (get_or ps i d).scan.met.items → ⊥) same fine in
    subst (HaveGoodBlobs sum (state_of u).blobs.file) (sym more) (good_more sum (state_of u).blobs.file (map pass_of (take i ps)) (pass_of (get_or ps i d)) good still)

-- a segment whose blobs are bad
pub bad_here : (sum : List ℕ → ℕ) (t u : Trace) (ps : List Pass) (i : ℕ) (d : Pass) (at : Option DiskPtr) → i < length ps → t ≡ u → NamesBadBlob sum (state_of t).blobs.file (get_or ps i d).scan.met.items at
    → NamesBadTail sum (state_of u).blobs.file (map pass_of ps) at
bad_here sum t u ps i d at lt same bad = (
  pass_of (get_or ps i d),
  in_map pass_of ps (get_or ps i d) (Contains-get_or ps i d lt),
  subst (λ (x : Trace). NamesBadBlob sum (state_of x).blobs.file (get_or ps i d).scan.met.items at) same bad,
)

-- what was read to the end is of kinds that are known
pub scanned_kinds : (sum : List ℕ → ℕ) (size : ℕ) (log : List ℕ) (ss : List Segment) (ps : List Pass) → AreScanned sum size log ss (map pass_of ps) → All HasKinds ps
scanned_kinds sum size log ss [] are = All-nil HasKinds
scanned_kinds sum size log [] (p ∷ ps) are = absurd are
scanned_kinds sum size log (s ∷ ss) (p ∷ ps) are =
    All-cons HasKinds p ps (scan_kinds sum size log p.segment.slot p.segment.place p.scan.met.items p.scan.stop p.scan.ending are.1) (scanned_kinds sum size log ss ps are.2)
