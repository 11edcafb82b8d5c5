-- The segments that an iterator finds: those that begin below a place are among all, and what is met in the tail is of kinds that are known.
use Rattle.std.proofs.Common.{◌≡◌, ◌+◌, ℕ, Bool, true, false, nat_lt, if◌then◌else◌, List, [], ◌∷◌, map, subst, arith, inl, inr}
use Rattle.std.specs.List.{All, Contains}
use Rattle.std.proofs.lemmas.List.Elements.{All-cons, All-nil}
use Rattle.sled_core.specs.declared.iterator.Segment.{Segment}
use Rattle.sled_core.specs.declared.iterator.scan.ScanEnd.{ScanEnd}
use Rattle.sled_core.specs.declared.iterator.scan.ScanEnd.TheVariants.{Full, Capped, Broken}
use Rattle.sled_store.proofs.Segments.Elements.{in_cases, in_first, in_rest}
use Rattle.sled_log.specs.declared.snapshot.pass.Pass.{Pass}
use Rattle.sled_log.specs.Recovery.{IsTail, GoesOn, begun_below}
use Rattle.sled_log.specs.Passes.{HasKinds, pass_of}
use Rattle.sled_core.proofs.Iterates.Kinds.{scan_kinds}
use Rattle.sled_log.proofs.Passes.Ascending.{begun_first}

-- what begins below a place is among all
pub begun_in : (end : ℕ) (ss : List Segment) (s : Segment) → Contains (begun_below end ss) s → Contains ss s
begun_in end [] s there = there
begun_in end (x ∷ ss) s there = by (nat_lt x.place end) (begun_in end ss s) there where
  by : (b : Bool) → (Contains (begun_below end ss) s → Contains ss s) → Contains (if b then x ∷ begun_below end ss else begun_below end ss) s → Contains (x ∷ ss) s
  by true rest there = elim (in_cases x s (begun_below end ss) there) [
    | inl same ↦ subst (λ (y : Segment). Contains (x ∷ ss) y) same (in_first x ss)
    | inr later ↦ in_rest x s ss (rest later)
  ]
  by false rest there = in_rest x s ss (rest there)

-- no segment begins below 0
pub none_begun : (ss : List Segment) → begun_below 0 ss ≡ []
none_begun ss = begun_first 0 0 ss (λ k d lt. absurd (omega (arith, lt))) (λ k d lt. omega arith)

-- what is met in the tail is of kinds that are known
module _ (sum : List ℕ → ℕ) (size : ℕ) (log : List ℕ) (ordering : List Segment) where
  nothing_left : (ps : List Pass) → map pass_of ps ≡ [] → All HasKinds ps
  nothing_left [] is = All-nil HasKinds
  nothing_left (p ∷ ps) is = absurd (cc)

  behind : (why : ScanEnd) (ps : List Pass) (on : Type 0) → (on → All HasKinds ps) → GoesOn why (map pass_of ps) on → All HasKinds ps
  behind Broken ps on kinds goes = nothing_left ps goes
  behind Full ps on kinds goes = kinds goes
  behind Capped ps on kinds goes = kinds goes

  pub tail_kinds : (place : ℕ) (ps : List Pass) → IsTail sum size log ordering place (map pass_of ps) → All HasKinds ps
  tail_kinds place [] tail = All-nil HasKinds
  tail_kinds place (p ∷ ps) tail =
      All-cons HasKinds p ps (scan_kinds sum size log p.segment.slot p.segment.place p.scan.met.items p.scan.stop p.scan.ending tail.2)
      (behind p.scan.ending ps (IsTail sum size log ordering (place + size) (map pass_of ps)) (tail_kinds (place + size) ps) tail.3)
