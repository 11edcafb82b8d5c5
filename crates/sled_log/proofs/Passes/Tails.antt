-- The tail and the pass, segment by segment.
use Rattle.std.proofs.Common.{◌≡◌, ◌≢◌, ◌∙◌, ◌+◌, ◌<◌, ℕ, Bool, true, nat_lt, List, [], ◌∷◌, ◌++◌, length, drop, get_or, Option, Some, None, is_some, if◌then◌else◌, refl, sym, ap, subst, arith}
use Rattle.std.specs.List.{Contains}
use Rattle.std.proofs.lemmas.Bool.Decides.{nat_tests}
use Rattle.sled_core.specs.declared.iterator.Segment.{Segment}
use Rattle.sled_core.specs.declared.iterator.scan.ScanEnd.{ScanEnd}
use Rattle.sled_core.specs.declared.iterator.scan.ScanEnd.TheVariants.{Full, Capped, Broken}
use Rattle.sled_log.specs.Recovery.{Scanned, IsScanned, GoesOn, IsTail, IsTailPart, tail_end, begun_below, AreScanned, AreClosed, IsReplayed, StopsOrGoesOn, AreReplayed, IsDamagedPass, open_at}
use Rattle.sled_log.specs.Passes.{IsDamagedBefore}
use Rattle.sled_log.proofs.Replay.PassedLemmas.{whole_passed}
use Rattle.sled_log.proofs.Passes.Behind.{behind}

-- behind a segment that isn't broken more may come
goes_on : (why : ScanEnd) (rest : List Scanned) (on : Type 0) → why ≢ Broken → on → GoesOn why rest on
goes_on Broken rest on whole is = absurd (whole refl)
goes_on Full rest on whole is = is
goes_on Capped rest on whole is = is

breaks : (why : ScanEnd) (on : Type 0) → why ≡ Broken → GoesOn why [] on
breaks why on is = subst (λ w. GoesOn w [] on) (sym is) refl

-- The tail as far as it was read.
module _ (sum : List ℕ → ℕ) (size : ℕ) (log : List ℕ) (ordering : List Segment) where
  -- one more segment
  pub part_more : (place : ℕ) (before : List Scanned) (next : ℕ) (x : Scanned) → IsTailPart sum size log ordering place before next → Contains ordering x.segment → x.segment.place ≡ next → IsScanned sum size log x → x.why ≢ Broken
      → IsTailPart sum size log ordering place (before ++ x ∷ []) (next + size)
  part_more place [] next x part there at scanned whole = (there, at ∙ part, scanned, whole, ap (λ n. n + size) part)
  part_more place (s ∷ ss) next x part there at scanned whole = (part.0, part.1, part.2, part.3, part_more (place + size) ss next x part.4 there at scanned whole)

  -- no segment begins behind it
  pub tail_ends : (place : ℕ) (before : List Scanned) (next : ℕ) → IsTailPart sum size log ordering place before next → ((s : Segment) → Contains ordering s → s.place ≡ next → ⊥) → IsTail sum size log ordering place before
  tail_ends place [] next part none = subst (λ n. (s : Segment) → Contains ordering s → s.place ≡ n → ⊥) part none
  tail_ends place (s ∷ ss) next part none = (part.0, part.1, part.2, goes_on s.why ss (IsTail sum size log ordering (place + size) ss) part.3 (tail_ends (place + size) ss next part.4 none))

  -- the segment behind it is broken
  pub tail_breaks : (place : ℕ) (before : List Scanned) (next : ℕ) (x : Scanned) → IsTailPart sum size log ordering place before next → Contains ordering x.segment → x.segment.place ≡ next → IsScanned sum size log x → x.why ≡ Broken
      → IsTail sum size log ordering place (before ++ x ∷ [])
  tail_breaks place [] next x part there at scanned broken = (there, at ∙ part, scanned, breaks x.why (IsTail sum size log ordering (place + size) []) broken)
  tail_breaks place (s ∷ ss) next x part there at scanned broken =
      (part.0, part.1, part.2, goes_on s.why (ss ++ x ∷ []) (IsTail sum size log ordering (place + size) (ss ++ x ∷ [])) part.3 (tail_breaks (place + size) ss next x part.4 there at scanned broken))

-- where the reading of the last one ended
pub end_of_last : (before : List Scanned) (x : Scanned) → tail_end (before ++ x ∷ []) ≡ Some (x.segment.place + x.stop)
end_of_last [] x = refl
end_of_last (s ∷ []) x = refl
end_of_last (s ∷ t ∷ ss) x = end_of_last (t ∷ ss) x

-- The segments of a pass.

pub begun_here : (end : ℕ) (ss : List Segment) (i : ℕ) (d : Segment) → i < length ss → (get_or ss i d).place < end → begun_below end (drop i ss) ≡ get_or ss i d ∷ begun_below end (drop (i + 1) ss)
begun_here end ss i d lt below =
    let s : Segment = get_or ss i d in
    let is : nat_lt s.place end ≡ true = grind (arith, nat_tests, below) in
    ap (begun_below end) (behind ss i d lt) ∙ ap (λ (b : Bool). if b then s ∷ begun_below end (drop (i + 1) ss) else begun_below end (drop (i + 1) ss)) is

-- no batch is open in those, and none in one more
pub closed_more : (end : ℕ) (before : List Scanned) (x : Scanned) → AreClosed end before → open_at end x.met ≡ None → AreClosed end (before ++ x ∷ [])
closed_more end [] x closed none = (none, tt)
closed_more end (s ∷ ss) x closed none = (closed.0, closed_more end ss x closed.1 none)

-- The pass over segments in which no batch is open, and what it meets behind them.
module _ (sum : List ℕ → ℕ) (size : ℕ) (log : List ℕ) (end : ℕ) where
  -- more that it reads
  pub passed_behind : (first rest : List Segment) (before xs : List Scanned) → AreScanned sum size log first before → AreClosed end before → AreReplayed sum size log end rest xs → AreReplayed sum size log end (first ++ rest) (before ++ xs)
  passed_behind [] rest [] xs are closed on = on
  passed_behind [] rest (x ∷ before) xs are closed on = absurd are
  passed_behind (s ∷ first) rest [] xs are closed on = absurd are
  passed_behind (s ∷ first) rest (x ∷ before) xs are closed on = (
    are.0,
    whole_passed sum size log end x are.1,
    subst (λ o. StopsOrGoesOn o (before ++ xs) (AreReplayed sum size log end (first ++ rest) (before ++ xs))) (sym closed.0) (passed_behind first rest before xs are.2 closed.1 on),
  )

  -- a batch is open in the next one
  pub passed_open : (s : Segment) (rest : List Segment) (x : Scanned) → x.segment ≡ s → IsReplayed sum size log end x → is_some (open_at end x.met) ≡ true → AreReplayed sum size log end (s ∷ rest) (x ∷ [])
  passed_open s rest x is passed some = (is, passed, by_case (open_at end x.met) some) where
    by_case : (o : Option ℕ) → is_some o ≡ true → StopsOrGoesOn o [] (AreReplayed sum size log end rest [])
    by_case None some = absurd (cc)
    by_case (Some place) some = refl

  -- a damaged record is met in the next one
  pub damaged_behind : (segments first rest : List Segment) (s : Segment) (before : List Scanned) → segments ≡ first ++ s ∷ rest → AreScanned sum size log first before → AreClosed end before → IsDamagedBefore sum size log end s
      → IsDamagedPass sum size log end segments
  damaged_behind segments first rest s before is scanned closed damaged = record {
    first = first;
    segment = s;
    rest = rest;
    is = is;
    before = before;
    scanned = scanned;
    closed = closed;
    met = damaged.met;
    next = damaged.next;
    path = damaged.path;
    not_open = damaged.not_open;
    room = damaged.room;
    damaged = damaged.damaged;
  }
