-- Segments that are read one behind another: what a pass over them meets lies below the place where it stops.
use Rattle.std.proofs.Common.{◌≡◌, ◌∙◌, ◌+◌, ◌/◌, ◌%◌, ◌<◌, ◌≤◌, ◌&&◌, ℕ, suc, Bool, true, false, nat_lt, if◌then◌else◌, List, [], ◌∷◌, ◌++◌, Option, Some, None, refl, sym, ap, subst, arith}
use Rattle.std.specs.List.{Contains}
use Rattle.std.proofs.lemmas.Bool.Decides.{nat_tests}
use Rattle.sled_core.specs.declared.iterator.scan.ScannedRecord.{ScannedRecord}
use Rattle.sled_core.specs.declared.iterator.Segment.{Segment}
use Rattle.sled_core.specs.Scan.{IsPath}
use Rattle.sled_core.proofs.Read.ScanLemmas.{met_fits}
use Rattle.sled_core.proofs.Tail.Multiples.{apart}
use Rattle.sled_core.proofs.Tail.Rows.{path_within}
use Rattle.sled_log.specs.Recovery.{Scanned, StopsOrGoesOn, AreReplayed, is_ascending, begun_below, opens, before_open, open_at, passed_in, stops_in, given, applied_of, is_filled, cut_of}

-- all of these lie below a place
abbrev pub LieBelow : ℕ → List ScannedRecord → Type 0
LieBelow at [] = Unit {0}
LieBelow at (m ∷ ms) = (m.place < at) × LieBelow at ms

lie_further : (at to : ℕ) (ms : List ScannedRecord) → at ≤ to → LieBelow at ms → LieBelow to ms
lie_further at to [] le lie = tt
lie_further at to (m ∷ ms) le lie = (omega (arith, le, lie.0), lie_further at to ms le lie.1)

lie_both : (at : ℕ) (ms ns : List ScannedRecord) → LieBelow at ms → LieBelow at ns → LieBelow at (ms ++ ns)
lie_both at [] ns lie more = more
lie_both at (m ∷ ms) ns lie more = (lie.0, lie_both at ms ns lie.1 more)

-- nothing of that is applied
pub none_given : (least : ℕ) (ms : List ScannedRecord) → LieBelow least ms → given least ms ≡ []
none_given least [] lie = refl
none_given least (m ∷ ms) lie =
    let below : nat_lt m.place least ≡ true = grind (arith, nat_tests, lie.0) in
    ap (λ (b : Bool). if b then given least ms else applied_of m m.what ++ given least ms) below ∙ none_given least ms lie.1

-- What is met on a path.
module _ (sum : List ℕ → ℕ) (size : ℕ) (log : List ℕ) (slot place : ℕ) where
  path_rises : (at : ℕ) (ms : List ScannedRecord) (next : ℕ) → IsPath sum size log slot place at ms next → at ≤ next
  path_rises at [] next path = omega (arith, path)
  path_rises at (m ∷ ms) next path = let rest = path_rises (at + m.len) ms next path.3 in omega (arith, rest)

  pub path_below : (at : ℕ) (ms : List ScannedRecord) (next : ℕ) → IsPath sum size log slot place at ms next → LieBelow (place + next) ms
  path_below at [] next path = tt
  path_below at (m ∷ ms) next path =
      let rest = path_rises (at + m.len) ms next path.3 in
      let fits = met_fits sum size log (slot + at) (place / size) m path.2 in
      (omega (arith, rest, fits.0, path.1), path_below (at + m.len) ms next path.3)

  -- before a batch that is open
  pub open_on : (end at : ℕ) (ms : List ScannedRecord) (next : ℕ) → IsPath sum size log slot place at ms next → (p : ℕ) → open_at end ms ≡ Some p → (place + at ≤ p) × (p < place + next) × LieBelow p (before_open end ms)
  open_on end at [] next path p is = absurd (cc)
  open_on end at (m ∷ ms) next path p is = by_test (opens end m.what) is (open_on end (at + m.len) ms next path.3 p)
    where
      by_test : (b : Bool) → (if b then Some m.place else open_at end ms) ≡ Some p → (open_at end ms ≡ Some p → (place + (at + m.len) ≤ p) × (p < place + next) × LieBelow p (before_open end ms))
          → (place + at ≤ p) × (p < place + next) × LieBelow p (if b then [] else m ∷ before_open end ms)
      by_test true is further =
          let rest = path_rises (at + m.len) ms next path.3 in
          let fits = met_fits sum size log (slot + at) (place / size) m path.2 in
          let same : m.place ≡ p = cc in
          (omega (arith, path.1, same), omega (arith, path.1, same, rest, fits.0), tt)
      by_test false is further =
          let rest = further is in
          let fits = met_fits sum size log (slot + at) (place / size) m path.2 in
          (omega (arith, rest.0), rest.1, (omega (arith, path.1, rest.0, fits.0), rest.2))

-- Segments that were read, one behind another.
module _ (sum : List ℕ → ℕ) (size : ℕ) (log : List ℕ) (large : 20 ≤ size) where
  -- it was read, as far as this goes, in a slot of the file
  abbrev pub IsRead : Scanned → Type 0
  IsRead s = IsPath sum size log s.segment.slot s.segment.place 20 s.met s.stop × (s.segment.slot % size ≡ 0)

  -- each was read, and begins no earlier than the one before it ends
  abbrev pub IsLine : List Scanned → Type 0
  IsLine [] = Unit {0}
  IsLine (s ∷ []) = IsRead s
  IsLine (s ∷ t ∷ ss) = IsRead s × (s.segment.place + size ≤ t.segment.place) × IsLine (t ∷ ss)

  line_first : (s : Scanned) (ss : List Scanned) → IsLine (s ∷ ss) → IsRead s
  line_first s [] line = line
  line_first s (t ∷ ss) line = line.0

  stop_within : (s : Scanned) → IsRead s → s.stop ≤ size
  stop_within s read = path_within sum size log s.segment.slot s.segment.place read.1 20 s.met s.stop large read.0

  stops_open : (end : ℕ) (s : Scanned) → IsRead s → (p : ℕ) → open_at end s.met ≡ Some p → (s.segment.place + 20 ≤ p) × (p < s.segment.place + s.stop) × LieBelow p (before_open end s.met)
  stops_open end s read p is = open_on sum size log s.segment.slot s.segment.place end 20 s.met s.stop read.0 p is

  -- the pass stops in them
  stops_above : (end : ℕ) (s : Scanned) (ss : List Scanned) (o : Option ℕ) → IsLine (s ∷ ss) → open_at end s.met ≡ o → s.segment.place ≤ (stops_in end s o ss).1
  stops_above end s ss (Some p) line is = let first = (stops_open end s (line_first s ss line) p is).0 in omega (arith, first)
  stops_above end s [] None line is = omega arith
  stops_above end s (t ∷ ts) None line is = let rest = stops_above end t ts (open_at end t.met) line.2 refl in omega (arith, rest, line.1)

  stops_within : (end : ℕ) (s : Scanned) (ss : List Scanned) (o : Option ℕ) → IsLine (s ∷ ss) → open_at end s.met ≡ o → (stops_in end s o ss).1 ≤ (stops_in end s o ss).0.place + size
  stops_within end s ss (Some p) line is =
      let read = line_first s ss line in
      let below = (stops_open end s read p is).1 in
      let within = stop_within s read in
      omega (arith, below, within)
  stops_within end s [] None line is = let within = stop_within s line in omega (arith, within)
  stops_within end s (t ∷ ts) None line is = stops_within end t ts (open_at end t.met) line.2 refl

  -- what it meets lies below that
  passed_lie : (end : ℕ) (s : Scanned) (ss : List Scanned) (o : Option ℕ) → IsLine (s ∷ ss) → open_at end s.met ≡ o → LieBelow (stops_in end s o ss).1 (passed_in end s o ss)
  passed_lie end s ss (Some p) line is = (stops_open end s (line_first s ss line) p is).2
  passed_lie end s [] None line is = path_below sum size log s.segment.slot s.segment.place 20 s.met s.stop line.0
  passed_lie end s (t ∷ ts) None line is =
      let within = stop_within s line.0 in
      let above = stops_above end t ts (open_at end t.met) line.2 refl in
      let own = path_below sum size log s.segment.slot s.segment.place 20 s.met s.stop line.0.0 in
      lie_both (stops_in end t (open_at end t.met) ts).1 s.met (passed_in end t (open_at end t.met) ts)
      (lie_further (s.segment.place + s.stop) (stops_in end t (open_at end t.met) ts).1 s.met (omega (arith, within, above, line.1)) own)
      (passed_lie end t ts (open_at end t.met) line.2 refl)

  -- the cut, where the segment is filled and where not
  abbrev cut : Segment × ℕ → Bool → ℕ × Option ℕ
  cut at b = if b then (at.0.place + size, None) else (at.1, Some at.0.slot)

  -- a cut is no lower than where the pass stopped
  cut_above : (at : Segment × ℕ) → at.1 ≤ at.0.place + size → at.1 ≤ (cut_of size at).0
  cut_above at le = by_test (is_filled size at)
    where
      by_test : (b : Bool) → at.1 ≤ (cut at b).0
      by_test true = le
      by_test false = omega arith

  -- so all of it lies below the cut
  pub all_below : (end : ℕ) (s : Scanned) (ss : List Scanned) → IsLine (s ∷ ss) → LieBelow (cut_of size (stops_in end s (open_at end s.met) ss)).0 (passed_in end s (open_at end s.met) ss)
  all_below end s ss line =
      lie_further (stops_in end s (open_at end s.met) ss).1 (cut_of size (stops_in end s (open_at end s.met) ss)).0 (passed_in end s (open_at end s.met) ss)
      (cut_above (stops_in end s (open_at end s.met) ss) (stops_within end s ss (open_at end s.met) line refl))
      (passed_lie end s ss (open_at end s.met) line refl)

-- The segments that are found, below a place.
module _ (size : ℕ) (some : 0 < size) where
  -- these begin above a place
  abbrev Above : ℕ → List Segment → Type 0
  Above place [] = Unit {0}
  Above place (s ∷ ss) = (place < s.place) × Above place ss

  -- it begins at a multiple of the size, in the log and in the file
  abbrev IsAligned : Segment → Type 0
  IsAligned s = (s.place % size ≡ 0) × (s.slot % size ≡ 0)

  -- each begins so, and above those before it
  abbrev pub IsChain : List Segment → Type 0
  IsChain [] = Unit {0}
  IsChain (s ∷ ss) = IsAligned s × Above s.place ss × IsChain ss

  lower : (low place : ℕ) (ss : List Segment) → low < place → Above place ss → Above low ss
  lower low place [] lt above = tt
  lower low place (s ∷ ss) lt above = (omega (arith, lt, above.0), lower low place ss lt above.1)

  pub both : (a b : Bool) → (a && b) ≡ true → (a ≡ true) × (b ≡ true)
  both true b is = (refl, is)
  both false b is = absurd (cc)

  -- they go up
  pub chain_of : (ss : List Segment) → is_ascending ss ≡ true → ((s : Segment) → Contains ss s → IsAligned s) → IsChain ss
  chain_of [] up each = tt
  chain_of (s ∷ []) up each = (each s (0, omega arith, refl), tt, tt)
  chain_of (s ∷ t ∷ ss) up each =
      let parts = both (nat_lt s.place t.place) (is_ascending (t ∷ ss)) up in
      let less : s.place < t.place = grind (arith, nat_tests, parts.0) in
      let rest = chain_of (t ∷ ss) parts.1 (λ x there. each x (suc there.0, omega (arith, there.1), there.2)) in
      (each s (0, omega arith, refl), (less, lower s.place t.place ss less rest.1), rest)

  above_begun : (place end : ℕ) (ss : List Segment) → Above place ss → Above place (begun_below end ss)
  above_begun place end [] above = tt
  above_begun place end (s ∷ ss) above = by_test (nat_lt s.place end) (above_begun place end ss above.1)
    where
      by_test : (b : Bool) → Above place (begun_below end ss) → Above place (if b then s ∷ begun_below end ss else begun_below end ss)
      by_test true rest = (above.0, rest)
      by_test false rest = rest

  pub chain_begun : (end : ℕ) (ss : List Segment) → IsChain ss → IsChain (begun_below end ss)
  chain_begun end [] chain = tt
  chain_begun end (s ∷ ss) chain = by_test (nat_lt s.place end) (chain_begun end ss chain.2)
    where
      by_test : (b : Bool) → IsChain (begun_below end ss) → IsChain (if b then s ∷ begun_below end ss else begun_below end ss)
      by_test true rest = (chain.0, above_begun s.place end ss chain.1, rest)
      by_test false rest = rest

  -- and each was read by the pass
  module _ (sum : List ℕ → ℕ) (log : List ℕ) (large : 20 ≤ size) (end : ℕ) where
    -- a segment before those
    line_before : (s : Segment) (ss : List Segment) (x : Scanned) (xs : List Scanned) → IsChain (s ∷ ss) → x.segment ≡ s → IsRead sum size log large x → AreReplayed sum size log end ss xs → IsLine sum size log large xs
        → IsLine sum size log large (x ∷ xs)
    line_before s ss x [] chain is read on line = read
    line_before s [] x (y ∷ ys) chain is read on line = absurd on
    line_before s (t ∷ ts) x (y ∷ ys) chain is read on line =
        let far = apart size some s.place t.place chain.0.0 chain.2.0.0 chain.1.0 in
        let at_s : x.segment.place ≡ s.place = ap (λ (z : Segment). z.place) is in
        let at_t : y.segment.place ≡ t.place = ap (λ (z : Segment). z.place) on.0 in
        (read, omega (arith, far, at_s, at_t), line)

    pub line_of : (ss : List Segment) (xs : List Scanned) → IsChain ss → AreReplayed sum size log end ss xs → IsLine sum size log large xs
    line_of [] [] chain are = tt
    line_of [] (x ∷ xs) chain are = absurd are
    line_of (s ∷ ss) [] chain are = absurd are
    line_of (s ∷ ss) (x ∷ xs) chain are =
        let read : IsRead sum size log large x = (are.1.0, ap (λ (z : Segment). z.slot % size) are.0 ∙ chain.0.1) in
        by_case (open_at end x.met) read are.2 (line_of ss xs chain.2)
      where
        by_case : (o : Option ℕ) → IsRead sum size log large x → StopsOrGoesOn o xs (AreReplayed sum size log end ss xs) → (AreReplayed sum size log end ss xs → IsLine sum size log large xs) → IsLine sum size log large (x ∷ xs)
        by_case (Some place) read stops rest = subst (λ (l : List Scanned). IsLine sum size log large (x ∷ l)) (sym stops) read
        by_case None read on rest = line_before s ss x xs chain are.0 read on (rest on)
