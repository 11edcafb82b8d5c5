-- The segments that are found have one order, and the tail of the log is one.
use Rattle.std.proofs.Common.{⊎_elim, ◌≡◌, ◌⊎◌, ◌∙◌, ◌+◌, ◌<◌, ◌%◌, ℕ, Bool, true, false, nat_lt, if◌then◌else◌, List, [], ◌∷◌, refl, sym, ap, subst, arith, inl, inr}
use Rattle.std.specs.List.{Contains}
use Rattle.std.proofs.lemmas.Bool.{and_parts, cases_eq, ltb-true}
use Rattle.std.proofs.lemmas.Bool.Decides.{nat_tests}
use Rattle.sled_core.specs.declared.iterator.Segment.{Segment}
use Rattle.sled_core.specs.declared.iterator.scan.ScanEnd.{ScanEnd}
use Rattle.sled_core.specs.declared.iterator.scan.ScanEnd.TheVariants.{Full, Capped, Broken}
use Rattle.sled_core.specs.inside.Recoverable.{scanned_below}
use Rattle.sled_store.proofs.Segments.Elements.{in_first, in_rest, in_cases, in_nothing}
use Rattle.sled_core.specs.Tail.{is_ascending, IsOrdering, GoesOn, IsTail, begun_below, AreScanned, Scanned, IsScanned}
use Rattle.sled_core.proofs.Tail.OneReading.{one_scan}

-- One order.

-- each segment begins below all later ones
abbrev pub Rises : List Segment → Type 0
Rises [] = Unit {0}
Rises (s ∷ ss) = ((t : Segment) → Contains ss t → s.place < t.place) × Rises ss

pub rises_of : (ss : List Segment) → is_ascending ss ≡ true → Rises ss
rises_of [] up = tt
rises_of (s ∷ []) up = (λ t there. absurd (in_nothing t there), tt)
rises_of (s ∷ t ∷ ss) up =
    let parts = and_parts (nat_lt s.place t.place) (is_ascending (t ∷ ss)) up in
    let less : s.place < t.place = ltb-true s.place t.place parts.0 in
    let rest = rises_of (t ∷ ss) parts.1 in
    (λ u there. ⊎_elim (λ is. subst (λ (x : Segment). s.place < x.place) is less) (λ later. let above = rest.0 u later in omega (arith, less, above)) (in_cases t u ss there), rest)

-- one place is that of one segment
pub one_at_place : (ss : List Segment) → Rises ss → (s t : Segment) → Contains ss s → Contains ss t → s.place ≡ t.place → s ≡ t
one_at_place [] rises s t here there same = absurd (in_nothing s here)
one_at_place (x ∷ xs) rises s t here there same = by (one_at_place xs rises.1 s t) (in_cases x s xs here) (in_cases x t xs there) where
  by : (Contains xs s → Contains xs t → s.place ≡ t.place → s ≡ t) → (x ≡ s) ⊎ Contains xs s → (x ≡ t) ⊎ Contains xs t → s ≡ t
  by rest (inl a) (inl b) = sym a ∙ b
  by rest (inl a) (inr b) = let above = rises.0 t b in absurd (omega (arith, above, same, ap (λ (y : Segment). y.place) a))
  by rest (inr a) (inl b) = let above = rises.0 s a in absurd (omega (arith, above, same, ap (λ (y : Segment). y.place) b))
  by rest (inr a) (inr b) = rest a b same

-- two such lists with the same segments begin with the same one
same_first : (x y : Segment) (xs ys : List Segment) → Rises (x ∷ xs) → Rises (y ∷ ys) → (y ≡ x) ⊎ Contains ys x → (x ≡ y) ⊎ Contains xs y → x ≡ y
same_first x y xs ys up down (inl is) there = sym is
same_first x y xs ys up down (inr later) (inl is) = is
same_first x y xs ys up down (inr left) (inr right) = let a = up.0 y right in let b = down.0 x left in absurd (omega (arith, a, b))

rest_in : (x y : Segment) (xs ys : List Segment) → Rises (x ∷ xs) → x ≡ y → (s : Segment) → Contains xs s → Contains (y ∷ ys) s → Contains ys s
rest_in x y xs ys rises is s there found = ⊎_elim (λ at. let above = rises.0 s there in absurd (omega (arith, above, ap (λ (z : Segment). z.place) (is ∙ at)))) (λ rest. rest) (in_cases y s ys found)

-- and are one
same_segments : (xs ys : List Segment) → Rises xs → Rises ys → ((s : Segment) → Contains xs s → Contains ys s) → ((s : Segment) → Contains ys s → Contains xs s) → xs ≡ ys
same_segments [] [] up down there back = refl
same_segments [] (y ∷ ys) up down there back = absurd (in_nothing y (back y (in_first y ys)))
same_segments (x ∷ xs) [] up down there back = absurd (in_nothing x (there x (in_first x xs)))
same_segments (x ∷ xs) (y ∷ ys) up down there back =
    let is : x ≡ y = same_first x y xs ys up down (in_cases y x ys (there x (in_first x xs))) (in_cases x y xs (back y (in_first y ys))) in
    let rest : xs ≡ ys = same_segments xs ys up.1 down.1 (λ s at. rest_in x y xs ys up is s at (there s (in_rest x s xs at))) (λ s at. rest_in y x ys xs down (sym is) s at (back s (in_rest y s ys at))) in
    λ i. is i ∷ rest i

module _ (sum : List ℕ → ℕ) (size : ℕ) (log : List ℕ) where
  -- The ordering from a place on is one.
  pub one_ordering : (least : ℕ) (xs ys : List Segment) → IsOrdering sum size log least xs → IsOrdering sum size log least ys → xs ≡ ys
  one_ordering least xs ys a b =
      same_segments xs ys (rises_of xs a.ascending) (rises_of ys b.ascending) (λ s there. (b.found s).1 ((a.found s).0 there)) (λ s there. (a.found s).1 ((b.found s).0 there))

  -- its segments begin at multiples of the size
  pub place_aligned : (least : ℕ) (ss : List Segment) → IsOrdering sum size log least ss → (s : Segment) → Contains ss s → s.place % size ≡ 0
  place_aligned least ss is s there = ⊎_elim (λ at. at) (λ other. absurd (is.placed s there (inl other))) (cases_eq (s.place % size) 0)

  -- One tail.
  module _ (ordering : List Segment) (rises : Rises ordering) where
    pub one_tail : (place : ℕ) (xs ys : List Scanned) → IsTail sum size log ordering place xs → IsTail sum size log ordering place ys → xs ≡ ys
    one_tail place [] [] a b = refl
    one_tail place [] (y ∷ ys) a b = absurd (a y.segment b.0 b.1)
    one_tail place (x ∷ xs) [] a b = absurd (b x.segment a.0 a.1)
    one_tail place (x ∷ xs) (y ∷ ys) a b =
        let segments : x.segment ≡ y.segment = one_at_place ordering rises x.segment y.segment a.0 b.0 (a.1 ∙ sym b.1) in
        let same : x ≡ y = one_scan sum size log x y segments a.2 b.2 in
        let rest : xs ≡ ys = by y.why (one_tail (place + size) xs ys) (subst (λ (z : Scanned). GoesOn z.why xs (IsTail sum size log ordering (place + size) xs)) same a.3) b.3 in
        λ i. same i ∷ rest i
      where
        by : (why : ScanEnd) → (IsTail sum size log ordering (place + size) xs → IsTail sum size log ordering (place + size) ys → xs ≡ ys)
            → GoesOn why xs (IsTail sum size log ordering (place + size) xs) → GoesOn why ys (IsTail sum size log ordering (place + size) ys) → xs ≡ ys
        by Broken rest a b = a ∙ sym b
        by Full rest a b = rest a b
        by Capped rest a b = rest a b

  -- What is met in each segment.

  pub scan_there : (ss : List Segment) (xs : List Scanned) → AreScanned sum size log ss xs → (s : Segment) → Contains ss s → (x : Scanned) × Contains xs x × (x.segment ≡ s) × IsScanned sum size log x
  scan_there [] [] are s there = absurd (in_nothing s there)
  scan_there [] (x ∷ xs) are s there = absurd are
  scan_there (t ∷ ss) [] are s there = absurd are
  scan_there (t ∷ ss) (x ∷ xs) are s there = ⊎_elim
      (λ is. (x, in_first x xs, are.0 ∙ is, are.1))
      (λ later. let rest = scan_there ss xs are.2 s later in (rest.0, in_rest x rest.0 xs rest.1, rest.2, rest.3))
      (in_cases t s ss there)

  pub segment_there : (ss : List Segment) (xs : List Scanned) → AreScanned sum size log ss xs → (x : Scanned) → Contains xs x → Contains ss x.segment × IsScanned sum size log x
  segment_there [] [] are x there = absurd (in_nothing x there)
  segment_there [] (y ∷ ys) are x there = absurd are
  segment_there (t ∷ ss) [] are x there = absurd are
  segment_there (t ∷ ss) (y ∷ ys) are x there = ⊎_elim
      (λ is. subst (λ (z : Scanned). Contains (t ∷ ss) z.segment × IsScanned sum size log z) is (subst (Contains (t ∷ ss)) (sym are.0) (in_first t ss), are.1))
      (λ later. let rest = segment_there ss ys are.2 x later in (in_rest t x.segment ss rest.0, rest.1))
      (in_cases y x ys there)

  -- another reading of one of the segments is there
  pub reading_there : (ss : List Segment) (xs : List Scanned) → AreScanned sum size log ss xs → (x : Scanned) → Contains ss x.segment → IsScanned sum size log x → Contains xs x
  reading_there ss xs are x there scan =
      let found = scan_there ss xs are x.segment there in
      subst (Contains xs) (one_scan sum size log found.0 x found.2 found.3 scan) found.1

  -- those that begin below a place
  module _ (end : ℕ) where
    pub scans_below : (ss : List Segment) (xs : List Scanned) → AreScanned sum size log ss xs → AreScanned sum size log (begun_below end ss) (scanned_below end xs)
    scans_below [] [] are = tt
    scans_below [] (x ∷ xs) are = absurd are
    scans_below (s ∷ ss) [] are = absurd are
    scans_below (s ∷ ss) (x ∷ xs) are = subst (λ b. AreScanned sum size log (if nat_lt s.place end then s ∷ begun_below end ss else begun_below end ss) (if b then x ∷ scanned_below end xs else scanned_below end xs))
        (sym (ap (λ (y : Segment). nat_lt y.place end) are.0)) (by (nat_lt s.place end) (scans_below ss xs are.2))
      where
        by : (b : Bool) → AreScanned sum size log (begun_below end ss) (scanned_below end xs)
            → AreScanned sum size log (if b then s ∷ begun_below end ss else begun_below end ss) (if b then x ∷ scanned_below end xs else scanned_below end xs)
        by true rest = (are.0, are.1, rest)
        by false rest = rest

    pub in_below : (xs : List Scanned) (x : Scanned) → Contains xs x → x.segment.place < end → Contains (scanned_below end xs) x
    in_below [] x there below = absurd (in_nothing x there)
    in_below (y ∷ ys) x there below = ⊎_elim first (λ later. rest (nat_lt y.segment.place end) (in_below ys x later below)) (in_cases y x ys there) where
      first : y ≡ x → Contains (scanned_below end (y ∷ ys)) x
      first is =
          let test : nat_lt y.segment.place end ≡ true = grind (arith, nat_tests, below, ap (λ (z : Scanned). z.segment.place) is) in
          subst (λ b. Contains (if b then y ∷ scanned_below end ys else scanned_below end ys) x) (sym test) (subst (Contains (y ∷ scanned_below end ys)) is (in_first y (scanned_below end ys)))

      rest : (b : Bool) → Contains (scanned_below end ys) x → Contains (if b then y ∷ scanned_below end ys else scanned_below end ys) x
      rest true later = in_rest y x (scanned_below end ys) later
      rest false later = later

    pub from_below : (xs : List Scanned) (x : Scanned) → Contains (scanned_below end xs) x → Contains xs x × (x.segment.place < end)
    from_below [] x there = absurd (in_nothing x there)
    from_below (y ∷ ys) x there = by (nat_lt y.segment.place end) refl (from_below ys x) there where
      by : (b : Bool) → nat_lt y.segment.place end ≡ b → (Contains (scanned_below end ys) x → Contains ys x × (x.segment.place < end)) → Contains (if b then y ∷ scanned_below end ys else scanned_below end ys) x
          → Contains (y ∷ ys) x × (x.segment.place < end)
      by true test rest there = ⊎_elim
          (λ is. subst (λ (z : Scanned). Contains (y ∷ ys) z × (z.segment.place < end)) is (in_first y ys, ltb-true y.segment.place end test))
          (λ later. (in_rest y x ys (rest later).0, (rest later).1))
          (in_cases y x (scanned_below end ys) there)
      by false test rest there = (in_rest y x ys (rest there).0, (rest there).1)
