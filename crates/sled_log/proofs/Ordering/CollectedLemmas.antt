-- The segments of a log file are collected slot by slot: each that is found in a slot is one more, and none is there twice.
use Rattle.std.proofs.Common.{◌≡◌, ◌≢◌, ◌∙◌, ◌⊎◌, ◌+◌, ◌-◌, ◌%◌, ◌<◌, ◌≤◌, ℕ, pos, min, List, [], ◌∷◌, ◌++◌, length, get_or, sym, ap, subst, arith, inl, inr, ⊎_elim}
use Rattle.std.specs.List.{Contains}
use Rattle.std.proofs.lemmas.Bool.{cases_lt}
use Rattle.std.proofs.lemmas.List.Elements.{Contains-get_or, Contains-append_left, Contains-push, Contains-push_cases}
use Rattle.std.proofs.lemmas.List.Quantifiers.{all_pairs_push}
use Rattle.sled_codec.specs.Places.{part}
use Rattle.sled_codec.specs.Record.{IsHeader}
use Rattle.sled_codec.proofs.Segments.{one_header}
use Rattle.sled_core.specs.declared.iterator.Segment.{Segment}
use Rattle.sled_core.specs.inside.Scan.{IsFoundSegment}
use Rattle.sled_core.proofs.Read.ScanLemmas.{aligned_offset}
use Rattle.sled_core.proofs.Read.FoundLemmas.{found_there, pos_injective}
use Rattle.sled_log.specs.Ordering.{AreCollected}

-- of two slots one is no further than the other, or it is a whole size further
next_slot : (a b size : ℕ) → a % size ≡ 0 → b % size ≡ 0 → a < b + size → (a < b) ⊎ (a ≡ b)
next_slot a b size whole_a whole_b lt = ⊎_elim (λ below. inl below) at_least (cases_lt a b) where
  at_least : b ≤ a → (a < b) ⊎ (a ≡ b)
  at_least le =
      let is : b + (a - b) ≡ a = omega (arith, le) in
      let rest = aligned_offset b (a - b) size whole_b (omega (arith, lt, le)) in
      inr (omega (arith, is, rest, ap (λ n. n % size) is, whole_a, le))

module _ (sum : List ℕ → ℕ) (size : ℕ) (log : List ℕ) (least : ℕ) where
  abbrev Found : Segment → Type 0
  Found s = IsFoundSegment sum size log least s

  -- one slot has one segment at most
  one_in_slot : (s t : Segment) → Found s → Found t → s.slot ≡ t.slot → s ≡ t
  one_in_slot s t found other slots =
      let header = subst (λ (at : ℕ). IsHeader sum (part log at 20) (pos s.place) s.mark) slots found.header in
      let same = one_header sum (part log t.slot 20) (pos s.place) s.mark (pos t.place) t.mark header other.header in
      let places : s.place ≡ t.place = pos_injective s.place t.place same.0 in
      λ i. record { place = places i; slot = slots i; mark = same.1 i }

  -- one slot more, in which none is found
  pub none_more : (ss : List Segment) (slot : ℕ) → slot % size ≡ 0 → ((s : Segment) → Found s → s.slot ≡ slot → ⊥) → 0 < size → AreCollected sum size log least ss slot → AreCollected sum size log least ss (slot + size)
  none_more ss slot aligned none some are = record {
    has = λ s. (
      λ there. (((are.has s).0 there).0, let lt = ((are.has s).0 there).1 in omega (arith, lt)),
      λ both. (are.has s).1 (both.0, ⊎_elim (λ lt. lt) (λ is. absurd (none s both.0 is)) (next_slot s.slot slot size both.0.slot aligned both.1)),
    );
    apart = are.apart;
  }

  -- and where one is
  pub one_more : (ss : List Segment) (slot : ℕ) (t : Segment) → slot % size ≡ 0 → 0 < size → Found t → t.slot ≡ slot → AreCollected sum size log least ss slot → AreCollected sum size log least (ss ++ t ∷ []) (slot + size)
  one_more ss slot t aligned some found at are = record {
    has = λ s. (
      λ there. ⊎_elim (λ old. (((are.has s).0 old).0, let lt = ((are.has s).0 old).1 in omega (arith, lt))) (λ is. subst (λ x. Found x × (x.slot < slot + size)) is (found, omega (arith, at, some))) (Contains-push_cases ss t s there),
      λ both. ⊎_elim (λ lt. Contains-append_left ss (t ∷ []) s ((are.has s).1 (both.0, lt))) (λ is. subst (Contains (ss ++ t ∷ [])) (one_in_slot t s found both.0 (at ∙ sym is)) (Contains-push ss t)) (next_slot s.slot slot size both.0.slot aligned both.1),
    );
    apart = all_pairs_push (λ x y. x.slot ≢ y.slot) ss t are.apart (λ k d within same.
        let lt = ((are.has (get_or ss k d)).0 (Contains-get_or ss k d within)).1 in
        omega (arith, lt, same, at));
  }

  -- those of all slots
  pub all_slots : (ss : List Segment) (slot : ℕ) → length log ≤ slot → AreCollected sum size log least ss slot → AreCollected sum size log least ss (length log)
  all_slots ss slot past are = record {
    has = λ s. (
      λ there. let found = ((are.has s).0 there).0 in (found, omega (arith, found_there sum size log least s found)),
      λ both. (are.has s).1 (both.0, omega (arith, past, both.1)),
    );
    apart = are.apart;
  }

  -- where fewer bytes are there than a header has, none is found
  pub none_short : (slot n : ℕ) → n ≡ min 20 (length log - slot) → n < 20 → (s : Segment) → Found s → s.slot ≡ slot → ⊥
  none_short slot n count few s found at = absurd (omega (arith, found_there sum size log least s found, count, few, at))
