-- Slots that are filled one after another: the calls so far, and where they stop.
use Rattle.std.proofs.Common.{◌≡◌, ◌∙◌, ◌+◌, ◌*◌, ◌≤◌, ◌<◌, ◌⊎◌, inl, inr, ℕ, zero, suc, Bool, true, false, if◌then◌else◌, List, [], ◌∷◌, ◌++◌, map, replicate, Option, Some, None, IfSome, Result, Ok, Err, OnErr, refl, sym, ap, subst, arith, append_assoc, append-nil, add-one}
use Rattle.std.specs.Option.{option_or}
use Rattle.std.proofs.lemmas.List.{map-append}
use Rattle.std.proofs.Math.Nat.{eq-or-lt_of_le}
use Rattle.sled_store.specs.Device.{Event, Trace, Wrote, Synced}
use Rattle.sled_store.specs.Answers.{Tears}
use Rattle.sled_store.specs.Script.{Performs, after_all}
use Rattle.sled_store.proofs.Traces.ScriptLemmas.{performs_more, performs_behind, after_joined, stop_call}
use Rattle.sled_store.specs.Begin.{not_below, fill, filling, first_of}

-- The numbers below another at which a test is false.

-- the same test gives the same numbers
pub same_below : (p q : ℕ → Bool) (m n : ℕ) → ((k : ℕ) → p k ≡ q k) → m ≡ n → not_below p m ≡ not_below q n
same_below p q m n same is = (λ i. not_below (λ k. same k i) m) ∙ ap (not_below q) is

module _ (test : ℕ → Bool) where
  -- a number at which the test is true is left out
  pub not_below_yes : (k : ℕ) → test k ≡ true → not_below test (k + 1) ≡ not_below test k
  not_below_yes k is = ap (not_below test) (add-one k) ∙ ap (λ (b : Bool). if b then not_below test k else not_below test k ++ k ∷ []) is

  -- and one at which it is false stands at the end
  pub not_below_no : (k : ℕ) → test k ≡ false → not_below test (k + 1) ≡ not_below test k ++ k ∷ []
  not_below_no k is = ap (not_below test) (add-one k) ∙ ap (λ (b : Bool). if b then not_below test k else not_below test k ++ k ∷ []) is

  -- the first of them is below the other
  pub first_below : (n : ℕ) → IfSome (first_of (not_below test n)) (λ k. k < n)
  first_below zero = tt
  first_below (suc m) = by_test (first_below m) (test m)
    where
      more : (ks : List ℕ) → IfSome (first_of ks) (λ k. k < m) → IfSome (first_of (ks ++ m ∷ [])) (λ k. k < suc m)
      more [] below = omega arith
      more (k ∷ ks) below = omega (arith, below)

      as_before : (o : Option ℕ) → IfSome o (λ k. k < m) → IfSome o (λ k. k < suc m)
      as_before None below = tt
      as_before (Some k) below = omega (arith, below)

      by_test : IfSome (first_of (not_below test m)) (λ k. k < m) → (b : Bool) → IfSome (first_of (if b then not_below test m else not_below test m ++ m ∷ [])) (λ k. k < suc m)
      by_test below true = as_before (first_of (not_below test m)) below
      by_test below false = more (not_below test m) below

  -- one of them, and what comes before and behind it
  pub split_at : (n k : ℕ) → k < n → test k ≡ false → (rest : List ℕ) × (not_below test n ≡ not_below test k ++ k ∷ [] ++ rest)
  split_at zero k lt is = absurd (omega arith)
  split_at (suc m) k lt is = by_place (split_at m k) (eq-or-lt_of_le (let le : k ≤ m = omega (arith, lt) in le))
    where
      by_place : (k < m → test k ≡ false → (rest : List ℕ) × (not_below test m ≡ not_below test k ++ k ∷ [] ++ rest)) → (k ≡ m) ⊎ (k < m) → (rest : List ℕ) × (not_below test (suc m) ≡ not_below test k ++ k ∷ [] ++ rest)
      by_place below (inl same) = (
        [],
        subst (λ j. not_below test (suc m) ≡ not_below test j ++ j ∷ [] ++ []) (sym same)
            (ap (λ (b : Bool). if b then not_below test m else not_below test m ++ m ∷ []) (subst (λ j. test j ≡ false) same is) ∙ sym (append-nil (not_below test m ++ m ∷ []))),
      )
      by_place below (inr less) = by_test (below less is) (test m)
        where
          by_test : (rest : List ℕ) × (not_below test m ≡ not_below test k ++ k ∷ [] ++ rest) → (b : Bool)
              → (rest : List ℕ) × ((if b then not_below test m else not_below test m ++ m ∷ []) ≡ not_below test k ++ k ∷ [] ++ rest)
          by_test before true = before
          by_test before false = (before.0 ++ m ∷ [], ap (λ (l : List ℕ). l ++ m ∷ []) before.1 ∙ append_assoc (not_below test k ++ k ∷ []) before.0 (m ∷ []))

-- what is so is so after an error
pub after_err : {T E : Type 0} (r : Result T E) (P : Type 0) → P → OnErr r P
after_err (Ok x) P p = tt
after_err (Err e) P p = p

-- the first of a list that grows at its end
pub first_push : (ks : List ℕ) (k : ℕ) → option_or (first_of ks) (Some k) ≡ first_of (ks ++ k ∷ [])
first_push [] k = refl
first_push (j ∷ ks) k = refl

module _ (size : ℕ) where
  -- one more slot was filled
  pub filled_more : (ks : List ℕ) (k : ℕ) (event : Event) (old mid new : Trace) → event ≡ fill size k → mid ≡ after_all (map (fill size) ks) old → new ≡ event ∷ mid → new ≡ after_all (map (fill size) (ks ++ k ∷ [])) old
  filled_more ks k event old mid new event_is before is =
      is ∙ ap (λ (e : Event). e ∷ mid) event_is ∙ ap (λ (h : Trace). fill size k ∷ h) before ∙ sym (after_joined (map (fill size) ks) (fill size k ∷ []) old)
      ∙ ap (λ (es : List Event). after_all es old) (sym (map-append (fill size) ks (k ∷ [])))

  -- the filling of a slot stopped
  pub stopped_at : {fault : Type 0} (test : ℕ → Bool) (n k : ℕ) (event : Event) (old mid new : Trace) → k < n → test k ≡ false → event ≡ fill size k → mid ≡ after_all (map (fill size) (not_below test k)) old
      → (new ≡ mid) ⊎ (fault × ((torn : Event) × Tears event torn × (new ≡ torn ∷ mid))) → Performs (map (fill size) (not_below test n)) old new
  stopped_at test n k event old mid new lt is event_is before stop =
      let whole = split_at test n k lt is in
      let one = subst (λ (e : Event). Performs (e ∷ []) mid new) event_is (stop_call event [] mid new stop) in
      let some = performs_behind (map (fill size) (not_below test k)) (fill size k ∷ []) old mid new before one in
      let more = performs_more (map (fill size) (not_below test k) ++ fill size k ∷ []) (map (fill size) whole.0) old new some in
      subst (λ (es : List Event). Performs es old new)
      (ap (λ (es : List Event). es ++ map (fill size) whole.0) (sym (map-append (fill size) (not_below test k) (k ∷ []))) ∙ sym (map-append (fill size) (not_below test k ++ k ∷ []) whole.0) ∙ ap (map (fill size)) (sym whole.1)) more

  -- the event of a slot that is filled
  pub fill_is : (k now : ℕ) (zeros : List ℕ) → now ≡ size → zeros ≡ replicate size 0 → Wrote (k * now) zeros zeros ≡ fill size k
  fill_is k now zeros same zeros_are = ap (λ n. Wrote (k * n) zeros zeros) same ∙ ap (λ (zs : List ℕ). Wrote (k * size) zs zs) zeros_are

  -- The whole of a filling.

  -- nothing is to be done where there is no slot
  pub nothing_filled : (ks : List ℕ) (old new : Trace) → None ≡ first_of ks → new ≡ after_all (map (fill size) ks) old → new ≡ after_all (filling size ks) old
  nothing_filled [] old new none is = is
  nothing_filled (k ∷ ks) old new none is = absurd (let never : ⊥ = cc in never)

  -- the sync behind it was made
  pub all_filled : (ks : List ℕ) (j : ℕ) (old mid new : Trace) → Some j ≡ first_of ks → mid ≡ after_all (map (fill size) ks) old → new ≡ Synced ∷ mid → new ≡ after_all (filling size ks) old
  all_filled [] j old mid new some is synced = absurd (let never : ⊥ = cc in never)
  all_filled (k ∷ ks) j old mid new some is synced = synced ∙ ap (λ (h : Trace). Synced ∷ h) is ∙ sym (after_joined (map (fill size) (k ∷ ks)) (Synced ∷ []) old)

  -- or it stopped
  pub sync_stopped : {fault : Type 0} (ks : List ℕ) (j : ℕ) (old mid new : Trace) → Some j ≡ first_of ks → mid ≡ after_all (map (fill size) ks) old
      → (new ≡ mid) ⊎ (fault × ((torn : Event) × Tears Synced torn × (new ≡ torn ∷ mid))) → Performs (filling size ks) old new
  sync_stopped [] j old mid new some is stop = absurd (let never : ⊥ = cc in never)
  sync_stopped (k ∷ ks) j old mid new some is stop = performs_behind (map (fill size) (k ∷ ks)) (Synced ∷ []) old mid new is (stop_call Synced [] mid new stop)

  -- or what comes before it
  pub filling_stopped : (ks : List ℕ) (old new : Trace) → Performs (map (fill size) ks) old new → Performs (filling size ks) old new
  filling_stopped [] old new came = came
  filling_stopped (k ∷ ks) old new came = performs_more (map (fill size) (k ∷ ks)) (Synced ∷ []) old new came
