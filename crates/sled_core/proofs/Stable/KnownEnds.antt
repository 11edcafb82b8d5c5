-- What is known behind each call.
use Rattle.std.proofs.Common.{◌≡◌, ◌⊎◌, ◌≤◌, ◌≤ℤ◌, ◌<ℤ◌, ◌+ℤ◌, ℕ, ℤ, pos, List, ◌∷◌, length, sym, subst, arith}
use Rattle.std.specs.List.{All, AllWithin, Contains, insert}
use Rattle.std.specs.List.Sorted.{IsPermutation}
use Rattle.std.proofs.lemmas.Int.{ints}
use Rattle.std.proofs.lemmas.List.Sorted.{All-permutation}
use Rattle.sled_core.specs.declared.iobuf.intervals.StabilityIntervals.{StabilityIntervals}
use Rattle.sled_core.specs.StableEnds.{IsHalfSynced, IsBeforeHalfSynced, IsContiguousEnd, IsStableEnd, AreApart, AreInOrder, Reaches, AreWaiting, end_before}
use Rattle.sled_core.specs.Synced.{Knows, contiguous_of, ahead_of, batches_of, stable_of}
use Rattle.std.proofs.lemmas.List.Elements.{All-cons, All-contains, All-weaker}
use Rattle.sled_core.proofs.Stable.Noted.{all_inserted, inserted_in_order, before_all, behind_all, above_contiguous, end_stays, awaits_inserted}
use Rattle.sled_core.proofs.Stable.TakenIn.{reach_next, reach_ahead, stays_at}
use Rattle.sled_core.proofs.Stable.Waiting.{is_stable, awaits_on}

-- what the fields come to is the stable end
pub known_end : (v : StabilityIntervals) (s : ℤ) (is bs : List (ℤ × ℤ)) (r : ℤ) → r ≡ stable_of v → Knows v s is bs → IsStableEnd s is bs r
known_end v s is bs r at k =
    let e = contiguous_of v in record {
      end = e;
      contiguous = k.contiguous;
      stable = subst (λ z. (All (λ b. IsHalfSynced e b → ⊥) bs × (z ≡ e)) ⊎ IsBeforeHalfSynced e bs z) (sym at) (is_stable bs e (batches_of v) k.awaited k.open_yet);
    }

-- all intervals of a list begin behind the next place
abbrev Beyond : ℤ → List (ℤ × ℤ) → Type 0
Beyond e is = All (λ i. (e +ℤ pos 1) <ℤ i.0) is

-- an interval beyond the next place is kept
pub ahead_known : (old new : StabilityIntervals) (i : ℤ × ℤ) → contiguous_of new ≡ contiguous_of old → IsPermutation (i ∷ ahead_of old) (ahead_of new) → batches_of new ≡ batches_of old
    → (contiguous_of old +ℤ pos 1) <ℤ i.0 → (s : ℤ) (is bs : List (ℤ × ℤ)) → Knows old s is bs → Knows new s (i ∷ is) bs
ahead_known old new i end moved batches beyond s is bs k =
    let e = contiguous_of old in record {
      contiguous = rw end (stays_at s is e i k.contiguous beyond);
      reached = rw end (reach_ahead s is e (ahead_of old) (ahead_of new) i k.reached moved);
      beyond = subst (λ z. Beyond z (ahead_of new)) (sym end)
          (All-permutation (λ x. (e +ℤ pos 1) <ℤ x.0) (i ∷ ahead_of old) (ahead_of new) moved (All-cons (λ x. (e +ℤ pos 1) <ℤ x.0) i (ahead_of old) beyond k.beyond));
      awaited = rw (end, batches) k.awaited;
      open_yet = subst (λ l. All (λ b. contiguous_of new <ℤ b.1) l) (sym batches) (subst (λ e. All (λ b. e <ℤ b.1) (batches_of old)) (sym end) k.open_yet);
    }

-- an interval at the next place moves the end, over what is ahead and past the batches that end by there
pub taken_known : (old new : StabilityIntervals) (e : ℤ) → contiguous_of new ≡ e → (i : ℤ × ℤ) → contiguous_of old ≤ℤ i.1 → i.1 ≤ℤ e → i.0 ≤ℤ (contiguous_of old +ℤ pos 1)
    → ((s : ℤ) (is : List (ℤ × ℤ)) → Reaches s is i.1 (ahead_of old) → Reaches s is e (ahead_of new))
    → ((s : ℤ) (is : List (ℤ × ℤ)) → Reaches s is i.1 (ahead_of old) → IsContiguousEnd s is e) → All (λ x. (e +ℤ pos 1) <ℤ x.0) (ahead_of new)
    → ((bs : List (ℤ × ℤ)) → AreWaiting bs e (batches_of old) → AreWaiting bs e (batches_of new))
    → (AreInOrder (batches_of old) → All (λ b. e <ℤ b.1) (batches_of new))
    → (s : ℤ) (is bs : List (ℤ × ℤ)) → Knows old s is bs → Knows new s (i ∷ is) bs
taken_known old new e end i on further near reaches ends beyond awaits opens s is bs k =
    let r = reach_next s is (contiguous_of old) (ahead_of old) i k.reached near on in
    let up : contiguous_of old ≤ℤ e = omega (arith, ints) in record {
      contiguous = rw end (ends s (i ∷ is) r);
      reached = rw end (reaches s (i ∷ is) r);
      beyond = subst (λ z. Beyond z (ahead_of new)) (sym end) beyond;
      awaited = rw end (awaits bs (awaits_on bs (contiguous_of old) e (batches_of old) up k.awaited));
      open_yet = subst (λ z. All (λ b. z <ℤ b.1) (batches_of new)) (sym end) (opens k.awaited.in_order);
    }

-- a batch is noted where it belongs
module _ (old : StabilityIntervals) (x : ℤ × ℤ) (at : ℕ) (ordered : x.0 ≤ℤ x.1) (above : stable_of old <ℤ x.0) (le : at ≤ length (batches_of old))
    (below_at : AreInOrder (batches_of old) → AllWithin (λ b. b.1 ≤ℤ x.0) (batches_of old) 0 at)
    (above_at : AreInOrder (batches_of old) → AllWithin (λ b. x.0 <ℤ b.1) (batches_of old) at (length (batches_of old)))
    (s : ℤ) (is bs : List (ℤ × ℤ)) (k : Knows old s is bs) (apart : All (AreApart x) bs) where
  abbrev e : ℤ
  e = contiguous_of old

  abbrev left : List (ℤ × ℤ)
  left = batches_of old

  among_apart : All (AreApart x) left
  among_apart = All-weaker (Contains bs) (AreApart x) (λ b c. All-contains (AreApart x) bs b apart c) left k.awaited.among

  below : AllWithin (λ b. b.1 ≤ℤ x.0) left 0 at
  below = below_at k.awaited.in_order

  behind : AllWithin (λ b. x.1 <ℤ b.0) left at (length left)
  behind = behind_all x ordered left at among_apart (above_at k.awaited.in_order)

  higher : e <ℤ x.0
  higher = above_contiguous x ordered e left k.open_yet among_apart above

  in_order : AreInOrder (insert left at x)
  in_order = inserted_in_order x ordered left at k.awaited.in_order le (before_all x ordered left at k.awaited.in_order le among_apart below) behind

  -- it is known then
  pub noted_known : (new : StabilityIntervals) → contiguous_of new ≡ contiguous_of old → ahead_of new ≡ ahead_of old → batches_of new ≡ insert (batches_of old) at x → Knows new s is (x ∷ bs)
  noted_known new end ahead batches = record {
    contiguous = rw end k.contiguous;
    reached = rw (end, ahead) k.reached;
    beyond = subst (λ z. Beyond z (ahead_of new)) (sym end) (subst (Beyond (contiguous_of old)) (sym ahead) k.beyond);
    awaited = rw (end, batches) (awaits_inserted x ordered bs e left at k.awaited in_order);
    open_yet = subst (λ l. All (λ b. contiguous_of new <ℤ b.1) l) (sym batches) (subst (λ z. All (λ b. z <ℤ b.1) (insert left at x)) (sym end)
        (all_inserted x (λ b. e <ℤ b.1) left at (let up = higher in omega (arith, ints)) k.open_yet));
  }

  -- and the stable end stays
  pub noted_stays : end_before (contiguous_of old) (insert (batches_of old) at x) ≡ stable_of old
  noted_stays = end_stays x ordered e left at higher le behind
