-- The sealed buffers of a segment that are written, once a further one is, and once those at the front are one range with what was written before.
use Rattle.std.proofs.Common.{◌≡◌, ◌⊎◌, ◌≤◌, ◌<◌, ◌-◌, ◌∙◌, nat_lt, ℕ, zero, suc, Bool, true, false, if◌then◌else◌, List, [], ◌∷◌, ◌++◌, take, Some, refl, sym, subst, arith, inl, inr}
use Rattle.std.specs.List.{slice_get}
use Rattle.sled_store.specs.Readers.{IsOwnRange}
use Rattle.sled_store.proofs.Own.RangeLemmas.{ranges_joined}
use Rattle.sled_core.specs.declared.iobuf.Sealed.{Sealed}
use Rattle.sled_core.specs.inside.OwnLog.{AreWritten}
use Rattle.sled_core.specs.inside.SealedBuffers.{behind_run, one_ended, one_fewer, run_end, written_at}
use Rattle.sled_core.specs.SealedBuffers.{sealed_end}
use Rattle.sled_core.proofs.Sealed.LaidLemmas.{EndsRise, ends_below}

-- no buffer ends below where the first one begins
pub taken_up : (from : ℕ) (bs : List Sealed) (k to : ℕ) → EndsRise from bs to → from ≤ sealed_end from (take k bs)
taken_up from [] zero to rise = omega arith
taken_up from [] (suc k) to rise = omega arith
taken_up from (b ∷ bs) zero to rise = omega arith
taken_up from (b ∷ bs) (suc k) to rise = let up = taken_up b.end bs k to rise.1 in let here = rise.0 in omega (arith, up, here)

-- Ranges from an offset on stay what they are.
pub written_behind : (Range Range' : ℕ → ℕ → Type 0) (until : ℕ) → ((from to : ℕ) → until ≤ from → Range from to → Range' from to)
    → (from : ℕ) (bs : List Sealed) (to : ℕ) → until ≤ from → EndsRise from bs to → AreWritten Range from bs → AreWritten Range' from bs
written_behind Range Range' until stays from [] to above rise are = tt
written_behind Range Range' until stays from (b ∷ bs) to above rise are =
    let here = rise.0 in
    (λ is. stays from b.end above (are.0 is), written_behind Range Range' until stays b.end bs to (omega (arith, above, here)) rise.1 are.1)

-- One of them is written.
pub one_written : (Range Range' : ℕ → ℕ → Type 0) (from : ℕ) (bs : List Sealed) (k : ℕ) (b : Sealed) (to : ℕ) → slice_get bs k ≡ Some b → EndsRise from bs to
    → ((f t : ℕ) → (t ≤ sealed_end from (take k bs)) ⊎ (b.end ≤ f) → Range f t → Range' f t) → Range' (sealed_end from (take k bs)) b.end → AreWritten Range from bs → AreWritten Range' from (written_at k bs)
one_written Range Range' from [] k b to there rise stays own are = cc
one_written Range Range' from (x ∷ xs) zero b to there rise stays own are =
    let same : b ≡ x = cc in (
      λ is. subst (λ (y : Sealed). Range' from y.end) same own,
      written_behind Range Range' x.end (λ f t above range. stays f t (inr (let end : b.end ≡ x.end = cc in omega (arith, above, end))) range) x.end xs to (omega arith) rise.1 are.1,
    )
one_written Range Range' from (x ∷ xs) (suc k) b to there rise stays own are = (
  λ is. stays from x.end (inl (taken_up x.end xs k to rise.1)) (are.0 is),
  one_written Range Range' x.end xs k b to there rise.1 stays own are.1,
)

-- Those behind the ones at the front.
pub behind_front : (Range : ℕ → ℕ → Type 0) (from : ℕ) (bs : List Sealed) → AreWritten Range from bs → AreWritten Range (run_end from bs) (behind_run bs)
behind_front Range from [] are = are
behind_front Range from (b ∷ bs) are = by_test (behind_front Range b.end bs are.1) b.is_written where
  by_test : AreWritten Range (run_end b.end bs) (behind_run bs) → (o : Bool) → AreWritten Range (if o then run_end b.end bs else from) (if o then behind_run bs else b ∷ bs)
  by_test rest true = rest
  by_test rest false = are

-- A further buffer is sealed behind them, which isn't written.
pub sealed_behind : (Range : ℕ → ℕ → Type 0) (from : ℕ) (bs : List Sealed) (b : Sealed) → b.is_written ≡ false → AreWritten Range from bs → AreWritten Range from (bs ++ b ∷ [])
sealed_behind Range from [] b fresh are = (λ is. let never : false ≡ true = sym fresh ∙ is in absurd (let none : ⊥ = cc in none), tt)
sealed_behind Range from (x ∷ xs) b fresh are = (are.0, sealed_behind Range x.end xs b fresh are.1)

-- A reservation of one of them ends.
pub ended_among : (Range : ℕ → ℕ → Type 0) (from i : ℕ) (bs : List Sealed) → AreWritten Range from bs → AreWritten Range from (one_ended i bs)
ended_among Range from i [] are = are
ended_among Range from i (b ∷ bs) are = by_test (ended_among Range b.end (i - b.count) bs are.1) (nat_lt i b.count) where
  by_test : AreWritten Range b.end (one_ended (i - b.count) bs) → (o : Bool) → AreWritten Range from (if o then one_fewer b ∷ bs else b ∷ one_ended (i - b.count) bs)
  by_test rest true = are
  by_test rest false = (are.0, rest)

module _ (sum : List ℕ → ℕ) (size : ℕ) (Header : ℕ → List ℕ → Type 0) (Own : ℕ → ℕ → List ℕ → Type 0) (number begin : ℕ) (text : List ℕ) where
  abbrev pub Range : ℕ → ℕ → Type 0
  Range from to = IsOwnRange sum size Header Own number begin text from to

  -- A written buffer comes behind what was written before.
  pub front_further : (from to : ℕ) → from < size → (0 < from → Range 0 from) → Range from to → Range 0 to
  front_further zero to below front own = own
  front_further (suc n) to below front own = ranges_joined sum size Header Own number begin text (suc n) to below (front (omega arith)) own

  -- So do all that are at the front.
  pub front_written : (from : ℕ) (bs : List Sealed) (to : ℕ) → to ≤ size → EndsRise from bs to → (0 < from → Range 0 from) → AreWritten Range from bs → 0 < run_end from bs → Range 0 (run_end from bs)
  front_written from [] to short rise front are some = front some
  front_written from (b ∷ bs) to short rise front are some = by_test (λ joined more. front_written b.end bs to short rise.1 (λ later. joined) are.1 more) b.is_written refl some where
    by_test : (Range 0 b.end → 0 < run_end b.end bs → Range 0 (run_end b.end bs)) → (o : Bool) → b.is_written ≡ o → 0 < (if o then run_end b.end bs else from) → Range 0 (if o then run_end b.end bs else from)
    by_test rest true is more =
        let here = rise.0 in
        let below = ends_below b.end bs to rise.1 in
        let low : from < size = omega (arith, here, below.0, below.1, short) in
        rest (front_further from b.end low front (are.0 is)) more
    by_test rest false is more = front more
