-- Where the records of entries end, before what fills their segment, as the entries change; and that no batch ends behind that.
use Rattle.std.proofs.Common.{◌≡◌, ◌≢◌, ◌≤◌, ◌<◌, ◌+◌, ◌∙◌, ℕ, zero, suc, Bool, true, false, if◌then◌else◌, List, [], ◌∷◌, ◌++◌, drop, set, Some, ap, sym, arith, refl, subst, inl, inr}
use Rattle.std.specs.List.{All, Contains, slice_get}
use Rattle.std.proofs.lemmas.Bool.{cases_lt}
use Rattle.std.proofs.lemmas.List.Elements.{All-tail}
use Rattle.sled_codec.specs.History.{Batch, History}
use Rattle.sled_core.specs.declared.iobuf.ReservationState.{ReservationState}
use Rattle.sled_core.specs.declared.iobuf.ReservationState.TheVariants.{Open, Completed, Canceled, Manifest, Padding}
use Rattle.sled_core.specs.declared.iobuf.Reserved.{Reserved}
use Rattle.sled_core.specs.Buffers.{padding_state}
use Rattle.sled_core.specs.inside.Buffers.{IsChain, ended, records_end}
use Rattle.sled_core.specs.inside.Recoverable.{NoBatchBegins, NoBatchEnds}

-- one entry more behind those
pub records_more : (rs : List Reserved) (r : Reserved) (end to : ℕ) → end ≤ to → end ≤ records_end (r ∷ []) to → records_end rs end ≤ records_end (rs ++ r ∷ []) to
records_more [] r end to up last = last
records_more (x ∷ xs) r end to up last = by (padding_state x.state) (records_more xs r end to up last) where
  by : (o : Bool) → records_end xs end ≤ records_end (xs ++ r ∷ []) to → (if o then x.from else records_end xs end) ≤ (if o then x.from else records_end (xs ++ r ∷ []) to)
  by true rest = omega arith
  by false rest = rest

-- an open one
pub behind_open : (r : Reserved) (end to : ℕ) → r.state ≡ Open → end ≤ to → end ≤ records_end (r ∷ []) to
behind_open r end to is up = let same : records_end (r ∷ []) to ≡ to = ap (λ (s : ReservationState). if padding_state s then r.from else to) is in omega (arith, same, up)

pub records_open : (rs : List Reserved) (r : Reserved) (end to : ℕ) → All (λ (x : Reserved). x.from < end) rs → end ≤ records_end rs end → r.state ≡ Open → to ≤ records_end (rs ++ r ∷ []) to
records_open [] r end to low whole is = behind_open r to to is (omega arith)
records_open (x ∷ xs) r end to low whole is = by (padding_state x.state) whole (λ later. records_open xs r end to (All-tail (λ (y : Reserved). y.from < end) x xs low) later is) where
  by : (o : Bool) → end ≤ (if o then x.from else records_end xs end) → (end ≤ records_end xs end → to ≤ records_end (xs ++ r ∷ []) to) → to ≤ (if o then x.from else records_end (xs ++ r ∷ []) to)
  by true up rest = absurd (let here = low 0 x (omega arith) in omega (arith, up, here))
  by false up rest = rest up

pub plain_state : (s : ReservationState) → s ≢ Padding → padding_state s ≡ false
plain_state Open plain = refl
plain_state Completed plain = refl
plain_state Canceled plain = refl
plain_state Manifest plain = refl
plain_state Padding plain = absurd (plain refl)

-- one of them has ended
pub records_ended : (xs ys : List Reserved) (r : Reserved) (state : ReservationState) (end : ℕ) → r.state ≡ Open → state ≢ Padding → records_end (xs ++ ended state r ∷ ys) end ≡ records_end (xs ++ r ∷ ys) end
records_ended [] ys r state end is plain =
    ap (λ (o : Bool). if o then r.from else records_end ys end) (plain_state state plain) ∙ ap (λ (o : Bool). if o then r.from else records_end ys end) (sym (ap padding_state is))
records_ended (x ∷ xs) ys r state end is plain = ap (λ n. if padding_state x.state then x.from else n) (records_ended xs ys r state end is plain)

pub records_set : (rs : List Reserved) (i : ℕ) (r : Reserved) (state : ReservationState) (end : ℕ) → slice_get rs i ≡ Some r → r.state ≡ Open → state ≢ Padding → records_end (set rs i (ended state r)) end ≡ records_end rs end
records_set [] i r state end there is plain = cc
records_set (x ∷ xs) zero r state end there is plain = let same : x ≡ r = cc in records_ended [] xs r state end is plain ∙ ap (λ (y : Reserved). records_end (y ∷ xs) end) (sym same)
records_set (x ∷ xs) (suc i) r state end there is plain = ap (λ n. if padding_state x.state then x.from else n) (records_set xs i r state end there is plain)

-- those at the front are gone
pub chain_records : (n : ℕ) (rs : List Reserved) (from end : ℕ) → IsChain from rs end → from ≤ records_end (drop n rs) end
chain_records zero [] from end chain = omega (arith, chain)
chain_records zero (r ∷ rs) from end chain = by (padding_state r.state) (chain_records zero rs (from + r.len) end chain.1) where
  by : (o : Bool) → from + r.len ≤ records_end rs end → from ≤ (if o then r.from else records_end rs end)
  by true rest = let at = chain.0 in omega (arith, at)
  by false rest = omega (arith, rest)
chain_records (suc n) [] from end chain = omega (arith, chain)
chain_records (suc n) (r ∷ rs) from end chain = let rest = chain_records n rs (from + r.len) end chain.1 in omega (arith, rest)

pub records_fewer : (n : ℕ) (rs : List Reserved) (from end : ℕ) → IsChain from rs end → records_end rs end ≤ records_end (drop n rs) end
records_fewer zero rs from end chain = omega arith
records_fewer (suc n) [] from end chain = omega arith
records_fewer (suc n) (r ∷ rs) from end chain = by (padding_state r.state) (records_fewer n rs (from + r.len) end chain.1) where
  by : (o : Bool) → records_end rs end ≤ records_end (drop n rs) end → (if o then r.from else records_end rs end) ≤ records_end (drop n rs) end
  by true rest = let at = chain.0 in let far = chain_records n rs (from + r.len) end chain.1 in omega (arith, at, far)
  by false rest = rest

-- No batch ends from a place on where none does from a lower one on; the history's messages don't matter.
pub no_end_up : (H : History) (place low high to : ℕ) → low ≤ high → NoBatchEnds H (place + low) to → NoBatchEnds H (place + high) to
no_end_up H place low high to up none b there = elim (none b there) [ inl before ↦ inl (omega (arith, before, up)) | inr far ↦ inr far ]

pub no_end_in : (H H' : History) (low high : ℕ) → H'.batches ≡ H.batches → NoBatchEnds H low high → NoBatchEnds H' low high
no_end_in H H' low high same none b there = none b (subst (λ (l : List Batch). Contains l b) same there)

-- Between a place and itself nothing begins or ends.
pub none_between : (H : History) (place : ℕ) → NoBatchBegins H place place × NoBatchEnds H place place
none_between H place = ((λ b there. cases_lt b.low place), (λ b there. cases_lt b.peg place))
