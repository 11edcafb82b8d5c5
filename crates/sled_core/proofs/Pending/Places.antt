-- The places of the buffers of a segment that can be written lie in order, and once one of the sealed buffers is another one its own place alone comes or goes.
use Rattle.std.proofs.Common.{◌≡◌, ◌∙◌, ◌<◌, ◌≤◌, ◌+◌, ◌==◌, ap, sym, refl, arith, ℕ, zero, suc, Bool, true, false, if◌then◌else◌, List, [], ◌∷◌, ◌++◌, append_assoc, take, drop, set, Some}
use Rattle.std.specs.List.{All, slice_get}
use Rattle.std.proofs.lemmas.List.Elements.{All-append, All-cons, All-nil, All-weaker}
use Rattle.sled_core.specs.declared.iobuf.Reserved.{Reserved}
use Rattle.sled_core.specs.declared.iobuf.Sealed.{Sealed}
use Rattle.sled_core.specs.inside.ReadyBuffers.{held_in, ready_in}
use Rattle.sled_core.specs.inside.SealedBuffers.{AreSealed, behind_run, is_ready, now_written, run_end, written_at}
use Rattle.sled_core.specs.SealedBuffers.{sealed_end}

-- the place of one buffer, where it can be written
abbrev pub ready_one : ℕ → Sealed → List ℕ
ready_one at b = if is_ready b then at ∷ [] else []

-- those in front of others
ready_first : (place from : ℕ) (b : Sealed) (bs : List Sealed) → ready_in place from (b ∷ bs) ≡ ready_one (place + from) b ++ ready_in place b.end bs
ready_first place from b bs = by (is_ready b) where
  by : (o : Bool) → (if o then (place + from) ∷ ready_in place b.end bs else ready_in place b.end bs) ≡ (if o then (place + from) ∷ [] else []) ++ ready_in place b.end bs
  by true = refl
  by false = refl

held_first : (b : Sealed) (bs : List Sealed) → held_in (b ∷ bs) ≡ held_in (b ∷ []) + held_in bs
held_first b bs = by b.is_written (b.open_count == 0) where
  by : (o p : Bool) → (if o then held_in bs else (if p then held_in bs else suc (held_in bs))) ≡ (if o then 0 else (if p then 0 else suc 0)) + held_in bs
  by true p = omega arith
  by false true = omega arith
  by false false = omega arith

pub ready_on : (place from : ℕ) (xs ys : List Sealed) → ready_in place from (xs ++ ys) ≡ ready_in place from xs ++ ready_in place (sealed_end from xs) ys
ready_on place from [] ys = refl
ready_on place from (x ∷ xs) ys = by (is_ready x) (ready_on place x.end xs ys) where
  by : (o : Bool) → ready_in place x.end (xs ++ ys) ≡ ready_in place x.end xs ++ ready_in place (sealed_end x.end xs) ys
      → (if o then (place + from) ∷ ready_in place x.end (xs ++ ys) else ready_in place x.end (xs ++ ys))
      ≡ (if o then (place + from) ∷ ready_in place x.end xs else ready_in place x.end xs) ++ ready_in place (sealed_end x.end xs) ys
  by true rest = ap (λ (l : List ℕ). (place + from) ∷ l) rest
  by false rest = rest

pub held_on : (xs ys : List Sealed) → held_in (xs ++ ys) ≡ held_in xs + held_in ys
held_on [] ys = omega arith
held_on (x ∷ xs) ys =
    let all = held_first x (xs ++ ys) in
    let own = held_first x xs in
    let rest = held_on xs ys in
    omega (arith, all, own, rest)

-- Each buffer ends behind where it begins.
abbrev pub Rise : ℕ → List Sealed → Type 0
Rise from [] = Unit {0}
Rise from (b ∷ bs) = (from < b.end) × Rise b.end bs

pub rise_of : (from : ℕ) (rs : List Reserved) (bs : List Sealed) → AreSealed from rs bs → Rise from bs
rise_of from rs [] are = tt
rise_of from rs (b ∷ bs) are = (are.0.rises, rise_of b.end (drop b.count rs) bs are.1)

rise_on : (from : ℕ) (xs ys : List Sealed) → Rise from (xs ++ ys) → Rise from xs × Rise (sealed_end from xs) ys
rise_on from [] ys rise = (tt, rise)
rise_on from (x ∷ xs) ys rise = let rest = rise_on x.end xs ys rise.1 in ((rise.0, rest.0), rest.1)

pub rise_up : (from : ℕ) (bs : List Sealed) → Rise from bs → from ≤ sealed_end from bs
rise_up from [] rise = omega arith
rise_up from (b ∷ bs) rise = let here = rise.0 in let up = rise_up b.end bs rise.1 in omega (arith, here, up)

pub end_on : (from : ℕ) (xs ys : List Sealed) → sealed_end from (xs ++ ys) ≡ sealed_end (sealed_end from xs) ys
end_on from [] ys = refl
end_on from (x ∷ xs) ys = end_on x.end xs ys

-- So their places lie within those of the segment.
pub ready_above : (place from : ℕ) (bs : List Sealed) → Rise from bs → All (λ p. place + from ≤ p) (ready_in place from bs)
ready_above place from [] rise = All-nil (λ p. place + from ≤ p)
ready_above place from (b ∷ bs) rise =
    let here = rise.0 in
    by (is_ready b) (All-weaker (λ p. place + b.end ≤ p) (λ p. place + from ≤ p) (λ p le. omega (arith, le, here)) (ready_in place b.end bs) (ready_above place b.end bs rise.1))
  where
    by : (o : Bool) → All (λ p. place + from ≤ p) (ready_in place b.end bs) → All (λ p. place + from ≤ p) (if o then (place + from) ∷ ready_in place b.end bs else ready_in place b.end bs)
    by true rest = All-cons (λ p. place + from ≤ p) (place + from) (ready_in place b.end bs) (omega arith) rest
    by false rest = rest

pub ready_below : (place from : ℕ) (bs : List Sealed) → Rise from bs → All (λ p. p < place + sealed_end from bs) (ready_in place from bs)
ready_below place from [] rise = All-nil (λ p. p < place + from)
ready_below place from (b ∷ bs) rise = by (is_ready b) (ready_below place b.end bs rise.1) where
  by : (o : Bool) → All (λ p. p < place + sealed_end b.end bs) (ready_in place b.end bs) → All (λ p. p < place + sealed_end b.end bs) (if o then (place + from) ∷ ready_in place b.end bs else ready_in place b.end bs)
  by true rest = All-cons (λ p. p < place + sealed_end b.end bs) (place + from) (ready_in place b.end bs) (let here = rise.0 in let up = rise_up b.end bs rise.1 in omega (arith, here, up)) rest
  by false rest = rest

-- The buffer at an index, between the others.

pub around : (bs : List Sealed) (k : ℕ) (b : Sealed) → slice_get bs k ≡ Some b → bs ≡ take k bs ++ b ∷ drop (suc k) bs
around [] k b there = cc
around (x ∷ bs) zero b there = let same : x ≡ b = cc in ap (λ (y : Sealed). y ∷ bs) same
around (x ∷ bs) (suc k) b there = ap (λ (l : List Sealed). x ∷ l) (around bs k b there)

pub set_around : (bs : List Sealed) (k : ℕ) (b c : Sealed) → slice_get bs k ≡ Some b → set bs k c ≡ take k bs ++ c ∷ drop (suc k) bs
set_around [] k b c there = cc
set_around (x ∷ bs) zero b c there = refl
set_around (x ∷ bs) (suc k) b c there = ap (λ (l : List Sealed). x ∷ l) (set_around bs k b c there)

pub written_around : (bs : List Sealed) (k : ℕ) (b : Sealed) → slice_get bs k ≡ Some b → written_at k bs ≡ take k bs ++ now_written b ∷ drop (suc k) bs
written_around [] k b there = cc
written_around (x ∷ bs) zero b there = let same : x ≡ b = cc in ap (λ (y : Sealed). now_written y ∷ bs) same
written_around (x ∷ bs) (suc k) b there = ap (λ (l : List Sealed). x ∷ l) (written_around bs k b there)

-- The places of a segment's buffers with others before and behind them, parted where one of its buffers begins.
module _ (place from : ℕ) (xs : List Sealed) (b : Sealed) (ys : List Sealed) (before behind : List ℕ) where
  abbrev pub begins : ℕ
  begins = place + sealed_end from xs

  abbrev pub lower : List ℕ
  lower = before ++ ready_in place from xs

  abbrev pub higher : List ℕ
  higher = ready_in place b.end ys ++ behind

  pub parted : before ++ ready_in place from (xs ++ b ∷ ys) ++ behind ≡ lower ++ ready_one begins b ++ higher
  parted =
      let own : List ℕ = ready_one begins b in
      let rest : List ℕ = ready_in place b.end ys in
      ap (λ (l : List ℕ). before ++ l ++ behind) (ready_on place from xs (b ∷ ys) ∙ ap (λ (l : List ℕ). ready_in place from xs ++ l) (ready_first place (sealed_end from xs) b ys))
      ∙ ap (λ (l : List ℕ). l ++ behind) (sym (append_assoc before (ready_in place from xs) (own ++ rest)) ∙ sym (append_assoc lower own rest))
      ∙ append_assoc (lower ++ own) rest behind

  -- where it can be written, and where it can't
  pub parted_ready : is_ready b ≡ true → before ++ ready_in place from (xs ++ b ∷ ys) ++ behind ≡ lower ++ begins ∷ higher
  parted_ready is = parted ∙ ap (λ (o : Bool). lower ++ (if o then begins ∷ [] else []) ++ higher) is ∙ append_assoc lower (begins ∷ []) higher

  pub parted_none : is_ready b ≡ false → before ++ ready_in place from (xs ++ b ∷ ys) ++ behind ≡ lower ++ higher
  parted_none is = parted ∙ ap (λ (o : Bool). lower ++ (if o then begins ∷ [] else []) ++ higher) is ∙ append_assoc lower [] higher

  -- the ones before it are below it, and the others aren't
  module _ (rise : Rise from (xs ++ b ∷ ys)) where
    pub lower_below : All (λ p. p < place + from) before → All (λ p. p < begins) lower
    lower_below low =
        let parts = rise_on from xs (b ∷ ys) rise in
        let up = rise_up from xs parts.0 in
        All-append (λ p. p < begins) before (ready_in place from xs) (All-weaker (λ p. p < place + from) (λ p. p < begins) (λ p lt. omega (arith, lt, up)) before low) (ready_below place from xs parts.0)

    pub higher_above : All (λ p. place + sealed_end from (xs ++ b ∷ ys) ≤ p) behind → All (λ p. begins ≤ p) higher
    higher_above high =
        let parts = rise_on from xs (b ∷ ys) rise in
        let here = parts.1.0 in
        let up = rise_up b.end ys parts.1.1 in
        let ends : sealed_end from (xs ++ b ∷ ys) ≡ sealed_end b.end ys = end_on from xs (b ∷ ys) in
        All-append (λ p. begins ≤ p) (ready_in place b.end ys) behind
        (All-weaker (λ p. place + b.end ≤ p) (λ p. begins ≤ p) (λ p le. omega (arith, le, here)) (ready_in place b.end ys) (ready_above place b.end ys parts.1.1))
        (All-weaker (λ p. place + sealed_end from (xs ++ b ∷ ys) ≤ p) (λ p. begins ≤ p) (λ p le. omega (arith, le, here, up, ends)) behind high)

-- how many of them have an open reservation
pub held_around : (xs : List Sealed) (b : Sealed) (ys : List Sealed) → held_in (xs ++ b ∷ ys) ≡ held_in (xs ++ ys) + held_in (b ∷ [])
held_around xs b ys =
    let all = held_on xs (b ∷ ys) in
    let first = held_first b ys in
    let rest = held_on xs ys in
    omega (arith, all, first, rest)

-- Those at the front that are written are none of them.
pub ready_run : (place from : ℕ) (bs : List Sealed) → ready_in place (run_end from bs) (behind_run bs) ≡ ready_in place from bs
ready_run place from [] = refl
ready_run place from (b ∷ bs) = by b.is_written refl (ready_run place b.end bs) where
  by : (o : Bool) → b.is_written ≡ o → ready_in place (run_end b.end bs) (behind_run bs) ≡ ready_in place b.end bs
      → ready_in place (if o then run_end b.end bs else from) (if o then behind_run bs else b ∷ bs) ≡ ready_in place from (b ∷ bs)
  by true is rest = rest ∙ sym (ap (λ (w : Bool). if (if w then false else b.open_count == 0) then (place + from) ∷ ready_in place b.end bs else ready_in place b.end bs) is)
  by false is rest = refl

pub held_run : (bs : List Sealed) → held_in (behind_run bs) ≡ held_in bs
held_run [] = refl
held_run (b ∷ bs) = by b.is_written refl (held_run bs) where
  by : (o : Bool) → b.is_written ≡ o → held_in (behind_run bs) ≡ held_in bs → held_in (if o then behind_run bs else b ∷ bs) ≡ held_in (b ∷ bs)
  by true is rest = rest ∙ sym (ap (λ (w : Bool). if w then held_in bs else (if b.open_count == 0 then held_in bs else suc (held_in bs))) is)
  by false is rest = refl
