-- Where all reservations of a list have ended, so have those of each part of it.
use Rattle.std.proofs.Common.{◌≡◌, ◌∙◌, ℕ, zero, suc, Bool, true, false, if◌then◌else◌, List, [], ◌∷◌, take, drop, Some, refl, ap}
use Rattle.std.specs.List.{slice_get}
use Rattle.sled_core.specs.declared.iobuf.ReservationState.TheVariants.{Open}
use Rattle.sled_core.specs.declared.iobuf.Reserved.{Reserved}
use Rattle.sled_core.specs.Buffers.{none_open, open_state}
use Rattle.sled_core.proofs.Reached.OpenTickets.{by_first}

-- where all have ended none is open
pub not_open : (rs : List Reserved) (i : ℕ) (r : Reserved) → none_open rs ≡ true → slice_get rs i ≡ Some r → r.state ≡ Open → ⊥
not_open [] i r ended there is = cc
not_open (x ∷ rs) zero r ended there is = let same : x ≡ r = cc in (by_first x.state rs ended).0 (ap (λ (y : Reserved). y.state) same ∙ is)
not_open (x ∷ rs) (suc i) r ended there is = not_open rs i r (by_first x.state rs ended).1 there is

-- and so have the last ones
pub ended_behind : (n : ℕ) (rs : List Reserved) → none_open rs ≡ true → none_open (drop n rs) ≡ true
ended_behind zero rs ended = ended
ended_behind (suc n) [] ended = refl
ended_behind (suc n) (r ∷ rs) ended = ended_behind n rs (by_first r.state rs ended).1

-- and so have the first ones
pub ended_front : (n : ℕ) (rs : List Reserved) → none_open rs ≡ true → none_open (take n rs) ≡ true
ended_front zero rs ended = refl
ended_front (suc n) [] ended = refl
ended_front (suc n) (r ∷ rs) ended = by_state (open_state r.state) ended (λ rest. ended_front n rs rest) where
  by_state : (o : Bool) → (if o then false else none_open rs) ≡ true → (none_open rs ≡ true → none_open (take n rs) ≡ true) → (if o then false else none_open (take n rs)) ≡ true
  by_state true ended rest = cc
  by_state false ended rest = rest ended
