-- Reservations have all ended where the first one and the others have.
use Rattle.std.proofs.Common.{◌≡◌, refl, true, false, if◌then◌else◌, List}
use Rattle.sled_core.specs.declared.iobuf.ReservationState.{ReservationState}
use Rattle.sled_core.specs.declared.iobuf.ReservationState.TheVariants.{Open, Completed, Canceled, Manifest, Padding}
use Rattle.sled_core.specs.declared.iobuf.Reserved.{Reserved}
use Rattle.sled_core.specs.Buffers.{none_open, open_state}

-- the first one has ended, and so have the others
pub by_first : (s : ReservationState) (rest : List Reserved) → (if open_state s then false else none_open rest) ≡ true → (s ≡ Open → ⊥) × (none_open rest ≡ true)
by_first Open rest is = cc
by_first Completed rest is = ((λ same. cc), is)
by_first Canceled rest is = ((λ same. cc), is)
by_first Manifest rest is = ((λ same. cc), is)
by_first Padding rest is = ((λ same. cc), is)

pub both_ended : (s : ReservationState) (rest : List Reserved) → (s ≡ Open → ⊥) → none_open rest ≡ true → (if open_state s then false else none_open rest) ≡ true
both_ended Open rest not_open ended = absurd (not_open refl)
both_ended Completed rest not_open ended = ended
both_ended Canceled rest not_open ended = ended
both_ended Manifest rest not_open ended = ended
both_ended Padding rest not_open ended = ended
