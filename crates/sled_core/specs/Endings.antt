-- What a call leaves that ends a reservation, whose ticket it takes.
use Rattle.std.specs.Prelude.{◌≡◌, ℕ, List, ◌∷◌, Result}
use Rattle.sled_codec.specs.declared.result.Error.{Error}
use Rattle.sled_codec.specs.History.{Message}
use Rattle.sled_store.specs.Device.{Trace}
use Rattle.sled_core.specs.declared.logger.Log.{Log}
use Rattle.sled_core.specs.declared.reservation.Reservation.{Reservation}
use Rattle.sled_core.specs.Fits.{Awaits, KeepsBuffers, fillings_of, given_up_of, heads_of, machine_at, open_places, pooled_of}
use Rattle.sled_core.specs.Among.{AreAmong}
use Rattle.sled_core.specs.Keeps.{KeepsOthers, SamePosition}
use Rattle.sled_core.specs.Logged.{in_log}
use Rattle.sled_core.specs.OpenPlaces.{TakesOutPlaceOf}

-- The other tickets stay what they were for; at Ok its place isn't open any more; the next record begins where it would have begun; and as many buffers wait,
-- each where it did. Of the headers that aren't on the device none is another, nor of what fills a segment. The slots are as they were.
pub record EndsTicket {T D C : Type 0} (trace : D → Trace) (sum : List ℕ → ℕ) (result : Result T Error) (ticket : Reservation)
    (old new : Log D C) : Type 0 where
  pub others : KeepsOthers trace sum ticket old new
  pub opens : TakesOutPlaceOf result ticket (open_places old) (open_places new)
  pub position : SamePosition old new
  pub buffers : KeepsBuffers old new
  pub heads : AreAmong (heads_of new) (heads_of old)
  pub fillings : AreAmong (fillings_of new) (fillings_of old)
  pub machine : machine_at new ≡ machine_at old
  pub pooled : pooled_of new ≡ pooled_of old

-- The message that a ticket awaits is given up: each that counts as given up then is that message, as the log has it, or was given up before.
abbrev pub GivesUp : {D C : Type 0} → Reservation → Log D C → Log D C → Type 0
GivesUp ticket old new = (m : Message) → Awaits old ticket m → AreAmong (given_up_of new) (in_log m ∷ given_up_of old)
