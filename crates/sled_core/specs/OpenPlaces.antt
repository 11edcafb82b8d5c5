-- Which reservations of a log are open or abandoned, as a list of their places.
use Rattle.std.specs.Prelude.{◌≡◌, ◌+◌, ◌&&◌, nat_lt, nat_le, ℕ, pos, if◌then◌else◌, List, [], ◌∷◌, ◌++◌, Option, None, Some, Result, OnOk}
use Rattle.sled_codec.specs.declared.result.Error.{Error}
use Rattle.sled_core.specs.declared.iobuf.Reserved.{Reserved}
use Rattle.sled_core.specs.declared.reservation.Reservation.{Reservation}
use Rattle.sled_core.specs.Begun.{SegmentView}
use Rattle.sled_core.specs.Buffers.{open_state}
use Rattle.sled_core.specs.Tickets.{place_of}

-- the places of those of a segment that begins there
abbrev pub open_places_in : ℕ → List Reserved → List ℕ
open_places_in base [] = []
open_places_in base (r ∷ rs) = if open_state r.state then (base + r.from) ∷ open_places_in base rs else open_places_in base rs

-- and of those of segments one behind another
abbrev pub open_places_along : List SegmentView → List ℕ
open_places_along [] = []
open_places_along (v ∷ vs) = open_places_in v.parts.site.place v.parts.reserved ++ open_places_along vs

-- the first of these places that lies from one place up to another
abbrev pub first_between : ℕ → ℕ → List ℕ → Option ℕ
first_between low high [] = None
first_between low high (p ∷ ps) = if nat_le low p && nat_lt p high then Some p else first_between low high ps

-- those from a place on
abbrev pub places_from : ℕ → List ℕ → List ℕ
places_from low [] = []
places_from low (p ∷ ps) = if nat_le low p then p ∷ places_from low ps else places_from low ps

-- A place is taken out of a list.
pub record TakesOut (place : ℕ) (old new : List ℕ) : Type 0 where
  pub before : List ℕ
  pub after : List ℕ
  pub was : old ≡ before ++ place ∷ after
  pub is : new ≡ before ++ after

-- At Ok the place of this ticket is taken out of a list.
abbrev pub TakesOutPlaceOf : {T : Type 0} → Result T Error → Reservation → List ℕ → List ℕ → Type 0
TakesOutPlaceOf result ticket old new = (place : ℕ) → pos place ≡ place_of ticket → OnOk result (TakesOut place old new)
