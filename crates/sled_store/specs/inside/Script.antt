-- What proofs, and functions that no user calls, need beside `specs/Script.antt`. No public contract names it.
use Rattle.std.specs.Prelude.{List, [], ◌∷◌}
use Rattle.sled_store.specs.Device.{Event, State, step}
use Rattle.sled_store.specs.Answers.{Tears}

-- P holds in each state on the way
abbrev pub Along : (State → Type 0) → List Event → State → Type 0
Along P [] s = P s
Along P (e ∷ es) s = P s × ((torn : Event) → Tears e torn → P (step torn s)) × Along P es (step e s)
