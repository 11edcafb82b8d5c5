-- Lists of calls, one after another, up to the first that fails.
use Rattle.std.specs.Prelude.{◌≡◌, ◌⊎◌, List, [], ◌∷◌}
use Rattle.sled_store.specs.Device.{Event, Trace}
use Rattle.sled_store.specs.Answers.{Tears}

-- a call that failed added nothing, or what a failure leaves of it
unfoldable pub Stops : Event → Trace → Trace → Type 0
Stops event old new = (new ≡ old) ⊎ ((torn : Event) × Tears event torn × (new ≡ torn ∷ old))

-- these calls were made in order, all of them or up to one that failed
unfoldable pub Performs : List Event → Trace → Trace → Type 0
Performs [] old new = new ≡ old
Performs (e ∷ es) old new = Stops e old new ⊎ Performs es (e ∷ old) new

-- the trace after all of these calls, made in order
abbrev pub after_all : List Event → Trace → Trace
after_all [] old = old
after_all (e ∷ es) old = after_all es (e ∷ old)
