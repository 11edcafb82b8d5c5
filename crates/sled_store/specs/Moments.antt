-- What holds at every moment of a run of calls, also within a call: what a call may leave half done is among what may be left before it or after it.
use Rattle.std.specs.Prelude.{◌≡◌, List, [], ◌∷◌, ◌++◌}
use Rattle.sled_store.specs.Device.{Event, Trace, Content, State, state_of, Leaves}

-- one trace goes on from another
abbrev pub IsLater : Trace → Trace → Type 0
IsLater old new = (events : List Event) × (new ≡ events ++ old)

-- it holds before these events, and again after each
abbrev pub AtEach : (State → Type 0) → List Event → Trace → Type 0
AtEach P [] old = P (state_of old)
AtEach P (e ∷ es) old = P (state_of (e ∷ (es ++ old))) × AtEach P es old

-- it holds at each moment from the old trace to the new one
pub record Throughout (P : State → Type 0) (old new : Trace) : Type 0 where
  pub events : List Event
  pub follows : new ≡ events ++ old
  pub each : AtEach P events old

-- a crash in this state leaves a content of which P holds
abbrev pub AllLeft : (State → Content → Type 0) → State → Type 0
AllLeft P s = (left : Content) → Leaves s left → P s left

-- A crash at any moment from the old trace to the new one leaves a content of which P holds, in the state at that moment.
abbrev pub LeavesOnly : (State → Content → Type 0) → Trace → Trace → Type 0
LeavesOnly P old new = Throughout (AllLeft P) old new
