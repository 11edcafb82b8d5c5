-- A stop that is asked for leaves what the calls made of a device.
use Rattle.std.proofs.Common.{◌≡◌, ℕ, Bool, true, false, if◌then◌else◌, [], ◌∷◌, ap}
use Rattle.sled_store.specs.Device.{Trace, State, StopAsked, state_of}
use Rattle.sled_store.specs.Moments.{IsLater, Throughout}

-- what was asked so far, and a stop behind it, where the device isn't stopped
abbrev pub asked_behind : Bool → ℕ → Trace → Trace
asked_behind stopped n h = if stopped then h else StopAsked n ∷ h

module _ (stopped : Bool) (n : ℕ) (old new : Trace) (is : new ≡ asked_behind stopped n old) where
  pub asked_state : state_of new ≡ state_of old
  asked_state = by stopped is
    where
      by : (b : Bool) → new ≡ asked_behind b n old → state_of new ≡ state_of old
      by true same = ap state_of same
      by false asked = ap state_of asked

  pub asked_later : IsLater old new
  asked_later = by stopped is
    where
      by : (b : Bool) → new ≡ asked_behind b n old → IsLater old new
      by true same = ([], same)
      by false asked = (StopAsked n ∷ [], asked)

  -- So what holds before it holds throughout.
  pub asked_throughout : (P : State → Type 0) → P (state_of old) → Throughout P old new
  asked_throughout P before = by stopped is
    where
      by : (b : Bool) → new ≡ asked_behind b n old → Throughout P old new
      by true same = record { events = []; follows = same; each = before }
      by false asked = record { events = StopAsked n ∷ []; follows = asked; each = (before, before) }
