-- A function that made a list of calls, up to the first that failed, kept at every moment what holds in each state on the way.
use Rattle.std.proofs.Common.{◌≡◌, ◌⊎◌, List, [], ◌∷◌, ◌++◌, refl, subst, inl, inr}
use Rattle.sled_store.specs.Device.{Event, Trace, State, state_of, step}
use Rattle.sled_store.specs.Moments.{IsLater, Throughout}
use Rattle.sled_store.specs.Answers.{Tears}
use Rattle.sled_store.specs.Script.{Stops, Performs, after_all}
use Rattle.sled_store.specs.inside.Script.{Along}
use Rattle.sled_store.proofs.Traces.MomentLemmas.{started, added, stays, joined}

-- At an exit: no more calls were made.
pub performs_none : (old : Trace) → Performs [] old old
unfolding Performs
performs_none old = refl

-- this call succeeded, and the rest went on from there
pub performs_all : (e : Event) (es : List Event) (old mid new : Trace) → mid ≡ e ∷ old → Performs es mid new → Performs (e ∷ es) old new
unfolding Performs
performs_all e es old mid new came rest = inr (subst (λ (h : Trace). Performs es h new) came rest)

-- this call failed, and none was made behind it
pub stop_call : {fault : Type 0} (e : Event) (es : List Event) (old new : Trace) → (new ≡ old) ⊎ (fault × ((torn : Event) × Tears e torn × (new ≡ torn ∷ old))) → Performs (e ∷ es) old new
unfolding Performs Stops
stop_call e es old new (inl same) = inl (inl same)
stop_call e es old new (inr left) = inl (inr left.1)

module _ (P : State → Type 0) where
  stops_throughout : (e : Event) (old new : Trace) → Stops e old new → P (state_of old) → ((torn : Event) → Tears e torn → P (step torn (state_of old))) → Throughout P old new
  unfolding Stops
  stops_throughout e old new (inl same) here torn = stays P old old new (started P old here) same
  stops_throughout e old new (inr left) here torn = added P left.0 old new left.2 here (torn left.0 left.1)

  pub along_first : (es : List Event) (s : State) → Along P es s → P s
  along_first [] s along = along
  along_first (e ∷ es) s along = along.0

  -- it held at every moment
  pub performs_throughout : (es : List Event) (old new : Trace) → Performs es old new → Along P es (state_of old) → Throughout P old new
  unfolding Performs
  performs_throughout [] old new came along = stays P old old new (started P old along) came
  performs_throughout (e ∷ es) old new (inl stopped) along = stops_throughout e old new stopped along.0 along.1
  performs_throughout (e ∷ es) old new (inr came) along =
      joined P old (e ∷ old) new (added P e old (e ∷ old) refl along.0 (along_first es (step e (state_of old)) along.2)) (performs_throughout es (e ∷ old) new came along.2)

-- A function that made some of the calls made the first ones of a longer list.
pub performs_more : (es fs : List Event) (old new : Trace) → Performs es old new → Performs (es ++ fs) old new
unfolding Performs Stops
performs_more [] [] old new came = came
performs_more [] (f ∷ fs) old new came = inl (inl came)
performs_more (e ∷ es) fs old new (inl stopped) = inl stopped
performs_more (e ∷ es) fs old new (inr came) = inr (performs_more es fs (e ∷ old) new came)

-- With the trace after a list of calls.

-- one list of calls was made, and then another
pub after_joined : (es fs : List Event) (old : Trace) → after_all (es ++ fs) old ≡ after_all fs (after_all es old)
after_joined [] fs old = refl
after_joined (e ∷ es) fs old = after_joined es fs (e ∷ old)

-- no call was made
pub performs_nothing : (es : List Event) (old new : Trace) → new ≡ old → Performs es old new
unfolding Performs Stops
performs_nothing [] old new same = same
performs_nothing (e ∷ es) old new same = inl (inl same)

-- all calls were made
pub performs_whole : (es : List Event) (old new : Trace) → new ≡ after_all es old → Performs es old new
unfolding Performs
performs_whole [] old new same = same
performs_whole (e ∷ es) old new same = inr (performs_whole es (e ∷ old) new same)

-- behind a list of calls another one was begun
pub performs_behind : (es fs : List Event) (old mid new : Trace) → mid ≡ after_all es old → Performs fs mid new → Performs (es ++ fs) old new
unfolding Performs
performs_behind [] fs old mid new came rest = subst (λ (h : Trace). Performs fs h new) came rest
performs_behind (e ∷ es) fs old mid new came rest = inr (performs_behind es fs (e ∷ old) mid new came rest)

-- what holds along some calls holds behind them
pub along_last : (P : State → Type 0) (es : List Event) (t : Trace) → Along P es (state_of t) → P (state_of (after_all es t))
along_last P [] t along = along
along_last P (e ∷ es) t along = along_last P es (e ∷ t) along.2

-- it holds in the state after these calls
abbrev pub EndsIn : (State → Type 0) → List Event → State → Type 0
EndsIn P [] s = P s
EndsIn P (e ∷ es) s = EndsIn P es (step e s)

pub ends_in : (P : State → Type 0) (es : List Event) (old : Trace) → EndsIn P es (state_of old) → P (state_of (after_all es old))
ends_in P [] old ends = ends
ends_in P (e ∷ es) old ends = ends_in P es (e ∷ old) ends

-- What the calls made is later than what they began with.
pub later_performed : (es : List Event) (old new : Trace) → Performs es old new → IsLater old new
later_performed es old new came = let run = performs_throughout (λ s. Unit {0}) es old new came (all_along es (state_of old)) in (run.events, run.follows) where
  all_along : (fs : List Event) (s : State) → Along (λ x. Unit {0}) fs s
  all_along [] s = tt
  all_along (f ∷ fs) s = (tt, λ torn tears. tt, all_along fs (step f s))
