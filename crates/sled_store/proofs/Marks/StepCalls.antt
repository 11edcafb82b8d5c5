-- The calls of a step of the accountant: blobs are removed, and slots at the end of the log file are cut off, each cut with its sync. What each of these
-- keeps holds along all of them.
use Rattle.std.proofs.Common.{◌*◌, ◌≤◌, ℕ, ℤ, Bool, true, List, [], ◌∷◌, ◌++◌, sym, subst, arith}
use Rattle.std.specs.List.{Contains}
use Rattle.sled_store.specs.Blobs.{removing_blobs}
use Rattle.sled_store.specs.Device.{Event, State, BlobRemoved, Cut, Synced, step}
use Rattle.sled_store.specs.inside.Script.{Along}
use Rattle.sled_store.proofs.Segments.Elements.{in_first, in_rest}
use Rattle.sled_store.proofs.Traces.ScriptLemmas.{EndsIn}

-- Each of these calls removes a blob that may go, or cuts the file off at a slot where it may be, which is synced at once.
pub data AreStepCalls (size : ℕ) (MayGo : ℤ → Type 0) (MayCut : ℕ → Type 0) : List Event → Type 0 where
  no_call : AreStepCalls size MayGo MayCut []
  removes : (blob : ℤ) (es : List Event) → MayGo blob → AreStepCalls size MayGo MayCut es → AreStepCalls size MayGo MayCut (BlobRemoved blob true ∷ es)
  cuts : (k : ℕ) (es : List Event) → MayCut k → AreStepCalls size MayGo MayCut es
      → AreStepCalls size MayGo MayCut (Cut (k * size) (k * size) ∷ Synced ∷ es)

module _ (size : ℕ) (MayGo : ℤ → Type 0) (MayCut : ℕ → Type 0) where
  -- such calls, and such calls behind them
  pub step_calls_then : (es fs : List Event) → AreStepCalls size MayGo MayCut es → AreStepCalls size MayGo MayCut fs
      → AreStepCalls size MayGo MayCut (es ++ fs)
  step_calls_then es fs no_call more = more
  step_calls_then es fs (removes blob rest may are) more = removes blob (rest ++ fs) may (step_calls_then rest fs are more)
  step_calls_then es fs (cuts k rest may are) more = cuts k (rest ++ fs) may (step_calls_then rest fs are more)

  -- blobs that may go are removed
  pub removing_calls : (blobs : List ℤ) → ((blob : ℤ) → Contains blobs blob → MayGo blob) → AreStepCalls size MayGo MayCut (removing_blobs blobs)
  removing_calls [] may = no_call
  removing_calls (b ∷ bs) may = removes b (removing_blobs bs) (may b (in_first b bs)) (removing_calls bs (λ blob there. may blob (in_rest b blob bs there)))

  -- more may go, and more may be cut off
  pub step_calls_more : (Goes : ℤ → Type 0) (Cuts : ℕ → Type 0) → ((blob : ℤ) → MayGo blob → Goes blob) → ((k : ℕ) → MayCut k → Cuts k) → (es : List Event)
      → AreStepCalls size MayGo MayCut es → AreStepCalls size Goes Cuts es
  step_calls_more Goes Cuts goes cut es no_call = no_call
  step_calls_more Goes Cuts goes cut es (removes blob rest may are) = removes blob rest (goes blob may) (step_calls_more Goes Cuts goes cut rest are)
  step_calls_more Goes Cuts goes cut es (cuts k rest may are) = cuts k rest (cut k may) (step_calls_more Goes Cuts goes cut rest are)

  -- What each removal of such a blob keeps, done or not, and each cut with its sync, while another thing holds during the cut.
  module _ (P R : State → Type 0) (within : (s : State) → P s → R s)
      (removed : (blob : ℤ) → MayGo blob → (s : State) (done : Bool) → P s → P (step (BlobRemoved blob done) s))
      (during : (k : ℕ) → MayCut k → (s : State) (to : ℕ) → k * size ≤ to → P s → R (step (Cut (k * size) to) s))
      (cut : (k : ℕ) → MayCut k → (s : State) → P s → P (step Synced (step (Cut (k * size) (k * size)) s))) where
    -- The other thing holds at each moment of the calls,
    pub along_step_calls : (es : List Event) → AreStepCalls size MayGo MayCut es → (s : State) → P s → Along R es s
    along_step_calls es no_call s here = within s here
    along_step_calls es (removes blob rest may are) s here = (
      within s here,
      λ torn tears. subst (λ (e : Event). R (step e s)) (sym tears.1) (within (step (BlobRemoved blob tears.0) s) (removed blob may s tears.0 here)),
      along_step_calls rest are (step (BlobRemoved blob true) s) (removed blob may s true here),
    )
    along_step_calls es (cuts k rest may are) s here = (
      within s here,
      λ torn tears. subst (λ (e : Event). R (step e s)) (sym tears.2) (during k may s tears.0 tears.1 here),
      (
        during k may s (k * size) (omega arith) here,
        λ torn tears. absurd tears,
        along_step_calls rest are (step Synced (step (Cut (k * size) (k * size)) s)) (cut k may s here),
      ),
    )

    -- and what they keep holds behind them.
    pub ends_step_calls : (es : List Event) → AreStepCalls size MayGo MayCut es → (s : State) → P s → EndsIn P es s
    ends_step_calls es no_call s here = here
    ends_step_calls es (removes blob rest may are) s here = ends_step_calls rest are (step (BlobRemoved blob true) s) (removed blob may s true here)
    ends_step_calls es (cuts k rest may are) s here = ends_step_calls rest are (step Synced (step (Cut (k * size) (k * size)) s)) (cut k may s here)
