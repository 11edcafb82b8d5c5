-- What holds at every moment of one run of calls, and of the run that follows it, holds at every moment of both.
use Rattle.std.proofs.Common.{◌≡◌, List, [], ◌∷◌, ◌++◌, refl, sym, ◌∙◌, ap, subst, append_assoc}
use Rattle.sled_store.specs.Device.{Event, Trace, State, state_of, step}
use Rattle.sled_store.specs.Moments.{AtEach, Throughout}

module _ (P : State → Type 0) where
  -- before the first call
  pub started : (old : Trace) → P (state_of old) → Throughout P old old
  started old here = record { events = []; follows = refl; each = here }

  -- one event
  pub added : (e : Event) (old new : Trace) → new ≡ e ∷ old → P (state_of old) → P (step e (state_of old)) → Throughout P old new
  added e old new is here after = record { events = e ∷ []; follows = is; each = (after, here) }

  -- a call that changed nothing
  pub stays : (old mid new : Trace) → Throughout P old mid → new ≡ mid → Throughout P old new
  stays old mid new so_far is = record { events = so_far.events; follows = is ∙ so_far.follows; each = so_far.each }

  joined_each : (fs es : List Event) (old : Trace) → AtEach P fs (es ++ old) → AtEach P es old → AtEach P (fs ++ es) old
  joined_each [] es old later earlier = earlier
  joined_each (f ∷ fs) es old later earlier = (subst (λ (h : Trace). P (state_of (f ∷ h))) (sym (append_assoc fs es old)) later.0, joined_each fs es old later.1 earlier)

  -- one run after another
  pub joined : (old mid new : Trace) → Throughout P old mid → Throughout P mid new → Throughout P old new
  joined old mid new earlier later = record {
    events = later.events ++ earlier.events;
    follows = later.follows ∙ ap (λ (h : Trace). later.events ++ h) earlier.follows ∙ sym (append_assoc later.events earlier.events old);
    each = joined_each later.events earlier.events old (subst (λ (h : Trace). AtEach P later.events h) earlier.follows later.each) earlier.each;
  }

  first_each : (es : List Event) (old : Trace) → AtEach P es old → P (state_of old)
  first_each [] old each = each
  first_each (e ∷ es) old each = first_each es old each.1

  -- it held at first
  pub at_first : (old new : Trace) → Throughout P old new → P (state_of old)
  at_first old new run = first_each run.events old run.each

  last_each : (es : List Event) (old : Trace) → AtEach P es old → P (state_of (es ++ old))
  last_each [] old each = each
  last_each (e ∷ es) old each = each.0

  -- it holds in the end
  pub at_last : (old new : Trace) → Throughout P old new → P (state_of new)
  at_last old new run = subst (λ (h : Trace). P (state_of h)) (sym run.follows) (last_each run.events old run.each)

module _ (P Q : State → Type 0) (implies : (s : State) → P s → Q s) where
  weaker_each : (es : List Event) (old : Trace) → AtEach P es old → AtEach Q es old
  weaker_each [] old each = implies (state_of old) each
  weaker_each (e ∷ es) old each = (implies (state_of (e ∷ (es ++ old))) each.0, weaker_each es old each.1)

  -- what it implies holds throughout too
  pub weaker : (old new : Trace) → Throughout P old new → Throughout Q old new
  weaker old new run = record { events = run.events; follows = run.follows; each = weaker_each run.events old run.each }
