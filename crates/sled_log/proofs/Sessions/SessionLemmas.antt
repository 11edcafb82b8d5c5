-- What stands in a session is what stands in the phase that it is at; and runs go on, one command behind another.
use Rattle.std.proofs.Common.{◌≡◌, ℕ, List, [], ◌∷◌, ◌++◌, map, Option, None, Some, refl, sym, ap, subst}
use Rattle.std.specs.Prelude.{IsSome}
use Rattle.sled_codec.specs.PageTables.{IsTable}
use Rattle.sled_codec.specs.Snapshots.{page_of}
use Rattle.sled_store.specs.declared.config.RunningConfig.{RunningConfig}
use Rattle.sled_log.specs.declared.session.Session.{Session}
use Rattle.sled_log.specs.declared.session.Phase.{Phase}
use Rattle.sled_log.specs.declared.session.Phase.TheVariants.{Closed, Open}
use Rattle.sled_log.specs.declared.session.opened.Opened.{Opened}
use Rattle.sled_log.specs.declared.session.command.Command.{Command}
use Rattle.sled_log.specs.declared.session.command.Reply.{Reply}
use Rattle.sled_log.specs.RunStates.{DeviceView, RunState, top}
use Rattle.sled_log.specs.Runs.{Carries, CarriesOn, Runs}
use Rattle.sled_log.specs.RunPhases.{AnswersIn, CarriesOnIn, StandsAt, StandsAtPhase, StandsIn, device_in, segment_size_in, size_in}

-- Where a session stands.
module _ {D C : Type 0} (view : D → DeviceView) (sum : List ℕ → ℕ) (session : Session D C) (a : RunState) where
  pub stands_in : (phase : Phase D C) → session.phase ≡ Some phase → StandsAt view sum session a → StandsIn view sum phase a
  unfolding StandsAt
  stands_in phase is at = subst (λ (p : Option (Phase D C)). StandsAtPhase view sum p a) is at

  pub stands_at : (phase : Phase D C) → session.phase ≡ Some phase → StandsIn view sum phase a → StandsAt view sum session a
  unfolding StandsAt
  stands_at phase is at = subst (λ (p : Option (Phase D C)). StandsAtPhase view sum p a) (sym is) at

  -- No log is open in it.
  pub stands_closed : (config : RunningConfig D C) → session.phase ≡ Some (Closed config) → StandsAt view sum session a → a.log ≡ None
  stands_closed config is at = let here = stands_in (Closed config) is at in ap (λ (x : RunState). x.log) here.1

  -- One is, and the table of its pages is kept.
  pub stands_open : (opened : Opened D C) → session.phase ≡ Some (Open opened) → StandsAt view sum session a → IsSome a.log × IsTable (map page_of opened.pages.items) a.history top
  stands_open opened is at =
      let here = stands_in (Open opened) is at in
      (subst (λ (x : RunState). IsSome x.log) (sym here.1) refl, subst (λ (x : RunState). IsTable (map page_of opened.pages.items) x.history top) (sym here.1) here.2.table)

  -- Its device is that of the phase.
  pub device_at : (phase : Phase D C) → session.phase ≡ Some phase → StandsAt view sum session a → a.device ≡ device_in view phase
  device_at phase is at = let here = stands_in phase is at in ap (λ (x : RunState). x.device) here.1

-- Another claim of where a command leads.
pub carries_over : {Leads Next : RunState → Type 0} (sum : List ℕ → ℕ) (size : ℕ) (a : RunState) (c : Command) (r : Reply) → ((b : RunState) → Leads b → Next b) → Carries sum size a c r Leads → Carries sum size a c r Next
carries_over sum size a c r over carries = record {
  refused = carries.refused;
  new = carries.new;
  came = carries.came;
  is_told = carries.is_told;
  stops = carries.stops;
  later = carries.later;
  after = carries.after;
  step = carries.step;
  crash = carries.crash;
  own = carries.own;
  leads = λ own. over carries.after (carries.leads own);
}

-- A session that carries out a command in its phase carries it out.
pub carried_at : {D C : Type 0} (view : D → DeviceView) (sum : List ℕ → ℕ) (old new : Session D C) (phase : Phase D C) (c : Command) (result : Phase D C × Reply) → old.phase ≡ Some phase → new.phase ≡ Some result.0
    → AnswersIn view sum phase c result → (a : RunState) → StandsAt view sum old a → Carries sum (segment_size_in old) a c result.1 (StandsAt view sum new)
carried_at view sum old new phase c result was is answers a at =
    carries_over sum (segment_size_in old) a c result.1 (λ b. stands_at view sum new b result.0 is)
    (subst (λ n. Carries sum n a c result.1 (StandsIn view sum result.0)) (sym (ap size_in was)) (answers a (stands_in view sum old a phase was at)))

-- The same on a device that is never stopped.
pub carries_on_over : {Leads Next : RunState → Type 0} (sum : List ℕ → ℕ) (size : ℕ) (a : RunState) (c : Command) (r : Reply) → ((b : RunState) → Leads b → Next b) → CarriesOn sum size a c r Leads → CarriesOn sum size a c r Next
carries_on_over sum size a c r over carries = record {
  refused = carries.refused;
  new = carries.new;
  later = carries.later;
  after = carries.after;
  step = carries.step;
  crash = carries.crash;
  own = carries.own;
  leads = λ own. over carries.after (carries.leads own);
}

pub carried_on_at : {D C : Type 0} (view : D → DeviceView) (sum : List ℕ → ℕ) (old new : Session D C) (phase : Phase D C) (c : Command) (result : Phase D C × Reply) → old.phase ≡ Some phase → new.phase ≡ Some result.0
    → CarriesOnIn view sum phase c result → (a : RunState) → StandsAt view sum old a → CarriesOn sum (segment_size_in old) a c result.1 (StandsAt view sum new)
carried_on_at view sum old new phase c result was is answers a at =
    carries_on_over sum (segment_size_in old) a c result.1 (λ b. stands_at view sum new b result.0 is)
    (subst (λ n. CarriesOn sum n a c result.1 (StandsIn view sum result.0)) (sym (ap size_in was)) (answers a (stands_in view sum old a phase was at)))

-- Runs.

module _ (sum : List ℕ → ℕ) (size : ℕ) (Between Leads : RunState → Type 0) where
  -- Nothing was carried out yet.
  pub runs_none : (a : RunState) → Leads a → Runs sum size Between a [] [] Leads
  unfolding Runs
  runs_none a at = at

  -- One command more is carried out.
  pub runs_more : (Next : RunState → Type 0) (c : Command) (r : Reply) → ((b : RunState) → Next b → Between b) → ((b : RunState) → Leads b → Carries sum size b c r Next)
      → (a : RunState) (cs : List Command) (rs : List Reply) → Runs sum size Between a cs rs Leads → Runs sum size Between a (cs ++ c ∷ []) (rs ++ r ∷ []) Next
  unfolding Runs
  runs_more Next c r stands more a [] [] so_far = carries_over sum size a c r (λ b at. (stands b at, at)) (more a so_far)
  runs_more Next c r stands more a (d ∷ ds) (q ∷ qs) so_far = carries_over sum size a d q (λ b s. (s.0, runs_more Next c r stands more b ds qs s.1)) so_far
  runs_more Next c r stands more a [] (q ∷ qs) so_far = absurd so_far
  runs_more Next c r stands more a (d ∷ ds) [] so_far = absurd so_far
