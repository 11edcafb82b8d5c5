-- What stands behind where a run of a generator stands: a device, or a generator that is open.
use Rattle.std.specs.Prelude.{◌≡◌, ◌⊎◌, ◌≤◌, ℕ, List, Option, None, Some}
use Rattle.sled_store.specs.Device.{state_of}
use Rattle.sled_store.specs.declared.config.RunningConfig.{RunningConfig}
use Rattle.sled_core.specs.Fits.{position_of}
use Rattle.sled_core.specs.Keeps.{ConfigKept}
use Rattle.sled_log.specs.RunPhases.{traces}
use Rattle.sled_log.specs.RunStates.{DeviceView}
use Rattle.ids.specs.declared.generator.IdGenerator.{IdGenerator}
use Rattle.ids.specs.declared.run.Command.{Command}
use Rattle.ids.specs.declared.run.Reply.{Reply}
use Rattle.ids.specs.declared.run.step.Phase.{Phase}
use Rattle.ids.specs.declared.run.step.Phase.TheVariants.{Closed, Open}
use Rattle.ids.specs.Bounds.{GivesFrom}
use Rattle.ids.specs.Generators.{Generates, IsUsedUp, asked_of, block_of, bound_of, kept_fault, log_of, next_of, running, size_of}
use Rattle.ids.specs.IdDevices.{Leaves}
use Rattle.ids.specs.IdRuns.{Carries, GeneratorView, IdState}

-- what is seen of a generator
abbrev pub seen : {D C : Type 0} → IdGenerator D C → GeneratorView
seen g = record { next = next_of g; bound = bound_of g; asked = asked_of g; block = block_of g; fault = kept_fault g; position = position_of (log_of g) }

-- No generator is open over a device, and no identifier below the next one is given again.
pub record IsClosedAt {D C : Type 0} (view : D → DeviceView) (sum : List ℕ → ℕ) (config : RunningConfig D C) (a : IdState) : Type 0 where
  pub device : a.device ≡ view config.device
  pub shut : a.generator ≡ None
  pub gives : GivesFrom sum config.config.segment_size a.next a.most (state_of (traces view config.device))

-- A generator is open that gives the next one.
pub record IsOpenAt {D C : Type 0} (view : D → DeviceView) (sum : List ℕ → ℕ) (g : IdGenerator D C) (a : IdState) : Type 0 where
  pub device : a.device ≡ view (running g).device
  pub seen : a.generator ≡ Some (seen g)
  pub generates : Generates (traces view) sum g
  pub next : a.next ≤ next_of g
  pub most : asked_of g ≤ a.most

-- Some generator, or a device over which none is open, stands there. So it is behind each command of a run, and not behind the last one alone: no body
-- can put something on the device in the middle of a list that no generator would, and owe nothing for what comes of it.
abbrev pub SomeStands : (D C : Type 0) → (D → DeviceView) → (List ℕ → ℕ) → ℕ → IdState → Type 0
SomeStands D C view sum size a =
    ((config : RunningConfig D C) × (config.config.segment_size ≡ size) × IsClosedAt view sum config a)
    ⊎ ((g : IdGenerator D C) × (size_of g ≡ size) × IsOpenAt view sum g a)

-- One stands there that is used up.
abbrev pub SomeUsedUp : (D C : Type 0) → (D → DeviceView) → (List ℕ → ℕ) → ℕ → IdState → Type 0
SomeUsedUp D C view sum size a = (g : IdGenerator D C) × (size_of g ≡ size) × IsOpenAt view sum g a × IsUsedUp g

-- What a run's code has.

-- what a phase runs on
abbrev pub running_in : {D C : Type 0} → Phase D C → RunningConfig D C
running_in (Closed config) = config
running_in (Open g) = running g

abbrev pub size_in : {D C : Type 0} → Phase D C → ℕ
size_in phase = (running_in phase).config.segment_size

-- a phase is at a state
abbrev pub StandsAt : {D C : Type 0} → (D → DeviceView) → (List ℕ → ℕ) → Phase D C → IdState → Type 0
StandsAt view sum (Closed config) a = IsClosedAt view sum config a
StandsAt view sum (Open g) a = IsOpenAt view sum g a

-- what is seen of its generator, if one is open
abbrev pub seen_in : {D C : Type 0} → Phase D C → Option GeneratorView
seen_in (Closed config) = None
seen_in (Open g) = Some (seen g)

-- its generator and its device are seen so
abbrev pub IsOver : {D C : Type 0} → (D → DeviceView) → Phase D C → Option GeneratorView → DeviceView → Type 0
IsOver view phase g device = (g ≡ seen_in phase) × (device ≡ view (running_in phase).device)

-- A command was carried out in a phase, and led to another one, with the same configuration; and it did this to the device, whatever that has.
pub record CarriesOut {D C : Type 0} (view : D → DeviceView) (sum : List ℕ → ℕ) (phase : Phase D C) (c : Command) (result : Phase D C × Reply) : Type 0 where
  pub step : (a : IdState) → StandsAt view sum phase a
      → Carries sum (size_in phase) (SomeUsedUp D C view sum (size_in phase)) a c result.1 (StandsAt view sum result.0)
  pub device : Leaves sum (size_in phase) (seen_in phase) (view (running_in phase).device) c result.1 (IsOver view result.0)
  pub kept : ConfigKept (running_in phase) (running_in result.0)

-- where a run ends on a device: no identifier below the next one is given again
pub record EndsAt (sum : List ℕ → ℕ) (size : ℕ) (device : DeviceView) (a : IdState) : Type 0 where
  pub at : a.device ≡ device
  pub gives : GivesFrom sum size a.next a.most (state_of device.trace)
