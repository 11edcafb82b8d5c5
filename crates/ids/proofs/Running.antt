-- Runs of a generator go on, one command behind another.
use Rattle.std.proofs.Common.{ℕ, List, [], ◌∷◌, ◌++◌, Option}
use Rattle.ids.specs.declared.run.Command.{Command}
use Rattle.ids.specs.declared.run.Reply.{Reply}
use Rattle.sled_log.specs.RunStates.{DeviceView}
use Rattle.ids.specs.IdDevices.{Devices, Leaves}
use Rattle.ids.specs.IdRuns.{Carries, GeneratorView, IdRuns, IdState}

module _ (sum : List ℕ → ℕ) (size : ℕ) (Between UsedUp : IdState → Type 0) where
  -- A command was carried out, and more is known of where it leads.
  carried_over : (Leads Next : IdState → Type 0) → ((b : IdState) → Leads b → Next b) → (a : IdState) (c : Command) (r : Reply) → Carries sum size UsedUp a c r Leads → Carries sum size UsedUp a c r Next
  carried_over Leads Next over a c r carries = record {
    new = carries.new;
    later = carries.later;
    acts = carries.acts;
    step = λ own. let done = carries.step own in (done.0, done.1, over done.0 done.2);
  }

  -- What is claimed of each place between two commands holds of it, too.
  pub carried_between : (Next : IdState → Type 0) → ((b : IdState) → Next b → Between b) → (a : IdState) (c : Command) (r : Reply) → Carries sum size UsedUp a c r Next → Carries sum size UsedUp a c r (λ b. Between b × Next b)
  carried_between Next stands a c r carries = carried_over Next (λ b. Between b × Next b) (λ b at. (stands b at, at)) a c r carries

  -- Nothing was carried out yet.
  pub runs_none : (a : IdState) (Leads : IdState → Type 0) → Leads a → IdRuns sum size Between UsedUp a [] [] Leads
  unfolding IdRuns
  runs_none a Leads leads = leads

  -- One command more was.
  pub runs_more : (Leads Next : IdState → Type 0) (c : Command) (r : Reply) → ((b : IdState) → Leads b → Carries sum size UsedUp b c r (λ x. Between x × Next x))
      → (a : IdState) (cs : List Command) (rs : List Reply) → IdRuns sum size Between UsedUp a cs rs Leads → IdRuns sum size Between UsedUp a (cs ++ c ∷ []) (rs ++ r ∷ []) Next
  unfolding IdRuns
  runs_more Leads Next c r more a [] [] runs = more a runs
  runs_more Leads Next c r more a (d ∷ ds) (q ∷ qs) runs =
      carried_over (λ b. Between b × IdRuns sum size Between UsedUp b ds qs Leads) (λ b. Between b × IdRuns sum size Between UsedUp b (ds ++ c ∷ []) (qs ++ r ∷ []) Next)
      (λ b both. (both.0, runs_more Leads Next c r more b ds qs both.1)) a d q runs
  runs_more Leads Next c r more a [] (q ∷ qs) runs = absurd runs
  runs_more Leads Next c r more a (d ∷ ds) [] runs = absurd runs

  -- What is claimed of where they lead implies more.
  pub runs_over : (Leads Next : IdState → Type 0) → ((b : IdState) → Leads b → Next b) → (a : IdState) (cs : List Command) (rs : List Reply) → IdRuns sum size Between UsedUp a cs rs Leads → IdRuns sum size Between UsedUp a cs rs Next
  unfolding IdRuns
  runs_over Leads Next over a [] [] runs = over a runs
  runs_over Leads Next over a (d ∷ ds) (q ∷ qs) runs =
      carried_over (λ b. Between b × IdRuns sum size Between UsedUp b ds qs Leads) (λ b. Between b × IdRuns sum size Between UsedUp b ds qs Next)
      (λ b both. (both.0, runs_over Leads Next over b ds qs both.1)) a d q runs
  runs_over Leads Next over a [] (q ∷ qs) runs = absurd runs
  runs_over Leads Next over a (d ∷ ds) [] runs = absurd runs

-- What the commands do to the device goes on, too.
module _ (sum : List ℕ → ℕ) (size : ℕ) where
  -- More is known of where a command leads.
  left_over : (Leads Next : Option GeneratorView → DeviceView → Type 0) → ((now : Option GeneratorView) (new : DeviceView) → Leads now new → Next now new)
      → (g : Option GeneratorView) (old : DeviceView) (c : Command) (r : Reply) → Leaves sum size g old c r Leads → Leaves sum size g old c r Next
  left_over Leads Next over g old c r leaves = record {
    new = leaves.new;
    now = leaves.now;
    later = leaves.later;
    acts = leaves.acts;
    shows = leaves.shows;
    leads = over leaves.now leaves.new leaves.leads;
  }

  -- Nothing was carried out yet.
  pub devices_none : (g : Option GeneratorView) (device : DeviceView) (Leads : Option GeneratorView → DeviceView → Type 0) → Leads g device → Devices sum size g device [] [] Leads
  unfolding Devices
  devices_none g device Leads leads = leads

  -- One command more was.
  pub devices_more : (Leads Next : Option GeneratorView → DeviceView → Type 0) (c : Command) (r : Reply) → ((g : Option GeneratorView) (old : DeviceView) → Leads g old → Leaves sum size g old c r Next)
      → (g : Option GeneratorView) (old : DeviceView) (cs : List Command) (rs : List Reply) → Devices sum size g old cs rs Leads → Devices sum size g old (cs ++ c ∷ []) (rs ++ r ∷ []) Next
  unfolding Devices
  devices_more Leads Next c r more g old [] [] devices = more g old devices
  devices_more Leads Next c r more g old (d ∷ ds) (q ∷ qs) devices =
      left_over (λ now new. Devices sum size now new ds qs Leads) (λ now new. Devices sum size now new (ds ++ c ∷ []) (qs ++ r ∷ []) Next)
      (λ now new so_far. devices_more Leads Next c r more now new ds qs so_far) g old d q devices
  devices_more Leads Next c r more g old [] (q ∷ qs) devices = absurd devices
  devices_more Leads Next c r more g old (d ∷ ds) [] devices = absurd devices

  -- What is claimed of where they lead implies more.
  pub devices_over : (Leads Next : Option GeneratorView → DeviceView → Type 0) → ((now : Option GeneratorView) (new : DeviceView) → Leads now new → Next now new)
      → (g : Option GeneratorView) (old : DeviceView) (cs : List Command) (rs : List Reply) → Devices sum size g old cs rs Leads → Devices sum size g old cs rs Next
  unfolding Devices
  devices_over Leads Next over g old [] [] devices = over g old devices
  devices_over Leads Next over g old (d ∷ ds) (q ∷ qs) devices =
      left_over (λ now new. Devices sum size now new ds qs Leads) (λ now new. Devices sum size now new ds qs Next)
      (λ now new so_far. devices_over Leads Next over now new ds qs so_far) g old d q devices
  devices_over Leads Next over g old [] (q ∷ qs) devices = absurd devices
  devices_over Leads Next over g old (d ∷ ds) [] devices = absurd devices
