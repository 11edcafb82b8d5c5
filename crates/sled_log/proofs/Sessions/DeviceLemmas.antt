-- What the commands of a run do to its device goes on, one behind another; and each phase does what is claimed of a command.
use Rattle.std.proofs.Common.{◌≡◌, ℕ, Bool, true, false, List, [], ◌∷◌, ◌++◌, if◌then◌else◌, Option, Some, refl, sym, ap, subst}
use Rattle.std.specs.Prelude.{◌↔◌, IsTrue}
use Rattle.std.specs.Bool.{MatchBool}
use Rattle.sled_codec.specs.declared.result.Error.TheVariants as error
use Rattle.sled_store.specs.declared.device.choice.Choice.{Choice}
use Rattle.sled_store.specs.Chosen.{MayBeLeft}
use Rattle.sled_store.specs.Device.{Left, Settled, Crashed, state_of}
use Rattle.sled_store.specs.Noted.{left_of}
use Rattle.sled_store.specs.declared.config.RunningConfig.{RunningConfig}
use Rattle.sled_log.specs.declared.session.Session.{Session}
use Rattle.sled_log.specs.declared.session.Phase.{Phase}
use Rattle.sled_log.specs.declared.session.Phase.TheVariants as phase
use Rattle.sled_log.specs.declared.session.opened.Opened.{Opened}
use Rattle.sled_log.specs.declared.session.command.Command.{Command}
use Rattle.sled_log.specs.declared.session.command.Command.TheVariants as command
use Rattle.sled_log.specs.declared.session.command.Refusal.{Refusal}
use Rattle.sled_log.specs.declared.session.command.Refusal.TheVariants as why
use Rattle.sled_log.specs.declared.session.command.Reply.{Reply}
use Rattle.sled_log.specs.declared.session.command.Reply.TheVariants as reply
use Rattle.sled_log.specs.Devices.{Devices, Handles, IsOver, Leaves, LeavesOn, RefusedIn, StandsOver, ToldIn, Touches, TouchesIn, is_barred, is_open, opens_after}
use Rattle.sled_log.specs.Refusals.{is_for_log, refused_closed}
use Rattle.sled_log.specs.RunStates.{DeviceView}
use Rattle.sled_log.specs.Runs.{calls_log, told}
use Rattle.sled_core.specs.Fits.{config_of}
use Rattle.sled_log.specs.LogActs.{ActsOver, LogActs}
use Rattle.sled_log.specs.RunPhases.{device_in, running, segment_size_in, size_in, size_of}
use Rattle.sled_log.proofs.Sessions.LogActs.{refused_acts}

-- Another claim of where a command leads.
leaves_over : {Leads Next : Bool → DeviceView → Type 0} (sum : List ℕ → ℕ) (size : ℕ) (was : Bool) (old : DeviceView) (c : Command) (r : Reply)
    → ((now : Bool) (new : DeviceView) → Leads now new → Next now new) → Leaves sum size was old c r Leads → Leaves sum size was old c r Next
leaves_over sum size was old c r over leaves = record {
  new = leaves.new;
  came = leaves.came;
  is_told = leaves.is_told;
  stops = leaves.stops;
  handles = leaves.handles;
  leads = over (opens_after was c leaves.came) leaves.new leaves.leads;
}

module _ (sum : List ℕ → ℕ) (size : ℕ) (Leads : Bool → DeviceView → Type 0) where
  -- Nothing was carried out yet.
  pub devices_none : (was : Bool) (old : DeviceView) → Leads was old → Devices sum size was old [] [] Leads
  unfolding Devices
  devices_none was old at = at

  -- One command more is carried out.
  pub devices_more : (Next : Bool → DeviceView → Type 0) (c : Command) (r : Reply) → ((was : Bool) (old : DeviceView) → Leads was old → Leaves sum size was old c r Next)
      → (was : Bool) (old : DeviceView) (cs : List Command) (rs : List Reply) → Devices sum size was old cs rs Leads → Devices sum size was old (cs ++ c ∷ []) (rs ++ r ∷ []) Next
  unfolding Devices
  devices_more Next c r more was old [] [] so_far = leaves_over sum size was old c r (λ now new at. at) (more was old so_far)
  devices_more Next c r more was old (d ∷ ds) (q ∷ qs) so_far = leaves_over sum size was old d q (λ now new s. devices_more Next c r more now new ds qs s) so_far
  devices_more Next c r more was old [] (q ∷ qs) so_far = absurd so_far
  devices_more Next c r more was old (d ∷ ds) [] so_far = absurd so_far

-- What is told of a command that a session carries out in its phase.
module _ {D C : Type 0} (view : D → DeviceView) (sum : List ℕ → ℕ) (session : Session D C) where
  pub over_at : (p : Phase D C) → session.phase ≡ Some p → StandsOver view session (is_open p) (device_in view p)
  unfolding StandsOver
  over_at p is = subst (λ (x : Option (Phase D C)). IsOver view x (is_open p) (device_in view p)) (sym is) (refl, refl)

  pub over_in : (p : Phase D C) → session.phase ≡ Some p → (on : Bool) (device : DeviceView) → StandsOver view session on device → (on ≡ is_open p) × (device ≡ device_in view p)
  unfolding StandsOver
  over_in p is on device over = subst (λ (x : Option (Phase D C)). IsOver view x on device) is over

-- A session that begins has no log open.
pub over_begun : {D C : Type 0} (view : D → DeviceView) (session : Session D C) (device : DeviceView) (config : RunningConfig D C) → session.phase ≡ Some (phase.Closed config) → view config.device ≡ device → StandsOver view session false device
over_begun view session device config is same = subst (λ (d : DeviceView). StandsOver view session false d) same (over_at view (λ l. 0) session (phase.Closed config) is)

pub left_at : {D C : Type 0} (view : D → DeviceView) (sum : List ℕ → ℕ) (old new : Session D C) (p next : Phase D C) (c : Command) (r : Reply) → old.phase ≡ Some p → new.phase ≡ Some next
    → ToldIn view sum p c next r → (was : Bool) (device : DeviceView) → StandsOver view old was device → Leaves sum (segment_size_in old) was device c r (StandsOver view new)
left_at {D} {C} view sum old new p next c r was_at is_at told_in was device over =
    let here = over_in view sum old p was_at was device over in
    subst (λ (n : ℕ). Leaves sum n was device c r (StandsOver view new)) (sym (ap size_in was_at))
    (subst (λ (b : Bool). Leaves sum (size_of p) b device c r (StandsOver view new)) (sym here.0)
    (subst (λ (d : DeviceView). Leaves sum (size_of p) (is_open p) d c r (StandsOver view new)) (sym here.1)
    (record {
      new = device_in view next;
      came = told_in.came;
      is_told = told_in.is_told;
      stops = told_in.stops;
      handles = told_in.handles;
      leads = subst (λ (b : Bool). StandsOver view new b (device_in view next)) told_in.opens (over_at view sum new next is_at);
    })))

-- The same of one that it carries out on a device that is never stopped.
pub left_on_at : {D C : Type 0} (view : D → DeviceView) (sum : List ℕ → ℕ) (old new : Session D C) (p next : Phase D C) (c : Command) (r : Reply) → old.phase ≡ Some p → new.phase ≡ Some next
    → TouchesIn view sum p c next r → (was : Bool) (device : DeviceView) → StandsOver view old was device → LeavesOn sum (segment_size_in old) was device c r (StandsOver view new)
left_on_at {D} {C} view sum old new p next c r was_at is_at did was device over =
    let here = over_in view sum old p was_at was device over in
    subst (λ (n : ℕ). LeavesOn sum n was device c r (StandsOver view new)) (sym (ap size_in was_at))
    (subst (λ (b : Bool). LeavesOn sum (size_of p) b device c r (StandsOver view new)) (sym here.0)
    (subst (λ (d : DeviceView). LeavesOn sum (size_of p) (is_open p) d c r (StandsOver view new)) (sym here.1)
    (record {
      new = device_in view next;
      touches = did.touches;
      leads = subst (λ (b : Bool). StandsOver view new b (device_in view next)) did.opens (over_at view sum new next is_at);
    })))

module _ (sum : List ℕ → ℕ) (size : ℕ) where
  -- A refusal does nothing, and is the right one.
  no_touch : (was : Bool) (c : Command) (w : Refusal) (device : DeviceView) → RefusedIn was c (Some w) → Touches sum size was c (reply.Refused w) device device
  no_touch false command.Open w device is = cc
  no_touch false (command.Crash choice) w device is = cc
  no_touch false (command.Stop n) w device is = cc
  no_touch false c w device is = (cc, refl)
  no_touch true command.Open w device is = (cc, refl)
  no_touch true (command.Crash choice) w device is = cc
  no_touch true (command.Stop n) w device is = cc
  no_touch true command.Halt w device is = cc
  no_touch true c w device is = refused_acts sum size device device refl c w

  -- While the device is stopped it is that,
  pub handles_barred : (was : Bool) (c : Command) (device : DeviceView) → is_barred device c ≡ true → Handles sum size was c (reply.Refused why.Stopped) device device
  handles_barred was c device barred =
      let Handled : Bool → Type 0 = λ b. MatchBool b ((reply.Refused why.Stopped ≡ reply.Refused why.Stopped) × (device ≡ device)) (Touches sum size was c (reply.Refused why.Stopped) device device) in
      subst Handled (sym barred) (refl, refl)

  -- and else a command does what it does.
  pub handles_free : (was : Bool) (c : Command) (r : Reply) (old new : DeviceView) → is_barred old c ≡ false → Touches sum size was c r old new → Handles sum size was c r old new
  handles_free was c r old new free touches =
      let Handled : Bool → Type 0 = λ b. MatchBool b ((r ≡ reply.Refused why.Stopped) × (new ≡ old)) (Touches sum size was c r old new) in
      subst Handled (sym free) touches

-- A refusal opens and closes nothing.
pub opens_refused : (was : Bool) (c : Command) (w : Refusal) → was ≡ opens_after was c (reply.Refused w)
opens_refused was command.Open w = refl
opens_refused was command.Halt w = refl
opens_refused was (command.Crash choice) w = refl
opens_refused was c w = refl

-- What is refused leaves the device alone.
pub touched_refused : {D C : Type 0} (view : D → DeviceView) (sum : List ℕ → ℕ) (p : Phase D C) (c : Command) (w : Refusal) → RefusedIn (is_open p) c (Some w) → TouchesIn view sum p c p (reply.Refused w)
touched_refused view sum p c w is = record { touches = no_touch sum (size_of p) (is_open p) c w (device_in view p) is; opens = opens_refused (is_open p) c w }

-- No other command for the log is carried out while none is open.
pub closed_refuses : (c : Command) → is_for_log c ≡ true → (c ≡ command.Open → ⊥) → refused_closed c ≡ Some why.Closed
closed_refuses command.Open for_log no_opening = absurd (no_opening refl)
closed_refuses (command.Stop n) for_log no_opening = cc
closed_refuses (command.Crash choice) for_log no_opening = cc
closed_refuses c for_log no_opening = refl

-- No log is opened while one is.
pub touched_open : {D C : Type 0} (view : D → DeviceView) (sum : List ℕ → ℕ) (opened : Opened D C) → TouchesIn view sum (phase.Open opened) command.Open (phase.Open opened) (reply.Refused why.Open)
touched_open view sum opened = record { touches = (refl, refl); opens = refl }

-- A refusal is told as it is.
pub told_refused : (b : Bool) (w : Refusal) → reply.Refused w ≡ told b (reply.Refused w)
told_refused true w = refl
told_refused false w = refl

-- the same command under another name
pub touched : {D C : Type 0} (view : D → DeviceView) (sum : List ℕ → ℕ) (p : Phase D C) (c d : Command) (next : Phase D C) (r : Reply) → d ≡ c → TouchesIn view sum p c next r → TouchesIn view sum p d next r
touched view sum p c d next r is in_phase = subst (λ (x : Command). TouchesIn view sum p x next r) (sym is) in_phase

touched_log : (sum : List ℕ → ℕ) (size : ℕ) (c : Command) (r : Reply) (old new : DeviceView) → calls_log c ≡ true → LogActs sum size c r old new → Touches sum size true c r old new
touched_log sum size command.Open r old new is acts = cc
touched_log sum size (command.Crash choice) r old new is acts = cc
touched_log sum size (command.Stop n) r old new is acts = cc
touched_log sum size command.Halt r old new is acts = cc
touched_log sum size c r old new is acts = acts

still_open : (c : Command) (r : Reply) → calls_log c ≡ true → true ≡ opens_after true c r
still_open command.Open r is = cc
still_open (command.Crash choice) r is = cc
still_open command.Halt r is = cc
still_open c r is = refl

-- What a command does that calls a log it does in its phase.
pub went_on : {D C : Type 0} (view : D → DeviceView) (sum : List ℕ → ℕ) (old new : Opened D C) (c : Command) (r : Reply) → calls_log c ≡ true
    → ActsOver view sum old.log c r new.log → TouchesIn view sum (phase.Open old) c (phase.Open new) r
went_on view sum old new c r is acts = record {
  touches = touched_log sum (size_of (phase.Open old)) c r (device_in view (phase.Open old)) (device_in view (phase.Open new)) is acts;
  opens = still_open c r is;
}

-- A crash of a copied choice is one of the choice, from any phase.
module _ {D C : Type 0} (view : D → DeviceView) (sum : List ℕ → ℕ) (from : Phase D C) (config : RunningConfig D C) (choice copy : Choice) (next : Phase D C) (r : Reply) (taken : Bool) where
  abbrev Crashes : DeviceView → DeviceView → Left → Type 0
  Crashes old new l = (IsTrue taken ↔ MayBeLeft l (state_of old.trace))
      × (new ≡ record { trace = Crashed (if taken then l else Settled []) ∷ old.trace; failures = old.failures; is_stopped = false })

  from_any : (p : Phase D C) → Crashes (device_in view p) (device_in view next) (left_of choice) → is_open next ≡ false → TouchesIn view sum p (command.Crash choice) next (reply.Crashed taken)
  from_any (phase.Closed c) crashes closed = record { touches = crashes; opens = closed }
  from_any (phase.Open opened) crashes closed = record { touches = crashes; opens = closed }

  pub touched_crash : config ≡ running from → left_of copy ≡ left_of choice → r ≡ reply.Crashed taken → TouchesIn view sum (phase.Closed config) (command.Crash copy) next r → TouchesIn view sum from (command.Crash choice) next r
  touched_crash is same told_is touched =
      let here : TouchesIn view sum (phase.Closed config) (command.Crash copy) next (reply.Crashed taken) = subst (TouchesIn view sum (phase.Closed config) (command.Crash copy) next) told_is touched in
      let from_device : view config.device ≡ device_in view from = ap (λ (x : RunningConfig D C). view x.device) is in
      let crashes : Crashes (view config.device) (device_in view next) (left_of copy) = here.touches in
      subst (TouchesIn view sum from (command.Crash choice) next) (sym told_is)
      (from_any from (subst (λ (d : DeviceView). Crashes d (device_in view next) (left_of choice)) from_device (subst (Crashes (view config.device) (device_in view next)) same crashes)) here.opens)

-- Without memory for what was chosen a crash does nothing.
pub touched_kept : {D C : Type 0} (view : D → DeviceView) (sum : List ℕ → ℕ) (p : Phase D C) (choice : Choice) → TouchesIn view sum p (command.Crash choice) p (reply.Failed error.OutOfMemory)
touched_kept view sum (phase.Closed config) choice = record { touches = refl; opens = refl }
touched_kept view sum (phase.Open opened) choice = record { touches = refl; opens = refl }

-- A log that is given up leaves its device.
pub halts : {D C : Type 0} (view : D → DeviceView) (sum : List ℕ → ℕ) (opened : Opened D C) (config : RunningConfig D C) → config ≡ config_of opened.log → TouchesIn view sum (phase.Open opened) command.Halt (phase.Closed config) reply.Halted
halts view sum opened config is = record { touches = (refl, ap (λ (x : RunningConfig _ _). view x.device) is); opens = refl }
