-- What a run does to its device, whatever that has: also behind damage, and where what is foreign was read, of which `Runs` claims nothing.
use Rattle.std.specs.Prelude.{◌≡◌, ◌∷◌, ◌&&◌, not, is_none, if◌then◌else◌, ℕ, Bool, true, false, List, [], Option, None, Some}
use Rattle.std.specs.Bool.{MatchBool}
use Rattle.sled_store.specs.Device.{StopAsked}
use Rattle.sled_store.specs.Stops.{KeepsToStop}
use Rattle.sled_log.specs.declared.session.Session.{Session}
use Rattle.sled_log.specs.declared.session.Phase.{Phase}
use Rattle.sled_log.specs.declared.session.Phase.TheVariants.{Closed, Open}
use Rattle.sled_log.specs.declared.session.command.Command.{Command}
use Rattle.sled_log.specs.declared.session.command.Command.TheVariants as command
use Rattle.sled_log.specs.declared.session.command.Refusal.{Refusal}
use Rattle.sled_log.specs.declared.session.command.Refusal.TheVariants as why
use Rattle.sled_log.specs.declared.session.command.Reply.{Reply}
use Rattle.sled_log.specs.declared.session.command.Reply.TheVariants as reply
use Rattle.sled_log.specs.LogActs.{LogActs}
use Rattle.sled_log.specs.RunStates.{DeviceView, RunState}
use Rattle.sled_log.specs.OpenSteps.{OpenActs}
use Rattle.sled_log.specs.Refusals.{is_crash, refused_closed}
use Rattle.sled_log.specs.Runs.{CrashActs, told}
use Rattle.sled_log.specs.RunPhases.{device_in, size_of}

-- whether a log is open behind a command, by whether one was
abbrev pub opens_after : Bool → Command → Reply → Bool
opens_after was command.Open (reply.Opened stable active pages) = true
opens_after was command.Halt reply.Halted = false
opens_after was (command.Crash choice) (reply.Crashed taken) = false
opens_after was c r = was

-- a stop is asked of a device, unless it is stopped
abbrev pub to_stop : ℕ → DeviceView → DeviceView
to_stop n old = record old { trace = if old.is_stopped then old.trace else StopAsked n ∷ old.trace }

-- the device is stopped, and a command is no crash
abbrev pub is_barred : DeviceView → Command → Bool
is_barred device c = device.is_stopped && not (is_crash c)

-- Why a command is refused, as far as that goes without what a log has, by whether one is open: while none is, that is all of it.
abbrev pub RefusedIn : Bool → Command → Option Refusal → Type 0
RefusedIn false c w = w ≡ refused_closed c
RefusedIn true command.Open w = w ≡ Some why.Open
RefusedIn true command.Halt w = w ≡ None
RefusedIn true (command.Stop n) w = w ≡ None
RefusedIn true (command.Crash choice) w = w ≡ None
RefusedIn true c w = Unit {0}

module _ (sum : List ℕ → ℕ) (size : ℕ) where
  -- What a command is answered and does to the device, by whether a log is open. While none is, all but an opening, a stop and a crash are refused: an
  -- opening that meets damage has synced the device, and wrote nothing. While one is open, a command that calls the log has its own shape of reply and its own
  -- calls.
  abbrev pub Touches : Bool → Command → Reply → DeviceView → DeviceView → Type 0
  Touches false command.Open r old new = OpenActs sum size old r new
  Touches false (command.Crash choice) r old new = CrashActs choice old r new
  Touches false (command.Stop n) r old new = (r ≡ reply.Armed) × (new ≡ to_stop n old)
  Touches false c r old new = (r ≡ reply.Refused why.Closed) × (new ≡ old)
  Touches true command.Open r old new = (r ≡ reply.Refused why.Open) × (new ≡ old)
  Touches true (command.Crash choice) r old new = CrashActs choice old r new
  Touches true (command.Stop n) r old new = (r ≡ reply.Armed) × (new ≡ to_stop n old)
  Touches true command.Halt r old new = (r ≡ reply.Halted) × (new ≡ old)
  Touches true c r old new = LogActs sum size c r old new

  -- While the device is stopped each but a crash is refused, and does nothing.
  abbrev pub Handles : Bool → Command → Reply → DeviceView → DeviceView → Type 0
  Handles was c r old new = MatchBool (is_barred old c) ((r ≡ reply.Refused why.Stopped) × (new ≡ old)) (Touches was c r old new)

  -- A command that is told so did this to the device, which keeps to the stop that was asked of it, and what is claimed of where that leads holds.
  pub record Leaves (was : Bool) (old : DeviceView) (c : Command) (r : Reply) (Leads : Bool → DeviceView → Type 0) : Type 0 where
    pub new : DeviceView
    pub came : Reply
    pub is_told : r ≡ told new.is_stopped came
    pub stops : KeepsToStop new.trace new.is_stopped
    pub handles : Handles was c came old new
    pub leads : Leads (opens_after was c came) new

  -- A command that was answered so did this to a device that is never stopped, and what is claimed of where that leads holds (`Session::carry_out`).
  pub record LeavesOn (was : Bool) (old : DeviceView) (c : Command) (r : Reply) (Leads : Bool → DeviceView → Type 0) : Type 0 where
    pub new : DeviceView
    pub touches : Touches was c r old new
    pub leads : Leads (opens_after was c r) new

  -- These commands are answered by these replies, one for each, and this is what they do to the device, one behind another.
  unfoldable pub Devices : Bool → DeviceView → List Command → List Reply → (Bool → DeviceView → Type 0) → Type 0
  Devices was old [] [] Ends = Ends was old
  Devices was old (c ∷ cs) (r ∷ rs) Ends = Leaves was old c r (λ now new. Devices now new cs rs Ends)
  Devices was old [] (r ∷ rs) Ends = ⊥
  Devices was old (c ∷ cs) [] Ends = ⊥

-- a log is open in a phase
abbrev pub is_open : {D C : Type 0} → Phase D C → Bool
is_open (Closed config) = false
is_open (Open opened) = true

-- What a command that is carried out does to the device of a phase, and whether a log is open then.
pub record TouchesIn {D C : Type 0} (view : D → DeviceView) (sum : List ℕ → ℕ) (phase : Phase D C) (c : Command) (next : Phase D C) (r : Reply) : Type 0 where
  pub touches : Touches sum (size_of phase) (is_open phase) c r (device_in view phase) (device_in view next)
  pub opens : is_open next ≡ opens_after (is_open phase) c r

-- The same of a command that was carried out, or refused, and told.
pub record ToldIn {D C : Type 0} (view : D → DeviceView) (sum : List ℕ → ℕ) (phase : Phase D C) (c : Command) (next : Phase D C) (r : Reply) : Type 0 where
  pub came : Reply
  pub is_told : r ≡ told (device_in view next).is_stopped came
  pub stops : KeepsToStop (device_in view next).trace (device_in view next).is_stopped
  pub handles : Handles sum (size_of phase) (is_open phase) c came (device_in view phase) (device_in view next)
  pub opens : is_open next ≡ opens_after (is_open phase) c came

abbrev pub IsOver : {D C : Type 0} → (D → DeviceView) → Option (Phase D C) → Bool → DeviceView → Type 0
IsOver view None on device = ⊥
IsOver view (Some phase) on device = (on ≡ is_open phase) × (device ≡ device_in view phase)

-- A session has a log open or not, over a device that is seen so.
unfoldable pub StandsOver : {D C : Type 0} → (D → DeviceView) → Session D C → Bool → DeviceView → Type 0
StandsOver view session on device = IsOver view session.phase on device

-- Some session has the device of a run, with a log open exactly where the run has one open.
abbrev pub SomeStandsOver : (D C : Type 0) → (D → DeviceView) → RunState → Type 0
SomeStandsOver D C view a = (session : Session D C) × StandsOver view session (not (is_none a.log)) a.device
