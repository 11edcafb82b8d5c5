-- What a run of commands comes to (`Session::run`).
--
-- For every list of commands, crashes among them, within a call of the device and within a recovery too: a command is refused exactly where a reason fits,
-- and nothing is done then. Else it makes the calls of the device that are told here, and no others; it is answered what is told here; and it leads to where
-- the run stands then, as is told here. An opening fails only for a failure of the device or lack of memory, or where no further segment is in reach. Where it
-- succeeds, its table is that of the completed messages below one cut, which passes all that was acknowledged, isn't below an earlier cut and splits no
-- batch; and what lies past the cut is forgotten. At each moment within a command, whether or not the list has a stop or a crash there, a crash leaves what
-- can be recovered. What is told of this and of a recovery's table, and all that comes behind it, holds as long as only what the log itself wrote passes as
-- its own, in what a recovery reads and in what a crash leaves.
use Rattle.std.specs.Prelude.{◌≡◌, ◌⊎◌, ◌↔◌, ◌≤ℤ◌, ◌∷◌, ℕ, pos, if◌then◌else◌, Bool, true, false, IsTrue, List, [], Option, None, Some}
use Rattle.sled_codec.specs.declared.result.Error.TheVariants.{Io, OutOfMemory}
use Rattle.sled_codec.specs.declared.serialization.message.LogKind.TheVariants as does
use Rattle.sled_codec.specs.Spelling.{short_bytes}
use Rattle.sled_store.specs.declared.device.choice.Choice.{Choice}
use Rattle.sled_store.specs.Device.{Left, State, Trace, StopAsked, Crashed, Settled, state_of, content_left}
use Rattle.sled_store.specs.Chosen.{MayBeChosen}
use Rattle.sled_store.specs.Moments.{IsLater, LeavesOnly}
use Rattle.sled_store.specs.Noted.{left_of}
use Rattle.sled_store.specs.Stops.{KeepsToStop}
use Rattle.sled_core.specs.Manifests.{manifest_page}
use Rattle.sled_core.specs.Stale.{NothingStaleAt}
use Rattle.sled_core.specs.Recoverable.{LeavesRecoverable, NoForeign, ReadsOnlyOwn, RecoverableIfOwn}
use Rattle.sled_log.specs.declared.session.command.Command.{Command}
use Rattle.sled_log.specs.declared.session.command.Command.TheVariants as command
use Rattle.sled_log.specs.declared.session.command.Reply.{Reply}
use Rattle.sled_log.specs.declared.session.command.Reply.TheVariants as reply
use Rattle.sled_log.specs.Made.{IsMade}
use Rattle.sled_log.specs.OpenSteps.{OpenStep}
use Rattle.sled_log.specs.ReadSteps.{ReadStep}
use Rattle.sled_log.specs.Refusals.{reason_of, refusal_for}
use Rattle.sled_log.specs.RunStates.{DeviceView, DueMark, LogView, RunState, closed, page_now, with_log}
use Rattle.sled_log.specs.SessionMarks.{with_mark}
use Rattle.sled_log.specs.TicketActs.{AbortActs, ReserveActs}
use Rattle.sled_log.specs.TicketSteps.{AbortStep, CompleteStep, EndStep, ReserveStep, RewriteStep, blank_manifest}
use Rattle.sled_log.specs.WriteSteps.{FlushStep, StableStep, WriteStep}

-- what a crash leaves that takes a choice or doesn't
abbrev pub left_by_choice : Choice → Bool → Left
left_by_choice choice taken = if taken then left_of choice else Settled []

-- The device crashed: what was chosen was taken exactly where a crash may leave that, and else what was synced. It is no longer stopped. Without memory for
-- what was chosen nothing is done.
abbrev pub CrashActs : Choice → DeviceView → Reply → DeviceView → Type 0
CrashActs choice old (reply.Crashed taken) new =
    (IsTrue taken ↔ MayBeChosen choice (state_of old.trace))
    × (new ≡ record { trace = Crashed (left_by_choice choice taken) ∷ old.trace; failures = old.failures; is_stopped = false })
CrashActs choice old (reply.Failed OutOfMemory) new = new ≡ old
CrashActs choice old _ new = ⊥

-- A crash closes the log.
abbrev pub CrashStep : RunState → Choice → Reply → DeviceView → RunState → Type 0
CrashStep a choice (reply.Crashed taken) new b = CrashActs choice a.device (reply.Crashed taken) new × (b ≡ closed a new)
CrashStep a choice r new b = CrashActs choice a.device r new × (b ≡ a)

-- A run can go on where no log is open: the history is one that a session makes, and each content that a crash now leaves of the device can be recovered for
-- it. So it is of what a session leaves (`Session::end`), and another one goes on from there (`Session::new`), over a device that was used before.
pub record CanGoOn (sum : List ℕ → ℕ) (size : ℕ) (a : RunState) : Type 0 where
  pub made : IsMade a.history
  pub left : LeavesRecoverable sum size a.history a.acknowledged a.floor (state_of a.device.trace)
  pub closed : a.log ≡ None
  pub settled : a.due ≡ None

-- The device is to be stopped within a call.
abbrev pub StopStep : RunState → ℕ → Reply → DeviceView → RunState → Type 0
StopStep a n reply.Armed new b = (new ≡ record a.device { trace = StopAsked n ∷ a.device.trace }) × (b ≡ with_log a new a.log)
StopStep a n _ new b = ⊥

abbrev pub HaltStep : RunState → Reply → DeviceView → RunState → Type 0
HaltStep a reply.Halted new b = (new ≡ a.device) × (b ≡ closed a new)
HaltStep a _ new b = ⊥

-- what is told of what came of a command: a failure of a device that is stopped then is that
abbrev pub told : Bool → Reply → Reply
told true (reply.Failed (Io e)) = reply.Stopped
told stopped r = r

-- where a log is open that keeps no failure, and no mark joined that is above this place, or nothing stale stands in this log file
abbrev pub WhileClean : ℕ → ℕ → List ℕ → Option LogView → Type 0 → Type 0
WhileClean size floor bytes None P = Unit {0}
WhileClean size floor bytes (Some l) P = l.status.fault ≡ None → (l.status.account.mark ≤ℤ pos floor) ⊎ NothingStaleAt size l.status bytes → P

-- a command counts as calling the log that is open
abbrev pub calls_log : Command → Bool
calls_log command.Open = false
calls_log command.Halt = false
calls_log (command.Stop n) = false
calls_log (command.Crash choice) = false
calls_log c = true

-- Memory for a mark that is due is refused again, and nothing else is done.
abbrev pub Postpones : RunState → Reply → DeviceView → RunState → Type 0
Postpones a (reply.Failed OutOfMemory) new b = (new ≡ a.device) × (b ≡ a)
Postpones a r new b = ⊥

module _ (sum : List ℕ → ℕ) (size : ℕ) where
  -- While a log is open that keeps no failure, what is read is the log's own as long as no mark joined above the last recovery's cut, so that no segment came
  -- free, and also later as long as nothing stale stands in the file, so that no slot was used a second time: so it is when that log is closed, and another is
  -- opened.
  abbrev pub KeepsOwn : RunState → Type 0
  KeepsOwn a = WhileClean size a.floor (state_of a.device.trace).log.bytes a.log (ReadsOnlyOwn sum size (state_of a.device.trace))

  -- What is read behind a command is the log's own: behind a crash it is, since what that left is the log's own, and behind another one it is so long.
  abbrev pub ReadsOwnBehind : Command → Reply → RunState → Type 0
  ReadsOwnBehind (command.Crash choice) (reply.Crashed taken) b = ReadsOnlyOwn sum size (state_of b.device.trace)
  ReadsOwnBehind c r b = KeepsOwn b

  -- Only what the log itself wrote passes as its own, in what a recovery reads and in what a crash leaves. An opening that is refused reads nothing,
  -- and so nothing is asked of it: a stopped device may have any bytes where a write failed, and the crash that comes decides which of them are left.
  abbrev pub IsOwn : State → Command → Reply → Type 0
  IsOwn s command.Open (reply.Refused w) = Unit {0}
  IsOwn s command.Open r = ReadsOnlyOwn sum size s
  IsOwn s (command.Crash choice) (reply.Crashed taken) = NoForeign sum size s (content_left (left_by_choice choice taken) s)
  IsOwn s _ r = Unit {0}

  -- What a command comes to that isn't refused, where this log is open or none is, once no mark is due: what it makes of the device, and where the run stands
  -- then.
  abbrev pub StepBy : RunState → Option LogView → Command → Reply → DeviceView → RunState → Type 0
  StepBy a log (command.Crash choice) r new b = CrashStep a choice r new b
  StepBy a log (command.Stop n) r new b = StopStep a n r new b
  StepBy a None command.Open r new b = OpenStep sum size a r new b
  StepBy a (Some l) (command.Replace page item) r new b =
      ReserveActs sum size l does.Replace page (short_bytes item.items) a.device r new × ReserveStep size a l does.Replace page (short_bytes item.items) r new b
  StepBy a (Some l) (command.Link page item) r new b =
      ReserveActs sum size l does.Link page (short_bytes item.items) a.device r new × ReserveStep size a l does.Link page (short_bytes item.items) r new b
  StepBy a (Some l) (command.Free page) r new b = (new ≡ a.device) × ReserveStep size a l does.Free page [] r new b
  StepBy a (Some l) (command.Rewrite page) r new b = (new ≡ a.device) × RewriteStep size a l page r new b
  StepBy a (Some l) command.BeginBatch r new b = (new ≡ a.device) × ReserveStep size a l does.Skip manifest_page blank_manifest r new b
  StepBy a (Some l) command.EndBatch r new b = (new ≡ a.device) × EndStep a l r new b
  StepBy a (Some l) (command.Complete t) r new b = (new ≡ a.device) × CompleteStep size a l t r new b
  StepBy a (Some l) (command.Abort t) r new b = AbortActs t l a.device r new × AbortStep a l t r new b
  StepBy a (Some l) (command.Write i) r new b = WriteStep sum size a l i r new b
  StepBy a (Some l) command.Flush r new b = FlushStep sum size a l r new b
  StepBy a (Some l) (command.Stable place) r new b = StableStep sum size a l place r new b
  StepBy a (Some l) (command.Read page) r new b = ReadStep sum size a l (page_now a.history page) r new b
  StepBy a (Some l) command.Halt r new b = HaltStep a r new b
  StepBy a log _ r new b = ⊥

  -- One that calls the log makes the mark first that is due.
  abbrev pub StepFrom : RunState → Bool → Option DueMark → Command → Reply → DeviceView → RunState → Type 0
  StepFrom a true (Some d) c r new b = Postpones a r new b ⊎ StepBy (with_mark size a d) (with_mark size a d).log c r new b
  StepFrom a _ due c r new b = StepBy a a.log c r new b

  -- One that is refused does nothing.
  abbrev pub IsStep : RunState → Command → Reply → DeviceView → RunState → Type 0
  IsStep a c (reply.Refused w) new b = (new ≡ a.device) × (b ≡ a)
  IsStep a c r new b = StepFrom a (calls_log c) a.due c r new b

  -- At each moment from one trace to another, what a crash leaves can be recovered, for where a run stands.
  abbrev pub StaysRecoverable : RunState → Trace → Trace → Type 0
  StaysRecoverable a old new = LeavesOnly (RecoverableIfOwn sum size a.history a.acknowledged a.floor) old new

  -- So it is at each moment within a command, for where the run stood before it; within an opening up to some moment, and from then on for where that leads:
  -- with what was completed below its cut for the history, and the cut for the floor.
  abbrev pub StaysWithin : RunState → Command → DeviceView → RunState → Type 0
  StaysWithin a command.Open new b = (mid : Trace) × StaysRecoverable a a.device.trace mid × StaysRecoverable b mid new.trace
  StaysWithin a c new b = StaysRecoverable a a.device.trace new.trace

  -- A command was carried out from where a run stands, and told so: it is refused exactly where a reason fits, with the first one, and comes to a step.
  -- Where it reads or leaves nothing foreign, a crash at each moment within it leaves what can be recovered, and what is claimed of where it leads holds.
  pub record Carries (a : RunState) (c : Command) (r : Reply) (Leads : RunState → Type 0) : Type 0 where
    pub refused : reason_of r ≡ refusal_for a c
    pub new : DeviceView
    pub came : Reply
    pub is_told : r ≡ told new.is_stopped came
    pub later : IsLater a.device.trace new.trace
    pub stops : KeepsToStop new.trace new.is_stopped
    pub after : RunState
    pub step : IsStep a c came new after
    pub crash : IsOwn (state_of a.device.trace) c came → StaysWithin a c new after
    pub own : IsOwn (state_of a.device.trace) c came → ReadsOwnBehind c came after
    pub leads : IsOwn (state_of a.device.trace) c came → Leads after

  -- A command was carried out on a device that is never stopped, from where a run stands, and was answered as it came (`Session::carry_out`). Else this is `Carries`.
  pub record CarriesOn (a : RunState) (c : Command) (r : Reply) (Leads : RunState → Type 0) : Type 0 where
    pub refused : reason_of r ≡ refusal_for a c
    pub new : DeviceView
    pub later : IsLater a.device.trace new.trace
    pub after : RunState
    pub step : IsStep a c r new after
    pub crash : IsOwn (state_of a.device.trace) c r → StaysWithin a c new after
    pub own : IsOwn (state_of a.device.trace) c r → KeepsOwn after
    pub leads : IsOwn (state_of a.device.trace) c r → Leads after

  -- These commands are answered by these replies, from where a run stands on. What is claimed of each place between two commands holds behind each of them,
  -- and what is claimed of the end holds there. Where a command reads or leaves what is foreign, nothing more is claimed from there on.
  unfoldable pub Runs : (RunState → Type 0) → RunState → List Command → List Reply → (RunState → Type 0) → Type 0
  Runs Between a [] [] Leads = Leads a
  Runs Between a (c ∷ cs) (r ∷ rs) Leads = Carries a c r (λ b. Between b × Runs Between b cs rs Leads)
  Runs Between a [] (r ∷ rs) Leads = ⊥
  Runs Between a (c ∷ cs) [] Leads = ⊥
