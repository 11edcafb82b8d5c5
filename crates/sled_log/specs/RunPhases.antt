-- What stands in each phase of a session.
use Rattle.std.specs.Prelude.{◌≡◌, ◌≢◌, ◌+◌, ◌≤◌, ◌<◌, ℕ, Bool, true, false, List, [], ◌∷◌, length, map, get_or, slice_get, Option, None, Some}
use Rattle.std.specs.List.{All, Contains}
use Rattle.sled_codec.specs.declared.serialization.message.LogKind.TheVariants.{Link, Skip}
use Rattle.sled_codec.specs.History.{Batch, Message, History, begins_page}
use Rattle.sled_codec.specs.PageTables.{IsTable}
use Rattle.sled_codec.specs.Snapshots.{SnapshotModel, page_of, stable_place}
use Rattle.sled_store.specs.Device.{Trace, state_of}
use Rattle.sled_store.specs.Marks.{IsFormerList}
use Rattle.sled_store.specs.Moments.{IsLater}
use Rattle.sled_store.specs.declared.config.RunningConfig.{RunningConfig}
use Rattle.sled_log.specs.WriteSteps.{filled_by, headed}
use Rattle.sled_core.specs.declared.logger.Log.{Log}
use Rattle.sled_core.specs.Fits.{Awaits, config_of, fault_of, fillings_of, given_up_of, heads_of, noted_in, open_places, pins_of, reserved_end}
use Rattle.sled_core.specs.Fits.{segment_size_of}
use Rattle.sled_core.specs.Among.{AreAmong}
use Rattle.sled_core.specs.Manifests.{manifest_page}
use Rattle.sled_core.specs.Keeps.{ConfigKept}
use Rattle.sled_core.specs.Marking.{IsOfMessage}
use Rattle.sled_core.specs.Unmarked.{without}
use Rattle.sled_core.specs.Reading.{IsInline}
use Rattle.sled_core.specs.Recoverable.{LeavesRecoverable, NoHeaderOfZeros}
use Rattle.sled_core.specs.invariants.Running.{Fits, Ready}
use Rattle.sled_core.specs.Running.{IsStored}
use Rattle.sled_core.specs.Tickets.{own_blob}
use Rattle.sled_log.specs.declared.session.Session.{Session}
use Rattle.sled_log.specs.declared.session.Phase.{Phase}
use Rattle.sled_log.specs.declared.session.Phase.TheVariants.{Closed, Open}
use Rattle.sled_log.specs.declared.session.opened.Opened.{Opened}
use Rattle.sled_log.specs.declared.session.tickets.Ticket.{Ticket}
use Rattle.sled_log.specs.declared.session.marking.Due.{Due}
use Rattle.sled_log.specs.declared.session.command.Command.{Command}
use Rattle.sled_log.specs.declared.session.command.Reply.{Reply}
use Rattle.sled_core.specs.LogStatus.{status_of}
use Rattle.sled_log.specs.Made.{IsMade, MayJoin}
use Rattle.sled_log.specs.Refusals.{reason_of, refusal_for}
use Rattle.sled_log.specs.RunStates.{DeviceView, DueMark, LogView, RunState, ShowsActive, has_message_for, in_batch, open_messages, top, MarkAt}
use Rattle.sled_log.specs.TicketSteps.{own_of}
use Rattle.sled_log.specs.Runs.{Carries, CarriesOn, IsOwn, IsStep, StaysWithin, StepBy}

-- What is seen of what code has.

-- what is seen of a device by what its traits show
abbrev pub view_by : {D : Type 0} → (D → Trace) → (D → ℕ) → (D → Bool) → D → DeviceView
view_by trace faults stopped device = record { trace = trace device; failures = faults device; is_stopped = stopped device }

-- the traces of devices that are seen so
abbrev pub traces : {D : Type 0} → (D → DeviceView) → D → Trace
traces view device = (view device).trace

-- what is seen of a log, with so many pages begun, with the messages of its tickets, with those that were given up, and with where
-- buffers were begun
abbrev pub seen_log : {D C : Type 0} → Log D C → ℕ → List (Option Message) → List Message → List MarkAt → LogView
seen_log log begun tickets given_up heads = record { status = status_of log; begun = begun; tickets = tickets; given_up = given_up; heads = heads }

-- the same of one that is open in a session
abbrev pub seen : {D C : Type 0} → Opened D C → List (Option Message) → List Message → List MarkAt → LogView
seen opened tickets given_up heads = seen_log opened.log (length opened.pages.items) tickets given_up heads

-- What a session keeps in mind that its code doesn't store.
pub record Unstored : Type 0 where
  pub history : History
  pub acknowledged : ℕ
  pub floor : ℕ
  pub tickets : List (Option Message)
  pub given_up : List Message
  pub heads : List MarkAt

-- the log in a phase
abbrev pub log_in : {D C : Type 0} → Phase D C → List (Option Message) → List Message → List MarkAt → Option LogView
log_in (Closed config) tickets given_up heads = None
log_in (Open opened) tickets given_up heads = Some (seen opened tickets given_up heads)

-- the mark that is due, as code has it, and in a phase
abbrev pub shown_due : Option Due → Option DueMark
shown_due None = None
shown_due (Some d) = Some (record { kind = d.kind; page = d.page; old = d.old.items; new = d.new })

abbrev pub due_in : {D C : Type 0} → Phase D C → Option DueMark
due_in (Closed config) = None
due_in (Open opened) = shown_due opened.due

-- what a phase runs on
abbrev pub running : {D C : Type 0} → Phase D C → RunningConfig D C
running (Closed config) = config
running (Open opened) = config_of opened.log

-- the device that is seen in a phase
abbrev pub device_in : {D C : Type 0} → (D → DeviceView) → Phase D C → DeviceView
device_in view phase = view (running phase).device

-- where a run stands in a phase
abbrev pub stands : {D C : Type 0} → (D → DeviceView) → Phase D C → Unstored → RunState
stands view phase k =
    record {
      device = device_in view phase;
      history = k.history;
      acknowledged = k.acknowledged;
      floor = k.floor;
      log = log_in phase k.tickets k.given_up k.heads;
      due = due_in phase;
    }

-- the size of its segments
abbrev pub size_of : {D C : Type 0} → Phase D C → ℕ
size_of phase = (running phase).config.segment_size

-- What holds there.

-- No log is open: a recovery can go on from what the device has.
pub record IsClosedAt (sum : List ℕ → ℕ) (size : ℕ) (trace : Trace) (k : Unstored) : Type 0 where
  pub made : IsMade k.history
  pub left : LeavesRecoverable sum size k.history k.acknowledged k.floor (state_of trace)

-- A message is a manifest, with its item in its record, whose batch can end where what was reserved does: in front of it all batches end that are noted.
pub record BeginsBatch {D C : Type 0} (log : Log D C) (m : Message) : Type 0 where
  pub kind : m.kind ≡ Skip
  pub inline : IsInline m.pointer
  pub apart : (b : Batch) → Contains (noted_in log) b → b.peg < m.place

-- no crash takes the item of a message, as long as the log keeps no failure
abbrev pub IsSafe : {D C : Type 0} → (D → Trace) → (List ℕ → ℕ) → Log D C → Message → Type 0
IsSafe trace sum log m = fault_of log ≡ None → IsStored trace sum log m

-- The ticket of a number is for this message, which may come to the history or begins a batch.
pub record IsTicketFor {D C : Type 0} (trace : D → Trace) (sum : List ℕ → ℕ) (opened : Opened D C) (H : History) (n : ℕ) (m : Message) : Type 0 where
  pub ticket : Ticket
  pub there : slice_get opened.tickets.items n ≡ Some (Some ticket)
  pub kind : ticket.kind ≡ m.kind
  pub page : ticket.page ≡ m.page
  pub awaits : Awaits opened.log ticket.reservation m
  -- the blob that it made is the one of its message's place, if that has one there
  pub own : own_blob ticket.reservation ≡ own_of m
  pub stored : IsSafe trace sum opened.log m
  pub joins : m.page ≢ manifest_page → MayJoin H m
  pub begins_batch : m.page ≡ manifest_page → BeginsBatch opened.log m
  pub begins : m.place + 1 < reserved_end opened.log
  pub ends : m.place + m.size ≤ reserved_end opened.log

-- places one above another
abbrev pub AreRising : List ℕ → Type 0
AreRising [] = Unit {0}
AreRising (p ∷ ps) = All (λ q. p < q) ps × AreRising ps

-- the ticket of the open manifest has this number, or none is open
abbrev pub HasBatch : List (Option Message) → Option ℕ → Type 0
HasBatch tickets None = in_batch tickets ≡ false
HasBatch tickets (Some n) = (m : Message) × (slice_get tickets n ≡ Some (Some m)) × (m.page ≡ manifest_page)

-- The tickets that are open are for these messages, by number and so by place; no two are of one page, so one at most is of a manifest, and as long as the
-- log keeps no failure no other reservation of it is open.
pub record HasTickets {D C : Type 0} (trace : D → Trace) (sum : List ℕ → ℕ) (opened : Opened D C) (H : History) (tickets : List (Option Message)) : Type 0 where
  pub as_many : length opened.tickets.items ≡ length tickets
  pub each : (n : ℕ) (m : Message) → slice_get tickets n ≡ Some (Some m) → IsTicketFor trace sum opened H n m
  pub gone : (n : ℕ) → slice_get tickets n ≡ Some None → slice_get opened.tickets.items n ≡ Some None
  pub apart : (i j : ℕ) (m n : Message) → slice_get tickets i ≡ Some (Some m) → slice_get tickets j ≡ Some (Some n) → m.page ≡ n.page → i ≡ j
  pub rising : AreRising (map (λ m. m.place) (open_messages tickets))
  pub are_all : fault_of opened.log ≡ None → open_places opened.log ≡ map (λ m. m.place) (open_messages tickets)
  pub busy : (page : ℕ) → page ≢ manifest_page → get_or opened.busy.items page false ≡ has_message_for page (open_messages tickets)
  pub batch : HasBatch tickets opened.batch

-- Each header of a log that isn't on the device has the mark that its segment was begun with, and what fills one of its segments begins where what was reserved
-- ended when the next one was begun.
pub record HasHeads {D C : Type 0} (sum : List ℕ → ℕ) (log : Log D C) (heads : List MarkAt) : Type 0 where
  pub marked : AreAmong (heads_of log) (map (headed sum) heads)
  pub filled : AreAmong (fillings_of log) (map filled_by heads)

-- The one message that isn't marked yet is that of the mark that is due. It is the newest of its page, and the mark takes the place of all that the page was;
-- and the log keeps no failure.
pub record IsUnmarked {D C : Type 0} (log : Log D C) (H : History) (d : Due) (m : Message) : Type 0 where
  pub there : Contains H.messages m
  pub is : IsOfMessage m d.page d.new
  pub kind : d.kind ≡ m.kind
  pub newest : (x : Message) → Contains (without (m ∷ []) H).messages x → x.page ≡ m.page → x.place < m.place
  pub beside : m.kind ≡ Link → d.old.items ≡ []
  pub former : begins_page m.kind ≡ true → IsFormerList (without (m ∷ []) H) m.page d.old.items
  pub sound : fault_of log ≡ None

-- the messages that aren't marked yet, by the mark that is due
abbrev pub AreUnmarked : {D C : Type 0} → Log D C → History → Option Due → List Message → Type 0
AreUnmarked log H None U = U ≡ []
AreUnmarked log H (Some d) U = (m : Message) × (U ≡ m ∷ []) × IsUnmarked log H d m

-- A log is open that fits the history, with the table of it, and with a pin for each open ticket, and for the mark that is due; what it counts as given up was,
-- and its headers and fillings that aren't on the device are those that were begun. Zeros pass as no header, as where its recovery read nothing foreign.
pub record IsOpenAt {D C : Type 0} (trace : D → Trace) (sum : List ℕ → ℕ) (opened : Opened D C) (k : Unstored) : Type 0 where
  pub made : IsMade k.history
  pub unmarked : List Message
  pub due : AreUnmarked opened.log k.history opened.due unmarked
  pub fits : Fits trace sum opened.log k.history k.acknowledged k.floor unmarked
  pub zeros : NoHeaderOfZeros sum
  pub pinned : pins_of opened.log ≡ length (open_messages k.tickets) + length unmarked
  pub origin : opened.origin ≡ record { size = segment_size_of opened.log; floor = k.floor }
  pub table : IsTable (map page_of opened.pages.items) k.history top
  pub tickets : HasTickets trace sum opened k.history k.tickets
  pub given_up : AreAmong (given_up_of opened.log) k.given_up
  pub heads : HasHeads sum opened.log k.heads
  pub ends : All (λ m. m.place + m.size ≤ reserved_end opened.log) k.history.messages

-- What holds in a phase.
abbrev pub IsAt : {D C : Type 0} → (D → Trace) → (List ℕ → ℕ) → Phase D C → Unstored → Type 0
IsAt trace sum (Closed config) k = IsClosedAt sum config.config.segment_size (trace config.device) k
IsAt trace sum (Open opened) k = IsOpenAt trace sum opened k

-- A command that isn't refused leads from a phase to the next one by such a step: what holds there holds again, unless what is foreign was read or left, and at
-- each moment on the way a crash leaves what can be recovered.
pub record DoesBy {D C : Type 0} (Step : RunState → Command → Reply → DeviceView → RunState → Type 0) (view : D → DeviceView) (sum : List ℕ → ℕ)
    (phase : Phase D C) (command : Command) (result : Phase D C × Reply) (k : Unstored) : Type 0 where
  pub not_refused : reason_of result.1 ≡ None
  pub next : Unstored
  pub step : Step (stands view phase k) command result.1 (device_in view result.0) (stands view result.0 next)
  pub at : IsOwn sum (size_of phase) (state_of (device_in view phase).trace) command result.1 → IsAt (traces view) sum result.0 next
  pub crash : IsOwn sum (size_of phase) (state_of (device_in view phase).trace) command result.1
      → StaysWithin sum (size_of phase) (stands view phase k) command (device_in view result.0) (stands view result.0 next)

-- So it does by what it comes to, with the mark first that is due,
abbrev pub Does : {D C : Type 0} → (D → DeviceView) → (List ℕ → ℕ) → Phase D C → Command → Phase D C × Reply → Unstored → Type 0
Does view sum phase command result k = DoesBy (IsStep sum (size_of phase)) view sum phase command result k

abbrev pub CarriesOut : {D C : Type 0} → (D → DeviceView) → (List ℕ → ℕ) → Phase D C → Command → Phase D C × Reply → Type 0
CarriesOut view sum phase command result =
    (k : Unstored) → IsAt (traces view) sum phase k → refusal_for (stands view phase k) command ≡ None → Does view sum phase command result k

-- and without that, where none is due, or as if none were.
abbrev pub DoesHere : {D C : Type 0} → (D → DeviceView) → (List ℕ → ℕ) → Phase D C → Command → Phase D C × Reply → Unstored → Type 0
DoesHere view sum phase command result k = DoesBy (λ a c r new b. StepBy sum (size_of phase) a a.log c r new b) view sum phase command result k

abbrev pub CarriesHere : {D C : Type 0} → (D → DeviceView) → (List ℕ → ℕ) → Phase D C → Command → Phase D C × Reply → Type 0
CarriesHere view sum phase command result =
    (k : Unstored) → IsAt (traces view) sum phase k → refusal_for (stands view phase k) command ≡ None → DoesHere view sum phase command result k

-- A command is answered in a phase: it is refused exactly where a reason fits, with the first one, and comes to a step. What holds there holds in the next phase,
-- unless what is foreign was read or left, and at each moment on the way a crash leaves what can be recovered.
pub record AnswersAt {D C : Type 0} (view : D → DeviceView) (sum : List ℕ → ℕ) (phase : Phase D C) (command : Command) (result : Phase D C × Reply) (k : Unstored) : Type 0 where
  pub refused : reason_of result.1 ≡ refusal_for (stands view phase k) command
  pub next : Unstored
  pub step : IsStep sum (size_of phase) (stands view phase k) command result.1 (device_in view result.0) (stands view result.0 next)
  pub at : IsOwn sum (size_of phase) (state_of (device_in view phase).trace) command result.1 → IsAt (traces view) sum result.0 next
  pub crash : IsOwn sum (size_of phase) (state_of (device_in view phase).trace) command result.1
      → StaysWithin sum (size_of phase) (stands view phase k) command (device_in view result.0) (stands view result.0 next)

abbrev pub AnswersFrom : {D C : Type 0} → (D → DeviceView) → (List ℕ → ℕ) → Phase D C → Command → Phase D C × Reply → Type 0
AnswersFrom view sum phase command result = (k : Unstored) → IsAt (traces view) sum phase k → AnswersAt view sum phase command result k

-- Where a run stands in a phase, with what holds there.
abbrev pub StandsIn : {D C : Type 0} → (D → DeviceView) → (List ℕ → ℕ) → Phase D C → RunState → Type 0
StandsIn view sum phase a = (k : Unstored) × (a ≡ stands view phase k) × IsAt (traces view) sum phase k

-- A command is answered from a phase, and leads to the next one.
abbrev pub AnswersIn : {D C : Type 0} → (D → DeviceView) → (List ℕ → ℕ) → Phase D C → Command → Phase D C × Reply → Type 0
AnswersIn view sum phase command result =
    (a : RunState) → StandsIn view sum phase a → Carries sum (size_of phase) a command result.1 (StandsIn view sum result.0)

-- The same on a device that is never stopped.
abbrev pub CarriesOnIn : {D C : Type 0} → (D → DeviceView) → (List ℕ → ℕ) → Phase D C → Command → Phase D C × Reply → Type 0
CarriesOnIn view sum phase command result =
    (a : RunState) → StandsIn view sum phase a → CarriesOn sum (size_of phase) a command result.1 (StandsIn view sum result.0)

-- the trace goes on, with the same sizes and the same checksum
pub record RunsOn {D C : Type 0} (trace : D → Trace) (old new : RunningConfig D C) : Type 0 where
  pub later : IsLater (trace old.device) (trace new.device)
  pub kept : ConfigKept old new

-- A recovery has left this: a table of which each page is begun, with the segment in which a log goes on, and on which a log can be started. Its place is the
-- floor.
pub record IsRecoveredAt {D C : Type 0} (trace : D → Trace) (sum : List ℕ → ℕ) (config : RunningConfig D C) (s : SnapshotModel) (k : Unstored) : Type 0 where
  pub closed : IsClosedAt sum config.config.segment_size (trace config.device) k
  pub zeros : NoHeaderOfZeros sum
  pub active : ShowsActive config.config.segment_size (stable_place s.stable) s.active
  pub ready : Ready sum config.config.segment_size (state_of (trace config.device)) s k.history k.acknowledged k.floor
  pub floor : k.floor ≡ stable_place s.stable
  pub table : IsTable s.pages k.history top
  pub ends : All (λ m. m.place + m.size ≤ stable_place s.stable) k.history.messages

-- Where a session stands.

abbrev pub StandsAtPhase : {D C : Type 0} → (D → DeviceView) → (List ℕ → ℕ) → Option (Phase D C) → RunState → Type 0
StandsAtPhase view sum None a = ⊥
StandsAtPhase view sum (Some phase) a = StandsIn view sum phase a

unfoldable pub StandsAt : {D C : Type 0} → (D → DeviceView) → (List ℕ → ℕ) → Session D C → RunState → Type 0
StandsAt view sum session a = StandsAtPhase view sum session.phase a

-- the size of its segments
abbrev pub size_in : {D C : Type 0} → Option (Phase D C) → ℕ
size_in None = 0
size_in (Some phase) = size_of phase

abbrev pub segment_size_in : {D C : Type 0} → Session D C → ℕ
segment_size_in session = size_in session.phase

-- Some session stands there, with segments of this size. So it is behind each command of a run, and not behind the last one alone: no body can put something
-- on the device in the middle of a list that no log would, and owe nothing for what comes of it.
abbrev pub SomeStands : (D C : Type 0) → (D → DeviceView) → (List ℕ → ℕ) → ℕ → RunState → Type 0
SomeStands D C view sum size a = (session : Session D C) × (segment_size_in session ≡ size) × StandsAt view sum session a
