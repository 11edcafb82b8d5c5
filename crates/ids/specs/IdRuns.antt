-- Runs of a generator: what its commands come to, one behind another, and what each does to the device.
use Rattle.std.specs.Prelude.{◌≡◌, ◌⊎◌, ◌↔◌, ◌≤◌, ◌<◌, ◌+◌, ◌-◌, ◌^◌, ◌∷◌, [], ℕ, Bool, false, IsSome, IsTrue, nat_lt, if◌then◌else◌, max, min, List, length}
use Rattle.std.specs.Prelude.{Option, None, Some, Ok, Err}
use Rattle.std.specs.Int.NonZero.{non_zero_u64_get}
use Rattle.std.specs.declared.io.Error.{Error as IoError}
use Rattle.sled_codec.specs.declared.result.Error.TheVariants.{OutOfMemory}
use Rattle.sled_codec.specs.Spelling.{short_number}
use Rattle.sled_store.specs.Chosen.{MayBeLeft}
use Rattle.sled_store.specs.Device.{State, Left, Settled, StopAsked, Crashed, state_of, content_left}
use Rattle.sled_store.specs.Moments.{IsLater}
use Rattle.sled_store.specs.Noted.{left_of}
use Rattle.sled_core.specs.Positions.{Position, behind_record, placed_at, size_at}
use Rattle.sled_core.specs.Recoverable.{NoForeign, ReadsOnlyOwn}
use Rattle.sled_log.specs.RunStates.{DeviceView}
use Rattle.ids.specs.declared.run.Command.{Command}
use Rattle.ids.specs.declared.run.Command.TheVariants as command
use Rattle.ids.specs.declared.run.Reply.{Reply}
use Rattle.ids.specs.declared.run.Reply.TheVariants as reply
use Rattle.ids.specs.Generators.{NextFails, WritesBuffers}
use Rattle.ids.specs.Openings.{HasOpened, HasStarted, OpenFails}
use Rattle.ids.specs.Readings.{CountsError, IsOpenError}

-- What is seen of a generator that is open.
pub record GeneratorView : Type 0 where
  -- the identifier that it gives next
  pub next : ℕ
  -- the end of the block that this is of, and the greatest end that was asked for
  pub bound : ℕ
  pub asked : ℕ
  -- how many identifiers a further block has
  pub block : ℕ
  -- the failure of the device that its log keeps
  pub fault : Option IoError
  -- where the next record of its log may begin
  pub position : Position

-- Where a run stands.
pub record IdState : Type 0 where
  -- what is seen of the device
  pub device : DeviceView
  -- the next identifier isn't below the first of these, and not above the other
  pub next : ℕ
  pub most : ℕ
  -- the generator that is open, if one is
  pub generator : Option GeneratorView

-- a run that begins with none open
abbrev pub begins_at : DeviceView → ℕ → ℕ → IdState
begins_at device n most = record { device = device; next = n; most = most; generator = None }

-- the same over another device, with a generator or none open
abbrev pub stands_at : IdState → DeviceView → Option GeneratorView → IdState
stands_at a device generator = record a { device = device; generator = generator }

-- what a crash leaves that takes what was chosen, or doesn't
abbrev pub left_by : Left → Bool → Left
left_by chosen taken = if taken then chosen else Settled []

-- Only what the log itself wrote passes as its own in what a crash left.
abbrev pub IsOwnLeft : (List ℕ → ℕ) → ℕ → State → Left → Reply → Type 0
IsOwnLeft sum size s chosen (reply.Crashed taken) = NoForeign sum size s (content_left (left_by chosen taken) s)
IsOwnLeft sum size s chosen r = Unit {0}

-- So it is in what a recovery reads and in what a crash leaves. An opening that is refused reads nothing.
abbrev pub IsOwn : (List ℕ → ℕ) → ℕ → State → Command → Reply → Type 0
IsOwn sum size s command.Open reply.Refused = Unit {0}
IsOwn sum size s command.Open r = ReadsOnlyOwn sum size s
IsOwn sum size s (command.Crash choice) r = IsOwnLeft sum size s (left_of choice) r
IsOwn sum size s c r = Unit {0}

-- What a generator gives next.

-- the end of a further block, and how many bytes the item of that has
abbrev pub further : GeneratorView → ℕ
further v = min (v.bound + v.block) (2 ^ 64 - 1)

abbrev pub length_further : GeneratorView → ℕ
length_further v = length (short_number (further v))

-- the end of the block of the identifier that comes: the one that it is of, or behind it the one that was asked for already, or a further block
abbrev pub bound_next : GeneratorView → ℕ
bound_next v = if nat_lt v.next v.bound then v.bound else (if nat_lt v.bound v.asked then v.asked else further v)

-- where the next record of its log may begin then
abbrev pub position_next : ℕ → GeneratorView → Position
position_next size v =
    if nat_lt v.next v.bound then v.position
    else (if nat_lt v.bound v.asked then v.position
    else behind_record size (placed_at size v.position 0 (length_further v)) (size_at size v.position 0 (length_further v)))

-- It gave one out.
pub record HasGiven (size : ℕ) (v w : GeneratorView) : Type 0 where
  pub next : w.next ≡ v.next + 1
  pub bound : w.bound ≡ bound_next v
  pub asked : w.asked ≡ max v.asked (bound_next v)
  pub block : w.block ≡ v.block
  pub fault : w.fault ≡ v.fault
  pub position : w.position ≡ position_next size v

-- It gave none: the same one comes next, and it asked for the block of that one, which is asked for once, or for nothing.
pub record HasNotGiven (size : ℕ) (v w : GeneratorView) : Type 0 where
  pub next : w.next ≡ v.next
  pub bound : w.bound ≡ v.bound
  pub asked : w.asked ≤ v.asked + v.block
  pub once : ((w.asked ≡ v.asked) × (w.position ≡ v.position)) ⊎ ((w.asked ≡ bound_next v) × (w.position ≡ position_next size v))
  pub block : w.block ≡ v.block

-- What a command does to the device, whatever that has.

-- A recovery is made, and a log started; or their calls up to one that failed, or until damage is met.
abbrev pub OpenActs : (List ℕ → ℕ) → ℕ → DeviceView → Reply → DeviceView → Type 0
OpenActs sum size old reply.Opened new = HasStarted sum size old.trace new.trace × (new.failures ≡ old.failures)
OpenActs sum size old (reply.Failed e) new = OpenFails sum size e old.trace new.trace old.failures new.failures
OpenActs sum size old r new = ⊥

-- Buffers of the log are written, each whole unless the device failed. Within a block no call is made, and none fails; nor is one where a failure is kept.
abbrev pub NextActs : GeneratorView → DeviceView → Reply → DeviceView → Type 0
NextActs v old (reply.Given id) new = WritesBuffers {T = ℕ} (Ok id) old.trace new.trace × (new.failures ≡ old.failures) × (v.next < v.bound → new ≡ old)
NextActs v old (reply.Failed e) new = WritesBuffers {T = ℕ} (Err e) old.trace new.trace × (v.bound ≤ v.next) × (IsSome v.fault → new ≡ old)
NextActs v old r new = ⊥

-- The device crashed: what was chosen was taken exactly where a crash may leave that, and else what was synced. It is no longer stopped.
abbrev pub CrashActs : Left → DeviceView → Reply → DeviceView → Type 0
CrashActs chosen old (reply.Crashed taken) new =
    (IsTrue taken ↔ MayBeLeft chosen (state_of old.trace))
    × (new ≡ record { trace = Crashed (left_by chosen taken) ∷ old.trace; failures = old.failures; is_stopped = false })
CrashActs chosen old (reply.Failed OutOfMemory) new = new ≡ old
CrashActs chosen old r new = ⊥

-- It is to be stopped within a call, where it isn't stopped yet.
abbrev pub to_stop : ℕ → DeviceView → DeviceView
to_stop n old = record old { trace = if old.is_stopped then old.trace else StopAsked n ∷ old.trace }

-- A command is refused exactly where a generator is open that was to be opened, or none is that was to be used; then it leaves the device as it was, as
-- those do that aren't for it.
abbrev pub Acts : (List ℕ → ℕ) → ℕ → DeviceView → Option GeneratorView → Command → Reply → DeviceView → Type 0
Acts sum size old g (command.Crash choice) r new = CrashActs (left_of choice) old r new
Acts sum size old g (command.Stop n) r new = (r ≡ reply.Armed) × (new ≡ to_stop n old)
Acts sum size old None command.Open r new = OpenActs sum size old r new
Acts sum size old (Some v) command.Open r new = (r ≡ reply.Refused) × (new ≡ old)
Acts sum size old (Some v) command.Next r new = NextActs v old r new
Acts sum size old None command.Next r new = (r ≡ reply.Refused) × (new ≡ old)
Acts sum size old (Some v) command.Close r new = (r ≡ reply.Closed) × (new ≡ old)
Acts sum size old None command.Close r new = (r ≡ reply.Refused) × (new ≡ old)
Acts sum size old (Some v) (command.SetBlock block) r new = (r ≡ reply.Set) × (new ≡ old)
Acts sum size old None (command.SetBlock block) r new = (r ≡ reply.Refused) × (new ≡ old)

-- What it comes to.

-- a generator begins at a number, with no identifier left of a block
abbrev pub begun_view : ℕ → Position → GeneratorView
begun_view n position = record { next = n; bound = n; asked = n; block = 100; fault = None; position = position }

-- A generator is open, that begins where the calls which were made have it begin, or none for one of these reasons.
abbrev pub OpenStep : (List ℕ → ℕ) → ℕ → IdState → Reply → DeviceView → IdState → Type 0
OpenStep sum size a reply.Opened new b =
    (n : ℕ) × (position : Position) × HasOpened sum size n position a.device.trace new.trace
    × (a.next ≤ n) × (n ≤ a.most) × (b ≡ stands_at a new (Some (begun_view n position)))
OpenStep sum size a (reply.Failed e) new b = IsOpenError e × CountsError e a.device.failures new.failures × (b ≡ stands_at a new None)
OpenStep sum size a r new b = ⊥

-- The next identifier is given out, which is above all before it, or none for one of these reasons. What comes next is above it, by no more than a block.
abbrev pub NextStep : (IdState → Type 0) → ℕ → IdState → GeneratorView → Reply → DeviceView → IdState → Type 0
NextStep UsedUp size a v (reply.Given id) new b = (id ≡ v.next) × (a.next ≤ id) × (id ≤ a.most)
    × (w : GeneratorView) × HasGiven size v w × (b ≡ record { device = new; next = id + 1; most = a.most + v.block; generator = Some w })
NextStep UsedUp size a v (reply.Failed e) new b =
    (w : GeneratorView) × HasNotGiven size v w × NextFails e (UsedUp a) v.fault w.fault a.device.failures new.failures
    × (b ≡ record { device = new; next = a.next; most = a.most + v.block; generator = Some w })
NextStep UsedUp size a v r new b = ⊥

-- The device crashed, and no generator is open. Without memory for what was chosen nothing is done.
abbrev pub CrashStep : IdState → Reply → DeviceView → IdState → Type 0
CrashStep a (reply.Crashed taken) new b = b ≡ stands_at a new None
CrashStep a r new b = b ≡ stands_at a new a.generator

-- A further block has so many identifiers.
abbrev pub with_block : ℕ → GeneratorView → GeneratorView
with_block n v = record v { block = n }

-- What a command comes to: one that is refused changes nothing.
abbrev pub IsStep : (List ℕ → ℕ) → (IdState → Type 0) → ℕ → IdState → Option GeneratorView → Command → Reply → DeviceView → IdState → Type 0
IsStep sum UsedUp size a g (command.Crash choice) r new b = CrashStep a r new b
IsStep sum UsedUp size a g (command.Stop n) r new b = b ≡ stands_at a new g
IsStep sum UsedUp size a None command.Open r new b = OpenStep sum size a r new b
IsStep sum UsedUp size a (Some v) command.Open r new b = b ≡ a
IsStep sum UsedUp size a (Some v) command.Next r new b = NextStep UsedUp size a v r new b
IsStep sum UsedUp size a None command.Next r new b = b ≡ a
IsStep sum UsedUp size a (Some v) command.Close r new b = b ≡ stands_at a new None
IsStep sum UsedUp size a None command.Close r new b = b ≡ a
IsStep sum UsedUp size a (Some v) (command.SetBlock block) r new b = b ≡ stands_at a new (Some (with_block (non_zero_u64_get block) v))
IsStep sum UsedUp size a None (command.SetBlock block) r new b = b ≡ a

-- A command was carried out from where a run stands, and did this to the device, whose trace goes on. Where it reads or leaves nothing foreign, it comes to
-- a step, and what is claimed of where that leads holds.
pub record Carries (sum : List ℕ → ℕ) (size : ℕ) (UsedUp : IdState → Type 0) (a : IdState) (c : Command) (r : Reply) (Leads : IdState → Type 0) : Type 0 where
  pub new : DeviceView
  pub later : IsLater a.device.trace new.trace
  pub acts : Acts sum size a.device a.generator c r new
  pub step : IsOwn sum size (state_of a.device.trace) c r → (b : IdState) × IsStep sum UsedUp size a a.generator c r new b × Leads b

-- These commands are answered by these replies, from where a run stands on. What is claimed of each place between two commands holds behind each of them,
-- and what is claimed of the end holds there. Where a command reads or leaves what is foreign, nothing more is claimed from there on.
unfoldable pub IdRuns : (List ℕ → ℕ) → ℕ → (Between UsedUp : IdState → Type 0) → IdState → List Command → List Reply → (IdState → Type 0) → Type 0
IdRuns sum size Between UsedUp a [] [] Leads = Leads a
IdRuns sum size Between UsedUp a (c ∷ cs) (r ∷ rs) Leads = Carries sum size UsedUp a c r (λ b. Between b × IdRuns sum size Between UsedUp b cs rs Leads)
IdRuns sum size Between UsedUp a [] (r ∷ rs) Leads = ⊥
IdRuns sum size Between UsedUp a (c ∷ cs) [] Leads = ⊥
