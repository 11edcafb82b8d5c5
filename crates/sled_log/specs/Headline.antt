-- The headline of `Session::run` by itself: what its recoveries give, for what was completed and acknowledged before them.
--
-- Each recovery that succeeds gives the table of the completed messages below one cut, with every batch whole or not at all. The cut passes all that was
-- acknowledged, and isn't below that of the recovery before. A flush that succeeds acknowledges all that was completed, and a write up to a place what lies
-- there or below it. What is completed is what was reserved, under the ticket that was answered; and nothing but a recovery forgets a completed message.
use Rattle.std.specs.Prelude.{◌≡◌, ◌⊎◌, ◌+◌, ◌≤◌, ◌≤ℤ◌, ◌∷◌, ◌++◌, ℕ, pos, set, List, [], length, map, slice_get, None, Some, IsTrue, Contains}
use Rattle.sled_codec.specs.declared.serialization.message.LogKind.{LogKind}
use Rattle.sled_codec.specs.declared.serialization.message.LogKind.TheVariants as does
use Rattle.sled_codec.specs.Spelling.{short_bytes}
use Rattle.sled_codec.specs.Snapshots.{SnapshotModel, stable_place}
use Rattle.sled_codec.specs.History.{Batch, Batched, Completed, HistoryEvent, Message, Step, below}
use Rattle.sled_store.specs.Device.{content_of, state_of}
use Rattle.sled_core.specs.Good.{IsGood}
use Rattle.sled_core.specs.Manifests.{manifest_page}
use Rattle.sled_log.specs.declared.session.command.Command.{Command}
use Rattle.sled_log.specs.declared.session.command.Command.TheVariants as command
use Rattle.sled_log.specs.declared.session.command.Reply.{Reply}
use Rattle.sled_log.specs.declared.session.command.Reply.TheVariants as reply
use Rattle.sled_log.specs.OpenSteps.{IsShown, IsStartCause}
use Rattle.sled_log.specs.Runs.{CrashActs, IsOwn, told}
use Rattle.sled_log.specs.RunStates.{DeviceView, HasAll, RunState, page_now, tickets_of}
use Rattle.sled_log.specs.TicketSteps.{blank_manifest}

-- Nothing is completed, acknowledged or forgotten. Tickets may be spent, one or all.
abbrev pub Stays : RunState → RunState → Type 0
Stays p q = ((tickets_of q ≡ tickets_of p) ⊎ (tickets_of q ≡ []) ⊎ ((t : ℕ) × (tickets_of q ≡ set (tickets_of p) t None)))
    × (q ≡ record p { device = q.device; log = q.log; due = q.due })

-- A ticket is given, under the next number, for a message of this kind, page and item, at the place and with the pointer that are told; or none is.
abbrev pub GivesTicket : RunState → LogKind → ℕ → List ℕ → Reply → RunState → Type 0
GivesTicket p kind page bytes (reply.Reserved number place pointer) q =
    (m : Message) × (m.kind ≡ kind) × (m.page ≡ page) × (m.bytes ≡ bytes) × (pos m.place ≡ place) × (m.pointer ≡ pointer) × (number ≡ length (tickets_of p))
    × (tickets_of q ≡ tickets_of p ++ Some m ∷ []) × (q ≡ record p { device = q.device; log = q.log; due = q.due })
GivesTicket p kind page bytes _ q = Stays p q

-- This comes to the history, for the message of a ticket, which is spent.
abbrev pub Comes : RunState → ℕ → Message → HistoryEvent → RunState → Type 0
Comes p t m event q = (slice_get (tickets_of p) t ≡ Some (Some m)) × Step p.history event q.history × (tickets_of q ≡ set (tickets_of p) t None)
    × (q ≡ record p { device = q.device; history = q.history; log = q.log; due = q.due })

-- The completed messages that are meant are acknowledged.
abbrev pub Acknowledges : RunState → (Message → Type 0) → RunState → Type 0
Acknowledges p Meant q = (p.acknowledged ≤ q.acknowledged) × ((m : Message) → Contains p.history.messages m → Meant m → m.place + m.size ≤ q.acknowledged)
    × (tickets_of q ≡ tickets_of p) × (q ≡ record p { device = q.device; acknowledged = q.acknowledged; log = q.log; due = q.due })

-- A recovery gave this snapshot: the table of what was completed below its cut, as `IsGood` says. What lies past the cut is forgotten.
abbrev pub RecoveryGives : (List ℕ → ℕ) → ℕ → RunState → SnapshotModel → RunState → Type 0
RecoveryGives sum size p s q = IsGood sum size (content_of (state_of q.device.trace)) p.history p.acknowledged p.floor s × (tickets_of q ≡ [])
    × (q ≡ record p { device = q.device; history = below p.history (stable_place s.stable); floor = stable_place s.stable; log = q.log; due = q.due })

-- What a command that is answered so comes to. An opening that fails has a cause, and may have recovered before.
abbrev pub Moves : (List ℕ → ℕ) → ℕ → RunState → Command → Reply → RunState → Type 0
Moves sum size p (command.Replace page item) r q = GivesTicket p does.Replace page (short_bytes item.items) r q
Moves sum size p (command.Link page item) r q = GivesTicket p does.Link page (short_bytes item.items) r q
Moves sum size p (command.Free page) r q = GivesTicket p does.Free page [] r q
Moves sum size p (command.Rewrite page) (reply.Reserved n place pointer) q =
    (m : Message) × (page_now p.history page ≡ m ∷ []) × GivesTicket p does.Replace page m.bytes (reply.Reserved n place pointer) q
Moves sum size p command.BeginBatch r q = GivesTicket p does.Skip manifest_page blank_manifest r q
Moves sum size p command.EndBatch (reply.Done z pointer) q =
    (t : ℕ) × (m : Message) × (b : Batch) × (m.page ≡ manifest_page) × (pos m.place ≡ z) × (b.low ≡ m.place) × HasAll p b × Comes p t m (Batched b) q
Moves sum size p (command.Complete t) (reply.Done place pointer) q = (m : Message) × Comes p t m (Completed m) q
Moves sum size p command.Flush (reply.Flushed n) q = Acknowledges p (λ m. Unit {0}) q
Moves sum size p (command.Stable l) (reply.Flushed n) q = Acknowledges p (λ m. pos m.place ≤ℤ l) q
Moves sum size p command.Open (reply.Opened stable active pages) q = (s : SnapshotModel) × IsShown stable active pages s × RecoveryGives sum size p s q
Moves sum size p command.Open (reply.Failed e) q =
    IsStartCause e p.device.failures q.device.failures × (Stays p q ⊎ ((s : SnapshotModel) × RecoveryGives sum size p s q))
Moves sum size p command.Open reply.Stopped q = IsTrue q.device.is_stopped × (Stays p q ⊎ ((s : SnapshotModel) × RecoveryGives sum size p s q))
Moves sum size p c r q = Stays p q

-- What is told besides, whatever the device has: a `Read` that is answered by items gives those of the page's messages, its Replace first, and of a page that
-- is free there is a Free; a crash leaves what was chosen where that may be, else what was synced, and closes the log; and so does a halt.
abbrev pub Tells : RunState → Command → Reply → RunState → Type 0
Tells p (command.Read page) (reply.Page items) q = map (λ v. v.items) items.items ≡ map (λ m. m.bytes) (page_now p.history page)
Tells p (command.Read page) reply.FreePage q = (m : Message) × (page_now p.history page ≡ m ∷ []) × (m.kind ≡ does.Free)
Tells p (command.Crash choice) (reply.Crashed taken) q = CrashActs choice p.device (reply.Crashed taken) q.device × (q.log ≡ None)
Tells p command.Halt reply.Halted q = q.log ≡ None
Tells p c r q = Unit {0}

-- A command is answered so, from where a run stands.
pub record CommandOutcome (sum : List ℕ → ℕ) (size : ℕ) (p : RunState) (c : Command) (r : Reply) (Leads : RunState → Type 0) : Type 0 where
  -- where the run stands then
  pub after : RunState
  pub tells : Tells p c r after
  -- What that means for what was completed and acknowledged, and what is claimed of where it leads, holds where only what the log itself wrote passes as its
  -- own, in what a recovery reads and in what a crash leaves.
  pub means : IsOwn sum size (state_of p.device.trace) c r → Moves sum size p c r after
  pub leads : IsOwn sum size (state_of p.device.trace) c r → Leads after

-- The commands are answered one behind another, each from where the one before led to. What is claimed of each place between two commands holds there, and
-- what is claimed of the end. `Runs` says besides what each command asks of the device, and where exactly its log stands then; and the law
-- `what_a_step_means` says of the places that it tells of what is said here of these.
unfoldable pub Outcomes : (List ℕ → ℕ) → ℕ → (RunState → Type 0) → RunState → List Command → List Reply → (RunState → Type 0) → Type 0
Outcomes sum size Between p [] [] End = End p
Outcomes sum size Between p (c ∷ cs) (r ∷ rs) End = CommandOutcome sum size p c r (λ q. Between q × Outcomes sum size Between q cs rs End)
Outcomes sum size Between p [] (r ∷ rs) End = ⊥
Outcomes sum size Between p (c ∷ cs) [] End = ⊥

-- A step of a run, as its full account has it (`Runs`), is told so, and where only what the log itself wrote passes as its own it means this.
pub record MeansStep (sum : List ℕ → ℕ) (size : ℕ) (a : RunState) (c : Command) (came : Reply) (new : DeviceView) (b : RunState) : Type 0 where
  pub tells : Tells a c (told new.is_stopped came) b
  pub means : IsOwn sum size (state_of a.device.trace) c came → Moves sum size a c (told new.is_stopped came) b
