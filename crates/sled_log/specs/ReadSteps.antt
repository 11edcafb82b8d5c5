-- What the reading of a page comes to.
use Rattle.std.specs.Prelude.{unsigned_abs, ◌≡◌, ◌⊎◌, ◌≤◌, ◌∷◌, ◌++◌, nat_lt, ℕ, pos, if◌then◌else◌, true, List, [], map, Option, None, Some, Vec}
use Rattle.std.specs.declared.alloc.Global.{Global}
use Rattle.sled_codec.specs.declared.result.Error.{Error}
use Rattle.sled_codec.specs.declared.result.Error.TheVariants.{OutOfMemory}
use Rattle.sled_codec.specs.declared.serialization.message.LogKind.TheVariants as does
use Rattle.sled_codec.specs.History.{Message}
use Rattle.sled_store.specs.SegmentStates.{Machine}
use Rattle.sled_core.specs.Account.{Account, account_behind}
use Rattle.sled_core.specs.Ledger.{ledger_behind}
use Rattle.sled_core.specs.ReadPointer.{place_read}
use Rattle.sled_core.specs.Waiting.{BufferAt, Span, free_around, one_around}
use Rattle.sled_core.specs.LogStatus.{failing, ledger_around, seal_around, sealed_around, wrote_around}
use Rattle.sled_core.specs.Spans.{held, spans_place}
use Rattle.sled_log.specs.declared.session.command.Reply.{Reply}
use Rattle.sled_log.specs.declared.session.command.Reply.TheVariants as reply
use Rattle.sled_log.specs.RunStates.{DeviceView, EndsInReach, LogView, RunState, is_present}
use Rattle.sled_log.specs.RunStates.{with_status, with_log}
use Rattle.sled_log.specs.WriteSteps.{Fails, IfHeld, KeepsFailing, LeavesLogAt, StepFailed, Writes, WritesSome}

-- the place that a read of a message brings to the device: its own, or that of its blob
abbrev pub read_at : Message → ℕ
read_at m = unsigned_abs (place_read (pos m.place) m.pointer)

-- the log once the buffer of a place, which is one of these, is on the device, where the place wasn't stable; the one that is written for that; and what
-- holds that buffer up
abbrev pub read_around : ℕ → LogView → ℕ → List BufferAt → LogView
read_around size l at bs =
    if nat_lt at l.status.synced then l
    else with_status l (wrote_around size at (ledger_behind size (one_around at bs) (ledger_around at l.status)) l.status)

abbrev pub chosen_around : LogView → ℕ → List BufferAt → List BufferAt
chosen_around l at bs = if nat_lt at l.status.synced then [] else free_around at bs

abbrev pub held_around_place : List ℕ → ℕ → List Span → Option ℕ
held_around_place places at [] = None
held_around_place places at (s ∷ ss) = if spans_place at s then held places s else held_around_place places at ss

abbrev pub holding_read : LogView → ℕ → Option ℕ
holding_read l at = if nat_lt at l.status.synced then None else held_around_place l.status.opens at (sealed_around at l.status)

-- The buffer with a place is on the device: it was written, where the place wasn't stable.
pub record BringsToDevice (sum : List ℕ → ℕ) (size : ℕ) (l : LogView) (at : ℕ) (old new : DeviceView) : Type 0 where
  pub free : holding_read l at ≡ None
  pub writes : Writes sum size l (sealed_around at l.status) (chosen_around l at) (ledger_around at l.status) old new
  pub failures : new.failures ≡ old.failures

-- These messages were read, one behind another, and lead from one log to another.
abbrev pub ReadsAll : (List ℕ → ℕ) → ℕ → LogView → List Message → DeviceView → DeviceView → LogView → Type 0
ReadsAll sum size l [] old new end = (new.trace ≡ old.trace) × (new.failures ≡ old.failures) × (end ≡ l)
ReadsAll sum size l (m ∷ ms) old new end =
    (mid : DeviceView) × (reads : BringsToDevice sum size l (read_at m) old mid)
    × ReadsAll sum size (read_around size l (read_at m) reads.writes.buffers) ms mid new end

-- A read of a place failed: the buffer that has it is sealed, or isn't and the read wasn't held up, and it isn't written: where it is the current one that
-- isn't sealed, the device didn't fail. Or nothing held it up and it is written: what it has wasn't read, or the accountant's step behind the write failed.
abbrev pub FailsAt : (List ℕ → ℕ) → ℕ → RunState → LogView → ℕ → Error → DeviceView → DeviceView → RunState → Type 0
FailsAt sum size a l at e old new b =
    Fails l e (holding_read l at) ((l.status.start.place ≤ at) × (EndsInReach size l.status.position → ⊥)) old new (λ fault.
    (WritesSome sum size l (sealed_around at l.status) (chosen_around l at) (ledger_around at l.status) 0 e fault old new
    × ((IfHeld e ⊥ × LeavesLogAt a l new b (failing fault l.status) × (l.status.start.place ≤ at → fault ≡ None))
    ⊎ LeavesLogAt a l new b (failing fault (seal_around size at l.status))))
    ⊎ ((holding_read l at ≡ None) × (writes : Writes sum size l (sealed_around at l.status) (chosen_around l at) (ledger_around at l.status) old new)
    × LeavesLogAt a l new b (failing fault (wrote_around size at (ledger_behind size (one_around at writes.buffers) (ledger_around at l.status)) l.status)))
    ⊎ ((holding_read l at ≡ None)
    × (some : WritesSome sum size l (sealed_around at l.status) (chosen_around l at) (ledger_around at l.status) 1 e fault old new)
    × (account : Account) × (account ≡ account_behind (one_around at some.buffers) l.status.account)
    × (left : Machine) × StepFailed size l account.mark (ledger_around at l.status).machine left fault new.trace
    × LeavesLogAt a l new b (failing fault (wrote_around size at (record { machine = left; account = account }) l.status))))

-- Some messages of a page were read, and the next one was not.
pub record ReadStops (sum : List ℕ → ℕ) (size : ℕ) (a : RunState) (l : LogView) (ms : List Message) (e : Error) (new : DeviceView) (b : RunState) : Type 0 where
  pub done : List Message
  pub message : Message
  pub rest : List Message
  pub split : ms ≡ done ++ message ∷ rest
  pub mid : DeviceView
  pub log : LogView
  pub so_far : ReadsAll sum size l done a.device mid log
  pub fails : FailsAt sum size a log (read_at message) e mid new b

-- All messages of a page that is present were read, and their items are answered.
pub record HasRead (sum : List ℕ → ℕ) (size : ℕ) (a : RunState) (l : LogView) (ms : List Message) (items : List (Vec ℕ Global)) (new : DeviceView)
    (b : RunState) : Type 0 where
  pub present : is_present ms ≡ true
  pub sound : l.status.fault ≡ None
  pub items_are : map (λ v. v.items) items ≡ map (λ m. m.bytes) ms
  pub log : LogView
  pub reads : ReadsAll sum size l ms a.device new log
  pub leads : b ≡ with_log a new (Some log)

-- Memory for the list of items was refused before one was read, and nothing was done.
abbrev pub ReadsNone : RunState → LogView → Error → DeviceView → RunState → Type 0
ReadsNone a l OutOfMemory new b = (l.status.fault ≡ None) × (new ≡ a.device) × (b ≡ a)
ReadsNone a l _ new b = ⊥

abbrev pub ReadStep : (List ℕ → ℕ) → ℕ → RunState → LogView → List Message → Reply → DeviceView → RunState → Type 0
ReadStep sum size a l ms (reply.Page items) new b = HasRead sum size a l ms items.items new b
ReadStep sum size a l ms reply.FreePage new b = ((m : Message) × (ms ≡ m ∷ []) × (m.kind ≡ does.Free)) × (new ≡ a.device) × (b ≡ a)
ReadStep sum size a l ms (reply.Failed e) new b = KeepsFailing a l e new b ⊎ ReadsNone a l e new b ⊎ ReadStops sum size a l ms e new b
ReadStep sum size a l ms _ new b = ⊥
