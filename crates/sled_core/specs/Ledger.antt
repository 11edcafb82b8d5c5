-- What the writes of buffers make of a log's slots and marks, and all calls that they come to: behind each buffer the accountant makes a step.
use Rattle.std.specs.Prelude.{if◌then◌else◌, ℕ, ℤ, List, [], ◌∷◌, ◌++◌, Option}
use Rattle.sled_store.specs.Device.{Event}
use Rattle.sled_store.specs.SegmentStates.{Step}
use Rattle.sled_core.specs.Account.{written_account}
use Rattle.sled_core.specs.Freeing.{Ledger, freeing_step}
use Rattle.sled_core.specs.SealedBuffers.{writing}
use Rattle.sled_core.specs.Waiting.{BufferAt}

-- The accountant's step for the mark that joined. Where a pin is out it does nothing: no mark joins then, so nothing new is due.
abbrev pub ledger_step : ℕ → Ledger → Step
ledger_step size l = if l.account.pinned then record { machine = l.machine; calls = [] } else freeing_step size l

-- so the slots are behind it
abbrev pub stepped_ledger : ℕ → Ledger → Ledger
stepped_ledger size l = record { machine = (ledger_step size l).machine; account = l.account }

-- The marks, behind the write of a buffer that begins with a header of this mark, or with none.
abbrev pub marked_ledger : Option ℤ → Ledger → Ledger
marked_ledger mark l = record { machine = l.machine; account = written_account mark l.account }

-- The step behind that,
abbrev pub written_step : ℕ → Option ℤ → Ledger → Step
written_step size mark l = ledger_step size (marked_ledger mark l)

-- and so the slots and the marks are behind it,
abbrev pub written_ledger : ℕ → Option ℤ → Ledger → Ledger
written_ledger size mark l = stepped_ledger size (marked_ledger mark l)

-- and behind the writes of these, one behind another
abbrev pub ledger_behind : ℕ → List BufferAt → Ledger → Ledger
ledger_behind size [] l = l
ledger_behind size (b ∷ bs) l = ledger_behind size bs (written_ledger size b.mark l)

-- The calls that write these and settle each, with those of the step behind it.
abbrev pub writings : ℕ → List BufferAt → Ledger → List Event
writings size [] l = []
writings size (b ∷ bs) l = writing b.lid b.bytes ((written_step size b.mark l).calls ++ writings size bs (written_ledger size b.mark l))
