-- What a log has of its slots and its marks, and what the accountant makes of that behind the write of a buffer.
use Rattle.std.specs.Prelude.{ℕ}
use Rattle.sled_store.specs.SegmentStates.{Machine, Step, stabilized}
use Rattle.sled_core.specs.Account.{Account}

-- The slots, as the accountant has them, and which marks count.
pub record Ledger : Type 0 where
  pub machine : Machine
  pub account : Account

-- What the accountant makes of it for the mark that joined, and the calls that are due then: the segments that the mark leaves behind are no longer active, the
-- blobs go that were replaced in them, and slots come free.
unfoldable pub freeing_step : ℕ → Ledger → Step
freeing_step size l = stabilized size l.account.mark l.machine
