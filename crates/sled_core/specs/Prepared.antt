-- What a log is made ready for: a record that will stand behind all bytes of its current segment.
use Rattle.std.specs.Prelude.{◌≡◌, ℕ, List}
use Rattle.sled_core.specs.declared.logger.Log.{Log}
use Rattle.sled_core.specs.Fits.{KeepsTickets, pooled_behind, pooled_of, target_of, waiting_behind}
use Rattle.sled_core.specs.LogStatus.{LeavesStatus, readied, status_of}
use Rattle.sled_core.specs.Marked.{BeginsMarked}

-- What a caller sees of a log that was made ready for the record of a page's message with a body of n bytes, and has none: that would stand where it was to
-- stand, behind what fills the current segment if it has to, in the slot that was handed out then, and what was reserved ends where it did.
pub record IsMadeReady {D C : Type 0} (sum : List ℕ → ℕ) (old new : Log D C) (page n : ℕ) : Type 0 where
  pub tickets : KeepsTickets old new
  pub stands : LeavesStatus (waiting_behind sum old page n) (readied (target_of old page n) (status_of old)) new
  pub pooled : pooled_of new ≡ pooled_behind old page n
  pub marked : BeginsMarked sum old new
