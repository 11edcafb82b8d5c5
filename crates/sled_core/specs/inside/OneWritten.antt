-- What a call leaves that writes one buffer, and fails.
use Rattle.std.specs.Prelude.{◌≡◌, ℕ, List, suc, set, slice_get, Some}
use Rattle.sled_store.specs.Device.{Trace}
use Rattle.sled_core.specs.Account.{account_of, written_account}
use Rattle.sled_core.specs.Begun.{SegmentView}
use Rattle.sled_core.specs.declared.logger.Log.{Log}
use Rattle.sled_core.specs.Fits.{KeepsTickets, device_of, ledger_of, line_of, machine_at, segment_size_of}
use Rattle.sled_core.specs.Fronts.{IsOnTheWay, WroteNone, synced_writes}
use Rattle.sled_core.specs.Keeps.{FailedStep, Preserves, SamePlace}
use Rattle.sled_core.specs.inside.Turned.{mark_of, promoted, written_now}

-- What the write of a buffer keeps before the accountant's step: what the log holds and goes on fitting, and its tickets; and where the next record begins, but
-- that a mark may join.
pub record KeepsOne {D C : Type 0} (trace : D → Trace) (sum : List ℕ → ℕ) (old new : Log D C) : Type 0 where
  pub preserves : Preserves trace sum old new
  pub tickets : KeepsTickets old new
  pub position : SamePlace old new

-- None was written: segments, slots and marks are as they were.
pub record WritesNone {D C : Type 0} (trace : D → Trace) (old new : Log D C) : Type 0 where
  pub line : line_of new ≡ line_of old
  pub none : WroteNone trace old new
  pub ledger : ledger_of new ≡ ledger_of old

-- It was written, the k-th of the n-th segment, and its mark counts; but the accountant's step behind it failed.
pub record WroteOne {D C : Type 0} (trace : D → Trace) (n k : ℕ) (old new : Log D C) : Type 0 where
  pub failed : FailedStep old new
  pub line : (v : SegmentView) → slice_get (line_of old) n ≡ Some v → line_of new ≡ promoted (segment_size_of old) (set (line_of old) n (written_now k v))
  pub account : (v : SegmentView) → slice_get (line_of old) n ≡ Some v → account_of new ≡ written_account (mark_of k v) (account_of old)
  pub written : synced_writes (trace (device_of new)) ≡ suc (synced_writes (trace (device_of old)))
  pub way : IsOnTheWay trace new (machine_at old)
