-- Within a command, a crash leaves what can be recovered.
use Rattle.std.proofs.Common.{◌≡◌, ◌∷◌, ℕ, List}
use Rattle.sled_codec.specs.History.{History}
use Rattle.sled_store.specs.Device.{Event, Trace, state_of, step}
use Rattle.sled_store.specs.Moments.{AllLeft, LeavesOnly}
use Rattle.sled_store.proofs.Traces.MomentLemmas.{added, started, stays}
use Rattle.sled_core.specs.declared.logger.Log.{Log}
use Rattle.sled_core.specs.Fits.{device_of, segment_size_of}
use Rattle.sled_core.specs.Keeps.{GoesOn}
use Rattle.sled_core.specs.Recoverable.{LeavesRecoverable, RecoverableIfOwn}
use Rattle.sled_core.proofs.Line.NumbersKept.{fits_leaves}
use Rattle.sled_log.specs.declared.session.opened.Opened.{Opened}
use Rattle.sled_log.specs.RunPhases.{IsOpenAt, Unstored}

module _ (sum : List ℕ → ℕ) (size : ℕ) (H : History) (A f : ℕ) (old new : Trace) (left : LeavesRecoverable sum size H A f (state_of old)) where
  -- nothing is done
  pub still_there : new ≡ old → LeavesOnly (RecoverableIfOwn sum size H A f) old new
  still_there same = stays (AllLeft (RecoverableIfOwn sum size H A f)) old old new (started (AllLeft (RecoverableIfOwn sum size H A f)) old left) same

  -- one event
  pub one_more : (e : Event) → new ≡ e ∷ old → LeavesRecoverable sum size H A f (step e (state_of old)) → LeavesOnly (RecoverableIfOwn sum size H A f) old new
  one_more e is after = added (AllLeft (RecoverableIfOwn sum size H A f)) e old new is left after

-- While a log is open,
module _ {D C : Type 0} (trace : D → Trace) (sum : List ℕ → ℕ) (opened : Opened D C) (k : Unstored) (at : IsOpenAt trace sum opened k) where
  abbrev Stays : Trace → Type 0
  Stays now = LeavesOnly (RecoverableIfOwn sum (segment_size_of opened.log) k.history k.acknowledged k.floor) (trace (device_of opened.log)) now

  -- where nothing is done on its device,
  pub untouched : (now : Trace) → now ≡ trace (device_of opened.log) → Stays now
  untouched now same =
      still_there sum (segment_size_of opened.log) k.history k.acknowledged k.floor (trace (device_of opened.log)) now
      (fits_leaves trace sum opened.log k.history k.acknowledged k.floor at.unmarked at.fits) same

  -- and where the log goes on.
  pub going_on : (new : Log D C) → GoesOn trace sum opened.log new → Stays (trace (device_of new))
  going_on new on = on.crash k.history k.acknowledged k.floor at.unmarked at.fits
