-- What is read of the device of a log that fits a history is the log's own, as long as the log keeps no failure and all of the file is shown: what is shown was
-- placed by the log. All of it is as long as no mark joined that is above the floor, and where nothing in it is stale.
use Rattle.std.proofs.Common.{◌≡◌, ◌≤ℤ◌, ℕ, pos, List, None, sym, subst, map}
use Rattle.sled_codec.specs.History.{History, Message}
use Rattle.sled_store.specs.Device.{LogState, State, Trace, state_of}
use Rattle.sled_store.specs.Foreign.{NoForeignLog}
use Rattle.sled_core.specs.Account.{account_of}
use Rattle.sled_core.specs.Begun.{segment_view}
use Rattle.sled_core.specs.declared.logger.Log.{Log}
use Rattle.sled_core.specs.Fits.{device_of, fault_of, line_of, machine_at, noted_in, pins_of, reserved_end, segment_size_of}
use Rattle.sled_core.specs.Logged.{logged}
use Rattle.sled_core.specs.Recoverable.{NoHeaderOfZeros, ReadsOnlyOwn}
use Rattle.sled_core.specs.Stale.{NothingStale}
use Rattle.sled_core.specs.inside.Cleared.{cleared}
use Rattle.sled_core.specs.inside.OwnLog.{ReadsPlaced}
use Rattle.sled_core.specs.inside.Running.{FitsWith}
use Rattle.sled_core.specs.invariants.Running.{Fits}
use Rattle.sled_core.proofs.Line.Ends.{line_holds}
use Rattle.sled_core.proofs.Line.OwnSlots.{reads_placed}
use Rattle.sled_core.proofs.Line.Segments.{line_segments}
use Rattle.sled_core.proofs.Line.Shown.{fits_whole}
use Rattle.sled_core.proofs.Line.Stale.{nothing_stale}
use Rattle.sled_core.proofs.OwnLog.NoneForeign.{none_foreign}

module _ {D C : Type 0} (trace : D → Trace) (sum : List ℕ → ℕ) (log : Log D C) (H : History) (A f : ℕ) (U : List Message)
    (fits : Fits trace sum log H A f U) (none : fault_of log ≡ None) (zeros : NoHeaderOfZeros sum) where
  abbrev size : ℕ
  size = segment_size_of log

  abbrev device : State
  device = state_of (trace (device_of log))

  -- It is so where all of the file is shown,
  reads_own_whole : cleared size (machine_at log) (line_of log) device.log.bytes ≡ device.log.bytes → ReadsOnlyOwn sum size device
  unfolding Fits
  reads_own_whole whole =
      let its : FitsWith sum log.marks (noted_in log) size device (fault_of log) (line_of log) (machine_at log) (pins_of log) H A f U =
      fits_whole sum log.marks (noted_in log) size device (fault_of log) (machine_at log) (line_of log) (pins_of log) H A f U none whole fits in
      let placed : ReadsPlaced sum size device =
      reads_placed sum size log.config.config.least zeros device (fault_of log) none log.segments.first.site.place (line_of log) (line_segments log) (logged H)
      log.marks (line_holds sum size device (fault_of log) log.marks (line_of log) its.reach (pins_of log) H A f U its.parts) (its.own none zeros) in
      record {
        log = subst (λ (l : LogState). NoForeignLog sum size l device.placed device.log.bytes) (sym (fits.rests none))
            (none_foreign sum size device.placed device.log.bytes placed);
        names = its.parts.named.own_names none;
        zeros = zeros;
      }

  -- as it is while no mark above the floor joined,
  pub fits_reads_own : (account_of log).mark ≤ℤ pos f → ReadsOnlyOwn sum size device
  unfolding Fits
  fits_reads_own low = reads_own_whole (fits.clean none low).0

  -- and where nothing in it is stale.
  pub fits_reads_own_unless_stale : NothingStale trace log → ReadsOnlyOwn sum size device
  unfolding Fits
  fits_reads_own_unless_stale none_stale =
      reads_own_whole (nothing_stale size (reserved_end log) (machine_at log) (segment_view log.segments.first) (map segment_view log.segments.behind.items)
      device.log.bytes log.line.filled fits.shows.slots.taken none_stale)
