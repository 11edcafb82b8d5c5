-- A log that fits a history keeps its numbers: in the slots that tables need from the stable place on nothing that is the log's own has a greater number. So
-- what a crash leaves of its device can be recovered, and lasts.
use Rattle.std.specs.declared.io.Error.{Error as IoError}
use Rattle.std.proofs.Common.{ℕ, List, Option, arith, refl, ◌≤◌}
use Rattle.sled_codec.specs.History.{Batch, History, Message}
use Rattle.sled_store.specs.Device.{State, Trace, state_of}
use Rattle.sled_store.specs.SegmentStates.{Machine}
use Rattle.sled_store.proofs.Histories.Ascending.{Ascends, apart_ascends}
use Rattle.sled_core.specs.Begun.{SegmentView}
use Rattle.sled_core.specs.declared.logger.Log.{Log}
use Rattle.sled_core.specs.Fits.{device_of, fault_of, line_of, machine_at, noted_in, pins_of, segment_size_of}
use Rattle.sled_core.specs.NoForeign.{NoHeaderOfZeros}
use Rattle.sled_core.specs.OpenBatches.{stable_below}
use Rattle.sled_core.specs.inside.Begun.{line_end}
use Rattle.sled_core.specs.Recoverable.{LeavesRecoverable}
use Rattle.sled_core.specs.declared.logger.joined_marks.JoinedMarks.{JoinedMarks}
use Rattle.sled_core.specs.inside.Lasting.{IsLasting}
use Rattle.sled_core.specs.inside.Numbers.{HasNumbers, NumbersStay}
use Rattle.sled_core.specs.inside.Running.{FitsShown, FitsWith}
use Rattle.sled_core.specs.inside.Shown.{shown_of}
use Rattle.sled_core.specs.invariants.Running.{Fits}
use Rattle.sled_core.proofs.Holds.ReachLemmas.{fits_apart}
use Rattle.sled_core.proofs.Line.Faulty.{numbers_placed}
use Rattle.sled_core.proofs.Line.LeftShown.{log_leaves}
use Rattle.sled_core.proofs.Line.Writes.{passes_line}
use Rattle.sled_core.proofs.Numbers.Lasting.{lasting_leaves}
use Rattle.sled_core.proofs.Numbers.Stay.{numbers_stay}
use Rattle.sled_core.proofs.Tail.MarkPlaces.{begins_within}
use Rattle.sled_core.specs.LogSegments.{begins_from}
use Rattle.sled_core.specs.inside.LogSegments.{held_since}

-- So it is of each state of the device in which no slot has a greater number.
pub stays_in : (sum : List ℕ → ℕ) (noted : List Batch) (size : ℕ) → 256 ≤ size → (device : State) (fault : Option IoError) (line : List SegmentView) (m : Machine)
    (pins : ℕ) (H : History) (A f : ℕ) (U : List Message) → {marks : JoinedMarks} (fits : FitsWith sum marks noted size device fault line m pins H A f U) → Ascends H.messages
    → NoHeaderOfZeros sum → (s : State) → HasNumbers sum size (begins_from size marks.joined) s m (line_end size line) → NumbersStay sum size s H (stable_below fits.reach H.batches)
stays_in sum noted size big device fault line m pins H A f U {marks} fits order zeros s has =
    let slots = fits.in_slots fits.account.first fits.account.begins in
    let low = slots.not_above zeros in
    numbers_stay sum size (omega (arith, big)) s m (line_end size line) has H order (held_since size marks fits.account.first) (stable_below fits.reach H.batches)
    slots low (begins_within size big marks.joined (stable_below fits.reach H.batches) (omega (arith, low)))

-- A log that fits a history: so it is now.
module _ {D C : Type 0} (trace : D → Trace) (sum : List ℕ → ℕ) (log : Log D C) (H : History) (A f : ℕ) (U : List Message) where
  pub fits_ascends : Fits trace sum log H A f U → Ascends H.messages
  fits_ascends fits = apart_ascends H.messages (fits_apart trace sum log H A f U fits)

  pub fits_numbers : (fits : FitsShown sum log.marks (noted_in log) (segment_size_of log) (state_of (trace (device_of log))) (fault_of log) (line_of log) (machine_at log)
      (pins_of log) H A f U) → NoHeaderOfZeros sum
      → NumbersStay sum (segment_size_of log) (state_of (trace (device_of log))) H (stable_below fits.shows.reach H.batches)
  unfolding Fits
  fits_numbers fits zeros =
      let least = log.config.config.least in
      stays_in sum (noted_in log) (segment_size_of log) least (shown_of trace log) (fault_of log) (line_of log) (machine_at log)
      (pins_of log) H A f U fits.shows (fits_ascends fits) zeros (state_of (trace (device_of log)))
      (numbers_placed sum (segment_size_of log) (shown_of trace log) (state_of (trace (device_of log))) (machine_at log)
      (line_end (segment_size_of log) (line_of log)) refl (fits.shows.numbers zeros))

  pub fits_lasts : Fits trace sum log H A f U → IsLasting sum (segment_size_of log) (state_of (trace (device_of log))) H A f
  unfolding Fits
  fits_lasts fits =
      let size : ℕ = segment_size_of log in
      let device : State = state_of (trace (device_of log)) in
      let sees : State = shown_of trace log in
      let stable : ℕ = stable_below fits.shows.reach H.batches in record {
        stable = stable;
        passes = passes_line sum _ size sees (fault_of log) (line_of log) fits.shows.reach (pins_of log) H A f U fits.shows.parts;
        lasts = record {
          can = log_leaves sum log H A f U device fits;
          numbers = fits_numbers fits;
        };
      }

  -- What a crash leaves of its device can be recovered, and lasts.
  pub fits_leaves : Fits trace sum log H A f U → LeavesRecoverable sum (segment_size_of log) H A f (state_of (trace (device_of log)))
  fits_leaves fits = lasting_leaves sum (segment_size_of log) H A f (state_of (trace (device_of log))) (fits_lasts fits)
