-- What the log file of a log has besides what is shown it may have still where the history grows, at a place that isn't below the first segment: no segment that
-- is gone ends above the mark's, nor does that begin above the first one.
use Rattle.std.specs.declared.io.Error.{Error as IoError}
use Rattle.std.proofs.Common.{◌≡◌, ◌≤◌, ℕ, List, Option, None}
use Rattle.sled_codec.specs.History.{Batch, History, Message}
use Rattle.sled_store.specs.Device.{State}
use Rattle.sled_store.specs.SegmentStates.{Machine}
use Rattle.sled_core.specs.Begun.{SegmentView}
use Rattle.sled_core.specs.LogSegments.{begins_from}
use Rattle.sled_core.specs.Logged.{logged}
use Rattle.sled_core.specs.Recoverable.{NoHeaderOfZeros}
use Rattle.sled_core.specs.declared.logger.joined_marks.JoinedMarks.{JoinedMarks}
use Rattle.sled_core.specs.inside.Begun.{first_place}
use Rattle.sled_core.specs.inside.Hides.{HidesFrom}
use Rattle.sled_core.specs.inside.Running.{FitsShown}
use Rattle.sled_core.specs.inside.Shown.{shown}
use Rattle.sled_core.proofs.Freed.GrownHides.{from_grown}
use Rattle.sled_core.proofs.Line.Ends.{line_holds}
use Rattle.sled_core.proofs.Line.MarksJoin.{marks_base}
use Rattle.sled_core.proofs.Reached.GrowsAt.{GrowsAbove}

module _ (sum : List ℕ → ℕ) (marks : JoinedMarks) (noted : List Batch) (size : ℕ) (big : 256 ≤ size) (device : State) (fault : Option IoError) (line : List SegmentView)
    (m : Machine) (pins : ℕ) (H : History) (A f : ℕ) (U : List Message) (fits : FitsShown sum marks noted size device fault line m pins H A f U) where
  -- The mark's segment begins no higher than the first one.
  pub base_low : begins_from size marks.joined ≤ first_place line
  base_low =
      let sees : State = shown size fault m line device in
      marks_base sum marks size big sees fault line (logged H) (line_holds sum size sees fault marks line fits.shows.reach pins H A f U fits.shows.parts)

  pub hides_beyond : (H' : History) → GrowsAbove (logged H) (logged H') (first_place line) → fault ≡ None → NoHeaderOfZeros sum
      → HidesFrom sum size (begins_from size marks.joined) device m line (logged H')
  hides_beyond H' grows none zeros =
      from_grown sum size big (logged H) (logged H') (begins_from size marks.joined) (first_place line) grows base_low device m line (fits.hides none zeros)
