-- A log whose first segments are wholly on the device: what the segments that were begun behind them have to do with a history, until one of them is the
-- first that isn't.
use Rattle.std.specs.Prelude.{◌≡◌, ◌≢◌, ◌⊎◌, ◌+◌, ◌≤◌, ◌<◌, ◌<ℤ◌, ℕ, pos, List, [], map, Option, None, Contains}
use Rattle.std.specs.declared.io.Error.{Error as IoError}
use Rattle.sled_codec.specs.History.{Message, History}
use Rattle.sled_codec.specs.Snapshots.{SnapshotModel}
use Rattle.sled_store.specs.Device.{State}
use Rattle.sled_core.specs.declared.iobuf.SegmentPosition.{SegmentPosition}
use Rattle.sled_core.specs.declared.iterator.Segment.{Segment}
use Rattle.sled_core.specs.declared.logger.joined_marks.JoinedMarks.{JoinedMarks}
use Rattle.sled_core.specs.Begun.{SegmentParts, records_to}
use Rattle.sled_core.specs.Fits.{held_of}
use Rattle.sled_core.specs.inside.Fits.{HoldsIn, begun_segment, log_parts}
use Rattle.sled_core.specs.inside.LogFile.{padded}
use Rattle.sled_core.specs.Logged.{logged}
use Rattle.sled_core.specs.inside.Reached.{BeginsNext, BeginsOne, BegunSegment, LeadsTo, StandsIn, StandsTo}
use Rattle.sled_core.specs.OpenBatches.{stable_below}
use Rattle.sled_core.specs.Recoverable.{NoHeaderOfZeros}
use Rattle.sled_core.specs.inside.Lasting.{LeavesRecovering}
use Rattle.sled_core.specs.inside.Running.{HaveItems, HaveNames, ReachesTo}
use Rattle.sled_core.specs.inside.Scan.{IsFoundSegment}
use Rattle.sled_core.specs.Tail.{least_place}

-- The segment before one at this place is full and read to its end; behind it come these, each as far as it is written. What is held counts from a place or
-- below it.
pub record StandsFull (sum : List ℕ → ℕ) (held size : ℕ) (log : List ℕ) (place : ℕ) (others : List BegunSegment) (reach : ℕ) (H : History)
    (first : SnapshotModel) : Type 0 where
  pub stands : StandsTo sum size log H (stable_below reach H.batches) first reach
  pub low : stands.from ≤ held
  pub leads : LeadsTo sum size log (least_place size first) reach place
  pub near : BeginsNext size H reach place
  pub behind : (x : BegunSegment) → Contains others x → StandsIn sum size log (least_place size first) stands.scanned x.site x.from (records_to x.filled size)
  pub last : (s : Segment) → IsFoundSegment sum size log (least_place size first) s → (s.place < place) ⊎ BeginsOne others s.place
  pub below : (s : Segment) → IsFoundSegment sum size log (least_place size first) s → s.mark <ℤ pos place

-- What a log has to do with a history, the end of what was acknowledged, the floor and the messages that were not marked yet, where all its segments before
-- a place are wholly on the device, and these were begun from there on.
-- As there, the log file and the snapshots are of the history as the log has it, and the blobs of the history itself.
pub record FitsFull (sum : List ℕ → ℕ) (marks : JoinedMarks) (size : ℕ) (device : State) (fault : Option IoError) (place : ℕ)
    (behind : List SegmentParts) (reach pins : ℕ) (H : History) (A f : ℕ) (U : List Message) : Type 0 where
  -- the last one of those before the place, and its bytes
  pub site : SegmentPosition
  pub bytes : List ℕ
  pub next : site.place + size ≡ place
  -- it holds all messages before the place, and those behind it the later ones
  pub holds : HoldsIn sum marks (log_parts size site device fault bytes size [] []) behind (logged H)
  pub reached : ReachesTo (logged H) reach place
  -- so stands the file, with any number of zeros behind its end
  pub beyond : (to : ℕ) → fault ≡ None → NoHeaderOfZeros sum
      → StandsFull sum (held_of holds.begun) size (padded to device.log.bytes) place (map begun_segment behind) reach (logged H) holds.begun.first
  pub items : HaveItems sum device.blobs H (stable_below reach H.batches)
  pub named : HaveNames sum size device fault (logged H) f holds.begun.first
  -- all that was acknowledged is stable
  pub passes : A ≤ stable_below reach H.batches
  -- a pin is out while a completed message is not marked
  pub pinned : U ≢ [] → 0 < pins
  -- what a crash leaves now can be recovered, with all that is stable counted as acknowledged
  pub left : LeavesRecovering sum size H (stable_below reach H.batches) f device
