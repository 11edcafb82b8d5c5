-- What a flush of a log with no open reservation writes, where a log begins on a snapshot, and what its start leaves of what can be read.
use Rattle.std.proofs.Common.{◌≡◌, ◌<◌, ◌+◌, ℕ, List, Option, Some, None}
use Rattle.sled_codec.specs.History.{History}
use Rattle.sled_codec.specs.Snapshots.{SnapshotModel}
use Rattle.sled_store.specs.Begin.{place_at, offset_at}
use Rattle.sled_store.specs.Device.{Trace, state_of, content_of}
use Rattle.sled_store.specs.Script.{Performs}
use Rattle.sled_core.specs.Good.{IsGood}
use Rattle.sled_core.proofs.Start.GoodStarted.{good_started}
use Rattle.sled_core.proofs.Start.Places.{goes_on_at}
use Rattle.sled_log.specs.RunStates.{ShowsActive}
use Rattle.sled_log.specs.OpenSteps.{starting}
pub use Rattle.sled_core.proofs.Holds.LastEnds.{acknowledged_up as end_rises}

-- Starts.

-- A log goes on at the place of its snapshot.
pub starts_at : (size stable : ℕ) (active : Option ℕ) → 0 < size → ShowsActive size stable active → place_at size stable active + offset_at size stable active ≡ stable
starts_at size stable None some begins = goes_on_at size stable None some begins
starts_at size stable (Some slot) some shows = goes_on_at size stable (Some slot) some (shows.1, shows.2)

-- Whatever a start did, the table that it began on is as good as before.
pub start_good : (sum : List ℕ → ℕ) (size : ℕ) → 0 < size → (old new : Trace) (s : SnapshotModel) → Performs (starting size old s) old new → (H : History) (A f : ℕ)
    → IsGood sum size (content_of (state_of old)) H A f s → IsGood sum size (content_of (state_of new)) H A f s
start_good sum size some old new s calls H A f good = good_started sum size s old new some calls H A f good
