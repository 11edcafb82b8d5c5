-- The device of a log as one sees it who knows the slots and the segments of the log: as long as that keeps no failure its log file is cleared, and at rest.
-- Where a failure is kept it is the device as it is.
use Rattle.std.specs.declared.io.Error.{Error as IoError}
use Rattle.std.specs.Prelude.{◌≡◌, ◌≤ℤ◌, ℕ, pos, List, Option, Some, None}
use Rattle.sled_store.specs.Accounts.{machine_of}
use Rattle.sled_store.specs.Device.{LogState, State, Trace, at_rest, state_of}
use Rattle.sled_store.specs.SegmentStates.{Machine}
use Rattle.sled_store.specs.inside.SegmentStates.{NoneDue}
use Rattle.sled_core.specs.Begun.{SegmentView}
use Rattle.sled_core.specs.declared.logger.joined_marks.JoinedMarks.{JoinedMarks}
use Rattle.sled_core.specs.declared.logger.Log.{Log}
use Rattle.sled_core.specs.Fits.{line_of}
use Rattle.sled_core.specs.inside.Cleared.{cleared}

-- the log file so
abbrev pub shown_log : ℕ → Option IoError → Machine → List SegmentView → LogState → LogState
shown_log size None m line log = at_rest (cleared size m line log.bytes)
shown_log size (Some e) m line log = log

-- the device so; what was placed is what was placed on the device itself
abbrev pub shown : ℕ → Option IoError → Machine → List SegmentView → State → State
shown size fault m line s = record {
  log = shown_log size fault m line s.log;
  blobs = s.blobs;
  snapshots = s.snapshots;
  temporary = s.temporary;
  placed = s.placed;
}

-- that of a log
abbrev pub shown_of : {D C : Type 0} → (D → Trace) → Log D C → State
shown_of trace log =
    shown log.config.config.segment_size log.fault.kept (machine_of log.accountant) (line_of log) (state_of (trace log.config.device))

-- The log file of a log that keeps no failure is at rest.
abbrev pub RestsWhole : Option IoError → LogState → Type 0
RestsWhole fault log = fault ≡ None → log ≡ at_rest log.bytes

-- As long as the mark that joined isn't above a floor, nothing was freed: all of a log file is shown. And no active segment is due for the floor, so for that
-- mark.
abbrev pub FreesNothing : ℕ → JoinedMarks → ℕ → Machine → (shown log : List ℕ) → Type 0
FreesNothing size marks floor m shown log = marks.joined ≤ℤ pos floor → (shown ≡ log) × NoneDue size (pos floor) m
