-- What is shown of a device: it stays where the same offsets of the log file count for nothing.
use Rattle.std.specs.declared.io.Error.{Error as IoError}
use Rattle.std.proofs.Common.{◌≡◌, ℕ, List, Option, Some, None, refl, ap}
use Rattle.sled_store.specs.Device.{LogState, State, at_rest}
use Rattle.sled_store.specs.SegmentStates.{Machine}
use Rattle.sled_core.specs.Begun.{SegmentView}
use Rattle.sled_core.specs.inside.Cleared.{cleared}
use Rattle.sled_core.specs.inside.Shown.{shown, shown_log}

-- a device with this log file
abbrev pub with_log : State → LogState → State
with_log s log = record { log = log; blobs = s.blobs; snapshots = s.snapshots; temporary = s.temporary; placed = s.placed }

module _ (size : ℕ) where
  -- whatever the file is, the same is shown of it
  abbrev pub ShowsSame : (m m' : Machine) (line line' : List SegmentView) → Type 0
  ShowsSame m m' line line' = (log : List ℕ) → cleared size m' line' log ≡ cleared size m line log

  -- Where the same counts for nothing the same is shown.
  module _ (fault : Option IoError) (m m' : Machine) (line line' : List SegmentView) (same : ShowsSame m m' line line') where
    pub shown_same : (s : State) → shown size fault m' line' s ≡ shown size fault m line s
    shown_same s = ap (with_log s) (by fault) where
      by : (o : Option IoError) → shown_log size o m' line' s.log ≡ shown_log size o m line s.log
      by None = ap at_rest (same s.log.bytes)
      by (Some e) = refl

  -- One that keeps none shows the cleared file.
  pub shown_bytes : (fault : Option IoError) (m : Machine) (line : List SegmentView) (s : State) → fault ≡ None
      → (shown size fault m line s).log.bytes ≡ cleared size m line s.log.bytes
  shown_bytes None m line s none = refl
  shown_bytes (Some e) m line s none = cc

  -- It shows it at rest.
  pub shown_rests : (fault : Option IoError) (m : Machine) (line : List SegmentView) (s : State) → fault ≡ None
      → (shown size fault m line s).log ≡ at_rest (cleared size m line s.log.bytes)
  shown_rests None m line s none = refl
  shown_rests (Some e) m line s none = cc

  -- A log that keeps a failure shows its device as it is.
  pub shown_faulty : (e : IoError) (now : Option IoError) → now ≡ Some e → (m : Machine) (line : List SegmentView) (s : State) → shown size now m line s ≡ s
  shown_faulty e now is m line s = ap (λ (o : Option IoError). shown size o m line s) is
