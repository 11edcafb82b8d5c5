-- What the start of a log leaves.
use Rattle.std.specs.Prelude.{◌≡◌, ◌+◌, if◌then◌else◌, ℕ, pos, false, [], length, max, None, Result, Ok, Err}
use Rattle.sled_codec.specs.declared.result.Error.{Error}
use Rattle.sled_codec.specs.Snapshots.{SnapshotModel, stable_place}
use Rattle.sled_store.specs.declared.config.RunningConfig.{RunningConfig}
use Rattle.sled_core.specs.declared.iobuf.SegmentPosition.{SegmentPosition}
use Rattle.sled_core.specs.Account.{account_of}
use Rattle.sled_core.specs.declared.logger.Log.{Log}
use Rattle.sled_store.specs.Begin.{beginning_of, offset_at, place_at}
use Rattle.sled_store.specs.StartCauses.{StartRefuses}
use Rattle.sled_store.specs.Device.{Trace, state_of}
use Rattle.sled_store.specs.Script.{Performs, after_all}
use Rattle.sled_store.specs.Started.{started}
use Rattle.sled_core.specs.Fits.{NoneOpen, NoneSealed, config_of, fault_of, given_up_of, kept_batches, machine_at, noted_in, pins_of, position_of, reserved_end}
use Rattle.sled_core.specs.Fits.{pooled_of, segment_size_of}
use Rattle.sled_core.specs.Fits.{start_of, synced_end}
use Rattle.sled_core.specs.FreeSlots.{begun_machine}
use Rattle.sled_core.specs.Positions.{Position, is_short, next_segment_at}
use Rattle.sled_core.specs.Waiting.{BufferStart}

-- what the log that was started runs on, or what came back where none was
abbrev pub config_left : {D C : Type 0} → Result (Log D C) (Error × RunningConfig D C) → RunningConfig D C
config_left (Ok log) = config_of log
config_left (Err e) = e.1

-- where the segment lies in which a log begins from a snapshot, on a file of this length: that of the active slot, or a new one in the lowest slot that the
-- snapshot doesn't use
abbrev pub site_from : ℕ → ℕ → SnapshotModel → SegmentPosition
site_from size len s = record { place = (beginning_of size len s).place; slot = (beginning_of size len s).slot }

-- where the next record may begin in such a log: behind the header of its segment at least
abbrev pub position_from : ℕ → ℕ → SnapshotModel → Position
position_from size len s =
    let offset = max 20 (offset_at size (stable_place s.stable) s.active) in
    if is_short size offset then next_segment_at size (site_from size len s).place (begun_machine size len s)
    else record {
      place = (site_from size len s).place + offset;
      begins = (site_from size len s).place;
      slot = (site_from size len s).slot;
      machine = begun_machine size len s;
    }

-- where its current buffer begins: there, or at the beginning of a new segment
abbrev pub start_from : ℕ → ℕ → SnapshotModel → BufferStart
start_from size len s =
    let offset = offset_at size (stable_place s.stable) s.active in
    record { place = (site_from size len s).place + offset; lid = (site_from size len s).slot + offset }

-- The log begins behind what the snapshot has: nothing is reserved in it, nor was given up, no batch is noted, no pin is out, and it keeps no failure.
pub record BeginsBehind {D C : Type 0} (size len : ℕ) (s : SnapshotModel) (log : Log D C) : Type 0 where
  pub synced : synced_end log ≡ place_at size (stable_place s.stable) s.active + offset_at size (stable_place s.stable) s.active
  -- behind the header of its segment at least
  pub position : position_of log ≡ position_from size len s
  pub reserved : reserved_end log ≡ synced_end log
  pub noted : noted_in log ≡ []
  pub kept : kept_batches log ≡ 0
  pub start : start_of log ≡ start_from size len s
  pub ended : NoneOpen log
  pub given_up : given_up_of log ≡ []
  pub unsealed : NoneSealed log
  pub pins : pins_of log ≡ 0
  -- the slots are those that a start leaves, with that of its segment
  pub machine : machine_at log ≡ begun_machine size len s
  -- the marks begin as the snapshot's place
  pub account : account_of log ≡ record { mark = pos (stable_place s.stable); durable = pos (stable_place s.stable); pinned = false }
  pub fault : fault_of log ≡ None
  pub pooled : pooled_of log ≡ 0
  pub sized : segment_size_of log ≡ size

-- All calls of a start were made: the free slots of the file were filled and synced, and cut off its end but for one.
abbrev pub HasMadeStart : ℕ → SnapshotModel → Trace → Trace → Type 0
HasMadeStart size s old new = new ≡ after_all (started size (length (state_of old).log.bytes) s).calls old

-- The calls of a start: all of them, or up to one that failed.
abbrev pub StartCalls : ℕ → SnapshotModel → Trace → Trace → Type 0
StartCalls size s old new = Performs (started size (length (state_of old).log.bytes) s).calls old new

-- A log is started only where it can begin on the snapshot and a further segment is in reach, and without a failure. Else this says why not.
abbrev pub StartsOrRefuses : {T R : Type 0} → Result T (Error × R) → (startable in_reach unwritten : Type 0) → ℕ → ℕ → Type 0
StartsOrRefuses (Ok _) startable in_reach unwritten before after = startable × in_reach × (after ≡ before)
StartsOrRefuses (Err e) startable in_reach unwritten before after = StartRefuses e.0 startable in_reach unwritten before after
