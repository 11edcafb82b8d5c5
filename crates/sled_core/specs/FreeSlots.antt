-- Which slots an accountant may still hand out once a log has begun, and what stands in them.
use Rattle.std.specs.Prelude.{ℕ, Option, None, Some}
use Rattle.sled_codec.specs.Snapshots.{SnapshotModel, stable_place}
use Rattle.sled_store.specs.Begin.{place_at}
use Rattle.sled_store.specs.SegmentStates.{Machine, handed_out}
use Rattle.sled_store.specs.Started.{started}

-- the segment in which a log begins has a slot: that of the active one, or else the next one is handed out for it
abbrev pub with_current : ℕ → Option ℕ → Machine → Machine
with_current place None m = handed_out place m
with_current place (Some active) m = m

-- what an accountant has once a log has begun on a snapshot, on a file of this length
abbrev pub begun_machine : ℕ → ℕ → SnapshotModel → Machine
begun_machine size len s = with_current (place_at size (stable_place s.stable) s.active) s.active (started size len s).machine
