-- What proofs, and functions that no user calls, need beside `specs/Due.antt`. No public contract names it.
use Rattle.std.specs.Prelude.{◌≡◌, ◌≢◌, ◌⊎◌, ◌<◌, ◌+◌, ◌-◌, ◌/◌, ◌||◌, ◌==◌, Bool, true, false, ◌∷◌, length, take, Option, None, Some}
use Rattle.std.specs.Bool.{MatchBool}
use Rattle.std.specs.declared.io.ErrorKind.{ErrorKind}
use Rattle.std.specs.declared.io.ErrorKind.TheVariants.{Other}
use Rattle.sled_store.specs.declared.device.memory.MemDevice.{MemDevice}
use Rattle.sled_store.specs.Answers.{is_fault_kind}
use Rattle.sled_store.specs.Device.{Event, Trace, Wrote, Synced, BlobSynced, NamesSynced}
use Rattle.sled_store.specs.inside.Memory.{has_room}
use Rattle.sled_store.specs.inside.Stops.{one_fewer}
use Rattle.sled_store.specs.Due.{trace_of, fails_in, stops_in, is_stopped, Awaits}

-- the next call fails
abbrev pub is_due : MemDevice → Bool
is_due device = is_stopped device || fails_in device == 1

-- What a call leaves that fails since it was due: of a write of some bytes the first half of them, rounded down, unless the device was stopped or
-- memory had to be taken; of any other nothing.
abbrev pub LeftByFailure : Option Event → MemDevice → MemDevice → Type 0
LeftByFailure (Some (Wrote at asked now)) old new =
    ((is_stopped old ≡ false) × (0 < length asked) × (trace_of new ≡ Wrote at asked (take (length asked / 2) asked) ∷ trace_of old))
    ⊎ ((trace_of new ≡ trace_of old) × ((is_stopped old ≡ true) ⊎ (length asked ≡ 0) ⊎ (has_room old.log (at + length asked) ≡ false)))
LeftByFailure event old new = trace_of new ≡ trace_of old

-- what a call leaves that is stopped within: what it changes is done, and nothing is settled by it
abbrev pub left_by_stop : Event → Trace → Trace
left_by_stop Synced before = before
left_by_stop (BlobSynced place) before = before
left_by_stop NamesSynced before = before
left_by_stop event before = event ∷ before

-- A call is done where it isn't due; one that changes or syncs while some are to be.
abbrev pub Done : Option Event → MemDevice → MemDevice → Type 0
Done None old new = (is_due old ≡ false) × Awaits new (fails_in old - 1) (stops_in old) (is_stopped old)
Done (Some event) old new =
    (is_due old ≡ false) × (stops_in old ≢ Some 0) × Awaits new (fails_in old - 1) (one_fewer (stops_in old)) (is_stopped old)

-- One that changes or syncs is stopped within when none is to be done.
abbrev pub Stopped : Option Event → MemDevice → MemDevice → Type 0
Stopped None old new = ⊥
Stopped (Some event) old new =
    (is_due old ≡ false) × (stops_in old ≡ Some 0) × Awaits new (fails_in old - 1) (Some 0) true × (trace_of new ≡ left_by_stop event (trace_of old))

-- A call fails that was due.
abbrev pub Failed : Option Event → MemDevice → MemDevice → Type 0
Failed event old new = (is_due old ≡ true) × Awaits new (fails_in old - 1) (stops_in old) (is_stopped old) × LeftByFailure event old new

-- Memory was refused, or a name is missing or there.
abbrev pub Refused : MemDevice → MemDevice → Type 0
Refused old new = (is_due old ≡ false) × Awaits new (fails_in old - 1) (stops_in old) (is_stopped old)

-- How a call obeys: its event, if it changes or syncs, the kind of its error, if any, and the device before and after. So it fails exactly where it
-- is due or stopped within, and each call counts.
abbrev pub Obeys : Option Event → Option ErrorKind → MemDevice → MemDevice → Type 0
Obeys event None old new = Done event old new
Obeys event (Some kind) old new = MatchBool (is_fault_kind kind) ((kind ≡ Other) × (Failed event old new ⊎ Stopped event old new)) (Refused old new)
