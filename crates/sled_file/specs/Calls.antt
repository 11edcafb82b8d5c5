-- What was asked of the files of a folder, and what that makes of the trace of a device over them.
use Rattle.std.specs.Prelude.{◌≡◌, ◌⊎◌, ◌||◌, ℕ, ℤ, Bool, true, false, not, is_ok, if◌then◌else◌, List, [], ◌∷◌, Result, Option, Some, None, IsTrue, Vec, map}
use Rattle.std.specs.Bool.{MatchBool}
use Rattle.std.specs.BTreeMap.{BTreeMap}
use Rattle.std.specs.declared.alloc.Global.{Global}
use Rattle.std.specs.declared.io.Error.{Error}
use Rattle.std.specs.declared.io.ErrorKind.{ErrorKind}
use Rattle.sled_store.specs.Answers.{is_fault_kind}
use Rattle.sled_store.specs.Device.{Event, Trace, Left, Wrote, Cut, Synced, BlobMade, BlobSynced, BlobRemoved, SnapshotFilled, SnapshotPublished}
use Rattle.sled_store.specs.Device.{SnapshotRemoved, NamesSynced, Crashed, Given}
use Rattle.sled_file.specs.CallRecords.{Call}
use Rattle.sled_file.specs.declared.mirror.Mirror.{Mirror}
use Rattle.sled_file.specs.declared.calls.Asked.{Asked}
use Rattle.sled_file.specs.declared.calls.Asked.TheVariants as asked
use Rattle.sled_file.specs.declared.calls.Note.{Note}

-- a call with this answer
abbrev pub called : {T : Type 0} → Event → Result T Error → Call
called event answer = record { asked = event; succeeded = is_ok answer }

-- A call that changes and failed counts as carried out: what it may have left half done is among what a crash may leave then. A sync that failed
-- counts for nothing.
abbrev pub left_by_failure : Event → Trace → Trace
left_by_failure Synced before = before
left_by_failure (BlobSynced place) before = before
left_by_failure NamesSynced before = before
left_by_failure event before = event ∷ before

-- the trace that these calls make of what was before, the newest first
abbrev pub trace_after : List Call → Trace → Trace
trace_after [] past = past
trace_after (c ∷ calls) past = if c.succeeded then c.asked ∷ trace_after calls past else left_by_failure c.asked (trace_after calls past)

-- one of these calls failed
abbrev pub has_failure : List Call → Bool
has_failure [] = false
has_failure (c ∷ calls) = not c.succeeded || has_failure calls

-- whether a snapshot is there to be published behind a call that did this, if it was before
abbrev pub filled_by : Event → Bool → Bool
filled_by (SnapshotFilled asked now) before = true
filled_by (SnapshotPublished number done) before = false
filled_by event before = before

-- A snapshot was written since the opening, and since the last publish: of the calls of these two that succeeded the newest is a write. Behind a
-- failed call this says nothing, since none is made any more.
abbrev pub is_filled : List Call → Bool
is_filled [] = false
is_filled (c ∷ calls) = if c.succeeded then filled_by c.asked (is_filled calls) else is_filled calls

-- the files under names in memory, each with its bytes
abbrev pub files_in : BTreeMap ℤ (Vec ℕ Global) → List (ℤ × List ℕ)
files_in files = map (λ f. (f.0, f.1.items)) files.entries

-- what was found in the folder: all that a crash or an orderly end left there
abbrev pub found : Mirror → Left
found mirror = Given mirror.log.items (files_in mirror.blobs.files) (files_in mirror.snapshots.files)

-- a folder that was opened, and of which nothing was asked since
abbrev pub opened : Mirror → List Call
opened mirror = record { asked = Crashed (found mirror); succeeded = true } ∷ []

abbrev pub event_of : Asked → Event
event_of (asked.Opened mirror) = Crashed (found mirror.now)
event_of (asked.Wrote at bytes) = Wrote at bytes.now bytes.now
event_of (asked.Cut len) = Cut len len
event_of asked.Synced = Synced
event_of (asked.BlobMade place bytes) = BlobMade place bytes.now bytes.now true
event_of (asked.BlobSynced place) = BlobSynced place
event_of (asked.BlobRemoved place) = BlobRemoved place true
event_of (asked.SnapshotFilled bytes) = SnapshotFilled bytes.now bytes.now
event_of (asked.SnapshotPublished number) = SnapshotPublished number true
event_of (asked.SnapshotRemoved number) = SnapshotRemoved number true
event_of asked.NamesSynced = NamesSynced

abbrev pub call_of : Note → Call
call_of note = record { asked = event_of note.asked; succeeded = note.succeeded }

-- a snapshot is published, and by the calls before none was written for it
abbrev pub IsUnwritten : Event → List Call → Type 0
IsUnwritten (SnapshotPublished number done) old = is_filled old ≡ false
IsUnwritten event old = ⊥

-- How a call of a device stands to the calls on its files: by its event, if it changes or syncs, the kind of its error, if any, and the calls before
-- and after. It makes the one call that it means, or none where it is refused; and it fails only where a call on the files failed, now or before.
-- A publish of no snapshot fails by itself.
abbrev pub Makes : Option Event → Option ErrorKind → List Call → List Call → Type 0
Makes None None old new = new ≡ old
Makes None (Some kind) old new = (new ≡ old) × MatchBool (is_fault_kind kind) (IsTrue (has_failure old)) (Unit {0})
Makes (Some event) None old new = new ≡ record { asked = event; succeeded = true } ∷ old
Makes (Some event) (Some kind) old new =
    MatchBool (is_fault_kind kind)
    (((new ≡ old) × (IsTrue (has_failure old) ⊎ IsUnwritten event old)) ⊎ (new ≡ record { asked = event; succeeded = false } ∷ old))
    (new ≡ old)
