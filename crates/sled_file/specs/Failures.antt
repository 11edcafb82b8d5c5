-- What a device over files keeps of the failures of the files: the first one.
use Rattle.std.specs.Prelude.{if◌then◌else◌, List, [], ◌∷◌, Result, Ok, Err, Option, None, Some}
use Rattle.std.specs.declared.io.Error.{Error}
use Rattle.sled_store.specs.Device.{Event, Wrote, Cut, Synced, BlobMade, BlobSynced, BlobRemoved, SnapshotFilled, SnapshotPublished}
use Rattle.sled_store.specs.Device.{SnapshotRemoved, NamesSynced, StopAsked, Crashed}
use Rattle.sled_file.specs.CallRecords.{Call}
use Rattle.sled_file.specs.declared.failure.Doing.{Doing}
use Rattle.sled_file.specs.declared.failure.Doing.TheVariants as doing
use Rattle.sled_file.specs.declared.failure.Failure.{Failure}

-- what is kept behind a call on the files that was answered so: the failure that came first, with the error that was answered
abbrev pub kept_by : {T : Type 0} → Option Failure → Doing → Result T Error → Option Failure
kept_by (Some first) d answer = Some first
kept_by None d (Ok x) = None
kept_by None d (Err e) = Some (record { doing = d; error = e })

abbrev pub doing_in : Option Failure → Option Doing
doing_in None = None
doing_in (Some failure) = Some failure.doing

-- what a call is to do, which is none of an opening
abbrev pub doing_of : Event → Option Doing
doing_of (Wrote at asked now) = Some doing.WriteLog
doing_of (Cut asked now) = Some doing.CutLog
doing_of Synced = Some doing.SyncLog
doing_of (BlobMade place asked now done) = Some (doing.MakeBlob place)
doing_of (BlobSynced place) = Some (doing.SyncBlob place)
doing_of (BlobRemoved place done) = Some (doing.RemoveBlob place)
doing_of (SnapshotFilled asked now) = Some doing.WriteSnapshot
doing_of (SnapshotPublished number done) = Some (doing.PublishSnapshot number)
doing_of (SnapshotRemoved number done) = Some (doing.RemoveSnapshot number)
doing_of NamesSynced = Some doing.SyncNames
doing_of (StopAsked n) = None
doing_of (Crashed left) = None

-- what is told behind one more call, where this was told before
abbrev pub told_behind : Option Doing → Call → Option Doing
told_behind (Some first) c = Some first
told_behind None c = if c.succeeded then None else doing_of c.asked

-- what the first one of these calls was to do that failed
abbrev pub first_failed : List Call → Option Doing
first_failed [] = None
first_failed (c ∷ calls) = told_behind (first_failed calls) c
