-- What proofs, and functions that no user calls, need beside `specs/Noted.antt`. No public contract names it.
use Rattle.sled_store.specs.Device.{Event, Wrote, Cut, Synced, BlobMade, BlobSynced, BlobRemoved, SnapshotFilled, SnapshotPublished, SnapshotRemoved}
use Rattle.sled_store.specs.Device.{NamesSynced, StopAsked, Crashed, Settled, Latest}
use Rattle.sled_store.specs.declared.device.memory.trace.Note.{Note}
use Rattle.sled_store.specs.declared.device.memory.trace.Note.TheVariants as note
use Rattle.sled_store.specs.Noted.{offered}

abbrev pub event_of : Note → Event
event_of (note.Wrote at asked now) = Wrote at asked.now now.now
event_of (note.Cut asked now) = Cut asked now
event_of note.Synced = Synced
event_of (note.BlobMade place asked now done) = BlobMade place asked.now now.now done
event_of (note.BlobSynced place) = BlobSynced place
event_of (note.BlobRemoved place done) = BlobRemoved place done
event_of (note.SnapshotFilled asked now) = SnapshotFilled asked.now now.now
event_of (note.SnapshotPublished number done) = SnapshotPublished number done
event_of (note.SnapshotRemoved number done) = SnapshotRemoved number done
event_of note.NamesSynced = NamesSynced
event_of (note.StopAsked n) = StopAsked n
event_of (note.CrashedOld patch) = Crashed (Settled patch.now)
event_of (note.CrashedNew patch) = Crashed (Latest patch.now)
event_of (note.CrashedWith offer) = Crashed (offered offer.now)
