-- What was asked of a device, and what that makes of its content: as it is read now, and as a crash may leave it.
-- A trace is the one thing that a device shows. The content, what a crash may leave and what is settled are read off it here.
use Rattle.std.specs.Prelude.{◌≡◌, ◌⊎◌, ◌≤◌, ◌<◌, ◌+◌, ◌-◌, ◌||◌, ◌&&◌, ℕ, zero, suc, ℤ, min, max, Bool, true, false, nat_lt, nat_le, if◌then◌else◌, List, []}
use Rattle.std.specs.Prelude.{◌∷◌, ◌++◌, length, take, drop, replicate, slice_index, set, Option, Some, None, IsSome, is_some, not}
use Rattle.std.specs.Ordering.{int_eq}

-- The bytes of the log file, the blobs by place and the snapshots by number.
pub record Content : Type 0 where
  pub log : List ℕ
  pub blobs : ℤ → Option (List ℕ)
  pub snapshots : ℤ → Option (List ℕ)

-- What a crash left: what was settled, or what was last read, with other bytes at these offsets of the log; or all of a content that was given.
pub data Left : Type 0 where
  Settled : (patch : List (ℕ × ℕ)) → Left
  Latest : (patch : List (ℕ × ℕ)) → Left
  Given : (log : List ℕ) (blobs snapshots : List (ℤ × List ℕ)) → Left

-- A call that changed something or may have, or a crash; or what a test asked: that `n` more calls are done, and the next is stopped within.
-- `asked` is what was asked for, `now` is what was done.
pub data Event : Type 0 where
  Wrote : (at : ℕ) (asked now : List ℕ) → Event
  Cut : (asked now : ℕ) → Event
  Synced : Event
  BlobMade : (place : ℤ) (asked now : List ℕ) (done : Bool) → Event
  BlobSynced : (place : ℤ) → Event
  BlobRemoved : (place : ℤ) (done : Bool) → Event
  SnapshotFilled : (asked now : List ℕ) → Event
  SnapshotPublished : (number : ℤ) (done : Bool) → Event
  SnapshotRemoved : (number : ℤ) (done : Bool) → Event
  NamesSynced : Event
  StopAsked : (n : ℕ) → Event
  Crashed : (left : Left) → Event

-- all events so far, the newest first
abbrev pub Trace : Type 0
Trace = List Event

-- The log file.

pub record LogState : Type 0 where
  -- what is read
  pub bytes : List ℕ
  -- the least and the greatest length since the last sync
  pub least : ℕ
  pub most : ℕ
  -- the byte at this offset was written, grown or cut off since then
  pub is_unsynced : ℕ → Bool
  -- the bytes at that sync, and what was asked to be written since then, the newest first
  pub settled : List ℕ
  pub asked : List (ℕ × List ℕ)

-- bytes with others from an offset on; a gap is filled with zeros, and no bytes change nothing
abbrev pub overwritten : List ℕ → ℕ → List ℕ → List ℕ
overwritten bytes at [] = bytes
overwritten bytes at (x ∷ xs) = take at (bytes ++ replicate (at - length bytes) 0) ++ (x ∷ xs) ++ drop (at + length (x ∷ xs)) bytes

-- the end of a write of n bytes, which is nothing where there are none
abbrev pub end_of : ℕ → ℕ → ℕ
end_of at zero = 0
end_of at (suc n) = at + suc n

-- bytes with others at these offsets; the last of a repeated offset counts
abbrev pub patched : List ℕ → List (ℕ × ℕ) → List ℕ
patched bytes [] = bytes
patched bytes (p ∷ patch) = patched (set bytes p.0 p.1) patch

-- a log file of these bytes, all of them settled
abbrev pub at_rest : List ℕ → LogState
at_rest bytes = record { bytes = bytes; least = length bytes; most = length bytes; is_unsynced = λ _. false; settled = bytes; asked = [] }

abbrev pub log_left : Left → LogState → List ℕ
log_left (Settled patch) s = patched s.settled patch
log_left (Latest patch) s = patched s.bytes patch
log_left (Given log blobs snapshots) s = log

abbrev pub log_step : Event → LogState → LogState
log_step (Wrote at asked now) s =
    let end = end_of at (max (length asked) (length now)) in
    record {
      bytes = overwritten s.bytes at now;
      least = s.least;
      most = max s.most end;
      is_unsynced = λ i. s.is_unsynced i || (nat_le (min at (length s.bytes)) i && nat_lt i end);
      settled = s.settled;
      asked = (at, asked) ∷ s.asked;
    }
log_step (Cut asked now) s = record {
  bytes = take now s.bytes;
  least = min s.least (min asked now);
  most = s.most;
  is_unsynced = λ i. s.is_unsynced i || nat_le (min asked now) i;
  settled = s.settled;
  asked = s.asked;
}
log_step Synced s = at_rest s.bytes
log_step (Crashed left) s = at_rest (log_left left s)
log_step _ s = s

-- What a crash may leave of the log file: a length that it had since the last sync or one between, and each byte that nothing touched since then.
pub record LeavesLog (s : LogState) (left : List ℕ) : Type 0 where
  pub no_shorter : s.least ≤ length left
  pub no_longer : length left ≤ s.most
  pub kept : (i : ℕ) → i < length left → s.is_unsynced i ≡ false → slice_index left i ≡ slice_index s.bytes i

-- Blobs by place, and snapshots by number: files under names.

pub record NameState : Type 0 where
  -- the file under the name, where there is one, and whether its bytes may still be lost
  pub file : Option (List ℕ)
  pub is_unsynced : Bool

pub record NamesState : Type 0 where
  pub file : ℤ → Option (List ℕ)
  pub is_unsynced : ℤ → Bool
  -- what the name was since the last sync of names, the latest first, and what calls that failed might have made of it
  pub earlier : ℤ → List NameState
  pub half_done : ℤ → List NameState
  -- what was asked to be written under the name since it was settled, the newest first
  pub asked : ℤ → List (List ℕ)

abbrev pub names_at_rest : (ℤ → Option (List ℕ)) → NamesState
names_at_rest file = record { file = file; is_unsynced = λ _. false; earlier = λ _. []; half_done = λ _. []; asked = λ _. [] }

-- a name changes, or may have
abbrev pub renamed : NamesState → ℤ → Bool → NameState → List (List ℕ) → NamesState
renamed s name done new asked = record {
  file = λ n. if done && int_eq name n then new.file else s.file n;
  is_unsynced = λ n. if done && int_eq name n then new.is_unsynced else s.is_unsynced n;
  earlier = λ n. if done && int_eq name n then record { file = s.file n; is_unsynced = s.is_unsynced n } ∷ s.earlier n else s.earlier n;
  half_done = λ n. if not done && int_eq name n then new ∷ s.half_done n else s.half_done n;
  asked = λ n. if int_eq name n then asked ++ s.asked n else s.asked n;
}

-- a removal of a name that isn't there changes nothing
abbrev pub unnamed : NamesState → ℤ → Bool → NamesState
unnamed s name done = if is_some (s.file name) then renamed s name done (record { file = None; is_unsynced = false }) [] else s

-- All names are settled. What was asked of a file whose bytes may still be lost isn't yet.
abbrev pub names_synced : NamesState → NamesState
names_synced s =
    record { file = s.file; is_unsynced = s.is_unsynced; earlier = λ _. []; half_done = λ _. []; asked = λ n. if s.is_unsynced n then s.asked n else [] }

-- the bytes of one file are settled
abbrev pub file_synced : NamesState → ℤ → NamesState
file_synced s name =
    record { file = s.file; is_unsynced = λ n. not (int_eq name n) && s.is_unsynced n; earlier = s.earlier; half_done = s.half_done; asked = s.asked }

-- the file that stood under a name when names were last synced; bytes that were never synced are lost
abbrev pub settled_file : Option (List ℕ) → Bool → List NameState → Option (List ℕ)
settled_file None unsynced [] = None
settled_file (Some bytes) true [] = Some []
settled_file (Some bytes) false [] = Some bytes
settled_file file unsynced (s ∷ earlier) = settled_file s.file s.is_unsynced earlier

abbrev pub settled_files : NamesState → ℤ → Option (List ℕ)
settled_files s n = settled_file (s.file n) (s.is_unsynced n) (s.earlier n)

-- the file of a list under a name
abbrev pub file_named : List (ℤ × List ℕ) → ℤ → Option (List ℕ)
file_named [] n = None
file_named (f ∷ files) n = if int_eq f.0 n then Some f.1 else file_named files n

abbrev pub blobs_left : Left → NamesState → ℤ → Option (List ℕ)
blobs_left (Settled patch) s = settled_files s
blobs_left (Latest patch) s = s.file
blobs_left (Given log blobs snapshots) s = file_named blobs

abbrev pub snapshots_left : Left → NamesState → ℤ → Option (List ℕ)
snapshots_left (Settled patch) s = settled_files s
snapshots_left (Latest patch) s = s.file
snapshots_left (Given log blobs snapshots) s = file_named snapshots

abbrev pub blob_step : Event → NamesState → NamesState
blob_step (BlobMade place asked now done) s = renamed s place done (record { file = Some now; is_unsynced = true }) (asked ∷ [])
blob_step (BlobSynced place) s = file_synced s place
blob_step (BlobRemoved place done) s = unnamed s place done
blob_step NamesSynced s = names_synced s
blob_step (Crashed left) s = names_at_rest (blobs_left left s)
blob_step _ s = s

-- The temporary snapshot has no number. Its bytes are synced when it is filled.
pub record Temporary : Type 0 where
  pub bytes : List ℕ
  pub asked : List ℕ

abbrev pub snapshot_step : Event → Temporary → NamesState → NamesState
snapshot_step (SnapshotPublished number done) temporary s =
    renamed s number done (record { file = Some temporary.bytes; is_unsynced = false }) (temporary.asked ∷ [])
snapshot_step (SnapshotRemoved number done) temporary s = unnamed s number done
snapshot_step NamesSynced temporary s = names_synced s
snapshot_step (Crashed left) temporary s = names_at_rest (snapshots_left left s)
snapshot_step _ temporary s = s

abbrev pub temporary_step : Event → Temporary → Temporary
temporary_step (SnapshotFilled asked now) was = record { bytes = now; asked = asked }
temporary_step _ was = was

-- what a file may be after a crash: none stays none, and one whose bytes may be lost has any bytes
abbrev pub LeavesFile : Option (List ℕ) → Bool → Option (List ℕ) → Type 0
LeavesFile None unsynced left = left ≡ None
LeavesFile (Some bytes) true left = IsSome left
LeavesFile (Some bytes) false left = left ≡ Some bytes

abbrev pub LeavesOneOf : List NameState → Option (List ℕ) → Type 0
LeavesOneOf [] left = ⊥
LeavesOneOf (s ∷ others) left = LeavesFile s.file s.is_unsynced left ⊎ LeavesOneOf others left

-- What a crash may leave under a name: what it is now, or was since the last sync of names, or what a call that failed might have made of it.
abbrev pub LeavesName : NamesState → ℤ → Option (List ℕ) → Type 0
LeavesName s n left = LeavesFile (s.file n) (s.is_unsynced n) left ⊎ LeavesOneOf (s.earlier n) left ⊎ LeavesOneOf (s.half_done n) left

-- a write that was asked of the log file, and what the file was at each sync and crash since, the newest first
pub record Placement : Type 0 where
  pub at : ℕ
  pub bytes : List ℕ
  pub since : List (List ℕ)

-- each of these has seen the log file settle so
abbrev pub settled_again : List ℕ → List Placement → List Placement
settled_again log [] = []
settled_again log (p ∷ was) = record p { since = log ∷ p.since } ∷ settled_again log was

-- what was ever asked to be written to the log file, the newest first; neither a sync nor a crash forgets it
abbrev pub placed_step : Event → LogState → List Placement → List Placement
placed_step (Wrote at asked now) s was = record { at = at; bytes = asked; since = [] } ∷ was
placed_step Synced s was = settled_again s.bytes was
placed_step (Crashed left) s was = settled_again (log_left left s) was
placed_step _ s was = was

-- All parts. A call other than `sync_names` touches only those of the log, of the blobs or of the snapshots, by computation.

pub record State : Type 0 where
  pub log : LogState
  pub blobs : NamesState
  pub snapshots : NamesState
  pub temporary : Temporary
  -- each write that was ever asked of the log file, the newest first
  pub placed : List Placement

abbrev pub fresh : State
fresh =
    record {
      log = at_rest [];
      blobs = names_at_rest (λ _. None);
      snapshots = names_at_rest (λ _. None);
      temporary = record { bytes = []; asked = [] };
      placed = [];
    }

abbrev pub step : Event → State → State
step e s = record {
  log = log_step e s.log;
  blobs = blob_step e s.blobs;
  snapshots = snapshot_step e s.temporary s.snapshots;
  temporary = temporary_step e s.temporary;
  placed = placed_step e s.log s.placed;
}

-- the state after these events
abbrev pub state_of : Trace → State
state_of [] = fresh
state_of (e ∷ h) = step e (state_of h)

-- what is read now
abbrev pub content_of : State → Content
content_of s = record { log = s.log.bytes; blobs = s.blobs.file; snapshots = s.snapshots.file }

-- what a crash leaves that loses all that may be lost
abbrev pub settled_content : State → Content
settled_content s = record { log = s.log.settled; blobs = settled_files s.blobs; snapshots = settled_files s.snapshots }

-- Leaves: the contents that a crash now may leave.
pub record Leaves (s : State) (left : Content) : Type 0 where
  pub log : LeavesLog s.log left.log
  pub blobs : (n : ℤ) → LeavesName s.blobs n (left.blobs n)
  pub snapshots : (n : ℤ) → LeavesName s.snapshots n (left.snapshots n)

-- the content that a crash left, as the data of its event says
abbrev pub content_left : Left → State → Content
content_left left s = record { log = log_left left s.log; blobs = blobs_left left s.blobs; snapshots = snapshots_left left s.snapshots }
