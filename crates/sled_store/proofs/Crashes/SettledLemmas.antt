-- In every trace, what is read and what is settled are each among what a crash may leave.
use Rattle.std.proofs.Common.{◌≡◌, ◌⊎◌, ◌≤◌, ℕ, ℤ, max, Bool, true, false, List, [], ◌∷◌, length, get_or, Option, Some, None, refl, ◌∙◌, sym, arith, inl, inr, subst, length-take}
use Rattle.sled_store.specs.Device.{Event, Trace, LogState, NameState, NamesState, log_step, state_of, content_of, settled_content, settled_file, log_left, Leaves, LeavesFile, LeavesOneOf, LeavesName, LeavesLog, Wrote, Cut, Synced, BlobMade, BlobSynced, BlobRemoved, SnapshotFilled, SnapshotPublished, SnapshotRemoved, NamesSynced, StopAsked, Crashed, at_rest}
use Rattle.sled_store.proofs.LogFile.OverwrittenLemmas.{length-overwritten}
use Rattle.sled_store.proofs.LogFile.LogLemmas.{at_rest_left}
use Rattle.sled_store.proofs.LogFile.LooseLemmas.{end_of-mono, firm_written, firm_cut}

-- Both contents of the log file have a length that it had since the last sync, or one between, and are the same where nothing is loose.
pub record IsSound (s : LogState) : Type 0 where
  pub least : s.least ≤ length s.bytes
  pub most : length s.bytes ≤ s.most
  pub settled_least : s.least ≤ length s.settled
  pub settled_most : length s.settled ≤ s.most
  pub same : (i : ℕ) → s.is_unsynced i ≡ false → get_or s.settled i 0 ≡ get_or s.bytes i 0

pub sound_at_rest : (bytes : List ℕ) → IsSound (at_rest bytes)
sound_at_rest bytes = record { least = omega arith; most = omega arith; settled_least = omega arith; settled_most = omega arith; same = λ i firm. refl }

sound_written : (s : LogState) (at : ℕ) (asked now : List ℕ) → IsSound s → IsSound (log_step (Wrote at asked now) s)
sound_written s at asked now sound =
    let long = length-overwritten s.bytes at now in
    record {
      least = omega (arith, sound.least, long);
      most = omega (arith, sound.most, long, end_of-mono at (length now) (max (length asked) (length now)) (omega arith));
      settled_least = sound.settled_least;
      settled_most = omega (arith, sound.settled_most);
      same = λ i firm. let was = firm_written s at asked now i firm in sound.same i was.0 ∙ sym was.1;
    }

sound_cut : (s : LogState) (asked now : ℕ) → IsSound s → IsSound (log_step (Cut asked now) s)
sound_cut s asked now sound = record {
  least = simp length-take (omega (arith, sound.least));
  most = simp length-take (omega (arith, sound.most));
  settled_least = omega (arith, sound.settled_least);
  settled_most = sound.settled_most;
  same = λ i firm. let was = firm_cut s asked now i firm in sound.same i was.0 ∙ sym was.1;
}

sound_step : (e : Event) (s : LogState) → IsSound s → IsSound (log_step e s)
sound_step (Wrote at asked now) s sound = sound_written s at asked now sound
sound_step (Cut asked now) s sound = sound_cut s asked now sound
sound_step Synced s sound = sound_at_rest s.bytes
sound_step (Crashed left) s sound = sound_at_rest (log_left left s)
sound_step (BlobMade place asked now done) s sound = sound
sound_step (BlobSynced place) s sound = sound
sound_step (BlobRemoved place done) s sound = sound
sound_step (SnapshotFilled asked now) s sound = sound
sound_step (SnapshotPublished number done) s sound = sound
sound_step (SnapshotRemoved number done) s sound = sound
sound_step NamesSynced s sound = sound
sound_step (StopAsked n) s sound = sound

-- so it is in every trace
pub sound : (h : Trace) → IsSound (state_of h).log
sound [] = sound_at_rest []
sound (e ∷ h) = sound_step e (state_of h).log (sound h)

-- The log file alone.

pub log_read_left : (s : LogState) → IsSound s → LeavesLog s s.bytes
log_read_left s sound = record { no_shorter = sound.least; no_longer = sound.most; kept = λ i low firm. refl }

pub log_settled_left : (s : LogState) → IsSound s → LeavesLog s s.settled
log_settled_left s sound = record { no_shorter = sound.settled_least; no_longer = sound.settled_most; kept = λ i low firm. sound.same i firm }

-- A name alone.

file_left : (file : Option (List ℕ)) (unsynced : Bool) → LeavesFile file unsynced file
file_left None unsynced = refl
file_left (Some bytes) true = refl
file_left (Some bytes) false = refl

pub name_read_left : (s : NamesState) (n : ℤ) → LeavesName s n (s.file n)
name_read_left s n = inl (file_left (s.file n) (s.is_unsynced n))

settled_left : (file : Option (List ℕ)) (unsynced : Bool) (earlier : List NameState) → LeavesFile file unsynced (settled_file file unsynced earlier) ⊎ LeavesOneOf earlier (settled_file file unsynced earlier)
settled_left None unsynced [] = inl refl
settled_left (Some bytes) true [] = inl refl
settled_left (Some bytes) false [] = inl refl
settled_left None unsynced (s ∷ earlier) = inr (settled_left s.file s.is_unsynced earlier)
settled_left (Some bytes) true (s ∷ earlier) = inr (settled_left s.file s.is_unsynced earlier)
settled_left (Some bytes) false (s ∷ earlier) = inr (settled_left s.file s.is_unsynced earlier)

among : {A B C : Type 0} → A ⊎ B → A ⊎ B ⊎ C
among (inl a) = inl a
among (inr b) = inr (inl b)

pub name_settled_left : (s : NamesState) (n : ℤ) → LeavesName s n (settled_file (s.file n) (s.is_unsynced n) (s.earlier n))
name_settled_left s n = among (settled_left (s.file n) (s.is_unsynced n) (s.earlier n))

-- All of a device.

pub read_left : (h : Trace) → Leaves (state_of h) (content_of (state_of h))
read_left h = record {
  log = log_read_left (state_of h).log (sound h);
  blobs = name_read_left (state_of h).blobs;
  snapshots = name_read_left (state_of h).snapshots;
}

pub settled_left_too : (h : Trace) → Leaves (state_of h) (settled_content (state_of h))
settled_left_too h = record {
  log = log_settled_left (state_of h).log (sound h);
  blobs = name_settled_left (state_of h).blobs;
  snapshots = name_settled_left (state_of h).snapshots;
}

-- A sync adds nothing to what a crash may leave.
pub before_sync : (h : Trace) (left : List ℕ) → LeavesLog (log_step Synced (state_of h).log) left → LeavesLog (state_of h).log left
before_sync h left leaves =
    subst (LeavesLog (state_of h).log) (sym (at_rest_left (state_of h).log.bytes left leaves)) (log_read_left (state_of h).log (sound h))
