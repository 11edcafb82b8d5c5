-- A write to the first segment of a log that fits, and the sync behind it: at each moment a crash leaves what can be recovered, and behind it the log fits the same history, where what a crash leaves of the write stands as before, and all of it stands in the segment or behind it.
use Rattle.std.proofs.Common.{◌≡◌, ◌≤◌, ◌<◌, ◌+◌, ℕ, List, [], ◌∷◌, length, map, sym, arith, refl, subst, inl, inr, Option, None}
use Rattle.std.specs.List.{Contains}
use Rattle.std.specs.declared.io.Error.{Error as IoError}
use Rattle.std.proofs.lemmas.Bool.{cases_lt}
use Rattle.sled_codec.specs.History.{Message, History}
use Rattle.sled_codec.specs.Snapshots.{SnapshotModel}
use Rattle.sled_store.specs.Device.{State, Wrote, Synced, LeavesLog, at_rest, overwritten, step, Placement}
use Rattle.sled_store.specs.Foreign.{NoForeignLog}
use Rattle.sled_store.specs.inside.Script.{Along}
use Rattle.sled_store.proofs.Histories.Ascending.{Ascends}
use Rattle.sled_core.specs.Logged.{logged}
use Rattle.sled_core.specs.OpenBatches.{stable_below}
use Rattle.sled_core.specs.declared.iobuf.Reserved.{Reserved}
use Rattle.sled_core.specs.declared.iobuf.Sealed.{Sealed}
use Rattle.sled_core.specs.declared.iobuf.SegmentPosition.{SegmentPosition}
use Rattle.sled_core.specs.Begun.{SegmentParts}
use Rattle.sled_core.specs.inside.Fits.{log_parts, begun_segment, HoldsIn}
use Rattle.sled_core.specs.inside.Full.{FitsFull, StandsFull}
use Rattle.sled_core.specs.inside.LogFile.{padded}
use Rattle.sled_core.specs.inside.Reached.{StandsAmong}
use Rattle.sled_core.specs.Recoverable.{NoHeaderOfZeros}
use Rattle.sled_core.specs.declared.logger.joined_marks.JoinedMarks.{JoinedMarks}
use Rattle.sled_core.specs.inside.Lasting.{LeavesRecovering}
use Rattle.sled_core.specs.inside.Recoverable.{NoBatchBegins, NoBatchEnds}
use Rattle.sled_core.specs.inside.Running.{BlobsFit, FitsIn, KeepsEntries, KeepsItems, NamesFit}
use Rattle.sled_core.proofs.Blobs.StaysOwn.{own_same}
use Rattle.sled_core.proofs.Sealed.Padded.{padded_none}
use Rattle.sled_core.proofs.Flush.Settled.{entries_higher, rests}
use Rattle.sled_core.proofs.Holds.WholeHistory.{whole_ascends}
use Rattle.sled_core.proofs.Reached.StandsTo.{StandsTo}
use Rattle.sled_core.proofs.Sealed.WriteMoments as moments
use Rattle.sled_core.proofs.Reached.StableBelow.{stable_rises}
use Rattle.sled_core.proofs.Torn.TornLemmas.{after_write}
use Rattle.sled_core.specs.inside.LogSegments.{held_since}

-- A write to a log that fits, and the sync behind it, where what a crash leaves of the write stands as before, and all of it up to a place no lower, behind all messages that are written then.
module _ (sum : List ℕ → ℕ) (size : ℕ) (site : SegmentPosition) (device : State) (fault : Option IoError) (bytes : List ℕ) (from : ℕ) (bs : List Sealed) (rs : List Reserved) (pins : ℕ) (H : History) (A f : ℕ) (U : List Message)
    {behind : List SegmentParts} {reach : ℕ} {marks : JoinedMarks} (fits : FitsIn sum marks (log_parts size site device fault bytes from bs rs) behind reach pins H A f U) (short : length bytes ≤ size) (big : 256 ≤ size) (whole : fault ≡ None) (to : ℕ) (grown : from ≤ to)
    (reach' : ℕ) (up : reach ≤ reach') (near' : reach' ≤ site.place + to) (ends' : (m : Message) → Contains (logged H).messages m → m.place < site.place + to
    → (m.place < reach') × (m.place + m.size ≤ reach')) (beside' : NoBatchBegins (logged H) reach' (site.place + to) × NoBatchEnds (logged H) reach' (site.place + to)) (at : ℕ) (asked : List ℕ)
    (torn : NoHeaderOfZeros sum → StandsAmong sum (held_since size marks fits.holds.begun.first) size device.log.bytes site from (map begun_segment behind) reach (logged H) fits.holds.begun.first → (now left : List ℕ) → length now ≤ length asked → LeavesLog (after_write device.log.bytes at asked now) left
    → (placed : List Placement) → NoForeignLog sum size (after_write device.log.bytes at asked now) placed left → StandsTo sum size left (logged H) (stable_below reach H.batches) fits.holds.begun.first reach)
    {Standing : List ℕ → Type 0} (standing : (l : List ℕ) → Standing l → StandsTo sum size l (logged H) (stable_below reach' H.batches) fits.holds.begun.first reach')
    (alone : NoHeaderOfZeros sum → (end : ℕ) → site.slot ≤ end → StandsAmong sum (held_since size marks fits.holds.begun.first) size (padded end device.log.bytes) site from (map begun_segment behind) reach (logged H) fits.holds.begun.first
    → Standing (padded end (overwritten device.log.bytes at asked)))
    (reaches : site.slot ≤ length (overwritten device.log.bytes at asked)) where
  abbrev after_sync : State
  after_sync = step Synced (step (Wrote at asked asked) device)

  -- the log file is at rest
  rest_now : device.log ≡ at_rest device.log.bytes
  rest_now = let on_device = fits.holds.own.written whole in rests device.log on_device.log on_device.settled

  ordered : Ascends (logged H).messages
  ordered = whole_ascends sum size site device fault bytes from bs rs (logged H) fits.holds short

  torn_now : NoHeaderOfZeros sum → (now left : List ℕ) → length now ≤ length asked → LeavesLog (after_write device.log.bytes at asked now) left → (placed : List Placement)
      → NoForeignLog sum size (after_write device.log.bytes at asked now) placed left → StandsTo sum size left (logged H) (stable_below reach H.batches) fits.holds.begun.first reach
  torn_now zeros = torn zeros (fits.among whole zeros)

  alone_now : NoHeaderOfZeros sum → Standing (overwritten device.log.bytes at asked)
  alone_now zeros = subst Standing (padded_none site.slot (overwritten device.log.bytes at asked) reaches)
      (alone zeros site.slot (omega arith) (fits.beyond site.slot (omega arith) whole zeros))

  stands_now : NoHeaderOfZeros sum → StandsTo sum size (overwritten device.log.bytes at asked) (logged H) (stable_below reach' H.batches) fits.holds.begun.first reach'
  stands_now zeros = standing (overwritten device.log.bytes at asked) (alone_now zeros)

  pub along_behind : Along (LeavesRecovering sum size H (stable_below reach H.batches) f) (Wrote at asked asked ∷ Synced ∷ []) device
  along_behind = moments.write_along sum size big device rest_now H f fits.holds.begun.first reach reach' up ordered fits.items.stored fits.named.names fits.items.blobs fits.left at asked torn_now stands_now

  -- With zeros behind its end the file stands too, any number of them.
  padded_now : NoHeaderOfZeros sum → (end : ℕ) → Standing (padded end (overwritten device.log.bytes at asked))
  padded_now zeros end = elim (cases_lt end site.slot) [
    | inl short ↦ subst Standing (sym (padded_none end (overwritten device.log.bytes at asked) (omega (arith, short, reaches)))) (alone_now zeros)
    | inr far ↦ alone zeros end far (fits.beyond end far whole zeros)
  ]

  blobs_now : BlobsFit sum device.blobs H (stable_below reach' H.batches)
  blobs_now = moments.blobs_up sum size big device rest_now H f fits.holds.begun.first reach reach' up ordered fits.items.stored fits.named.names fits.items.blobs fits.left at asked torn_now stands_now

  stored_now : KeepsItems sum device.blobs H (stable_below reach' H.batches)
  stored_now = moments.stored_up sum size big device rest_now H f fits.holds.begun.first reach reach' up ordered fits.items.stored fits.named.names fits.items.blobs fits.left at asked torn_now stands_now

  entries_now : KeepsEntries sum device.blobs H (stable_below reach' H.batches)
  entries_now = entries_higher sum device.blobs H (stable_below reach H.batches) (stable_below reach' H.batches) ordered (stable_rises reach reach' up H.batches) fits.items.stored fits.items.entries

  left_now : LeavesRecovering sum size H (stable_below reach' H.batches) f after_sync
  left_now = moments.synced_leaves sum size big device rest_now H f fits.holds.begun.first reach reach' up ordered fits.items.stored fits.named.names fits.items.blobs fits.left at asked torn_now stands_now

  -- Where it stands up to there in the first segment.
  pub fits_behind : (cs : List Sealed) (others : List Reserved) (holds : HoldsIn sum marks (log_parts size site after_sync fault bytes to cs others) behind (logged H))
      → holds.begun.first ≡ fits.holds.begun.first → ((l : List ℕ) → Standing l → StandsAmong sum (held_since size marks fits.holds.begun.first) size l site to (map begun_segment behind) reach' (logged H) fits.holds.begun.first)
      → FitsIn sum marks (log_parts size site after_sync fault bytes to cs others) behind reach' pins H A f U
  fits_behind cs others holds same among = record {
    holds = holds;
    reached = record {
      near = near';
      ends = ends';
      no_batch = beside'.0;
      no_end = beside'.1;
    };
    among = λ none zeros. subst (λ (s : SnapshotModel). StandsAmong sum (held_since size marks s) size (overwritten device.log.bytes at asked) site to (map begun_segment behind) reach' (logged H) s) (sym same) (among (overwritten device.log.bytes at asked) (alone_now zeros));
    beyond = λ end far none zeros. subst (λ (s : SnapshotModel). StandsAmong sum (held_since size marks s) size (padded end (overwritten device.log.bytes at asked)) site to (map begun_segment behind) reach' (logged H) s) (sym same) (among (padded end (overwritten device.log.bytes at asked)) (padded_now zeros end));
    items = record {
      blobs = blobs_now;
      stored = stored_now;
      entries = entries_now;
      below = fits.items.below;
    };
    named = record {
      names = subst (λ (s : SnapshotModel). NamesFit sum size device.snapshots (logged H) f s) (sym same) fits.named.names;
      own_names = λ none. own_same sum device after_sync refl refl (fits.named.own_names none);
    };
    passes = let old = fits.passes in let rises = stable_rises reach reach' up H.batches in omega (arith, old, rises);
    pinned = fits.pinned;
    left = left_now;
  }

  -- Where it stands behind it, as all of it is written.
  pub fits_filled : (filled : to ≡ size) (holds : HoldsIn sum marks (log_parts size site after_sync fault bytes size [] []) behind (logged H))
      → holds.begun.first ≡ fits.holds.begun.first → ((l : List ℕ) → Standing l → StandsFull sum (held_since size marks fits.holds.begun.first) size l (site.place + size) (map begun_segment behind) reach' (logged H) fits.holds.begun.first)
      → FitsFull sum marks size after_sync fault (site.place + size) behind reach' pins H A f U
  fits_filled filled holds same full = record {
    site = site;
    bytes = bytes;
    next = refl;
    holds = holds;
    reached = record {
      near = omega (arith, near', filled);
      ends = λ m there under. ends' m there (omega (arith, under, filled));
      no_batch = subst (λ n. NoBatchBegins (logged H) reach' (site.place + n)) filled beside'.0;
      no_end = subst (λ n. NoBatchEnds (logged H) reach' (site.place + n)) filled beside'.1;
    };
    beyond = λ end none zeros. subst (λ (s : SnapshotModel). StandsFull sum (held_since size marks s) size (padded end (overwritten device.log.bytes at asked)) (site.place + size) (map begun_segment behind) reach' (logged H) s) (sym same) (full (padded end (overwritten device.log.bytes at asked)) (padded_now zeros end));
    items = record {
      blobs = blobs_now;
      stored = stored_now;
      entries = entries_now;
      below = fits.items.below;
    };
    named = record {
      names = subst (λ (s : SnapshotModel). NamesFit sum size device.snapshots (logged H) f s) (sym same) fits.named.names;
      own_names = λ none. own_same sum device after_sync refl refl (fits.named.own_names none);
    };
    passes = let old = fits.passes in let rises = stable_rises reach reach' up H.batches in omega (arith, old, rises);
    pinned = fits.pinned;
    left = left_now;
  }
