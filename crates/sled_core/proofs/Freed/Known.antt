-- What lemmas on what a crash leaves are given: of the log file, of a write to the slot of a segment, and of what is left of it.
use Rattle.std.specs.Prelude.{◌≡◌, ◌+◌, ◌*◌, ◌/◌, ◌^◌, ◌<◌, ◌≤◌, ℕ, false, List, ◌∷◌, length, get_or}
use Rattle.sled_codec.specs.History.{History}
use Rattle.sled_store.specs.Device.{LeavesLog, State, overwritten}
use Rattle.sled_store.specs.Foreign.{HeaderWasPlaced, NoForeignLog, RecordWasPlaced}
use Rattle.sled_store.specs.SegmentStates.{Machine, is_free, slot_at}
use Rattle.sled_core.specs.Begun.{SegmentView}
use Rattle.sled_core.specs.inside.Cleared.{cleared}
use Rattle.sled_core.specs.inside.Hides.{Hides, ReadsShown}
use Rattle.sled_core.specs.inside.OwnLog.{HasOwnSlot}
use Rattle.sled_core.proofs.Freed.LeftOwn.{PlacesNumber}
use Rattle.sled_core.proofs.OwnLog.Placed.{asked_now}
use Rattle.sled_core.proofs.Torn.TornLemmas.{after_write}

-- What a log file has besides what is shown of it, that what is shown is read of bytes that count, and that nothing is foreign in it.
pub record IsKnown (sum : List ℕ → ℕ) (size : ℕ) (s : State) (m : Machine) (line : List SegmentView) (least base : ℕ) (H : History) : Type 0 where
  pub some : 256 ≤ size
  pub hides : Hides sum size s m line least base H
  pub reads : ReadsShown sum size m (cleared size m line s.log.bytes) s.log.bytes
  pub own : (slot : ℕ) → HasOwnSlot sum size (HeaderWasPlaced s.placed) (RecordWasPlaced sum size s.placed) (cleared size m line s.log.bytes) slot

-- A write to the slot of a segment that isn't below what is held, of records of its number. From its beginning up to an offset behind it zeros are shown, and
-- what is shown once it is done is read of bytes that count, too.
pub record WritesSlot (sum : List ℕ → ℕ) (size : ℕ) (s : State) (m : Machine) (line : List SegmentView) (least base : ℕ) (H : History) (slot from : ℕ)
    (asked : List ℕ) (place until : ℕ) : Type 0 where
  pub known : IsKnown sum size s m line least base H
  pub inside : from + length asked ≤ size
  pub reach : slot * size + size < 2 ^ 64
  pub taken : is_free (slot_at m slot).state ≡ false
  pub its : (slot_at m slot).lsn ≡ place
  pub held : base ≤ place
  pub places : PlacesNumber sum size (slot * size + from) asked (place / size)
  pub covers : from + length asked ≤ until
  pub clean : (i : ℕ) → slot * size + from ≤ i → i < slot * size + until → get_or (cleared size m line s.log.bytes) i 0 ≡ 0
  pub reads_after : ReadsShown sum size m (overwritten (cleared size m line s.log.bytes) (slot * size + from) asked)
      (overwritten s.log.bytes (slot * size + from) asked)

-- What a crash may leave of a write of which so much is done, with nothing foreign in it.
pub record LeavesOwn (sum : List ℕ → ℕ) (size : ℕ) (s : State) (at : ℕ) (asked now left : List ℕ) : Type 0 where
  pub no_more : length now ≤ length asked
  pub leaves : LeavesLog (after_write s.log.bytes at asked now) left
  pub only_own : NoForeignLog sum size (after_write s.log.bytes at asked now) (asked_now at asked ∷ s.placed) left
