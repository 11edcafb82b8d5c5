-- A sealed buffer is written behind one that isn't: torn or whole, a reader finds what he found before.
use Rattle.std.proofs.Common.{◌≡◌, ◌≤◌, ◌<◌, ◌+◌, ◌%◌, ◌⊎◌, ℕ, max, Bool, false, List, [], ◌∷◌, ◌++◌, length, take, drop, get_or, refl, subst, arith, inl, inr}
use Rattle.std.specs.List.{All}
use Rattle.sled_codec.specs.History.{History}
use Rattle.sled_codec.specs.Snapshots.{SnapshotModel}
use Rattle.sled_store.specs.Device.{overwritten, LeavesLog, Placement}
use Rattle.sled_store.specs.Foreign.{NoForeignLog}
use Rattle.sled_store.proofs.Segments.FitLemmas.{all_front}
use Rattle.sled_core.specs.OpenBatches.{stable_below}
use Rattle.sled_core.specs.declared.iobuf.Reserved.{Reserved}
use Rattle.sled_core.specs.declared.iobuf.Sealed.{Sealed}
use Rattle.sled_core.specs.declared.iobuf.SegmentPosition.{SegmentPosition}
use Rattle.sled_core.specs.inside.Buffers.{IsChain, NoPadding, Stands}
use Rattle.sled_core.specs.inside.Reached.{BegunSegment, StandsAmong, StandsIn}
use Rattle.sled_core.specs.Recoverable.{NoHeaderOfZeros}
use Rattle.sled_core.specs.inside.SealedBuffers.{AreSealed, LaidOne, Laid}
use Rattle.sled_core.specs.SealedBuffers.{sealed_end, bytes_between}
use Rattle.sled_core.specs.Tail.{least_place}
use Rattle.sled_core.proofs.Reached.StandsTo.{StandsTo}
use Rattle.sled_core.proofs.Reserve.Entries.{HasSpace, IsLong, all_long, all_space, reserved_in}
use Rattle.sled_core.proofs.Reserve.Ranges.{chain_grows, chain_within}
use Rattle.sled_core.proofs.Sealed.BehindRead.{StandsAfter}
use Rattle.sled_core.proofs.Sealed.Clear.{first_of, own_long}
use Rattle.sled_core.proofs.Sealed.GapWritten.{gap_stands, gap_written, torn_gap}
use Rattle.sled_core.proofs.Sealed.LaidLemmas.{EndsRise}
use Rattle.sled_core.proofs.Sealed.OneWritten.{long, rises_at}
use Rattle.sled_core.proofs.Sealed.Runs.{take_more}
use Rattle.sled_core.proofs.Torn.TornLemmas.{after_write}

-- the first buffer begins where a record has room
first_room : (size from : ℕ) (own : List Reserved) (end : ℕ) → 20 ≤ from → from < end → IsChain (max 20 from) own end → ((r : Reserved) (more : List Reserved) → own ≡ r ∷ more → r.from + 32 ≤ size) → from + 32 ≤ size
first_room size from [] end begun rises chain room = absurd (omega (arith, chain, rises, begun))
first_room size from (r ∷ more) end begun rises chain room = let fits = room r more refl in omega (arith, fits, chain.0)

-- Where a record has room behind what was written, if the first buffer isn't written.
pub head_room : (size from : ℕ) → 256 ≤ size → (from ≡ 0) ⊎ (20 ≤ from) → (rs : List Reserved) (x : Sealed) (xs : List Sealed) → AreSealed from rs (x ∷ xs)
    → ((r : Reserved) (more : List Reserved) → take x.count rs ≡ r ∷ more → r.from + 32 ≤ size) → from + 32 ≤ size
head_room size from some (inl none) rs x xs are room = omega (arith, none, some)
head_room size from some (inr begun) rs x xs are room = first_room size from (take x.count rs) x.end begun are.0.rises are.0.chain room

-- It does where none of the entries that are written with it fills the segment,
pub plain_room : (sum : List ℕ → ℕ) (size number : ℕ) (bytes : List ℕ) (from : ℕ) → 256 ≤ size → (from ≡ 0) ⊎ (20 ≤ from) → (rs : List Reserved) (x : Sealed) (xs : List Sealed) → AreSealed from rs (x ∷ xs)
    → All (Stands sum size number bytes) rs → (more : ℕ) → All NoPadding (take (x.count + more) rs) → from + 32 ≤ size
plain_room sum size number bytes from some begins rs x xs are stand more plain = head_room size from some begins rs x xs are (λ r others is.
    let own : All NoPadding (take x.count rs) = all_front NoPadding (take x.count rs) (take more (drop x.count rs)) (subst (All NoPadding) (take_more x.count more rs) plain) in
    (reserved_in sum size number bytes r (subst (All NoPadding) is own 0 r (omega arith)) (first_of (Stands sum size number bytes) x.count rs r others is stand)).room)

-- and where the buffer ends before the segment.
pub below_room : (size from : ℕ) → 256 ≤ size → (from ≡ 0) ⊎ (20 ≤ from) → (rs : List Reserved) (x : Sealed) (xs : List Sealed) → AreSealed from rs (x ∷ xs) → All (HasSpace size) rs → x.end < size → from + 32 ≤ size
below_room size from some begins rs x xs are space low = head_room size from some begins rs x xs are room where
  room : (r : Reserved) (more : List Reserved) → take x.count rs ≡ r ∷ more → r.from + 32 ≤ size
  room r more is =
      let within = (chain_within (max 20 from) x.end (r ∷ more) (subst (λ (l : List Reserved). IsChain (max 20 from) l x.end) is are.0.chain) 0 r (omega arith)).1 in
      elim (first_of (HasSpace size) x.count rs r more is space) [ inl fits ↦ fits | inr ends ↦ absurd (omega (arith, ends, within, low)) ]

-- and it is longer than the sum and the kind of a record
pub head_long : (size from : ℕ) → from + 32 ≤ size → (from ≡ 0) ⊎ (20 ≤ from) → (rs : List Reserved) (x : Sealed) (xs : List Sealed) → AreSealed from rs (x ∷ xs) → All (IsLong size) rs → from + 5 ≤ x.end
head_long size from room (inl none) rs x xs are lens = let grows = chain_grows (max 20 from) x.end (take x.count rs) are.0.chain in omega (arith, grows, none)
head_long size from room (inr begun) rs x xs are lens = own_long size from (take x.count rs) x.end begun room are.0.rises are.0.chain (λ r more is. first_of (IsLong size) x.count rs r more is lens)

-- or than a header
pub head_headed : (from : ℕ) (rs : List Reserved) (x : Sealed) (xs : List Sealed) → AreSealed from rs (x ∷ xs) → from ≡ 0 → 20 ≤ x.end
head_headed from rs x xs are none = let grows = chain_grows (max 20 from) x.end (take x.count rs) are.0.chain in omega (arith, grows)

module _ (sum : List ℕ → ℕ) (none : NoHeaderOfZeros sum) (size : ℕ) (some : 256 ≤ size) (old : List ℕ) (site : SegmentPosition) (slot_begins : site.slot % size ≡ 0) (bytes : List ℕ) (from : ℕ) (begins : (from ≡ 0) ⊎ (20 ≤ from))
    (rs : List Reserved) (x : Sealed) (xs : List Sealed) (b : Sealed) (rest : List Sealed) (fresh : x.is_written ≡ false) (are : AreSealed from rs (x ∷ xs ++ b ∷ rest)) (rise : EndsRise from (x ∷ xs ++ b ∷ rest) size) (inside : b.end ≤ length bytes)
    (number : ℕ) (stand : All (Stands sum size number bytes) rs) (reach : ℕ) (H : History) (first : SnapshotModel) where
  -- where it begins
  abbrev at : ℕ
  at = sealed_end x.end xs

  abbrev asked : List ℕ
  asked = bytes_between bytes at b.end

  lies : (x.end ≤ at) × (at < b.end) × (b.end ≤ size)
  lies = rises_at x.end xs b rest size rise.1

  fits : at + length asked ≤ size
  fits = let l = long old site.slot bytes from (x ∷ xs) b rest size rise inside in let up = lies.2 in omega (arith, l, up)

  module _ (file : List ℕ) (laid : Laid file site.slot bytes from (x ∷ xs ++ b ∷ rest) size) where
    clean : (i : ℕ) → site.slot + from ≤ i → i < site.slot + x.end → get_or file i 0 ≡ 0
    clean = let zeros : LaidOne file site.slot bytes from false x.end = subst (λ (o : Bool). LaidOne file site.slot bytes from o x.end) fresh laid.0 in zeros

    has_room : from + 32 ≤ size
    has_room = let far = lies in below_room size from some begins rs x (xs ++ b ∷ rest) are (all_space sum size number bytes rs stand) (omega (arith, far.0, far.1, far.2))

    gap : from + 5 ≤ x.end
    gap = head_long size from has_room begins rs x (xs ++ b ∷ rest) are (all_long sum size number bytes rs stand)

    -- What a crash leaves of it, in any segment that stands so far.
    pub torn_in_gap : (is : StandsTo sum size file H (stable_below reach H.batches) first reach) → {records : ℕ} → StandsIn sum size file (least_place size first) is.scanned site from records → (now left : List ℕ) → length now ≤ length asked → LeavesLog (after_write file (site.slot + at) asked now) left
        → {placed : List Placement} → NoForeignLog sum size (after_write file (site.slot + at) asked now) placed left → StandsTo sum size left H (stable_below reach H.batches) first reach
    torn_in_gap is its now left no_more leaves {placed} only_own =
        torn_gap sum none size some file site from at asked fits slot_begins has_room x.end gap lies.0 (head_headed from rs x (xs ++ b ∷ rest) are) clean reach H first is its now left no_more leaves {placed = placed} only_own

    -- All of it, in any segment that stands so far, where the file reaches up to the slot.
    pub stands_in_gap : (is : StandsTo sum size file H (stable_below reach H.batches) first reach) → {records : ℕ} → StandsIn sum size file (least_place size first) is.scanned site from records → site.slot ≤ length file
        → StandsAfter sum size file (overwritten file (site.slot + at) asked) site from records reach H first is.from
    stands_in_gap is its there =
        gap_stands sum none size some file site from at asked fits slot_begins has_room x.end gap lies.0 (head_headed from rs x (xs ++ b ∷ rest) are) clean reach H first is its there

    -- What a crash leaves of it, in the first segment.
    pub torn_behind_unwritten : {others : List BegunSegment} → {held : ℕ} → StandsAmong sum held size file site from others reach H first → (now left : List ℕ) → length now ≤ length asked → LeavesLog (after_write file (site.slot + at) asked now) left → {placed : List Placement}
        → NoForeignLog sum size (after_write file (site.slot + at) asked now) placed left → StandsTo sum size left H (stable_below reach H.batches) first reach
    torn_behind_unwritten alone now left no_more leaves {placed} only_own = torn_in_gap alone.stands alone.here now left no_more leaves {placed = placed} only_own

    -- All of it, in the first segment.
    pub written_behind_unwritten : {others : List BegunSegment} → {held : ℕ} → StandsAmong sum held size file site from others reach H first → site.slot ≤ length file → StandsAmong sum held size (overwritten file (site.slot + at) asked) site from others reach H first
    written_behind_unwritten {others} alone there = gap_written sum size some file site from others reach H first alone site at asked fits slot_begins there refl (stands_in_gap alone.stands alone.here there)
