-- Zeros are written over the slots that a recovery did not read, one behind another, each synced before the next one: before and behind each of these writes, and of all that a crash leaves of one, the log file can be recovered up to the same cut, under a snapshot with that place.
use Rattle.std.proofs.Common.{◌≡◌, ◌⊎◌, ◌∙◌, ◌%◌, ◌≤◌, ℕ, ℤ, List, [], ◌∷◌, length, replicate, Option, None, sym, ap, arith, inl, inr}
use Rattle.std.specs.List.{Contains}
use Rattle.sled_codec.specs.History.{History, CutFits}
use Rattle.sled_codec.specs.Snapshots.{SnapshotModel, stable_place}
use Rattle.sled_store.specs.Device.{LeavesLog, overwritten, at_rest, Placement}
use Rattle.sled_store.specs.Foreign.{NoForeignLog}
use Rattle.sled_store.proofs.LogFile.OverwrittenLemmas.{length-overwritten}
use Rattle.sled_store.proofs.Segments.Elements.{in_first, in_rest}
use Rattle.sled_core.specs.declared.iterator.Segment.{Segment}
use Rattle.sled_core.specs.inside.Recoverable.{ActiveFits, IsRecoverableLog, AreRecoverableBlobs}
use Rattle.sled_core.specs.Recoverable.{NoHeaderOfZeros}
use Rattle.sled_core.specs.inside.Scan.{IsFoundSegment}
use Rattle.sled_core.proofs.Read.FoundLemmas.{found_there}
use Rattle.sled_core.proofs.Torn.TornLemmas.{after_write}
use Rattle.sled_log.specs.Recovery.{Scanned, least_place}
use Rattle.sled_log.specs.WritesBack.{after_zeroing}
use Rattle.sled_log.proofs.Recovers.ActiveSlot.{no_active}
use Rattle.sled_log.proofs.Recovers.LeftOut.{LieAbove}
use Rattle.sled_log.proofs.Moments.FromCut.{EndsAtCut, IsOfCut, from_end, from_inside}
use Rattle.sled_log.proofs.Moments.UnreadSlot.{unread_end, unread_inside}
use Rattle.sled_log.proofs.Moments.UnreadWritten.{unread_zeroed, zeroed_before, ends_zeroed}
use Rattle.sled_log.proofs.Moments.UnreadZeroed.{found_old}
use Rattle.sled_core.proofs.Tail.Moved.{one_in_slot}

-- Slots that are free.

-- a slot that begins in the file, in which no segment begins below the cut
pub record IsFree (sum : List ℕ → ℕ) (size : ℕ) (log : List ℕ) (cut slot : ℕ) : Type 0 where
  pub aligned : slot % size ≡ 0
  pub reach : slot ≤ length log
  pub free : (s : Segment) → IsFoundSegment sum size log 0 s → s.slot ≡ slot → cut ≤ s.place

abbrev pub AreFree : (List ℕ → ℕ) → ℕ → List ℕ → ℕ → List ℕ → Type 0
AreFree sum size log cut slots = (slot : ℕ) → Contains slots slot → IsFree sum size log cut slot

-- The slots that a recovery leaves unread are free.
pub free_left : (sum : List ℕ → ℕ) (size : ℕ) (log : List ℕ) (some : 256 ≤ size) (blobs : ℤ → Option (List ℕ)) (H : History) (A : ℕ) (first : SnapshotModel) (cut : ℕ × Option ℕ) (is : IsRecoverableLog sum size log H A first cut)
    (are : AreRecoverableBlobs sum blobs H cut.0) (unread : List ℕ) → LieAbove sum size log some blobs H A first cut is are unread → AreFree sum size log cut.0 unread
free_left sum size log some blobs H A first cut is are unread above slot there =
    let u = above slot there in
    let found = (is.numbers.found u.0).0 u.1 in
    let in_file = found_there sum size log (least_place size first) u.0 found in
    record {
      aligned = ap (λ n. n % size) (sym u.2) ∙ found.slot;
      reach = omega (arith, in_file, u.2);
      free = λ s found_s same. (let places = one_in_slot sum size log 0 (least_place size first) s u.0 found_s found (same ∙ sym u.2) in omega (arith, places, u.3));
    }

-- Where the log file ends.

module _ (sum : List ℕ → ℕ) (size : ℕ) (log : List ℕ) (some : 256 ≤ size) (H : History) (A : ℕ) (cut : ℕ × Option ℕ) where
  -- the reading of the segment of the cut ends at the cut; or that is the end of a segment, and no segment begins there
  abbrev pub StopsIn : IsOfCut sum size log H A cut → Type 0
  StopsIn o = ((z : Scanned) × EndsAtCut sum size log some o.scanned cut z) ⊎ ((cut.1 ≡ None) × (cut.0 % size ≡ 0) × ((s : Segment) → Contains o.ordering s → s.place ≡ cut.0 → ⊥))

  -- What is read from the segment of the cut on ends at the cut.
  pub record StopsAtCut : Type 0 where
    pub parts : IsOfCut sum size log H A cut
    pub stops : StopsIn parts

module _ (sum : List ℕ → ℕ) (size : ℕ) (old : List ℕ) (some : 256 ≤ size) (H : History) (A : ℕ) (cut : ℕ × Option ℕ) (stops : StopsAtCut sum size old some H A cut) where
  -- Under a snapshot with that place it can be recovered.
  module _ (fits : CutFits H cut.0) (next : SnapshotModel) (place : stable_place next.stable ≡ cut.0) (active : ActiveFits size (stable_place next.stable) next.active) where
    none_active : cut.1 ≡ None → cut.0 % size ≡ 0 → next.active ≡ cut.1
    none_active no_slot aligned = no_active size (stable_place next.stable) next.active active (ap (λ n. n % size) place ∙ aligned) ∙ sym no_slot

    pub recoverable_at : IsRecoverableLog sum size old H A next cut
    recoverable_at = by stops.stops where
      by : StopsIn sum size old some H A cut stops.parts → IsRecoverableLog sum size old H A next cut
      by (inl (z, ends)) = from_inside sum size old some H A cut stops.parts next place fits z ends
      by (inr (no_slot, aligned, nothing)) = from_end sum size old some H A cut stops.parts next place (none_active no_slot aligned) aligned nothing

    -- Zeros are written over a slot that is free, and a crash comes.
    pub zeroing_left : NoHeaderOfZeros sum → (slot : ℕ) → IsFree sum size old cut.0 slot → (now left : List ℕ) → length now ≤ length (replicate {A = ℕ} size 0) → LeavesLog (after_write old slot (replicate size 0) now) left
        → (placed : List Placement) → NoForeignLog sum size (after_write old slot (replicate size 0) now) placed left → IsRecoverableLog sum size left H A next cut
    zeroing_left none slot is_free now left no_more leaves placed only_own = by stops.stops where
      by : StopsIn sum size old some H A cut stops.parts → IsRecoverableLog sum size left H A next cut
      by (inl (z, ends)) =
          unread_inside sum size old some H A cut stops.parts slot size now left no_more leaves only_own none fits slot is_free.aligned (omega arith) (omega arith) is_free.free next place z ends
      by (inr (no_slot, aligned, nothing)) =
          unread_end sum size old some H A cut stops.parts slot size now left no_more leaves only_own none fits slot is_free.aligned (omega arith) (omega arith) is_free.free next place (none_active no_slot aligned) aligned nothing

  -- They are all written, and synced.
  module _ (none : NoHeaderOfZeros sum) (slot : ℕ) (is_free : IsFree sum size old cut.0 slot) where
    abbrev new : List ℕ
    new = overwritten old slot (replicate size 0)

    pub one_zeroed : StopsAtCut sum size new some H A cut
    one_zeroed = record {
      parts = unread_zeroed sum size old some none H A cut stops.parts slot is_free.aligned is_free.reach is_free.free;
      stops = by stops.stops;
    } where
      by : StopsIn sum size old some H A cut stops.parts → StopsIn sum size new some H A cut (unread_zeroed sum size old some none H A cut stops.parts slot is_free.aligned is_free.reach is_free.free)
      by (inl (z, ends)) = inl (z, ends_zeroed sum size old some none H A cut stops.parts slot is_free.aligned is_free.reach is_free.free z ends)
      by (inr (no_slot, aligned, nothing)) = inr (no_slot, aligned, λ s there. nothing s (zeroed_before sum size old some none H A cut stops.parts slot is_free.aligned is_free.reach is_free.free s there))

-- Slots that are free stay so.
pub still_free : (sum : List ℕ → ℕ) (size : ℕ) (old : List ℕ) → 256 ≤ size → NoHeaderOfZeros sum → History → (cut slot other : ℕ) → IsFree sum size old cut slot → IsFree sum size old cut other
    → IsFree sum size (overwritten old slot (replicate size 0)) cut other
still_free sum size old some none H cut slot other is_free was = record {
  aligned = was.aligned;
  reach = (let there = was.reach in omega (arith, there, length-overwritten old slot (replicate size 0)));
  free = λ s found same. was.free s (found_old sum size old some none slot is_free.aligned is_free.reach H 0 s found) same;
}

-- All of them are filled, one behind another.
pub all_zeroed : (sum : List ℕ → ℕ) (size : ℕ) (some : 256 ≤ size) (H : History) (A : ℕ) (cut : ℕ × Option ℕ) → NoHeaderOfZeros sum → (slots old : List ℕ) → AreFree sum size old cut.0 slots → StopsAtCut sum size old some H A cut
    → StopsAtCut sum size (after_zeroing size slots (at_rest old)).bytes some H A cut
all_zeroed sum size some H A cut none [] old are_free stops = stops
all_zeroed sum size some H A cut none (slot ∷ slots) old are_free stops =
    let is_free = are_free slot (in_first slot slots) in
    all_zeroed sum size some H A cut none slots (overwritten old slot (replicate size 0)) (λ other there. still_free sum size old some none H cut.0 slot other is_free (are_free other (in_rest slot other slots there)))
    (one_zeroed sum size old some H A cut stops none slot is_free)
