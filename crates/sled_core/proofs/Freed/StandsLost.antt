-- Slots lose their segments, which end at the beginning of the segment from which on all is held, or below: what a reader finds in the file that is shown
-- stands as it did, also with zeros behind its end, and the file has besides what it may have.
use Rattle.std.proofs.Common.{◌≡◌, ◌≢◌, ◌∙◌, ◌+◌, ◌*◌, ◌/◌, ◌≤◌, ℕ, true, false, List, length, refl, sym, ap, subst, arith}
use Rattle.std.specs.List.{Contains}
use Rattle.sled_codec.specs.History.{History}
use Rattle.sled_codec.specs.Snapshots.{SnapshotModel}
use Rattle.sled_store.specs.Device.{State}
use Rattle.sled_store.specs.SegmentStates.{Machine, SlotState, is_free, slot_at}
use Rattle.sled_store.proofs.Marks.SlotBySlot.{LosesOne, by_slots}
use Rattle.sled_store.proofs.Marks.SlotMoves.{KeepOrLose, KeepsSegment, LosesSegment}
use Rattle.sled_core.specs.declared.iobuf.SegmentPosition.{SegmentPosition}
use Rattle.sled_core.specs.declared.iterator.Segment.{Segment}
use Rattle.sled_core.specs.Begun.{SegmentView}
use Rattle.sled_core.specs.NoForeign.{NoHeaderOfZeros}
use Rattle.sled_core.specs.OpenBatches.{stable_below}
use Rattle.sled_core.specs.Tail.{least_place}
use Rattle.sled_core.specs.inside.Cleared.{cleared}
use Rattle.sled_core.specs.inside.FreeSlots.{HaveOwn}
use Rattle.sled_core.specs.inside.Hides.{Hides}
use Rattle.sled_core.specs.inside.LogFile.{padded}
use Rattle.sled_core.specs.inside.Reached.{BegunSegment, StandsAmong}
use Rattle.sled_core.specs.inside.Scan.{IsFoundSegment}
use Rattle.sled_core.specs.inside.Slots.{AreWhole, IsWholeSegment, marked_at}
use Rattle.sled_core.proofs.Cleared.Emptied.{IsEmptied, NoneNeeds, emptied_stands, its_below}
use Rattle.sled_core.proofs.Cleared.Moves.{cleared_emptied, cleared_line}
use Rattle.sled_core.proofs.Freed.FilesLost.{emptied_beyond, whole_lost}
use Rattle.sled_core.proofs.Freed.FreedHides.{hides_emptied}
use Rattle.sled_core.proofs.Freed.SlotsLost.{own_lost}
use Rattle.sled_core.proofs.Numbers.HidesAs.{hides_as}
use Rattle.sled_core.proofs.Read.FoundLemmas.{found_there}
use Rattle.sled_core.proofs.Reserve.Ranges.{part-append}
use Rattle.sled_core.proofs.Tail.Multiples.{lower_multiple}
use Rattle.sled_core.proofs.Torn.WrittenBeside.{found_moved}

module _ (sum : List ℕ → ℕ) (none : NoHeaderOfZeros sum) (size : ℕ) (some : 256 ≤ size) (s : State) (line : List SegmentView) (base : ℕ) (H : History)
    (first : SnapshotModel) (site : SegmentPosition) (from : ℕ) (others : List BegunSegment) (reach held : ℕ) where
  abbrev least : ℕ
  least = least_place size first

  abbrev shown : Machine → List ℕ
  shown m = cleared size m line s.log.bytes

  -- a file stands as far as it was reached, and what is held counts from a place or above it
  abbrev Stands : List ℕ → Type 0
  Stands file = (among : StandsAmong sum held size file site from others reach H first) × (held ≤ among.stands.from)

  -- So does what is shown of the file with these slots, and this is what that has besides.
  pub record ShowsStanding (m : Machine) : Type 0 where
    pub among : Stands (shown m)
    pub beyond : (to : ℕ) → site.slot ≤ to → Stands (padded to (shown m))
    pub hides : Hides sum size s m line least base H

  -- A slot is emptied.
  stands_emptied : (k place : ℕ) (old left : List ℕ) → IsEmptied size k old left → (x : Segment) → IsFoundSegment sum size old 0 x → x.slot ≡ k * size
      → x.place + size ≤ held / size * size → NoneNeeds size H k held reach → site.slot ≢ k * size
      → ((y : BegunSegment) → Contains others y → y.site.slot ≢ k * size) → Stands old → Stands left
  stands_emptied k place old left emptied x found here low unneeded beside behind (among, counts) =
      let up = lower_multiple size some held among.stands.from counts in
      let now = emptied_stands sum none size some k old left emptied H reach first among
      (its_below sum size old least 0 x found k (among.stands.from / size * size) here (omega (arith, low, up)))
      (λ cut above below. unneeded cut (omega (arith, counts, above)) below) beside behind in
      (now.0, omega (arith, counts, now.1))

  -- Slots keep their segments.
  standing_kept : (n o : Machine) → ((k : ℕ) → KeepsSegment (slot_at n k) (slot_at o k)) → ShowsStanding n → ShowsStanding o
  standing_kept n o kept has = record {
    among = subst Stands (sym same) has.among;
    beyond = λ to up. subst (λ file. Stands (padded to file)) (sym same) (has.beyond to up);
    hides = hides_as sum size s least base H n o line line (λ k. (kept k).free) (λ k. (kept k).lsn) same (omega arith) has.hides;
  } where
    same : shown o ≡ shown n
    same = cleared_line size n o line line s.log.bytes (λ k. (kept k).free) (λ i. refl)

  -- Each slot that has a segment has its own, and those that end at a place or below are whole. No table needs anything of those that are lost, which lie
  -- beside the segments of the line.
  module _ (m m' : Machine) (long : length m'.slots ≡ length m.slots) (changes : KeepOrLose size base m m') (end : ℕ) (own : HaveOwn size end m) (below : ℕ)
      (whole : AreWhole sum size (shown m) H below m) (low : base ≤ below) (high : base ≤ held / size * size)
      (unneeded : (k : ℕ) → LosesSegment size base (slot_at m k) (slot_at m' k) → NoneNeeds size H k held reach)
      (beside : (k : ℕ) → LosesSegment size base (slot_at m k) (slot_at m' k) → site.slot ≢ k * size)
      (behind : (k : ℕ) → LosesSegment size base (slot_at m k) (slot_at m' k) → (y : BegunSegment) → Contains others y → y.site.slot ≢ k * size) where
    standing_less : (n o : Machine) (k : ℕ) → LosesOne size base m m' long changes n o k → ShowsStanding n → ShowsStanding o
    standing_less n o k one has = record {
      among = stands_emptied k place (shown n) (shown o) emptied x its.found refl ends (unneeded k one.lost) (beside k one.lost) (behind k one.lost) has.among;
      beyond = λ to up. stands_emptied k place (padded to (shown n)) (padded to (shown o))
          (emptied_beyond size (omega (arith, some)) n o line s.log.bytes k free one.others to) x
          (found_moved sum size (shown n) (padded to (shown n)) 0 x
          (part-append (shown n) _ (k * size) 20 (found_there sum size (shown n) 0 x its.found)) its.found)
          refl ends (unneeded k one.lost) (beside k one.lost) (behind k one.lost) (has.beyond to up);
      hides = hides_emptied sum size some s n line base H first has.hides o k used free one.others emptied end
          (own_lost size base (omega (arith, some)) m n one.so_far end own) under its (stable_below reach H.batches) reach has.among.0.stands;
    } where
      place : ℕ
      place = (slot_at n k).lsn

      used : is_free (slot_at n k).state ≡ false
      used = ap (λ (x : SlotState). is_free x.state) one.old ∙ one.lost.taken

      free : is_free (slot_at o k).state ≡ true
      free = ap (λ (x : SlotState). is_free x.state) one.new ∙ one.lost.free

      under : place + size ≤ base
      under = let ends_low = one.lost.below in let is = ap (λ (x : SlotState). x.lsn) one.old in omega (arith, ends_low, is)

      ends : place + size ≤ held / size * size
      ends = omega (arith, under, high)

      its : IsWholeSegment sum size (shown n) H (k * size) place
      its =
          whole_lost size (omega (arith, some)) m n line s.log.bytes sum (omega (arith, some)) base one.so_far H below whole k used
          (omega (arith, under, low))

      x : Segment
      x = marked_at (k * size) place its.mark

      emptied : IsEmptied size k (shown n) (shown o)
      emptied = cleared_emptied size (omega (arith, some)) n line s.log.bytes o k free (λ j other. ap (λ (y : SlotState). is_free y.state) (one.others j other))

    -- So it is behind all of them.
    pub standing_lost : ShowsStanding m → ShowsStanding m'
    standing_lost = by_slots size base m m' long changes ShowsStanding standing_kept standing_less
