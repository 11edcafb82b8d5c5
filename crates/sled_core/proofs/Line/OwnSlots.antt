-- In each slot of the log file that segments hold a history over, all that is read is the log's own, where it is so of what is written of them and of the
-- other slots.
use Rattle.std.specs.declared.io.Error.{Error as IoError}
use Rattle.std.proofs.Common.{◌≡◌, ◌≤◌, ◌*◌, ◌/◌, ℕ, zero, suc, List, [], ◌∷◌, Option, None, Some, ap, arith, inl, inr}
use Rattle.std.specs.List.{Contains, slice_get}
use Rattle.sled_codec.specs.History.{History}
use Rattle.sled_store.specs.Device.{State}
use Rattle.sled_store.specs.Foreign.{HeaderWasPlaced, RecordWasPlaced}
use Rattle.sled_store.proofs.Segments.Elements.{in_cases, in_nothing}
use Rattle.sled_core.specs.Begun.{SegmentView}
use Rattle.sled_core.specs.Recoverable.{NoHeaderOfZeros}
use Rattle.sled_core.specs.declared.logger.joined_marks.JoinedMarks.{JoinedMarks}
use Rattle.sled_core.specs.inside.Fits.{HoldsLine}
use Rattle.sled_core.specs.inside.OwnLog.{HasOwnSlot, HasPlacedFile, IsOwnSegment, ReadsPlaced}
use Rattle.sled_core.proofs.Holds.Facts.{IsSegment}
use Rattle.sled_core.proofs.Line.Ends.{with_part}
use Rattle.sled_core.proofs.Line.Segments.{AreSegments, nth_segment}
use Rattle.sled_core.proofs.Line.WrittenSlots.{headers_line}
use Rattle.sled_core.proofs.OwnLog.AllSlots.{all_slots, header_own, record_own}
use Rattle.sled_core.proofs.OwnLog.SlotOfSegment.{slot_of_segment}
use Rattle.sled_core.proofs.Reserve.Entries.{all_long}
use Rattle.sled_core.proofs.Reserve.Ranges.{at_there}

-- where one of these segments stands among them
its_number : (line : List SegmentView) (v : SegmentView) → Contains line v → (n : ℕ) × (slice_get line n ≡ Some v)
its_number [] v there = absurd (in_nothing v there)
its_number (x ∷ xs) v there = elim (in_cases x v xs there) [
  | inl is ↦ (zero, ap Some is)
  | inr rest ↦ (let found = its_number xs v rest in (suc found.0, found.1))
]

module _ (sum : List ℕ → ℕ) (size : ℕ) (big : 256 ≤ size) (zeros : NoHeaderOfZeros sum) (device : State) (fault : Option IoError) (whole : fault ≡ None)
    (place : ℕ) (line : List SegmentView) (are : AreSegments size place line) (H : History) (marks : JoinedMarks)
    (holds : HoldsLine sum marks size device fault line H) (own : HasPlacedFile sum size device line) where
  abbrev Header : ℕ → List ℕ → Type 0
  Header = HeaderWasPlaced device.placed

  abbrev Own : ℕ → ℕ → List ℕ → Type 0
  Own = RecordWasPlaced sum size device.placed

  abbrev Slot : ℕ → Type 0
  Slot = HasOwnSlot sum size Header Own device.log.bytes

  -- A slot in which one of the segments lies.
  slot_at_nth : (n : ℕ) (v : SegmentView) → slice_get line n ≡ Some v → (slot : ℕ) → v.parts.site.slot ≡ slot * size → Slot slot
  slot_at_nth n v there slot lies =
      let is : IsSegment size v.parts.site.place v = nth_segment size place line are n v there in
      with_part sum size device fault _ line n v H holds there (λ stays its segment.
      slot_of_segment sum size Header Own zeros (omega (arith, big)) device.log.bytes v.parts.site slot v.parts.written_len v.parts.reserved v.parts.sealed
      v.parts.bytes lies is.fresh is.are (all_long sum size (v.parts.site.place / size) v.parts.bytes v.parts.reserved segment.records.stand)
      (segment.laid whole) (λ some. headers_line sum size _ device fault whole line n v H holds there some)
      (at_there (λ (u : SegmentView). IsOwnSegment sum size Header Own device.log.bytes u.parts.site u.parts.written_len u.parts.sealed) line n v there
      own.segments))

  -- Each slot.
  pub every_slot : (slot : ℕ) → Slot slot
  every_slot = all_slots sum size Header Own device.log.bytes line own
      (λ v among slot lies. let at = its_number line v among in slot_at_nth at.0 v at.1 slot lies)

  pub reads_placed : ReadsPlaced sum size device
  reads_placed slot = record {
    header = header_own sum size Header Own device.log.bytes slot (every_slot slot);
    records = record_own sum size Header Own device.log.bytes slot (every_slot slot);
  }
