-- Marks change no segment.
use Rattle.std.proofs.Common.{if◌then◌else◌, ◌≡◌, ◌∙◌, ℕ, Bool, None, Some, ap}
use Rattle.sled_store.specs.SegmentStates.{SlotState, is_free, segment_in}
use Rattle.sled_store.proofs.Marks.MarkSteps.{IsSameSegment, linked_same}
use Rattle.sled_store.proofs.Marks.SameSlots.{replaced_segments}
use Rattle.sled_store.proofs.segment.laws.marks_change_no_segment.Goals as goal

same_in : (old new : SlotState) → IsSameSegment old new → segment_in new ≡ segment_in old
same_in old new same = ap (λ (b : Bool). if b then None else Some new.lsn) same.free ∙ ap (λ (n : ℕ). if is_free old.state then None else Some n) same.lsn

pub returns : goal.returns
returns c = record {
  links = λ size pid info m k may. same_in _ _ (linked_same size m info may.lies.taken pid k);
  replaces = λ size pid info old m k may. same_in _ _ (replaced_segments size pid info old m may k);
}
