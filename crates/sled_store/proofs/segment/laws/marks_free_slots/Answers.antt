-- Two Replaces of one page in two segments: a mark above both frees the first segment's slot.
use Rattle.sled_store.proofs.Marks.MarkExample.{two_messages, second_marked, both_marked, first_waits, first_freed}
use Rattle.sled_store.proofs.segment.laws.marks_free_slots.Goals as goal

pub returns : goal.returns
returns c = (two_messages, second_marked, both_marked, first_waits, first_freed)
