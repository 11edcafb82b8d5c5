-- So far: by the notes before this one.
use Rattle.std.proofs.Common.{◌↔◌, IsTrue, take}
use Rattle.sled_store.specs.Foreign.{RecordWasPlaced}
use Rattle.sled_oracle.specs.OwnParts.{all_noted, nothing_known}
use Rattle.sled_oracle.proofs.foreign.record_was_placed.Given as goal

abbrev pub invariant-loop-note : goal.invariant-loop-note
invariant-loop-note g l = IsTrue l.placed ↔ RecordWasPlaced g.C.Checksum.sum_of l.size (all_noted (take l.note-index l.past.notes.items) nothing_known).placed l.number.0 l.at l.text
