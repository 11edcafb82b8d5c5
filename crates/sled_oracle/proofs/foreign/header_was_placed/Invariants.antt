-- So far: by the notes before this one.
use Rattle.std.proofs.Common.{◌↔◌, IsTrue, take}
use Rattle.sled_store.specs.Foreign.{HeaderWasPlaced}
use Rattle.sled_oracle.specs.OwnParts.{all_noted, nothing_known}
use Rattle.sled_oracle.proofs.foreign.header_was_placed.Given as goal

abbrev pub invariant-loop-note : goal.invariant-loop-note
invariant-loop-note l = IsTrue l.placed ↔ HeaderWasPlaced (all_noted (take l.note-index l.past.notes.items) nothing_known).placed l.at l.text
