-- So far: by the notes before this one.
use Rattle.std.proofs.Common.{◌↔◌, IsTrue, take}
use Rattle.sled_store.specs.Foreign.{IsWhole}
use Rattle.sled_oracle.specs.OwnParts.{all_noted, nothing_known, log_of}
use Rattle.sled_oracle.proofs.foreign.is_whole.Given as goal

abbrev pub invariant-loop-note : goal.invariant-loop-note
invariant-loop-note l = IsTrue l.whole ↔ IsWhole (log_of (all_noted (take l.note-index l.past.notes.items) nothing_known)) l.at l.text
