-- So far: each file before this one is own.
use Rattle.std.proofs.Common.{◌≡◌, ◌<◌, ℕ, ℤ, List, get_or}
use Rattle.sled_oracle.specs.OwnNames.{IsOwnFile}
use Rattle.sled_oracle.proofs.foreign.names.are_names_own.Given as goal

abbrev pub invariant-loop-file : goal.invariant-loop-file
invariant-loop-file g l = (k : ℕ) → k < l.file-index → (f : ℤ × List ℕ) → get_or l.left k f ≡ f → IsOwnFile (g.K.FileKind.Passes g.C.Checksum.sum_of) l.past l.left f
