-- So far: it is none of the files before this one.
use Rattle.std.proofs.Common.{◌≡◌, ℕ, ℤ, List}
use Rattle.sled_oracle.proofs.Walks.ElementLemmas.{NoneBelow}
use Rattle.sled_oracle.proofs.foreign.names.was_asked.Given as goal

abbrev pub invariant-loop-file : goal.invariant-loop-file
invariant-loop-file l = NoneBelow l.files (λ (f : ℤ × List ℕ). f ≡ (l.name, l.bytes)) l.file-index
