-- So far: what is left has the file that was settled.
use Rattle.std.proofs.Common.{◌≡◌, vec_len}
use Rattle.sled_store.specs.inside.MemoryNames.{states_of, file_settled}
use Rattle.sled_store.proofs.device.memory.crash.names.go_back.Given as goal

abbrev pub invariant-loop-one : goal.invariant-loop-one
invariant-loop-one l = file_settled (states_of l.kept.items) ≡ file_settled (states_of l.fn.kept.items)

abbrev pub decreases-loop-one : goal.decreases-loop-one
decreases-loop-one l = vec_len l.kept
