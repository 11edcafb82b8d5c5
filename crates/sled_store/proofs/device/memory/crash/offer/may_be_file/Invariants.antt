-- So far: whether the files up to here may leave these bytes.
use Rattle.std.proofs.Common.{◌≡◌, take, Some}
use Rattle.sled_store.specs.inside.MemoryNames.{states_of, leaves_any}
use Rattle.sled_store.proofs.device.memory.crash.offer.may_be_file.Given as goal

abbrev pub invariant-loop-one : goal.invariant-loop-one
invariant-loop-one l = l.can ≡ leaves_any (states_of (take l.one-index l.kept)) (Some l.bytes)
