-- So far: all offsets are below the length where those from here on are.
use Rattle.std.proofs.Common.{◌≡◌, drop}
use Rattle.sled_store.specs.inside.Memory.{are_in}
use Rattle.sled_store.proofs.device.memory.crash.log.is_in.Given as goal

abbrev pub invariant-loop-p : goal.invariant-loop-p
invariant-loop-p l = are_in l.len (drop l.p-index l.patch) ≡ are_in l.len l.patch
