-- So far: the names that are left on the list may have more than their latest state.
use Rattle.std.proofs.Common.{vec_len}
use Rattle.sled_store.specs.Device.{NamesState}
use Rattle.sled_store.specs.inside.MemoryNames.{Keeps}
use Rattle.sled_store.proofs.Names.SettlingLemmas.{Settling}
use Rattle.sled_store.proofs.device.memory.named_files.MemNames.settle_changed.Given as goal

abbrev pub invariant-loop-name : goal.invariant-loop-name
invariant-loop-name l = (s : NamesState) → Keeps l.fn.self s → Settling l.self.kept l.self.changed.items s

abbrev pub decreases-loop-name : goal.decreases-loop-name
decreases-loop-name l = vec_len l.self.changed
