-- So far: what was told, and what the names that come tell, is all.
use Rattle.std.proofs.Common.{◌≡◌, ◌++◌}
use Rattle.sled_store.proofs.Names.KeepsLemmas.{listed}
use Rattle.sled_store.proofs.device.memory.named_files.MemNames.list.Given as goal

abbrev pub invariant-loop-name : goal.invariant-loop-name
invariant-loop-name l = l.names.items ++ listed l.name-iterator ≡ listed l.self.kept.entries
