-- So far: the offered files that are not left to be put stand under their names.
use Rattle.std.proofs.Common.{vec_len}
use Rattle.sled_store.specs.Device.{file_named}
use Rattle.sled_store.specs.Noted.{files_of}
use Rattle.sled_store.proofs.Names.TakenLemmas.{Put}
use Rattle.sled_store.proofs.device.memory.named_files.MemNames.put_all.Given as goal

abbrev pub invariant-loop-file : goal.invariant-loop-file
invariant-loop-file l = Put l.self.kept l.files.items (λ n. file_named (files_of l.fn.files.items) n)

abbrev pub decreases-loop-file : goal.decreases-loop-file
decreases-loop-file l = vec_len l.files
