-- So far: each name that was offered before this one may be so.
use Rattle.std.proofs.Common.{take, ℤ, IsTrue, IsSome}
use Rattle.sled_store.specs.Device.{file_named}
use Rattle.sled_store.specs.Noted.{files_of}
use Rattle.sled_store.specs.inside.MemoryNames.{states_of, files_under, leaves_any}
use Rattle.sled_store.proofs.device.memory.named_files.MemNames.may_have_offered.Given as goal

abbrev pub invariant-loop-file : goal.invariant-loop-file
invariant-loop-file l = (n : ℤ) → IsSome (file_named (files_of (take l.file-index l.files.items)) n) → IsTrue (leaves_any (states_of (files_under l.self.kept n)) (file_named (files_of l.files.items) n))
