-- So far: the name is not among the files before this one.
use Rattle.std.proofs.Common.{◌≡◌, drop}
use Rattle.sled_store.specs.Device.{file_named}
use Rattle.sled_store.specs.Noted.{files_of}
use Rattle.sled_store.proofs.device.memory.crash.offer.offered.Given as goal

abbrev pub invariant-loop-i : goal.invariant-loop-i
invariant-loop-i l = file_named (files_of (drop l.i l.files.items)) l.name ≡ file_named (files_of l.files.items) l.name
