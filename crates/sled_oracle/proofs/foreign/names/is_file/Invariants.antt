-- So far: the name is not among the files before this one.
use Rattle.std.proofs.Common.{◌≡◌, drop}
use Rattle.sled_store.specs.Device.{file_named}
use Rattle.sled_oracle.proofs.foreign.names.is_file.Given as goal

abbrev pub invariant-loop-file : goal.invariant-loop-file
invariant-loop-file l = file_named (drop l.file-index l.files) l.name ≡ file_named l.files l.name
