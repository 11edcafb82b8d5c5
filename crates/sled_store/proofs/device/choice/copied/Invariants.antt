-- So far: the files up to here, and then those behind.
use Rattle.std.proofs.Common.{◌≡◌, ◌++◌, length, drop}
use Rattle.sled_store.specs.Noted.{files_of}
use Rattle.sled_store.proofs.device.choice.copied.Given as goal

abbrev pub invariant-loop-name : goal.invariant-loop-name
invariant-loop-name l = record {
  copied : files_of l.name-items ≡ files_of l.copies.items ++ files_of (drop l.name-index l.name-items);
  long : length l.copies.items ≡ l.name-index;
  room : l.copies.cap ≡ l.initial.copies.cap;
}
