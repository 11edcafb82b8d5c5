-- So far: each name either comes, or may be so.
use Rattle.std.proofs.Common.{◌≡◌, ◌⊎◌, ℤ, IsTrue, is_some, true}
use Rattle.std.specs.Ordering.{int_cmp}
use Rattle.std.specs.Map.{lookup}
use Rattle.std.specs.BTreeMap.{is_at}
use Rattle.sled_store.specs.Device.{file_named}
use Rattle.sled_store.specs.Noted.{files_of}
use Rattle.sled_store.specs.inside.MemoryNames.{states_of, files_under, leaves_any}
use Rattle.sled_store.proofs.device.memory.named_files.MemNames.may_have_kept.Given as goal

abbrev pub invariant-loop-name : goal.invariant-loop-name
invariant-loop-name l = (n : ℤ) → is_some (lookup (is_at (int_cmp n)) l.self.kept.entries) ≡ true
    → (is_some (lookup (is_at (int_cmp n)) l.name-iterator) ≡ true) ⊎ IsTrue (leaves_any (states_of (files_under l.self.kept n)) (file_named (files_of l.files.items) n))
