-- What is kept in memory of the files of a folder is what a device reads.
use Rattle.std.specs.Prelude.{◌≡◌, ℕ, ℤ, List, Option, None, Some, Vec}
use Rattle.std.specs.Option.{ForSome}
use Rattle.std.specs.Ordering.{int_cmp}
use Rattle.std.specs.BTreeMap.{BTreeMap, get}
use Rattle.std.specs.declared.alloc.Global.{Global}
use Rattle.sled_store.specs.Device.{State}
use Rattle.sled_file.specs.declared.mirror.Mirror.{Mirror}

abbrev pub bytes_found : Option (Vec ℕ Global) → Option (List ℕ)
bytes_found None = None
bytes_found (Some bytes) = Some bytes.items

-- the file under a name
abbrev pub file_in : BTreeMap ℤ (Vec ℕ Global) → ℤ → Option (List ℕ)
file_in files n = bytes_found (get int_cmp files n)

-- The temporary snapshot is known from when it is written until it is published.
pub record Mirrors (mirror : Mirror) (s : State) : Type 0 where
  pub log : mirror.log.items ≡ s.log.bytes
  pub blobs : (n : ℤ) → file_in mirror.blobs.files n ≡ s.blobs.file n
  pub snapshots : (n : ℤ) → file_in mirror.snapshots.files n ≡ s.snapshots.file n
  pub temporary : ForSome mirror.temporary (λ bytes. bytes.items ≡ s.temporary.bytes)
