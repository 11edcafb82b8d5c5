-- What proofs, and functions that no user calls, need beside `specs/ReadPointer.antt`. No public contract names it.
use Rattle.std.specs.Prelude.{ℕ, ℤ, List, Option, Result}
use Rattle.sled_codec.specs.declared.result.DiskPtr.{DiskPtr}
use Rattle.sled_codec.specs.declared.result.DiskPtr.TheVariants as ptr
use Rattle.sled_codec.specs.declared.result.Error.{Error}
use Rattle.sled_codec.specs.declared.result.Error.TheVariants.{Corruption}
use Rattle.sled_store.specs.Blobs.{BlobAnswers, ItemAnswers}
use Rattle.sled_store.specs.Device.{State}
use Rattle.sled_core.specs.ReadPointer.{IsDamageIn}

-- damage that is answered for a pointer is there
abbrev pub IsDamageOf : (List ℕ → ℕ) → ℕ → State → ℕ → DiskPtr → Error → Type 0
IsDamageOf sum size s number p (Corruption at) = IsDamageIn sum size s number p at
IsDamageOf sum size s number p _ = Unit {0}

-- Why a pointer was not read: as a read of an item, or of a blob.
abbrev pub PointerAnswers : {T : Type 0} → (List ℕ → ℕ) → (ℤ → Option (List ℕ)) → DiskPtr → Result T Error → ℕ → ℕ → Type 0
PointerAnswers sum blobs (ptr.Inline lid) result before after = ItemAnswers sum blobs result before after
PointerAnswers sum blobs (ptr.Blob lid place) result before after = BlobAnswers sum place result (blobs place) before after
