-- Which error it is.
use Rattle.std.specs.Prelude.{◌≡◌, ◌≢◌, ℕ, ℤ, pos, Bool, true, false, List, [], Option, Some, None, Result, Ok, Err, string_bytes, option_map}
use Rattle.std.specs.IoError.{error_kind}
use Rattle.std.specs.declared.io.Error.{Error as IoError}
use Rattle.std.specs.declared.io.ErrorKind.{ErrorKind}
use Rattle.std.specs.declared.io.ErrorKind.TheVariants as kind
use Rattle.sled_codec.specs.declared.result.DiskPtr.{DiskPtr}
use Rattle.sled_codec.specs.declared.result.DiskPtr.TheVariants.{Inline, Blob}
use Rattle.sled_codec.specs.Pointers.{lid_of}
use Rattle.sled_codec.specs.declared.result.Error.{Error}
use Rattle.sled_codec.specs.declared.result.Error.TheVariants.{Corruption, Unsupported, Io, OutOfMemory, Held, NotReserved, PlacesUsedUp, CollectionNotFound}
use Rattle.sled_codec.specs.declared.result.Error.TheVariants.{ReportableBug}

-- the bytes are damaged
abbrev pub IsCorrupt : Error → Type 0
IsCorrupt (Corruption at) = Unit {0}
IsCorrupt _ = ⊥

-- the device failed, with this error
abbrev pub IsIo : IoError → Error → Type 0
IsIo io e = e ≡ Io io

-- the call answered that the bytes are damaged
abbrev pub IsCorruption : {T : Type 0} → Result T Error → Type 0
IsCorruption (Ok _) = ⊥
IsCorruption (Err e) = IsCorrupt e

-- A decoder fails for bytes that spell nothing, where no blob is named, or for want of memory.
abbrev pub IsDecodeError : Error → Type 0
IsDecodeError (Corruption at) = at ≡ None
IsDecodeError OutOfMemory = Unit {0}
IsDecodeError _ = ⊥

-- one that takes no memory, for such bytes alone
abbrev pub IsDecodeErrorOf : Bool → Error → Type 0
IsDecodeErrorOf true e = IsDecodeError e
IsDecodeErrorOf false e = e ≡ Corruption None

-- What becomes of an error of the device: want of memory stays that, and all else is a failure of the device.
pub record IsErrorOf (io : IoError) (e : Error) : Type 0 where
  pub memory : error_kind io ≡ kind.OutOfMemory → e ≡ OutOfMemory
  pub device : error_kind io ≢ kind.OutOfMemory → e ≡ Io io

-- What tells errors apart.

-- their number
abbrev pub variant_of : Error → ℕ
variant_of (Corruption at) = 1
variant_of (Unsupported text) = 2
variant_of (Io io) = 3
variant_of OutOfMemory = 4
variant_of (Held place) = 5
variant_of (NotReserved place) = 6
variant_of PlacesUsedUp = 7
variant_of (CollectionNotFound name) = 8
variant_of (ReportableBug text) = 9

-- the blob of a pointer, if it has one
abbrev pub blob_at : Option DiskPtr → Option ℤ
blob_at None = None
blob_at (Some (Inline lid)) = None
blob_at (Some (Blob lid place)) = Some place

-- the offset in its pointer, if there is one
abbrev pub lid_in : Error → Option ℕ
lid_in (Corruption at) = option_map lid_of at
lid_in _ = None

-- the blob in its pointer, if there is one
abbrev pub blob_in : Error → Option ℤ
blob_in (Corruption at) = blob_at at
blob_in _ = None

-- the text or the name in it, if there is one
abbrev pub text_of : Error → List ℕ
text_of (Unsupported text) = string_bytes text
text_of (CollectionNotFound name) = name.items
text_of (ReportableBug text) = string_bytes text
text_of _ = []

-- the kind of the device's error, if it is one
abbrev pub fault_of : Error → Option ErrorKind
fault_of (Io io) = Some (error_kind io)
fault_of _ = None

-- the place in it, or 0
abbrev pub place_of : Error → ℤ
place_of (Held place) = place
place_of (NotReserved place) = place
place_of _ = pos 0

-- the kind that callers see who know the errors of std alone
abbrev pub io_kind_of : Error → ErrorKind
io_kind_of (Corruption at) = kind.InvalidData
io_kind_of (Unsupported text) = kind.InvalidInput
io_kind_of (Io io) = error_kind io
io_kind_of OutOfMemory = kind.OutOfMemory
io_kind_of (Held place) = kind.WouldBlock
io_kind_of (NotReserved place) = kind.InvalidInput
io_kind_of PlacesUsedUp = kind.Other
io_kind_of (CollectionNotFound name) = kind.NotFound
io_kind_of (ReportableBug text) = kind.Other
