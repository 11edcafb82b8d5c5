-- What a reader finds at an offset of the log file.
use Rattle.std.specs.Prelude.{◌≡◌, ◌≢◌, ◌⊎◌, ◌+◌, ◌%◌, ◌≤◌, ◌<◌, ◌≤ℤ◌, ◌<ℤ◌, ℕ, ℤ, pos, true, List, replicate, Option, Some, None, ◌^◌, Bool, false, ◌++◌}
use Rattle.std.specs.Prelude.{length, drop}
use Rattle.sled_codec.specs.declared.result.DiskPtr.{DiskPtr}
use Rattle.sled_codec.specs.declared.result.DiskPtr.TheVariants.{Inline, Blob}
use Rattle.sled_codec.specs.declared.serialization.message.MessageKind.{MessageKind}
use Rattle.sled_codec.specs.Kinds.{kind_written}
use Rattle.sled_codec.specs.History.{Message}
use Rattle.sled_store.specs.Blobs.{IsDamagedFor, IsItemOf, NamesBlobAt}
use Rattle.std.specs.Borrow.{Bor}
use Rattle.sled_codec.specs.declared.serialization.message.MessageHeader.{MessageHeader}
use Rattle.sled_codec.specs.declared.serialization.message.MessageKind.TheVariants as kind
use Rattle.sled_codec.specs.declared.result.DiskPtr.TheVariants as ptr
use Rattle.sled_codec.specs.Sums.{flipped}
use Rattle.sled_codec.specs.Spelling.{SpellsMessageHeader, SpellsSigned}
use Rattle.sled_codec.specs.Places.{part, MayBegin}
use Rattle.sled_core.specs.declared.logger.read_at.BasedBuf.{BasedBuf}
use Rattle.sled_core.specs.declared.logger.read_message.LogRead.{LogRead}
use Rattle.sled_core.specs.declared.logger.read_message.LogRead.TheVariants.{Inline, Blob, Canceled, Cap, Corrupted, DanglingBlob, BatchManifest}

-- a blob that a message names has a place no higher than the message
abbrev pub BlobIsBelow : Message → DiskPtr → Type 0
BlobIsBelow m (Inline lid) = Unit {0}
BlobIsBelow m (Blob lid place) = place ≤ℤ pos m.place

-- A record of this header and this body stands at an offset of the log, whole within its slot and the file, and it is of this segment.
pub record StandsAt (sum : List ℕ → ℕ) (size : ℕ) (log : List ℕ) (lid number : ℕ) (h : MessageHeader) (body : List ℕ) (len : ℕ) : Type 0 where
  pub header : List ℕ
  pub spelled : SpellsMessageHeader header h
  pub is : part log lid len ≡ header ++ body
  pub counted : h.len ≡ length body
  pub numbered : h.segment_number.0 ≡ number
  pub summed : h.crc32 ≡ flipped (sum (body ++ drop 4 header))
  pub valid : h.kind ≢ kind.Corrupted
  pub in_file : lid + len ≤ length log
  pub in_slot : lid % size + len ≤ size
  -- its end is an offset
  pub small : lid + len < 2 ^ 64

-- A header of this segment stands there that announces a record whose end is within its slot.
pub record IsAnnounced (size : ℕ) (log : List ℕ) (lid number : ℕ) : Type 0 where
  pub header : List ℕ
  pub announced : MessageHeader
  pub spelled : SpellsMessageHeader header announced
  pub is : part log lid (length header) ≡ header
  pub numbered : announced.segment_number.0 ≡ number
  pub valid : announced.kind ≢ kind.Corrupted
  pub in_slot : lid % size + (length header + announced.len) ≤ size

-- the file of a buffer of bytes from an offset on, of which the bytes before it aren't known
abbrev pub file_of : BasedBuf → List ℕ
file_of b = replicate b.offset 0 ++ b.buf.items

-- what is read from: a buffer, where there is one, or else the log file of the device
abbrev pub file_read : Option (Bor BasedBuf) → List ℕ → List ℕ
file_read None log = log
file_read (Some b) log = file_of b.now

-- its item stands in the record
abbrev pub is_inline : MessageKind → Bool
is_inline kind.Free = true
is_inline kind.Counter = true
is_inline kind.InlineMeta = true
is_inline kind.InlineNode = true
is_inline kind.InlineLink = true
is_inline _ = false

-- its item is a blob
abbrev pub is_blob : MessageKind → Bool
is_blob kind.BlobMeta = true
is_blob kind.BlobNode = true
is_blob kind.BlobLink = true
is_blob _ = false

-- What is read of the log alone is what stands there. No blob is looked for, so a message whose item is one is answered as if that were missing.
abbrev pub IsRecordRead : (List ℕ → ℕ) → ℕ → List ℕ → ℕ → ℕ → LogRead → Type 0
IsRecordRead sum size log lid number (Inline h bytes len) = StandsAt sum size log lid number h bytes.items len × (is_inline h.kind ≡ true)
IsRecordRead sum size log lid number (Blob h bytes place len) = ⊥
IsRecordRead sum size log lid number (Canceled len) =
    (h : MessageHeader) × (body : List ℕ) × StandsAt sum size log lid number h body len × (h.kind ≡ kind.Canceled)
IsRecordRead sum size log lid number (Cap segment) =
    (h : MessageHeader) × (body : List ℕ) × (len : ℕ) × StandsAt sum size log lid number h body len × (h.kind ≡ kind.Cap) × (segment.0 ≡ number)
IsRecordRead sum size log lid number Corrupted = (h : MessageHeader) (body : List ℕ) (len : ℕ) → StandsAt sum size log lid number h body len → ⊥
IsRecordRead sum size log lid number (DanglingBlob h place len) =
    (body : List ℕ) × StandsAt sum size log lid number h body len × (is_blob h.kind ≡ true) × SpellsSigned body place
IsRecordRead sum size log lid number (BatchManifest peg len) =
    (h : MessageHeader) × (body : List ℕ) × StandsAt sum size log lid number h body len × (h.kind ≡ kind.BatchManifest) × SpellsSigned body peg

-- What is read is what stands there, with the item of a message whose blob is there.
abbrev pub IsReading : (List ℕ → ℕ) → ℕ → List ℕ → (ℤ → Option (List ℕ)) → ℕ → ℕ → LogRead → Type 0
IsReading sum size log blobs lid number (Blob h bytes place len) =
    (body : List ℕ) × StandsAt sum size log lid number h body len × (is_blob h.kind ≡ true) × SpellsSigned body place
    × IsItemOf sum h.kind (blobs place) (Some bytes.items)
IsReading sum size log blobs lid number (DanglingBlob h place len) =
    (body : List ℕ) × StandsAt sum size log lid number h body len × (is_blob h.kind ≡ true) × SpellsSigned body place × (blobs place ≡ None)
IsReading sum size log blobs lid number read = IsRecordRead sum size log lid number read

-- A record stands there whose body has to be a place, and has not the eight bytes of one.
pub record IsMalformed (sum : List ℕ → ℕ) (size : ℕ) (log : List ℕ) (lid number : ℕ) : Type 0 where
  pub header : MessageHeader
  pub body : List ℕ
  pub len : ℕ
  pub stands : StandsAt sum size log lid number header body len
  pub kind : (is_blob header.kind ≡ true) ⊎ (header.kind ≡ kind.BatchManifest)
  pub not_eight : length body ≢ 8

-- A record stands there that names a blob, and that blob is there and doesn't pass for it.
pub record HasDamagedBlob (sum : List ℕ → ℕ) (size : ℕ) (log : List ℕ) (blobs : ℤ → Option (List ℕ)) (lid number : ℕ) : Type 0 where
  pub header : MessageHeader
  pub body : List ℕ
  pub len : ℕ
  pub stands : StandsAt sum size log lid number header body len
  pub kind : is_blob header.kind ≡ true
  pub place : ℤ
  pub names : SpellsSigned body place
  pub damaged : IsDamagedFor sum header.kind (blobs place)

-- A record stands there that can't be read, for its body or for its blob.
abbrev pub IsUnreadable : (List ℕ → ℕ) → ℕ → List ℕ → (ℤ → Option (List ℕ)) → ℕ → ℕ → Type 0
IsUnreadable sum size log blobs lid number = IsMalformed sum size log lid number ⊎ HasDamagedBlob sum size log blobs lid number

-- So it is answered: of a record that can't be read for its body nothing is named, and of one whose blob is damaged what that is.
abbrev pub IsUnreadableAs : (List ℕ → ℕ) → ℕ → List ℕ → (ℤ → Option (List ℕ)) → ℕ → ℕ → Option DiskPtr → Type 0
IsUnreadableAs sum size log blobs lid number at =
    (IsMalformed sum size log lid number × (at ≡ None)) ⊎ ((d : HasDamagedBlob sum size log blobs lid number) × NamesBlobAt sum blobs d.place at)

-- The message is given: its kind, its page and its item, and how long its record is, or where its blob lies.
abbrev pub GivesMessage : Message → LogRead → Type 0
GivesMessage m (Inline h bytes len) = (kind_written m.kind m.page false ≡ Some h.kind) × (h.pid ≡ m.page) × (bytes.items ≡ m.bytes) × (len ≡ m.size)
GivesMessage m (Blob h bytes place len) =
    (kind_written m.kind m.page true ≡ Some h.kind) × (h.pid ≡ m.page) × (bytes.items ≡ m.bytes) × ((lid : ℕ) × (m.pointer ≡ ptr.Blob lid place))
GivesMessage m _ = ⊥

-- the item stands in the record
abbrev pub IsInline : DiskPtr → Type 0
IsInline (ptr.Inline lid) = Unit {0}
IsInline (ptr.Blob lid place) = ⊥

-- No message can have this place, or no record begins at this offset.
abbrev pub IsNoPlace : ℕ → ℤ → ℕ → Type 0
IsNoPlace size lsn lid = (lsn <ℤ pos 0) ⊎ (MayBegin size lid → ⊥)

-- the item of a message that was read with it
abbrev pub data_of : LogRead → Option (List ℕ)
data_of (Inline h bytes len) = Some bytes.items
data_of (Blob h bytes place len) = Some bytes.items
data_of _ = None
