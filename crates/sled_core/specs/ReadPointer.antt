-- What a read of a pointer finds: the record that stands there with the item of its message, or for a message whose item is a blob that blob alone.
use Rattle.std.specs.Prelude.{◌≡◌, ◌≢◌, ◌⊎◌, ◌<◌, ◌≤◌, ◌*◌, ◌/◌, unsigned_abs, length, ℕ, ℤ, pos, List, Option, None, Some, Result, Ok, Err, Contains}
use Rattle.std.specs.IoError.{error_kind}
use Rattle.std.specs.declared.io.Error.{Error as IoError}
use Rattle.std.specs.declared.io.ErrorKind.TheVariants.{NotFound}
use Rattle.sled_codec.specs.declared.result.DiskPtr.{DiskPtr}
use Rattle.sled_codec.specs.declared.result.DiskPtr.TheVariants as ptr
use Rattle.sled_codec.specs.declared.result.Error.{Error}
use Rattle.sled_codec.specs.declared.result.Error.TheVariants.{Corruption, Io, OutOfMemory}
use Rattle.sled_codec.specs.declared.serialization.message.MessageHeader.{MessageHeader}
use Rattle.sled_codec.specs.History.{Message, History, table}
use Rattle.sled_codec.specs.Places.{MayBegin}
use Rattle.sled_codec.specs.Pointers.{lid_of}
use Rattle.sled_store.specs.Blobs.{HoldsItem, IsDamagedBlob}
use Rattle.sled_store.specs.Device.{State, Trace}
use Rattle.sled_core.specs.declared.logger.Log.{Log}
use Rattle.sled_core.specs.declared.logger.read_message.LogRead.{LogRead}
use Rattle.sled_core.specs.declared.logger.read_message.LogRead.TheVariants.{Blob}
use Rattle.sled_core.specs.Fits.{fault_of, machine_at, next_place, segment_size_of, stable_end}
use Rattle.sled_core.specs.Keeps.{IsSpared}
use Rattle.sled_core.specs.OnFile.{HasSegment}
use Rattle.sled_core.specs.Reading.{GivesMessage, IsInline, IsNoPlace, IsReading, IsUnreadableAs}
use Rattle.sled_core.specs.Running.{IsStored}

-- The place whose buffer a read brings to the device: that of the message, or for one whose item is a blob the place of that.
abbrev pub place_read : ℤ → DiskPtr → ℤ
place_read lsn (ptr.Inline lid) = lsn
place_read lsn (ptr.Blob lid place) = place

-- The header that is answered with a blob has the page and the number that were asked for, and neither a sum nor a length. (Its kind is that of the blob.)
pub record IsBlobHeader (h : MessageHeader) (page number : ℕ) : Type 0 where
  pub no_sum : h.crc32 ≡ 0
  pub numbered : h.segment_number.0 ≡ number
  pub paged : h.pid ≡ page
  pub no_len : h.len ≡ 0

-- What is read of a blob alone: its kind and its item. No record was read, so its length is 0.
abbrev pub IsBlobRead : (List ℕ → ℕ) → (ℤ → Option (List ℕ)) → ℕ → ℕ → ℤ → LogRead → Type 0
IsBlobRead sum blobs page number place (Blob h bytes at len) =
    IsBlobHeader h page number × (at ≡ place) × (len ≡ 0) × (file : List ℕ) × (blobs place ≡ Some file) × HoldsItem sum file h.kind bytes.items
IsBlobRead sum blobs page number place _ = ⊥

-- What is read of a pointer, for a page and a segment of this number.
abbrev pub IsReadOf : (List ℕ → ℕ) → ℕ → State → ℕ → ℕ → DiskPtr → LogRead → Type 0
IsReadOf sum size s page number (ptr.Inline lid) read = IsReading sum size s.log.bytes s.blobs.file lid number read
IsReadOf sum size s page number (ptr.Blob lid place) read = IsBlobRead sum s.blobs.file page number place read

-- The blob of a place has fewer than five bytes, where nothing is named; or its checksum fails, where it is named.
abbrev pub IsBlobDamage : (List ℕ → ℕ) → Option (List ℕ) → ℤ → Option DiskPtr → Type 0
IsBlobDamage sum file place None = (bytes : List ℕ) × (file ≡ Some bytes) × (length bytes < 5)
IsBlobDamage sum file place (Some (ptr.Blob lid at)) =
    (lid ≡ 0) × (at ≡ place) × (bytes : List ℕ) × (file ≡ Some bytes) × (5 ≤ length bytes) × IsDamagedBlob sum bytes
IsBlobDamage sum file place (Some (ptr.Inline lid)) = ⊥

-- why a pointer can't be read: its record can't, where its blob is named or nothing, or for a message whose item is a blob that is damaged
abbrev pub IsDamageIn : (List ℕ → ℕ) → ℕ → State → ℕ → DiskPtr → Option DiskPtr → Type 0
IsDamageIn sum size s number (ptr.Inline lid) at = IsUnreadableAs sum size s.log.bytes s.blobs.file lid number at
IsDamageIn sum size s number (ptr.Blob lid place) at = IsBlobDamage sum (s.blobs.file place) place at

-- so it is where a place is read, or that is none, for which nothing is named
abbrev pub IsDamageAt : (List ℕ → ℕ) → ℕ → State → ℤ → DiskPtr → Error → Type 0
IsDamageAt sum size s lsn p (Corruption at) = (IsNoPlace size lsn (lid_of p) × (at ≡ None)) ⊎ IsDamageIn sum size s (unsigned_abs lsn / size) p at
IsDamageAt sum size s lsn p _ = Unit {0}

-- A message of this page and place, whose item is a blob that this pointer names, is in the table of all that is stable.
pub record IsStableBlob {D C : Type 0} (log : Log D C) (H : History) (m : Message) (pid : ℕ) (lsn : ℤ) (p : DiskPtr) : Type 0 where
  pub entry : Contains (table H (stable_end log) m.page) m
  pub page : m.page ≡ pid
  pub place : pos m.place ≡ lsn
  pub pointer : m.pointer ≡ p
  pub beside : IsInline p → ⊥

-- The message is given, unless the device fails, memory is refused, or the log keeps a failure: its blob is neither missing nor damaged, and nothing holds
-- the read.
abbrev pub GivesBlob : Message → Option IoError → Result LogRead Error → Type 0
GivesBlob m kept (Ok read) = GivesMessage m read
GivesBlob m kept (Err (Io e)) = kept ≡ None → error_kind e ≢ NotFound
GivesBlob m kept (Err OutOfMemory) = Unit {0}
GivesBlob m kept (Err _) = ⊥

-- The same of a message in the table of all that there is, on the device or not.
pub record IsKeptBlob {D C : Type 0} (log : Log D C) (H : History) (m : Message) (pid : ℕ) (lsn : ℤ) (p : DiskPtr) : Type 0 where
  pub entry : Contains (table H (next_place log) m.page) m
  pub page : m.page ≡ pid
  pub place : pos m.place ≡ lsn
  pub pointer : m.pointer ≡ p
  pub beside : IsInline p → ⊥

-- The same of any message whose blob no crash takes and no write removes: one that was replaced too, where it was stored when a pin was taken that is out
-- still. A slot has its segment, or a record may begin at its offset at least. (No record is read of it.)
pub record IsStoredBlob {D C : Type 0} (trace : D → Trace) (sum : List ℕ → ℕ) (log : Log D C) (H : History) (m : Message) (pid : ℕ) (lsn : ℤ) (p : DiskPtr)
    : Type 0 where
  pub known : Contains H.messages m
  pub has : HasSegment (machine_at log) (m.place / segment_size_of log * segment_size_of log) ⊎ MayBegin (segment_size_of log) (lid_of p)
  pub stored : IsStored trace sum log m
  pub spared : IsSpared log m
  pub page : m.page ≡ pid
  pub place : pos m.place ≡ lsn
  pub pointer : m.pointer ≡ p
  pub beside : IsInline p → ⊥

-- A message of this place has its item in its record, at this pointer, and a slot has its segment: whether a table needs it or not, as where it was replaced
-- or its page was given back while a pin is out.
pub record IsSegmentRecord {D C : Type 0} (log : Log D C) (H : History) (m : Message) (lsn : ℤ) (p : DiskPtr) : Type 0 where
  pub known : Contains H.messages m
  pub has : HasSegment (machine_at log) (m.place / segment_size_of log * segment_size_of log)
  pub place : pos m.place ≡ lsn
  pub pointer : m.pointer ≡ p
  pub inline : IsInline p

-- The message is given, or the read has to wait or fails: its record isn't damaged, and its blob is neither missing nor damaged.
abbrev pub GivesBlobOrWaits : Message → Option IoError → Result LogRead Error → Type 0
GivesBlobOrWaits m kept (Ok read) = GivesMessage m read
GivesBlobOrWaits m kept (Err (Io e)) = kept ≡ None → error_kind e ≢ NotFound
GivesBlobOrWaits m kept (Err (Corruption at)) = ⊥
GivesBlobOrWaits m kept (Err _) = Unit {0}

-- What a read of a message comes to. Of one whose item is a blob, in the table of what is stable, nothing holds it; in the table of all that there is, and of
-- what is stored, it may have to wait. So it may of one with its item in its record, where a slot has its segment.
pub record ReadsMessage {D C : Type 0} (trace : D → Trace) (sum : List ℕ → ℕ) (log : Log D C) (H : History) (m : Message) (pid : ℕ) (lsn : ℤ) (p : DiskPtr)
    (result : Result LogRead Error) : Type 0 where
  pub stable : IsStableBlob log H m pid lsn p → GivesBlob m (fault_of log) result
  pub kept : IsKeptBlob log H m pid lsn p → GivesBlobOrWaits m (fault_of log) result
  pub stored : IsStoredBlob trace sum log H m pid lsn p → GivesBlobOrWaits m (fault_of log) result
  pub inline : IsSegmentRecord log H m lsn p → GivesBlobOrWaits m (fault_of log) result
