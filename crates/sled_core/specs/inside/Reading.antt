-- What proofs, and functions that no user calls, need beside `specs/Reading.antt`. No public contract names it.
use Rattle.std.specs.Prelude.{Some, take, ◌^◌, ◌<◌, Option, None, ◌≡◌, ◌≢◌, ◌+◌, ◌%◌, ◌≤◌, ℕ, true, List, ◌++◌, length, ℤ}
use Rattle.sled_codec.specs.declared.serialization.message.MessageHeader.{MessageHeader}
use Rattle.sled_codec.specs.declared.serialization.message.MessageKind.TheVariants as kind
use Rattle.sled_codec.specs.Spelling.{SpellsMessageHeader, SpellsSigned}
use Rattle.sled_codec.specs.Places.{part}
use Rattle.sled_store.specs.Blobs.{IsItemOf}
use Rattle.sled_core.specs.declared.logger.unverified_record.UnverifiedRecord.{UnverifiedRecord}
use Rattle.sled_core.specs.declared.logger.read_message.LogRead.{LogRead}
use Rattle.sled_core.specs.declared.logger.read_message.LogRead.TheVariants.{Inline, Blob, Canceled, Cap, Corrupted, DanglingBlob, BatchManifest}
use Rattle.sled_core.specs.Reading.{StandsAt, is_inline, is_blob}

-- A header of this segment and the body that it announces stand there, as a record does. The sum may be wrong.
pub record IsLaid (size : ℕ) (log : List ℕ) (lid number : ℕ) (header : List ℕ) (h : MessageHeader) (body : List ℕ) : Type 0 where
  pub spelled : SpellsMessageHeader header h
  pub is : part log lid (length header + length body) ≡ header ++ body
  pub counted : h.len ≡ length body
  pub numbered : h.segment_number.0 ≡ number
  pub valid : h.kind ≢ kind.Corrupted
  pub in_file : lid + (length header + length body) ≤ length log
  pub in_slot : lid % size + (length header + length body) ≤ size
  pub small : lid + (length header + length body) < 2 ^ 64

-- what was found is laid there
abbrev pub IsFound : ℕ → List ℕ → ℕ → ℕ → UnverifiedRecord → Type 0
IsFound size log lid number f = IsLaid size log lid number (take f.header_len f.head) f.header f.body.items

-- no record of this segment stands there, by whichever checksum
abbrev pub IsBare : ℕ → List ℕ → ℕ → ℕ → Type 0
IsBare size log lid number = (sum : List ℕ → ℕ) (h : MessageHeader) (body : List ℕ) (len : ℕ) → StandsAt sum size log lid number h body len → ⊥

-- what a record of this header, this body and this length holds
abbrev pub HoldsAs : MessageHeader → List ℕ → ℕ → LogRead → Type 0
HoldsAs header body n (Inline h bytes len) = (h ≡ header) × (bytes.items ≡ body) × (len ≡ n) × (is_inline header.kind ≡ true)
HoldsAs header body n (Blob h bytes place len) = ⊥
HoldsAs header body n (Canceled len) = (len ≡ n) × (header.kind ≡ kind.Canceled)
HoldsAs header body n (Cap segment) = (segment ≡ header.segment_number) × (header.kind ≡ kind.Cap)
HoldsAs header body n Corrupted = ⊥
HoldsAs header body n (DanglingBlob h place len) = (h ≡ header) × (len ≡ n) × (is_blob header.kind ≡ true) × SpellsSigned body place
HoldsAs header body n (BatchManifest peg len) = (len ≡ n) × (header.kind ≡ kind.BatchManifest) × SpellsSigned body peg

-- what is answered for a message of this header whose blob is at a place: its item, or that the blob is missing
abbrev pub IsWithItem : (List ℕ → ℕ) → (ℤ → Option (List ℕ)) → MessageHeader → ℤ → ℕ → LogRead → Type 0
IsWithItem sum blobs header place n (Blob h bytes at len) = (h ≡ header) × (at ≡ place) × (len ≡ n) × IsItemOf sum header.kind (blobs place) (Some bytes.items)
IsWithItem sum blobs header place n (DanglingBlob h at len) = (h ≡ header) × (at ≡ place) × (len ≡ n) × (blobs place ≡ None)
IsWithItem sum blobs header place n _ = ⊥
