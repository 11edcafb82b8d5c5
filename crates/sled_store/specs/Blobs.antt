-- Items that lie beside the log, each in a file of its own under the place of its message.
use Rattle.std.specs.Prelude.{◌≡◌, ◌⊎◌, ◌↔◌, ◌≤◌, ◌≤ℤ◌, ◌+◌, ◌%◌, ◌^◌, ◌<◌, ℕ, ℤ, true, List, [], ◌∷◌, ◌++◌, length, map, Option, Some, None, IsSome, IsTrue}
use Rattle.std.specs.Prelude.{Result, Ok, Err, Contains}
use Rattle.std.specs.IoError.{error_kind}
use Rattle.std.specs.List.Sorted.{IsStrictlySortedBy}
use Rattle.std.specs.Ordering.{int_cmp}
use Rattle.std.specs.declared.io.ErrorKind.TheVariants.{NotFound, AlreadyExists}
use Rattle.sled_codec.specs.declared.result.DiskPtr.{DiskPtr}
use Rattle.sled_codec.specs.declared.result.DiskPtr.TheVariants.{Inline, Blob}
use Rattle.sled_codec.specs.declared.result.Error.{Error}
use Rattle.sled_codec.specs.declared.result.Error.TheVariants.{Io, OutOfMemory, Corruption}
use Rattle.sled_codec.specs.declared.serialization.message.MessageKind.{MessageKind}
use Rattle.sled_codec.specs.Kinds.{kind_of, code_of}
use Rattle.sled_codec.specs.Spelling.{low_bytes}
use Rattle.sled_store.specs.Answers.{is_fault}
use Rattle.sled_store.specs.Device.{Content, State, Leaves, Event, Trace, BlobMade, BlobSynced, BlobRemoved, NamesSynced}

-- The bytes of a blob that passes: a checksum, the code of a kind, and an item.
abbrev pub blob_bytes : (List ℕ → ℕ) → ℕ → List ℕ → List ℕ
blob_bytes sum code item = low_bytes 4 (sum (code ∷ item)) ++ code ∷ item

-- the bytes are those of a blob of this kind and this item
abbrev pub IsBlob : (List ℕ → ℕ) → List ℕ → MessageKind → List ℕ → Type 0
IsBlob sum bytes kind item = bytes ≡ blob_bytes sum (code_of kind) item

-- a blob with these bytes has an item for a message of this kind
abbrev pub PassesFor : (List ℕ → ℕ) → MessageKind → List ℕ → Type 0
PassesFor sum kind bytes = (item : List ℕ) × IsBlob sum bytes kind item

-- A message of this kind and the blob at a place: it is missing, or has this item.
abbrev pub IsItemOf : (List ℕ → ℕ) → MessageKind → Option (List ℕ) → Option (List ℕ) → Type 0
IsItemOf sum kind file None = file ≡ None
IsItemOf sum kind file (Some item) = (bytes : List ℕ) × (file ≡ Some bytes) × IsBlob sum bytes kind item

-- a blob that is there has no item for a message of this kind
abbrev pub IsDamagedFor : (List ℕ → ℕ) → MessageKind → Option (List ℕ) → Type 0
IsDamagedFor sum kind file = (bytes : List ℕ) × (file ≡ Some bytes) × (PassesFor sum kind bytes → ⊥)

-- what a blob with these bytes holds: the kind whose code it has, and the item
pub record HoldsItem (sum : List ℕ → ℕ) (bytes : List ℕ) (kind : MessageKind) (item : List ℕ) : Type 0 where
  pub code : ℕ
  pub is : bytes ≡ blob_bytes sum code item
  pub kind_is : kind ≡ kind_of code

-- no kind and item make a blob of these bytes
abbrev pub IsDamagedBlob : (List ℕ → ℕ) → List ℕ → Type 0
IsDamagedBlob sum bytes = (code : ℕ) (item : List ℕ) → bytes ≡ blob_bytes sum code item → ⊥

-- every crash leaves a blob of these bytes at a place
abbrev pub KeepsBlob : State → ℤ → List ℕ → Type 0
KeepsBlob s place bytes = (left : Content) → Leaves s left → left.blobs place ≡ Some bytes

-- The calls that make a blob: it is made, its bytes are synced, and then names are.
abbrev pub making : ℤ → List ℕ → List Event
making place bytes = BlobMade place bytes bytes true ∷ BlobSynced place ∷ NamesSynced ∷ []

-- the calls that remove the blobs of these places
abbrev pub removing_blobs : List ℤ → List Event
removing_blobs places = map (λ p. BlobRemoved p true) places

-- these are all places of blobs from one on, in ascending order
pub record AreFrom (file : ℤ → Option (List ℕ)) (least : ℤ) (places : List ℤ) : Type 0 where
  pub each : (p : ℤ) → Contains places p ↔ (IsSome (file p) × (least ≤ℤ p))
  pub ascending : IsStrictlySortedBy int_cmp places

-- Places of blobs that may have been removed where a call failed: all from one on, or none where they could not be listed.
abbrev pub MayGo : (ℤ → Option (List ℕ)) → ℤ → List ℤ → Type 0
MayGo file least places = (places ≡ []) ⊎ AreFrom file least places

-- it says that nothing is under a name
abbrev pub IsMissing : Error → Type 0
IsMissing (Io e) = error_kind e ≡ NotFound
IsMissing _ = ⊥

-- Why a blob was not made: one is there, the device failed, or memory was refused.
abbrev pub MakeAnswers : {T : Type 0} → Result T Error → Option (List ℕ) → ℕ → ℕ → Type 0
MakeAnswers (Ok _) file before after = (file ≡ None) × (after ≡ before)
MakeAnswers (Err (Io e)) file before after =
    (IsTrue (is_fault e) × (after ≡ (before + 1) % 2 ^ 64)) ⊎ ((error_kind e ≡ AlreadyExists) × IsSome file × (after ≡ before))
MakeAnswers (Err OutOfMemory) file before after = after ≡ before
MakeAnswers (Err _) file before after = ⊥

-- What a refusal to make one leaves: all as it was. Only a failure of the device may leave a part.
abbrev pub UnlessFault : {T : Type 0} → Result T Error → Trace → Trace → Type 0
UnlessFault (Ok _) old new = Unit {0}
UnlessFault (Err (Io e)) old new = IsTrue (is_fault e) ⊎ (new ≡ old)
UnlessFault (Err _) old new = new ≡ old

-- Why a blob was not read: it is missing or damaged, the device failed, or memory was refused. Damage names the blob where its checksum fails, and nothing
-- where it is too short to have one.
abbrev pub BlobAnswers : {T : Type 0} → (List ℕ → ℕ) → ℤ → Result T Error → Option (List ℕ) → ℕ → ℕ → Type 0
BlobAnswers sum place (Ok _) file before after = IsSome file × (after ≡ before)
BlobAnswers sum place (Err (Io e)) file before after =
    (IsTrue (is_fault e) × (after ≡ (before + 1) % 2 ^ 64)) ⊎ ((error_kind e ≡ NotFound) × (file ≡ None) × (after ≡ before))
BlobAnswers sum place (Err OutOfMemory) file before after = after ≡ before
BlobAnswers sum place (Err (Corruption None)) file before after = (after ≡ before) × (bytes : List ℕ) × (file ≡ Some bytes) × (length bytes < 5)
BlobAnswers sum place (Err (Corruption (Some (Blob lid at)))) file before after =
    (after ≡ before) × (lid ≡ 0) × (at ≡ place) × (bytes : List ℕ) × (file ≡ Some bytes) × (5 ≤ length bytes) × IsDamagedBlob sum bytes
BlobAnswers sum place (Err _) file before after = ⊥

-- Why blobs were not removed: the device failed, or memory was refused.
abbrev pub RemoveAnswers : {T : Type 0} → Result T Error → ℕ → ℕ → Type 0
RemoveAnswers (Ok _) before after = after ≡ before
RemoveAnswers (Err (Io e)) before after = IsTrue (is_fault e) × (after ≡ (before + 1) % 2 ^ 64)
RemoveAnswers (Err OutOfMemory) before after = after ≡ before
RemoveAnswers (Err _) before after = ⊥

-- damage names nothing, or a blob whose checksum fails
abbrev pub NamesDamage : (List ℕ → ℕ) → (ℤ → Option (List ℕ)) → Option DiskPtr → Type 0
NamesDamage sum blobs None = Unit {0}
NamesDamage sum blobs (Some (Blob lid place)) = (lid ≡ 0) × (bytes : List ℕ) × (blobs place ≡ Some bytes) × (5 ≤ length bytes) × IsDamagedBlob sum bytes
NamesDamage sum blobs (Some (Inline lid)) = ⊥

-- Why the item of a message was not read: its blob is damaged, the device failed, or memory was refused.
abbrev pub ItemAnswers : {T : Type 0} → (List ℕ → ℕ) → (ℤ → Option (List ℕ)) → Result T Error → ℕ → ℕ → Type 0
ItemAnswers sum blobs (Ok _) before after = after ≡ before
ItemAnswers sum blobs (Err (Io e)) before after = IsTrue (is_fault e) × (after ≡ (before + 1) % 2 ^ 64)
ItemAnswers sum blobs (Err OutOfMemory) before after = after ≡ before
ItemAnswers sum blobs (Err (Corruption at)) before after = (after ≡ before) × NamesDamage sum blobs at
ItemAnswers sum blobs (Err _) before after = ⊥

-- What damage of the blob at a place names: that blob exactly where it has a checksum, which fails; and nothing where it is too short to have one, or holds
-- another kind.
abbrev pub NamesBlobAt : (List ℕ → ℕ) → (ℤ → Option (List ℕ)) → ℤ → Option DiskPtr → Type 0
NamesBlobAt sum blobs place None = (bytes : List ℕ) × (blobs place ≡ Some bytes) × (5 ≤ length bytes → IsDamagedBlob sum bytes → ⊥)
NamesBlobAt sum blobs place (Some (Blob lid at)) =
    (lid ≡ 0) × (at ≡ place) × (bytes : List ℕ) × (blobs place ≡ Some bytes) × (5 ≤ length bytes) × IsDamagedBlob sum bytes
NamesBlobAt sum blobs place (Some (Inline lid)) = ⊥

-- where a call answers damage, this is so of what that names
abbrev pub OnDamage : {T : Type 0} → Result T Error → (Option DiskPtr → Type 0) → Type 0
OnDamage (Err (Corruption at)) P = P at
OnDamage _ P = Unit {0}
