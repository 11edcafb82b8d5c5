-- What the slots say of blobs: one goes with a segment where each message that names it is replaced before the segment ends.
use Rattle.std.specs.Prelude.{◌≡◌, ◌⊎◌, ◌+◌, ◌≤◌, ℕ, ℤ, true, List, Contains}
use Rattle.sled_codec.specs.declared.result.DiskPtr.TheVariants.{Blob}
use Rattle.sled_codec.specs.History.{Message, History, table}
use Rattle.sled_store.specs.declared.segment.slot.CacheInfo.{CacheInfo}
use Rattle.sled_store.specs.Marks.{IsPast, IsSuperseded}
use Rattle.sled_store.specs.SegmentStates.{SlotState, Machine, is_active, slot_at}

-- a message has its item in the blob of this name
abbrev pub NamesBlob : Message → ℤ → Type 0
NamesBlob m blob = (lid : ℕ) × (m.pointer ≡ Blob lid blob)

-- A blob goes with the segment in a slot: the segment is active, a message of the history names the blob, and each one that does has a later one that gives
-- its page a new beginning, in a segment that ends where this one does, or below.
pub record IsOutdated (size : ℕ) (H : History) (s : SlotState) (blob : ℤ) : Type 0 where
  pub active : is_active s.state ≡ true
  pub message : Message
  pub there : Contains H.messages message
  pub names : NamesBlob message blob
  pub superseded : (e : Message) → Contains H.messages e → NamesBlob e blob → IsSuperseded size (s.lsn + size) H e

-- so it is with all blobs that go with segments
abbrev pub AreOutdated : ℕ → History → Machine → Type 0
AreOutdated size H m = (k : ℕ) (blob : ℤ) → Contains (slot_at m k).blobs blob → IsOutdated size H (slot_at m k) blob

-- an entry of the table of all messages names this blob
pub record IsNamedNow (H : History) (blob : ℤ) : Type 0 where
  pub cut : ℕ
  pub past : IsPast H cut
  pub page : ℕ
  pub entry : Message
  pub there : Contains (table H cut page) entry
  pub names : NamesBlob entry blob

-- A message may come to a history with the blob that it names, if it does: none of the history names that, or an entry of the table of all messages does.
abbrev pub MayName : History → Message → Type 0
MayName H x = (blob : ℤ) → NamesBlob x blob → ((e : Message) → Contains H.messages e → NamesBlob e blob → ⊥) ⊎ IsNamedNow H blob

-- Where a message names a blob of one of these older ones of its page, which the new one doesn't name, it is of the page, and not above the new one.
abbrev pub NoneShares : History → Message → List CacheInfo → Type 0
NoneShares H x old = (o : CacheInfo) (lid : ℕ) (blob : ℤ) → Contains old o → o.pointer ≡ Blob lid blob → (NamesBlob x blob → ⊥)
    → (e : Message) → Contains H.messages e → NamesBlob e blob → (e.page ≡ x.page) × (e.place ≤ x.place)
