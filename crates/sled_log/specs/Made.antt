-- Histories that a session makes: what holds of them, and which messages may come to them.
use Rattle.std.specs.Prelude.{◌≡◌, ◌⊎◌, ◌^◌, ◌-◌, ◌<◌, ◌≤◌, ℕ, ℤ, pos, length, Contains}
use Rattle.std.specs.List.{All}
use Rattle.sled_codec.specs.declared.result.DiskPtr.{DiskPtr}
use Rattle.sled_codec.specs.declared.result.DiskPtr.TheVariants.{Inline, Blob}
use Rattle.sled_codec.specs.declared.serialization.message.LogKind.TheVariants.{Link, Replace}
use Rattle.sled_codec.specs.History.{Message, History, ChangesPage}
use Rattle.sled_store.specs.Outdated.{NamesBlob}
use Rattle.sled_log.specs.Orderly.{IsOrderly}
use Rattle.sled_log.specs.RunStates.{page_now, top}

-- the blob of a message, if it has one, is at the place of a message of its page that isn't above it: its own, or the one whose pointer it has
abbrev pub HasBlobIn : History → Message → DiskPtr → Type 0
HasBlobIn H m (Inline lid) = Unit {0}
HasBlobIn H m (Blob lid place) = (x : Message) × Contains H.messages x × (x.place ≤ m.place) × (place ≡ pos x.place) × (x.page ≡ m.page)

-- An orderly history whose messages lie at places below all others, each with its blob, if it has one, at the place of one of them.
pub record IsMade (H : History) : Type 0 where
  pub orderly : IsOrderly H
  pub blobs : (m : Message) → Contains H.messages m → HasBlobIn H m m.pointer
  pub low : All (λ m. m.place < top) H.messages

-- it has a Replace of a page below a place
pub record HasReplaceBelow (H : History) (page place : ℕ) : Type 0 where
  pub message : Message
  pub there : Contains H.messages message
  pub of : message.page ≡ page
  pub replaces : message.kind ≡ Replace
  pub below : message.place < place

-- one of the messages that make a page what it is names a blob
abbrev pub NamesNow : History → ℕ → ℤ → Type 0
NamesNow H page blob = (e : Message) × Contains (page_now H page) e × NamesBlob e blob

-- The blob of a message that comes, if it has one, is at its own place; or it is that of its page as it is now, at the place of a message of the page below
-- it.
abbrev pub JoinsWithBlob : History → Message → DiskPtr → Type 0
JoinsWithBlob H m (Inline lid) = Unit {0}
JoinsWithBlob H m (Blob lid place) =
    (place ≡ pos m.place)
    ⊎ ((x : Message) × Contains H.messages x × (x.place < m.place) × (place ≡ pos x.place) × (x.page ≡ m.page) × NamesNow H m.page place)

-- A message that may come to such a history, behind all of its page: a Link or a Free only where the page has a Replace, and a Link only where it has fewer
-- than 254.
pub record MayJoin (H : History) (m : Message) : Type 0 where
  pub changes : ChangesPage m.kind
  pub small : m.page < 2 ^ 64 - 1
  pub blob : JoinsWithBlob H m m.pointer
  pub low : m.place < top
  pub own : (m.kind ≡ Replace) ⊎ HasReplaceBelow H m.page m.place
  pub lower : (page : ℕ) → page < m.page → HasReplaceBelow H page m.place
  pub later : (x : Message) → Contains H.messages x → x.page ≡ m.page → x.place < m.place
  pub few : m.kind ≡ Link → length (page_now H m.page) ≤ 254
