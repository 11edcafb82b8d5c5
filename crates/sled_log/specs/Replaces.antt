-- Histories of Replaces alone, and what a table says of them: one value a page.
use Rattle.std.specs.Prelude.{◌≡◌, ◌^◌, ◌-◌, ◌<◌, ◌≤◌, ℕ, List, [], Contains, get_or}
use Rattle.std.specs.List.{All}
use Rattle.sled_codec.specs.declared.serialization.message.LogKind.TheVariants.{Replace}
use Rattle.sled_codec.specs.History.{Message, History, table}
use Rattle.sled_codec.specs.WellFormed.{LieApart}
use Rattle.sled_codec.specs.PageTables.{entry_of}
use Rattle.sled_codec.specs.Snapshots.{Page, Present, Uninitialized}

-- a message of a page lies below a place
pub record HasBelow (messages : List Message) (page place : ℕ) : Type 0 where
  pub message : Message
  pub there : Contains messages message
  pub of : message.page ≡ page
  pub below : message.place < place

-- A history of Replaces alone that lie one behind another, each with one of each lower page before it.
pub record IsOfReplaces (H : History) : Type 0 where
  pub apart : LieApart H.messages
  pub replaces : All (λ m. m.kind ≡ Replace) H.messages
  pub pages : All (λ m. m.page < 2 ^ 64 - 1) H.messages
  pub lower : (m : Message) → Contains H.messages m → (page : ℕ) → page < m.page → HasBelow H.messages page m.place

-- a Replace that may come to such a history
pub record MayCome (H : History) (m : Message) : Type 0 where
  pub replaces : m.kind ≡ Replace
  pub small : m.page < 2 ^ 64 - 1
  pub lower : (page : ℕ) → page < m.page → HasBelow H.messages page m.place

-- It is the last message of its page below the cut.
pub record IsLastOf (H : History) (cut page : ℕ) (m : Message) : Type 0 where
  pub there : Contains H.messages m
  pub of : m.page ≡ page
  pub below : m.place < cut
  pub last : (x : Message) → Contains H.messages x → x.page ≡ page → x.place < cut → x.place ≤ m.place

-- Of this page the pages have the last message below the cut, and nothing else.
pub record HasLast (pages : List Page) (H : History) (cut page : ℕ) : Type 0 where
  pub message : Message
  pub is_last : IsLastOf H cut page message
  pub entry : get_or pages page Uninitialized ≡ Present (entry_of message) []
  pub in_table : Contains (table H cut page) message
