-- When a history is one that a log's users make.
use Rattle.std.specs.Prelude.{◌≡◌, ◌≢◌, ◌⊎◌, ◌≤◌, ◌<◌, ◌+◌, ◌-◌, ◌^◌, ℕ, List, [], ◌∷◌, ◌++◌, Contains}
use Rattle.std.specs.List.{All}
use Rattle.sled_codec.specs.declared.serialization.message.LogKind.TheVariants.{Replace}
use Rattle.sled_codec.specs.History.{Message, History}
pub use Rattle.sled_codec.specs.History.{ChangesPage}

-- Messages lie one behind another: each has a size, and ends where the later ones begin, or before.
abbrev pub LieApart : List Message → Type 0
LieApart [] = Unit {0}
LieApart (m ∷ ms) = (0 < m.size) × All (λ n. m.place + m.size ≤ n.place) ms × LieApart ms

-- these messages have a Replace of the page
pub record HasReplace (messages : List Message) (page : ℕ) : Type 0 where
  pub message : Message
  pub there : Contains messages message
  pub of : message.page ≡ page
  pub replaces : message.kind ≡ Replace

-- a message may come after these: it replaces its page, or they do, and they have a Replace of each lower page
pub record MayFollow (before : List Message) (m : Message) : Type 0 where
  pub own : (m.kind ≡ Replace) ⊎ HasReplace before m.page
  pub lower : (page : ℕ) → page < m.page → HasReplace before page

-- A history that a log's users make: its messages change pages and lie apart, and each may come after those before it. The page 2 ^ 64 - 1 has none.
pub record IsWellFormed (H : History) : Type 0 where
  pub apart : LieApart H.messages
  pub kinds : All (λ m. ChangesPage m.kind) H.messages
  pub begun : (before : List Message) (m : Message) (after : List Message) → H.messages ≡ before ++ m ∷ after → MayFollow before m
  pub pages : All (λ m. m.page ≢ 2 ^ 64 - 1) H.messages
