-- What a generator of identifiers has its log keep: bounds. A bound is durable before any identifier below it is given out, so that
-- whoever finds the log again goes on from there.
use Rattle.std.specs.Prelude.{◌≡◌, ◌⊎◌, ◌≤◌, ◌<◌, ◌+◌, ℕ, List, Contains, max}
use Rattle.sled_codec.specs.History.{Message, History}
use Rattle.sled_codec.specs.Spelling.{SpellsNumber}
use Rattle.sled_core.specs.Reading.{IsInline}
use Rattle.sled_core.specs.Recoverable.{LeavesRecoverable}
use Rattle.sled_log.specs.Replaces.{IsOfReplaces}
use Rattle.sled_store.specs.Device.{State}

-- the item of a message is this number
abbrev pub HasBound : Message → ℕ → Type 0
HasBound m n = SpellsNumber m.bytes n

-- A history of bounds: Replaces of one page, each with its item in its record, which is a number; and a later one is no lower.
pub record IsOfBounds (H : History) : Type 0 where
  pub replaces : IsOfReplaces H
  pub page : (m : Message) → Contains H.messages m → m.page ≡ 0
  pub inline : (m : Message) → Contains H.messages m → IsInline m.pointer
  pub bounds : (m : Message) → Contains H.messages m → (n : ℕ) × HasBound m n
  pub ascend : (a b : Message) (n m : ℕ) → Contains H.messages a → Contains H.messages b → a.place ≤ b.place → HasBound a n → HasBound b m → n ≤ m

-- A message of the history that ends at a place or before has a bound that is no lower than n.
pub record HasBoundBelow (H : History) (place n : ℕ) : Type 0 where
  pub message : Message
  pub there : Contains H.messages message
  pub ends : message.place + message.size ≤ place
  pub bound : ℕ
  pub has : HasBound message bound
  pub enough : n ≤ bound

-- Whoever finds what ends at a place or before goes on from n or above: there is a bound for that, or none is needed.
abbrev pub Reserves : History → ℕ → ℕ → Type 0
Reserves H place n = (n ≡ 0) ⊎ HasBoundBelow H place n

-- no bound of the history is higher
abbrev pub HasMost : History → ℕ → Type 0
HasMost H most = (m : Message) (n : ℕ) → Contains H.messages m → HasBound m n → n ≤ most

-- The bound of the last message below a cut; 0 where there is none.
pub record IsLastMessage (H : History) (cut : ℕ) (m : Message) (n : ℕ) : Type 0 where
  pub there : Contains H.messages m
  pub below : m.place < cut
  pub has : HasBound m n
  pub last : (x : Message) → Contains H.messages x → x.place < cut → x.place ≤ m.place

abbrev pub IsLastBound : History → ℕ → ℕ → Type 0
IsLastBound H cut n =
    (((m : Message) → Contains H.messages m → m.place < cut → ⊥) × (n ≡ 0))
    ⊎ ((m : Message) × IsLastMessage H cut m n)

-- A generator that is opened on this device, or on whatever a crash now leaves of it, goes on from an identifier that isn't below n and not above the other
-- one: the history is one of
-- bounds, a recovery can go on from each content that a crash leaves, and what was acknowledged, or lies below the floor, has a bound that isn't below n.
pub record GivesFrom (sum : List ℕ → ℕ) (size n most : ℕ) (device : State) : Type 0 where
  pub history : History
  pub acknowledged : ℕ
  pub floor : ℕ
  pub bounds : IsOfBounds history
  pub reserved : Reserves history (max acknowledged floor) n
  pub greatest : HasMost history most
  pub left : LeavesRecoverable sum size history acknowledged floor device
