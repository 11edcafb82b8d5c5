-- A log file that was copied slot by slot.
use Rattle.std.specs.Prelude.{◌≡◌, ◌<◌, ◌*◌, ℕ, List, [], take, Contains}
use Rattle.sled_codec.specs.Places.{slot_bytes}
use Rattle.sled_store.specs.Device.{State, at_rest}
use Rattle.sled_store.specs.Foreign.{NoForeignLog}

-- The log file has the bytes up to an offset, and each slot below it was written by itself.
pub record HasSlots (size : ℕ) (bytes : List ℕ) (at : ℕ) (s : State) : Type 0 where
  pub log : s.log.bytes ≡ take at bytes
  pub slots : (slot : ℕ) → slot * size < at → Contains s.placed (record { at = slot * size; bytes = slot_bytes size bytes slot; since = [] })

-- The log file has these bytes, all settled; and whatever the checksum is, only what the log itself wrote passes as its own in it.
abbrev pub IsOwnCopy : ℕ → List ℕ → State → Type 0
IsOwnCopy size bytes s = (s.log ≡ at_rest bytes) × ((sum : List ℕ → ℕ) → NoForeignLog sum size s.log s.placed bytes)

-- nothing was asked of the log file
abbrev pub LogStays : State → State → Type 0
LogStays old new = (new.log ≡ old.log) × (new.placed ≡ old.placed)
