-- Only what the log itself wrote passes as its own. No checksum can show that, so it is a premise of what is proved of recovery.
-- Bytes inside an item that a user gave don't count as written by the log, though they may look like a record.
use Rattle.std.specs.Prelude.{◌≡◌, ◌⊎◌, ◌≤◌, ◌+◌, ◌-◌, ◌*◌, ◌/◌, ◌%◌, ℕ, ℤ, pos, nat_lt, if◌then◌else◌, List, length, take, All, Contains, Option, Some}
use Rattle.sled_codec.specs.declared.serialization.message.MessageKind.{MessageKind}
use Rattle.sled_codec.specs.Places.{part}
use Rattle.sled_codec.specs.Record.{IsRecord, IsHeader}
use Rattle.sled_store.specs.Device.{LogState, NamesState, Placement, settled_files}
use Rattle.sled_store.specs.Readers.{Reads}

-- A write to the log file covers these bytes at an offset of the file: it has just them there.
pub record Covers (write : ℕ × List ℕ) (at : ℕ) (text : List ℕ) : Type 0 where
  pub begins : write.0 ≤ at
  pub ends : at + length text ≤ write.0 + length write.1
  pub same : part write.1 (at - write.0) (length text) ≡ text

-- These bytes stand whole at an offset: in the settled log, or in one of the writes since. (Whether a reader comes to them there doesn't matter.)
unfoldable pub IsWhole : LogState → ℕ → List ℕ → Type 0
IsWhole past at text = (part past.settled at (length text) ≡ text) ⊎ ((write : ℕ × List ℕ) × Contains past.asked write × Covers write at text)

-- A text has stood at an offset of the file whenever that was settled since a write: at each sync, and at each crash.
abbrev pub HasStood : Placement → ℕ → List ℕ → Type 0
HasStood write at text = All (λ log. part log at (length text) ≡ text) write.since

-- One of these writes laid down this header, and it has stood since: the write begins at that offset of the file with it.
unfoldable pub HeaderWasPlaced : List Placement → ℕ → List ℕ → Type 0
HeaderWasPlaced placed at text = (write : Placement) × Contains placed write × (write.at ≡ at) × (take 20 write.bytes ≡ text) × HasStood write at text

-- where in a write to an offset of the file the first record begins: behind a header, where a slot begins at that offset
abbrev pub first_record : ℕ → ℕ → ℕ
first_record size at = if nat_lt 0 (at % size) then 0 else 20

module _ (sum : List ℕ → ℕ) (size : ℕ) where
  -- The offsets of a text that a reader of records of one number comes to, from a first one on: the first, and each end of a record that begins at one.
  pub data IsReached (number : ℕ) (text : List ℕ) (first : ℕ) : ℕ → Type 0 where
    at_first : IsReached number text first first
    behind : (at len : ℕ) (kind : MessageKind) (page : ℕ) (body : List ℕ) → IsReached number text first at → at + len ≤ length text
        → IsRecord sum (part text at len) kind page number body → IsReached number text first (at + len)

  -- One of these writes laid down this record of a number, and it has stood since: it covers it, and a reader of records of that number comes
  -- to it from the first one of the write.
  unfoldable pub RecordWasPlaced : List Placement → ℕ → ℕ → List ℕ → Type 0
  RecordWasPlaced placed number at text = (write : Placement) × Contains placed write × Covers (write.at, write.bytes) at text
      × IsReached number write.bytes (first_record size write.at) (at - write.at) × HasStood write at text

  -- In each slot that begins with a header, that header and each record of its number that a reader reads was placed there by the log, and stands whole.
  -- (Behind a Cap and where no record has room nothing is read, so nothing is asked of what may lie there.)
  pub record NoForeignLog (past : LogState) (placed : List Placement) (log : List ℕ) : Type 0 where
    pub headers : (slot : ℕ) (lsn mark : ℤ) → IsHeader sum (part log (slot * size) 20) lsn mark
        → HeaderWasPlaced placed (slot * size) (part log (slot * size) 20) × IsWhole past (slot * size) (part log (slot * size) 20)
    pub records : (slot lsn : ℕ) (mark : ℤ) (at len : ℕ) → IsHeader sum (part log (slot * size) 20) (pos lsn) mark
        → Reads sum size (lsn / size) (part log (slot * size) size) 20 at len
        → RecordWasPlaced placed (lsn / size) (slot * size + at) (part log (slot * size + at) len)
        × IsWhole past (slot * size + at) (part log (slot * size + at) len)

-- A file that passes its sum is one that was written under its name: it is the settled one, or was asked for since.
pub record NoForeignNames (passes : List ℕ → Type 0) (past : NamesState) (files : ℤ → Option (List ℕ)) : Type 0 where
  pub own : (n : ℤ) (bytes : List ℕ) → files n ≡ Some bytes → passes bytes → (settled_files past n ≡ Some bytes) ⊎ Contains (past.asked n) bytes
