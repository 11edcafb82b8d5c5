-- What the laws speak of that show that the premise of recovery is met: that nothing is foreign.
use Rattle.std.specs.Prelude.{◌+◌, ◌/◌, ◌∷◌, ◌++◌, ℕ, ℤ, pos, List, [], length}
use Rattle.sled_codec.specs.declared.serialization.message.MessageKind.{MessageKind}
use Rattle.sled_codec.specs.Places.{part}
use Rattle.sled_codec.specs.Record.{IsRecord, IsHeader}
use Rattle.sled_store.specs.Device.{Trace, Wrote, Synced}
use Rattle.sled_store.specs.Foreign.{IsReached}

-- these bytes are the record of some message
abbrev pub IsSomeRecord : (List ℕ → ℕ) → List ℕ → Type 0
IsSomeRecord sum text = (kind : MessageKind) × (page : ℕ) × (number : ℕ) × (body : List ℕ) × IsRecord sum text kind page number body

-- A header and a record were written and synced, then the third record, and then the second one in front of it, which isn't synced yet.
abbrev pub written_out_of_order : List ℕ → List ℕ → List ℕ → List ℕ → Trace
written_out_of_order header first second third =
    Wrote (20 + length first) second second ∷ Synced ∷ Wrote (20 + length first + length second) third third ∷ Synced
    ∷ Wrote 0 (header ++ first) (header ++ first) ∷ []

-- A reader that begins behind the header of the first segment comes along its records to the end of the log file.
abbrev pub IsReachedToEnd : (List ℕ → ℕ) → ℕ → List ℕ → Type 0
IsReachedToEnd sum size log = (lsn : ℕ) (mark : ℤ) → IsHeader sum (part log 0 20) (pos lsn) mark → IsReached sum size (lsn / size) log 20 (length log)
