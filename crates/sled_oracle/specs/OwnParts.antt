-- What a slow test of the log file is made of, by which a test tells whether only what the log itself wrote passes as its own.
use Rattle.std.specs.Prelude.{◌≡◌, ◌↔◌, ◌+◌, ◌≤◌, ◌-◌, ◌*◌, ◌/◌, ℕ, ℤ, pos, List, [], ◌∷◌, get_or, take, Option, Some, None}
use Rattle.std.specs.List.{Contains}
use Rattle.sled_codec.specs.declared.serialization.segment.SegmentHeader.{SegmentHeader}
use Rattle.sled_codec.specs.declared.serialization.message.MessageKind.TheVariants.{Cap}
use Rattle.sled_codec.specs.Kinds.{kind_of}
use Rattle.sled_codec.specs.Places.{part}
use Rattle.sled_codec.specs.Record.{IsHeader}
use Rattle.sled_store.specs.Device.{LogState, Placement, at_rest, settled_again}
use Rattle.sled_oracle.specs.declared.foreign.LogNote.TheVariants.{Wrote, Settled}
use Rattle.sled_oracle.specs.declared.foreign.LogNote.{LogNote}
use Rattle.sled_oracle.specs.declared.foreign.LogPast.{LogPast}
use Rattle.sled_store.specs.Readers.{BeginsAt, Reads}
use Rattle.sled_store.specs.Foreign.{Covers, IsWhole, IsReached, HeaderWasPlaced, RecordWasPlaced, first_record}

-- a write laid down these bytes as a header: it begins at that offset with them
abbrev pub Lays : ℕ × List ℕ → ℕ → List ℕ → Type 0
Lays write at text = (write.0 ≡ at) × (take 20 write.1 ≡ text)

-- the record of a number that begins there, where one does
abbrev pub FindsRecord : (List ℕ → ℕ) → ℕ → List ℕ → ℕ → Option ℕ → Type 0
FindsRecord sum number text at None = (len : ℕ) → BeginsAt sum number text at len → ⊥
FindsRecord sum number text at (Some len) = BeginsAt sum number text at len

-- the record of a text is a Cap, by its fifth byte
abbrev pub IsCap : List ℕ → Type 0
IsCap text = kind_of (get_or text 4 0) ≡ Cap

-- the record of a number that a reader reads at an offset of a segment, where it reads one
abbrev pub FindsRead : (List ℕ → ℕ) → ℕ → ℕ → List ℕ → ℕ → Option ℕ → Type 0
FindsRead sum size number text at None = (len : ℕ) → at + 32 ≤ size → BeginsAt sum number text at len → ⊥
FindsRead sum size number text at (Some len) = BeginsAt sum number text at len × (at + 32 ≤ size)

-- what counts of the past of a log file: its bytes at the last sync, the writes that were asked since, and all writes
pub record KnownPast : Type 0 where
  pub settled : List ℕ
  pub asked : List (ℕ × List ℕ)
  pub placed : List Placement

abbrev pub nothing_known : KnownPast
nothing_known = record { settled = []; asked = []; placed = [] }

-- what a note adds
abbrev pub noted : LogNote → KnownPast → KnownPast
noted (Wrote w) k = record { settled = k.settled; asked = w ∷ k.asked; placed = record { at = w.0; bytes = w.1; since = [] } ∷ k.placed }
noted (Settled bytes) k = record { settled = bytes.items; asked = []; placed = settled_again bytes.items k.placed }

-- and many notes, the oldest first
abbrev pub all_noted : List LogNote → KnownPast → KnownPast
all_noted [] k = k
all_noted (n ∷ notes) k = all_noted notes (noted n k)

-- a log file with these bytes at its last sync, of which these writes were asked since
abbrev pub log_of : KnownPast → LogState
log_of k = record (at_rest k.settled) { asked = k.asked }

-- what a test noted of the past of a log file, as a state of it, and all writes
abbrev pub past_of : LogPast → LogState
past_of past = log_of (all_noted past.notes.items nothing_known)

abbrev pub placed_of : LogPast → List Placement
placed_of past = (all_noted past.notes.items nothing_known).placed

-- What a test noted is the past of a log file: its bytes at the last sync, the writes that were asked since, and all writes with what the file
-- was at each sync and crash since; the writes in any order.
pub record IsNoted (noted : LogPast) (past : LogState) (placed : List Placement) : Type 0 where
  pub settled : past.settled ≡ (past_of noted).settled
  pub since : (write : ℕ × List ℕ) → Contains past.asked write ↔ Contains (past_of noted).asked write
  pub ever : (write : Placement) → Contains placed write ↔ Contains (placed_of noted) write

-- a header at an offset of the file is the log's own: it was placed there, and stands whole
abbrev pub IsOwnHeader : LogState → List Placement → ℕ → List ℕ → Type 0
IsOwnHeader past placed at text = HeaderWasPlaced placed at text × IsWhole past at text

module _ (sum : List ℕ → ℕ) (size : ℕ) where
  -- a write laid down this record of a number: it covers it, and a reader comes to it from the first one of the write
  abbrev pub LaysRecord : ℕ × List ℕ → ℕ → ℕ → List ℕ → Type 0
  LaysRecord write number at text = Covers write at text × IsReached sum size number write.1 (first_record size write.0) (at - write.0)

  module _ (past : LogState) (placed : List Placement) where
    -- this record of a number at an offset of the file is the log's own: it was placed there, and stands whole
    abbrev pub IsOwnRecord : ℕ → ℕ → List ℕ → Type 0
    IsOwnRecord number at text = RecordWasPlaced sum size placed number at text × IsWhole past at text

    -- a text begins at an offset of the file, and each record of a number in it is the log's own that a reader reads from an offset of the text on
    abbrev pub AreOwnFrom : ℕ → ℕ → List ℕ → ℕ → Type 0
    AreOwnFrom number begin text from = (at len : ℕ) → Reads sum size number text from at len → IsOwnRecord number (begin + at) (part text at len)

    -- where a slot begins with a header, that header is the log's own, and each record of its number that a reader reads
    pub record IsOwnSlot (log : List ℕ) (slot : ℕ) : Type 0 where
      pub header : (lsn mark : ℤ) → IsHeader sum (part log (slot * size) 20) lsn mark → IsOwnHeader past placed (slot * size) (part log (slot * size) 20)
      pub records : (lsn : ℕ) (mark : ℤ) → IsHeader sum (part log (slot * size) 20) (pos lsn) mark
          → AreOwnFrom (lsn / size) (slot * size) (part log (slot * size) size) 20

    -- a slot whose header has a place is the log's own; the rest of the file from the slot on is given
    pub record IsOwnBegun (begin : ℕ) (rest : List ℕ) (place : ℤ) : Type 0 where
      pub header : IsOwnHeader past placed begin (take 20 rest)
      pub records : (lsn : ℕ) → place ≡ pos lsn → AreOwnFrom (lsn / size) begin (take size rest) 20

-- the header that bytes pass as, where they do
abbrev pub FindsHeader : (List ℕ → ℕ) → List ℕ → Option SegmentHeader → Type 0
FindsHeader sum bytes None = (lsn mark : ℤ) → IsHeader sum bytes lsn mark → ⊥
FindsHeader sum bytes (Some h) = IsHeader sum bytes h.lsn h.max_stable_lsn
