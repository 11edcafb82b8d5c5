-- What the bytes of a buffer are that a log writes: the header of its segment, where it begins with that; whole records, each with its sum, and those of
-- messages that were given up with the bodies of these; and what fills the segment, which alone ends its records, and begins where the log has it.
use Rattle.std.specs.Prelude.{◌≡◌, ◌≢◌, ◌⊎◌, ◌+◌, ◌/◌, ◌%◌, ◌≤◌, ◌<ℤ◌, ◌∷◌, ◌++◌, ℕ, ℤ, pos, List, [], length, Contains}
use Rattle.sled_codec.specs.declared.serialization.message.MessageKind.{MessageKind}
use Rattle.sled_codec.specs.declared.serialization.message.MessageKind.TheVariants as kind
use Rattle.sled_codec.specs.History.{Message}
use Rattle.sled_codec.specs.Record.{short_header, short_record}
use Rattle.sled_core.specs.Canceled.{IsBodyOf}
use Rattle.sled_core.specs.Fillings.{FillingAt}
use Rattle.sled_core.specs.HeaderMark.{mark_at}
use Rattle.sled_core.specs.Heads.{HeadAt}
use Rattle.sled_core.specs.invariants.Caps.{segment_rest}
use Rattle.sled_core.specs.Manifests.{manifest_page}
use Rattle.sled_core.specs.Waiting.{BufferAt}

-- A record by what is in it, but for its segment's number.
pub record RecordParts : Type 0 where
  pub kind : MessageKind
  pub page : ℕ
  pub body : List ℕ

-- the bytes of such records, in a segment of this number, one behind another
abbrev pub records_text : (List ℕ → ℕ) → ℕ → List RecordParts → List ℕ
records_text sum number [] = []
records_text sum number (r ∷ rs) = short_record sum r.kind r.page number r.body ++ records_text sum number rs

-- A record at a place is of one of these messages: of its page and with its body, where it was to lie.
abbrev pub IsOfOne : List Message → ℕ → RecordParts → Type 0
IsOfOne messages place r = (m : Message) × Contains messages m × (m.place ≡ place) × (m.page ≡ r.page) × IsBodyOf m r.body

-- A record at a place is none that ends its segment, and of a kind that a reader knows; a manifest is of the page of manifests; and one that every reader
-- passes over is of one of these messages.
abbrev pub IsRecordAmong : List Message → ℕ → RecordParts → Type 0
IsRecordAmong given_up place r =
    (r.kind ≢ kind.Cap) × (r.kind ≢ kind.Corrupted) × (r.kind ≡ kind.BatchManifest → r.page ≡ manifest_page)
    × (r.kind ≡ kind.Canceled → IsOfOne given_up place r)

-- So is each one of several, where the first of them stands at a place.
abbrev pub AreRecordsAmong : (List ℕ → ℕ) → ℕ → List Message → ℕ → List RecordParts → Type 0
AreRecordsAmong sum number given_up place [] = Unit {0}
AreRecordsAmong sum number given_up place (r ∷ rs) =
    IsRecordAmong given_up place r × AreRecordsAmong sum number given_up (place + length (short_record sum r.kind r.page number r.body)) rs

-- What stands in front of the first record of a buffer that begins at a place, which lies at an offset of its segment: where it begins with the segment the
-- segment's header, with a mark below it, which is one of these; else nothing.
abbrev pub IsHead : (List ℕ → ℕ) → List HeadAt → ℕ → ℕ → List ℕ → Type 0
IsHead sum heads place from head =
    ((from ≡ 0) × Contains heads (record { place = place; bytes = head }) × (mark : ℤ) × (mark <ℤ pos place) × (head ≡ short_header sum (pos place) mark))
    ⊎ ((20 ≤ from) × (head ≡ []))

-- What stands behind its last record, from that place on, which lies at an offset of its segment: nothing, or what fills the segment to its end, and is one of
-- these.
abbrev pub IsFilling : (List ℕ → ℕ) → ℕ → List FillingAt → ℕ → ℕ → ℕ → List ℕ → Type 0
IsFilling sum size fillings number place from rest =
    (rest ≡ [])
    ⊎ ((from + length rest ≡ size) × (rest ≡ segment_rest sum size number from)
    × Contains fillings (record { next = place + length rest; from = place }))

-- The bytes of a buffer that begins at a place, and so at an offset of a segment of a number: no record is written in parts, and none without its sum, nor one
-- of no kind, nor a manifest of another page; one that every reader passes over is of one of these messages, those that were given up; no record ends the
-- segment but in what fills it; and the header is one of these, and so is what fills the segment, those that aren't on the device.
pub record IsWholeText (sum : List ℕ → ℕ) (size : ℕ) (given_up : List Message) (heads : List HeadAt) (fillings : List FillingAt) (number place from : ℕ)
    (bytes : List ℕ) : Type 0 where
  pub head : List ℕ
  pub records : List RecordParts
  pub rest : List ℕ
  pub is : bytes ≡ head ++ records_text sum number records ++ rest
  pub headed : IsHead sum heads place from head
  pub each : AreRecordsAmong sum number given_up (place + length head) records
  pub filled : IsFilling sum size fillings number (place + length head + length (records_text sum number records))
      (from + length head + length (records_text sum number records)) rest

-- So are those of a buffer of a log with segments of a size, where these were given up, and these headers and this filling aren't on the device. The buffer has
-- the mark of the header that its bytes begin with, or none.
abbrev pub IsWholeBuffer : (List ℕ → ℕ) → ℕ → List Message → List HeadAt → List FillingAt → BufferAt → Type 0
IsWholeBuffer sum size given_up heads fillings b =
    IsWholeText sum size given_up heads fillings (b.place / size) b.place (b.place % size) b.bytes × (b.mark ≡ mark_at (b.place % size) b.bytes)
