-- How a reader goes along the records of a segment, and when what stands in a range of it is the log's own.
use Rattle.std.specs.Prelude.{◌≡◌, ◌≢◌, ◌≤◌, ◌<◌, ◌+◌, ℕ, max, List, length, take}
use Rattle.sled_codec.specs.declared.serialization.message.MessageKind.{MessageKind}
use Rattle.sled_codec.specs.declared.serialization.message.MessageKind.TheVariants.{Cap}
use Rattle.sled_codec.specs.Places.{part}
use Rattle.sled_codec.specs.Record.{IsRecord}

-- a record of a number begins in a text at an offset, and has this length
pub record BeginsAt (sum : List ℕ → ℕ) (number : ℕ) (text : List ℕ) (at len : ℕ) : Type 0 where
  pub kind : MessageKind
  pub page : ℕ
  pub body : List ℕ
  pub is : IsRecord sum (part text at len) kind page number body
  pub some : 0 < len
  pub inside : at + len ≤ length text

module _ (sum : List ℕ → ℕ) (size : ℕ) where
  -- The offsets of a segment that a reader of its records comes to: a first one, and the end of each record of the segment's number that begins at one.
  -- Behind a Cap it reads no further, nor where the longest header of a record has no room.
  pub data ReadsTo (number : ℕ) (text : List ℕ) (first : ℕ) : ℕ → Type 0 where
    at_start : ReadsTo number text first first
    reads_past : (at len : ℕ) (kind : MessageKind) (page : ℕ) (body : List ℕ) → ReadsTo number text first at → at + 32 ≤ size → kind ≢ Cap
        → at + len ≤ length text
        → IsRecord sum (part text at len) kind page number body → ReadsTo number text first (at + len)

  -- a record that it reads
  pub record Reads (number : ℕ) (text : List ℕ) (first at len : ℕ) : Type 0 where
    pub comes : ReadsTo number text first at
    pub room : at + 32 ≤ size
    pub inside : at + len ≤ length text
    pub kind : MessageKind
    pub page : ℕ
    pub body : List ℕ
    pub is : IsRecord sum (part text at len) kind page number body

  -- What is own: a header at an offset of the file, and a record of a number.
  module _ (Header : ℕ → List ℕ → Type 0) (Own : ℕ → ℕ → List ℕ → Type 0) where
    -- A segment of a number begins at an offset of the file with this text. A range of it is own: its header, where it begins with that, and each record
    -- that a reader comes to from its beginning (behind the header). It reads to the range's end, unless that is the segment's.
    pub record IsOwnRange (number begin : ℕ) (text : List ℕ) (from to : ℕ) : Type 0 where
      pub there : to ≤ length text
      pub rises : max 20 from ≤ to
      pub headed : from ≡ 0 → Header begin (take 20 text)
      pub comes : to < size → ReadsTo number text (max 20 from) to
      pub own : (at len : ℕ) → Reads number text (max 20 from) at len → at + len ≤ to → Own number (begin + at) (part text at len)
