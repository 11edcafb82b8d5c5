-- Which bytes pass as a record of a message and as the header of a segment, under a checksum.
use Rattle.std.specs.Prelude.{◌≡◌, ◌≢◌, ◌-◌, ◌^◌, ℕ, ℤ, List, ◌++◌, length, drop, FitsSigned}
use Rattle.std.specs.Int.{w64, cast_unsigned}
use Rattle.std.specs.Int.Bits.{bit_xor}
use Rattle.sled_codec.specs.declared.serialization.message.MessageKind.{MessageKind}
use Rattle.sled_codec.specs.declared.serialization.message.MessageKind.TheVariants.{Corrupted}
use Rattle.sled_codec.specs.Spelling.{low_bytes, SpellsMessageHeader, short_header_tail}
use Rattle.sled_codec.specs.Sums.{flipped}

-- A record: a header that announces the body and carries the sum of the body and of its own rest, and then the body.
pub record IsRecord (sum : List ℕ → ℕ) (text : List ℕ) (kind : MessageKind) (page number : ℕ) (body : List ℕ) : Type 0 where
  pub header : List ℕ
  pub spelled : SpellsMessageHeader header (record {
    crc32 = flipped (sum (body ++ drop 4 header));
    kind = kind;
    segment_number = record { 0 = number };
    pid = page;
    len = length body;
  })
  pub is : text ≡ header ++ body
  pub valid : kind ≢ Corrupted

-- the sum that a record carries
unfoldable pub record_sum : (List ℕ → ℕ) → MessageKind → ℕ → ℕ → List ℕ → ℕ
record_sum sum kind page number body = flipped (sum (body ++ short_header_tail kind (length body) number page))

-- the record that is written
unfoldable pub short_record : (List ℕ → ℕ) → MessageKind → ℕ → ℕ → List ℕ → List ℕ
short_record sum kind page number body = low_bytes 4 (record_sum sum kind page number body) ++ short_header_tail kind (length body) number page ++ body

-- The header of a segment: a sum, the place of the segment's beginning, and its mark. Both places stand with all bits but the sign's flipped.

abbrev pub masked : ℤ → ℕ
masked place = bit_xor (cast_unsigned w64 place) (2 ^ 63 - 1)

-- what is summed
unfoldable pub header_places : ℤ → ℤ → List ℕ
header_places lsn mark = low_bytes 8 (masked lsn) ++ low_bytes 8 (masked mark)

-- the header that is written
unfoldable pub short_header : (List ℕ → ℕ) → ℤ → ℤ → List ℕ
short_header sum lsn mark = low_bytes 4 (flipped (sum (header_places lsn mark))) ++ header_places lsn mark

-- these bytes pass as the header of the segment that begins at a place, with a mark
pub record IsHeader (sum : List ℕ → ℕ) (bytes : List ℕ) (lsn mark : ℤ) : Type 0 where
  pub is : bytes ≡ short_header sum lsn mark
  pub place_fits : FitsSigned w64 lsn
  pub mark_fits : FitsSigned w64 mark
