-- The grammar of the formats. A spelling relates a whole text, a list of bytes, to the value that it stands for.
-- The short spelling is the one that is written. A number may have longer ones, which are read all the same.
use Rattle.std.specs.Prelude.{◌≡◌, ◌+◌, ◌-◌, ◌*◌, ◌/◌, ◌%◌, ◌^◌, ◌<◌, ℕ, ℤ, if◌then◌else◌, nat_le, nat_lt, ◌==◌, List, [], ◌∷◌, ◌++◌, length, take, slice_index}
use Rattle.std.specs.Prelude.{FitsSigned, Bool, true, false, Option, None, Some, pos, negsuc}
use Rattle.std.specs.List.{All, flat_map}
use Rattle.std.specs.Int.{w64, to_le_bytes, from_le_bytes, cast_unsigned}
use Rattle.sled_codec.specs.declared.serialization.message.MessageHeader.{MessageHeader}
use Rattle.sled_codec.specs.declared.serialization.message.MessageKind.{MessageKind}
use Rattle.sled_codec.specs.declared.result.DiskPtr.{DiskPtr}
use Rattle.sled_codec.specs.declared.result.DiskPtr.TheVariants.{Inline, Blob}
use Rattle.std.specs.declared.num.NonZeroU64.{NonZeroU64}
use Rattle.std.specs.Int.NonZero.{non_zero_u64_get}
use Rattle.sled_codec.specs.Kinds.{code_of, kind_of}

-- Fixed numbers, the lowest byte first.

-- the lowest n bytes of a number
abbrev pub low_bytes : ℕ → ℕ → List ℕ
low_bytes n v = take n (to_le_bytes w64 v)

-- what at most eight bytes stand for
abbrev pub low_first : List ℕ → ℕ
low_first bytes = from_le_bytes w64 bytes

-- n bytes that stand for a number
pub record SpellsFixed (n : ℕ) (text : List ℕ) (v : ℕ) : Type 0 where
  pub long : length text ≡ n
  pub value : v ≡ low_first text
  pub small : v < 256 ^ n

-- one byte
pub record SpellsByte (text : List ℕ) (v : ℕ) : Type 0 where
  pub is : text ≡ v ∷ []
  pub small : v < 2 ^ 8

-- eight bytes that stand for a signed number, by the two's complement
pub record SpellsSigned (text : List ℕ) (z : ℤ) : Type 0 where
  pub unsigned : SpellsFixed 8 text (cast_unsigned w64 z)
  pub in_range : FitsSigned w64 z

abbrev pub short_signed : ℤ → List ℕ
short_signed z = low_bytes 8 (cast_unsigned w64 z)

-- Numbers of one to nine bytes.

-- how many bytes follow the lead byte
abbrev pub more_bytes : ℕ → ℕ
more_bytes lead = if nat_le lead 240 then 0 else if nat_le lead 248 then 1 else if lead == 249 then 2 else lead - 247

-- the number that a lead byte and the bytes behind it stand for
abbrev pub number_of : ℕ → List ℕ → ℕ
number_of lead more =
    if nat_le lead 240 then lead
    else if nat_le lead 248 then (lead - 241) * 256 + slice_index more 0 + 240
    else if lead == 249 then slice_index more 0 * 256 + slice_index more 1 + 2288
    else low_first more

unfoldable pub SpellsNumber : List ℕ → ℕ → Type 0
SpellsNumber [] v = ⊥
SpellsNumber (lead ∷ more) v = (length more ≡ more_bytes lead) × (v ≡ number_of lead more) × (v < 2 ^ 64) × (lead < 2 ^ 8)

-- how many bytes hold v, three at least
abbrev pub byte_count : ℕ → ℕ
byte_count v =
    if nat_lt v (2 ^ 24) then 3 else if nat_lt v (2 ^ 32) then 4 else if nat_lt v (2 ^ 40) then 5 else if nat_lt v (2 ^ 48) then 6
    else if nat_lt v (2 ^ 56) then 7 else 8

unfoldable pub short_number : ℕ → List ℕ
short_number v =
    if nat_le v 240 then v ∷ []
    else if nat_le v 2287 then ((v - 240) / 256 + 241) ∷ (v - 240) % 256 ∷ []
    else if nat_le v 67823 then 249 ∷ (v - 2288) / 256 ∷ (v - 2288) % 256 ∷ []
    else (byte_count v + 247) ∷ low_bytes (byte_count v) v

-- Bytes: their count, and then they themselves.

pub record SpellsBytes (text bytes : List ℕ) : Type 0 where
  pub count : List ℕ
  pub counted : SpellsNumber count (length bytes)
  pub is : text ≡ count ++ bytes

unfoldable pub short_bytes : List ℕ → List ℕ
short_bytes bytes = short_number (length bytes) ++ bytes

-- The header of a message: its sum, its kind, the length of its body, the number of its segment and its page.

pub record SpellsMessageHeader (text : List ℕ) (h : MessageHeader) : Type 0 where
  pub sum : List ℕ
  pub code : ℕ
  pub len : List ℕ
  pub number : List ℕ
  pub page : List ℕ
  pub summed : SpellsFixed 4 sum h.crc32
  pub kind : h.kind ≡ kind_of code
  pub coded : code < 2 ^ 8
  pub counted : SpellsNumber len h.len
  pub numbered : SpellsNumber number h.segment_number.0
  pub paged : SpellsNumber page h.pid
  pub is : text ≡ sum ++ (code ∷ len) ++ number ++ page

-- what is written behind the sum
unfoldable pub short_header_tail : MessageKind → ℕ → ℕ → ℕ → List ℕ
short_header_tail kind len number page = (code_of kind ∷ short_number len) ++ short_number number ++ short_number page

unfoldable pub short_message_header : MessageHeader → List ℕ
short_message_header h = low_bytes 4 h.crc32 ++ short_header_tail h.kind h.len h.segment_number.0 h.pid

-- its numbers are in the ranges of their types
pub record FitsMessageHeader (h : MessageHeader) : Type 0 where
  pub sum : h.crc32 < 2 ^ 32
  pub len : h.len < 2 ^ 64
  pub number : h.segment_number.0 < 2 ^ 64
  pub page : h.pid < 2 ^ 64

-- Parts.

-- one spelling, and another behind it
pub record SpellsPair {V W : Type 0} (A : List ℕ → V → Type 0) (B : List ℕ → W → Type 0) (text : List ℕ) (v : V) (w : W) : Type 0 where
  pub first : List ℕ
  pub second : List ℕ
  pub front : A first v
  pub back : B second w
  pub is : text ≡ first ++ second

-- Numbers with a place for none.

-- a flag: any byte but 0 is true
pub record SpellsBool (text : List ℕ) (v : Bool) : Type 0 where
  pub byte : ℕ
  pub is : text ≡ byte ∷ []
  pub small : byte < 2 ^ 8
  pub value : v ≡ (if byte == 0 then false else true)

abbrev pub short_bool : Bool → List ℕ
short_bool v = (if v then 1 else 0) ∷ []

-- the number that is written for one that may be missing
abbrev pub or_zero : Option ℕ → ℕ
or_zero None = 0
or_zero (Some v) = v + 1

-- the number of one that is not 0, or 0
abbrev pub number_or_zero : Option NonZeroU64 → ℕ
number_or_zero None = 0
number_or_zero (Some v) = non_zero_u64_get v

abbrev pub or_zero_signed : Option ℤ → ℤ
or_zero_signed None = pos 0
or_zero_signed (Some (pos n)) = pos (n + 1)
or_zero_signed (Some (negsuc n)) = negsuc n

-- the same of the two values together
abbrev pub SpellsBoth : {V W : Type 0} → (List ℕ → V → Type 0) → (List ℕ → W → Type 0) → List ℕ → V × W → Type 0
SpellsBoth A B text both = SpellsPair A B text both.0 both.1

-- three spellings, one behind another
abbrev pub SpellsTriple : {V W X : Type 0} → (List ℕ → V → Type 0) → (List ℕ → W → Type 0) → (List ℕ → X → Type 0) → List ℕ → V → W → X → Type 0
SpellsTriple A B C text v w x = SpellsPair (SpellsBoth A B) C text (v, w) x

-- Values one behind another.

-- a text of one kind, and one of another kind behind it
pub record Joined (First Second : List ℕ → Type 0) (text : List ℕ) : Type 0 where
  pub first : List ℕ
  pub second : List ℕ
  pub front : First first
  pub back : Second second
  pub is : text ≡ first ++ second

-- spellings of these values, one behind another
abbrev pub SpellsEach : {V : Type 0} → (List ℕ → V → Type 0) → List ℕ → List V → Type 0
SpellsEach Spells text [] = text ≡ []
SpellsEach Spells text (v ∷ vs) = Joined (λ front. Spells front v) (λ back. SpellsEach Spells back vs) text

-- each of them has a spelling, and the length of all is a `u64`
abbrev pub FitsEach : {V : Type 0} → (V → Type 0) → (V → List ℕ) → List V → Type 0
FitsEach fits short vs = All fits vs × (length (flat_map short vs) < 2 ^ 64)

-- Pointers: a byte that tells which, and then the offset, and the blob.

-- a byte, and a spelling behind it
pub record Tagged (byte : ℕ) (Spells : List ℕ → Type 0) (text : List ℕ) : Type 0 where
  pub rest : List ℕ
  pub spelled : Spells rest
  pub is : text ≡ byte ∷ rest

abbrev pub SpellsPointer : List ℕ → DiskPtr → Type 0
SpellsPointer text (Inline lid) = Tagged 0 (λ rest. SpellsNumber rest lid) text
SpellsPointer text (Blob lid place) = Tagged 1 (λ rest. SpellsPair SpellsNumber SpellsSigned rest lid place) text

abbrev pub FitsPointer : DiskPtr → Type 0
FitsPointer (Inline lid) = lid < 2 ^ 64
FitsPointer (Blob lid place) = (lid < 2 ^ 64) × FitsSigned w64 place

abbrev pub short_pointer : DiskPtr → List ℕ
short_pointer (Inline lid) = 0 ∷ short_number lid
short_pointer (Blob lid place) = 1 ∷ (short_number lid ++ short_signed place)
