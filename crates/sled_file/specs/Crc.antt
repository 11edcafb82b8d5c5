-- The cyclic redundancy check of IEEE 802.3, bit by bit. The lowest bit of a byte comes first.
use Rattle.std.specs.Prelude.{◌/◌, ◌%◌, ◌==◌, ℕ, zero, suc, List, [], ◌∷◌, if◌then◌else◌, bit_xor}

-- One bit is shifted out. Where it is 1, the polynomial is taken off, of which the lowest bit stands for the greatest power.
unfoldable pub one_out : ℕ → ℕ
one_out bits = if bits % 2 == 1 then bit_xor (bits / 2) 0xedb88320 else bits / 2

-- so many bits are shifted out
unfoldable pub shifted_out : ℕ → ℕ → ℕ
shifted_out zero bits = bits
shifted_out (suc n) bits = shifted_out n (one_out bits)

-- a byte comes in, and its eight bits are shifted out
unfoldable pub with_byte : ℕ → ℕ → ℕ
with_byte crc byte = shifted_out 8 (bit_xor crc byte)

-- from byte to byte
abbrev pub crc_from : ℕ → List ℕ → ℕ
crc_from crc [] = crc
crc_from crc (byte ∷ bytes) = crc_from (with_byte crc byte) bytes

-- It begins with 32 ones, and at the end all bits are turned.
abbrev pub crc32 : List ℕ → ℕ
crc32 bytes = bit_xor (crc_from (0xffffffff) bytes) (0xffffffff)

-- The same of "log" and a zero, and then these bytes. Under crc32 what is left of the header of place 0, torn over zeros, may pass as one.
abbrev pub log_crc32 : List ℕ → ℕ
log_crc32 bytes = crc32 (0x6c ∷ 0x6f ∷ 0x67 ∷ 0x00 ∷ bytes)
