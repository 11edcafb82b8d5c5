-- Each table has at an index what shifting that out leaves, by computing all of them.
use Rattle.std.proofs.Common.{◌≡◌, ◌∙◌, ◌<◌, ◌/◌, ◌%◌, ◌^◌, ap, sym, refl, arith, ℕ, List, map, get_or, bit_xor}
use Rattle.std.proofs.lemmas.List.FromFn.{get_or-map-range_with_len}
use Rattle.std.specs.List.{range_with_len}
use Rattle.sled_file.specs.declared.crc32.tables.TheConstants.{BY_8, BY_16, BY_24, BY_32, BY_40, BY_48, BY_56, BY_64}
use Rattle.sled_file.specs.Crc.{one_out, shifted_out}
use Rattle.sled_file.proofs.CrcLemmas.{eight_out}

at_index : (n : ℕ) (table : List ℕ) (b : ℕ) → table ≡ map (shifted_out n) (range_with_len 0 256) → b < 256 → get_or table b 0 ≡ shifted_out n b
at_index n table b is low = ap (λ (t : List ℕ). get_or t b 0) is ∙ get_or-map-range_with_len (shifted_out n) 0 256 b b 0 low (omega arith)

table_8 : BY_8 ≡ map (shifted_out 8) (range_with_len 0 256)
unfolding shifted_out one_out
table_8 = refl

table_16 : BY_16 ≡ map (shifted_out 16) (range_with_len 0 256)
unfolding shifted_out one_out
table_16 = refl

table_24 : BY_24 ≡ map (shifted_out 24) (range_with_len 0 256)
unfolding shifted_out one_out
table_24 = refl

table_32 : BY_32 ≡ map (shifted_out 32) (range_with_len 0 256)
unfolding shifted_out one_out
table_32 = refl

table_40 : BY_40 ≡ map (shifted_out 40) (range_with_len 0 256)
unfolding shifted_out one_out
table_40 = refl

table_48 : BY_48 ≡ map (shifted_out 48) (range_with_len 0 256)
unfolding shifted_out one_out
table_48 = refl

table_56 : BY_56 ≡ map (shifted_out 56) (range_with_len 0 256)
unfolding shifted_out one_out
table_56 = refl

table_64 : BY_64 ≡ map (shifted_out 64) (range_with_len 0 256)
unfolding shifted_out one_out
table_64 = refl

pub by_8 : (b : ℕ) → b < 256 → get_or BY_8 b 0 ≡ shifted_out 8 b
by_8 b low = at_index 8 BY_8 b table_8 low

both : (a c b d : ℕ) → a ≡ c → b ≡ d → bit_xor a b ≡ bit_xor c d
both a c b d e f = ap (λ (n : ℕ). bit_xor n b) e ∙ ap (bit_xor c) f

-- what the tables have at the eight bytes of a number is what shifting it out leaves
pub by_tables : (x : ℕ) → x < 2 ^ 64
    → bit_xor (bit_xor (bit_xor (bit_xor (bit_xor (bit_xor (bit_xor (get_or BY_64 (x % 256) 0) (get_or BY_56 (x / 2 ^ 8 % 256) 0)) (get_or BY_48 (x / 2 ^ 16 % 256) 0)) (get_or BY_40 (x / 2 ^ 24 % 256) 0))
    (get_or BY_32 (x / 2 ^ 32 % 256) 0)) (get_or BY_24 (x / 2 ^ 40 % 256) 0)) (get_or BY_16 (x / 2 ^ 48 % 256) 0)) (get_or BY_8 (x / 2 ^ 56 % 256) 0)
    ≡ shifted_out 64 x
by_tables x fits =
    let byte : (k : ℕ) → k % 256 < 256 = λ k. omega arith in
    both _ _ _ _ (both _ _ _ _ (both _ _ _ _ (both _ _ _ _ (both _ _ _ _ (both _ _ _ _ (both _ _ _ _
    (at_index 64 BY_64 (x % 256) table_64 (byte x)) (at_index 56 BY_56 (x / 2 ^ 8 % 256) table_56 (byte (x / 2 ^ 8))))
    (at_index 48 BY_48 (x / 2 ^ 16 % 256) table_48 (byte (x / 2 ^ 16)))) (at_index 40 BY_40 (x / 2 ^ 24 % 256) table_40 (byte (x / 2 ^ 24))))
    (at_index 32 BY_32 (x / 2 ^ 32 % 256) table_32 (byte (x / 2 ^ 32)))) (at_index 24 BY_24 (x / 2 ^ 40 % 256) table_24 (byte (x / 2 ^ 40))))
    (at_index 16 BY_16 (x / 2 ^ 48 % 256) table_16 (byte (x / 2 ^ 48)))) (at_index 8 BY_8 (x / 2 ^ 56 % 256) table_8 (byte (x / 2 ^ 56)))
    ∙ sym (eight_out x fits)
