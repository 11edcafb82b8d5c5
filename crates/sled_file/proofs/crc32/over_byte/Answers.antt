-- The lowest byte leaves its entry, and the others stay.
use Rattle.std.proofs.Common.{◌∙◌, ◌<◌, ◌/◌, ◌%◌, ap, sym, arith, ℕ, bit_xor}
use Rattle.sled_file.specs.Crc.{shifted_out, with_byte}
use Rattle.sled_file.proofs.CrcLemmas.{byte_out}
use Rattle.sled_file.proofs.CrcTables.{by_8}
use Rattle.sled_file.proofs.crc32.over_byte.Goals as goal

pub returns : goal.returns
unfolding with_byte
returns c =
    let x : ℕ = bit_xor c.args.crc c.from.result in
    let low : x % 256 < 256 = omega arith in
    ap (λ (n : ℕ). bit_xor n (x / 256)) (by_8 (x % 256) low) ∙ sym (byte_out x) ∙ ap (λ (b : ℕ). shifted_out 8 (bit_xor c.args.crc b)) c.from.ensures
