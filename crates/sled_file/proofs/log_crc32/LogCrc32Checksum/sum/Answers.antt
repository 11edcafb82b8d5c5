-- What is kept behind the four bytes is the constant.
use Rattle.std.proofs.Common.{◌≡◌, ◌∙◌, ap, sym, refl, ℕ, bit_xor}
use Rattle.sled_file.specs.Crc.{one_out, shifted_out, with_byte, crc_from}
use Rattle.sled_file.proofs.log_crc32.LogCrc32Checksum.sum.Goals as goal

begun : with_byte (with_byte (with_byte (with_byte 0xffffffff 0x6c) 0x6f) 0x67) 0x00 ≡ 0xc67c1925
unfolding with_byte shifted_out one_out
begun = refl

pub returns : goal.returns
returns c = c.sum_from.ensures ∙ ap (λ (crc : ℕ). bit_xor (crc_from crc c.args.bytes.now) 0xffffffff) (sym begun)
