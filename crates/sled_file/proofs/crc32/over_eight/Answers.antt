-- Eight bytes come in at once, as their number.
use Rattle.std.proofs.Common.{◌≡◌, ◌∙◌, ap, ℕ, bit_xor, rules}
use Rattle.sled_file.specs.Crc.{shifted_out}
use Rattle.sled_file.proofs.CrcLemmas.{eight_in}
use Rattle.sled_file.proofs.crc32.over_eight.Goals as goal

pub returns : goal.returns
returns c =
    let n : ℕ = c.from_le_bytes-number.result in
    let leaves : c.shift_out.result ≡ shifted_out 64 (bit_xor c.args.crc n) = c.shift_out.ensures ∙ ap (λ (k : ℕ). shifted_out 64 (bit_xor k n)) c.from.ensures in
    eight_in c.shift_out.result c.args.crc n c.args.bytes (search rules) (search rules) c.from_le_bytes-number.ensures leaves
