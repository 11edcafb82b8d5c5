-- Masked again, the place is the number that the bytes stand for.
use Rattle.std.proofs.Common.{ℕ, ◌<◌, ◌∙◌, ap, get_or, FitsSigned}
use Rattle.std.specs.Int.{w64, from_le_bytes}
use Rattle.std.proofs.lemmas.Int.{to_z-of_z}
use Rattle.sled_codec.proofs.Segments.{bytes_of_place}
use Rattle.sled_codec.proofs.serialization.segment.unmasked.Goals as goal

pub returns : goal.returns
returns c =
    let fits : FitsSigned w64 c.cast_signed.result = record { sfits = c.cast_signed.type_inv } in
    let each : (i : ℕ) → get_or c.args.bytes.now i 0 < 256 = λ i. (c.type_inv.bytes i).fits in
    let is = c.from_le_bytes.ensures ∙ ap (from_le_bytes w64) c.copy_from_slice.ensures.after in
    rw (to_z-of_z w64 c.cast_signed.result fits) (bytes_of_place c.args.bytes.now _ _ c.requires each is c.from_le_bytes.type_inv c.cast_signed.ensures)
