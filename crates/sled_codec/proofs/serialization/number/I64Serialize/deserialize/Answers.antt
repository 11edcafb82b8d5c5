-- The eight bytes that were copied spell the number.
use Rattle.std.proofs.Common.{◌∙◌, ap, List, ℕ, arith, take, length-take, FitsSigned}
use Rattle.std.specs.Int.{w64}
use Rattle.std.proofs.lemmas.Int.{to_z-of_z}
use Rattle.sled_codec.specs.Spelling.{low_first}
use Rattle.sled_codec.proofs.Fronts.{front_rest, spells_read}
use Rattle.sled_codec.proofs.serialization.number.I64Serialize.deserialize.Goals as goal

pub returns-clause-ok : goal.returns-clause-ok
returns-clause-ok c =
    let text : List ℕ = c.args.buf.now.now in
    let fits : FitsSigned w64 c.cast_signed.result = record { sfits = c.cast_signed.type_inv } in
    let value = c.from_le_bytes.ensures ∙ ap low_first c.copy_from_slice.ensures.after in
    rw (to_z-of_z w64 c.cast_signed.result fits) (take 8 text, spells_read (take 8 text) _ _ (omega (arith, length-take 8 text)) value c.from_le_bytes.type_inv c.cast_signed.ensures, front_rest text 8)
