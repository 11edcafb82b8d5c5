-- The byte, the offset and the place are written one behind another.
use Rattle.std.proofs.Common.{◌≡◌, ◌∙◌, ap, List, [], ◌∷◌, ◌++◌, ℕ, ◌+◌, arith, length, length-append}
use Rattle.std.specs.Int.{w64}
use Rattle.std.proofs.lemmas.Int.{to_z-of_z}
use Rattle.sled_codec.specs.Spelling.{short_number, short_signed}
use Rattle.sled_codec.specs.Written.{written, written_twice}
use Rattle.sled_codec.proofs.serialization.pointer.DiskPtrSerialize.serialize_into.Goals as goal

pub returns-in-Blob-clause-bytes : goal.returns-in-Blob-clause-bytes
returns-in-Blob-clause-bytes c =
    let buf : List ℕ = c.args.buf.now in
    let at : ℕ = c.args.at in
    let which : List ℕ = 1 ∷ [] in
    let lid : List ℕ = short_number c.in-Blob.lid in
    let place : List ℕ = short_signed c.in-Blob.place in
    let fits = rw c.in-Blob.is at c.requires.fits in
    let room = rw c.in-Blob.is at c.requires.room in
    let whole : length (lid ++ place) ≡ length lid + length place = length-append lid place in
    let long : length (which ++ lid) ≡ 1 + length lid = length-append which lid in
    let two : c.serialize_into-next-in-Blob-2.new.buf ≡ written buf at (which ++ lid) =
    c.serialize_into-next-in-Blob-2.ensures.bytes
    ∙ ap (λ (l : List ℕ). written l c.serialize_into-next-in-Blob.result lid) c.serialize_into-next-in-Blob.ensures.bytes
    ∙ written_twice buf at which (omega (arith, room)) lid _ c.serialize_into-next-in-Blob.ensures.next in
    let three = rw (to_z-of_z w64 c.in-Blob.place fits.1) at c.serialize_into-in-Blob.ensures.bytes in
    rw c.in-Blob.is
    (three
    ∙ ap (λ (l : List ℕ). written l c.serialize_into-next-in-Blob-2.result place) two
    ∙ written_twice buf at (which ++ lid) (omega (arith, room)) place _ (omega (arith, c.serialize_into-next-in-Blob.ensures.next, c.serialize_into-next-in-Blob-2.ensures.next)))
