-- The places are masked again, and the sum decides.
use Rattle.std.proofs.Common.{◌≡◌, ◌∙◌, ap, take, length-drop, ℕ, ℤ, List, FitsSigned, drop, arith}
use Rattle.std.specs.Int.{w64}
use Rattle.std.proofs.lemmas.List.{take_all}
use Rattle.std.proofs.lemmas.Int.{to_z-of_z}
use Rattle.std.proofs.lemmas.Bool.Decides.{Decides-eqb}
use Rattle.sled_codec.specs.Sums.{flipped}
use Rattle.sled_codec.specs.Record.{header_places}
use Rattle.sled_codec.proofs.Segments.{places_of, header_by_sum, sum_by_header, header_is}
use Rattle.sled_codec.proofs.serialization.segment.SegmentHeader.from_bytes.Goals as goal

pub returns-clause-sum : goal.returns-clause-sum
returns-clause-sum g c =
    let bytes : List ℕ = c.args.bytes.now in
    let lsn : ℤ = c.unmasked.result in
    let mark : ℤ = c.unmasked-2.result in
    let lsn_fits : FitsSigned w64 lsn = record { sfits = c.unmasked.type_inv } in
    let mark_fits : FitsSigned w64 mark = record { sfits = c.unmasked-2.type_inv } in
    let places : drop 4 bytes ≡ header_places lsn mark = places_of bytes lsn mark c.told-bytes c.unmasked.ensures c.unmasked-2.ensures in
    let tail : take 16 (drop 4 bytes) ≡ drop 4 bytes = take_all 16 (drop 4 bytes) (omega (arith, c.told-bytes, length-drop 4 bytes)) in
    let is_sum : flipped c.sum-sum.result ≡ flipped (g.C.Checksum.sum_of (drop 4 bytes)) = ap flipped (c.sum-sum.ensures ∙ ap g.C.Checksum.sum_of tail) in
    rw (to_z-of_z w64 lsn lsn_fits, to_z-of_z w64 mark mark_fits) (
      λ same. header_by_sum g.C.Checksum.sum_of bytes _ c.stored_sum.result lsn mark places is_sum c.stored_sum.ensures lsn_fits mark_fits ((Decides-eqb _ _).0 same),
      λ h. (Decides-eqb _ _).1 (sum_by_header g.C.Checksum.sum_of bytes _ c.stored_sum.result lsn mark places is_sum c.stored_sum.ensures c.stored_sum.type_inv h),
    )

pub returns-clause-places : goal.returns-clause-places
returns-clause-places g c =
    let bytes : List ℕ = c.args.bytes.now in
    let lsn : ℤ = c.unmasked.result in
    let mark : ℤ = c.unmasked-2.result in
    let lsn_fits : FitsSigned w64 lsn = record { sfits = c.unmasked.type_inv } in
    let mark_fits : FitsSigned w64 mark = record { sfits = c.unmasked-2.type_inv } in
    rw (to_z-of_z w64 lsn lsn_fits, to_z-of_z w64 mark mark_fits) (places_of bytes lsn mark c.told-bytes c.unmasked.ensures c.unmasked-2.ensures)

pub returns-clause-header : goal.returns-clause-header
returns-clause-header g c = λ lsn mark h.
    let lsn_fits : FitsSigned w64 c.unmasked.result = record { sfits = c.unmasked.type_inv } in
    let mark_fits : FitsSigned w64 c.unmasked-2.result = record { sfits = c.unmasked-2.type_inv } in
    rw (to_z-of_z w64 c.unmasked.result lsn_fits, to_z-of_z w64 c.unmasked-2.result mark_fits)
    (header_is g.C.Checksum.sum_of c.args.bytes.now lsn mark c.unmasked.result c.unmasked-2.result h lsn_fits mark_fits (places_of c.args.bytes.now c.unmasked.result c.unmasked-2.result c.told-bytes c.unmasked.ensures c.unmasked-2.ensures))
