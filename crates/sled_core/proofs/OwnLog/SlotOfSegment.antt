-- The slot of a segment that isn't wholly on the device is own: a reader comes to where the first gap is, and reads nothing there.
use Rattle.std.proofs.Common.{◌≡◌, ◌≤◌, ◌<◌, ◌*◌, ◌/◌, ℕ, pos, false, List, [], ◌∷◌, subst, arith, inl, inr}
use Rattle.std.specs.List.{All}
use Rattle.std.proofs.lemmas.Bool.{cases_lt}
use Rattle.sled_codec.specs.Places.{part}
use Rattle.sled_codec.specs.Record.{IsHeader}
use Rattle.sled_store.specs.Readers.{IsOwnRange}
use Rattle.sled_core.specs.declared.iobuf.Reserved.{Reserved}
use Rattle.sled_core.specs.declared.iobuf.Sealed.{Sealed}
use Rattle.sled_core.specs.declared.iobuf.SegmentPosition.{SegmentPosition}
use Rattle.sled_core.specs.LogFile.{HasHeader}
use Rattle.sled_core.specs.inside.OwnLog.{HasOwnSlot, IsOwnSegment}
use Rattle.sled_core.specs.Recoverable.{NoHeaderOfZeros}
use Rattle.sled_core.specs.inside.SealedBuffers.{AreSealed, FirstUnwritten, Laid}
use Rattle.sled_core.proofs.OwnLog.SlotEnds.{slot_unbegun}
use Rattle.sled_core.proofs.OwnLog.SlotOfRange.{slot_of_range}
use Rattle.sled_core.proofs.Reserve.Entries.{IsLong}
use Rattle.sled_core.proofs.Sealed.Clear.{zero_behind}
use Rattle.sled_core.proofs.Sealed.Zeros.{begin_zeros}

-- the first of buffers isn't written
first_not : (bs : List Sealed) → FirstUnwritten bs → (b : Sealed) (rest : List Sealed) → bs ≡ b ∷ rest → b.is_written ≡ false
first_not [] fresh b rest is = absurd (let never : ⊥ = cc in never)
first_not (x ∷ xs) fresh b rest is = let one : x ≡ b = cc in subst (λ (y : Sealed). y.is_written ≡ false) one fresh

pub slot_of_segment : (sum : List ℕ → ℕ) (size : ℕ) (Header : ℕ → List ℕ → Type 0) (Own : ℕ → ℕ → List ℕ → Type 0) → NoHeaderOfZeros sum → 32 ≤ size → (log : List ℕ) (site : SegmentPosition) (slot from : ℕ) (rs : List Reserved) (bs : List Sealed) (bytes : List ℕ)
    → site.slot ≡ slot * size → FirstUnwritten bs → AreSealed from rs bs → All (IsLong size) rs → Laid log site.slot bytes from bs size → (0 < from → HasHeader sum log site) → IsOwnSegment sum size Header Own log site from bs → HasOwnSlot sum size Header Own log slot
slot_of_segment sum size Header Own none big log site slot from rs bs bytes lies fresh are long there header own =
    let laid : Laid log (slot * size) bytes from bs size = subst (λ n. Laid log n bytes from bs size) lies there in
    elim (cases_lt 0 from) [
      | inl some ↦ (
          let had = header some in
          let range : IsOwnRange sum size Header Own (site.place / size) (slot * size) (part log (slot * size) size) 0 from = subst (λ n. IsOwnRange sum size Header Own (site.place / size) n (part log n size) 0 from) lies (own.front some) in
          let begun = range.rises in
          slot_of_range sum size Header Own big log slot site.place from (λ room. zero_behind log (slot * size) bytes size from rs bs begun room long (first_not bs fresh) are laid) range had.mark
          (subst (λ n. IsHeader sum (part log n 20) (pos site.place) had.mark) lies had.header))
      | inr begins ↦ slot_unbegun sum size Header Own log slot none (begin_zeros log (slot * size) bytes from bs rs size fresh are (omega (arith, big)) laid (omega (arith, begins)))
    ]
