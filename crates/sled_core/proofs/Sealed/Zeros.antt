-- Where the log file has zeros beside the buffers of a segment that were written.
use Rattle.std.proofs.Common.{◌≡◌, ◌≤◌, ◌+◌, ℕ, Bool, false, List, [], ◌∷◌, max, take, subst, arith}
use Rattle.sled_core.specs.declared.iobuf.Reserved.{Reserved}
use Rattle.sled_core.specs.declared.iobuf.Sealed.{Sealed}
use Rattle.sled_core.specs.inside.SealedBuffers.{AreSealed, FirstUnwritten, Laid, LaidOne}
use Rattle.sled_core.specs.SealedBuffers.{AreZeros}
use Rattle.sled_core.proofs.Reserve.Ranges.{chain_grows}

-- The first buffer isn't written, so where it lies the file has zeros.
pub fresh_zeros : (log : List ℕ) (slot : ℕ) (bytes : List ℕ) (from : ℕ) (b : Sealed) (bs : List Sealed) (to : ℕ) → b.is_written ≡ false → Laid log slot bytes from (b ∷ bs) to → AreZeros log (slot + from) (slot + b.end)
fresh_zeros log slot bytes from b bs to fresh laid = let zeros : LaidOne log slot bytes from false b.end = subst (λ (o : Bool). LaidOne log slot bytes from o b.end) fresh laid.0 in zeros

-- Where nothing was written of the segment, the file has zeros for its header.
pub begin_zeros : (log : List ℕ) (slot : ℕ) (bytes : List ℕ) (from : ℕ) (bs : List Sealed) (rs : List Reserved) (to : ℕ) → FirstUnwritten bs → AreSealed from rs bs → 20 ≤ to → Laid log slot bytes from bs to
    → from ≡ 0 → AreZeros log slot (slot + 20)
begin_zeros log slot bytes from [] rs to fresh are long laid none = λ i above below. laid i (omega (arith, above, none)) (omega (arith, below, long))
begin_zeros log slot bytes from (b ∷ bs) rs to fresh are long laid none =
    let zeros = fresh_zeros log slot bytes from b bs to fresh laid in
    let grows = chain_grows (max 20 from) b.end (take b.count rs) are.0.chain in
    λ i above below. zeros i (omega (arith, above, none)) (omega (arith, below, grows))
