-- Behind a write of one buffer come those that were written before it: where records may begin, and where the reading ends.
use Rattle.std.proofs.Common.{◌≡◌, ◌≤◌, ◌<◌, ◌+◌, ◌/◌, ℕ, zero, suc, max, Bool, true, false, nat_lt, if◌then◌else◌, List, [], ◌∷◌, ◌++◌, take, get_or, arith, refl, subst, inl, inr}
use Rattle.std.specs.List.{All}
use Rattle.std.proofs.lemmas.Bool.Decides.{nat_tests}
use Rattle.sled_core.specs.declared.iobuf.Reserved.{Reserved}
use Rattle.sled_core.specs.declared.iobuf.Sealed.{Sealed}
use Rattle.sled_core.specs.declared.iobuf.SegmentPosition.{SegmentPosition}
use Rattle.sled_core.specs.declared.iterator.scan.ScannedRecord.{ScannedRecord}
use Rattle.sled_core.specs.declared.iterator.scan.ScanEnd.TheVariants.{Full, Broken}
use Rattle.sled_core.specs.inside.Buffers.{IsChain}
use Rattle.sled_core.specs.Scan.{IsMet, IsPath, IsEnd, EndsThere}
use Rattle.sled_core.specs.inside.SealedBuffers.{AreSealed, LaidOne, Laid}
use Rattle.sled_core.proofs.Read.PathLemmas.{zeros_empty}
use Rattle.sled_core.proofs.Reached.BufferPath.{ending_at}
use Rattle.sled_core.proofs.Reserve.Entries.{IsLong}
use Rattle.sled_core.proofs.Reserve.Ranges.{chain_grows}
use Rattle.sled_core.proofs.Torn.TornRecords.{long_enough}
use Rattle.sled_core.proofs.Torn.WrittenParts.{path_rises}
use Rattle.sled_core.proofs.Torn.WrittenRecords.{AreClear}

-- records behind the write
pub clear_behind : (sum : List ℕ → ℕ) (size : ℕ) (log : List ℕ) (slot place until from : ℕ) (ms : List ScannedRecord) (next : ℕ) → until ≤ from → IsPath sum size log slot place from ms next → AreClear size until from ms
clear_behind sum size log slot place until from [] next behind path = λ room. inr behind
clear_behind sum size log slot place until from (m ∷ ms) next behind path = ((λ room. inr behind), clear_behind sum size log slot place until (from + m.len) ms next (omega (arith, behind)) path.3)

-- records up to its end, and others behind it
pub clear_on : (sum : List ℕ → ℕ) (size : ℕ) (log : List ℕ) (slot place until from : ℕ) (ms more : List ScannedRecord) → IsPath sum size log slot place from ms until → AreClear size until until more → AreClear size until from (ms ++ more)
unfolding IsMet
clear_on sum size log slot place until from [] more path rest = subst (λ n. AreClear size until n more) path rest
clear_on sum size log slot place until from (m ∷ ms) more path rest =
    let (h, body, stands, says) = path.2 in
    let some = long_enough sum size log (slot + from) (place / size) h body m.len stands in
    let up = path_rises sum size log slot place (from + m.len) ms until path.3 in
    ((λ room. inl (omega (arith, some, up))), clear_on sum size log slot place until (from + m.len) ms more path.3 rest)

-- the first one of a beginning
pub first_of : (P : Reserved → Type 0) (n : ℕ) (xs : List Reserved) (r : Reserved) (more : List Reserved) → take n xs ≡ r ∷ more → All P xs → P r
first_of P zero xs r more is all = absurd (let never : ⊥ = cc in never)
first_of P (suc n) [] r more is all = absurd (let never : ⊥ = cc in never)
first_of P (suc n) (x ∷ xs) r more is all = let same : x ≡ r = cc in subst P same (all 0 x (omega arith))

-- a buffer behind the header is longer than the sum and the kind of a record, where the longest header has room
pub own_long : (size from : ℕ) (own : List Reserved) (end : ℕ) → 20 ≤ from → from + 32 ≤ size → from < end → IsChain (max 20 from) own end → ((r : Reserved) (more : List Reserved) → own ≡ r ∷ more → IsLong size r) → from + 5 ≤ end
own_long size from [] end begun room rises chain long = absurd (omega (arith, chain, rises, begun))
own_long size from (r ∷ more) end begun room rises chain long =
    let up = chain_grows (max 20 from + r.len) end more chain.1 in
    let at = chain.0 in
    elim (long r more refl) [ inl some ↦ omega (arith, some, up) | inr ends ↦ omega (arith, ends, at, up, room) ]

-- Where the first buffer isn't written, or there is none, a record that begins there would have a kind of zero.
pub zero_behind : (log : List ℕ) (slot : ℕ) (bytes : List ℕ) (size from : ℕ) (rs : List Reserved) (bs : List Sealed) → 20 ≤ from → from + 32 ≤ size → All (IsLong size) rs
    → ((b : Sealed) (rest : List Sealed) → bs ≡ b ∷ rest → b.is_written ≡ false) → AreSealed from rs bs → Laid log slot bytes from bs size → get_or log (slot + from + 4) 0 ≡ 0
zero_behind log slot bytes size from rs [] begun room long fresh are laid = laid (slot + from + 4) (omega arith) (omega (arith, room))
zero_behind log slot bytes size from rs (b ∷ bs) begun room long fresh are laid =
    let zeros : LaidOne log slot bytes from false b.end = subst (λ (o : Bool). LaidOne log slot bytes from o b.end) (fresh b bs refl) laid.0 in
    let far = own_long size from (take b.count rs) b.end begun room are.0.rises are.0.chain (λ r more is. first_of (IsLong size) b.count rs r more is long) in
    zeros (slot + from + 4) (omega arith) (omega (arith, far))

-- So the reading ends there, for want of room or of a record.
pub run_ends : (sum : List ℕ → ℕ) (log : List ℕ) (site : SegmentPosition) (bytes : List ℕ) (size from : ℕ) (rs : List Reserved) (bs : List Sealed) → 20 ≤ from → All (IsLong size) rs
    → ((b : Sealed) (rest : List Sealed) → bs ≡ b ∷ rest → b.is_written ≡ false) → AreSealed from rs bs → Laid log site.slot bytes from bs size → IsEnd sum size log site.slot site.place from (ending_at size from)
unfolding EndsThere
run_ends sum log site bytes size from rs bs begun long fresh are laid = by_test (nat_lt size (from + 32)) refl where
  by_test : (o : Bool) → nat_lt size (from + 32) ≡ o → IsEnd sum size log site.slot site.place from (if o then Full else Broken)
  by_test true is = grind (arith, nat_tests, is)
  by_test false is =
      let room : from + 32 ≤ size = grind (arith, nat_tests, is) in
      (room, zeros_empty sum size log (site.slot + from) (site.place / size) (zero_behind log site.slot bytes size from rs bs begun room long fresh are laid))
