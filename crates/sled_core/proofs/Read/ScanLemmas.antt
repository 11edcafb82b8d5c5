-- Paths of records that are met in a segment.
use Rattle.std.proofs.Common.{◌≡◌, ◌∙◌, ◌+◌, ◌/◌, ◌≤◌, ◌<◌, ℕ, List, [], ◌∷◌, ◌++◌, ap, subst, arith, ◌%◌, ◌*◌}
use Rattle.sled_core.specs.declared.iterator.scan.ScannedRecord.{ScannedRecord}
use Rattle.std.proofs.Math.Nat.{mod-add-div'}
use Rattle.std.proofs.lemmas.Nat.{mod-mul-add, div-mul-add}
use Rattle.sled_core.specs.declared.iterator.scan.ScanEnd.{ScanEnd}
use Rattle.sled_core.specs.declared.iterator.scan.ScanEnd.TheVariants.{Full, Capped, Broken}
use Rattle.sled_core.specs.Scan.{IsMet, IsPath, EndsThere, IsEnd}
use Rattle.sled_core.proofs.Read.ReadingLemmas.{header_some, laid_of}

-- a record that is met is not shorter than a header, and lies in its slot
pub met_fits : (sum : List ℕ → ℕ) (size : ℕ) (log : List ℕ) (lid number : ℕ) (m : ScannedRecord) → IsMet sum size log lid number m → (8 ≤ m.len) × (lid % size + m.len ≤ size)
unfolding IsMet
met_fits sum size log lid number m met =
    let stands = met.2 in
    let some = header_some stands.header met.0 stands.spelled in
    let long = (laid_of sum size log lid number met.0 met.1 m.len stands).1 in
    (omega (arith, some, long), stands.in_slot)

module _ (sum : List ℕ → ℕ) (size : ℕ) (log : List ℕ) (slot place : ℕ) where
  -- one more record at the end of a path
  pub one_more : (at : ℕ) (ms : List ScannedRecord) (mid : ℕ) (m : ScannedRecord) → IsPath sum size log slot place at ms mid → mid + 32 ≤ size → m.place ≡ place + mid → IsMet sum size log (slot + mid) (place / size) m
      → IsPath sum size log slot place at (ms ++ m ∷ []) (mid + m.len)
  one_more at [] mid m path room at_place met =
      (subst (λ k. k + 32 ≤ size) path room, at_place ∙ ap (λ k. place + k) path, subst (λ k. IsMet sum size log (slot + k) (place / size) m) path met, ap (λ k. k + m.len) path)
  one_more at (x ∷ ms) mid m path room at_place met = (path.0, path.1, path.2, one_more (at + x.len) ms mid m path.3 room at_place met)

-- an offset in a slot that begins at a multiple of its size
pub aligned_offset : (slot at size : ℕ) → slot % size ≡ 0 → at < size → (slot + at) % size ≡ at
aligned_offset slot at size aligned below =
    let whole : slot ≡ slot / size * size = omega (arith, mod-add-div' slot size, aligned) in
    ap (λ n. (n + at) % size) whole ∙ mod-mul-add (slot / size) size at below

-- and its segment's number is that of the place at which the segment begins
pub aligned_number : (place at size : ℕ) → place % size ≡ 0 → at < size → (place + at) / size ≡ place / size
aligned_number place at size aligned below =
    let whole : place ≡ place / size * size = omega (arith, mod-add-div' place size, aligned) in
    ap (λ n. (n + at) / size) whole ∙ div-mul-add (place / size) size at below

-- the reading ends where it finds no record to go on with
pub ends_here : (sum : List ℕ → ℕ) (size : ℕ) (log : List ℕ) (slot place at : ℕ) (why : ScanEnd) → at + 32 ≤ size → EndsThere sum size log (slot + at) (place / size) why → IsEnd sum size log slot place at why
unfolding EndsThere
ends_here sum size log slot place at Full room ends = absurd ends
ends_here sum size log slot place at Capped room ends = (room, ends)
ends_here sum size log slot place at Broken room ends = (room, ends)
