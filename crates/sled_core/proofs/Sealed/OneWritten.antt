-- One of the sealed buffers is written: the file has its bytes, and of all others what it had.
use Rattle.std.proofs.Common.{◌≡◌, ◌≤◌, ◌<◌, ◌+◌, ◌-◌, ◌⊎◌, ◌∙◌, ℕ, List, [], ◌∷◌, ◌++◌, length, take, drop, get_or, sym, ap, arith, subst, inl, inr, length-drop, length-take}
use Rattle.std.proofs.lemmas.Bool.{cases_lt}
use Rattle.std.proofs.lemmas.List.{drop-drop, get_or-drop, get_or-take, get_or_past}
use Rattle.sled_store.specs.Device.{overwritten}
use Rattle.sled_store.proofs.LogFile.LooseLemmas.{end_of-some}
use Rattle.sled_store.proofs.LogFile.OverwrittenLemmas.{length-overwritten, overwritten-above, overwritten-below, overwritten-part}
use Rattle.sled_core.specs.declared.iobuf.Reserved.{Reserved}
use Rattle.sled_core.specs.declared.iobuf.Sealed.{Sealed}
use Rattle.sled_core.specs.inside.SealedBuffers.{IsSealed, AreSealed, Agrees, Laid, now_written}
use Rattle.sled_core.specs.SealedBuffers.{sealed_end, sealed_count, bytes_between}
use Rattle.sled_core.proofs.Reached.WrittenUnread.{zero_below}
use Rattle.sled_core.proofs.Sealed.LaidLemmas.{EndsRise, ends_below, laid_written}

-- Outside of a write a file is what it was.
pub overwritten_beside : (old : List ℕ) (at : ℕ) (xs : List ℕ) (i : ℕ) → 0 < length xs → (i < at) ⊎ (at + length xs ≤ i) → get_or (overwritten old at xs) i 0 ≡ get_or old i 0
overwritten_beside old at xs i some (inr behind) = overwritten-above old at xs i (omega (arith, behind, end_of-some at (length xs) some))
overwritten_beside old at xs i some (inl before) = elim (cases_lt i (length old)) [
  | inl inside ↦ overwritten-below old at xs i before inside
  | inr past ↦ (let none = get_or_past old i 0 past in zero_below old at xs i before none ∙ sym none)
]

-- and in it it has what was written
pub overwritten_inside : (old : List ℕ) (at : ℕ) (xs : List ℕ) (k : ℕ) → k < length xs → get_or (overwritten old at xs) (at + k) 0 ≡ get_or xs k 0
overwritten_inside old at xs k below =
    sym (get_or-drop at (overwritten old at xs) k 0)
    ∙ sym (get_or-take (length xs) (drop at (overwritten old at xs)) k 0 below)
    ∙ ap (λ (l : List ℕ). get_or l k 0) (overwritten-part old at xs)

-- the bytes of a buffer are as many as lie between its ends
pub length-between : (bytes : List ℕ) (from to : ℕ) → to ≤ length bytes → length (bytes_between bytes from to) ≡ to - from
length-between bytes from to inside = length-drop from (take to bytes) ∙ ap (λ n. n - from) (let long : length (take to bytes) ≡ to = omega (arith, length-take to bytes, inside) in long)

-- the parts of a list of buffers around one of them
pub sealed_at : (from : ℕ) (rs : List Reserved) (front : List Sealed) (b : Sealed) (rest : List Sealed) → AreSealed from rs (front ++ b ∷ rest)
    → IsSealed (sealed_end from front) (take b.count (drop (sealed_count front) rs)) b
sealed_at from rs [] b rest are = are.0
sealed_at from rs (x ∷ xs) b rest are =
    subst (λ (l : List Reserved). IsSealed (sealed_end x.end xs) (take b.count l) b) (drop-drop (sealed_count xs) x.count rs) (sealed_at x.end (drop x.count rs) xs b rest are.1)

-- Once it is written, they are as they were but for that.
pub sealed_written : (from : ℕ) (rs : List Reserved) (front : List Sealed) (b : Sealed) (rest : List Sealed) → b.open_count ≡ 0 → AreSealed from rs (front ++ b ∷ rest) → AreSealed from rs (front ++ now_written b ∷ rest)
sealed_written from rs [] b rest none are =
    (record { rises = are.0.rises; chain = are.0.chain; counted = are.0.counted; still_open = are.0.still_open; ended = λ is. none }, are.1)
sealed_written from rs (x ∷ xs) b rest none are = (are.0, sealed_written x.end (drop x.count rs) xs b rest none are.1)

pub rises_at : (from : ℕ) (front : List Sealed) (b : Sealed) (rest : List Sealed) (to : ℕ) → EndsRise from (front ++ b ∷ rest) to → (from ≤ sealed_end from front) × (sealed_end from front < b.end) × (b.end ≤ to)
rises_at from [] b rest to rise = let below = ends_below b.end rest to rise.1 in (omega arith, rise.0, omega (arith, below.0, below.1))
rises_at from (x ∷ xs) b rest to rise = let on = rises_at x.end xs b rest to rise.1 in let here = rise.0 in (omega (arith, here, on.0), on.1, on.2)

module _ (old : List ℕ) (slot : ℕ) (bytes : List ℕ) (from : ℕ) (front : List Sealed) (b : Sealed) (rest : List Sealed) (to : ℕ) (rise : EndsRise from (front ++ b ∷ rest) to) (inside : b.end ≤ length bytes) where
  -- where it begins
  abbrev at : ℕ
  at = sealed_end from front

  abbrev asked : List ℕ
  asked = bytes_between bytes at b.end

  abbrev new : List ℕ
  new = overwritten old (slot + at) asked

  lies : (from ≤ at) × (at < b.end) × (b.end ≤ to)
  lies = rises_at from front b rest to rise

  pub long : at + length asked ≡ b.end
  long = let l = length-between bytes at b.end inside in let up = lies.1 in omega (arith, l, up)

  some : 0 < length asked
  some = let l = long in let up = lies.1 in omega (arith, l, up)

  pub grown : length old ≤ length new
  grown = omega (arith, length-overwritten old (slot + at) asked)

  pub has_written : Agrees new slot bytes at b.end
  has_written = record {
    same = λ i above below. (
        let k : ℕ = i - at in
        let there : at + k ≡ i = omega (arith, above) in
        let in_file : slot + at + k ≡ slot + i = omega (arith, there) in
        let l = long in
        ap (λ n. get_or new n 0) (sym in_file) ∙ overwritten_inside old (slot + at) asked k (omega (arith, l, there, below))
        ∙ get_or-drop at (take b.end bytes) k 0 ∙ ap (λ n. get_or (take b.end bytes) n 0) there ∙ get_or-take b.end bytes i 0 below);
    in_file = (let l = long in omega (arith, l, length-overwritten old (slot + at) asked, end_of-some (slot + at) (length asked) some));
    in_bytes = inside;
  }

  pub laid_new : Laid old slot bytes from (front ++ b ∷ rest) to → Laid new slot bytes from (front ++ now_written b ∷ rest) to
  laid_new = laid_written slot old new bytes from front b rest to rise grown
      (λ i above how. let l = long in overwritten_beside old (slot + at) asked (slot + i) some (elim how [ inl before ↦ inl (omega (arith, before)) | inr behind ↦ inr (omega (arith, behind, l)) ])) has_written
