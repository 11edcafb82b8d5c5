-- The current buffer is sealed behind the others.
use Rattle.std.proofs.Common.{◌≡◌, ◌<◌, ◌+◌, ◌-◌, ℕ, max, false, List, [], ◌∷◌, ◌++◌, length, take, drop, sym, ◌∙◌, ap, arith, refl, subst}
use Rattle.std.proofs.lemmas.List.{length-drop, take_all}
use Rattle.sled_core.specs.declared.iobuf.Reserved.{Reserved}
use Rattle.sled_core.specs.declared.iobuf.Sealed.{Sealed}
use Rattle.sled_core.specs.inside.Buffers.{IsChain}
use Rattle.sled_core.specs.Buffers.{open_in}
use Rattle.sled_core.specs.inside.SealedBuffers.{IsSealed, AreSealed, FirstUnwritten}
use Rattle.sled_core.specs.SealedBuffers.{seal_at, sealed_count, sealed_end}
use Rattle.sled_core.proofs.Sealed.Ended.{sealed_one}
pub use Rattle.sled_core.proofs.Sealed.Progress.{end_last as end_one}

pub first_one : (bs : List Sealed) (b : Sealed) → b.is_written ≡ false → FirstUnwritten bs → FirstUnwritten (bs ++ b ∷ [])
first_one [] b fresh first = fresh
first_one (x ∷ xs) b fresh first = first

pub count_one : (bs : List Sealed) (b : Sealed) → sealed_count (bs ++ b ∷ []) ≡ sealed_count bs + b.count
count_one [] b = omega arith
count_one (x ∷ xs) b = omega (arith, count_one xs b)

-- what is sealed, with the numbers that are kept
pub seal_kept : (rs : List Reserved) (first end count waiting n : ℕ) → end ≡ n → count ≡ length rs → waiting ≡ open_in (drop first rs)
    → record { end = end; count = count - first; open_count = waiting; is_written = false } ≡ seal_at n (drop first rs)
seal_kept rs first end count waiting n at all open_yet =
    let own : count - first ≡ length (drop first rs) = omega (arith, all, length-drop first rs) in
    λ i. record { end = at i; count = own i; open_count = open_yet i; is_written = false }

-- It has the reservations behind theirs.
pub seal_are : (from : ℕ) (rs : List Reserved) (bs : List Sealed) (begin first n : ℕ) → AreSealed from rs bs → begin ≡ sealed_end from bs → first ≡ sealed_count bs → begin < n → IsChain (max 20 begin) (drop first rs) n
    → AreSealed from rs (bs ++ seal_at n (drop first rs) ∷ [])
seal_are from rs bs begin first n are at before some chain =
    let own : List Reserved = drop first rs in
    let is : IsSealed begin own (seal_at n own) = record { rises = some; chain = chain; counted = refl; still_open = refl; ended = λ w. absurd (let never : ⊥ = cc in never) } in
    let mine : own ≡ take (length own) (drop (sealed_count bs) rs) = sym (take_all (length own) own (omega arith)) ∙ ap (λ k. take (length own) (drop k rs)) before in
    sealed_one from rs bs (seal_at n own) are (subst (λ (l : List Reserved). IsSealed (sealed_end from bs) l (seal_at n own)) mine (subst (λ k. IsSealed k own (seal_at n own)) at is))
