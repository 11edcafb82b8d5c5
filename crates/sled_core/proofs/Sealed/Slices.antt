-- Slices of a segment's bytes, and the calls that write them.
use Rattle.std.proofs.Common.{◌≡◌, ◌∙◌, ◌+◌, ◌-◌, ◌≤◌, ℕ, zero, suc, List, [], ◌∷◌, take, drop, Some, ap, sym, subst, arith}
use Rattle.std.specs.List.{slice_get}
use Rattle.std.proofs.lemmas.List.{drop-take}
use Rattle.sled_core.specs.declared.iobuf.Sealed.{Sealed}
use Rattle.sled_core.specs.SealedBuffers.{bytes_between, sealed_end}
use Rattle.sled_core.proofs.Sealed.LaidLemmas.{EndsRise, ends_below}

-- those between two offsets, as a slice has them
pub slice_between : (whole items : List ℕ) (from to : ℕ) → from ≤ to → whole ≡ items → take (to - from) (drop from whole) ≡ bytes_between items from to
slice_between whole items from to le same =
    let at : from + (to - from) ≡ to = omega (arith, le) in
    sym (drop-take from (to - from) whole) ∙ ap (λ n. drop from (take n whole)) at ∙ ap (λ (l : List ℕ). bytes_between l from to) same

-- the buffers up to one of them end where it does
pub end_to : (from : ℕ) (bs : List Sealed) (k : ℕ) (b : Sealed) → slice_get bs k ≡ Some b → sealed_end from (take (k + 1) bs) ≡ b.end
end_to from bs k b there = ap (λ n. sealed_end from (take n bs)) (let one : k + 1 ≡ suc k = omega arith in one) ∙ end_at from bs k b there
  where
    end_at : (from : ℕ) (bs : List Sealed) (k : ℕ) (b : Sealed) → slice_get bs k ≡ Some b → sealed_end from (take (suc k) bs) ≡ b.end
    end_at from [] zero b there = cc
    end_at from [] (suc k) b there = cc
    end_at from (x ∷ bs) zero b there = let same : x ≡ b = cc in ap (λ (y : Sealed). y.end) same
    end_at from (x ∷ bs) (suc k) b there = end_at x.end bs k b there

-- and lie within what lies behind the last one
pub span_within : (from : ℕ) (bs : List Sealed) (k : ℕ) (to : ℕ) → EndsRise from bs to → (sealed_end from (take k bs) ≤ sealed_end from (take (k + 1) bs)) × (sealed_end from (take (k + 1) bs) ≤ to)
span_within from bs k to rise = subst (λ n. (sealed_end from (take k bs) ≤ sealed_end from (take n bs)) × (sealed_end from (take n bs) ≤ to)) (let one : suc k ≡ k + 1 = omega arith in one) (within from bs k to rise)
  where
    within : (from : ℕ) (bs : List Sealed) (k : ℕ) (to : ℕ) → EndsRise from bs to → (sealed_end from (take k bs) ≤ sealed_end from (take (suc k) bs)) × (sealed_end from (take (suc k) bs) ≤ to)
    within from [] zero to rise = (omega arith, rise)
    within from [] (suc k) to rise = (omega arith, rise)
    within from (b ∷ bs) zero to rise = let low = rise.0 in let rest = ends_below b.end bs to rise.1 in (omega (arith, low), omega (arith, rest.0, rest.1))
    within from (b ∷ bs) (suc k) to rise = within b.end bs k to rise.1
