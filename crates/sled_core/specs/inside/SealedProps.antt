-- What a buffer of a segment keeps of its parts is a proposition: there is one proof of it at most.
use Rattle.std.proofs.Common.{◌+◌, ℕ, max, List, [], ◌∷◌, take, drop, refl}
use Rattle.std.specs.Coded.{coded_bool}
use denote.Struct.Props.{≡_prop}
use native.Mathlib.Nat.{ℕ_set}
use native.Mathlib.Bridge.{le_prop}
use Rattle.sled_core.specs.declared.iobuf.Reserved.{Reserved}
use Rattle.sled_core.specs.declared.iobuf.Sealed.{Sealed}
use Rattle.sled_core.specs.inside.Buffers.{IsChain}
use Rattle.sled_core.specs.inside.SealedBuffers.{IsSealed, AreSealed, FirstUnwritten}

pub IsChain-prop : (from : ℕ) (rs : List Reserved) (end : ℕ) → IsProp (IsChain from rs end)
IsChain-prop from [] end = λ p q. ℕ_set _ _ p q
IsChain-prop from (r ∷ rs) end = λ p q i. (ℕ_set _ _ p.0 q.0 i, IsChain-prop (from + r.len) rs end p.1 q.1 i)

IsSealed-prop : (from : ℕ) (own : List Reserved) (b : Sealed) → IsProp (IsSealed from own b)
IsSealed-prop from own b = λ p q i. record {
  rises = le_prop p.rises q.rises i;
  chain = IsChain-prop (max 20 from) own b.end p.chain q.chain i;
  counted = ℕ_set _ _ p.counted q.counted i;
  still_open = ℕ_set _ _ p.still_open q.still_open i;
  ended = λ is. ℕ_set _ _ (p.ended is) (q.ended is) i;
}

pub AreSealed-prop : (from : ℕ) (rs : List Reserved) (bs : List Sealed) → IsProp (AreSealed from rs bs)
AreSealed-prop from rs [] = λ p q. refl
AreSealed-prop from rs (b ∷ bs) = λ p q i. (IsSealed-prop from (take b.count rs) b p.0 q.0 i, AreSealed-prop b.end (drop b.count rs) bs p.1 q.1 i)

pub FirstUnwritten-prop : (bs : List Sealed) → IsProp (FirstUnwritten bs)
FirstUnwritten-prop [] = λ p q. refl
FirstUnwritten-prop (b ∷ bs) = ≡_prop coded_bool _ _
