-- A segment of which all bytes are on the device has no sealed buffer and no reservation left.
use Rattle.std.proofs.Common.{◌≡◌, ◌+◌, ◌≤◌, ◌<◌, ap, arith, ℕ, zero, suc, List, [], ◌∷◌, length, max, drop, subst}
use Rattle.std.specs.List.{All}
use Rattle.sled_core.specs.declared.iobuf.IoBuf.{IoBuf}
use Rattle.sled_core.specs.declared.iobuf.Reserved.{Reserved}
use Rattle.sled_core.specs.declared.iobuf.Sealed.{Sealed}
use Rattle.sled_core.specs.inside.Buffers.{IsChain, IsHeaded}
use Rattle.sled_core.specs.inside.SealedBuffers.{AreSealed}
use Rattle.sled_core.specs.SealedBuffers.{sealed_count, sealed_end}
use Rattle.sled_core.proofs.Reserve.Ranges.{chain_grows}
use Rattle.sled_core.proofs.Sealed.Ended.{ends_up}

-- Each sealed buffer ends behind where it begins.
none_sealed : (from : ℕ) (rs : List Reserved) (bs : List Sealed) → AreSealed from rs bs → sealed_end from bs ≤ from → length bs + sealed_count bs ≡ 0
none_sealed from rs [] are low = omega arith
none_sealed from rs (x ∷ xs) are low = absurd (let up = ends_up x.end (drop x.count rs) xs are.1 in let rises = are.0.rises in omega (arith, up, rises, low))

-- Each reservation does too.
none_reserved : (from end : ℕ) (rs : List Reserved) → All IsHeaded rs → IsChain from rs end → end ≤ from → length rs ≡ 0
none_reserved from end [] headed chain low = omega arith
none_reserved from end (r ∷ rs) headed chain low =
    absurd (let some = (headed zero r (omega arith)).0 in let grows = chain_grows (from + r.len) end rs chain.1 in omega (arith, some, grows, low))

pub spent : (b : IoBuf) → length b.bytes.items ≤ b.written_len → length b.reserved.items + length b.sealed.items ≡ 0
spent b all =
    let begins = b.begins in
    let behind = b.behind in
    let before = b.before in
    let none = none_sealed b.written_len b.reserved.items b.sealed.items b.are (omega (arith, begins, behind, all)) in
    let begun : b.written_len ≤ b.begin = (let up = ends_up b.written_len b.reserved.items b.sealed.items b.are in omega (arith, up, begins)) in
    let first : b.first ≡ 0 = omega (arith, before, none) in
    let chain : IsChain (max 20 b.begin) b.reserved.items (length b.bytes.items) =
    subst (λ n. IsChain (max 20 b.begin) (drop n b.reserved.items) (length b.bytes.items)) first b.chain in
    let left = none_reserved (max 20 b.begin) (length b.bytes.items) b.reserved.items b.headed chain (omega (arith, begun, all)) in
    omega (arith, none, left)
