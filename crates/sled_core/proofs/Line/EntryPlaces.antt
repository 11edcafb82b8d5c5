-- Where an entry of a segment begins: within it, and where it isn't written yet.
use Rattle.std.proofs.Common.{◌≡◌, ◌≤◌, ◌<◌, ◌+◌, ◌*◌, ℕ, zero, suc, max, List, [], ◌∷◌, length, Some, refl, ap, arith}
use Rattle.std.specs.List.{slice_get}
use Rattle.std.proofs.Math.Nat.{suc-mul}
use Rattle.sled_core.specs.Begun.{SegmentView}
use Rattle.sled_core.specs.declared.iobuf.Reserved.{Reserved}
use Rattle.sled_core.specs.inside.Buffers.{IsChain, IsHeaded}
use Rattle.sled_core.specs.inside.Fits.{written_to}
use Rattle.sled_core.proofs.Holds.Facts.{IsSegment}
use Rattle.sled_core.proofs.Reserve.Ranges.{at_there, chain_within}
use Rattle.sled_core.proofs.Sealed.Around.{whole_chain}
use Rattle.sled_core.proofs.Sealed.Ended.{ends_up}

-- all entries of a segment are one chain
pub segment_chain : {size place : ℕ} (v : SegmentView) → IsSegment size place v → IsChain (max 20 v.parts.written_len) v.parts.reserved (length v.parts.bytes)
segment_chain v facts = whole_chain v.parts.written_len v.parts.reserved v.parts.sealed (length v.parts.bytes) facts.are facts.chain

-- an entry begins in its segment
pub entry_low : {size place : ℕ} (v : SegmentView) (i : ℕ) (r : Reserved) → IsSegment size place v → slice_get v.parts.reserved i ≡ Some r → r.from < size
entry_low v i r facts there =
    let inside = at_there (λ (x : Reserved). x.from + x.len ≤ length v.parts.bytes) v.parts.reserved i r there facts.within in
    let headed = at_there IsHeaded v.parts.reserved i r there facts.headed in
    let some = headed.0 in let short = facts.short in
    omega (arith, inside, some, short)

-- It begins where nothing is written yet.
module _ (size : ℕ) (v : SegmentView) (i : ℕ) (r : Reserved) (at : slice_get v.parts.reserved i ≡ Some r) {own_place : ℕ}
    (own_facts : IsSegment size own_place v) where
  pub line_unwritten : (line : List SegmentView) (n place : ℕ) → slice_get line n ≡ Some v →
      ((k : ℕ) (x : SegmentView) → slice_get line k ≡ Some x → IsSegment size (place + k * size) x) → written_to line ≤ v.parts.site.place + r.from
  line_unwritten [] n place there facts = cc
  line_unwritten (w ∷ ws) zero place there facts =
      let same : w ≡ v = cc in
      let inside = at_there (λ (z : Reserved). (max 20 v.parts.written_len ≤ z.from) × (z.from + z.len ≤ length v.parts.bytes)) v.parts.reserved i r at
      (chain_within (max 20 v.parts.written_len) (length v.parts.bytes) v.parts.reserved (segment_chain v own_facts)) in
      let begins = ap (λ (x : SegmentView). x.parts.site.place + x.parts.written_len) same in
      omega (arith, inside.0, begins)
  line_unwritten (w ∷ ws) (suc k) place there facts =
      let first = facts zero w refl in
      let its = facts (suc k) v there in
      let one = first.at in
      let other = its.at in
      let low = ends_up w.parts.written_len w.parts.reserved w.parts.sealed first.are in
      let high = first.begins in
      let short = first.short in
      omega (arith, one, other, low, high, short, suc-mul k size)
