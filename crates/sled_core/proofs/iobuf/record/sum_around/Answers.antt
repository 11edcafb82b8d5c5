-- What is summed is the body, and the header behind the sum.
use Rattle.std.proofs.Common.{◌≡◌, ◌∙◌, ◌+◌, ◌-◌, ◌≤◌, ℕ, List, ◌++◌, take, drop, ap, sym, arith}
use Rattle.std.proofs.lemmas.List.{drop-drop, take-take}
use Rattle.sled_codec.specs.Places.{part}
use Rattle.sled_core.proofs.Reserve.Parts.{mid_is}
use Rattle.sled_core.proofs.iobuf.record.sum_around.Goals as goal

turned : (bytes : List ℕ) (from head len : ℕ) → 4 ≤ head → head ≤ len
    → drop (head - 4) (take (from + len - (from + 4)) (drop (from + 4) bytes)) ++ take (head - 4) (take (from + len - (from + 4)) (drop (from + 4) bytes)) ≡ part bytes (from + head) (len - head) ++ part bytes (from + 4) (head - 4)
turned bytes from head len headed long =
    let behind : List ℕ = drop (from + 4) bytes in
    let n : ℕ = from + len - (from + 4) in
    let k : ℕ = head - 4 in
    let at : from + 4 + k ≡ from + head = omega arith in
    let count : n - k ≡ len - head = omega arith in
    let body : drop k (take n behind) ≡ part bytes (from + head) (len - head) =
    sym (mid_is behind k n (omega arith)) ∙ ap (take (n - k)) (drop-drop k (from + 4) bytes) ∙ ap (λ i. part bytes i (n - k)) at ∙ ap (part bytes (from + head)) count in
    let tail : take k (take n behind) ≡ part bytes (from + 4) k = take-take k n behind (omega arith) in
    λ i. body i ++ tail i

pub returns-clause-sum : goal.returns-clause-sum
returns-clause-sum g c =
    c.sum-sum.ensures
    ∙ ap g.C.Checksum.sum_of (
    c.rotate_left.ensures.after
    ∙ turned c.deref_mut.result.now c.args.from c.args.header_len c.args.len c.requires.headed c.requires.long
    ∙ ap (λ (l : List ℕ). part l (c.args.from + c.args.header_len) (c.args.len - c.args.header_len) ++ part l (c.args.from + 4) (c.args.header_len - 4)) c.deref_mut.ensures.value)
