-- Turned, the bytes behind the sum are the body and then the rest of the header.
use Rattle.std.proofs.Common.{◌≡◌, ◌∙◌, ap, ℕ, List, ◌+◌, ◌-◌, ◌++◌, length, take, drop, arith, length-drop}
use Rattle.std.proofs.lemmas.List.{take_all, drop-drop}
use Rattle.sled_codec.specs.Sums.{flipped}
use Rattle.sled_oracle.proofs.record.sum_in_place.Goals as goal

pub returns-clause-sum : goal.returns-clause-sum
returns-clause-sum g c =
    let bytes : List ℕ = c.args.bytes.now in
    let behind : List ℕ = drop 4 bytes in
    let n : ℕ = c.args.head - 4 in
    let whole : take (length bytes - 4) behind ≡ behind = take_all (length bytes - 4) behind (omega (arith, length-drop 4 bytes)) in
    let head : 4 + n ≡ c.args.head = omega arith in
    let body : drop n behind ≡ drop c.args.head bytes = drop-drop n 4 bytes ∙ ap (λ k. drop k bytes) head in
    let h = c.rotate_left.ensures.after in
    let s = c.sum-sum.ensures in
    ap flipped (s ∙ ap g.C.Checksum.sum_of (h ∙ ap (λ (l : List ℕ). drop n l ++ take n l) whole ∙ ap (λ (l : List ℕ). l ++ take n behind) body))
