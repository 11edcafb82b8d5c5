-- The bytes are the sum, the code of the kind, and the item behind it.
use Rattle.std.proofs.Common.{◌≡◌, ◌<◌, ◌∙◌, ◌++◌, ℕ, List, length, take, drop, sym, ap, arith, rules, length-drop}
use Rattle.std.proofs.lemmas.List.{take-append-drop}
use Rattle.sled_codec.specs.Spelling.{low_bytes}
use Rattle.sled_oracle.proofs.OwnBlobs.{blob_behind_sum}
use Rattle.sled_oracle.proofs.own.blob_code.Goals as goal

pub returns-clause-found : goal.returns-clause-found
returns-clause-found g c =
    let bytes : List ℕ = c.args.bytes.now in
    let rest : List ℕ = c.split_at.result.1.now in
    let front : c.split_at.result.0.now ≡ take 4 bytes = c.split_at.ensures.front in
    let back : rest ≡ drop 4 bytes = c.split_at.ensures.back in
    let head : c.split_at.result.0.now ≡ c.as_slice.result.now = search rules in
    let low : take 4 bytes ≡ low_bytes 4 (g.C.Checksum.sum_of rest) = sym front ∙ head ∙ c.as_slice.ensures ∙ c.to_le_bytes.ensures ∙ ap (low_bytes 4) c.sum.ensures in
    let is : bytes ≡ low_bytes 4 (g.C.Checksum.sum_of rest) ++ rest = sym (take-append-drop 4 bytes) ∙ ap (λ (l : List ℕ). l ++ drop 4 bytes) low ∙ ap (λ (l : List ℕ). low_bytes 4 (g.C.Checksum.sum_of rest) ++ l) (sym back) in
    let some : 0 < length rest = omega (arith, c.if-bytes-lt5.false, ap length back, length-drop 4 bytes) in
    (drop 1 rest, blob_behind_sum g.C.Checksum.sum_of bytes rest some is)
