use Rattle.std.proofs.Common.{◌≡◌, ◌∙◌, ◌+◌, ◌-◌, ◌++◌, ℕ, List, length, take, drop, ap, arith}
use Rattle.sled_codec.specs.Places.{part}
use Rattle.sled_codec.specs.Written.{written}
use Rattle.sled_core.proofs.Read.SummedInPlace.{behind_it, put_back, part_long}
use Rattle.sled_core.proofs.iterator.sums.sum_over.Goals as goal

pub returns-clause-sum : goal.returns-clause-sum
returns-clause-sum g c =
    let bytes : List ℕ = c.args.bytes.now in
    let end : ℕ = c.args.from + c.args.len in
    let at : ℕ = c.args.from + c.args.header_len in
    let long = c.requires.long in
    let short = c.requires.short in
    let headed = c.requires.headed in
    let put : c.put_chunk.new.bytes ≡ written bytes end (part bytes (c.args.from + 4) 32) = c.put_chunk.ensures ∙ ap (written bytes end) c.chunk_at-tail.ensures in
    let count : end - at ≡ c.args.len - c.args.header_len = omega (arith, long) in
    c.sum-sum.ensures
    ∙ ap (λ (l : List ℕ). g.C.Checksum.sum_of (take (end + c.args.header_len - 4 - at) (drop at l))) put
    ∙ ap g.C.Checksum.sum_of (behind_it bytes end 32 c.requires.within at (c.args.from + 4) _ (c.args.header_len - 4) (omega (arith, long)) (omega (arith, headed, long)) (omega (arith, short)) (omega (arith, headed, long))
    ∙ ap (λ n. part bytes at n ++ part bytes (c.args.from + 4) (c.args.header_len - 4)) count)

pub returns-clause-bytes : goal.returns-clause-bytes
returns-clause-bytes g c =
    let bytes : List ℕ = c.args.bytes.now in
    let end : ℕ = c.args.from + c.args.len in
    let chunk : List ℕ = c.chunk_at-tail.result in
    let headed = c.requires.headed in
    let long = c.requires.long in
    let count : length chunk ≡ 32 = ap length c.chunk_at-tail.ensures ∙ part_long bytes end 32 c.requires.within (c.args.from + 4) (omega (arith, headed, long)) in
    c.put_chunk-2.ensures
    ∙ ap (λ (l : List ℕ). written c.put_chunk.new.bytes end l) c.chunk_at-behind.ensures
    ∙ ap (λ (l : List ℕ). written l end (part bytes end 32)) c.put_chunk.ensures
    ∙ put_back bytes end 32 c.requires.within chunk count
