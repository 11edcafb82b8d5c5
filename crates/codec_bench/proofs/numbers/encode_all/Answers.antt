-- No number takes more than nine bytes.
use Rattle.std.proofs.Common.{◌≤◌, ◌<◌, ◌^◌, ℕ, length, slice_index_or, rules, arith}
use Rattle.sled_codec.specs.Spelling.{short_number}
use Rattle.sled_codec.specs.SpellingLaws.{length-short_number}
use Rattle.codec_bench.proofs.numbers.encode_all.Goals as goal

pub serialize_into-at-requires-clause-room : goal.serialize_into-at-requires-clause-room
serialize_into-at-requires-clause-room c =
    let v : ℕ = slice_index_or c.args.values.now c.loop-value.value-index 0 in
    let small : v < 2 ^ 64 = search rules in
    let short : length (short_number v) ≤ 9 = (length-short_number v small).1 in
    omega arith
