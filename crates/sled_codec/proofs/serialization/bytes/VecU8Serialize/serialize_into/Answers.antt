-- The count is written, and the bytes behind it.
use Rattle.std.proofs.Common.{◌≡◌, ◌≤◌, ◌∙◌, ap, List, ℕ, ◌+◌, arith, rules, length}
use Rattle.sled_codec.specs.Spelling.{short_number, short_bytes}
use Rattle.sled_codec.specs.Written.{written, written_twice}
use Rattle.sled_codec.specs.SpellingLaws.{length-short_bytes}
use Rattle.sled_codec.proofs.serialization.bytes.VecU8Serialize.serialize_into.Goals as goal

pub returns-clause-bytes : goal.returns-clause-bytes
unfolding short_bytes
returns-clause-bytes c =
    let bytes : List ℕ = c.args.self.now.items in
    let len : c.len.result ≡ length bytes = search rules in
    let room : c.args.at + length (short_number (length bytes)) ≤ length c.args.buf.now = omega (arith, c.requires.room, length-short_bytes bytes) in
    let next : c.serialize_into-next.result ≡ c.args.at + length (short_number (length bytes)) = c.serialize_into-next.ensures.next ∙ ap (λ n. c.args.at + length (short_number n)) len in
    c.copy_in.ensures.bytes
    ∙ ap (λ (l : List ℕ). written c.serialize_into-next.new.buf c.serialize_into-next.result l) c.deref.ensures.value
    ∙ ap (λ (l : List ℕ). written l c.serialize_into-next.result bytes) (c.serialize_into-next.ensures.bytes ∙ ap (λ n. written c.args.buf.now c.args.at (short_number n)) len)
    ∙ written_twice c.args.buf.now c.args.at (short_number (length bytes)) room bytes c.serialize_into-next.result next
