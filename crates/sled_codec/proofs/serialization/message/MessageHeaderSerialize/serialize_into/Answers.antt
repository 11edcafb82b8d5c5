-- The sum is written, and the rest behind it.
use Rattle.std.proofs.Common.{◌∙◌, ap, List, ℕ, arith}
use Rattle.sled_codec.specs.Spelling.{low_bytes, short_header_tail, short_message_header}
use Rattle.sled_codec.specs.Written.{written, written_twice}
use Rattle.sled_codec.specs.HeaderLaws.{length-short_message_header}
use Rattle.sled_codec.proofs.serialization.message.MessageHeaderSerialize.serialize_into.Goals as goal

pub returns-clause-bytes : goal.returns-clause-bytes
unfolding short_message_header
returns-clause-bytes c =
    let h = c.args.self.now in
    let tail : List ℕ = short_header_tail h.kind h.len h.segment_number.0 h.pid in
    let room = length-short_message_header h in
    c.serialize_tail.ensures.bytes
    ∙ ap (λ (l : List ℕ). written l c.serialize_into-next.result tail) c.serialize_into-next.ensures.bytes
    ∙ written_twice c.args.buf.now c.args.at (low_bytes 4 h.crc32) (omega (arith, c.requires.room)) tail _ c.serialize_into-next.ensures.next
