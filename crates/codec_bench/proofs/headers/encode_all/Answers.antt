-- No header takes more than thirty-two bytes.
use Rattle.std.proofs.Common.{◌≤◌, length, arith}
use Rattle.sled_codec.specs.declared.serialization.message.MessageHeader.{MessageHeader}
use Rattle.sled_codec.specs.Spelling.{short_number, short_message_header, FitsMessageHeader}
use Rattle.sled_codec.specs.SpellingLaws.{length-short_number}
use Rattle.sled_codec.specs.HeaderLaws.{length-short_message_header, length-short_header_tail}
use Rattle.codec_bench.proofs.headers.encode_all.Goals as goal

header_short : {h : MessageHeader} → FitsMessageHeader h → length (short_message_header h) ≤ 32
header_short {h} fits =
    let len : length (short_number h.len) ≤ 9 = (length-short_number h.len fits.len).1 in
    let number : length (short_number h.segment_number.0) ≤ 9 = (length-short_number h.segment_number.0 fits.number).1 in
    let page : length (short_number h.pid) ≤ 9 = (length-short_number h.pid fits.page).1 in
    omega (arith, length-short_message_header h, length-short_header_tail h.kind h.len h.segment_number.0 h.pid)

pub serialize_into-at-requires-clause-room : goal.serialize_into-at-requires-clause-room
serialize_into-at-requires-clause-room c =
    let short = header_short (c.can_serialize.ensures.0 c.if-not-can_serialize.false) in
    omega (arith, short)
