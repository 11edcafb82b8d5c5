use Rattle.std.proofs.Common.{◌≡◌, ◌∙◌, take, drop, ap, arith}
use Rattle.std.proofs.lemmas.List.{take_at}
use Rattle.sled_codec.specs.declared.serialization.message.MessageHeader.{MessageHeader}
use Rattle.sled_codec.specs.Spelling.{short_message_header}
use Rattle.sled_core.proofs.Reserve.Heads.{tail_between, length-short_message_header}
use Rattle.sled_core.proofs.iobuf.record.Head.fill.Goals as goal

pub serialize_into-self-requires-clause-room : goal.serialize_into-self-requires-clause-room
serialize_into-self-requires-clause-room c =
    let h : MessageHeader = record { crc32 = 0; kind = c.args.kind; segment_number = c.args.number; pid = c.args.pid; len = c.args.len } in
    let tail = tail_between c.args.kind c.args.len c.args.number.0 c.args.pid (omega arith) (omega arith) (omega arith) in
    omega (arith, length-short_message_header h, tail.1)

pub invariant_of-self : goal.invariant_of-self
invariant_of-self c =
    let h : MessageHeader = record { crc32 = 0; kind = c.args.kind; segment_number = c.args.number; pid = c.args.pid; len = c.args.len } in
    let tail = tail_between c.args.kind c.args.len c.args.number.0 c.args.pid (omega arith) (omega arith) (omega arith) in
    record {
      within = omega (arith, length-short_message_header h, tail.1, c.serialize_into-self.ensures.next);
      long = omega (arith, length-short_message_header h, tail.0, c.serialize_into-self.ensures.next);
    }

pub returns-clause-bytes : goal.returns-clause-bytes
unfolding short_message_header
returns-clause-bytes c =
    let h : MessageHeader = record { crc32 = 0; kind = c.args.kind; segment_number = c.args.number; pid = c.args.pid; len = c.args.len } in
    let front : take c.serialize_into-self.result c.serialize_into-self.new.buf ≡ short_message_header h =
    ap (take c.serialize_into-self.result) c.serialize_into-self.ensures.bytes
    ∙ take_at (short_message_header h) _ c.serialize_into-self.result (omega (arith, c.serialize_into-self.ensures.next)) in
    ap (drop 4) front

pub returns-clause-len : goal.returns-clause-len
returns-clause-len c =
    let h : MessageHeader = record { crc32 = 0; kind = c.args.kind; segment_number = c.args.number; pid = c.args.pid; len = c.args.len } in
    omega (arith, length-short_message_header h, c.serialize_into-self.ensures.next)
