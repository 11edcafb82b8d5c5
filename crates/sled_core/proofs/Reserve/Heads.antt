-- How long the header of a message is.
use Rattle.std.proofs.Common.{◌≡◌, ◌≤◌, ◌<◌, ◌+◌, ◌^◌, ℕ, ◌++◌, length, arith, length-append}
use Rattle.sled_codec.specs.declared.serialization.message.MessageKind.{MessageKind}
use Rattle.sled_codec.specs.declared.serialization.message.MessageHeader.{MessageHeader}
use Rattle.sled_codec.specs.Spelling.{short_number, short_header_tail, short_message_header}
use Rattle.sled_codec.specs.SpellingLaws.{length-short_number}

pub length-short_header_tail : (kind : MessageKind) (len number page : ℕ) → length (short_header_tail kind len number page) ≡ 1 + length (short_number len) + length (short_number number) + length (short_number page)
unfolding short_header_tail
length-short_header_tail kind len number page = omega (arith, length-append (short_number len ++ short_number number) (short_number page), length-append (short_number len) (short_number number))

-- between four and twenty-eight bytes behind the sum
pub tail_between : (kind : MessageKind) (len number page : ℕ) → len < 2 ^ 64 → number < 2 ^ 64 → page < 2 ^ 64
    → (4 ≤ length (short_header_tail kind len number page)) × (length (short_header_tail kind len number page) ≤ 28)
tail_between kind len number page l n p =
    let a = length-short_number len l in let b = length-short_number number n in let c = length-short_number page p in
    let is = length-short_header_tail kind len number page in
    (omega (arith, is, a.0, b.0, c.0), omega (arith, is, a.1, b.1, c.1))

pub length-short_message_header : (h : MessageHeader) → length (short_message_header h) ≡ 4 + length (short_header_tail h.kind h.len h.segment_number.0 h.pid)
unfolding short_message_header
length-short_message_header h = omega arith
