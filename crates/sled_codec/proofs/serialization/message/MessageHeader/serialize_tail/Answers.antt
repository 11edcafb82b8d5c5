-- The code of the kind is written, and each number behind what stands before it.
use Rattle.std.proofs.Common.{◌≡◌, ◌∙◌, ap, List, [], ◌∷◌, ◌++◌, ℕ, ◌+◌, arith, length, length-append}
use Rattle.sled_codec.specs.Kinds.{code_of}
use Rattle.sled_codec.specs.Spelling.{short_number, short_header_tail}
use Rattle.sled_codec.specs.Written.{written, written_twice}
use Rattle.sled_codec.specs.HeaderLaws.{length-short_header_tail}
use Rattle.sled_codec.proofs.serialization.message.MessageHeader.serialize_tail.Goals as goal

pub returns-clause-bytes : goal.returns-clause-bytes
unfolding short_header_tail
returns-clause-bytes c =
    let h = c.args.self.now in
    let buf : List ℕ = c.args.buf.now in
    let at : ℕ = c.args.at in
    let code : List ℕ = code_of h.kind ∷ [] in
    let len : List ℕ = short_number h.len in
    let number : List ℕ = short_number h.segment_number.0 in
    let room = length-short_header_tail h.kind h.len h.segment_number.0 h.pid in
    let one : c.serialize_into-next.new.buf ≡ written buf at code = c.serialize_into-next.ensures.bytes ∙ ap (λ k. written buf at (k ∷ [])) c.from.ensures in
    let two : c.serialize_into-next-2.new.buf ≡ written buf at (code ++ len) =
    c.serialize_into-next-2.ensures.bytes ∙ ap (λ (l : List ℕ). written l c.serialize_into-next.result len) one ∙ written_twice buf at code (omega arith) len _ c.serialize_into-next.ensures.next in
    let long : length (code ++ len) ≡ 1 + length len = length-append code len in
    let three : c.serialize_into-next-3.new.buf ≡ written buf at (code ++ len ++ number) =
    c.serialize_into-next-3.ensures.bytes ∙ ap (λ (l : List ℕ). written l c.serialize_into-next-2.result number) two ∙ written_twice buf at (code ++ len) (omega arith) number _ (omega arith) in
    let longer : length (code ++ len ++ number) ≡ 1 + length len + length number = length-append (code ++ len) number ∙ ap (λ n. n + length number) long in
    c.serialize_into.ensures.bytes ∙ ap (λ (l : List ℕ). written l c.serialize_into-next-3.result (short_number h.pid)) three ∙ written_twice buf at (code ++ len ++ number) (omega arith) (short_number h.pid) _ (omega arith)
