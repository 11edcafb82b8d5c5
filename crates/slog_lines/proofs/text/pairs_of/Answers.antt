-- What is left begins with the digits of a byte, wherever all of the text are the digits of bytes.
use Rattle.std.proofs.Common.{rules, ◌≡◌, ◌<◌, ◌/◌, ◌%◌, [], ◌∷◌, ◌++◌, length, sym, ◌∙◌}
use Rattle.slog_lines.specs.Hex.{digit_of}
use Rattle.slog_lines.proofs.HexLemmas.{begins-with-byte, digits-moved}
use Rattle.slog_lines.proofs.text.pairs_of.Goals as goal

pub returns-in_default-clause-refused : goal.returns-in_default-clause-refused
returns-in_default-clause-refused c =
    let some : 0 < length c.loop-rest.rest.now = search rules in
    λ e b all is.
    begins-with-byte b c.loop-rest.bytes.items c.loop-rest.rest.now all (is ∙ sym c.loop-rest.invariant) some
    (λ x behind below begins. c.split_byte.ensures.refused c.in_default.is x behind below begins)

pub loop-rest-preserved : goal.loop-rest-preserved
loop-rest-preserved c =
    let read : c.loop-rest.rest.now ≡ digit_of (c.in-Some.byte / 16) ∷ digit_of (c.in-Some.byte % 16) ∷ c.in-Some.behind.now = search rules in
    let pushed : c.push.new.self.items ≡ c.loop-rest.bytes.items ++ c.in-Some.byte ∷ [] = search rules in
    rw pushed (digits-moved _ _ _ _ _ c.loop-rest.invariant read)
