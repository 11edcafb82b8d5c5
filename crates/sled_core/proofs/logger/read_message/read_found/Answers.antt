use Rattle.std.proofs.Common.{◌≡◌, ◌-◌, ◌≤◌, ◌+◌, ◌∙◌, ℕ, List, ◌++◌, length, take, drop, ap, sym, subst, arith, rules, true}
use Rattle.sled_codec.specs.declared.serialization.message.MessageHeader.{MessageHeader}
use Rattle.sled_codec.specs.Sums.{flipped}
use Rattle.sled_core.specs.Reading.{StandsAt}
use Rattle.sled_core.specs.inside.Reading.{IsFound}
use Rattle.sled_core.proofs.Reserve.Parts.{mid_is}
use Rattle.sled_core.proofs.Read.ReadingLemmas.{laid_of, stands_of, one_head, one_laid, one_text, reading_is, if_ok}
use Rattle.sled_core.proofs.logger.read_message.read_found.Given as given
use Rattle.sled_core.proofs.logger.read_message.read_found.Goals as goal

-- the text behind the sum of the header that was found
tail_is : (head : List ℕ) (len : ℕ) → 8 ≤ len → take (len - 4) (drop 4 head) ≡ drop 4 (take len head)
tail_is head len some = let four : 4 ≤ len = omega (arith, some) in mid_is head 4 len four

pub returns-then-not-passes-clause-reading : goal.returns-then-not-passes-clause-reading
returns-then-not-passes-clause-reading g c = λ size log lid number laid h body len stands.
    let f = c.args.found in
    let header : List ℕ = take f.header_len f.head in
    let other = (laid_of g.C.Checksum.sum_of size log lid number h body len stands).0 in
    let heads = one_head size log lid number stands.header header h f.header body f.body.items other laid in
    let same = one_laid size log lid number stands.header header h f.header body f.body.items other laid in
    let texts = one_text size log lid number stands.header header h f.header body f.body.items other laid in
    let summed : f.header.crc32 ≡ flipped (g.C.Checksum.sum_of (f.body.items ++ take (f.header_len - 4) (drop 4 f.head))) =
    sym (ap (λ (x : MessageHeader). x.crc32) same) ∙ stands.summed
    ∙ ap (λ (l : List ℕ). flipped (g.C.Checksum.sum_of (l ++ drop 4 stands.header))) texts
    ∙ ap (λ (l : List ℕ). flipped (g.C.Checksum.sum_of (f.body.items ++ l))) (ap (drop 4) heads ∙ sym (tail_is f.head f.header_len f.some)) in
    let yes : c.passes.result ≡ true = c.passes.ensures.passes.1 summed in
    let no = c.if-not-passes.true in
    cc

-- What passed stands there.
stands : (g : given.Over) (c : goal.After-reading_of g) (size : ℕ) (log : List ℕ) (lid number : ℕ) (laid : IsFound size log lid number c.args.found)
    → StandsAt g.C.Checksum.sum_of size log lid number c.args.found.header c.passes.new.body.items (c.args.found.header_len + c.len.result)
stands g c size log lid number laid =
    let f = c.args.found in
    let header : List ℕ = take f.header_len f.head in
    let body : List ℕ = c.passes.new.body.items in
    let items : body ≡ f.body.items = c.passes.ensures.body in
    let summed : f.header.crc32 ≡ flipped (g.C.Checksum.sum_of (f.body.items ++ drop 4 header)) =
    c.passes.ensures.passes.0 c.if-not-passes.false ∙ ap (λ (l : List ℕ). flipped (g.C.Checksum.sum_of (f.body.items ++ l))) (tail_is f.head f.header_len f.some) in
    let there = stands_of g.C.Checksum.sum_of size log lid number header f.header f.body.items laid summed in
    let head_long : length header ≡ f.header_len = search rules in
    let len : c.len.result ≡ length f.body.items = c.len.ensures ∙ search rules in
    let lens : length header + length f.body.items ≡ f.header_len + c.len.result = omega (arith, head_long, len) in
    subst (λ (b : List ℕ). StandsAt g.C.Checksum.sum_of size log lid number f.header b (f.header_len + c.len.result)) (sym items)
    (subst (λ n. StandsAt g.C.Checksum.sum_of size log lid number f.header f.body.items n) lens there)

pub returns-clause-reading : goal.returns-clause-reading
returns-clause-reading g c = λ size log lid number laid.
    if_ok c.reading_of.result _ _ (λ r holds. reading_is g.C.Checksum.sum_of size log lid number c.args.found.header c.passes.new.body.items (c.args.found.header_len + c.len.result) r (stands g c size log lid number laid) holds) c.reading_of.ensures.reading
