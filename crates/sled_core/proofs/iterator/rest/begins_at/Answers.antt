use Rattle.std.proofs.Common.{◌≡◌, ℕ, pos, List, take, subst}
use Rattle.std.proofs.lemmas.Bool.{eq-eqb, eqb-true}
use Rattle.sled_codec.specs.Record.{IsHeader}
use Rattle.sled_codec.proofs.Segments.{one_header}
use Rattle.sled_core.proofs.iterator.rest.begins_at.Goals as goal

pub returns-in-Some : goal.returns-in-Some
returns-in-Some g c =
    let sum = g.C.Checksum.sum_of in
    let bytes : List ℕ = take 20 c.args.buf.now.buf.items in
    let found = c.in-Some.ensures.found in (
      λ yes. (c.in-Some.segment.mark, subst (λ n. IsHeader sum bytes (pos n) c.in-Some.segment.mark) (eqb-true _ _ yes) found),
      λ own. eq-eqb c.in-Some.segment.place c.args.place (let same : pos c.in-Some.segment.place ≡ pos c.args.place = (one_header sum bytes (pos c.in-Some.segment.place) _ (pos c.args.place) own.0 found own.1).0 in cc),
    )
