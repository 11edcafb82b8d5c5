-- It covers the record, and the walk tells the rest.
use Rattle.std.proofs.Common.{◌≡◌, ◌∙◌, ℕ, List, sym, ap}
use Rattle.sled_oracle.proofs.Walks.AnswerLemmas.{laid_where_reached}
use Rattle.sled_oracle.proofs.foreign.LogWrite.lays_record.Goals as goal

pub returns-clause-laid : goal.returns-clause-laid
returns-clause-laid g c =
    let begin : ℕ = c.self.inside.at in
    let is : c.args.self.now ≡ (begin, c.deref.result.now) = sym c.self.view_is ∙ ap (λ (l : List ℕ). (begin, l)) (sym c.deref.ensures.value) in
    laid_where_reached g.C.Checksum.sum_of c.args.size c.args.self.now begin c.first_record-first.result c.args.number.0 c.args.at c.deref.result.now c.args.text.now c.is_reached.result is c.first_record-first.ensures
    (c.covers.ensures.0 c.if-not-covers.false) (c.is_reached.ensures.reached c.args.size)
