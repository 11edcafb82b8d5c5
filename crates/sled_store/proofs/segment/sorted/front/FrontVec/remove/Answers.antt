use Rattle.std.proofs.Common.{◌∙◌, ap, sym, ◌≡◌, ◌≤◌, length, arith, vec_len, drop, rules}
use Rattle.std.specs.List.{remove}
use Rattle.sled_store.proofs.Sorted.FrontLemmas.{drop_first, drop_remove}
use Rattle.sled_store.proofs.segment.sorted.front.FrontVec.remove.Goals as goal

pub returns-then-at-eq0-clause-items : goal.returns-then-at-eq0-clause-items
returns-then-at-eq0-clause-items g c =
    drop_first c.self.inside.begin c.self.inside.items.items
    ∙ ap (λ v. remove v.0 0) c.self.view_is
    ∙ ap (λ i. remove c.args.self.now.0 i) (sym c.if-at-eq0.true)

pub returns-else-at-eq0-clause-items : goal.returns-else-at-eq0-clause-items
returns-else-at-eq0-clause-items g c =
    let begin = c.self.inside.begin in
    let counted : vec_len c.self.inside.items ≡ length c.self.inside.items.items = search rules in
    let within : begin ≤ length c.self.inside.items.items = omega (arith, c.self.invariant) in
    ap (λ l. drop begin l) c.remove.ensures.items
    ∙ drop_remove begin c.self.inside.items.items c.args.at within
    ∙ ap (λ v. remove v.0 c.args.at) c.self.view_is
