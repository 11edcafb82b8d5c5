use Rattle.std.proofs.Common.{◌∙◌, ◌+◌, ap, ◌≡◌, ◌≤◌, if◌then◌else◌, length, arith, vec_len, drop, rules}
use Rattle.std.specs.List.{insert}
use Rattle.sled_store.proofs.Sorted.FrontLemmas.{drop_insert}
use Rattle.sled_store.proofs.segment.sorted.front.FrontVec.insert.Goals as goal

pub returns-clause-items : goal.returns-clause-items
returns-clause-items g c =
    let begin = c.make_room-self-inside.result in
    let items = c.make_room-self-inside.new.items in
    let counted : vec_len items ≡ length items.items = search rules in
    let within : begin ≤ length items.items = omega (arith, c.make_room-self-inside.ensures.within) in
    ap (λ l. drop begin l) (c.insert.ensures.items ∙ ap (λ b. if b then insert items.items (begin + c.args.at) c.args.item else items.items) (c.insert.ensures.succeeds c.make_room-self-inside.ensures.room))
    ∙ drop_insert begin items.items c.args.at c.args.item within
    ∙ ap (λ l. insert l c.args.at c.args.item) (c.make_room-self-inside.ensures.items ∙ ap (λ v. v.0) c.self.view_is)
