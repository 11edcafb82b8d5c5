use Rattle.std.proofs.Common.{◌∙◌, ap, set}
use Rattle.std.proofs.lemmas.List.{drop-set-add}
use Rattle.sled_store.proofs.segment.sorted.front.FrontVec.set.Goals as goal

pub returns-clause-items : goal.returns-clause-items
returns-clause-items g c =
    drop-set-add c.self.inside.begin c.self.inside.items.items c.args.at c.args.item
    ∙ ap (λ v. set v.0 c.args.at c.args.item) c.self.view_is
