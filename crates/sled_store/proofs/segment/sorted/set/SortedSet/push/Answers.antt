use Rattle.std.proofs.Common.{◌∙◌, ◌++◌, ◌∷◌, [], sym, ap, subst}
use Rattle.std.specs.List.Sorted.{IsStrictlySortedBy}
use Rattle.sled_store.proofs.Sorted.SortedLemmas.{sorted_behind}
use Rattle.sled_store.proofs.segment.sorted.set.SortedSet.push.Goals as goal

pub invariant_of-self : goal.invariant_of-self
invariant_of-self g c =
    subst (IsStrictlySortedBy g.K.Ord.cmp) (sym (c.push.ensures.items ∙ ap (λ s. s.0 ++ c.args.key ∷ []) c.self.view_is))
    (sorted_behind g.K.Ord.cmp c.args.key c.args.self.now.0 c.requires.greatest (subst (λ s. IsStrictlySortedBy g.K.Ord.cmp s.0) c.self.view_is c.self.invariant))
