-- One more slot is in use.
use Rattle.std.proofs.Common.{◌≡◌, ◌∙◌, ℕ, Bool, true, is_some, sym}
use Rattle.std.specs.Ordering.{nat_cmp}
use Rattle.std.specs.BTreeMap.{get}
use Rattle.sled_store.proofs.Segments.FillLemmas.{not_below_yes}
use Rattle.sled_store.proofs.segment.start.are_used.Goals as goal

pub loop-k-preserved : goal.loop-k-preserved
loop-k-preserved c =
    let test : ℕ → Bool = λ k. is_some (get nat_cmp c.args.table.now.held k) in
    let is : test c.loop-k.k ≡ true = sym c.has.ensures ∙ c.if-not-has.false in
    not_below_yes test c.loop-k.k is ∙ c.loop-k.invariant
