-- The left child is taken where it is marked, and else the right one.
use Rattle.std.proofs.Common.{◌≡◌, ◌*◌, ◌^◌, ℕ, List, Bool, true, false, sym, subst, arith}
use Rattle.sled_store.specs.SlotSets.{mark}
use Rattle.sled_store.proofs.Accounts.TreeLemmas.{IsLowestOn, level_fits, level_next, level_some, lowest_left, lowest_right}
use Rattle.sled_store.proofs.segment.slot_set.lowest.Goals as goal
use Rattle.sled_store.proofs.segment.slot_set.lowest.Goals.{then-not-marks-node, else-not-marks-node}

pub bounds-marks-node : goal.bounds-marks-node
bounds-marks-node c = omega (arith, level_fits c.loop.counter c.args.depth c.loop-test.true, c.loop.invariant.within, c.requires.len)

pub loop-preserved : goal.loop-preserved
loop-preserved c =
    let begin : ℕ = 2 ^ c.loop.counter in
    let marks : List Bool = c.args.marks.now in
    let fits = level_fits c.loop.counter c.args.depth c.loop-test.true in
    let some = level_some c.loop.counter in
    subst (λ b. IsLowestOn b c.if-not-marks-node.node marks) (sym (level_next c.loop.counter))
    (elim c.if-not-marks-node.branch [
      | then-not-marks-node w ↦
          let at : c.loop.node * 2 ≡ 2 * c.loop.node = omega arith in
          let left = subst (λ n. mark marks n ≡ false) at w.if-not-marks-node.true in
          subst (λ n. IsLowestOn (2 * begin) n marks) (omega (arith, w.node-is)) (lowest_right (2 ^ c.args.depth) begin c.loop.node marks c.requires.tied some fits c.loop.invariant left)
      | else-not-marks-node w ↦
          let at : c.loop.node * 2 ≡ 2 * c.loop.node = omega arith in
          let left = subst (λ n. mark marks n ≡ true) at w.if-not-marks-node.false in
          subst (λ n. IsLowestOn (2 * begin) n marks) (omega (arith, w.node-is)) (lowest_left (2 ^ c.args.depth) begin c.loop.node marks c.requires.tied some fits c.loop.invariant left)
    ])
