-- The right child is taken where it is marked, and else the left one.
use Rattle.std.proofs.Common.{◌*◌, ◌^◌, ℕ, List, Bool, sym, subst, arith}
use Rattle.sled_store.proofs.Accounts.TreeLemmas.{IsHighestOn, level_fits, level_next, level_some, highest_left, highest_right}
use Rattle.sled_store.proofs.segment.slot_set.highest.Goals as goal
use Rattle.sled_store.proofs.segment.slot_set.highest.Goals.{then-not-marks-node, else-not-marks-node}

pub bounds-marks-node : goal.bounds-marks-node
bounds-marks-node c = omega (arith, level_fits c.loop.counter c.args.depth c.loop-test.true, c.loop.invariant.within, c.requires.len)

pub loop-preserved : goal.loop-preserved
loop-preserved c =
    let begin : ℕ = 2 ^ c.loop.counter in
    let marks : List Bool = c.args.marks.now in
    let fits = level_fits c.loop.counter c.args.depth c.loop-test.true in
    let some = level_some c.loop.counter in
    subst (λ b. IsHighestOn b c.if-not-marks-node.node marks) (sym (level_next c.loop.counter))
    (elim c.if-not-marks-node.branch [
      | then-not-marks-node w ↦
          subst (λ n. IsHighestOn (2 * begin) n marks) (omega (arith, w.node-is)) (highest_left (2 ^ c.args.depth) begin c.loop.node marks c.requires.tied some fits c.loop.invariant w.if-not-marks-node.true)
      | else-not-marks-node w ↦
          subst (λ n. IsHighestOn (2 * begin) n marks) (sym w.node-is) (highest_right (2 ^ c.args.depth) begin c.loop.node marks c.requires.tied some fits c.loop.invariant w.if-not-marks-node.false)
    ])
