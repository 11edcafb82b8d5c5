-- A turn takes the message for the last beginning where it is one.
use Rattle.std.proofs.Common.{◌∙◌, sym, true, false}
use Rattle.sled_oracle.proofs.Tables.{last_beginning_step}
use Rattle.sled_oracle.proofs.history.last_beginning.Goals as goal
use Rattle.sled_oracle.proofs.history.last_beginning.Goals.{then-begins_page, else-begins_page}

pub loop-m-preserved : goal.loop-m-preserved
loop-m-preserved c =
    elim c.if-begins_page.branch [
      | then-begins_page w ↦ rw w.last-is (last_beginning_step _ _ _ true c.loop-m.last c.loop-m-test.true (sym w.if-begins_page.true ∙ c.begins_page.ensures) c.loop-m.invariant)
      | else-begins_page w ↦ rw w.last-is (last_beginning_step _ _ _ false c.loop-m.last c.loop-m-test.true (sym w.if-begins_page.false ∙ c.begins_page.ensures) c.loop-m.invariant)
    ]
