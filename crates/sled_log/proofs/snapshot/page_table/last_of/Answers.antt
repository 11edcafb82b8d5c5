use Rattle.sled_log.proofs.PageTable.TableLemmas.{last_gives}
use Rattle.sled_log.proofs.snapshot.page_table.last_of.Goals as goal

pub returns-in-Some : goal.returns-in-Some
returns-in-Some c = last_gives c.args.base.now c.args.frags.now c.in-Some.entry.now c.in-Some.ensures.value
