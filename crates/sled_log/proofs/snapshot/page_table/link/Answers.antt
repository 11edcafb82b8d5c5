use Rattle.std.proofs.Common.{rules}
use Rattle.sled_log.proofs.PageTable.TableLemmas.{on_ok, linked_in}
use Rattle.sled_log.proofs.snapshot.page_table.link.Goals as goal

pub returns-in-Some-clause-table : goal.returns-in-Some-clause-table
returns-in-Some-clause-table c =
    on_ok c.link_to.result _ _ (linked_in c.args.pages.now.items c.args.page c.in-Some.state.now c.link_to.new.state c.args.entry (search rules) (search rules)) c.link_to.ensures.table
