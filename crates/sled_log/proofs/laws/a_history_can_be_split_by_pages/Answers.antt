use Rattle.sled_log.proofs.PublicLaws.{batch_added, others_leave, own_added, own_apart, own_below, own_table}
use Rattle.sled_log.proofs.laws.a_history_can_be_split_by_pages.Goals as goal

pub returns-clause-table : goal.returns-clause-table
returns-clause-table c = own_table

pub returns-clause-apart : goal.returns-clause-apart
returns-clause-apart c = own_apart

pub returns-clause-below : goal.returns-clause-below
returns-clause-below c = own_below

pub returns-clause-other : goal.returns-clause-other
returns-clause-other c = others_leave

pub returns-clause-own : goal.returns-clause-own
returns-clause-own c = own_added

pub returns-clause-batch : goal.returns-clause-batch
returns-clause-batch c = batch_added
