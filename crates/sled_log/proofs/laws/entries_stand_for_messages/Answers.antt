use Rattle.sled_log.proofs.PublicLaws.{from_table, table_below}
use Rattle.sled_log.proofs.laws.entries_stand_for_messages.Goals as goal

pub returns-clause-entry : goal.returns-clause-entry
returns-clause-entry c = from_table

pub returns-clause-below : goal.returns-clause-below
returns-clause-below c = table_below
