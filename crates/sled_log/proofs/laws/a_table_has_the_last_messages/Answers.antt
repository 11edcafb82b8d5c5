use Rattle.sled_log.proofs.PublicLaws.{table_has_last, table_has_page}
use Rattle.sled_log.proofs.laws.a_table_has_the_last_messages.Goals as goal

pub returns-clause-last : goal.returns-clause-last
returns-clause-last c = table_has_last

pub returns-clause-page : goal.returns-clause-page
returns-clause-page c = table_has_page
