use Rattle.sled_log.proofs.PublicLaws.{beginning_in_table, link_in_table, new_in_table}
use Rattle.sled_log.proofs.laws.a_table_has_what_began_a_page_last.Goals as goal

pub returns-clause-beginning : goal.returns-clause-beginning
returns-clause-beginning c = beginning_in_table

pub returns-clause-link : goal.returns-clause-link
returns-clause-link c = λ H cut page base m apart is replaces. link_in_table H cut page base apart is replaces m

pub returns-clause-completed : goal.returns-clause-completed
returns-clause-completed c = new_in_table
