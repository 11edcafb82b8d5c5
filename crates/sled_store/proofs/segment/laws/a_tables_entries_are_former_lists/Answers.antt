-- What a table has of a page is a former list.
use Rattle.sled_store.proofs.Marks.FormerLists.{table_told}
use Rattle.sled_store.proofs.segment.laws.a_tables_entries_are_former_lists.Goals as goal

pub returns : goal.returns
returns c = λ H cut page pages is past. table_told H cut page pages is past
