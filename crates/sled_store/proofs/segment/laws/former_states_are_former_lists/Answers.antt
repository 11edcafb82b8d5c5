-- A former state is a former list.
use Rattle.sled_store.proofs.Marks.FormerLists.{state_is_list}
use Rattle.sled_store.proofs.segment.laws.former_states_are_former_lists.Goals as goal

pub returns : goal.returns
returns c = λ H page old. state_is_list H page old
