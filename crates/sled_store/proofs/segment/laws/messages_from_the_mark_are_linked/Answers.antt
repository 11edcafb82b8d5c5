-- Each message from the mark's segment on is linked.
use Rattle.sled_store.proofs.Marks.MarkLaws.{from_mark_linked}
use Rattle.sled_store.proofs.Marks.MarkedLemmas.{truthful}
use Rattle.sled_store.proofs.segment.laws.messages_from_the_mark_are_linked.Goals as goal

pub returns : goal.returns
returns c = λ size mark H m e marked. from_mark_linked size mark H m (truthful size mark H m marked) e
