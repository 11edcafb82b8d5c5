-- Each marked entry of a table of more messages is linked.
use Rattle.sled_store.proofs.Marks.MarkLaws.{marked_linked}
use Rattle.sled_store.proofs.Marks.MarkedLemmas.{truthful}
use Rattle.sled_store.proofs.segment.laws.tables_of_more_messages_are_linked.Goals as goal

pub returns : goal.returns
returns c = λ size mark H G m cut page e marked more. marked_linked size mark H m (truthful size mark H m marked) G cut page e more
