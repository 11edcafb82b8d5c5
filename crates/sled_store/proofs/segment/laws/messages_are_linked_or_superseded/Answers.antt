-- Each message is linked, or superseded.
use Rattle.sled_store.proofs.Marks.MarkLaws.{linked_or_superseded}
use Rattle.sled_store.proofs.Marks.MarkedLemmas.{truthful}
use Rattle.sled_store.proofs.segment.laws.messages_are_linked_or_superseded.Goals as goal

pub returns : goal.returns
returns c = λ size mark H m e marked. linked_or_superseded size mark H m (truthful size mark H m marked) e
