-- Each entry of a table above the mark is linked.
use Rattle.sled_store.proofs.Marks.MarkLaws.{above_mark_linked}
use Rattle.sled_store.proofs.Marks.MarkedLemmas.{truthful}
use Rattle.sled_store.proofs.segment.laws.tables_above_the_mark_are_linked.Goals as goal

pub returns : goal.returns
returns c = λ size mark H m cut page e marked. above_mark_linked size mark H m (truthful size mark H m marked) cut page e
