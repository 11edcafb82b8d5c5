-- Each entry of the table is counted.
use Rattle.sled_store.proofs.Marks.MarkLaws.{counted}
use Rattle.sled_store.proofs.Marks.MarkedLemmas.{truthful}
use Rattle.sled_store.proofs.segment.laws.entries_are_counted.Goals as goal

pub returns : goal.returns
returns c = λ size mark H m cut page e marked. counted size mark H m (truthful size mark H m marked) cut page e
