-- A slot whose pages are all replaced holds no entry of the table.
use Rattle.sled_store.proofs.Marks.MarkLaws.{none_in_done}
use Rattle.sled_store.proofs.Marks.MarkedLemmas.{truthful}
use Rattle.sled_store.proofs.segment.laws.done_segments_hold_no_entry.Goals as goal

pub returns : goal.returns
returns c = λ size mark H m cut page k e marked. none_in_done size mark H m (truthful size mark H m marked) cut page k e
