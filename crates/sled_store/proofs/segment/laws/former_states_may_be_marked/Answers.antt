-- A page's former state lies in segments.
use Rattle.sled_store.proofs.Marks.MarkLaws.{former_may}
use Rattle.sled_store.proofs.Marks.MarkedLemmas.{truthful}
use Rattle.sled_store.proofs.segment.laws.former_states_may_be_marked.Goals as goal

pub returns : goal.returns
returns c = λ size mark H m x old marked. former_may size mark H m (truthful size mark H m marked) x old
