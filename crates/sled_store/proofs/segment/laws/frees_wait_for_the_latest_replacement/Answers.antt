-- A slot that is freed doesn't wait any more.
use Rattle.sled_store.proofs.Marks.MarkLaws.{freed_stable}
use Rattle.sled_store.proofs.Marks.MarkedLemmas.{truthful}
use Rattle.sled_store.proofs.segment.laws.frees_wait_for_the_latest_replacement.Goals as goal

pub returns : goal.returns
returns c = λ size mark H m next k place marked. freed_stable size mark H m (truthful size mark H m marked) next k place
