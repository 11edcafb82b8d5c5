-- A page that is gone was there, and has a replacement.
use Rattle.sled_store.proofs.Marks.MarkLaws.{gone_there, gone_replaced}
use Rattle.sled_store.proofs.Marks.MarkedLemmas.{truthful}
use Rattle.sled_store.proofs.segment.laws.gone_pages_are_replaced.Goals as goal

pub returns : goal.returns
returns c = record {
  linked = λ size mark H m k page marked. gone_there size mark H m (truthful size mark H m marked) k page;
  replaced = λ size mark H m k page marked. gone_replaced size mark H m (truthful size mark H m marked) k page;
}
