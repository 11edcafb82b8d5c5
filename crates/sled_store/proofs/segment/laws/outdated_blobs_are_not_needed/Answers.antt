-- No later table names what goes with a segment.
use Rattle.sled_store.proofs.Marks.OutdatedSteps.{outdated_in_no_table}
use Rattle.sled_store.proofs.Marks.TableLemmas.{apart_ascends}
use Rattle.sled_store.proofs.segment.laws.outdated_blobs_are_not_needed.Goals as goal

pub returns : goal.returns
returns c = λ size H m k cut page blob e some apart are there le entry names. outdated_in_no_table size H m (apart_ascends H.messages apart) are some k blob there cut page e le entry names
