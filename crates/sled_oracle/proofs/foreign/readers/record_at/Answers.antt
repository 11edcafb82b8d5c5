-- What begins at an offset begins the rest.
use Rattle.sled_oracle.proofs.Walks.FoundLemmas.{found_behind}
use Rattle.sled_oracle.proofs.foreign.readers.record_at.Goals as goal

pub returns-clause-found : goal.returns-clause-found
returns-clause-found g c = found_behind g.C.Checksum.sum_of c.args.number.0 c.args.text.now c.args.at c.record_len.result c.record_len.ensures.found
