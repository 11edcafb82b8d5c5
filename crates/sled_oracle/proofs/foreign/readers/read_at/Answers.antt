-- Where one has room a record that begins is read.
use Rattle.std.proofs.Common.{arith}
use Rattle.sled_oracle.proofs.Walks.ReadWalk.{found_read}
use Rattle.sled_oracle.proofs.foreign.readers.read_at.Goals as goal

pub returns-clause-found : goal.returns-clause-found
returns-clause-found g c = found_read g.C.Checksum.sum_of c.args.size c.args.number.0 c.args.text.now c.args.at (omega arith) c.record_at.result c.record_at.ensures.found
