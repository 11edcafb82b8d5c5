-- Zeros pass as no header.
use Rattle.sled_core.proofs.Crash.OwnLemmas.{zeros_no_header, zeros_by_place}
use Rattle.sled_core.proofs.laws.zeros_are_no_header.Goals as goal

pub returns-clause-general : goal.returns-clause-general
returns-clause-general c = zeros_no_header

pub returns-clause-place_sum : goal.returns-clause-place_sum
returns-clause-place_sum c = zeros_by_place
