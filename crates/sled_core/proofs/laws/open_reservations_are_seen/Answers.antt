use Rattle.sled_core.proofs.PublicLaws.{buffers_held, current_count, current_least, none_is_empty, ticket_places}
use Rattle.sled_core.proofs.laws.open_reservations_are_seen.Goals as goal

pub returns-clause-none : goal.returns-clause-none
returns-clause-none g c = λ log. none_is_empty log

pub returns-clause-held : goal.returns-clause-held
returns-clause-held g c = λ log. buffers_held g.C.Checksum.sum_of log

pub returns-clause-count : goal.returns-clause-count
returns-clause-count g c = λ log. current_count log

pub returns-clause-least : goal.returns-clause-least
returns-clause-least g c = λ log at least. current_least log at least

pub returns-clause-awaits : goal.returns-clause-awaits
returns-clause-awaits g c = λ log ticket m awaits. ticket_places log ticket m awaits
