use Rattle.sled_core.proofs.PublicLaws.{message_acknowledged, batch_acknowledged, acknowledged_least}
use Rattle.sled_core.proofs.laws.what_is_durable_is_acknowledged.Goals as goal

pub returns-clause-message : goal.returns-clause-message
returns-clause-message c = message_acknowledged

pub returns-clause-batch : goal.returns-clause-batch
returns-clause-batch c = batch_acknowledged

pub returns-clause-least : goal.returns-clause-least
returns-clause-least c = acknowledged_least
