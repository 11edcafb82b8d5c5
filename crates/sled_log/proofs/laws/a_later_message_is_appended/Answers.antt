use Rattle.sled_log.proofs.PublicLaws.{new_there, appended}
use Rattle.sled_log.proofs.laws.a_later_message_is_appended.Goals as goal

pub returns-clause-there : goal.returns-clause-there
returns-clause-there c = new_there

pub returns-clause-appended : goal.returns-clause-appended
returns-clause-appended c = appended
