use Rattle.sled_log.proofs.PublicLaws.{may_be_left}
use Rattle.sled_log.proofs.laws.a_device_leaves_what_a_crash_may_leave.Goals as goal

pub returns : goal.returns
returns c = may_be_left
