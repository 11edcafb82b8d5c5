use Rattle.sled_core.proofs.PublicLaws.{fits_reach, fits_apart, awaited_small, inline_stored, reserved_small, target_above}
use Rattle.sled_core.proofs.laws.messages_lie_in_order.Goals as goal

pub returns-clause-below : goal.returns-clause-below
returns-clause-below g c = λ log H A f U fits. fits_reach g.D.Device.trace g.C.Checksum.sum_of log H A f U fits

pub returns-clause-apart : goal.returns-clause-apart
returns-clause-apart g c = λ log H A f U fits. fits_apart g.D.Device.trace g.C.Checksum.sum_of log H A f U fits

pub returns-clause-stored : goal.returns-clause-stored
returns-clause-stored g c = λ log m inline. inline_stored g.D.Device.trace g.C.Checksum.sum_of log m inline

pub returns-clause-small : goal.returns-clause-small
returns-clause-small g c = λ log ticket m awaits. awaited_small log ticket m awaits

pub returns-clause-reserved : goal.returns-clause-reserved
returns-clause-reserved g c = λ log. reserved_small log

pub returns-clause-target : goal.returns-clause-target
returns-clause-target g c = λ log page n inline. target_above log page n inline
