use Rattle.sled_core.proofs.PublicLaws.{machine_pinned, pinned_around, pinned_at, pinned_below, pinned_pending, pinned_some, pinned_synced}
use Rattle.sled_core.proofs.laws.a_pin_defers_freeing.Goals as goal

pub returns-clause-below : goal.returns-clause-below
returns-clause-below g c = λ log to out. pinned_below log out g.C.Checksum.sum_of to

pub returns-clause-some : goal.returns-clause-some
returns-clause-some g c = λ log to count out. pinned_some log out g.C.Checksum.sum_of to count

pub returns-clause-pending : goal.returns-clause-pending
returns-clause-pending g c = λ log i out. pinned_pending log out i

pub returns-clause-around : goal.returns-clause-around
returns-clause-around g c = λ log lsn out. pinned_around log out g.C.Checksum.sum_of lsn

pub returns-clause-pinned : goal.returns-clause-pinned
returns-clause-pinned g c = λ log at out. pinned_at log out at

pub returns-clause-slots : goal.returns-clause-slots
returns-clause-slots g c = machine_pinned

pub returns-clause-synced : goal.returns-clause-synced
returns-clause-synced g c = pinned_synced
