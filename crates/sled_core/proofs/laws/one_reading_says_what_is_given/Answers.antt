use Rattle.std.proofs.Common.{refl}
use Rattle.sled_core.proofs.PublicLaws.{iteration_damaged, iteration_replayed}
use Rattle.sled_core.proofs.laws.one_reading_says_what_is_given.Goals as goal

pub returns-clause-replayed : goal.returns-clause-replayed
returns-clause-replayed c = λ sum size log blobs end strict ss items damage x there read gives.
    iteration_replayed sum size log blobs end strict x.segment ss there items damage x refl read gives

pub returns-clause-damaged : goal.returns-clause-damaged
returns-clause-damaged c = λ sum size log blobs end strict s ss items damage there d gives.
    iteration_damaged sum size log blobs end strict s ss there items damage d gives
