-- Nothing is foreign in what is read after the first write, nor where that was lost.
use Rattle.sled_store.specs.Device.{Wrote, state_of}
use Rattle.std.specs.Prelude.{[], ◌∷◌}
use Rattle.sled_core.proofs.Crash.OwnLemmas.{written_own, lost_own, synced_own}
use Rattle.sled_core.proofs.laws.nothing_is_foreign_after_the_first_write.Goals as goal

pub returns-clause-read : goal.returns-clause-read
returns-clause-read c = λ sum size text zeros short. written_own sum size zeros text short

pub returns-clause-synced : goal.returns-clause-synced
returns-clause-synced c = λ sum size text zeros short. synced_own sum size (state_of (Wrote 0 text text ∷ [])) (written_own sum size zeros text short)

pub returns-clause-lost : goal.returns-clause-lost
returns-clause-lost c = λ sum size text zeros. lost_own sum size zeros text
