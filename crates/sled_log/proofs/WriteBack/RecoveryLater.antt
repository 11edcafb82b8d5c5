-- The trace behind a recovery goes on from the one before it, whatever came of it.
use Rattle.std.proofs.Common.{ℕ, List, [], ◌∷◌, inl, inr}
use Rattle.sled_store.specs.Device.{Trace, Synced, NamesSynced}
use Rattle.sled_store.specs.Moments.{IsLater}
use Rattle.sled_store.proofs.Traces.ScriptLemmas.{later_performed}
use Rattle.sled_log.specs.Restores.{RecoveryCalls}
use Rattle.sled_log.specs.WritesBack.{shredding, committing, writing_back}

pub recovery_later : (sum : List ℕ → ℕ) (size : ℕ) (old new : Trace) → RecoveryCalls sum size old new → IsLater old new
recovery_later sum size old new (inl settling) = later_performed (Synced ∷ NamesSynced ∷ []) old new settling
recovery_later sum size old new (inr (x, recovers, inl (inl begun))) = later_performed (Synced ∷ NamesSynced ∷ shredding x.shred_range) old new begun
recovery_later sum size old new (inr (x, recovers, inl (inr (fits, ns, may, made)))) = later_performed (Synced ∷ NamesSynced ∷ committing sum x ns) old new made
recovery_later sum size old new (inr (x, recovers, inr (fits, ns, are, places, may, made))) = later_performed (Synced ∷ NamesSynced ∷ writing_back sum size x ns places) old new made
