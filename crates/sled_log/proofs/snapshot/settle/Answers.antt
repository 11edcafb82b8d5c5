use Rattle.std.proofs.Common.{[], ◌∷◌, rules}
use Rattle.sled_store.specs.Device.{Synced, NamesSynced}
use Rattle.sled_store.proofs.Traces.ScriptLemmas.{performs_all, stop_call, performs_whole}
use Rattle.sled_log.proofs.snapshot.settle.Goals as goal

pub returns-in_err-sync-clause-calls : goal.returns-in_err-sync-clause-calls
returns-in_err-sync-clause-calls g c = stop_call Synced (NamesSynced ∷ []) _ _ c.in_err-sync.ensures.trace

pub returns-in_err-sync_names-clause-calls : goal.returns-in_err-sync_names-clause-calls
returns-in_err-sync_names-clause-calls g c =
    performs_all Synced (NamesSynced ∷ []) _ _ _ c.in_ok-sync.ensures.trace (stop_call NamesSynced [] _ _ c.in_err-sync_names.ensures.trace)

pub returns-clause-calls : goal.returns-clause-calls
returns-clause-calls g c = performs_whole (Synced ∷ NamesSynced ∷ []) _ _ (search rules)
