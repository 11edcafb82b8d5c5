use Rattle.std.proofs.Common.{[], ◌∷◌, ◌∙◌, ap}
use Rattle.std.specs.declared.io.Error.{Error}
use Rattle.std.specs.Prelude.{Result, Ok, Err}
use Rattle.sled_store.specs.Answers.{Does}
use Rattle.sled_store.specs.Device.{Event, Trace, Wrote, Synced}
use Rattle.sled_store.specs.Script.{Performs}
use Rattle.sled_core.specs.Fronts.{synced_writes, syncs}
use Rattle.sled_store.proofs.Traces.ScriptLemmas.{performs_all, stop_call, performs_none}
use Rattle.sled_core.proofs.Line.CameFar.{does_unsynced, left_unsynced, left_unwritten}
use Rattle.sled_core.proofs.Line.Outcomes.{all_err, on_err}
use Rattle.sled_core.proofs.logger.writing.write_out.Goals as goal

-- one call, whatever it answered
one_call : {T : Type 0} (e : Event) (r : Result T Error) (old new : Trace) → Does e r old new → Performs (e ∷ []) old new
one_call e (Ok x) old new does = performs_all e [] old new new does (performs_none new)
one_call e (Err x) old new does = stop_call e [] old new does

pub returns-in_err-write_at-clause-calls : goal.returns-in_err-write_at-clause-calls
returns-in_err-write_at-clause-calls g c = stop_call (Wrote c.args.at c.args.bytes.now c.args.bytes.now) (Synced ∷ []) _ _ c.in_err-write_at.ensures.trace

pub returns-clause-calls : goal.returns-clause-calls
returns-clause-calls g c = performs_all (Wrote c.args.at c.args.bytes.now c.args.bytes.now) (Synced ∷ []) _ _ _ c.in_ok-write_at.ensures.trace (one_call Synced c.sync.result _ _ c.sync.ensures.trace)

-- Neither call is a sync that came.

pub returns-in_err-write_at-clause-unsynced : goal.returns-in_err-write_at-clause-unsynced
returns-in_err-write_at-clause-unsynced g c = all_err c.from_residual.result _ (left_unsynced (Wrote c.args.at c.args.bytes.now c.args.bytes.now) _ _ c.in_err-write_at.ensures.trace, left_unwritten (Wrote c.args.at c.args.bytes.now c.args.bytes.now) _ _ c.in_err-write_at.ensures.trace)

pub returns-clause-unsynced : goal.returns-clause-unsynced
returns-clause-unsynced g c = on_err c.sync.result _ _ (λ same. (same.0 ∙ ap syncs c.in_ok-write_at.ensures.trace, same.1 ∙ ap synced_writes c.in_ok-write_at.ensures.trace)) (does_unsynced Synced c.sync.result _ _ c.sync.ensures.trace)
