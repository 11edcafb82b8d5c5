use Rattle.std.proofs.Common.{[], ◌∷◌}
use Rattle.sled_store.specs.Device.{Trace, Wrote, Synced}
use Rattle.sled_store.proofs.Traces.ScriptLemmas.{performs_all, stop_call, performs_none}
use Rattle.sled_log.proofs.snapshot.write_back.write_settled.Goals as goal

pub returns-in_err-write_at-clause-calls : goal.returns-in_err-write_at-clause-calls
returns-in_err-write_at-clause-calls g c = stop_call (Wrote c.args.at c.args.bytes.now c.args.bytes.now) (Synced ∷ []) _ _ c.in_err-write_at.ensures.trace

pub returns-in_err-sync-clause-calls : goal.returns-in_err-sync-clause-calls
returns-in_err-sync-clause-calls g c =
    let old : Trace = g.D.Device.trace c.args.device.now in
    let mid : Trace = g.D.Device.trace c.write_at.new.self in
    let new : Trace = g.D.Device.trace c.sync.new.self in
    performs_all (Wrote c.args.at c.args.bytes.now c.args.bytes.now) (Synced ∷ []) old mid new c.in_ok-write_at.ensures.trace (stop_call Synced [] mid new c.in_err-sync.ensures.trace)

pub returns-clause-calls : goal.returns-clause-calls
returns-clause-calls g c =
    let old : Trace = g.D.Device.trace c.args.device.now in
    let mid : Trace = g.D.Device.trace c.write_at.new.self in
    let new : Trace = g.D.Device.trace c.sync.new.self in
    performs_all (Wrote c.args.at c.args.bytes.now c.args.bytes.now) (Synced ∷ []) old mid new c.in_ok-write_at.ensures.trace (performs_all Synced [] mid new new c.in_ok-sync.ensures.trace (performs_none new))
