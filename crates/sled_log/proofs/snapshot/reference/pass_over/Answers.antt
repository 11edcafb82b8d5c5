use Rattle.std.proofs.Common.{ℕ, List, None, Some, map, sym, subst, arith}
use Rattle.sled_codec.specs.Snapshots.{SnapshotModel, model_of}
use Rattle.sled_core.proofs.Read.ReadingLemmas.{if_ok}
use Rattle.sled_store.specs.declared.config.Config.{Config}
use Rattle.sled_store.specs.Device.{State, state_of}
use Rattle.sled_log.specs.declared.snapshot.pass.Replay.{Replay}
use Rattle.sled_log.specs.declared.snapshot.recovery.Recovery.{Recovery}
use Rattle.sled_log.specs.Recovery.{Passes, Recovered, Damaged, Scanned, begun_below, resolved_scan}
use Rattle.sled_log.specs.Passes.{FitsStop, IsBadPass}
use Rattle.sled_log.specs.WritesBack.{result_of}
use Rattle.sled_log.proofs.Passes.DamageNames.{damage_as, damage_decoded}
use Rattle.sled_log.proofs.Passes.Joined.{passes_damaged, resolved_length}
use Rattle.sled_log.proofs.Passes.Whole.{passes_by, resolved_of}
use Rattle.sled_log.proofs.snapshot.reference.pass_over.Goals as goal

pub outcome_of-requires-clause-stop : goal.outcome_of-requires-clause-stop
outcome_of-requires-clause-stop g c = subst (λ (x : Config). FitsStop x.segment_size c.in-Ok.replay.stop) (sym c.in-Ok.ensures.reads.config) c.in-Ok.ensures.stop

pub outcome_of-requires-clause-long : goal.outcome_of-requires-clause-long
outcome_of-requires-clause-long g c =
    let sum : List ℕ → ℕ = g.C.Checksum.sum_of in
    let size : ℕ = c.args.config.now.config.segment_size in
    let s : State = state_of (g.D.Device.trace c.args.config.now.device) in
    let end : ℕ = c.args.end in
    let all = c.in-Ok.ensures.made in
    let are = resolved_of sum size s.log.bytes s.blobs.file end c.args.segments.now (model_of c.args.first) (begun_below end c.args.segments.now) c.in-Ok.replay all in
    let long = resolved_length sum size s.log.bytes s.blobs.file end c.args.segments.now (map (resolved_scan s.blobs.file end) all.passes) are in
    let made = all.so_far.fine.1 in
    omega (arith, long, made.count)

pub returns-in-Ok-clause-ok : goal.returns-in-Ok-clause-ok
returns-in-Ok-clause-ok g c =
    let sum : List ℕ → ℕ = g.C.Checksum.sum_of in
    let cfg : Config = c.args.config.now.config in
    let s : State = state_of (g.D.Device.trace c.args.config.now.device) in
    let end : ℕ = c.args.end in
    let first : SnapshotModel = model_of c.args.first in
    let all = c.in-Ok.ensures.made in
    let passes : List Scanned = map (resolved_scan s.blobs.file end) all.passes in
    let are = resolved_of sum cfg.segment_size s.log.bytes s.blobs.file end c.args.segments.now first (begun_below end c.args.segments.now) c.in-Ok.replay all in
    if_ok c.outcome_of.result _ (λ x. Passes sum cfg.segment_size s.log.bytes s.blobs.file first c.args.segments.now (Some end) (Recovered (result_of x)))
    (λ x comes. passes_by sum cfg c.replay_below.new.config.config s.log.bytes s.blobs.file end first c.args.segments.now passes (Recovered (result_of x)) c.in-Ok.ensures.reads.config are comes)
    (c.outcome_of.ensures.ok end first passes all.so_far.fine.1)

pub returns-in-Ok-clause-corrupt : goal.returns-in-Ok-clause-corrupt
returns-in-Ok-clause-corrupt g c =
    let sum : List ℕ → ℕ = g.C.Checksum.sum_of in
    let cfg : Config = c.args.config.now.config in
    let s : State = state_of (g.D.Device.trace c.args.config.now.device) in
    let end : ℕ = c.args.end in
    let first : SnapshotModel = model_of c.args.first in
    let all = c.in-Ok.ensures.made in
    let passes : List Scanned = map (resolved_scan s.blobs.file end) all.passes in
    let are = resolved_of sum cfg.segment_size s.log.bytes s.blobs.file end c.args.segments.now first (begun_below end c.args.segments.now) c.in-Ok.replay all in
    damage_decoded c.outcome_of.result (λ at. Passes sum cfg.segment_size s.log.bytes s.blobs.file first c.args.segments.now (Some end) (Damaged at)) c.outcome_of.ensures.errors
    (λ corrupt. passes_by sum cfg c.replay_below.new.config.config s.log.bytes s.blobs.file end first c.args.segments.now passes (Damaged None) c.in-Ok.ensures.reads.config are (c.outcome_of.ensures.corrupt end first passes all.so_far.fine.1 corrupt))

pub returns-in-Err-clause-corrupt : goal.returns-in-Err-clause-corrupt
returns-in-Err-clause-corrupt g c =
    let sum : List ℕ → ℕ = g.C.Checksum.sum_of in
    let size : ℕ = c.args.config.now.config.segment_size in
    let s : State = state_of (g.D.Device.trace c.args.config.now.device) in
    let end : ℕ = c.args.end in
    damage_as Replay Recovery c.in-Err.e (IsBadPass sum size s.log.bytes s.blobs.file end (begun_below end c.args.segments.now)) (λ at. Passes sum size s.log.bytes s.blobs.file (model_of c.args.first) c.args.segments.now (Some end) (Damaged at))
    (passes_damaged sum size s.log.bytes s.blobs.file end (model_of c.args.first) c.args.segments.now) c.in-Err.ensures.corrupt
