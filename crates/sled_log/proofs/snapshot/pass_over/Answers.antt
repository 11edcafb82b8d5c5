use Rattle.std.proofs.Common.{◌++◌, ℕ, List, None, Some, map, length, take, refl, sym, ap, subst, arith}
use Rattle.sled_codec.specs.Snapshots.{SnapshotModel, model_of}
use Rattle.sled_core.proofs.Read.ReadingLemmas.{if_ok}
use Rattle.sled_core.specs.declared.iterator.Segment.{Segment}
use Rattle.sled_store.specs.declared.config.Config.{Config}
use Rattle.sled_store.specs.Device.{State, state_of}
use Rattle.sled_log.specs.declared.snapshot.pass.Pass.{Pass}
use Rattle.sled_log.specs.declared.snapshot.pass.Replay.{Replay}
use Rattle.sled_log.specs.declared.snapshot.recovery.Recovery.{Recovery}
use Rattle.sled_log.specs.Recovery.{Passes, Recovered, Damaged, Scanned, begun_below, resolved_scan}
use Rattle.sled_log.specs.Passes.{FitsStop, HasMade, IsBadPass, pass_of, up_to_open}
use Rattle.sled_log.specs.WritesBack.{result_of}
use Rattle.sled_log.proofs.Passes.WholeTail.{in_taken}
use Rattle.sled_log.proofs.Passes.DamageNames.{damage_as, damage_decoded}
use Rattle.sled_log.proofs.Passes.Joined.{passes_damaged, resolved_length}
use Rattle.sled_log.proofs.Passes.Whole.{bad_all, both_within, fits_by, joined_all, passes_by, resolved_of}
use Rattle.sled_log.proofs.snapshot.pass_over.Goals as goal

pub replay_below-requires-clause-ready : goal.replay_below-requires-clause-ready
replay_below-requires-clause-ready g c = λ s there. c.requires.ready s (in_taken c.args.from c.args.segments.now s there)

pub apply_tail-requires-clause-count : goal.apply_tail-requires-clause-count
apply_tail-requires-clause-count g c =
    let size : ℕ = c.args.config.now.config.segment_size in
    let s : State = state_of (g.D.Device.trace c.args.config.now.device) in
    let within = both_within g.C.Checksum.sum_of size s.log.bytes s.blobs.file c.args.end c.args.segments.now (model_of c.args.first) c.args.from c.in-Ok.replay c.args.tail.items c.requires.from c.in-Ok.ensures.made c.requires.tail in
    omega (arith, within, ap length c.deref.ensures.value)

pub outcome_of-requires-clause-stop : goal.outcome_of-requires-clause-stop
outcome_of-requires-clause-stop g c =
    let cfg : Config = c.args.config.now.config in
    let now : Config = c.replay_below.new.config.config in
    let fits = fits_by cfg now c.args.tail.items c.deref.result.now c.in-Ok.ensures.reads.config c.deref.ensures.value c.requires.fits in
    let was = subst (λ (x : Config). FitsStop x.segment_size c.in-Ok.replay.stop) (sym c.in-Ok.ensures.reads.config) c.in-Ok.ensures.stop in
    c.in_ok-apply_tail-in-Ok.ensures.stop now.segment_size fits was

pub outcome_of-requires-clause-long : goal.outcome_of-requires-clause-long
outcome_of-requires-clause-long g c =
    let sum : List ℕ → ℕ = g.C.Checksum.sum_of in
    let size : ℕ = c.args.config.now.config.segment_size in
    let s : State = state_of (g.D.Device.trace c.args.config.now.device) in
    let end : ℕ = c.args.end in
    let first : SnapshotModel = model_of c.args.first in
    let ss : List Segment = c.args.segments.now in
    let n : ℕ = c.args.from in
    let qs : List Scanned = map pass_of c.args.tail.items in
    let before = c.in-Ok.ensures.made in
    let ps : List Scanned = map (resolved_scan s.blobs.file end) before.passes in
    let passes : List Scanned = up_to_open end (ps ++ qs) in
    let are = joined_all sum size s.log.bytes s.blobs.file end ss n ps qs passes (resolved_of sum size s.log.bytes s.blobs.file end ss first (begun_below end (take n ss)) c.in-Ok.replay before) c.requires.tail refl in
    let long = resolved_length sum size s.log.bytes s.blobs.file end ss passes are in
    let made = subst (λ (l : List Pass). HasMade end first (up_to_open end (ps ++ map pass_of l)) c.apply_tail.new.replay) c.deref.ensures.value (c.in_ok-apply_tail-in-Ok.ensures.made first ps before.goes_on before.so_far.fine.1) in
    omega (arith, long, made.count)

pub returns-in-Ok-clause-ok : goal.returns-in-Ok-clause-ok
returns-in-Ok-clause-ok g c =
    let sum : List ℕ → ℕ = g.C.Checksum.sum_of in
    let cfg : Config = c.args.config.now.config in
    let size : ℕ = cfg.segment_size in
    let s : State = state_of (g.D.Device.trace c.args.config.now.device) in
    let end : ℕ = c.args.end in
    let first : SnapshotModel = model_of c.args.first in
    let ss : List Segment = c.args.segments.now in
    let n : ℕ = c.args.from in
    let qs : List Scanned = map pass_of c.args.tail.items in
    let before = c.in-Ok.ensures.made in
    let ps : List Scanned = map (resolved_scan s.blobs.file end) before.passes in
    let passes : List Scanned = up_to_open end (ps ++ qs) in
    let are = joined_all sum size s.log.bytes s.blobs.file end ss n ps qs passes (resolved_of sum size s.log.bytes s.blobs.file end ss first (begun_below end (take n ss)) c.in-Ok.replay before) c.requires.tail refl in
    let made = subst (λ (l : List Pass). HasMade end first (up_to_open end (ps ++ map pass_of l)) c.apply_tail.new.replay) c.deref.ensures.value (c.in_ok-apply_tail-in-Ok.ensures.made first ps before.goes_on before.so_far.fine.1) in
    if_ok c.outcome_of.result _ (λ x. Passes sum size s.log.bytes s.blobs.file first ss (Some end) (Recovered (result_of x)))
    (λ x comes. passes_by sum cfg c.replay_below.new.config.config s.log.bytes s.blobs.file end first ss passes (Recovered (result_of x)) c.in-Ok.ensures.reads.config are comes) (c.outcome_of.ensures.ok end first passes made)

pub returns-in-Ok-clause-corrupt : goal.returns-in-Ok-clause-corrupt
returns-in-Ok-clause-corrupt g c =
    let sum : List ℕ → ℕ = g.C.Checksum.sum_of in
    let cfg : Config = c.args.config.now.config in
    let size : ℕ = cfg.segment_size in
    let s : State = state_of (g.D.Device.trace c.args.config.now.device) in
    let end : ℕ = c.args.end in
    let first : SnapshotModel = model_of c.args.first in
    let ss : List Segment = c.args.segments.now in
    let n : ℕ = c.args.from in
    let qs : List Scanned = map pass_of c.args.tail.items in
    let before = c.in-Ok.ensures.made in
    let ps : List Scanned = map (resolved_scan s.blobs.file end) before.passes in
    let passes : List Scanned = up_to_open end (ps ++ qs) in
    let are = joined_all sum size s.log.bytes s.blobs.file end ss n ps qs passes (resolved_of sum size s.log.bytes s.blobs.file end ss first (begun_below end (take n ss)) c.in-Ok.replay before) c.requires.tail refl in
    let made = subst (λ (l : List Pass). HasMade end first (up_to_open end (ps ++ map pass_of l)) c.apply_tail.new.replay) c.deref.ensures.value (c.in_ok-apply_tail-in-Ok.ensures.made first ps before.goes_on before.so_far.fine.1) in
    damage_decoded c.outcome_of.result (λ at. Passes sum cfg.segment_size s.log.bytes s.blobs.file first ss (Some end) (Damaged at)) c.outcome_of.ensures.errors
    (λ corrupt. passes_by sum cfg c.replay_below.new.config.config s.log.bytes s.blobs.file end first ss passes (Damaged None) c.in-Ok.ensures.reads.config are (c.outcome_of.ensures.corrupt end first passes made corrupt))

pub returns-clause-corrupt : goal.returns-clause-corrupt
returns-clause-corrupt g c =
    let sum : List ℕ → ℕ = g.C.Checksum.sum_of in
    let size : ℕ = c.args.config.now.config.segment_size in
    let s : State = state_of (g.D.Device.trace c.args.config.now.device) in
    let end : ℕ = c.args.end in
    let ss : List Segment = c.args.segments.now in
    damage_as Replay Recovery c.in-Err.e (IsBadPass sum size s.log.bytes s.blobs.file end (begun_below end (take c.args.from ss))) (λ at. Passes sum size s.log.bytes s.blobs.file (model_of c.args.first) ss (Some end) (Damaged at))
    (λ at bad. passes_damaged sum size s.log.bytes s.blobs.file end (model_of c.args.first) ss at
    (bad_all sum size s.log.bytes s.blobs.file end ss c.args.from (map pass_of c.args.tail.items) at bad c.requires.tail))
    c.in-Err.ensures.corrupt
