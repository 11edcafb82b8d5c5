use Rattle.std.proofs.Common.{◌*◌, ◌/◌, ℕ, List, subst}
use Rattle.std.specs.Prelude.{Vec}
use Rattle.std.specs.declared.alloc.Global.{Global}
use Rattle.sled_codec.specs.Snapshots.{model_of}
use Rattle.sled_store.specs.declared.config.Config.{Config}
use Rattle.sled_store.specs.Device.{state_of}
use Rattle.sled_core.specs.declared.iterator.Segment.{Segment}
use Rattle.sled_log.specs.declared.snapshot.recovery.Recovery.{Recovery}
use Rattle.sled_log.specs.Passes.{ContinuesOn}
use Rattle.sled_log.specs.Recovery.{Damaged, IsUnordered}
use Rattle.sled_log.proofs.Passes.DamageNames.{damage_unnamed}
use Rattle.sled_log.proofs.Passes.Continues.{comes_unordered}
use Rattle.sled_log.proofs.snapshot.continue_from.Goals as goal

pub returns-in-Err-clause-corrupt : goal.returns-in-Err-clause-corrupt
returns-in-Err-clause-corrupt g c =
    let cfg : Config = c.args.config.now.config in
    let log : List ℕ = (state_of (g.D.Device.trace c.args.config.now.device)).log.bytes in
    damage_unnamed (Vec Segment Global) Recovery c.in-Err.e _ _ (λ at. ContinuesOn g.D.Device.trace g.C.Checksum.sum_of c.args.config.now c.args.first (Damaged at)) c.in-Err.ensures.answers
    (λ corrupt. comes_unordered g.C.Checksum.sum_of cfg.segment_size log (state_of (g.D.Device.trace c.args.config.now.device)).blobs.file (model_of c.args.first)
    (subst (λ n. IsUnordered g.C.Checksum.sum_of cfg.segment_size log (n / cfg.segment_size * cfg.segment_size)) c.stable_place.ensures.place (c.in-Err.ensures.corrupt corrupt)))
