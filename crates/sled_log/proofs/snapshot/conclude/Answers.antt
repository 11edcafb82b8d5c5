use Rattle.std.proofs.Common.{ℕ, Bool, true, false, List, Option, None, length, refl, sym, subst, inl, inr}
use Rattle.sled_codec.specs.declared.result.DiskPtr.{DiskPtr}
use Rattle.sled_codec.specs.Snapshots.{SnapshotModel, model_of}
use Rattle.sled_store.specs.Begin.{IsStartable}
use Rattle.sled_store.specs.declared.config.Config.{Config}
use Rattle.sled_store.specs.Device.{Content, Trace, content_of, state_of}
use Rattle.sled_log.specs.declared.snapshot.recovery.Recovery.{Recovery}
use Rattle.sled_log.specs.Recovery.{Damaged, Recovers}
use Rattle.sled_log.specs.Restores.{TakesForDamage}
use Rattle.sled_log.specs.WritesBack.{result_of}
use Rattle.sled_log.proofs.Passes.DamageNames.{damage_as, damage_unnamed}
use Rattle.sled_log.proofs.Passes.Same.{was_so_in}
use Rattle.sled_log.proofs.snapshot.conclude.Goals as goal

-- damage that a recovery concludes is damage, whether a log is to begin or not
taken : (sum : List ℕ → ℕ) (size : ℕ) (content : Content) (is_to_start : Bool) (at : Option DiskPtr) → Recovers sum size content (Damaged at) → TakesForDamage is_to_start sum size content at
taken sum size content true at damaged = inl damaged
taken sum size content false at damaged = damaged

pub returns-in-Err-clause-corrupt : goal.returns-in-Err-clause-corrupt
returns-in-Err-clause-corrupt g c =
    let sum = g.C.Checksum.sum_of in
    let size : ℕ = c.args.config.now.config.segment_size in
    let content : Content = content_of (state_of (g.D.Device.trace c.args.config.now.device)) in
    damage_as Recovery Recovery c.in-Err.e (λ at. Recovers sum size content (Damaged at)) (TakesForDamage c.args.is_to_start sum size content) (taken sum size content c.args.is_to_start) c.in-Err.ensures.corrupt

pub returns-in-Err-require_startable-clause-corrupt : goal.returns-in-Err-require_startable-clause-corrupt
returns-in-Err-require_startable-clause-corrupt g c =
    let sum = g.C.Checksum.sum_of in
    let cfg : Config = c.args.config.now.config in
    let size : ℕ = cfg.segment_size in
    let old : Trace = g.D.Device.trace c.args.config.now.device in
    let content : Content = content_of (state_of old) in
    let m : SnapshotModel = model_of c.in-Ok.recovery.snapshot in
    damage_unnamed (Unit {0}) Recovery c.in-Err-require_startable.e _ _ (TakesForDamage c.args.is_to_start sum size content) c.in-Err-require_startable.ensures.answers
    (λ corrupt. subst (λ (b : Bool). TakesForDamage b sum size content None) (sym c.if-is_to_start.true) (inr (
      refl,
      result_of c.in-Ok.recovery,
      c.in-Ok.ensures.ok,
      was_so_in (λ n s. IsStartable n (length s.log.bytes) m → ⊥) cfg c.recover.new.config.config old (g.D.Device.trace c.recover.new.config.device) c.in-Ok.ensures.reads.config c.in-Ok.ensures.reads.unwritten (c.in-Err-require_startable.ensures.corrupt corrupt),
    )))
