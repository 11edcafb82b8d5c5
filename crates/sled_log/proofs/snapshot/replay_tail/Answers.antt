use Rattle.std.proofs.Common.{◌∙◌, ℕ, List, Some, map, length, take, drop, ◌++◌, refl, sym, subst, inl, inr}
use Rattle.std.specs.List.{All, Contains}
use Rattle.sled_codec.specs.Snapshots.{model_of}
use Rattle.sled_core.proofs.Read.ReadingLemmas.{if_ok}
use Rattle.sled_core.specs.declared.iterator.Segment.{Segment}
use Rattle.sled_store.specs.declared.config.Config.{Config}
use Rattle.sled_store.specs.Device.{State, Trace, state_of}
use Rattle.sled_log.specs.declared.snapshot.pass.Pass.{Pass}
use Rattle.sled_log.specs.declared.snapshot.recovery.Recovery.{Recovery}
use Rattle.sled_log.specs.Recovery.{HaveGoodBlobs, Passes, Recovered, Damaged, begun_below}
use Rattle.sled_log.specs.Passes.{HasKinds, AreLookedUp, CanBeRead, IsPass, NamesBadTail, PassesBehind, pass_of}
use Rattle.sled_log.specs.WritesBack.{result_of}
use Rattle.sled_log.proofs.Passes.DamageNames.{damage_as, damage_so}
use Rattle.sled_log.proofs.Passes.LookedUp.{scanned_kinds}
use Rattle.sled_log.proofs.Passes.Blobs.{passes_fit, resolved_vec}
use Rattle.sled_log.proofs.Passes.Same.{still_so, still_so_in, was_so_in}
use Rattle.sled_log.proofs.snapshot.replay_tail.Goals as goal

-- the vector behind the look for blobs
abbrev items_of : (n : ℕ) (mid ps : List Pass) → List Pass
items_of n mid ps = take n (mid ++ drop (length mid) ps)

pub look_up-requires-clause-kinds : goal.look_up-requires-clause-kinds
look_up-requires-clause-kinds g c =
    let cfg : Config = c.args.config.now.config in
    let s : State = state_of (g.D.Device.trace c.args.config.now.device) in
    subst (All HasKinds) (sym c.deref_mut.ensures.value) (scanned_kinds g.C.Checksum.sum_of cfg.segment_size s.log.bytes (begun_below c.args.end (drop c.args.from c.args.segments.now)) c.args.tail.items c.requires.scanned)

pub pass_over-requires-clause-ready : goal.pass_over-requires-clause-ready
pass_over-requires-clause-ready g c =
    still_so (λ n l. (s : Segment) → Contains c.args.segments.now s → CanBeRead n l s) c.args.config.now.config c.look_up.new.config.config (g.D.Device.trace c.args.config.now.device) (g.D.Device.trace c.look_up.new.config.device)
    c.in-Ok.ensures.reads.config c.in-Ok.ensures.reads.unwritten c.requires.ready

pub pass_over-requires-clause-fits : goal.pass_over-requires-clause-fits
pass_over-requires-clause-fits g c =
    let cfg : Config = c.args.config.now.config in
    let old : Trace = g.D.Device.trace c.args.config.now.device in
    let ps : List Pass = c.args.tail.items in
    let mid : List Pass = c.look_up.new.passes in
    let is = resolved_vec c.args.end c.args.tail.len ps c.deref_mut.result.now mid (drop (length mid) ps) old old (c.look_up.auto.passes ∙ c.deref_mut.ensures.len) c.in-Ok.ensures.passes c.deref_mut.ensures.value refl in
    subst (λ (x : Config). All (IsPass x.segment_size) (items_of c.args.tail.len mid ps)) (sym c.in-Ok.ensures.reads.config) (passes_fit cfg.segment_size (state_of old).blobs.file c.args.end ps (items_of c.args.tail.len mid ps) is c.requires.fits)

pub pass_over-requires-clause-tail : goal.pass_over-requires-clause-tail
pass_over-requires-clause-tail g c =
    let sum : List ℕ → ℕ = g.C.Checksum.sum_of in
    let cfg : Config = c.args.config.now.config in
    let old : Trace = g.D.Device.trace c.args.config.now.device in
    let ps : List Pass = c.args.tail.items in
    let mid : List Pass = c.look_up.new.passes in
    let begun : List Segment = begun_below c.args.end (drop c.args.from c.args.segments.now) in
    let is = resolved_vec c.args.end c.args.tail.len ps c.deref_mut.result.now mid (drop (length mid) ps) old old (c.look_up.auto.passes ∙ c.deref_mut.ensures.len) c.in-Ok.ensures.passes c.deref_mut.ensures.value refl in
    let looked : AreLookedUp sum cfg.segment_size (state_of old).log.bytes (state_of old).blobs.file c.args.end begun (map pass_of (items_of c.args.tail.len mid ps)) = record {
      scanned = map pass_of ps;
      are = c.requires.scanned;
      good = subst (λ (l : List Pass). HaveGoodBlobs sum (state_of old).blobs.file (map pass_of l)) c.deref_mut.ensures.value c.in-Ok.ensures.good;
      is = is;
    } in
    still_so_in (λ n s. AreLookedUp sum n s.log.bytes s.blobs.file c.args.end begun (map pass_of (items_of c.args.tail.len mid ps))) cfg c.look_up.new.config.config old (g.D.Device.trace c.look_up.new.config.device)
    c.in-Ok.ensures.reads.config c.in-Ok.ensures.reads.unwritten looked

pub returns-in-Ok-clause-ok : goal.returns-in-Ok-clause-ok
returns-in-Ok-clause-ok g c =
    let sum : List ℕ → ℕ = g.C.Checksum.sum_of in
    let cfg : Config = c.args.config.now.config in
    let old : Trace = g.D.Device.trace c.args.config.now.device in
    let s : State = state_of old in
    let good = subst (λ (l : List Pass). HaveGoodBlobs sum s.blobs.file (map pass_of l)) c.deref_mut.ensures.value c.in-Ok.ensures.good in
    if_ok c.pass_over.result _ (λ x. PassesBehind sum cfg.segment_size s.log.bytes s.blobs.file (model_of c.args.first) c.args.segments.now c.args.end (map pass_of c.args.tail.items) (Recovered (result_of x)))
    (λ x passes. (
      good,
      was_so_in (λ n t. Passes sum n t.log.bytes t.blobs.file (model_of c.args.first) c.args.segments.now (Some c.args.end) (Recovered (result_of x))) cfg c.look_up.new.config.config old (g.D.Device.trace c.look_up.new.config.device)
          c.in-Ok.ensures.reads.config c.in-Ok.ensures.reads.unwritten passes,
    ))
    c.pass_over.ensures.ok

pub returns-in-Ok-clause-corrupt : goal.returns-in-Ok-clause-corrupt
returns-in-Ok-clause-corrupt g c =
    let sum : List ℕ → ℕ = g.C.Checksum.sum_of in
    let cfg : Config = c.args.config.now.config in
    let old : Trace = g.D.Device.trace c.args.config.now.device in
    let s : State = state_of old in
    let good = subst (λ (l : List Pass). HaveGoodBlobs sum s.blobs.file (map pass_of l)) c.deref_mut.ensures.value c.in-Ok.ensures.good in
    damage_so c.pass_over.result _ _ (λ at passes. inr (
      good,
      was_so_in (λ n t. Passes sum n t.log.bytes t.blobs.file (model_of c.args.first) c.args.segments.now (Some c.args.end) (Damaged at)) cfg c.look_up.new.config.config old (g.D.Device.trace c.look_up.new.config.device)
          c.in-Ok.ensures.reads.config c.in-Ok.ensures.reads.unwritten passes,
    ))
    c.pass_over.ensures.corrupt

pub returns-in-Err-clause-corrupt : goal.returns-in-Err-clause-corrupt
returns-in-Err-clause-corrupt g c =
    let s : State = state_of (g.D.Device.trace c.args.config.now.device) in
    let sum : List ℕ → ℕ = g.C.Checksum.sum_of in
    damage_as (Unit {0}) Recovery c.in-Err.e (NamesBadTail sum s.blobs.file (map pass_of c.deref_mut.result.now)) _
    (λ at bad. inl (subst (λ (l : List Pass). NamesBadTail sum s.blobs.file (map pass_of l) at) c.deref_mut.ensures.value bad)) c.in-Err.ensures.bad
