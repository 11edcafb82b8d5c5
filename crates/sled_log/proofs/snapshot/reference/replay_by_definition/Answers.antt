use Rattle.std.proofs.Common.{◌≡◌, ◌∙◌, ℕ, List, Option, Some, ap, sym, subst}
use Rattle.std.specs.List.{Contains}
use Rattle.sled_core.proofs.Read.ReadingLemmas.{if_ok}
use Rattle.sled_core.specs.declared.iterator.Segment.{Segment}
use Rattle.sled_codec.specs.Snapshots.{SnapshotModel, model_of}
use Rattle.sled_store.specs.declared.config.Config.{Config}
use Rattle.sled_store.specs.Device.{Trace, state_of}
use Rattle.sled_log.specs.declared.snapshot.recovery.Recovery.{Recovery}
use Rattle.sled_log.specs.Recovery.{ContinuesFrom, unchanged, slots_in_order, IsTail, IsDamagedTail, Passes, Recovered, Damaged, least_place}
use Rattle.sled_log.specs.Passes.{CanBeRead}
use Rattle.sled_log.specs.WritesBack.{result_of}
use Rattle.sled_log.proofs.Passes.DamageNames.{damage_as, damage_so}
use Rattle.sled_log.proofs.Passes.Same.{was_so_in, still_so}
use Rattle.sled_log.proofs.Passes.Found.{all_ready}
use Rattle.sled_log.proofs.Passes.Continues.{begins_there, comes_damaged, comes_unchanged, comes_passing}
use Rattle.sled_log.proofs.snapshot.reference.replay_by_definition.Goals as goal

pub tail_end-requires : goal.tail_end-requires
tail_end-requires g c =
    let cfg : Config = c.args.config.now.config in
    let log : List ℕ = (state_of (g.D.Device.trace c.args.config.now.device)).log.bytes in
    record { ready = all_ready g.C.Checksum.sum_of cfg.segment_size log (least_place cfg.segment_size (model_of c.args.first)) c.args.segments.now c.requires.small c.requires.ordering }

pub pass_over-requires-clause-ready : goal.pass_over-requires-clause-ready
pass_over-requires-clause-ready g c =
    let cfg : Config = c.args.config.now.config in
    let before : Trace = g.D.Device.trace c.args.config.now.device in
    still_so (λ n l. (s : Segment) → Contains c.args.segments.now s → CanBeRead n l s) cfg c.tail_end.new.config.config before (g.D.Device.trace c.tail_end.new.config.device) c.in-Ok-Some.ensures.reads.config c.in-Ok-Some.ensures.reads.unwritten
    (all_ready g.C.Checksum.sum_of cfg.segment_size (state_of before).log.bytes (least_place cfg.segment_size (model_of c.args.first)) c.args.segments.now c.requires.small c.requires.ordering)

pub returns-in-Ok-Some-clause-ok : goal.returns-in-Ok-Some-clause-ok
returns-in-Ok-Some-clause-ok g c =
    let cfg : Config = c.args.config.now.config in
    let size : ℕ = cfg.segment_size in
    let before : Trace = g.D.Device.trace c.args.config.now.device in
    let log : List ℕ = (state_of before).log.bytes in
    let ss : List Segment = c.args.segments.now in
    let first : SnapshotModel = model_of c.args.first in
    let end : ℕ = c.in-Ok-Some.end in
    let begins = begins_there size c.stable_place.result c.tail_begins.result first ss c.tail_begins.ensures c.stable_place.ensures.place in
    let tail = c.in-Ok-Some.ensures.end in
    if_ok c.pass_over.result _ _ (λ x passed.
    comes_passing g.C.Checksum.sum_of size log (state_of before).blobs.file first ss c.requires.ordering tail.0 (subst (λ n. IsTail g.C.Checksum.sum_of size log ss n tail.0) begins tail.1) tail.2 end (tail.3 ∙ c.in-Ok-Some.field-0-is)
    (Recovered (result_of x))
    (was_so_in (λ n s. Passes g.C.Checksum.sum_of n s.log.bytes s.blobs.file first ss (Some end) (Recovered (result_of x))) cfg c.tail_end.new.config.config before (g.D.Device.trace c.tail_end.new.config.device)
    c.in-Ok-Some.ensures.reads.config c.in-Ok-Some.ensures.reads.unwritten passed))
    c.pass_over.ensures.ok

pub returns-in-Ok-Some-clause-corrupt : goal.returns-in-Ok-Some-clause-corrupt
returns-in-Ok-Some-clause-corrupt g c =
    let cfg : Config = c.args.config.now.config in
    let size : ℕ = cfg.segment_size in
    let before : Trace = g.D.Device.trace c.args.config.now.device in
    let log : List ℕ = (state_of before).log.bytes in
    let ss : List Segment = c.args.segments.now in
    let first : SnapshotModel = model_of c.args.first in
    let end : ℕ = c.in-Ok-Some.end in
    let begins = begins_there size c.stable_place.result c.tail_begins.result first ss c.tail_begins.ensures c.stable_place.ensures.place in
    let tail = c.in-Ok-Some.ensures.end in
    damage_so c.pass_over.result _ _ (λ at passed.
    comes_passing g.C.Checksum.sum_of size log (state_of before).blobs.file first ss c.requires.ordering tail.0 (subst (λ n. IsTail g.C.Checksum.sum_of size log ss n tail.0) begins tail.1) tail.2 end (tail.3 ∙ c.in-Ok-Some.field-0-is) (Damaged at)
    (was_so_in (λ n s. Passes g.C.Checksum.sum_of n s.log.bytes s.blobs.file first ss (Some end) (Damaged at)) cfg c.tail_end.new.config.config before (g.D.Device.trace c.tail_end.new.config.device)
    c.in-Ok-Some.ensures.reads.config c.in-Ok-Some.ensures.reads.unwritten passed))
    c.pass_over.ensures.corrupt

pub returns-in_ok-slots_of-in-Ok-None-clause-ok : goal.returns-in_ok-slots_of-in-Ok-None-clause-ok
returns-in_ok-slots_of-in-Ok-None-clause-ok g c =
    let cfg : Config = c.args.config.now.config in
    let size : ℕ = cfg.segment_size in
    let log : List ℕ = (state_of (g.D.Device.trace c.args.config.now.device)).log.bytes in
    let blobs = (state_of (g.D.Device.trace c.args.config.now.device)).blobs.file in
    let ss : List Segment = c.args.segments.now in
    let first : SnapshotModel = model_of c.args.first in
    let begins = begins_there size c.stable_place.result c.tail_begins.result first ss c.tail_begins.ensures c.stable_place.ensures.place in
    let tail = c.in-Ok-None.ensures.end in
    let is : result_of c.unchanged.result ≡ unchanged first (slots_in_order ss) = c.unchanged.ensures ∙ ap (unchanged first) c.in_ok-slots_of-in-Ok-None.ensures.slots in
    subst (λ x. ContinuesFrom g.C.Checksum.sum_of size log blobs first (Recovered x)) (sym is)
    (comes_unchanged g.C.Checksum.sum_of size log blobs first ss c.requires.ordering tail.0 (subst (λ n. IsTail g.C.Checksum.sum_of size log ss n tail.0) begins tail.1) tail.2 (tail.3 ∙ c.in-Ok-None.field-0-is))

pub returns-in-Err-clause-corrupt : goal.returns-in-Err-clause-corrupt
returns-in-Err-clause-corrupt g c =
    let cfg : Config = c.args.config.now.config in
    let size : ℕ = cfg.segment_size in
    let log : List ℕ = (state_of (g.D.Device.trace c.args.config.now.device)).log.bytes in
    let ss : List Segment = c.args.segments.now in
    let first : SnapshotModel = model_of c.args.first in
    let begins = begins_there size c.stable_place.result c.tail_begins.result first ss c.tail_begins.ensures c.stable_place.ensures.place in
    let blobs = (state_of (g.D.Device.trace c.args.config.now.device)).blobs.file in
    damage_as (Option ℕ) Recovery c.in-Err.e (IsDamagedTail g.C.Checksum.sum_of size log blobs ss c.tail_begins.result) (λ at. ContinuesFrom g.C.Checksum.sum_of size log blobs first (Damaged at))
    (λ at damaged. comes_damaged g.C.Checksum.sum_of size log blobs first ss c.requires.ordering at (subst (λ n. IsDamagedTail g.C.Checksum.sum_of size log blobs ss n at) begins damaged)) c.in-Err.ensures.damaged
