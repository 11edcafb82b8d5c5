use Rattle.std.proofs.Common.{◌∙◌, ◌≡◌, ◌⊎◌, ◌%◌, ◌/◌, ◌*◌, ◌≤◌, ℕ, ℤ, List, Option, None, true, map, ap, sym, subst, inl, inr}
use Rattle.std.specs.List.{All, Contains}
use Rattle.std.proofs.Math.Nat.{mul-mod_left}
use Rattle.sled_core.proofs.Read.ReadingLemmas.{if_ok}
use Rattle.sled_core.specs.declared.iterator.Segment.{Segment}
use Rattle.sled_codec.specs.Snapshots.{SnapshotModel, model_of}
use Rattle.sled_store.specs.declared.config.Config.{Config}
use Rattle.sled_store.specs.Device.{Trace, state_of}
use Rattle.sled_log.specs.declared.snapshot.recovery.Recovery.{Recovery}
use Rattle.sled_log.specs.declared.snapshot.tail.Tail.{Tail}
use Rattle.sled_log.specs.Recovery.{Scanned, is_ascending, ContinuesFrom, unchanged, slots_in_order, greatest_mark, Recovered, Damaged, least_place}
use Rattle.sled_log.specs.Passes.{CanBeRead, ContinuesOn, NamesBadTail, PassesBehind, pass_of}
use Rattle.sled_log.specs.WritesBack.{result_of}
use Rattle.sled_log.proofs.Passes.Ascending.{ascends_behind}
use Rattle.sled_log.proofs.Passes.WholeTail.{in_dropped, placed_from, sliced}
use Rattle.sled_log.proofs.Passes.Same.{was_so_in, still_so}
use Rattle.sled_log.proofs.Passes.Found.{all_ready}
use Rattle.sled_log.proofs.Passes.DamageNames.{damage_so, damage_unnamed}
use Rattle.sled_log.proofs.Passes.Continues.{behind_bad, behind_damaged, behind_passing, behind_unchanged}
use Rattle.sled_log.proofs.snapshot.continue_over.Goals as goal

pub read_tail-requires-clause-ready : goal.read_tail-requires-clause-ready
read_tail-requires-clause-ready g c = λ s there.
    let cfg : Config = c.args.config.now.config in
    let log : List ℕ = (state_of (g.D.Device.trace c.args.config.now.device)).log.bytes in
    let ss : List Segment = c.args.segments.now in
    let n : ℕ = c.count_below-from.result in
    all_ready g.C.Checksum.sum_of cfg.segment_size log (least_place cfg.segment_size (model_of c.args.first)) ss c.requires.small c.requires.ordering s (in_dropped n ss s (subst (λ (l : List Segment). Contains l s) (sliced ss n) there))

pub read_tail-requires-clause-ascending : goal.read_tail-requires-clause-ascending
read_tail-requires-clause-ascending g c =
    let ss : List Segment = c.args.segments.now in
    let n : ℕ = c.count_below-from.result in
    subst (λ (l : List Segment). is_ascending l ≡ true) (sym (sliced ss n)) (ascends_behind ss n c.requires.ordering.ascending)

pub read_tail-requires-clause-placed : goal.read_tail-requires-clause-placed
read_tail-requires-clause-placed g c =
    let size : ℕ = c.args.config.now.config.segment_size in
    let log : List ℕ = (state_of (g.D.Device.trace c.args.config.now.device)).log.bytes in
    let ss : List Segment = c.args.segments.now in
    let n : ℕ = c.count_below-from.result in
    let begin : ℕ = c.tail_begins-begin.result in
    subst (All (λ (s : Segment). (s.place % size ≡ 0) × (begin ≤ s.place))) (sym (sliced ss n))
    (placed_from g.C.Checksum.sum_of size log (least_place size (model_of c.args.first)) begin n ss c.requires.ordering c.count_below-from.ensures.above)

pub read_tail-requires-clause-begin : goal.read_tail-requires-clause-begin
read_tail-requires-clause-begin g c =
    let size : ℕ = c.args.config.now.config.segment_size in
    let ss : List Segment = c.args.segments.now in
    let greatest : ℕ = greatest_mark (c.stable_place.result / size * size) ss in
    ap (λ k. k % size) c.tail_begins-begin.ensures ∙ mul-mod_left (greatest / size) size

pub replay_tail-requires-clause-ready : goal.replay_tail-requires-clause-ready
replay_tail-requires-clause-ready g c =
    let cfg : Config = c.args.config.now.config in
    let before : Trace = g.D.Device.trace c.args.config.now.device in
    still_so (λ n l. (s : Segment) → Contains c.args.segments.now s → CanBeRead n l s) cfg c.read_tail.new.config.config before (g.D.Device.trace c.read_tail.new.config.device) c.in-Ok.ensures.reads.config c.in-Ok.ensures.reads.unwritten
    (all_ready g.C.Checksum.sum_of cfg.segment_size (state_of before).log.bytes (least_place cfg.segment_size (model_of c.args.first)) c.args.segments.now c.requires.small c.requires.ordering)

pub returns-in-Some-clause-ok : goal.returns-in-Some-clause-ok
returns-in-Some-clause-ok g c =
    let sum : List ℕ → ℕ = g.C.Checksum.sum_of in
    let cfg : Config = c.args.config.now.config in
    let old : Trace = g.D.Device.trace c.args.config.now.device in
    let first : SnapshotModel = model_of c.args.first in
    let xs : List Scanned = map pass_of c.in-Ok.tail.passes.items in
    let end : ℕ = c.in-Some.end in
    if_ok c.replay_tail.result _ (λ x. ContinuesOn g.D.Device.trace sum c.args.config.now c.args.first (Recovered (result_of x)))
    (λ x behind.
    behind_passing sum cfg.segment_size (state_of old).log.bytes (state_of old).blobs.file first c.args.segments.now c.requires.ordering
    c.tail_begins-begin.ensures c.stable_place.ensures.place c.count_below-from.result xs c.count_below-from.ensures.below c.in-Ok.ensures.tail end
    (c.in-Ok.ensures.end ∙ c.in-Some.is) (Recovered (result_of x))
    (was_so_in (λ k s. PassesBehind sum k s.log.bytes s.blobs.file first c.args.segments.now end xs (Recovered (result_of x))) cfg
    c.read_tail.new.config.config old (g.D.Device.trace c.read_tail.new.config.device) c.in-Ok.ensures.reads.config c.in-Ok.ensures.reads.unwritten behind))
    c.replay_tail.ensures.ok

pub returns-in-Some-clause-corrupt : goal.returns-in-Some-clause-corrupt
returns-in-Some-clause-corrupt g c =
    let sum : List ℕ → ℕ = g.C.Checksum.sum_of in
    let cfg : Config = c.args.config.now.config in
    let size : ℕ = cfg.segment_size in
    let old : Trace = g.D.Device.trace c.args.config.now.device in
    let log : List ℕ = (state_of old).log.bytes in
    let blobs : ℤ → Option (List ℕ) = (state_of old).blobs.file in
    let ss : List Segment = c.args.segments.now in
    let first : SnapshotModel = model_of c.args.first in
    let xs : List Scanned = map pass_of c.in-Ok.tail.passes.items in
    let end : ℕ = c.in-Some.end in
    damage_so c.replay_tail.result _ (λ at. ContinuesOn g.D.Device.trace sum c.args.config.now c.args.first (Damaged at)) (λ at damaged.
    elim (was_so_in (λ k s. NamesBadTail sum s.blobs.file xs at ⊎ PassesBehind sum k s.log.bytes s.blobs.file first ss end xs (Damaged at)) cfg
    c.read_tail.new.config.config old (g.D.Device.trace c.read_tail.new.config.device) c.in-Ok.ensures.reads.config c.in-Ok.ensures.reads.unwritten damaged) [
      | inl bad ↦ behind_bad sum size log blobs first ss c.requires.ordering c.tail_begins-begin.ensures c.stable_place.ensures.place
          c.count_below-from.result xs c.count_below-from.ensures.below c.in-Ok.ensures.tail at bad
      | inr here ↦ behind_passing sum size log blobs first ss c.requires.ordering c.tail_begins-begin.ensures c.stable_place.ensures.place
          c.count_below-from.result xs c.count_below-from.ensures.below c.in-Ok.ensures.tail end (c.in-Ok.ensures.end ∙ c.in-Some.is) (Damaged at) here
    ])
    c.replay_tail.ensures.corrupt

pub returns-in_ok-slots_of-in-None-clause-ok : goal.returns-in_ok-slots_of-in-None-clause-ok
returns-in_ok-slots_of-in-None-clause-ok g c =
    let sum : List ℕ → ℕ = g.C.Checksum.sum_of in
    let size : ℕ = c.args.config.now.config.segment_size in
    let old : Trace = g.D.Device.trace c.args.config.now.device in
    let log : List ℕ = (state_of old).log.bytes in
    let blobs : ℤ → Option (List ℕ) = (state_of old).blobs.file in
    let ss : List Segment = c.args.segments.now in
    let first : SnapshotModel = model_of c.args.first in
    let is : result_of c.unchanged.result ≡ unchanged first (slots_in_order ss) = c.unchanged.ensures ∙ ap (unchanged first) c.in_ok-slots_of-in-None.ensures.slots in
    subst (λ x. ContinuesFrom sum size log blobs first (Recovered x)) (sym is)
    (behind_unchanged sum size log blobs first ss c.requires.ordering c.tail_begins-begin.ensures c.stable_place.ensures.place
    c.count_below-from.result (map pass_of c.in-Ok.tail.passes.items) c.count_below-from.ensures.below c.in-Ok.ensures.tail
    (c.in-Ok.ensures.end ∙ c.in-None.is))

pub returns-in-Err-clause-corrupt : goal.returns-in-Err-clause-corrupt
returns-in-Err-clause-corrupt g c =
    let size : ℕ = c.args.config.now.config.segment_size in
    let old : Trace = g.D.Device.trace c.args.config.now.device in
    damage_unnamed Tail Recovery c.in-Err.e _ _ (λ at. ContinuesOn g.D.Device.trace g.C.Checksum.sum_of c.args.config.now c.args.first (Damaged at)) c.in-Err.ensures.answers
    (λ corrupt. behind_damaged g.C.Checksum.sum_of size (state_of old).log.bytes (state_of old).blobs.file (model_of c.args.first) c.args.segments.now
    c.requires.ordering c.tail_begins-begin.ensures c.stable_place.ensures.place c.count_below-from.result None (c.in-Err.ensures.damaged corrupt))
