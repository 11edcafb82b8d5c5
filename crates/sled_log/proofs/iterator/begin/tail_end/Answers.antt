use Rattle.std.proofs.Common.{◌≡◌, ℕ, ℤ, List, Option, None, true, map, sym, subst, arith}
use Rattle.std.specs.List.{All, Contains}
use Rattle.sled_core.specs.declared.iterator.Segment.{Segment}
use Rattle.sled_store.specs.declared.config.Config.{Config}
use Rattle.sled_store.specs.Device.{Trace, state_of}
use Rattle.sled_log.specs.declared.snapshot.pass.Pass.{Pass}
use Rattle.sled_log.specs.declared.snapshot.tail.Tail.{Tail}
use Rattle.sled_log.specs.Recovery.{Scanned, HaveGoodBlobs, IsTail, is_ascending, IsDamagedTail}
use Rattle.sled_log.specs.Passes.{HasKinds, NamesBadTail, pass_of}
use Rattle.sled_log.proofs.Passes.Ascending.{ascends_behind}
use Rattle.sled_log.proofs.Passes.DamageNames.{damage_as, damage_unnamed}
use Rattle.sled_log.proofs.Passes.WholeTail.{damaged_blob, damaged_of_all, in_dropped, sliced, tail_of_all}
use Rattle.sled_log.proofs.Iterates.FoundLemmas.{tail_kinds}
use Rattle.sled_log.proofs.iterator.begin.tail_end.Goals as goal

pub read_tail-requires-clause-ready : goal.read_tail-requires-clause-ready
read_tail-requires-clause-ready g c = λ s there.
    let ss : List Segment = c.args.segments.now in
    let n : ℕ = c.count_below-from.result in
    c.requires.ready s (in_dropped n ss s (subst (λ (l : List Segment). Contains l s) (sliced ss n) there))

pub read_tail-requires-clause-ascending : goal.read_tail-requires-clause-ascending
read_tail-requires-clause-ascending g c =
    let ss : List Segment = c.args.segments.now in
    let n : ℕ = c.count_below-from.result in
    subst (λ (l : List Segment). is_ascending l ≡ true) (sym (sliced ss n)) (ascends_behind ss n c.requires.ascending)

pub check_passes-requires : goal.check_passes-requires
check_passes-requires g c =
    let cfg : Config = c.args.config.now.config in
    let log : List ℕ = (state_of (g.D.Device.trace c.args.config.now.device)).log.bytes in
    record { kinds = subst (All HasKinds) (sym c.deref.ensures.value) (tail_kinds g.C.Checksum.sum_of cfg.segment_size log _ c.args.begin c.in-Ok.tail.passes.items c.in-Ok.ensures.tail) }

pub returns-in-Ok-check_passes-clause-end : goal.returns-in-Ok-check_passes-clause-end
returns-in-Ok-check_passes-clause-end g c =
    let sum : List ℕ → ℕ = g.C.Checksum.sum_of in
    let cfg : Config = c.args.config.now.config in
    let old : Trace = g.D.Device.trace c.args.config.now.device in
    let now : Trace = g.D.Device.trace c.read_tail.new.config.device in
    let log : List ℕ = (state_of old).log.bytes in
    let ss : List Segment = c.args.segments.now in
    let n : ℕ = c.count_below-from.result in
    let begin : ℕ = c.args.begin in
    let xs : List Scanned = map pass_of c.in-Ok.tail.passes.items in
    let tail = tail_of_all sum cfg.segment_size log n begin ss c.count_below-from.ensures.below begin xs (omega arith) (subst (λ (l : List Segment). IsTail sum cfg.segment_size log l begin xs) (sliced ss n) c.in-Ok.ensures.tail) in
    let good = subst (λ (t : Trace). HaveGoodBlobs sum (state_of t).blobs.file xs) c.in-Ok.ensures.reads.unwritten (rw c.deref.ensures.value at c.in-Ok-check_passes.ensures.good) in
    (xs, tail, good, c.in-Ok.ensures.end)

pub returns-in-Ok-clause-damaged : goal.returns-in-Ok-clause-damaged
returns-in-Ok-clause-damaged g c =
    let sum : List ℕ → ℕ = g.C.Checksum.sum_of in
    let cfg : Config = c.args.config.now.config in
    let old : Trace = g.D.Device.trace c.args.config.now.device in
    let log : List ℕ = (state_of old).log.bytes in
    let ss : List Segment = c.args.segments.now in
    let n : ℕ = c.count_below-from.result in
    let begin : ℕ = c.args.begin in
    let xs : List Scanned = map pass_of c.in-Ok.tail.passes.items in
    let tail = tail_of_all sum cfg.segment_size log n begin ss c.count_below-from.ensures.below begin xs (omega arith) (subst (λ (l : List Segment). IsTail sum cfg.segment_size log l begin xs) (sliced ss n) c.in-Ok.ensures.tail) in
    let now : Trace = g.D.Device.trace c.read_tail.new.config.device in
    damage_as (Unit {0}) (Option ℕ) c.in-Err-check_passes.e (NamesBadTail sum (state_of now).blobs.file (map pass_of c.deref.result.now)) (IsDamagedTail sum cfg.segment_size log (state_of old).blobs.file ss begin) (λ at bad.
    damaged_blob sum cfg.segment_size log (state_of old).blobs.file ss begin xs at tail
    (subst (λ (t : Trace). NamesBadTail sum (state_of t).blobs.file xs at) c.in-Ok.ensures.reads.unwritten (subst (λ (l : List Pass). NamesBadTail sum (state_of now).blobs.file (map pass_of l) at) c.deref.ensures.value bad)))
    c.in-Err-check_passes.ensures.bad

pub returns-clause-damaged : goal.returns-clause-damaged
returns-clause-damaged g c =
    let size : ℕ = c.args.config.now.config.segment_size in
    let old : Trace = g.D.Device.trace c.args.config.now.device in
    let log : List ℕ = (state_of old).log.bytes in
    let blobs : ℤ → Option (List ℕ) = (state_of old).blobs.file in
    let ss : List Segment = c.args.segments.now in
    let n : ℕ = c.count_below-from.result in
    let begin : ℕ = c.args.begin in
    damage_unnamed Tail (Option ℕ) c.in-Err.e _ _ (IsDamagedTail g.C.Checksum.sum_of size log blobs ss begin) c.in-Err.ensures.answers
    (λ corrupt. damaged_of_all g.C.Checksum.sum_of size log blobs n ss begin None (subst (λ (l : List Segment). IsDamagedTail g.C.Checksum.sum_of size log blobs l begin None) (sliced ss n) (c.in-Err.ensures.damaged corrupt)))
