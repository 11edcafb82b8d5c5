use Rattle.std.proofs.Common.{rules, ◌⊎◌, ℕ, List, sym, subst}
use Rattle.std.specs.List.Sorted.{IsNonDecreasingBy}
use Rattle.std.proofs.lemmas.List.Sorted.{IsNonDecreasingBy-from_sort_by_key}
use Rattle.std.specs.List.{Contains}
use Rattle.sled_store.specs.declared.config.Config.{Config}
use Rattle.sled_core.specs.inside.Scan.{IsMisplaced}
use Rattle.sled_log.specs.Ordering.{ShareAPlace}
use Rattle.sled_store.specs.Device.{state_of}
use Rattle.sled_core.specs.declared.iterator.Segment.{Segment}
use Rattle.sled_log.proofs.Ordering.SortedSegments.{in_order, unordered}
use Rattle.sled_log.proofs.snapshot.ordering.find_segments.Goals as goal

pub are_of_one_log-requires-clause-sorted : goal.are_of_one_log-requires-clause-sorted
are_of_one_log-requires-clause-sorted g c =
    subst (IsNonDecreasingBy (λ (s : Segment). s.place)) (sym c.deref.ensures.value)
    (IsNonDecreasingBy-from_sort_by_key (λ (s : Segment). s.place) _ c.in_ok-sort_by_key.ensures.sorted (λ a r q k. search rules))

pub returns-then-not-are_of_one_log-clause-corrupt :
    goal.returns-then-not-are_of_one_log-clause-corrupt
returns-then-not-are_of_one_log-clause-corrupt g c = λ corrupt.
    let log : List ℕ = (state_of (g.D.Device.trace c.args.config.now.device)).log.bytes in
    unordered g.C.Checksum.sum_of c.args.config.now.config.segment_size log c.args.least c.in_ok-segments.segments.items c.sort_by_key.new.self.items c.in_ok-segments.ensures.collected c.in_ok-sort_by_key.ensures.permutation
    (subst (λ (x : Config). ((s : Segment) × Contains c.sort_by_key.new.self.items s × IsMisplaced x.segment_size s) ⊎ ShareAPlace c.sort_by_key.new.self.items) c.in_ok-segments.ensures.reads.config
    (rw c.deref.ensures.value at (c.are_of_one_log.ensures.not c.if-not-are_of_one_log.true)))

pub returns-clause-ordering : goal.returns-clause-ordering
returns-clause-ordering g c =
    let log : List ℕ = (state_of (g.D.Device.trace c.args.config.now.device)).log.bytes in
    in_order g.C.Checksum.sum_of c.args.config.now.config.segment_size log c.args.least c.in_ok-segments.segments.items c.sort_by_key.new.self.items c.in_ok-segments.ensures.collected c.in_ok-sort_by_key.ensures.permutation
    (rw c.deref.ensures.value at (c.are_of_one_log.ensures.ascending c.if-not-are_of_one_log.false))
    (subst (λ (x : Config). (s : Segment) → Contains c.sort_by_key.new.self.items s → IsMisplaced x.segment_size s → ⊥) c.in_ok-segments.ensures.reads.config
    (rw c.deref.ensures.value at (c.are_of_one_log.ensures.placed c.if-not-are_of_one_log.false)))
