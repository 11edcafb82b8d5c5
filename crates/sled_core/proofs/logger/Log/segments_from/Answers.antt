use Rattle.std.proofs.Common.{rules, ◌≡◌, ◌∙◌, ℕ, List, ap, subst}
use Rattle.std.specs.Int.{w64}
use Rattle.std.specs.List.Sorted.{IsPermutation}
use Rattle.std.proofs.lemmas.Int.{to_z-of_z}
use Rattle.std.proofs.lemmas.List.Sorted.{All-permutation, IsNonDecreasingBy-from_sort_by_key}
use Rattle.sled_store.specs.Accounts.{machine_of}
use Rattle.sled_core.specs.Ahead.{HasEnds}
use Rattle.sled_core.specs.LogSegments.{begins_from, segments_among}
use Rattle.sled_core.specs.declared.iterator.Segment.{Segment}
use Rattle.sled_core.proofs.logger.Log.segments_from.Goals as goal

pub returns-clause-segments : goal.returns-clause-segments
returns-clause-segments g c =
    let size : ℕ = c.args.self.now.config.config.segment_size in
    let m = machine_of c.args.self.now.accountant in
    let from : c.begins_from-from.result ≡ begins_from size c.args.lsn = c.begins_from-from.ensures.is ∙ ap (begins_from size) (to_z-of_z w64 c.args.lsn c.ranges.lsn) in
    record {
      are = subst (λ n. IsPermutation (segments_among size n c.args.to 0 m.slots) c.sort_by_key.new.self.items) from
          (subst (λ (ss : List Segment). IsPermutation ss c.sort_by_key.new.self.items) c.in_ok-segments.ensures.segments c.in_ok-sort_by_key.ensures.permutation);
      by_place = IsNonDecreasingBy-from_sort_by_key (λ (s : Segment). s.place) _ c.in_ok-sort_by_key.ensures.sorted (λ a r q k. search rules);
    }

pub returns-clause-ends : goal.returns-clause-ends
returns-clause-ends g c = All-permutation (HasEnds c.args.self.now.config.config.segment_size) _ _ c.in_ok-sort_by_key.ensures.permutation c.in_ok-segments.ensures.ends
