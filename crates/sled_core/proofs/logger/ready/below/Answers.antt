-- The first part ends where those begin that aren't below the place.
use Rattle.std.proofs.Common.{rules, arith, ◌≡◌, ◌≤◌, ◌<◌, ap, sym, subst, ℕ, List, length, deque_len}
use Rattle.std.specs.List.Sorted.{IsPartitionedBy, IsPartitionPoint}
use Rattle.std.proofs.lemmas.Bool.{ltb-false, ltb-true}
use Rattle.std.proofs.lemmas.List.Sorted.{IsPartitionPoint-from_clause}
use lib.Dec.{ltb}
use Rattle.sled_core.proofs.Pending.Parted.{is_parted, point_is}
use Rattle.sled_core.proofs.logger.ready.below.Goals as goal

pub returns-clause-point : goal.returns-clause-point
returns-clause-point c xs ys is low high =
    let all : List ℕ = c.args.places.now.items in
    let point = IsPartitionPoint-from_clause (λ (p : ℕ). ltb p c.args.place) all _ c.partition_point.ensures.partitioned
    (subst (IsPartitionedBy (λ p. ltb p c.args.place)) (sym is) (is_parted xs ys c.args.place low high)) (λ a r q k. search rules) in
    let ends : IsPartitionPoint (λ p. p < c.args.place) (λ p. c.args.place ≤ p) all c.partition_point.result =
    (λ k d low high. ltb-true _ _ (point.0 k d low high), λ k d low high. ltb-false _ _ (point.1 k d low high)) in
    let long : deque_len c.args.places.now ≡ length all = search rules in
    let within = c.partition_point.ensures.bound in
    point_is xs ys c.args.place low high c.partition_point.result (omega (arith, long, within, ap length is)) (subst (λ (l : List ℕ). IsPartitionPoint (λ p. p < c.args.place) (λ p. c.args.place ≤ p) l c.partition_point.result) is ends)
