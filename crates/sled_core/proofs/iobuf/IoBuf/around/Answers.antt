use Rattle.std.proofs.Common.{◌∙◌, ◌≤◌, ◌<◌, arith, rules, length, ap, sym, Some, ℕ, List}
use Rattle.std.specs.List.Sorted.{IsNonDecreasingBy, IsPartitionPoint}
use Rattle.std.proofs.lemmas.Option.{slice_get-get_or}
use Rattle.sled_core.specs.declared.iobuf.IoBuf.{IoBuf}
use Rattle.sled_core.specs.declared.iobuf.Sealed.{Sealed}
use Rattle.sled_core.specs.SealedBuffers.{sealed_end}
use Rattle.sled_core.proofs.Sealed.Around.{end_within}
use Rattle.sled_core.proofs.Sealed.InBuffer.{ends_in_order}
use Rattle.sled_core.proofs.iobuf.IoBuf.around.Goals as goal

abbrev IsPoint : ℕ → List Sealed → ℕ → Type 0
IsPoint at bs k = IsPartitionPoint (λ (b : Sealed). b.end ≤ at) (λ (b : Sealed). at < b.end) bs k

point_at : (b : IoBuf) (at k : ℕ) → (IsNonDecreasingBy (λ (x : Sealed). x.end) b.sealed.items → IsPoint at b.sealed.items k) → IsPoint at b.sealed.items k
point_at b at k point = point (ends_in_order b.written_len b.reserved.items b.sealed.items b.are)

ends_there : (b : IoBuf) (at k : ℕ) → b.written_len ≤ at → at < sealed_end b.written_len b.sealed.items → IsPoint at b.sealed.items k → k < length b.sealed.items
ends_there b at k behind sealed point = end_within b.written_len at b.sealed.items k behind sealed (λ j d lt. point.0 j d (omega arith) lt)

pub index-requires : goal.index-requires
index-requires c =
    let b = c.args.self.now in
    let within = ends_there b c.args.at c.ended_before-k.result c.requires.behind c.requires.sealed (point_at b c.args.at c.ended_before-k.result c.ended_before-k.ensures) in
    search (rules, within)

pub returns-clause-within : goal.returns-clause-within
returns-clause-within c = let b = c.args.self.now in ends_there b c.args.at c.ended_before-k.result c.requires.behind c.requires.sealed (point_at b c.args.at c.ended_before-k.result c.ended_before-k.ensures)

pub returns-clause-there : goal.returns-clause-there
returns-clause-there c =
    let b = c.args.self.now in
    slice_get-get_or b.sealed.items c.ended_before-k.result c.index.result.now
    (ends_there b c.args.at c.ended_before-k.result c.requires.behind c.requires.sealed (point_at b c.args.at c.ended_before-k.result c.ended_before-k.ensures)) ∙ ap Some (sym c.index.ensures)

pub returns-clause-point : goal.returns-clause-point
returns-clause-point c = point_at c.args.self.now c.args.at c.ended_before-k.result c.ended_before-k.ensures
