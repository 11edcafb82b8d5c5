-- A turn puts one byte from what is left into the sum so far, and at the end nothing is left.
use Rattle.std.proofs.Common.{ℕ, List, ◌≡◌, ◌∙◌, sym, ap, ◌+◌, ◌*◌, ◌%◌, ◌^◌, drop, get_or, arith}
use Rattle.std.proofs.lemmas.List.{at_drop_more, at_drop_all}
use Rattle.sled_codec.specs.Sums.{weighed, place_sum}
use Rattle.sled_codec.proofs.Weights.{wraps_once}
use Rattle.sled_codec.proofs.serialization.checksum.PlaceSumChecksum.sum.Goals as goal

pub loop-b-preserved : goal.loop-b-preserved
loop-b-preserved c =
    let l = c.loop-b in
    let bytes : List ℕ = c.args.bytes.now in
    let more : weighed (l.b-index + 1) (drop l.b-index bytes) ≡ (l.b-index + 1) * get_or bytes l.b-index 0 + weighed (l.b-index + 1 + 1) (drop (l.b-index + 1) bytes) = at_drop_more (weighed (l.b-index + 1)) bytes l.b-index 0 (omega arith) in
    record {
      place = omega arith;
      total = wraps_once l.total _ l.b-index _ _ _ (omega arith) c.from.ensures ∙ ap (λ w. (l.total + w) % 2 ^ 32) (sym more) ∙ l.invariant.total;
    }

pub returns : goal.returns
unfolding place_sum
returns c =
    let l = c.loop-b in
    let none : weighed (l.b-index + 1) (drop l.b-index c.args.bytes.now) ≡ 0 = at_drop_all (weighed (l.b-index + 1)) c.args.bytes.now l.b-index (omega arith) in
    omega (arith, l.invariant.total)
