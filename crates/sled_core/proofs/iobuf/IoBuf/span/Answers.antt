use Rattle.std.proofs.Common.{◌≡◌, ◌∙◌, ◌<◌, ◌+◌, ◌-◌, ℕ, List, length, take, get_or, Some, ap, sym, arith}
use Rattle.std.specs.List.{slice_get}
use Rattle.std.proofs.lemmas.Option.{slice_get-get_or}
use Rattle.sled_core.specs.declared.iobuf.Sealed.{Sealed}
use Rattle.sled_core.specs.SealedBuffers.{sealed_end}
use Rattle.sled_core.proofs.Holds.BufferEnds.{sealed_rise}
use Rattle.sled_core.proofs.Sealed.Slices.{end_to, span_within}
use Rattle.sled_core.proofs.iobuf.IoBuf.span.Goals as goal

-- the buffer at an index
there : (bs : List Sealed) (k : ℕ) (b : Sealed) → k < length bs → b ≡ get_or bs k b → slice_get bs k ≡ Some b
there bs k b within is = slice_get-get_or bs k b within ∙ ap Some (sym is)

-- the one before it
before : (from : ℕ) (bs : List Sealed) (k : ℕ) (b : Sealed) → 0 < k → k < length bs → b ≡ get_or bs (k - 1) b → b.end ≡ sealed_end from (take k bs)
before from bs k b some within is =
    sym (end_to from bs (k - 1) b (there bs (k - 1) b (omega (arith, within)) is)) ∙ ap (λ n. sealed_end from (take n bs)) (let same : k - 1 + 1 ≡ k = omega (arith, some) in same)

pub returns-then-k-eq0-clause-inside : goal.returns-then-k-eq0-clause-inside
returns-then-k-eq0-clause-inside c =
    let old = c.args.self.now in
    let end = end_to old.written_len old.sealed.items c.args.k c.index.result.now (there old.sealed.items c.args.k c.index.result.now c.requires c.index.ensures) in
    let lies = span_within old.written_len old.sealed.items c.args.k (length old.bytes.items) (sealed_rise old) in
    omega (arith, end, lies.1)

pub returns-clause-from : goal.returns-clause-from
returns-clause-from c =
    let old = c.args.self.now in
    before old.written_len old.sealed.items c.args.k c.index-2.result.now (omega (arith, c.if-k-eq0.false)) c.requires c.index-2.ensures

pub returns-clause-to : goal.returns-clause-to
returns-clause-to c =
    let old = c.args.self.now in
    sym (end_to old.written_len old.sealed.items c.args.k c.index.result.now (there old.sealed.items c.args.k c.index.result.now c.requires c.index.ensures))

pub returns-clause-rises : goal.returns-clause-rises
returns-clause-rises c =
    let old = c.args.self.now in
    let lies = span_within old.written_len old.sealed.items c.args.k (length old.bytes.items) (sealed_rise old) in
    omega (arith, returns-clause-from c, returns-clause-to c, lies.0)

pub returns-clause-inside : goal.returns-clause-inside
returns-clause-inside c =
    let old = c.args.self.now in
    let lies = span_within old.written_len old.sealed.items c.args.k (length old.bytes.items) (sealed_rise old) in
    omega (arith, returns-clause-to c, lies.1)
