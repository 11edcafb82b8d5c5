-- The third part is taken behind the pair of the first two.
use Rattle.std.proofs.Common.{◌∙◌, ap, List, ℕ, ◌++◌, append_assoc}
use Rattle.std.proofs.lemmas.Result.{err_from_is_err_and}
use Rattle.sled_codec.specs.Spelling.{SpellsBoth}
use Rattle.sled_codec.specs.PairLaws.{no_front-both}
use Rattle.sled_codec.proofs.Pairs.{behind_first, takes_pair}
use Rattle.sled_codec.proofs.serialization.tuple.Tuple3Serialize.deserialize.Goals as goal

pub returns-in_err-first-clause-corrupt : goal.returns-in_err-first-clause-corrupt
returns-in_err-first-clause-corrupt g c =
    let e = err_from_is_err_and c.from_residual.result c.from_residual.ensures.1 in
    rw (e.1, e.2)
    (λ corrupt front rest v is follows p.
    c.in_err-first.ensures.corrupt corrupt p.first (p.second ++ rest) (v.0, v.1) (is ∙ ap (λ (l : List ℕ). l ++ rest) p.is ∙ append_assoc p.first p.second rest) (g.met.B.Delimited.open _) p.front)

pub returns-in_err-third-clause-corrupt : goal.returns-in_err-third-clause-corrupt
returns-in_err-third-clause-corrupt g c =
    let A = g.A.Serialize.Spells in
    let B = g.B.Serialize.Spells in
    let e = err_from_is_err_and c.from_residual-in_err-third.result c.from_residual-in_err-third.ensures.1 in
    rw (e.1, e.2)
    (λ corrupt front rest v is follows p.
    c.in_err-third.ensures.corrupt corrupt p.second rest v.2
    (behind_first (SpellsBoth A B) g.C.Serialize.Spells (no_front-both A B g.met.A.Delimited.no_front g.met.B.Delimited.no_front) _ _ front rest (v.0, v.1) _ v.2 c.in_ok-first.ensures.ok p is) follows p.back)

pub returns-clause-ok : goal.returns-clause-ok
returns-clause-ok g c =
    takes_pair (SpellsBoth g.A.Serialize.Spells g.B.Serialize.Spells) g.C.Serialize.Spells _ _ _ _ _ c.in_ok-first.ensures.ok c.in_ok-third.ensures.ok
