-- Where the bytes are no meta, none stands at their front before nothing.
use Rattle.std.proofs.Common.{◌≡◌, ◌∙◌, sym, ap, subst, ℕ, List, ◌++◌}
use Rattle.std.proofs.lemmas.List.{append-nil}
use Rattle.std.proofs.lemmas.Result.{err_from_is_err_and}
use Rattle.sled_codec.specs.Metas.{SpellsMeta}
use Rattle.sled_codec.proofs.serialization.meta.MetaSerialize.deserialize.Goals as goal

pub returns-in_err-inner-clause-corrupt : goal.returns-in_err-inner-clause-corrupt
returns-in_err-inner-clause-corrupt c =
    let e = err_from_is_err_and c.from_residual.result c.from_residual.ensures.1 in
    rw (e.1, e.2)
    (λ corrupt front rest v is follows p.
    let whole : c.args.buf.now.now ≡ front = is ∙ ap (λ (l : List ℕ). front ++ l) follows ∙ append-nil front in
    c.in_err-inner.ensures.corrupt corrupt v (subst (λ (t : List ℕ). SpellsMeta t v) (sym whole) p))
