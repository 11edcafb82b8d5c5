-- Each value is taken behind those before it, and where one is missing no list of this length stands at the front.
use Rattle.std.proofs.Common.{◌≡◌, ◌∙◌, sym, ◌∷◌, [], ◌++◌, arith, map}
use Rattle.std.proofs.lemmas.List.{map_push, length_push, length-map}
use Rattle.std.proofs.lemmas.Result.{err_from_is_err_and}
use Rattle.sled_codec.proofs.Sequences.{no_more, takes_more}
use Rattle.sled_codec.proofs.serialization.each.deserialize_many.Goals as goal

pub returns-in_err-value-clause-corrupt : goal.returns-in_err-value-clause-corrupt
returns-in_err-value-clause-corrupt g c =
    let e = err_from_is_err_and c.from_residual.result c.from_residual.ensures.1 in
    let taken = c.loop.invariant in
    rw (e.1, e.2)
    (λ corrupt front rest vs long is spelled.
    no_more g.T.Serialize.Spells g.met.T.Delimited.no_front taken.0 c.loop.rest.now (map g.T.Serialize.meaning c.loop.values.items) taken.1
    (λ f r v at. c.in_err-value.ensures.corrupt corrupt f r v at (g.met.T.Delimited.open r))
    front rest vs (omega (arith, taken.3, long, length-map c.loop.values.items g.T.Serialize.meaning)) spelled (sym taken.2 ∙ is))

pub loop-preserved : goal.loop-preserved
loop-preserved g c =
    let taken = c.loop.invariant in
    let v = c.in_ok-value.value in
    let items : c.push.new.self.items ≡ c.loop.values.items ++ v ∷ [] = c.in_ok-push.ensures.items in
    let more = takes_more g.T.Serialize.Spells g.met.T.Delimited.no_front _ taken.0 _ _ (map g.T.Serialize.meaning c.loop.values.items) (g.T.Serialize.meaning v) taken.1 taken.2 c.in_ok-value.ensures.ok in
    rw items (rw (map_push g.T.Serialize.meaning c.loop.values.items v) (more.0, more.1, more.2, omega (arith, taken.3, length_push c.loop.values.items v)))
