-- Each value is taken behind those before it, and where one is missing before the end the bytes are no list.
use Rattle.std.proofs.Common.{◌≡◌, sym, ◌<◌, ◌∷◌, [], ◌++◌, arith, length, map}
use Rattle.std.proofs.lemmas.List.{map_push}
use Rattle.std.proofs.lemmas.Result.{err_from_is_err_and}
use Rattle.sled_codec.proofs.Sequences.{no_more_all, takes_more}
use Rattle.sled_codec.proofs.serialization.each.deserialize_all.Goals as goal

pub returns-in_err-value-clause-corrupt : goal.returns-in_err-value-clause-corrupt
returns-in_err-value-clause-corrupt g c =
    let e = err_from_is_err_and c.from_residual.result c.from_residual.ensures.1 in
    let taken = c.loop-rest.invariant in
    let some : 0 < length c.loop-rest.rest.now = grind (arith, c.is_empty.ensures) in
    rw (e.1, e.2)
    (λ corrupt vs spelled.
    no_more_all g.T.Serialize.Spells g.met.T.Delimited.no_front taken.0 c.loop-rest.rest.now (map g.T.Serialize.meaning c.loop-rest.values.items) some taken.1
    (λ f r v at. c.in_err-value.ensures.corrupt corrupt f r v at (g.met.T.Delimited.open r))
    vs _ spelled (sym taken.2))

pub loop-rest-preserved : goal.loop-rest-preserved
loop-rest-preserved g c =
    let taken = c.loop-rest.invariant in
    let v = c.in_ok-value.value in
    let items : c.push.new.self.items ≡ c.loop-rest.values.items ++ v ∷ [] = c.in_ok-push.ensures.items in
    let more = takes_more g.T.Serialize.Spells g.met.T.Delimited.no_front _ taken.0 _ _ (map g.T.Serialize.meaning c.loop-rest.values.items) (g.T.Serialize.meaning v) taken.1 taken.2 c.in_ok-value.ensures.ok in
    rw items (rw (map_push g.T.Serialize.meaning c.loop-rest.values.items v) more)
