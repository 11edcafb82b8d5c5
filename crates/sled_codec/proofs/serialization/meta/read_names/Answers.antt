-- Each pair is taken behind those before it and put in, and where one is missing before the end the bytes are no meta.
use Rattle.std.proofs.Common.{◌∙◌, sym, ◌++◌, ◌∷◌, [], ◌<◌, length, refl, arith}
use Rattle.std.proofs.lemmas.Result.{err_from_is_err_and}
use Rattle.sled_codec.specs.MetaLaws.{no_front-named, some-named}
use Rattle.sled_codec.specs.Metas.{SpellsNamed, numbers_in}
use Rattle.sled_codec.proofs.Names.{none_in, put_in, put_last}
use Rattle.sled_codec.proofs.Sequences.{no_more_all, takes_more, shorter}
use Rattle.sled_codec.proofs.serialization.meta.read_names.Goals as goal

pub loop-rest-init : goal.loop-rest-init
loop-rest-init c = ([], [], refl, refl, none_in c.new-names.result c.new-names.ensures.empty)

pub returns-in_err-name-clause-corrupt : goal.returns-in_err-name-clause-corrupt
returns-in_err-name-clause-corrupt c =
    let e = err_from_is_err_and c.from_residual.result c.from_residual.ensures.1 in
    let taken = c.loop-rest.invariant in
    let some : 0 < length c.loop-rest.rest.now = grind (arith, c.is_empty.ensures) in
    rw (e.1, e.2)
    (λ corrupt m p.
    no_more_all SpellsNamed no_front-named taken.0 c.loop-rest.rest.now taken.1 some taken.2
    (λ f r v at. c.in_err-name.ensures.corrupt corrupt f r v at tt)
    p.pairs _ p.spelled (sym taken.3))

pub loop-rest-smaller : goal.loop-rest-smaller
loop-rest-smaller c =
    let less : length c.deserialize.new.buf.now < length c.loop-rest.rest.now = shorter SpellsNamed some-named _ _ _ c.in_ok-name.ensures.ok in
    less

pub loop-rest-preserved : goal.loop-rest-preserved
loop-rest-preserved c =
    let taken = c.loop-rest.invariant in
    let name = c.in_ok-name.name in
    let page = c.in_ok-name.page in
    let more = takes_more SpellsNamed no_front-named _ taken.0 _ _ taken.1 (name.items, page) taken.2 taken.3 c.in_ok-name.ensures.ok in
    let put = put_in c.loop-rest.names c.insert.new.self name page c.in_ok-insert.ensures.was_ordered c.in_ok-insert.ensures.ordered c.in_ok-insert.ensures.entries in
    (more.0, taken.1 ++ (name.items, page) ∷ [], more.1, more.2, put ∙ put_last (numbers_in c.loop-rest.names) taken.1 name.items page taken.4)
