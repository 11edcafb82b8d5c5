-- A turn adds the length of one name and its number; where that is too much, the whole is too long.
use Rattle.std.proofs.Common.{◌≡◌, ◌∙◌, sym, ap, subst, ◌++◌, ◌∷◌, [], ℕ, List, length, map, arith}
use Rattle.std.specs.declared.vec.Vec.{Vec}
use Rattle.std.specs.declared.alloc.Global.{Global}
use Rattle.std.specs.List.{All, flat_map}
use Rattle.std.proofs.lemmas.List.Elements.{All-push}
use Rattle.sled_codec.specs.SpellingLaws.{length-short_bytes, length-short_number}
use Rattle.sled_codec.specs.Metas.{Named, named, FitsNamed, short_named, short_meta, numbers_in}
use Rattle.sled_codec.proofs.Names.{one_done, length_done, within_all, all_done, entries_in, length_named}
use Rattle.sled_codec.proofs.serialization.meta.checked_size.Goals as goal

pub overflow_add-pair : goal.overflow_add-pair
overflow_add-pair c =
    let name : List ℕ = c.in-Some.name.now.items in
    let page = length-short_number c.in-Some.page.now (omega arith) in
    let count = length-short_number (length name) (omega arith) in
    omega (arith, page.1, count.1, length-short_bytes name, c.serialized_size.ensures, c.serialized_size-in-loop-name.ensures)

pub returns-in_err-size : goal.returns-in_err-size
returns-in_err-size c =
    let so_far = c.loop-name.invariant in
    let all = map named c.args.names.now.entries in
    let e : Vec ℕ Global × ℕ = (c.in-Some.name.now, c.in-Some.page.now) in
    let most = within_all named all so_far.0 c.loop-name.name-iterator c.next.new.self e so_far.1 c.in-Some.ensures.steps in
    let entries = entries_in c.args.names.now c.into_iter-name-iterator.ensures.into_iter_gives.5 in
    let whole : length (short_meta (numbers_in c.args.names.now)) ≡ length (flat_map short_named all) = ap (λ (ps : List Named). length (flat_map short_named ps)) entries in
    rw c.from_residual.ensures (λ fits. c.in_err-size.ensures (omega (arith, fits.1, whole, most, so_far.2, length_named (named e), c.serialized_size.ensures, c.serialized_size-in-loop-name.ensures)))

pub loop-name-preserved : goal.loop-name-preserved
loop-name-preserved c =
    let so_far = c.loop-name.invariant in
    let all = map named c.args.names.now.entries in
    let e : Vec ℕ Global × ℕ = (c.in-Some.name.now, c.in-Some.page.now) in
    let sum = c.in_ok-size.ensures in
    let long = length_done named all so_far.0 c.loop-name.name-iterator c.next.new.self e so_far.1 c.in-Some.ensures.steps in (
      so_far.0 ++ named e ∷ [],
      one_done named all so_far.0 c.loop-name.name-iterator c.next.new.self e so_far.1 c.in-Some.ensures.steps,
      omega (arith, long, sum.1, so_far.2, length_named (named e), c.serialized_size.ensures, c.serialized_size-in-loop-name.ensures),
      All-push FitsNamed so_far.0 (named e) so_far.3 (omega arith, omega arith),
      omega (arith, sum.0, sum.1),
    )

pub returns : goal.returns
returns c =
    let so_far = c.loop-name.invariant in
    let all = all_done named (map named c.args.names.now.entries) so_far.0 c.loop-name.name-iterator so_far.1 c.in-None.ensures.steps.0 in
    let entries = entries_in c.args.names.now c.into_iter-name-iterator.ensures.into_iter_gives.5 in
    let same = all ∙ sym entries in
    let size = so_far.2 ∙ ap (λ (ps : List Named). length (flat_map short_named ps)) same in
    ((subst (All FitsNamed) same so_far.3, omega (arith, size, so_far.4)), size)
