-- The place and the segment, and the pages behind them.
use Rattle.std.proofs.Common.{◌≡◌, ◌∙◌, sym, ap, subst, ◌+◌, List, length, map, arith}
use Rattle.std.specs.List.{flat_map}
use Rattle.sled_codec.specs.Spelling.{FitsEach}
use Rattle.sled_codec.specs.declared.serialization.snapshot.PageState.{PageState}
use Rattle.sled_codec.specs.Snapshots.{model_of, page_of, FitsPage, short_page, short_snapshot}
use Rattle.sled_codec.specs.SnapshotLaws.{short_coords, length-short_snapshot, fits_coords}
use Rattle.sled_codec.proofs.serialization.snapshot.SnapshotSerialize.serialized_size.Goals as goal

pub serialized_size-requires : goal.serialized_size-requires
serialized_size-requires c = fits_coords (model_of c.args.self.now) c.requires.stable c.requires.active

pub size_of_each-requires : goal.size_of_each-requires
size_of_each-requires c =
    let long = length-short_snapshot (model_of c.args.self.now) in
    let each : FitsEach FitsPage short_page (map page_of c.args.self.now.pt.items) = (c.requires.pages, omega (arith, long, c.requires.small)) in
    subst (λ (ps : List PageState). FitsEach FitsPage short_page (map page_of ps)) (sym c.deref.ensures.value) each

-- both sizes together
sum : (c : goal.After-size_of_each) → c.serialized_size.result + c.size_of_each.result ≡ length (short_snapshot (model_of c.args.self.now))
sum c =
    let s = model_of c.args.self.now in
    let front : c.serialized_size.result ≡ length (short_coords s) = c.serialized_size.ensures in
    let back : c.size_of_each.result ≡ length (flat_map short_page s.pages) = c.size_of_each.ensures ∙ ap (λ (ps : List PageState). length (flat_map short_page (map page_of ps))) c.deref.ensures.value in
    omega (arith, front, back, length-short_snapshot s)

pub overflow_add-result : goal.overflow_add-result
overflow_add-result c = omega (arith, sum c, c.requires.small)

pub returns : goal.returns
returns c = sum c
