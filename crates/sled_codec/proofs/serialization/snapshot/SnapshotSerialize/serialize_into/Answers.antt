-- The place and the segment are written, and the pages behind them.
use Rattle.std.proofs.Common.{◌≡◌, ◌≤◌, ◌∙◌, sym, ap, subst, ℕ, ◌+◌, List, length, map, arith}
use Rattle.std.specs.List.{flat_map}
use Rattle.sled_codec.specs.Written.{written, written_twice}
use Rattle.sled_codec.specs.declared.serialization.snapshot.PageState.{PageState}
use Rattle.sled_codec.specs.Snapshots.{model_of, page_of, short_page, short_snapshot}
use Rattle.sled_codec.specs.SnapshotLaws.{short_coords, length-short_snapshot, fits_coords}
use Rattle.sled_codec.proofs.serialization.snapshot.SnapshotSerialize.serialize_into.Goals as goal

pub serialize_into-next-requires-clause-fits : goal.serialize_into-next-requires-clause-fits
serialize_into-next-requires-clause-fits c = fits_coords (model_of c.args.self.now) c.requires.fits.stable c.requires.fits.active

pub serialize_into-next-requires-clause-room : goal.serialize_into-next-requires-clause-room
serialize_into-next-requires-clause-room c =
    let s = model_of c.args.self.now in
    let room : c.args.at + length (short_coords s) ≤ length c.args.buf.now = omega (arith, length-short_snapshot s, c.requires.room) in
    room

pub serialize_each-requires-clause-room : goal.serialize_each-requires-clause-room
serialize_each-requires-clause-room c =
    let s = model_of c.args.self.now in
    let next : c.serialize_into-next.result ≡ c.args.at + length (short_coords s) = c.serialize_into-next.ensures.next in
    subst (λ (ps : List PageState). c.serialize_into-next.result + length (flat_map short_page (map page_of ps)) ≤ length c.serialize_into-next.new.buf) (sym c.deref.ensures.value)
    (omega (arith, next, length-short_snapshot s, c.requires.room))

pub returns-clause-next : goal.returns-clause-next
returns-clause-next c =
    let s = model_of c.args.self.now in
    let next : c.serialize_into-next.result ≡ c.args.at + length (short_coords s) = c.serialize_into-next.ensures.next in
    let last : c.serialize_each.result ≡ c.serialize_into-next.result + length (flat_map short_page s.pages) = c.serialize_each.ensures.next ∙ ap (λ (ps : List PageState). c.serialize_into-next.result + length (flat_map short_page (map page_of ps))) c.deref.ensures.value in
    omega (arith, next, last, length-short_snapshot s)

pub returns-clause-bytes : goal.returns-clause-bytes
unfolding short_snapshot
returns-clause-bytes c =
    let s = model_of c.args.self.now in
    let buf : List ℕ = c.args.buf.now in
    let coords : List ℕ = short_coords s in
    let pages : List ℕ = flat_map short_page s.pages in
    let one : c.serialize_into-next.new.buf ≡ written buf c.args.at coords = c.serialize_into-next.ensures.bytes in
    let next : c.serialize_into-next.result ≡ c.args.at + length coords = c.serialize_into-next.ensures.next in
    c.serialize_each.ensures.bytes
    ∙ ap (λ (ps : List PageState). written c.serialize_into-next.new.buf c.serialize_into-next.result (flat_map short_page (map page_of ps))) c.deref.ensures.value
    ∙ ap (λ (l : List ℕ). written l c.serialize_into-next.result pages) one
    ∙ written_twice buf c.args.at coords (omega (arith, length-short_snapshot s, c.requires.room)) pages _ next
