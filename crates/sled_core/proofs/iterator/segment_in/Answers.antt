use Rattle.std.proofs.Common.{◌∙◌, take, pos}
use Rattle.std.specs.Int.{w64}
use Rattle.std.proofs.lemmas.Int.{to_z-of_z}
use Rattle.sled_codec.specs.Record.{IsHeader}
use Rattle.sled_codec.proofs.Segments.{one_header}
use Rattle.sled_core.proofs.iterator.segment_in.Goals as goal

pub returns-in-None-place_from-clause-none : goal.returns-in-None-place_from-clause-none
returns-in-None-place_from-clause-none g c = λ place mark le h.
    let none = rw c.in-None-place_from.is at c.place_from.ensures.none in
    let found = rw c.in-Some.is at c.header_in.ensures.found in
    let whole : IsHeader g.C.Checksum.sum_of (take 20 c.args.buf.now.buf.items) c.in-Some.header.lsn c.in-Some.header.max_stable_lsn = rw c.deref.ensures.value at found in
    none place le (to_z-of_z w64 c.in-Some.header.lsn whole.place_fits ∙ (one_header g.C.Checksum.sum_of (take 20 c.args.buf.now.buf.items) _ _ (pos place) mark whole h).0)
