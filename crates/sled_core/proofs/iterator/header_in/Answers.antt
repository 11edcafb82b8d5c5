use Rattle.std.proofs.Common.{◌≡◌, ◌<◌, ◌∙◌, length, take, true, ap, sym, rules, arith, length-take, false, not}
use Rattle.sled_codec.specs.Record.{IsHeader}
use Rattle.sled_codec.proofs.Segments.{length-short_header}
use Rattle.sled_core.proofs.iterator.header_in.Goals as goal

pub returns-then-not-header-clause-none : goal.returns-then-not-header-clause-none
returns-then-not-header-clause-none g c = λ lsn mark h.
    let found = c.from_bytes-header.result in
    let first : take 20 c.args.bytes.now ≡ c.in-Some.first.now = search rules in
    let own : IsHeader g.C.Checksum.sum_of c.in-Some.first.now lsn mark = rw first at h in
    let same = c.from_bytes-header.ensures.header lsn mark own in
    let passes : IsHeader g.C.Checksum.sum_of c.in-Some.first.now found.lsn found.max_stable_lsn = rw (same.0, same.1) at own in
    let yes : found.ok ≡ true = c.from_bytes-header.ensures.sum.1 passes in
    let no : false ≡ true = sym (ap not yes) ∙ c.if-not-header.true in
    cc

pub returns-in-None-clause-none : goal.returns-in-None-clause-none
returns-in-None-clause-none g c = λ lsn mark h.
    let few : length c.args.bytes.now < 20 = c.in-None.ensures.cases in
    let long : length (take 20 c.args.bytes.now) ≡ 20 = ap length h.is ∙ length-short_header g.C.Checksum.sum_of lsn mark in
    absurd (omega (arith, few, long, length-take 20 c.args.bytes.now))
