-- What was met of a segment so far leads to where the reading stands, and ends there, or at a damaged record.
use Rattle.std.proofs.Common.{◌≤◌, ◌<◌, ◌+◌, ◌/◌, ◌%◌, ◌++◌, ◌∷◌, ◌∙◌, [], refl, ℕ, List, ap, sym, subst, arith}
use Rattle.std.proofs.lemmas.List.Elements.{All-same, All-push}
use Rattle.sled_core.specs.Reading.{IsMalformed, file_of}
use Rattle.sled_core.specs.declared.iterator.scan.ScannedRecord.{ScannedRecord}
use Rattle.sled_core.specs.declared.iterator.Segment.{Segment}
use Rattle.sled_core.specs.declared.iterator.scan.Step.TheVariants.{Meets, Ends}
use Rattle.sled_core.specs.Scan.{IsPath, IsStep, IsEnd}
use Rattle.sled_core.specs.inside.Scan.{HasPlace}
use Rattle.sled_core.proofs.Read.InSlot.{of_same_buf}
use Rattle.sled_core.proofs.Read.ScanLemmas.{one_more, ends_here}
use Rattle.sled_core.specs.Tail.{open_at}
use Rattle.sled_core.proofs.Iterates.Records.{stays_closed, asks_nothing}
use Rattle.sled_core.proofs.Iterates.TurnLemmas.{none_so}
use Rattle.sled_core.proofs.iterator.records.scan_into.Goals as goal

pub returns-in-Err-clause-damaged : goal.returns-in-Err-clause-damaged
returns-in-Err-clause-damaged g c = λ corrupt.
    let i = c.loop-scan.invariant in
    let size : ℕ = c.args.config.now.config.segment_size in
    let log : List ℕ = file_of c.args.buf.now in
    let at : ℕ = c.loop-scan.scan.stop in
    let here = of_same_buf (λ (log : List ℕ) o. IsMalformed g.C.Checksum.sum_of size log (o + at) (c.args.segment.now.place / size)) c.args.buf.now c.loop-scan.buf i.bytes i.offset (c.in-Err.ensures.damaged corrupt) in (
      record {
        met = c.loop-scan.scan.met.items;
        next = at;
        path = i.path;
        not_open = i.closed;
        room = omega (arith, c.args.config.now.config.least, c.loop-scan-test.true);
        damaged = subst (λ o. IsMalformed g.C.Checksum.sum_of size log (o + at) (c.args.segment.now.place / size)) c.requires.slot here;
      },
      refl,
      refl,
    )

pub returns-then-opens-clause-passed : goal.returns-then-opens-clause-passed
returns-then-opens-clause-passed g c =
    let i = c.loop-scan.invariant in
    let sum = g.C.Checksum.sum_of in
    let size : ℕ = c.args.config.now.config.segment_size in
    let log : List ℕ = file_of c.args.buf.now in
    let s : Segment = c.args.segment.now in
    let at : ℕ = c.loop-scan.scan.stop in
    let m : ScannedRecord = c.in-Ok-Meets.m in
    let room : at + 32 ≤ size = omega (arith, c.args.config.now.config.least, c.loop-scan-test.true) in
    let here = of_same_buf (λ (log : List ℕ) o. IsStep sum size log (o + at) (s.place + at) (s.place / size) (Meets m)) c.args.buf.now c.loop-scan.buf i.bytes i.offset (rw c.in-Ok-Meets.field-0-is at c.in-Ok-Meets.ensures.step) in
    let step = subst (λ o. IsStep sum size log (o + at) (s.place + at) (s.place / size) (Meets m)) c.requires.slot here in
    let items = c.in_ok-push-in-Ok-Meets.ensures.items in
    let path = one_more sum size log s.slot s.place 20 c.loop-scan.scan.met.items at m i.path room step.0 step.1 in (
      subst (λ (ms : List ScannedRecord). IsPath sum size log s.slot s.place 20 ms (at + m.len)) (sym items) path,
      asks_nothing c.args.end c.loop-scan.scan.met.items c.push.new.self.items m (IsEnd sum size log s.slot s.place (at + m.len) c.loop-scan.scan.ending) items i.closed (sym c.opens.ensures ∙ c.if-opens.true),
    )

pub loop-scan-preserved : goal.loop-scan-preserved
loop-scan-preserved g c =
    let i = c.loop-scan.invariant in
    let sum = g.C.Checksum.sum_of in
    let size : ℕ = c.args.config.now.config.segment_size in
    let log : List ℕ = file_of c.args.buf.now in
    let s : Segment = c.args.segment.now in
    let at : ℕ = c.loop-scan.scan.stop in
    let m : ScannedRecord = c.in-Ok-Meets.m in
    let room : at + 32 ≤ size = omega (arith, c.args.config.now.config.least, c.loop-scan-test.true) in
    let there = of_same_buf (λ (log : List ℕ) o. IsStep sum size log (o + at) (s.place + at) (s.place / size) (Meets m)) c.args.buf.now c.loop-scan.buf i.bytes i.offset (rw c.in-Ok-Meets.field-0-is at c.in-Ok-Meets.ensures.step) in
    let step = subst (λ o. IsStep sum size log (o + at) (s.place + at) (s.place / size) (Meets m)) c.requires.slot there in
    let fits : HasPlace size at (Meets m) = rw c.in-Ok-Meets.field-0-is at c.in-Ok-Meets.ensures.room in
    let inside = fits.1 in
    let here = step.0 in
    let items = c.in_ok-push-in-Ok-Meets.ensures.items in
    let path = one_more sum size log s.slot s.place 20 c.loop-scan.scan.met.items at m i.path room here step.1 in
    let Below : ScannedRecord → Type 0 = λ x. x.place < s.place + size in
    record {
      path = subst (λ (ms : List ScannedRecord). IsPath sum size log s.slot s.place 20 ms (at + m.len)) (sym items) path;
      closed = stays_closed c.args.end c.loop-scan.scan.met.items c.push.new.self.items m items i.closed (sym c.opens.ensures ∙ c.if-opens.false);
      behind = omega (arith, i.behind);
      within = omega (arith, inside);
      places = All-same Below c.push.new.self.items (c.loop-scan.scan.met.items ++ m ∷ []) items (All-push Below c.loop-scan.scan.met.items m i.places (omega (arith, here, room)));
      bytes = c.meet.ensures.bytes ∙ i.bytes;
      offset = c.meet.ensures.offset ∙ i.offset;
      ending = i.ending;
      place = i.place;
      slot = omega (arith, c.meet.ensures.offset, i.slot);
      aligned = ap (λ o. o % size) c.meet.ensures.offset ∙ i.aligned;
    }

pub returns-in-Ok-Ends-clause-passed : goal.returns-in-Ok-Ends-clause-passed
returns-in-Ok-Ends-clause-passed g c =
    let i = c.loop-scan.invariant in
    let sum = g.C.Checksum.sum_of in
    let size : ℕ = c.args.config.now.config.segment_size in
    let log : List ℕ = file_of c.args.buf.now in
    let s : Segment = c.args.segment.now in
    let at : ℕ = c.loop-scan.scan.stop in
    let why = c.in-Ok-Ends.ending in
    let room : at + 32 ≤ size = omega (arith, c.args.config.now.config.least, c.loop-scan-test.true) in
    let here = of_same_buf (λ (log : List ℕ) o. IsStep sum size log (o + at) (s.place + at) (s.place / size) (Ends why)) c.args.buf.now c.loop-scan.buf i.bytes i.offset (rw c.in-Ok-Ends.field-0-is at c.in-Ok-Ends.ensures.step) in
    let step = subst (λ o. IsStep sum size log (o + at) (s.place + at) (s.place / size) (Ends why)) c.requires.slot here in (
      i.path,
      none_so (open_at c.args.end c.loop-scan.scan.met.items) (IsEnd sum size log s.slot s.place at why) (ends_here sum size log s.slot s.place at why room step),
    )

pub returns-clause-passed : goal.returns-clause-passed
returns-clause-passed g c =
    let i = c.loop-scan.invariant in
    let sum = g.C.Checksum.sum_of in
    let size : ℕ = c.args.config.now.config.segment_size in
    let log : List ℕ = file_of c.args.buf.now in
    let s : Segment = c.args.segment.now in
    let at : ℕ = c.loop-scan.scan.stop in
    let short : size < at + 32 = omega (arith, c.args.config.now.config.least, c.loop-scan-test.false) in (
      i.path,
      none_so (open_at c.args.end c.loop-scan.scan.met.items) (IsEnd sum size log s.slot s.place at c.loop-scan.scan.ending)
          (subst (λ why. IsEnd sum size log s.slot s.place at why) (sym i.ending) short),
    )
