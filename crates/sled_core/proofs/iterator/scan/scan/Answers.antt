use Rattle.std.proofs.Common.{◌++◌, ◌∷◌, [], ◌<◌, ◌≤◌, ◌+◌, ◌/◌, ◌%◌, ◌∙◌, ℕ, List, ap, sym, subst, arith}
use Rattle.std.proofs.lemmas.List.Elements.{All-same, All-push}
use Rattle.sled_core.specs.declared.iterator.scan.ScannedRecord.{ScannedRecord}
use Rattle.sled_core.specs.declared.iterator.scan.Step.TheVariants.{Meets, Ends}
use Rattle.sled_core.specs.Reading.{IsMalformed, file_of}
use Rattle.sled_core.specs.Scan.{IsPath, IsStep, IsScan, IsDamagedIn}
use Rattle.sled_core.specs.inside.Scan.{HasPlace}
use Rattle.sled_core.proofs.Read.InSlot.{of_same_buf}
use Rattle.sled_core.proofs.Read.ScanLemmas.{one_more, ends_here}
use Rattle.sled_core.proofs.iterator.scan.scan.Goals as goal

pub returns-in-Err-clause-damaged : goal.returns-in-Err-clause-damaged
unfolding IsDamagedIn
returns-in-Err-clause-damaged g c = λ corrupt.
    let i = c.loop-stop.invariant in
    let size : ℕ = c.args.config.now.config.segment_size in
    let at : ℕ = c.loop-stop.stop in
    let room : at + 32 ≤ size = omega (arith, c.args.config.now.config.least, c.loop-stop-test.true) in
    let damaged = of_same_buf (λ (log : List ℕ) o. IsMalformed g.C.Checksum.sum_of size log (o + at) (c.args.place / size)) c.args.buf.now c.loop-stop.buf i.bytes i.offset (c.in-Err.ensures.damaged corrupt) in
    (c.loop-stop.met.items, at, i.path, room, damaged)

pub loop-stop-preserved : goal.loop-stop-preserved
loop-stop-preserved g c =
    let i = c.loop-stop.invariant in
    let sum = g.C.Checksum.sum_of in
    let size : ℕ = c.args.config.now.config.segment_size in
    let log : List ℕ = file_of c.args.buf.now in
    let slot : ℕ = c.args.buf.now.offset in
    let place : ℕ = c.args.place in
    let at : ℕ = c.loop-stop.stop in
    let m : ScannedRecord = c.in-Ok-Meets.m in
    let room : at + 32 ≤ size = omega (arith, c.args.config.now.config.least, c.loop-stop-test.true) in
    let step = of_same_buf (λ (log : List ℕ) o. IsStep sum size log (o + at) (place + at) (place / size) (Meets m)) c.args.buf.now c.loop-stop.buf i.bytes i.offset (rw c.in-Ok-Meets.field-0-is at c.in-Ok-Meets.ensures.step) in
    let fits : HasPlace size at (Meets m) = rw c.in-Ok-Meets.field-0-is at c.in-Ok-Meets.ensures.room in
    let some = fits.0 in
    let inside = fits.1 in
    let here = step.0 in
    let items = c.in_ok-push-in-Ok-Meets.ensures.items in
    let path = one_more sum size log slot place 20 c.loop-stop.met.items at m i.path room here step.1 in
    let Below : ScannedRecord → Type 0 = λ x. x.place < place + size in
    record {
      path = subst (λ (ms : List ScannedRecord). IsPath sum size log slot place 20 ms (at + m.len)) (sym items) path;
      behind = omega (arith, i.behind);
      within = omega (arith, inside);
      places = All-same Below c.push.new.self.items (c.loop-stop.met.items ++ m ∷ []) items (All-push Below c.loop-stop.met.items m i.places (omega (arith, here, room)));
      bytes = c.meet.ensures.bytes ∙ i.bytes;
      offset = c.meet.ensures.offset ∙ i.offset;
      place = i.place;
      slot = omega (arith, c.meet.ensures.offset, i.slot);
      aligned = ap (λ o. o % size) c.meet.ensures.offset ∙ i.aligned;
    }

pub returns-in-Ok-Ends-clause-scan : goal.returns-in-Ok-Ends-clause-scan
unfolding IsScan
returns-in-Ok-Ends-clause-scan g c =
    let i = c.loop-stop.invariant in
    let size : ℕ = c.args.config.now.config.segment_size in
    let at : ℕ = c.loop-stop.stop in
    let why = c.in-Ok-Ends.ending in
    let room : at + 32 ≤ size = omega (arith, c.args.config.now.config.least, c.loop-stop-test.true) in
    let step = of_same_buf (λ (log : List ℕ) o. IsStep g.C.Checksum.sum_of size log (o + at) (c.args.place + at) (c.args.place / size) (Ends why)) c.args.buf.now c.loop-stop.buf i.bytes i.offset (rw c.in-Ok-Ends.field-0-is at c.in-Ok-Ends.ensures.step) in
    (i.path, ends_here g.C.Checksum.sum_of size (file_of c.args.buf.now) c.args.buf.now.offset c.args.place at why room step)

pub returns-clause-scan : goal.returns-clause-scan
unfolding IsScan
returns-clause-scan g c = (c.loop-stop.invariant.path, omega (arith, c.args.config.now.config.least, c.loop-stop-test.false))
