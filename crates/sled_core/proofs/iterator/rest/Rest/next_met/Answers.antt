-- The next of the records that were read: it stops, or has a blob that doesn't pass, or is given or passed over; behind the last one a damaged record stands, or not.
use Rattle.std.proofs.Common.{◌≡◌, ◌∙◌, ◌+◌, ◌<◌, ◌≤◌, ◌++◌, ℕ, ℤ, List, length, Option, refl, sym, ap, subst, arith}
use Rattle.sled_store.specs.Device.{Trace, state_of}
use Rattle.sled_core.specs.declared.iterator.scan.ScannedRecord.{ScannedRecord}
use Rattle.sled_core.specs.declared.iterator.rest.Rest.{Rest}
use Rattle.sled_core.specs.Replayed.{HasBadBlob, NamesBlobOf, resolved}
use Rattle.sled_core.specs.Iterates.{Item}
use Rattle.sled_core.specs.inside.Ahead.{IsLeft, most_left, those_of}
use Rattle.sled_core.proofs.Iterates.LeftLemmas.{left_damaged, left_finished, turn_ends, turn_bad, turn_given}
use Rattle.sled_core.proofs.Iterates.Spent.{no_more_left, spent_so}
use Rattle.sled_core.proofs.Iterates.TurnLemmas.{fine_still, found_gives, said_named}
use Rattle.sled_core.proofs.iterator.rest.Rest.next_met.Goals as goal

pub returns-then-stops-clause-finds : goal.returns-then-stops-clause-finds
returns-then-stops-clause-finds g c = λ items damage left.
    let r : Rest = c.loop-self.self in
    let here = c.loop-self.invariant.left items damage left in
    let lt : r.given < length r.met.items = omega (arith, c.loop-self-test.true, c.len.ensures) in
    let ends = turn_ends g.D.Device.trace g.C.Checksum.sum_of c.args.config.now r c.index.result.now lt c.index.ensures items damage here (sym c.stops.ensures ∙ c.if-stops.true) in
    left_finished g.D.Device.trace g.C.Checksum.sum_of c.args.config.now r items damage here c.finish.new.self c.finish.ensures ends.0 ends.1

pub returns-in-Some-clause-finds : goal.returns-in-Some-clause-finds
returns-in-Some-clause-finds g c = λ items damage left.
    let r : Rest = c.loop-self.self in
    let m : ScannedRecord = c.index.result.now in
    let q : Rest = record r { given = r.given + 1 } in
    let now : Trace = g.D.Device.trace c.loop-self.config.device in
    let old : Trace = g.D.Device.trace c.args.config.now.device in
    let blobs : ℤ → Option (List ℕ) = (state_of old).blobs.file in
    let here = c.loop-self.invariant.left items damage left in
    let lt : r.given < length r.met.items = omega (arith, c.loop-self-test.true, c.len.ensures) in
    let fine = fine_still g.C.Checksum.sum_of now old m.what c.loop-self.invariant.trace c.in-Ok.ensures.good in
    let is = c.in-Ok.ensures.met ∙ ap (λ (t : Trace). resolved (state_of t).blobs.file m) c.loop-self.invariant.trace in
    let gives = found_gives blobs m c.find_blob.new.met is c.message_of.result c.message_of.ensures in
    let turn = turn_given g.D.Device.trace g.C.Checksum.sum_of c.args.config.now r m lt c.index.ensures items damage here (sym c.stops.ensures ∙ c.if-stops.false) fine in
    (turn.0, turn.1 ∙ ap (λ (l : List Item). l ++ turn.0) (gives ∙ ap those_of c.in-Some.is), turn.2)

pub loop-self-preserved : goal.loop-self-preserved
loop-self-preserved g c =
    let r : Rest = c.loop-self.self in
    let m : ScannedRecord = c.index.result.now in
    let q : Rest = record r { given = r.given + 1 } in
    let now : Trace = g.D.Device.trace c.loop-self.config.device in
    let old : Trace = g.D.Device.trace c.args.config.now.device in
    let blobs : ℤ → Option (List ℕ) = (state_of old).blobs.file in
    let lt : r.given < length r.met.items = omega (arith, c.loop-self-test.true, c.len.ensures) in
    let fine = fine_still g.C.Checksum.sum_of now old m.what c.loop-self.invariant.trace c.in-Ok.ensures.good in
    let is = c.in-Ok.ensures.met ∙ ap (λ (t : Trace). resolved (state_of t).blobs.file m) c.loop-self.invariant.trace in
    let gives = found_gives blobs m c.find_blob.new.met is c.message_of.result c.message_of.ensures in
    let none = c.in_default.is in
    record {
      left = λ items damage left.
          let here = c.loop-self.invariant.left items damage left in
          let turn = turn_given g.D.Device.trace g.C.Checksum.sum_of c.args.config.now r m lt c.index.ensures items damage here (sym c.stops.ensures ∙ c.if-stops.false) fine in
          let all : items ≡ turn.0 = turn.1 ∙ ap (λ (l : List Item). l ++ turn.0) (gives ∙ ap those_of none) in
          subst (λ (l : List Item). IsLeft g.D.Device.trace g.C.Checksum.sum_of c.args.config.now q l damage) (sym all) turn.2;
      fits = c.loop-self.invariant.fits;
      segments = c.loop-self.invariant.segments;
      met = c.loop-self.invariant.met;
      end = c.loop-self.invariant.end;
      read = c.loop-self.invariant.read;
      given = omega (arith, c.loop-self.invariant.given);
      damaged = c.loop-self.invariant.damaged;
      no_more = omega (arith, c.loop-self.invariant.no_more);
      trace = c.in-Ok.ensures.reads.unwritten ∙ c.loop-self.invariant.trace;
      faults = c.in-Ok.ensures.answers ∙ c.loop-self.invariant.faults;
      config = c.in-Ok.ensures.reads.config ∙ c.loop-self.invariant.config;
      checksum = c.in-Ok.ensures.reads.checksum ∙ c.loop-self.invariant.checksum;
    }

pub returns-in-Err-clause-finds : goal.returns-in-Err-clause-finds
returns-in-Err-clause-finds g c = λ items damage left.
    let r : Rest = c.loop-self.self in
    let m : ScannedRecord = c.index.result.now in
    let here = c.loop-self.invariant.left items damage left in
    let lt : r.given < length r.met.items = omega (arith, c.loop-self-test.true, c.len.ensures) in
    said_named c.in-Err.e items damage
    (λ corrupt. subst (λ (t : Trace). HasBadBlob g.C.Checksum.sum_of (state_of t).blobs.file m.what) c.loop-self.invariant.trace (c.in-Err.ensures.bad corrupt))
    (λ name. NamesBlobOf g.C.Checksum.sum_of (state_of (g.D.Device.trace c.loop-self.config.device)).blobs.file m.what name) c.in-Err.ensures.named
    (λ name bad names. turn_bad g.D.Device.trace g.C.Checksum.sum_of c.args.config.now r m lt c.index.ensures items damage here (sym c.stops.ensures ∙ c.if-stops.false) name bad
    (subst (λ (t : Trace). NamesBlobOf g.C.Checksum.sum_of (state_of t).blobs.file m.what name) c.loop-self.invariant.trace names))

pub returns-then-stops-clause-none : goal.returns-then-stops-clause-none
returns-then-stops-clause-none g c = (spent_so c.loop-self.self c.finish.new.self c.finish.ensures).1

pub returns-then-stops-clause-over : goal.returns-then-stops-clause-over
returns-then-stops-clause-over g c = λ spent. (refl, spent_so c.loop-self.self c.finish.new.self c.finish.ensures)

pub returns-then-stops-clause-no_more : goal.returns-then-stops-clause-no_more
returns-then-stops-clause-no_more g c = no_more_left c.loop-self.self c.finish.new.self c.finish.ensures (most_left c.args.self.now)

pub returns-then-self-clause-finds : goal.returns-then-self-clause-finds
returns-then-self-clause-finds g c = λ items damage left.
    let r : Rest = c.loop-self.self in
    let all : length r.met.items ≤ r.given = omega (arith, c.loop-self-test.false, c.len.ensures) in
    left_damaged g.D.Device.trace g.C.Checksum.sum_of c.args.config.now r all items damage c.if-self.true (c.loop-self.invariant.left items damage left)
