use Rattle.std.proofs.Common.{◌∙◌, ◌≤◌, ◌<◌, length, sym, subst, arith}
use Rattle.sled_store.specs.declared.config.Config.{Config}
use Rattle.sled_core.specs.Keeps.{OnlyReads}
use Rattle.sled_core.specs.Ahead.{CanGoOn}
use Rattle.sled_core.specs.inside.Ahead.{IsGiven}
use Rattle.sled_core.proofs.Iterates.LeftLemmas.{left_still, spent_ends}
use Rattle.sled_core.proofs.Iterates.TurnLemmas.{damage_said}
use Rattle.sled_core.proofs.iterator.rest.Rest.next_message.Goals as goal

pub returns-in-Ok-Some-clause-finds : goal.returns-in-Ok-Some-clause-finds
returns-in-Ok-Some-clause-finds g c = λ items damage left.
    let i = c.loop-message.invariant in
    let first = c.args.config.now in
    let now = c.loop-message.config in
    let on : OnlyReads g.D.Device.trace first now = record { config = i.config; checksum = i.checksum; unwritten = i.trace } in
    let back : OnlyReads g.D.Device.trace now first = record { config = sym i.config; checksum = sym i.checksum; unwritten = sym i.trace } in
    let found = (rw c.in-Ok-Some.field-0-is at c.in-Ok-Some.ensures.finds) items damage (left_still g.D.Device.trace g.C.Checksum.sum_of first now c.loop-message.self items damage on (i.left items damage left)) in
    (found.0, found.1, left_still g.D.Device.trace g.C.Checksum.sum_of now first c.next_met.new.self found.0 damage back found.2)

pub returns-in-Err-clause-finds : goal.returns-in-Err-clause-finds
returns-in-Err-clause-finds g c = λ items damage left.
    let i = c.loop-message.invariant in
    let on : OnlyReads g.D.Device.trace c.args.config.now c.loop-message.config = record { config = i.config; checksum = i.checksum; unwritten = i.trace } in
    c.in-Err.ensures.finds items damage (left_still g.D.Device.trace g.C.Checksum.sum_of c.args.config.now c.loop-message.config c.loop-message.self items damage on (i.left items damage left))

pub returns-then-self-len-clause-finds : goal.returns-then-self-len-clause-finds
returns-then-self-len-clause-finds g c = λ items damage left.
    let i = c.loop-message.invariant in
    let now = c.loop-message.config in
    let on : OnlyReads g.D.Device.trace c.args.config.now now = record { config = i.config; checksum = i.checksum; unwritten = i.trace } in
    let found = (rw c.in-Ok-None.field-0-is at c.in-Ok-None.ensures.finds) items damage (left_still g.D.Device.trace g.C.Checksum.sum_of c.args.config.now now c.loop-message.self items damage on (i.left items damage left)) in
    let none : IsGiven c.next_met.new.self = rw c.in-Ok-None.field-0-is at c.in-Ok-None.ensures.none in
    let last : length c.next_met.new.self.segments.items ≤ c.next_met.new.self.read = omega (arith, c.len.ensures, c.if-self-len.true) in
    spent_ends g.D.Device.trace g.C.Checksum.sum_of now c.next_met.new.self items damage (last, none) found

pub loop-message-preserved : goal.loop-message-preserved
loop-message-preserved g c =
    let i = c.loop-message.invariant in
    let first = c.args.config.now in
    let now = c.loop-message.config in
    let met = c.next_met.new.config in
    let on : OnlyReads g.D.Device.trace first now = record { config = i.config; checksum = i.checksum; unwritten = i.trace } in
    let reads : OnlyReads g.D.Device.trace now met = c.in-Ok-None.ensures.reads in
    let back : OnlyReads g.D.Device.trace met first = record { config = sym (reads.config ∙ i.config); checksum = sym (reads.checksum ∙ i.checksum); unwritten = sym (reads.unwritten ∙ i.trace) } in
    let behind : OnlyReads g.D.Device.trace met c.read_segment.new.config = c.in-Ok.ensures.reads in
    let more : c.next_met.new.self.read < length c.next_met.new.self.segments.items = omega (arith, c.len.ensures, c.if-self-len.false) in
    record {
      left = λ items damage left.
          let here = left_still g.D.Device.trace g.C.Checksum.sum_of first now c.loop-message.self items damage on (i.left items damage left) in
          let found = (rw c.in-Ok-None.field-0-is at c.in-Ok-None.ensures.finds) items damage here in
          let next = c.in-Ok.ensures.ahead items damage (left_still g.D.Device.trace g.C.Checksum.sum_of now met c.next_met.new.self items damage reads found) in
          left_still g.D.Device.trace g.C.Checksum.sum_of met first c.read_segment.new.self items damage back next;
      fits = subst (λ (x : Config). CanGoOn x.segment_size c.read_segment.new.self) (reads.config ∙ i.config) c.read_segment.ensures.fits;
      spent = λ over.
          let none = c.in-Ok-None.ensures.over (i.spent over) in
          let last = none.1.0 in
          absurd (omega (arith, more, last));
      no_more = omega (arith, c.in-Ok.ensures.no_more, c.next_met.ensures.no_more, i.no_more);
      trace = behind.unwritten ∙ reads.unwritten ∙ i.trace;
      faults = c.in-Ok.ensures.answers ∙ c.in-Ok-None.ensures.answers ∙ i.faults;
      config = behind.config ∙ reads.config ∙ i.config;
      checksum = behind.checksum ∙ reads.checksum ∙ i.checksum;
    }

pub returns-in-Err-read_segment-clause-finds : goal.returns-in-Err-read_segment-clause-finds
returns-in-Err-read_segment-clause-finds g c = λ items damage left. damage_said c.in-Err-read_segment.e items damage (λ corrupt. absurd (c.in-Err-read_segment.ensures.readable corrupt))
