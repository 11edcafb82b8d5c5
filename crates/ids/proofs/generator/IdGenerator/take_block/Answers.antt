use Rattle.std.proofs.Common.{◌≡◌, ◌∙◌, inl, inr, ◌<◌, ◌≤◌, nat_lt, if◌then◌else◌, max, ap, arith, refl, subst, sym, ℕ, Bool, true, false}
use Rattle.std.proofs.lemmas.Bool.Decides.{nat_tests}
use Rattle.sled_store.proofs.PublicLaws.{later_both}
use Rattle.sled_core.proofs.PublicLaws.{none_holding, none_is_empty, writing_pinned}
use Rattle.sled_core.specs.Fits.{IsUsedUpBelow, device_of, fault_of, holding_below, reserved_end}
use Rattle.ids.specs.Generators.{IsUsedUp, NextFails, further_bound}
use Rattle.ids.proofs.Generating.{asked_then, config_then, faulty_still, flush_fails, flush_whole, flush_written, generates_has, gives_still, had_room, has_flushed, has_generates, has_still, next_begins, none_written, used_up, within_block}
use Rattle.ids.proofs.generator.IdGenerator.take_block.Goals as goal

-- The block isn't used up.
pub returns-then-self-clause-keeps : goal.returns-then-self-clause-keeps
returns-then-self-clause-keeps g c = gives_still g.D.Device.trace g.C.Checksum.sum_of c.args.self.now

pub returns-then-self-clause-writes : goal.returns-then-self-clause-writes
returns-then-self-clause-writes g c = none_written _ _ _ refl

pub returns-then-self-clause-position : goal.returns-then-self-clause-position
returns-then-self-clause-position g c = let less = c.if-self.true in within_block c.args.self.now (omega (arith, less))

-- No further block was asked for.
pub returns-in-Err-clause-writes : goal.returns-in-Err-clause-writes
returns-in-Err-clause-writes g c = none_written _ _ _ (ap (λ x. g.D.Device.trace x.device) c.ask.ensures.unwritten)

-- All that was asked for is durable.
pub returns-in-Ok-flush-clause-keeps : goal.returns-in-Ok-flush-clause-keeps
returns-in-Ok-flush-clause-keeps g c =
    let trace = g.D.Device.trace in
    let sum = g.C.Checksum.sum_of in
    let mid = c.ask.new.self in
    let first = c.ask.ensures.gives_on in
    let flushed = c.in-Ok-flush.ensures in
    let keeps = writing_pinned trace sum mid.log c.flush.new.self mid.pinned flushed.keeps in
    record {
      asked = first.asked;
      block = first.block;
      generates = λ generates. has_generates trace sum _ (has_flushed trace sum mid.log c.flush.new.self mid.bound mid.asked mid.ahead flushed.synced.whole keeps.position.reserved flushed.acknowledges (generates_has trace sum mid (first.generates generates)));
      keeps = λ generates. asked_then trace sum c.args.self.now mid c.flush.new.self (ap (λ x. x.segment_size) first.config.config) c.ask.ensures.rest.bound first.asked (first.generates generates) keeps.preserves.goes_on (first.keeps generates);
      later = later_both _ _ _ first.later keeps.preserves.goes_on.later;
      config = config_then first.config keeps.preserves.goes_on.config;
    }

pub returns-in-Ok-flush-clause-writes : goal.returns-in-Ok-flush-clause-writes
returns-in-Ok-flush-clause-writes g c =
    flush_written g.D.Device.trace g.C.Checksum.sum_of c.args.self.now c.ask.new.self c.ask.ensures.unwritten _ _ c.in-Ok-flush.ensures.calls c.in-Ok-flush.ensures.at_most tt

pub returns-in-Ok-flush-clause-room : goal.returns-in-Ok-flush-clause-room
returns-in-Ok-flush-clause-room g c =
    let answers = c.in-Ok-flush.ensures.answers in
    had_room c.args.self.now c.ask.new.self c.ask.ensures.still c.in-Ok.ensures.asked (sym c.in-Ok.ensures.answers.0 ∙ answers.2) c.in-Ok.ensures.left answers.1

pub returns-in-Ok-flush-clause-position : goal.returns-in-Ok-flush-clause-position
returns-in-Ok-flush-clause-position g c =
    let none = c.if-self.false in
    c.in-Ok-flush.ensures.keeps.position.pinned c.ask.new.self.pinned ∙ next_begins c.args.self.now c.ask.new.self c.ask.ensures.still c.in-Ok.ensures.asked (λ less. omega (arith, less, none))

-- It is kept all the same.
pub returns-in-Err-flush-clause-keeps : goal.returns-in-Err-flush-clause-keeps
returns-in-Err-flush-clause-keeps g c =
    let trace = g.D.Device.trace in
    let sum = g.C.Checksum.sum_of in
    let mid = c.ask.new.self in
    let first = c.ask.ensures.gives_on in
    let failed = c.in-Err-flush.ensures in
    let keeps = writing_pinned trace sum mid.log c.flush.new.self mid.pinned failed.keeps in
    let same = keeps.position.reserved in
    record {
      asked = first.asked;
      block = first.block;
      generates = λ generates. has_generates trace sum _ (has_still trace sum mid.log c.flush.new.self mid.bound mid.asked keeps.preserves (omega (arith, same)) (generates_has trace sum mid (first.generates generates)));
      keeps = λ generates. asked_then trace sum c.args.self.now mid c.flush.new.self (ap (λ x. x.segment_size) first.config.config) c.ask.ensures.rest.bound first.asked (first.generates generates) keeps.preserves.goes_on (first.keeps generates);
      later = later_both _ _ _ first.later keeps.preserves.goes_on.later;
      config = config_then first.config keeps.preserves.goes_on.config;
    }

pub returns-in-Err-flush-clause-causes : goal.returns-in-Err-flush-clause-causes
returns-in-Err-flush-clause-causes g c =
    let sum = g.C.Checksum.sum_of in
    let faults = g.D.Device.faults in
    let old = c.args.self.now in
    let mid = c.ask.new.self in
    let ended = (none_is_empty mid.log).1 mid.ended in
    let up = used_up old mid c.ask.ensures.still c.in-Ok.ensures.asked (ap (λ x. x.segment_size) c.ask.ensures.gives_on.config.config) c.in-Ok.ensures.answers.0 in
    subst (λ k. NextFails c.in-Err-flush.failed (IsUsedUp old) k (fault_of c.flush.new.self) (faults old.log.config.device) (faults (device_of c.flush.new.self))) c.in-Ok.ensures.answers.0
    (subst (λ n. NextFails c.in-Err-flush.failed (IsUsedUp old) (fault_of mid.log) (fault_of c.flush.new.self) n (faults (device_of c.flush.new.self))) c.in-Ok.ensures.answers.1
    (flush_fails c.in-Err-flush.failed _ _ (IsUsedUp old) _ _ _ _ up (none_holding mid.log sum ended) c.in-Err-flush.ensures.answers))

pub returns-in-Err-flush-clause-writes : goal.returns-in-Err-flush-clause-writes
returns-in-Err-flush-clause-writes g c =
    let trace = g.D.Device.trace in
    let sum = g.C.Checksum.sum_of in
    let mid = c.ask.new.self in
    let failed = c.in-Err-flush.ensures in
    flush_written trace sum c.args.self.now mid c.ask.ensures.unwritten _ _ tt failed.at_most
    (flush_whole ℕ (Unit {0}) trace sum mid.log c.flush.new.self c.in-Err-flush.failed (holding_below sum mid.log (reserved_end mid.log)) (IsUsedUpBelow mid.log (reserved_end mid.log)) (fault_of mid.log)
    (g.D.Device.faults (device_of mid.log)) (g.D.Device.faults (device_of c.flush.new.self)) mid.pinned failed.answers failed.buffers.1)

pub returns-in-Err-flush-clause-faulty : goal.returns-in-Err-flush-clause-faulty
returns-in-Err-flush-clause-faulty g c = λ some. faulty_still c.args.self.now c.ask.new.self c.flush.new.self c.ask.ensures.unwritten c.in-Ok.ensures.answers.0 c.in-Err-flush.ensures.spares.faulty some

-- The end of the block of the identifier that comes, by numbers alone: where the block is used up it is what was asked for.
end_of : (next bound asked further now : ℕ) → bound ≤ next → now ≡ (if nat_lt bound asked then asked else further) → now ≡ (if nat_lt next bound then bound else (if nat_lt bound asked then asked else further))
end_of next bound asked further now used is = by (nat_lt next bound) refl where
  by : (b : Bool) → nat_lt next bound ≡ b → now ≡ (if b then bound else (if nat_lt bound asked then asked else further))
  by true test = absurd (let not : ⊥ = grind (arith, nat_tests, test, used) in not)
  by false test = is

-- That isn't below what was asked for before.
no_less : (bound asked further now : ℕ) → bound < now → now ≡ (if nat_lt bound asked then asked else further) → asked ≤ now
no_less bound asked further now more is = by (nat_lt bound asked) refl is where
  by : (b : Bool) → nat_lt bound asked ≡ b → now ≡ (if b then asked else further) → asked ≤ now
  by true test same = omega (arith, same)
  by false test same = (let up : asked ≤ bound = grind (arith, nat_tests, test) in omega (arith, up, more))

pub returns-in-Ok-flush-clause-end : goal.returns-in-Ok-flush-clause-end
returns-in-Ok-flush-clause-end g c =
    let old = c.args.self.now in
    let none = c.if-self.false in
    end_of old.next old.bound old.asked (further_bound old) c.ask.new.self.asked (omega (arith, none)) c.in-Ok.ensures.end

pub returns-in-Ok-flush-clause-asked : goal.returns-in-Ok-flush-clause-asked
returns-in-Ok-flush-clause-asked g c =
    let old = c.args.self.now in
    let now : ℕ = c.ask.new.self.asked in
    let same = c.ask.ensures.rest.bound in
    let more = c.in-Ok.ensures.further in
    let up : old.asked ≤ now = no_less old.bound old.asked (further_bound old) now (omega (arith, same, more)) c.in-Ok.ensures.end in
    subst (λ (n : ℕ). now ≡ max old.asked n) (returns-in-Ok-flush-clause-end g c) (omega (arith, up))

-- It was asked for, once.
pub returns-in-Err-flush-clause-refused : goal.returns-in-Err-flush-clause-refused
returns-in-Err-flush-clause-refused g c =
    let old = c.args.self.now in
    let none = c.if-self.false in (
      c.ask.ensures.rest.bound,
      inr (
        end_of old.next old.bound old.asked (further_bound old) c.ask.new.self.asked (omega (arith, none)) c.in-Ok.ensures.end,
        c.in-Err-flush.ensures.keeps.position.pinned c.ask.new.self.pinned ∙ next_begins old c.ask.new.self c.ask.ensures.still c.in-Ok.ensures.asked (λ less. omega (arith, less, none)),
      ),
    )

pub returns-in-Err-clause-refused : goal.returns-in-Err-clause-refused
returns-in-Err-clause-refused g c = (c.ask.ensures.rest.bound, inl c.in-Err.ensures.refused)
