use Rattle.std.proofs.Common.{◌≡◌, ◌∙◌, inl, inr, ◌+◌, if◌then◌else◌, ℕ, Bool, List, false, length, Ok, Err, ap, arith, refl, subst}
use Rattle.std.proofs.lemmas.Bool.Decides.{nat_tests}
use Rattle.sled_codec.specs.declared.serialization.message.LogKind.TheVariants.{Replace}
use Rattle.sled_codec.specs.Spelling.{short_number}
use Rattle.sled_core.specs.declared.reservation.Reservation.{Reservation}
use Rattle.sled_core.specs.Causes.{ReserveAnswers}
use Rattle.sled_core.specs.Fits.{IsLeastOpen, IsUsedUpFor, config_of, message_as, position_behind}
use Rattle.sled_core.specs.LogStatus.{LogStatus}
use Rattle.sled_core.specs.OpenPlaces.{open_places_along}
use Rattle.sled_core.specs.Reserves.{reserve_causes}
use Rattle.sled_core.proofs.PublicLaws.{awaited, comes_inline, goes_on_further, inline_named, not_in_blob, refused_inline}
use Rattle.ids.specs.Generators.{IsUsedUp, further_bound}
use Rattle.ids.proofs.Generating.{generates_has, gives_still, has_asked, has_generates, has_still, has_throughout, none_for, none_behind, ends_well, number_fits, position_still, reserve_fails}
use Rattle.ids.proofs.Moments.{through_less}
use Rattle.ids.proofs.generator.IdGenerator.ask.Goals as goal

pub returns-then-self-clause-gives_on : goal.returns-then-self-clause-gives_on
returns-then-self-clause-gives_on g c = gives_still g.D.Device.trace g.C.Checksum.sum_of c.args.self.now

pub returns-then-self-2-clause-gives_on : goal.returns-then-self-2-clause-gives_on
returns-then-self-2-clause-gives_on g c = gives_still g.D.Device.trace g.C.Checksum.sum_of c.args.self.now

-- nothing was reserved

pub invariant_of-self : goal.invariant_of-self
invariant_of-self g c =
    let old = c.args.self.now in
    let pins = c.in-Err.ensures.seen.pins in
    let pinned = old.pinned in
    let size = number_fits _ c.saturating_add-asked.result (config_of old.log).config.least c.saturating_add-asked.type_inv in
    let still = refused_inline g.C.Checksum.sum_of old.log c.reserve.new.self 0 _ _ (not_in_blob old.log _ size) c.in-Err.e c.in-Err.ensures.left in
    record {
      ordered = old.ordered;
      ahead = old.ahead;
      small = old.small;
      some = old.some;
      pinned = omega (arith, pins, pinned);
      ended = ap open_places_along still.line ∙ old.ended;
    }

pub returns-in-Err-clause-gives_on : goal.returns-in-Err-clause-gives_on
returns-in-Err-clause-gives_on g c =
    let trace = g.D.Device.trace in
    let sum = g.C.Checksum.sum_of in
    let old = c.args.self.now in
    let size = number_fits _ c.saturating_add-asked.result (config_of old.log).config.least c.saturating_add-asked.type_inv in
    let same = (refused_inline sum old.log c.reserve.new.self 0 _ _ (not_in_blob old.log _ size) c.in-Err.e c.in-Err.ensures.left).reserved in
    record {
      asked = omega arith;
      block = refl;
      generates = λ generates. has_generates trace sum _ (has_still trace sum old.log c.reserve.new.self old.bound old.asked c.in-Err.ensures.keeps (omega (arith, same)) (generates_has trace sum old generates));
      keeps = λ generates. through_less sum _ old.bound old.bound old.asked (old.asked + old.block) _ _ (omega arith) (omega arith)
          (has_throughout trace sum old.log c.reserve.new.self old.bound old.asked (generates_has trace sum old generates) c.in-Err.ensures.keeps.goes_on);
      later = c.in-Err.ensures.keeps.goes_on.later;
      config = c.in-Err.ensures.keeps.goes_on.config;
    }

pub returns-in-Err-clause-answers : goal.returns-in-Err-clause-answers
returns-in-Err-clause-answers g c =
    let old = c.args.self.now in
    let n = length (short_number c.saturating_add-asked.result) in
    let size = number_fits _ c.saturating_add-asked.result (config_of old.log).config.least c.saturating_add-asked.type_inv in
    let causes = λ (b : Bool). reserve_causes g.D.Device.trace g.D.Device.faults Replace 0 b (if b then 8 else n) old.log c.reserve.new.self in
    let none = c.if-self.false in
    let ahead = old.ahead in
    let is : c.saturating_add-asked.result ≡ further_bound old = c.saturating_add-asked.ensures in
    reserve_fails c.in-Err.e (IsUsedUpFor old.log 0 n) (IsUsedUp old) _ (causes false)
    (λ free used. inr (free, inl (omega (arith, none, ahead), inl (subst (λ k. IsUsedUpFor old.log 0 (length (short_number k))) is used)))) (λ none. cc) refl (none_for old.log 0 _ old.ended)
    (subst (λ (b : Bool). ReserveAnswers {T = Reservation} (Err c.in-Err.e) (IsUsedUpFor old.log 0 (if b then 8 else n)) (IsLeastOpen old.log) (causes b)) (not_in_blob old.log n size) c.in-Err.ensures.answers)

pub returns-in-Err-clause-unwritten : goal.returns-in-Err-clause-unwritten
returns-in-Err-clause-unwritten g c =
    let old = c.args.self.now in
    let size = number_fits _ c.saturating_add-asked.result (config_of old.log).config.least c.saturating_add-asked.type_inv in
    (refused_inline g.C.Checksum.sum_of old.log c.reserve.new.self 0 _ _ (not_in_blob old.log _ size) c.in-Err.e c.in-Err.ensures.left).config

pub returns-in-Err-clause-refused : goal.returns-in-Err-clause-refused
returns-in-Err-clause-refused g c =
    let old = c.args.self.now in
    let size = number_fits _ c.saturating_add-asked.result (config_of old.log).config.least c.saturating_add-asked.type_inv in
    let still = refused_inline g.C.Checksum.sum_of old.log c.reserve.new.self 0 _ _ (not_in_blob old.log _ size) c.in-Err.e c.in-Err.ensures.left in
    (refl, position_still old.log c.reserve.new.self still)

-- The bound was reserved and completed.

pub invariant_of-self-in-Ok-complete : goal.invariant_of-self-in-Ok-complete
invariant_of-self-in-Ok-complete g c =
    let old = c.args.self.now in
    let some = old.some in
    let ordered = old.ordered in
    let ahead = old.ahead in
    let none = c.if-self.false in
    let asked = c.saturating_add-asked.ensures in
    let small = old.small in
    let pins = c.in-Ok-complete.ensures.same.pins ∙ c.in-Ok.ensures.seen.pins in
    let pinned = old.pinned in
    record {
      ordered = ordered;
      ahead = omega (arith, asked, small);
      small = c.saturating_add-asked.type_inv;
      some = some;
      pinned = omega (arith, pins, pinned);
      ended = none_behind _ _ _ _ (ap (λ (x : LogStatus). x.opens) c.in-Ok.ensures.behind.stands.1) old.ended (c.in-Ok-complete.ensures.ends.opens _ (awaited c.reserve.new.self c.in-Ok.ticket _ c.in-Ok.ensures.ticket).0);
    }

pub invariant_of-self-in-Err-complete : goal.invariant_of-self-in-Err-complete
invariant_of-self-in-Err-complete g c = absurd (ends_well c.in-Err-complete.e _ c.in-Ok.ensures.answers.0.1 c.in-Err-complete.ensures.answers)

pub returns-in-Ok-complete-clause-gives_on : goal.returns-in-Ok-complete-clause-gives_on
returns-in-Ok-complete-clause-gives_on g c =
    let trace = g.D.Device.trace in
    let sum = g.C.Checksum.sum_of in
    let old = c.args.self.now in
    let pins = c.in-Ok.ensures.seen.pins in
    let pinned = old.pinned in
    let ahead = old.ahead in
    let none = c.if-self.false in
    let asked = c.saturating_add-asked.ensures in
    let small = old.small in
    let both = goes_on_further trace sum old.log c.reserve.new.self c.complete.new.self c.in-Ok.ensures.keeps c.in-Ok-complete.ensures.goes_on in
    let size = number_fits _ c.saturating_add-asked.result (config_of old.log).config.least c.saturating_add-asked.type_inv in
    let came = comes_inline trace g.D.Device.faults sum Replace 0 (short_number c.saturating_add-asked.result) old.log c.reserve.new.self (Ok c.in-Ok.ticket) size
    (record {
      ticket = c.in-Ok.ensures.ticket;
      stored = c.in-Ok.ensures.stored;
      manifest = c.in-Ok.ensures.manifest;
      own = c.in-Ok.ensures.own;
      behind = c.in-Ok.ensures.behind;
      others = c.in-Ok.ensures.others;
      answers = c.in-Ok.ensures.answers;
      device = c.in-Ok.ensures.device;
      keeps = c.in-Ok.ensures.keeps;
      seen = c.in-Ok.ensures.seen;
      left = tt;
    }) in
    let text : List ℕ = short_number c.saturating_add-asked.result in
    record {
      asked = omega (arith, asked, ahead);
      block = refl;
      generates = λ generates. has_generates trace sum _ (has_asked trace sum old.log c.reserve.new.self c.complete.new.self old.bound old.asked c.saturating_add-asked.result (generates_has trace sum old generates)
          (omega (arith, asked, small, ahead, none)) c.saturating_add-asked.type_inv size came.keeps (ap (λ (x : LogStatus). x.reserved) came.behind.stands.1) c.in-Ok-complete.ensures.ends.position.reserved c.in-Ok-complete.ensures.goes_on
          (λ H A f U fits. c.in-Ok-complete.ensures.fits H A f U _ fits came.ticket came.stored (inline_named H (message_as old.log Replace 0 false (length text) text) tt) (omega (arith, pins, pinned))));
      keeps = λ generates. through_less sum _ old.bound old.bound old.asked (old.asked + old.block) _ _ (omega arith) (omega arith)
          (has_throughout trace sum old.log c.complete.new.self old.bound old.asked (generates_has trace sum old generates) both);
      later = both.later;
      config = both.config;
    }

pub returns-in-Ok-complete-clause-end : goal.returns-in-Ok-complete-clause-end
returns-in-Ok-complete-clause-end g c = let none = c.if-self.false in let asked = c.saturating_add-asked.ensures in grind (arith, nat_tests, none, asked)

pub returns-in-Ok-complete-clause-asked : goal.returns-in-Ok-complete-clause-asked
returns-in-Ok-complete-clause-asked g c = λ same.
    let trace = g.D.Device.trace in
    let sum = g.C.Checksum.sum_of in
    let old = c.args.self.now in
    let size = number_fits _ c.saturating_add-asked.result (config_of old.log).config.least c.saturating_add-asked.type_inv in
    let is : c.saturating_add-asked.result ≡ further_bound old = c.saturating_add-asked.ensures in
    let came = comes_inline trace g.D.Device.faults sum Replace 0 (short_number c.saturating_add-asked.result) old.log c.reserve.new.self (Ok c.in-Ok.ticket) size
    (record {
      ticket = c.in-Ok.ensures.ticket;
      stored = c.in-Ok.ensures.stored;
      manifest = c.in-Ok.ensures.manifest;
      own = c.in-Ok.ensures.own;
      behind = c.in-Ok.ensures.behind;
      others = c.in-Ok.ensures.others;
      answers = c.in-Ok.ensures.answers;
      device = c.in-Ok.ensures.device;
      keeps = c.in-Ok.ensures.keeps;
      seen = c.in-Ok.ensures.seen;
      left = tt;
    }) in
    record {
      sound = came.answers.0.0;
      room = subst (λ k. IsUsedUpFor old.log 0 (length (short_number k)) → ⊥) is came.answers.1.1;
      position = c.in-Ok-complete.ensures.ends.position.position ∙ ap (λ (x : LogStatus). x.position) came.behind.stands.1 ∙ ap (λ k. position_behind old.log 0 (length (short_number k))) is;
    }

pub returns-in-Ok-complete-clause-unwritten : goal.returns-in-Ok-complete-clause-unwritten
returns-in-Ok-complete-clause-unwritten g c =
    let trace = g.D.Device.trace in
    let sum = g.C.Checksum.sum_of in
    let old = c.args.self.now in
    let size = number_fits _ c.saturating_add-asked.result (config_of old.log).config.least c.saturating_add-asked.type_inv in
    let came = comes_inline trace g.D.Device.faults sum Replace 0 (short_number c.saturating_add-asked.result) old.log c.reserve.new.self (Ok c.in-Ok.ticket) size
    (record {
      ticket = c.in-Ok.ensures.ticket;
      stored = c.in-Ok.ensures.stored;
      manifest = c.in-Ok.ensures.manifest;
      own = c.in-Ok.ensures.own;
      behind = c.in-Ok.ensures.behind;
      others = c.in-Ok.ensures.others;
      answers = c.in-Ok.ensures.answers;
      device = c.in-Ok.ensures.device;
      keeps = c.in-Ok.ensures.keeps;
      seen = c.in-Ok.ensures.seen;
      left = tt;
    }) in
    c.in-Ok-complete.ensures.same.config ∙ came.device
