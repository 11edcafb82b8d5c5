use Rattle.std.proofs.Common.{rules, ◌≡◌, ◌∙◌, inl, inr, ◌<◌, ◌^◌, ℕ, ap, refl, subst, sym, arith}
use Rattle.sled_codec.specs.Snapshots.{model_of, stable_place}
use Rattle.sled_store.specs.Device.{Trace, state_of}
use Rattle.sled_store.specs.Moments.{IsLater, Throughout}
use Rattle.sled_store.proofs.PublicLaws.{later_both}
use Rattle.sled_core.specs.Fits.{device_of, fault_of, open_places, pins_of, position_of, segment_size_of, synced_end}
use Rattle.sled_core.proofs.PublicLaws.{read_recoverable}
use Rattle.sled_core.proofs.PublicLaws.{none_is_empty}
use Rattle.ids.specs.Bounds.{GivesFrom}
use Rattle.ids.specs.Generators.{CanOpen}
use Rattle.ids.specs.Openings.{OpenFails}
use Rattle.ids.specs.Readings.{CountsError, IsBoundRead}
use Rattle.ids.proofs.FirstPlaces.{begins_past, first_below}
use Rattle.ids.proofs.Generating.{has_generates}
use Rattle.ids.proofs.ReadLemmas.{known_there}
use Rattle.ids.proofs.Opening.{HasBegun, HasRecovered, begins_idle, can_recover, has_begun, not_read, not_started, recovered, recovering, recovery_fails, sized_back, start_fails, starting, was_opened}
use Rattle.ids.proofs.generator.IdGenerator.open.Given as given
use Rattle.ids.proofs.generator.IdGenerator.open.Goals as goal
use Rattle.ids.proofs.generator.IdGenerator.open.Goals.{After-start, In-Ok-start}

-- The recovery failed.

pub returns-in-Err-clause-keeps : goal.returns-in-Err-clause-keeps
returns-in-Err-clause-keeps g c = λ n most can.
    let trace = g.D.Device.trace in
    let sum = g.C.Checksum.sum_of in
    let size : ℕ = c.args.config.config.segment_size in
    let old = trace c.args.config.device in
    let config = c.read_snapshot_or_default.new.config in
    recovering sum size n most (state_of old) can old (trace config.device) (c.in-Err.ensures.recoverable can.gives.history can.gives.acknowledged can.gives.floor (can_recover sum size n most (state_of old) can))

pub returns-in-Err-clause-fails : goal.returns-in-Err-clause-fails
returns-in-Err-clause-fails g c = λ n most can.
    let trace = g.D.Device.trace in
    let sum = g.C.Checksum.sum_of in
    let size : ℕ = c.args.config.config.segment_size in
    let old = trace c.args.config.device in
    let config = c.read_snapshot_or_default.new.config in
    let recovers = can_recover sum size n most (state_of old) can in
    let can_read = read_recoverable sum size old can.own can.gives.history can.gives.acknowledged can.gives.floor can.gives.left in
    recovery_fails sum _ c.in-Err.e _ _ (c.in-Err.ensures.read can.gives.history can.gives.acknowledged can.gives.floor recovers.orderly can_read).0 c.in-Err.ensures.answers

pub returns-in-Err-clause-acts : goal.returns-in-Err-clause-acts
returns-in-Err-clause-acts g c = inl (record {
  comes = record { calls = c.in-Err.ensures.calls; ok = tt; corrupt = c.in-Err.ensures.corrupt };
  answers = c.in-Err.ensures.answers;
})

-- It gave back what it recovered, of a device that gives on.

same_size : (g : given.Over) (c : goal.After-start g) → c.read_snapshot_or_default.new.config.config.segment_size ≡ c.args.config.config.segment_size
same_size g c = ap (λ x. x.segment_size) c.in-Ok.ensures.config.config

given_back : (g : given.Over) (c : goal.After-start g) (n most : ℕ)
    → CanOpen g.C.Checksum.sum_of c.args.config.config.segment_size n most (state_of (g.D.Device.trace c.args.config.device))
    → let again : ℕ = c.read_snapshot_or_default.new.config.config.segment_size in
    let mid = g.D.Device.trace c.read_snapshot_or_default.new.config.device in
    HasRecovered g.C.Checksum.sum_of again n most (state_of mid) (model_of c.in-Ok.snapshot)
    × Throughout (GivesFrom g.C.Checksum.sum_of again n most) (g.D.Device.trace c.args.config.device) mid
given_back g c n most can =
    let mid = c.read_snapshot_or_default.new.config in
    recovered g.C.Checksum.sum_of c.args.config.config.segment_size n most (g.D.Device.trace c.args.config.device) (g.D.Device.trace mid.device) can
    (model_of c.in-Ok.snapshot) mid.config.segment_size (same_size g c) c.in-Ok.ensures.recoverable c.in-Ok.ensures.good c.in-Ok.ensures.ready

-- No log was started.

pub returns-in-Err-start-clause-keeps : goal.returns-in-Err-start-clause-keeps
returns-in-Err-start-clause-keeps g c = λ n most can.
    let trace = g.D.Device.trace in
    let sum = g.C.Checksum.sum_of in
    let old = trace c.args.config.device in
    let mid = c.read_snapshot_or_default.new.config in
    let s = model_of c.in-Ok.snapshot in
    let end = trace c.in-Err-start.refused.1.device in
    let at = (goal.at.returns-in-Err-start-clause-keeps g c).After-start in
    let r = given_back g at n most can in
    sized_back sum c.args.config.config.segment_size n most old (trace mid.device) can s mid.config.segment_size (same_size g at) end
    (starting sum mid.config.segment_size n most old (trace mid.device) s r.0 r.1 end
    (c.in-Err-start.ensures.crash r.0.history r.0.acknowledged (stable_place s.stable) r.0.ready))

pub returns-in-Err-start-clause-fails : goal.returns-in-Err-start-clause-fails
returns-in-Err-start-clause-fails g c = λ n most can.
    let s = model_of c.in-Ok.snapshot in
    let has = (given_back g (goal.at.returns-in-Err-start-clause-fails g c).After-start n most can).0 in
    start_fails c.in-Err-start.refused.0 _ _ _ _ _ (c.in-Err-start.ensures.starts has.history has.acknowledged (stable_place s.stable) has.ready)
    c.in-Err-start.ensures.answers

pub returns-in-Err-start-clause-acts : goal.returns-in-Err-start-clause-acts
returns-in-Err-start-clause-acts g c =
    let trace = g.D.Device.trace in
    let faults = g.D.Device.faults in
    let sum = g.C.Checksum.sum_of in
    let size : ℕ = c.args.config.config.segment_size in
    let config = c.read_snapshot_or_default.new.config in
    let refused = c.in-Err-start.refused in
    inr (inl (not_started sum size config.config.segment_size (ap (λ x. x.segment_size) c.in-Ok.ensures.config.config) (trace c.args.config.device) (trace config.device) (trace refused.1.device) (model_of c.in-Ok.snapshot) c.in-Ok.ensures.ok
    refused.0 (faults c.args.config.device) (faults config.device) (faults refused.1.device) c.in-Ok.ensures.answers c.in-Err-start.ensures.calls c.in-Err-start.ensures.answers))

pub returns-in-Err-start-clause-later : goal.returns-in-Err-start-clause-later
returns-in-Err-start-clause-later g c = later_both _ _ _ c.in-Ok.ensures.later c.in-Err-start.ensures.later

-- It was opened.

pub invariant_of-result : goal.invariant_of-result
invariant_of-result g c =
    let taken = c.pin-guard.ensures.taken in
    let pins = ap pins_of taken in
    let small : c.in-Ok-read_bound.bound < 2 ^ 64 = search rules in
    record {
      ordered = omega arith;
      ahead = omega arith;
      small = small;
      some = omega arith;
      pinned = omega (arith, pins);
      ended = ap open_places taken ∙ c.read_bound.ensures.only.tickets.opens ∙ (none_is_empty c.in-Ok-start.log).0 c.in-Ok-start.ensures.begins.ended;
    }

-- the log as it was started
started : (g : given.Over) (c : goal.In-Ok-start g) (n most : ℕ)
    → CanOpen g.C.Checksum.sum_of c.args.config.config.segment_size n most (state_of (g.D.Device.trace c.args.config.device))
    → HasBegun g.D.Device.trace g.C.Checksum.sum_of c.args.config.config.segment_size n most (g.D.Device.trace c.args.config.device)
    (model_of c.in-Ok.snapshot) c.in-Ok-start.log
started g c n most can =
    let config = c.read_snapshot_or_default.new.config in
    let least = config.config.least in
    has_begun g.C.Checksum.sum_of c.args.config.config.segment_size n most (g.D.Device.trace c.args.config.device) (g.D.Device.trace config.device)
    (model_of c.in-Ok.snapshot) config.config.segment_size (same_size g c.before) (given_back g c.before n most can) c.in-Ok-start.ensures.begins
    (omega (arith, least)) c.in-Ok-start.ensures.fits c.in-Ok-start.ensures.crash

pub returns-in-Ok-read_bound-clause-opens : goal.returns-in-Ok-read_bound-clause-opens
returns-in-Ok-read_bound-clause-opens g c = λ n most can.
    let trace = g.D.Device.trace in
    let sum = g.C.Checksum.sum_of in
    let place : ℕ = stable_place (model_of c.in-Ok.snapshot).stable in
    let b = started g (goal.at.returns-in-Ok-read_bound-clause-opens g c).In-Ok-start n most can in
    let bounds = b.bounds c.in-Ok-read_bound.bound (c.in-Ok-read_bound.ensures.found b.history place b.table) c.pin-guard.new.self
    (λ A f U fits. c.pin-guard.ensures.keeps.fits b.history A f U (c.read_bound.ensures.only.preserves.fits b.history A f U fits)) in
    (has_generates trace sum _ bounds.0, bounds.1, bounds.2)

pub returns-in-Ok-read_bound-clause-begins : goal.returns-in-Ok-read_bound-clause-begins
returns-in-Ok-read_bound-clause-begins g c = (refl, refl, refl, ap fault_of c.pin-guard.ensures.taken ∙ c.in-Ok-read_bound.ensures.fault c.in-Ok-start.ensures.begins.fault)

pub returns-in-Ok-read_bound-clause-keeps : goal.returns-in-Ok-read_bound-clause-keeps
returns-in-Ok-read_bound-clause-keeps g c = λ n most can.
    let b = started g (goal.at.returns-in-Ok-read_bound-clause-keeps g c).In-Ok-start n most can in
    let trace = g.D.Device.trace in
    subst (Throughout (GivesFrom g.C.Checksum.sum_of c.args.config.config.segment_size n most) (trace c.args.config.device))
    (sym (ap (λ x. trace (device_of x)) c.pin-guard.ensures.taken)) (b.gives c.read_bound.new.log c.read_bound.ensures.only.preserves.goes_on)

pub returns-in-Ok-read_bound-clause-answers : goal.returns-in-Ok-read_bound-clause-answers
returns-in-Ok-read_bound-clause-answers g c =
    let faults = g.D.Device.faults in
    ap (λ x. faults (device_of x)) c.pin-guard.ensures.taken ∙ c.in-Ok-read_bound.ensures.answers c.in-Ok-start.ensures.begins.fault ∙ c.in-Ok-start.ensures.answers.2 ∙ c.in-Ok.ensures.answers

pub returns-in-Ok-read_bound-clause-acts : goal.returns-in-Ok-read_bound-clause-acts
returns-in-Ok-read_bound-clause-acts g c =
    let trace = g.D.Device.trace in
    let faults = g.D.Device.faults in
    let sum = g.C.Checksum.sum_of in
    let size : ℕ = c.args.config.config.segment_size in
    let config = c.read_snapshot_or_default.new.config in
    let log = c.in-Ok-start.log in
    let s = model_of c.in-Ok.snapshot in
    let begins = c.in-Ok-start.ensures.begins in
    let answers = c.in-Ok-start.ensures.answers in
    let same = ap (λ x. x.segment_size) c.in-Ok.ensures.config.config in
    let pinned = ap (λ x. trace (device_of x)) c.pin-guard.ensures.taken in
    let still = pinned ∙ c.read_bound.ensures.unwritten (begins_idle _ _ s log begins) in
    let bound = subst (λ (t : Trace). IsBoundRead sum (segment_size_of log) (state_of t).log.bytes s.pages c.in-Ok-read_bound.bound) (sym pinned) c.in-Ok-read_bound.ensures.bound in (
      was_opened sum size config.config.segment_size same (trace c.args.config.device) (trace config.device) (trace (device_of c.pin-guard.new.self)) s c.in-Ok.ensures.ok (still ∙ c.in-Ok-start.ensures.made) answers.0 answers.1
          (segment_size_of log) c.in-Ok-read_bound.bound (begins.sized ∙ same) bound _ (ap position_of c.pin-guard.ensures.taken ∙ (c.read_bound.ensures.kept (begins_idle _ _ s log begins)).position.position ∙ begins.position),
      ap (λ x. faults (device_of x)) c.pin-guard.ensures.taken ∙ c.in-Ok-read_bound.ensures.answers begins.fault ∙ answers.2 ∙ c.in-Ok.ensures.answers,
    )

pub returns-in-Ok-read_bound-clause-later : goal.returns-in-Ok-read_bound-clause-later
returns-in-Ok-read_bound-clause-later g c =
    let trace = g.D.Device.trace in
    let still = ap (λ x. trace (device_of x)) c.pin-guard.ensures.taken ∙ c.read_bound.ensures.unwritten (begins_idle _ _ (model_of c.in-Ok.snapshot) c.in-Ok-start.log c.in-Ok-start.ensures.begins) in
    subst (IsLater (trace c.args.config.device)) (sym still) (later_both _ _ _ c.in-Ok.ensures.later c.in-Ok-start.ensures.later)

-- The bound wasn't read.

pub returns-clause-keeps : goal.returns-clause-keeps
returns-clause-keeps g c = λ n most can.
    let trace = g.D.Device.trace in
    let b = started g (goal.at.returns-clause-keeps g c).In-Ok-start n most can in
    subst (λ x. Throughout (GivesFrom g.C.Checksum.sum_of c.args.config.config.segment_size n most) (trace c.args.config.device) (trace x.device))
    (sym c.halt.ensures.config) (b.gives c.read_bound.new.log c.read_bound.ensures.only.preserves.goes_on)

pub returns-clause-fails : goal.returns-clause-fails
returns-clause-fails g c = λ n most can.
    let b = started g (goal.at.returns-clause-fails g c).In-Ok-start n most can in
    c.in-Err-read_bound.ensures.errors b.history (stable_place (model_of c.in-Ok.snapshot).stable) b.table

pub returns-clause-answers : goal.returns-clause-answers
returns-clause-answers g c =
    let faults = g.D.Device.faults in
    let before = c.in-Ok-start.ensures.answers.2 ∙ c.in-Ok.ensures.answers in
    subst (λ x. CountsError c.in-Err-read_bound.e (faults c.args.config.device) (faults x.device)) (sym c.halt.ensures.config)
    (subst (λ k. CountsError c.in-Err-read_bound.e k (faults (device_of c.read_bound.new.log))) before (c.in-Err-read_bound.ensures.answers c.in-Ok-start.ensures.begins.fault))

pub returns-clause-acts : goal.returns-clause-acts
returns-clause-acts g c =
    let trace = g.D.Device.trace in
    let faults = g.D.Device.faults in
    let sum = g.C.Checksum.sum_of in
    let size : ℕ = c.args.config.config.segment_size in
    let config = c.read_snapshot_or_default.new.config in
    let log = c.in-Ok-start.log in
    let s = model_of c.in-Ok.snapshot in
    let begins = c.in-Ok-start.ensures.begins in
    let answers = c.in-Ok-start.ensures.answers in
    let idle = begins_idle _ _ s log begins in
    let same = ap (λ x. x.segment_size) c.in-Ok.ensures.config.config in
    let still = c.read_bound.ensures.unwritten idle in
    let least = config.config.least in
    let past = begins_past config.config.segment_size (stable_place s.stable) s.active (omega (arith, least)) in
    let end = begins.synced in
    let below = first_below _ _ (stable_place s.stable) (synced_end log) s.pages answers.0.placed (omega (arith, past, end)) in
    let counts = subst (λ k. CountsError c.in-Err-read_bound.e k (faults (device_of c.read_bound.new.log))) (answers.2 ∙ c.in-Ok.ensures.answers) (c.in-Err-read_bound.ensures.answers begins.fault) in
    subst (λ x. OpenFails sum size c.in-Err-read_bound.e (trace c.args.config.device) (trace x.device) (faults c.args.config.device) (faults x.device)) (sym c.halt.ensures.config)
    (inr (inr (not_read sum size config.config.segment_size same (trace c.args.config.device) (trace config.device) (trace (device_of c.read_bound.new.log)) s c.in-Ok.ensures.ok (still ∙ c.in-Ok-start.ensures.made) answers.0 answers.1
    (segment_size_of log) (begins.sized ∙ same) c.in-Err-read_bound.e (faults c.args.config.device) (faults (device_of c.read_bound.new.log)) (known_there _ c.in-Err-read_bound.e below (c.in-Err-read_bound.ensures.known idle)) c.in-Err-read_bound.ensures.bound counts)))

pub returns-clause-later : goal.returns-clause-later
returns-clause-later g c =
    let trace = g.D.Device.trace in
    let still = ap (λ x. trace x.device) c.halt.ensures.config ∙ c.read_bound.ensures.unwritten (begins_idle _ _ (model_of c.in-Ok.snapshot) c.in-Ok-start.log c.in-Ok-start.ensures.begins) in
    subst (IsLater (trace c.args.config.device)) (sym still) (later_both _ _ _ c.in-Ok.ensures.later c.in-Ok-start.ensures.later)
