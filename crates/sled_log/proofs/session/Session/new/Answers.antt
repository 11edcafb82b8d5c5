-- A session begins with no history, on an empty device; or it goes on from what another one left.
use Rattle.std.proofs.Common.{◌≡◌, ◌∙◌, ℕ, [], refl, sym, ap, subst, arith}
use Rattle.sled_codec.specs.History.{no_history}
use Rattle.sled_store.specs.Device.{Trace, fresh, state_of}
use Rattle.sled_store.specs.declared.config.Config.{Config}
use Rattle.sled_core.specs.Recoverable.{LeavesRecoverable}
use Rattle.sled_log.specs.RunStates.{DeviceView, begins_on}
use Rattle.sled_log.specs.RunPhases.{Unstored, view_by}
use Rattle.sled_log.proofs.Sessions.RunLemmas.{fresh_closed}
use Rattle.sled_log.proofs.Sessions.SessionLemmas.{stands_at}
use Rattle.sled_log.proofs.Sessions.DeviceLemmas.{over_begun}
use Rattle.sled_log.proofs.session.Session.new.Goals as goal

pub returns-clause-size : goal.returns-clause-size
returns-clause-size g c = ap (λ (x : Config). x.segment_size) c.new-config.ensures.config

pub returns-clause-begins : goal.returns-clause-begins
returns-clause-begins g c = λ stopped none.
    let view = view_by g.D.Device.trace g.D.Device.faults stopped in
    let sum = g.C.Checksum.sum_of in
    let trace = g.D.Device.trace in
    let made = c.new-config.result in
    let config = made.config in
    let same = c.new-config.ensures.device in
    let fresh_yet : state_of (trace made.device) ≡ fresh = ap (λ x. state_of (trace x)) same ∙ none in
    let k : Unstored = record { history = no_history; acknowledged = 0; floor = 0; tickets = []; given_up = []; heads = [] } in
    stands_at view sum _ _ _ refl (k, ap (λ x. begins_on (view x)) (sym same), fresh_closed sum config.segment_size config.least (let most = config.most in omega (arith, most)) (trace made.device) fresh_yet)

pub returns-clause-over : goal.returns-clause-over
returns-clause-over g c = λ stopped.
    let view = view_by g.D.Device.trace g.D.Device.faults stopped in
    over_begun view _ _ c.new-config.result refl (ap view c.new-config.ensures.device)

pub returns-clause-resumes : goal.returns-clause-resumes
returns-clause-resumes g c = λ stopped a can same.
    let view = view_by g.D.Device.trace g.D.Device.faults stopped in
    let sum = g.C.Checksum.sum_of in
    let made = c.new-config.result in
    let sizes = ap (λ (x : Config). x.segment_size) c.new-config.ensures.config in
    let device : a.device ≡ view made.device = same ∙ sym (ap view c.new-config.ensures.device) in
    let k : Unstored = record { history = a.history; acknowledged = a.acknowledged; floor = a.floor; tickets = []; given_up = []; heads = [] } in
    stands_at view sum _ _ _ refl (
      k,
      (λ i. record { device = device i; history = a.history; acknowledged = a.acknowledged; floor = a.floor; log = can.closed i; due = can.settled i }),
      record {
        made = can.made;
        left = subst (λ (t : Trace). LeavesRecoverable sum made.config.segment_size a.history a.acknowledged a.floor (state_of t)) (ap (λ (v : DeviceView). v.trace) device)
            (subst (λ (n : ℕ). LeavesRecoverable sum n a.history a.acknowledged a.floor (state_of a.device.trace)) (sym sizes) can.left);
      },
    )
