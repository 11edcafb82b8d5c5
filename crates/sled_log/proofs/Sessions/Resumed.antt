-- What a session leaves can be gone on from: each content that a crash leaves of the device can be recovered, whether a log was open or not.
use Rattle.std.proofs.Common.{◌≡◌, ◌∷◌, refl, sym, ap, subst, ℕ, List, Some}
use Rattle.sled_store.specs.Device.{Crashed, Leaves, Left, Trace, content_left, state_of}
use Rattle.sled_core.specs.Recoverable.{LeavesRecoverable, NoForeign}
use Rattle.sled_core.proofs.PublicLaws.{crash_recoverable}
use Rattle.sled_log.specs.declared.session.Session.{Session}
use Rattle.sled_log.specs.declared.session.Phase.{Phase}
use Rattle.sled_log.specs.declared.session.Phase.TheVariants as phase
use Rattle.sled_log.specs.Made.{IsMade}
use Rattle.sled_log.specs.RunPhases.{IsAt, StandsAt, Unstored, device_in, segment_size_in, size_in, size_of, stands, traces}
use Rattle.sled_log.specs.RunStates.{DeviceView, RunState, closed}
use Rattle.sled_log.specs.Runs.{CanGoOn}
use Rattle.sled_log.proofs.Sessions.RunLemmas.{closed_at}
use Rattle.sled_log.proofs.Sessions.SessionLemmas.{stands_in}

module _ {D C : Type 0} (view : D → DeviceView) (sum : List ℕ → ℕ) where
  left_by : (p : Phase D C) (k : Unstored) → IsAt (traces view) sum p k → (new : DeviceView) → new ≡ device_in view p → CanGoOn sum (size_of p) (closed (stands view p k) new)
  left_by (phase.Closed config) k at new is = record {
    made = at.made;
    left = subst (λ (d : DeviceView). LeavesRecoverable sum config.config.segment_size k.history k.acknowledged k.floor (state_of d.trace)) (sym is) at.left;
    closed = refl;
    settled = refl;
  }
  left_by (phase.Open opened) k at new is = let shut = closed_at (traces view) sum opened k at in record {
    made = shut.made;
    left = subst (λ (d : DeviceView). LeavesRecoverable sum (size_of (phase.Open opened)) k.history k.acknowledged k.floor (state_of d.trace)) (sym is) shut.left;
    closed = refl;
    settled = refl;
  }

  pub left_at : (session : Session D C) (p : Phase D C) → session.phase ≡ Some p → (a : RunState) → StandsAt view sum session a → (new : DeviceView) → new ≡ device_in view p → CanGoOn sum (segment_size_in session) (closed a new)
  left_at session p was a at new is =
      let here = stands_in view sum session a p was at in
      subst (λ (n : ℕ). CanGoOn sum n (closed a new)) (sym (ap size_in was))
      (subst (λ (x : RunState). CanGoOn sum (size_of p) (closed x new)) (sym here.1) (left_by p here.0 here.2 new is))

-- So can what a crash leaves, at a moment at which all that it leaves can be recovered.
pub left_by_crash : (sum : List ℕ → ℕ) (size : ℕ) (a : RunState) (trace : Trace) (left : Left) (device : DeviceView) → IsMade a.history → LeavesRecoverable sum size a.history a.acknowledged a.floor (state_of trace)
    → Leaves (state_of trace) (content_left left (state_of trace)) → NoForeign sum size (state_of trace) (content_left left (state_of trace)) → device.trace ≡ Crashed left ∷ trace → CanGoOn sum size (closed a device)
left_by_crash sum size a trace left device made can may own is = record {
  made = made;
  left = subst (λ (t : Trace). LeavesRecoverable sum size a.history a.acknowledged a.floor (state_of t)) (sym is) (crash_recoverable sum size a.history a.acknowledged a.floor trace left can may own).1;
  closed = refl;
  settled = refl;
}
