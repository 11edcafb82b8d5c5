-- What holds at the joints of a run: one trace behind another, what a crash leaves, and how a phase leads to the next one.
use Rattle.std.proofs.Common.{◌≡◌, ◌∙◌, ◌<◌, ◌≤◌, ◌^◌, ⊎_elim, ℕ, ℤ, Bool, true, false, if◌then◌else◌, IsTrue, List, [], ◌∷◌, Option, None, Some, refl, sym, ap, subst}
use Rattle.std.specs.Prelude.{Result, Ok, Err, OnErr, OnOk, is_err, not, ◌&&◌, ◌↔◌}
use Rattle.sled_codec.specs.declared.result.Error.{Error}
use Rattle.sled_codec.specs.declared.result.Error.TheVariants as error
use Rattle.sled_codec.specs.Errors.{IsCorruption, IsCorrupt}
use Rattle.sled_codec.specs.History.{History, no_history}
use Rattle.sled_store.specs.declared.device.choice.Choice.{Choice}
use Rattle.sled_store.specs.declared.config.RunningConfig.{RunningConfig}
use Rattle.sled_store.specs.Blobs.{ItemAnswers}
use Rattle.sled_store.specs.StartCauses.{StartRefuses}
use Rattle.sled_store.specs.Chosen.{MayBeChosen, MayBeLeft}
use Rattle.sled_store.specs.Device.{Event, Left, State, Trace, Crashed, Settled, state_of, fresh, content_left, Leaves}
use Rattle.sled_store.specs.Moments.{IsLater}
use Rattle.sled_store.specs.Noted.{left_of}
use Rattle.sled_store.specs.Stops.{KeepsToStop}
use Rattle.sled_store.proofs.Crashes.SettledLemmas.{settled_left_too}
use Rattle.sled_core.specs.Fits.{config_of, device_of, segment_size_of}
use Rattle.sled_core.specs.Recoverable.{NoForeign, LeavesRecoverable, ReadsOnlyOwn}
use Rattle.sled_core.proofs.Start.FreshReady.{fresh_leaves}
use Rattle.sled_core.proofs.Line.NumbersKept.{fits_leaves}
use Rattle.sled_core.proofs.PublicLaws.{crash_recoverable as again, fits_reads_own, fits_reads_own_unless_stale, only_own, own_after_crash}
use Rattle.sled_log.specs.declared.session.Phase.{Phase}
use Rattle.sled_log.specs.declared.session.Phase.TheVariants as phase
use Rattle.sled_log.specs.declared.session.opened.Opened.{Opened}
use Rattle.sled_log.specs.declared.session.command.Command.{Command}
use Rattle.sled_log.specs.declared.session.command.Command.TheVariants as command
use Rattle.sled_log.specs.declared.session.command.Refusal.{Refusal}
use Rattle.sled_log.specs.declared.session.command.Refusal.TheVariants as why
use Rattle.sled_log.specs.declared.session.command.Reply.{Reply}
use Rattle.sled_log.specs.declared.session.command.Reply.TheVariants as reply
use Rattle.sled_log.specs.Refusals.{is_crash, is_for_log, reason_of, refusal_for, refused_by_log, when}
use Rattle.sled_log.specs.RunStates.{DeviceView, LogView, RunState}
use Rattle.sled_log.specs.OpenSteps.{IsCause, IsStartCause}
use Rattle.sled_log.specs.Runs.{Carries, CarriesOn, CrashStep, IsOwn, IsStep, KeepsOwn, ReadsOwnBehind, StaysRecoverable, StaysWithin, left_by_choice, told}
use Rattle.sled_log.specs.RunPhases.{AnswersFrom, AnswersIn, CarriesHere, CarriesOnIn, CarriesOut, Does, DoesBy, IsAt, IsClosedAt, IsOpenAt, RunsOn, StandsIn, Unstored, device_in, running, size_of, stands, traces}
use Rattle.sled_log.proofs.Sessions.MadeHistories.{none_made}
use Rattle.sled_log.proofs.Sessions.Within.{still_there, untouched}
pub use Rattle.sled_core.proofs.PublicLaws.{place_back}
pub use Rattle.sled_store.proofs.PublicLaws.{later_both}
pub use Rattle.sled_store.proofs.Traces.ScriptLemmas.{later_performed}

-- What holds of a call that succeeds holds where it doesn't fail, and what holds of one that fails where it does.
module _ {T E : Type 0} (r : Result T E) (P : Type 0) where
  pub on_success : is_err r ≡ false → OnOk r P → P
  on_success none holds = by r none holds where
    by : (x : Result T E) → is_err x ≡ false → OnOk x P → P
    by (Ok x) none holds = holds
    by (Err e) none holds = cc

  pub on_failure : is_err r ≡ true → OnErr r P → P
  on_failure some holds = by r some holds where
    by : (x : Result T E) → is_err x ≡ true → OnErr x P → P
    by (Ok x) some holds = cc
    by (Err e) some holds = holds

-- One trace later than another.

pub later_same : (old : Trace) → IsLater old old
later_same old = ([], refl)

pub later_is : (old new : Trace) → new ≡ old → IsLater old new
later_is old new is = ([], is)

pub later_one : (old new : Trace) (e : Event) → new ≡ e ∷ old → IsLater old new
later_one old new e is = (e ∷ [], is)

-- one configuration runs on after another
pub runs_on_both : {D C : Type 0} (trace : D → Trace) (old mid new : RunningConfig D C) → RunsOn trace old mid → RunsOn trace mid new → RunsOn trace old new
runs_on_both trace old mid new first second = record {
  later = later_both (trace old.device) (trace mid.device) (trace new.device) first.later second.later;
  kept = record { config = second.kept.config ∙ first.kept.config; checksum = second.kept.checksum ∙ first.kept.checksum };
}

pub runs_on_same : {D C : Type 0} (trace : D → Trace) (old new : RunningConfig D C) → new ≡ old → RunsOn trace old new
runs_on_same trace old new is = record {
  later = later_is (trace old.device) (trace new.device) (ap (λ (x : RunningConfig _ _). trace x.device) is);
  kept = record { config = ap (λ (x : RunningConfig _ _). x.config) is; checksum = ap (λ (x : RunningConfig _ _). x.checksum) is };
}

-- What a crash leaves.

module _ (sum : List ℕ → ℕ) (size : ℕ) where
  -- Behind a crash just what it left can be left by another one.
  pub crash_recoverable : (H : History) (A f : ℕ) (old new : Trace) (left : Left) → LeavesRecoverable sum size H A f (state_of old) → new ≡ Crashed left ∷ old → Leaves (state_of old) (content_left left (state_of old))
      → NoForeign sum size (state_of old) (content_left left (state_of old)) → LeavesRecoverable sum size H A f (state_of new)
  crash_recoverable H A f old new left leaves is may own =
      subst (λ (t : Trace). LeavesRecoverable sum size H A f (state_of t)) (sym is) (again sum size H A f old left leaves may own).1

  -- An empty device, no log on it.
  pub fresh_closed : 256 ≤ size → size < 2 ^ 63 → (trace : Trace) → state_of trace ≡ fresh → IsClosedAt sum size trace (record { history = no_history; acknowledged = 0; floor = 0; tickets = []; given_up = []; heads = [] })
  fresh_closed large small trace is = record { made = none_made; left = subst (LeavesRecoverable sum size no_history 0 0) (sym is) (fresh_leaves sum size large small) }

-- what was chosen of a crash, or what was settled, a crash may leave
pub may_be_left : (old : Trace) (choice : Choice) (taken : Bool) → (IsTrue taken → MayBeChosen choice (state_of old)) → Leaves (state_of old) (content_left (if taken then left_of choice else Settled []) (state_of old))
may_be_left old choice true may = (may refl).1
may_be_left old choice false may = settled_left_too old

-- An opening that isn't refused asks of what it reads that it is the log's own.
pub own_read : (sum : List ℕ → ℕ) (size : ℕ) (s : State) (r : Reply) → reason_of r ≡ None → IsOwn sum size s command.Open r → ReadsOnlyOwn sum size s
own_read sum size s (reply.Refused w) none own = cc
own_read sum size s r none own = own

-- Causes.

-- an answer of a recovery that is no damage has its cause
pub cause_of : (T : Type 0) (sum : List ℕ → ℕ) (blobs : ℤ → Option (List ℕ)) (e : Error) (before after : ℕ) → ItemAnswers {T = T} sum blobs (Err e) before after → (IsCorruption {T = T} (Err e) → ⊥) → IsCause e before after
cause_of T sum blobs (error.Io e) before after answers whole = answers
cause_of T sum blobs error.OutOfMemory before after answers whole = answers
cause_of T sum blobs (error.Corruption at) before after answers whole = absurd (whole tt)
cause_of T sum blobs _ before after answers whole = absurd answers

-- a cause of a recovery is one of a start
pub start_cause_of : (e : Error) (before after : ℕ) → IsCause e before after → IsStartCause e before after
start_cause_of (error.Io e) before after cause = cause
start_cause_of error.OutOfMemory before after cause = cause
start_cause_of _ before after cause = absurd cause

-- so has that of a start that is not refused for damage
pub start_cause : (e : Error) (startable in_reach unwritten : Type 0) (before after : ℕ) → StartRefuses e startable in_reach unwritten before after → (IsCorrupt e → ⊥) → IsStartCause e before after
start_cause (error.Io e) startable in_reach unwritten before after refuses whole = (refuses.0, refuses.1)
start_cause error.OutOfMemory startable in_reach unwritten before after refuses whole = refuses.0
start_cause (error.Corruption at) startable in_reach unwritten before after refuses whole = absurd (whole tt)
start_cause error.PlacesUsedUp startable in_reach unwritten before after refuses whole = refuses.3
start_cause _ startable in_reach unwritten before after refuses whole = absurd refuses

-- Phases.

-- the same command under another name
pub carried : {D C : Type 0} (view : D → DeviceView) (sum : List ℕ → ℕ) (phase : Phase D C) (c d : Command) (result : Phase D C × Reply) → d ≡ c → CarriesOut view sum phase c result → CarriesOut view sum phase d result
carried view sum phase c d result is carries = subst (λ (x : Command). CarriesOut view sum phase x result) (sym is) carries

-- Once a log is given up, a recovery can go on from its device.
pub closed_at : {D C : Type 0} (trace : D → Trace) (sum : List ℕ → ℕ) (opened : Opened D C) (k : Unstored) → IsOpenAt trace sum opened k
    → IsClosedAt sum (segment_size_of opened.log) (trace (device_of opened.log)) k
closed_at trace sum opened k at = record { made = at.made; left = fits_leaves trace sum opened.log k.history k.acknowledged k.floor at.unmarked at.fits }

-- so of what it comes to with no mark made first
pub carried_here : {D C : Type 0} (view : D → DeviceView) (sum : List ℕ → ℕ) (phase : Phase D C) (c d : Command) (result : Phase D C × Reply) → d ≡ c → CarriesHere view sum phase c result → CarriesHere view sum phase d result
carried_here view sum phase c d result is carries = subst (λ (x : Command). CarriesHere view sum phase x result) (sym is) carries

-- A log that is given up.
pub halted : {D C : Type 0} (view : D → DeviceView) (sum : List ℕ → ℕ) (opened : Opened D C) (config : RunningConfig D C) → config ≡ config_of opened.log → CarriesHere view sum (phase.Open opened) command.Halt (phase.Closed config, reply.Halted)
halted view sum opened config is = λ k at free. record {
  not_refused = refl;
  next = k;
  step = (ap (λ (x : RunningConfig _ _). view x.device) is, refl);
  at = λ own. subst (λ (x : RunningConfig _ _). IsClosedAt sum x.config.segment_size (traces view x.device) k) (sym is) (closed_at (traces view) sum opened k at);
  crash = λ own. untouched (traces view) sum opened k at (traces view config.device) (ap (λ (x : RunningConfig _ _). traces view x.device) is);
}

-- An asked stop or crash is refused for nothing that the log and the history say.
pub stop_goes : (H : History) (log : Option LogView) (n : ℕ) → refused_by_log H log (command.Stop n) ≡ None
stop_goes H None n = refl
stop_goes H (Some l) n = refl

pub crash_goes : (H : History) (log : Option LogView) (choice : Choice) → refused_by_log H log (command.Crash choice) ≡ None
crash_goes H None choice = refl
crash_goes H (Some l) choice = refl

-- A crash from any phase, by what it comes to there.
module _ {D C : Type 0} (view : D → DeviceView) (sum : List ℕ → ℕ) (from : Phase D C) (config : RunningConfig D C) (choice copy : Choice) (result : Phase D C × Reply) (taken : Bool)
    (Step : RunState → Command → Reply → DeviceView → RunState → Type 0)
    (by_crash : (a : RunState) (new : DeviceView) (b : RunState) → CrashStep a choice (reply.Crashed taken) new b → Step a (command.Crash choice) (reply.Crashed taken) new b) where
  abbrev Crashes : Unstored → RunState → DeviceView → DeviceView → Left → Type 0
  Crashes k to new old l = ((IsTrue taken ↔ MayBeLeft l (state_of old.trace))
      × (new ≡ record { trace = Crashed (if taken then l else Settled []) ∷ old.trace; failures = old.failures; is_stopped = false }))
      × (to ≡ record { device = new; history = k.history; acknowledged = k.acknowledged; floor = k.floor; log = None; due = None })

  abbrev Own : ℕ → DeviceView → Left → Type 0
  Own size old l = NoForeign sum size (state_of old.trace) (content_left (if taken then l else Settled []) (state_of old.trace))

  never : (b : Bool) (w : Refusal) (o : Option Refusal) → when (b && false) w o ≡ o
  never true w o = refl
  never false w o = refl

  closes : (p : Phase D C) (k : Unstored) → IsAt (traces view) sum p k → IsAt (traces view) sum (phase.Closed (running p)) k
  closes (phase.Closed c) k at = at
  closes (phase.Open opened) k at = closed_at (traces view) sum opened k at

  -- what was copied of a choice asks for the same
  pub crashed : config ≡ running from → left_of copy ≡ left_of choice → result.1 ≡ reply.Crashed taken → CarriesOut view sum (phase.Closed config) (command.Crash copy) result
      → (k : Unstored) → IsAt (traces view) sum from k → refusal_for (stands view from k) (command.Crash choice) ≡ None → DoesBy Step view sum from (command.Crash choice) result k
  crashed is same told_is carries = λ k at free.
      let closed : IsAt (traces view) sum (phase.Closed config) k = subst (λ (x : RunningConfig D C). IsAt (traces view) sum (phase.Closed x) k) (sym is) (closes from k at) in
      by k (carries k closed (never (view config.device).is_stopped why.Stopped None))
    where
      from_device : view config.device ≡ device_in view from
      from_device = ap (λ (x : RunningConfig D C). view x.device) is

      sizes : config.config.segment_size ≡ size_of from
      sizes = ap (λ (x : RunningConfig D C). x.config.segment_size) is

      new : DeviceView
      new = device_in view result.0

      owned : IsOwn sum (size_of from) (state_of (device_in view from).trace) (command.Crash choice) result.1 → IsOwn sum config.config.segment_size (state_of (view config.device).trace) (command.Crash copy) result.1
      owned own =
          let here : Own (size_of from) (device_in view from) (left_of choice) = subst (λ (r : Reply). IsOwn sum (size_of from) (state_of (device_in view from).trace) (command.Crash choice) r) told_is own in
          let there : Own config.config.segment_size (view config.device) (left_of copy) =
          subst (Own config.config.segment_size (view config.device)) (sym same) (subst (λ (d : DeviceView). Own config.config.segment_size d (left_of choice)) (sym from_device) (subst (λ n. Own n (device_in view from) (left_of choice)) (sym sizes) here)) in
          subst (λ (r : Reply). IsOwn sum config.config.segment_size (state_of (view config.device).trace) (command.Crash copy) r) (sym told_is) there

      leaves : (k : Unstored) → StaysRecoverable sum config.config.segment_size (stands view (phase.Closed config) k) (view config.device).trace new.trace → StaysRecoverable sum (size_of from) (stands view from k) (device_in view from).trace new.trace
      leaves k stays = subst (λ (d : DeviceView). StaysRecoverable sum (size_of from) (stands view from k) d.trace new.trace) from_device
          (subst (λ n. StaysRecoverable sum n (stands view from k) (view config.device).trace new.trace) sizes stays)

      by : (k : Unstored) → Does view sum (phase.Closed config) (command.Crash copy) result k → DoesBy Step view sum from (command.Crash choice) result k
      by k does = let to : RunState = stands view result.0 does.next in record {
        not_refused = does.not_refused;
        next = does.next;
        step = subst (λ (r : Reply). Step (stands view from k) (command.Crash choice) r new to) (sym told_is)
            (by_crash (stands view from k) new to (subst (λ (d : DeviceView). Crashes k to new d (left_of choice)) from_device (subst (Crashes k to new (view config.device)) same
            (subst (λ (r : Reply). IsStep sum config.config.segment_size (stands view (phase.Closed config) k) (command.Crash copy) r new to) told_is does.step))));
        at = λ own. does.at (owned own);
        crash = λ own. leaves k (does.crash (owned own));
      }

-- What the device's stop bars is refused for that, and else a command is refused for what the history and the log say: so it is on a device that isn't stopped.
module _ (a : RunState) (c : Command) where
  pub barred_refusal : (a.device.is_stopped && not (is_crash c)) ≡ true → refusal_for a c ≡ Some why.Stopped
  barred_refusal barred = ap (λ (b : Bool). when b why.Stopped (refused_by_log a.history a.log c)) barred

  pub free_refusal : (a.device.is_stopped && not (is_crash c)) ≡ false → refusal_for a c ≡ refused_by_log a.history a.log c
  free_refusal free = ap (λ (b : Bool). when b why.Stopped (refused_by_log a.history a.log c)) free

  pub going_refusal : a.device.is_stopped ≡ false → refusal_for a c ≡ refused_by_log a.history a.log c
  going_refusal going = free_refusal (ap (λ (b : Bool). b && not (is_crash c)) going)

-- A stop bars each command but a crash.
pub not_stopped : (b : Bool) (c : Command) → (b && not (is_crash c)) ≡ false → ((choice : Choice) → c ≡ command.Crash choice → ⊥) → b ≡ false
not_stopped false c free no_crash = refl
not_stopped true (command.Crash choice) free no_crash = absurd (no_crash choice refl)
not_stopped true c free no_crash = cc

-- One that is no stop and no crash is for the log.
pub for_log : (c : Command) → ((n : ℕ) → c ≡ command.Stop n → ⊥) → ((choice : Choice) → c ≡ command.Crash choice → ⊥) → is_for_log c ≡ true
for_log (command.Stop n) no_stop no_crash = absurd (no_stop n refl)
for_log (command.Crash choice) no_stop no_crash = absurd (no_crash choice refl)
for_log c no_stop no_crash = refl

-- A command that is carried out is told, or it was refused.
module _ {D C : Type 0} (view : D → DeviceView) (sum : List ℕ → ℕ) (from : Phase D C) (c : Command) where
  -- While a log is open that keeps no failure, and no mark joined above the floor, what is read is its own.
  phase_own : (phase : Phase D C) (k : Unstored) → IsAt (traces view) sum phase k → KeepsOwn sum (size_of phase) (stands view phase k)
  phase_own (phase.Closed config) k at = tt
  phase_own (phase.Open opened) k at = λ none. ⊎_elim
      (fits_reads_own (traces view) sum opened.log k.history k.acknowledged k.floor at.unmarked at.fits none at.zeros)
      (fits_reads_own_unless_stale (traces view) sum opened.log k.history k.acknowledged k.floor at.unmarked at.fits none at.zeros)

  -- So it is behind a command, and behind a crash that left nothing foreign always.
  own_behind : (a : RunState) (d : Command) (r : Reply) (to : Phase D C) (k : Unstored) → IsStep sum (size_of from) a d r (device_in view to) (stands view to k)
      → IsOwn sum (size_of from) (state_of a.device.trace) d r → KeepsOwn sum (size_of from) (stands view to k)
      → ReadsOwnBehind sum (size_of from) d r (stands view to k)
  own_behind a (command.Crash choice) (reply.Crashed taken) to k step own keeps =
      let left : Left = left_by_choice choice taken in
      let old : State = state_of a.device.trace in
      subst (λ (v : DeviceView). ReadsOnlyOwn sum (size_of from) (state_of v.trace)) (sym step.0.1)
      (only_own sum (size_of from) (state_of (Crashed left ∷ a.device.trace)) (own_after_crash sum (size_of from) left old own))
  own_behind a d r to k step own keeps = keeps

  -- Where nothing is done a crash leaves what it left.
  pub here : (phase : Phase D C) (k : Unstored) → IsAt (traces view) sum phase k → StaysRecoverable sum (size_of phase) (stands view phase k) (device_in view phase).trace (device_in view phase).trace
  here (phase.Closed config) k at = still_there sum config.config.segment_size k.history k.acknowledged k.floor (traces view config.device) (traces view config.device) at.left refl
  here (phase.Open opened) k at = untouched (traces view) sum opened k at (traces view (device_of opened.log)) refl

  refused_within : (k : Unstored) → IsAt (traces view) sum from k → (d : Command) → StaysWithin sum (size_of from) (stands view from k) d (device_in view from) (stands view from k)
  refused_within k at command.Open = ((device_in view from).trace, here from k at, here from k at)
  refused_within k at d = here from k at

  -- What a command that isn't refused comes to answers it,
  pub done_from : (result : Phase D C × Reply) → CarriesOut view sum from c result → ((k : Unstored) → IsAt (traces view) sum from k → refusal_for (stands view from k) c ≡ None) → AnswersFrom view sum from c result
  done_from result carries free = λ k at.
      let none = free k at in
      let does = carries k at none in
      record { refused = does.not_refused ∙ sym none; next = does.next; step = does.step; at = does.at; crash = does.crash }

  -- and a refusal answers one that is.
  pub refused_from : (w : Refusal) → ((k : Unstored) → IsAt (traces view) sum from k → Some w ≡ refusal_for (stands view from k) c) → AnswersFrom view sum from c (from, reply.Refused w)
  refused_from w because = λ k at. record {
    refused = because k at;
    next = k;
    step = (refl, refl);
    at = λ own. at;
    crash = λ own. refused_within k at c;
  }

  -- An answer is what came of a command on a device that is never stopped.
  pub carried_on : (to : Phase D C) (r : Reply) → size_of to ≡ size_of from → AnswersFrom view sum from c (to, r) → IsLater (device_in view from).trace (device_in view to).trace → CarriesOnIn view sum from c (to, r)
  carried_on to r sizes answers later a stands_in =
      let k : Unstored = stands_in.0 in
      let does = answers k stands_in.2 in
      subst (λ (x : RunState). CarriesOn sum (size_of from) x c r (StandsIn view sum to)) (sym stands_in.1) (record {
        refused = does.refused;
        new = device_in view to;
        later = later;
        after = stands view to does.next;
        step = does.step;
        crash = does.crash;
        own = λ own. subst (λ n. KeepsOwn sum n (stands view to does.next)) sizes (phase_own to does.next (does.at own));
        leads = λ own. (does.next, refl, does.at own);
      })

  -- On one that may be, an answer is told.
  pub answered : (to : Phase D C) (came : Reply) → size_of to ≡ size_of from → AnswersFrom view sum from c (to, came) → IsLater (device_in view from).trace (device_in view to).trace
      → KeepsToStop (device_in view to).trace (device_in view to).is_stopped → AnswersIn view sum from c (to, told (device_in view to).is_stopped came)
  answered to came sizes answers later stops a stands_in =
      let k : Unstored = stands_in.0 in
      let does = answers k stands_in.2 in
      subst (λ (x : RunState). Carries sum (size_of from) x c (told (device_in view to).is_stopped came) (StandsIn view sum to)) (sym stands_in.1) (record {
        refused = told_reason (device_in view to).is_stopped came ∙ does.refused;
        new = device_in view to;
        came = came;
        is_told = refl;
        later = later;
        stops = stops;
        after = stands view to does.next;
        step = does.step;
        crash = does.crash;
        own = λ own. own_behind (stands view from k) c came to does.next does.step own
            (subst (λ n. KeepsOwn sum n (stands view to does.next)) sizes (phase_own to does.next (does.at own)));
        leads = λ own. (does.next, refl, does.at own);
      })
    where
      told_reason : (stopped : Bool) (r : Reply) → reason_of (told stopped r) ≡ reason_of r
      told_reason true (reply.Failed (error.Io e)) = refl
      told_reason true r = refl
      told_reason false r = refl

  pub refused : (w : Refusal) → KeepsToStop (device_in view from).trace (device_in view from).is_stopped → ((k : Unstored) → IsAt (traces view) sum from k → Some w ≡ refusal_for (stands view from k) c) → AnswersIn view sum from c (from, reply.Refused w)
  refused w stops because a stands_in =
      let k : Unstored = stands_in.0 in
      subst (λ (x : RunState). Carries sum (size_of from) x c (reply.Refused w) (StandsIn view sum from)) (sym stands_in.1) (record {
        refused = because k stands_in.2;
        new = device_in view from;
        came = reply.Refused w;
        is_told = as_told (device_in view from).is_stopped;
        later = later_same (device_in view from).trace;
        stops = stops;
        after = stands view from k;
        step = (refl, refl);
        crash = λ own. refused_within k stands_in.2 c;
        own = λ own. own_behind (stands view from k) c (reply.Refused w) from k (refl, refl) own (phase_own from k stands_in.2);
        leads = λ own. (k, refl, stands_in.2);
      })
    where
      as_told : (stopped : Bool) → reply.Refused w ≡ told stopped (reply.Refused w)
      as_told true = refl
      as_told false = refl
