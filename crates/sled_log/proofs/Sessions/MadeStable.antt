-- What making a place stable comes to in a session, and why it fails.
use Rattle.std.proofs.Common.{◌≡◌, ◌∙◌, ◌≤◌, ◌≤ℤ◌, ◌<◌, ◌<ℤ◌, inl, inr, nat_lt, if◌then◌else◌, ℕ, ℤ, pos, int_lt, Bool, true, false, List, [], ◌∷◌, ◌++◌, Option, None, Some, ap, sym, subst, refl, arith}
use Rattle.std.specs.Prelude.{◌⊎◌, Err}
use Rattle.std.specs.declared.io.Error.{Error as IoError}
use Rattle.std.proofs.lemmas.Bool.Decides.{nat_tests}
use Rattle.std.proofs.lemmas.Int.{ints}
use Rattle.sled_codec.specs.declared.result.Error.{Error}
use Rattle.sled_codec.specs.declared.result.Error.TheVariants as error
use Rattle.sled_codec.specs.History.{History, Message}
use Rattle.sled_store.specs.Device.{Event}
use Rattle.sled_store.specs.Script.{Performs, after_all}
use Rattle.sled_core.specs.Causes.{HeldAnswers, IsHeld, OnDone}
use Rattle.sled_core.specs.declared.logger.Log.{Log}
use Rattle.sled_core.specs.Fits.{FirstWaits, IsUsedUpBelow, buffers_of, current_begin, device_of, fault_of, held_len, holding_below, reserved_end, segment_size_of, stable_end, start_of, synced_end, waiting_of, writing_below}
use Rattle.sled_core.specs.Fronts.{CameTo}
use Rattle.sled_core.specs.Ledger.{writings}
use Rattle.sled_core.specs.Stable.{IsNotReserved, StableAnswers, held_for, stabilizing, target_for}
use Rattle.sled_core.specs.Waiting.{BufferAt, free_below, spans, unless_held}
use Rattle.sled_core.specs.LogStatus.{current_span, ledger_below}
use Rattle.sled_core.specs.Spans.{held_among, spans_below}
use Rattle.sled_core.proofs.Line.Places.{behind_stable}
use Rattle.sled_core.proofs.Line.Settles.{stable_up}
use Rattle.sled_core.proofs.PublicLaws.{first_waits}
use Rattle.sled_log.specs.declared.session.command.Reply.TheVariants as reply
use Rattle.sled_log.specs.RunPhases.{seen_log, traces}
use Rattle.sled_log.specs.RunStates.{DeviceView, DueMark, LogView, MarkAt, RunState, heads_at}
use Rattle.sled_log.specs.WriteSteps.{FailsTo, IsKnownPlace, StableStep, holding, written_below}
use Rattle.sled_log.proofs.Sessions.BegunHeads.{heads_still}
use Rattle.sled_core.proofs.Line.StableTargets.{target_reserved}
use Rattle.sled_core.proofs.Line.StatusSeen.{some_reserved, some_stable}
use Rattle.sled_log.proofs.Sessions.Writing.{AreWhole, StaysPut, fails_to, flush_in, flush_out, holding_seen, if_held, its_buffers, its_writings, keeps_failing, why_of, writes_seen}

-- A place that is made stable.

-- none of the buffers begins below what is on the device
none_free : (to stable begin : ℕ) (ws : List BufferAt) → to ≤ stable → FirstWaits stable begin ws → free_below to ws ≡ []
none_free to stable begin [] le first = refl
none_free to stable begin (b ∷ bs) le first =
    ap (λ (o : Bool). if o then unless_held b.held (b ∷ free_below to bs) else []) (let no : nat_lt b.place to ≡ false = grind (arith, nat_tests, le, first) in no)

none_seen : (to stable begin : ℕ) (ws : List BufferAt) → to ≤ stable → FirstWaits stable begin ws → spans_below to (spans ws) ≡ []
none_seen to stable begin [] le first = refl
none_seen to stable begin (b ∷ bs) le first =
    ap (λ (o : Bool). if o then record { place = b.place; end = b.end; lid = b.lid } ∷ spans_below to (spans bs) else []) (let no : nat_lt b.place to ≡ false = grind (arith, nat_tests, le, first) in no)

module _ {D C : Type 0} (log : Log D C) (sum : List ℕ → ℕ) (begun : ℕ) (tickets : List (Option Message)) (given_up : List Message) (heads : List MarkAt) where
  -- what is stable lies below the current buffer, which so isn't sealed
  unsealed : (to : ℕ) → to ≤ synced_end log → nat_lt (current_begin log) to ≡ false
  unsealed to le = let is = stable_up log (pos (current_begin log)) (omega (arith, ints)) in let up : synced_end log ≤ current_begin log = omega (arith, ints, is) in grind (arith, nat_tests, le, up)

  -- Nothing is written below the stable end.
  none_below : (to : ℕ) → to ≤ synced_end log → free_below to (its_buffers log sum begun tickets given_up heads to) ≡ []
  none_below to le =
      ap (λ (o : Bool). free_below to (if o then buffers_of sum log else waiting_of log)) (unsealed to le)
      ∙ none_free to (synced_end log) (current_begin log) (waiting_of log) le (first_waits log)

  none_held : (to : ℕ) → to ≤ synced_end log → written_below to (seen_log log begun tickets given_up heads) ≡ []
  none_held to le =
      let l : LogView = seen_log log begun tickets given_up heads in
      ap (λ (o : Bool). spans_below to (if o then l.status.waiting ++ current_span l.status l.status.position ∷ [] else l.status.waiting)) (unsealed to le)
      ∙ none_seen to (synced_end log) (current_begin log) (waiting_of log) le (first_waits log)

  module _ (place : ℤ) where
    abbrev target : ℕ
    target = target_for log place

    abbrev view_of : LogView
    view_of = seen_log log begun tickets given_up heads

    below_test : (n : ℕ) → int_lt place (pos n) ≡ true → place <ℤ pos n
    below_test n is = grind (arith, ints, is)

    -- what has to be written for a stable place is on the device
    target_synced : place <ℤ pos (stable_end log) → target ≤ synced_end log
    target_synced = behind_stable sum log place

    pub some_known : IsKnownPlace view_of place → current_begin log < target → 0 < held_len log
    some_known (inl stable) = some_stable log target (target_synced stable)
    some_known (inr reserved) = some_reserved log target (target_reserved log place reserved)

    -- what makes it stable
    pub stabilizing_seen : stabilizing sum log place ≡ its_writings log sum begun tickets given_up heads target
    stabilizing_seen = by (int_lt place (pos (stable_end log))) refl where
      by : (o : Bool) → int_lt place (pos (stable_end log)) ≡ o → (if o then [] else writing_below sum log target) ≡ its_writings log sum begun tickets given_up heads target
      by true is = sym (ap (λ (bs : List BufferAt). writings (segment_size_of log) bs (ledger_below target view_of.status)) (none_below target (target_synced (below_test (stable_end log) is))))
      by false is = writes_seen log sum begun tickets given_up heads target

    -- and what holds that up
    pub held_seen : (known : IsKnownPlace view_of place) → held_for sum log place ≡ holding target view_of
    held_seen known = by (int_lt place (pos (stable_end log))) refl where
      by : (o : Bool) → int_lt place (pos (stable_end log)) ≡ o → (if o then None else holding_below sum log target) ≡ holding target view_of
      by true is = sym (ap (held_among (view_of.status.opens)) (none_held target (target_synced (below_test (stable_end log) is))))
      by false is = holding_seen log sum begun tickets given_up heads target (some_known known)

-- A call that makes a place stable, and failed: it wasn't reserved, or the log kept a failure, and nothing was done; or it was reserved.
module _ {D C : Type 0} (view : D → DeviceView) (sum : List ℕ → ℕ) (log new : Log D C) (begun : ℕ) (tickets : List (Option Message)) (given_up : List Message) (heads : List MarkAt) (place : ℤ) (H : History) (A f : ℕ) (due : Option DueMark) (put : StaysPut (traces view) sum log new)
    (whole : fault_of log ≡ None → AreWhole sum log given_up heads) where
  abbrev old_device : DeviceView
  old_device = view (device_of log)

  abbrev new_device : DeviceView
  new_device = view (device_of new)

  abbrev from : RunState
  from = record { device = old_device; history = H; acknowledged = A; floor = f; log = Some (seen_log log begun tickets given_up heads); due = due }

  abbrev leads_to : RunState
  leads_to = record { device = new_device; history = H; acknowledged = A; floor = f; log = Some (seen_log new begun tickets given_up (heads_at (seen_log log begun tickets given_up heads) (start_of new))); due = due }

  abbrev Fails : Error → Type 0
  Fails e = StableStep sum (segment_size_of log) from (seen_log log begun tickets given_up heads) place (reply.Failed e) new_device leads_to

  same_device : new ≡ log → new_device ≡ old_device
  same_device same = ap (λ (x : Log D C). view (device_of x)) same

  abbrev StableFails : Error → Type 0
  StableFails e = StableAnswers {T = ℕ} (Err e) place (stable_end log) (reserved_end log) (held_for sum log place) (IsUsedUpBelow log (target_for log place)) (fault_of log) (fault_of new) old_device.failures new_device.failures

  -- it was reserved
  known_fails : (e : Error) → pos (stable_end log) ≤ℤ place → place <ℤ pos (reserved_end log) → OnDone {T = ℕ} (Err e) (new_device.trace ≡ after_all (stabilizing sum log place) old_device.trace) → Performs (stabilizing sum log place) old_device.trace new_device.trace → (IsHeld {T = ℕ} (Err e) → target_for log place ≤ current_begin new) → (IsNotReserved {T = ℕ} (Err e) → ⊥) → IsNotReserved {T = ℕ} (Err e) ⊎ CameTo (traces view) sum (target_for log place) log new → fault_of log ≡ None
      → HeldAnswers {T = ℕ} (Err e) (held_for sum log place) (IsUsedUpBelow log (target_for log place)) (fault_of log) (fault_of new) old_device.failures new_device.failures
      → (pos (stable_end log) ≤ℤ place) × (place <ℤ pos (reserved_end log)) × FailsTo sum (segment_size_of log) from (seen_log log begun tickets given_up heads) (target_for log place) e new_device leads_to
  known_fails e above reserved done made sealed known_place came none answers =
      let known : IsKnownPlace (seen_log log begun tickets given_up heads) place = inr reserved in (
        above,
        reserved,
        fails_to log sum begun tickets given_up heads (target_for log place) (some_known log sum begun tickets given_up heads place known) new (traces view) old_device new_device H A f due put (whole none) e refl refl none
            (why_of ℕ e (held_for sum log place) _ (IsUsedUpBelow log (target_for log place)) _ (fault_of log) (fault_of new) old_device.failures new_device.failures none (held_seen log sum begun tickets given_up heads place known)
            (λ used. (used.0, flush_out log sum begun tickets given_up heads used.1)) (λ free needs. needs.1 (flush_in log sum begun tickets given_up heads (λ used. free (needs.0, used)))) answers)
            (subst (λ (es : List Event). Performs es old_device.trace new_device.trace) (stabilizing_seen log sum begun tickets given_up heads place) made)
            (if_held ℕ e _ _ (λ all. all ∙ ap (λ (es : List Event). after_all es old_device.trace) (stabilizing_seen log sum begun tickets given_up heads place)) done) sealed (elim came [ inl other ↦ absurd (known_place other) | inr far ↦ far ]),
      )

  pub stable_failed : (e : Error) → StableFails e → OnDone {T = ℕ} (Err e) (new_device.trace ≡ after_all (stabilizing sum log place) old_device.trace) → Performs (stabilizing sum log place) old_device.trace new_device.trace
      → ((x : IoError) → fault_of log ≡ Some x → new ≡ log) → (IsNotReserved {T = ℕ} (Err e) → new ≡ log) → (IsHeld {T = ℕ} (Err e) → target_for log place ≤ current_begin new) → IsNotReserved {T = ℕ} (Err e) ⊎ CameTo (traces view) sum (target_for log place) log new → Fails e
  stable_failed (error.NotReserved at) answers done made faulty refused sealed came = (
    answers.0,
    answers.1,
    answers.2,
    answers.3,
    same_device (refused tt),
    ap (λ (x : Log D C). record { device = view (device_of x); history = H; acknowledged = A; floor = f; log = Some (seen_log x begun tickets given_up (heads_at (seen_log log begun tickets given_up heads) (start_of x))); due = due }) (refused tt)
        ∙ ap (λ (hs : List MarkAt). record { device = old_device; history = H; acknowledged = A; floor = f; log = Some (seen_log log begun tickets given_up hs); due = due }) (heads_still (seen_log log begun tickets given_up heads)),
  )
  stable_failed (error.Io x) answers done made faulty refused sealed came = elim answers.1 [
    | inl kept ↦ (let same : new ≡ log = faulty x kept.0 in inl (keeps_failing log new begun tickets given_up heads old_device new_device H A f due (error.Io x) x refl kept.0 same (same_device same)))
    | inr failed ↦ inr (known_fails (error.Io x) (answers.0 failed.0).0 (answers.0 failed.0).1 done made sealed (λ no. no) came failed.0 answers.1)
  ]
  stable_failed error.OutOfMemory answers done made faulty refused sealed came = inr (known_fails error.OutOfMemory answers.0 answers.1 done made sealed (λ no. no) came answers.3 (answers.2, answers.3, answers.4, answers.5))
  stable_failed error.PlacesUsedUp answers done made faulty refused sealed came = inr (known_fails error.PlacesUsedUp answers.0 answers.1 done made sealed (λ no. no) came answers.2.1 answers.2)
  stable_failed (error.Held at) answers done made faulty refused sealed came = inr (known_fails (error.Held at) answers.0 answers.1 done made sealed (λ no. no) came answers.2.2 answers.2)
  stable_failed _ answers done made faulty refused sealed came = absurd answers
