use Rattle.std.proofs.Common.{◌≡◌, ◌≢◌, ◌∙◌, ◌≤◌, ◌<◌, nat_lt, refl, ap, sym, subst, arith, rules, ℕ, ℤ, true, false, [], Option, None, Some, Result, Ok, Err, inl, inr, OnErr}
use Rattle.std.proofs.lemmas.Bool.Decides.{nat_tests}
use Rattle.std.specs.Prelude.{IfErr}
use Rattle.std.specs.Int.{w64, cast_signed, cast_unsigned}
use Rattle.std.specs.declared.io.Error.{Error as IoError}
use Rattle.sled_codec.specs.declared.result.Error.{Error}
use Rattle.sled_codec.specs.declared.result.Error.TheVariants as error
use Rattle.sled_store.specs.Accounts.{machine_of}
use Rattle.sled_store.specs.Blobs.{RemoveAnswers}
use Rattle.sled_store.specs.declared.config.Config.{Config}
use Rattle.sled_store.specs.Device.{Trace}
use Rattle.sled_store.specs.Script.{Performs, after_all}
use Rattle.sled_store.specs.SegmentStates.{Step, stabilized}
use Rattle.sled_store.specs.Stabilizing.{MovesSlots}
use Rattle.sled_store.proofs.Traces.ScriptLemmas.{performs_none}
use Rattle.sled_core.specs.Account.{account_of}
use Rattle.sled_core.specs.Causes.{Answers}
use Rattle.sled_core.specs.declared.logger.Log.{Log}
use Rattle.sled_core.specs.Fits.{device_of, fault_of, ledger_of, machine_at, pins_of, segment_size_of}
use Rattle.sled_core.specs.Fronts.{IsOnTheWay}
use Rattle.sled_core.specs.inside.Causes.{fault_in}
use Rattle.sled_core.specs.Keeps.{FailedStep}
use Rattle.sled_core.specs.Ledger.{ledger_step}
use Rattle.sled_core.proofs.Line.BlobRemoved.{removed_whole}
use Rattle.sled_core.proofs.Line.FreeingStep.{performs_counts, step_any, step_made, step_pinned}
use Rattle.sled_core.proofs.Line.KeptCalls.{writing_still}
use Rattle.sled_core.proofs.Line.MadeAnswers.{kept_by}
use Rattle.sled_core.proofs.Line.Outcomes.{on_both, on_ok}
use Rattle.sled_core.proofs.Line.StepTaken.{step_keeps}
use Rattle.sled_core.proofs.logger.Log.free_segments.Goals as goal

-- A pin is out: nothing is done.

idle : {D C : Type 0} (log : Log D C) → 0 < pins_of log
    → ledger_step (segment_size_of log) (ledger_of log) ≡ record { machine = machine_at log; calls = [] }
idle log out = step_pinned (segment_size_of log) (ledger_of log) (let yes : nat_lt 0 (pins_of log) ≡ true = grind (arith, nat_tests, out) in yes)

pub returns-then-self-gt0-clause-ledger : goal.returns-then-self-gt0-clause-ledger
returns-then-self-gt0-clause-ledger g c =
    let old = c.args.self.now in
    λ i. record { machine = (sym (idle old c.if-self-gt0.true) i).machine; account = (ledger_of old).account }

pub returns-then-self-gt0-clause-calls : goal.returns-then-self-gt0-clause-calls
returns-then-self-gt0-clause-calls g c =
    let old = c.args.self.now in
    ap (λ (s : Step). after_all s.calls (g.D.Device.trace old.config.device)) (sym (idle old c.if-self-gt0.true))

pub returns-then-self-gt0-clause-at_most : goal.returns-then-self-gt0-clause-at_most
returns-then-self-gt0-clause-at_most g c =
    let old = c.args.self.now in
    let before : Trace = g.D.Device.trace old.config.device in
    subst (λ (s : Step). Performs s.calls before before) (sym (idle old c.if-self-gt0.true)) (performs_none before)

pub returns-then-self-gt0-clause-keeps : goal.returns-then-self-gt0-clause-keeps
returns-then-self-gt0-clause-keeps g c = writing_still g.D.Device.trace g.C.Checksum.sum_of c.args.self.now

-- None is: the slots are stabilized.

made : {D C : Type 0} (log : Log D C) (mark : ℤ) → log.marks.joined ≡ mark → pins_of log ≤ 0
    → ledger_step (segment_size_of log) (ledger_of log) ≡ stabilized (segment_size_of log) mark (machine_at log)
made log mark is none =
    step_made (segment_size_of log) (ledger_of log) (let no : nat_lt 0 (pins_of log) ≡ false = grind (arith, nat_tests, none) in no)
    ∙ ap (λ (z : ℤ). stabilized (segment_size_of log) z (machine_at log)) is

-- the mark, as it is handed on
abbrev handed : ℤ → ℤ
handed mark = cast_signed w64 (cast_unsigned w64 mark)

pub returns-clause-ledger : goal.returns-clause-ledger
returns-clause-ledger g c =
    let old = c.args.self.now in
    let step = made old (handed old.marks.joined) (search rules) c.if-self-gt0.false in
    on_ok c.stabilize-freed.result _ _
    (λ is. λ i. record { machine = (is ∙ sym (ap (λ (s : Step). s.machine) step)) i; account = (ledger_of old).account })
    c.stabilize-freed.ensures.done

pub returns-clause-calls : goal.returns-clause-calls
returns-clause-calls g c =
    let old = c.args.self.now in
    let step = made old (handed old.marks.joined) (search rules) c.if-self-gt0.false in
    on_ok c.stabilize-freed.result _ _ (λ is. is ∙ ap (λ (s : Step). after_all s.calls (g.D.Device.trace old.config.device)) (sym step))
    c.stabilize-freed.ensures.made

pub returns-clause-at_most : goal.returns-clause-at_most
returns-clause-at_most g c =
    let old = c.args.self.now in
    let step = made old (handed old.marks.joined) (search rules) c.if-self-gt0.false in
    subst (λ (s : Step). Performs s.calls (g.D.Device.trace old.config.device) (g.D.Device.trace c.stabilize-freed.new.config.device)) (sym step)
    c.stabilize-freed.ensures.calls

pub returns-clause-keeps : goal.returns-clause-keeps
returns-clause-keeps g c =
    let trace = g.D.Device.trace in
    let old = c.args.self.now in
    let size = segment_size_of old in
    let m = machine_at old in
    let before = trace old.config.device in
    let now = trace c.stabilize-freed.new.config.device in
    let new = machine_of c.stabilize-freed.new.self in
    let did = c.stabilize-freed.ensures in
    let low = c.if-self-gt0.false in
    let is : old.marks.joined ≡ handed old.marks.joined = search rules in
    step_keeps trace g.C.Checksum.sum_of old _
    (record { config = did.config; checksum = did.checksum; segments = refl; reserved = refl; pins = refl; marks = refl; batches = refl; pool = refl })
    c.requires.fault
    (omega (arith, low)) (subst (λ (z : ℤ). Performs (stabilized size z m).calls before now) (sym is) did.calls)
    (subst (λ (z : ℤ). MovesSlots size z c.stabilize-freed.result m new before now) (sym is) did.moves)
    (λ good.
    subst (λ (z : ℤ). (new ≡ (stabilized size z m).machine) × (now ≡ after_all (stabilized size z m).calls before)) (sym is)
    (removed_whole c.stabilize-freed.result _ _ _ did.answers did.memory
    (on_both c.stabilize-freed.result _ _ _ (λ slots calls. (slots, calls)) did.done did.made) (sym c.note.ensures ∙ good)))

-- A failure is kept.
step_answers : (result : Result (Unit {0}) Error) (now : Option IoError) (before after : ℕ) → now ≡ fault_in result → RemoveAnswers result before after
    → IfErr result (λ e. e ≢ error.OutOfMemory) → Answers result None now before after
step_answers (Ok u) now before after is did memory = (refl, is, did)
step_answers (Err (error.Io e)) now before after is did memory = inr (refl, is ∙ kept_by e true did.0, did.1, did.0)
step_answers (Err error.OutOfMemory) now before after is did memory = absurd (memory refl)
step_answers (Err _) now before after is did memory = absurd did

step_failed : {D C : Type 0} (trace : D → Trace) (old new : Log D C) (result : Result (Unit {0}) Error) (before after : ℕ) → pins_of old ≡ 0 → fault_of old ≡ None
    → Answers result None (fault_of new) before after → IfErr result (λ e. e ≢ error.OutOfMemory) → segment_size_of new ≡ segment_size_of old
    → (account_of new).mark ≡ (account_of old).mark
    → MovesSlots (segment_size_of old) (account_of old).mark result (machine_at old) (machine_at new) (trace (device_of old)) (trace (device_of new))
    → OnErr result ((stabilized (segment_size_of old) (account_of old).mark (machine_at old)).calls ≢ [])
    → OnErr result (FailedStep old new × IsOnTheWay trace new (machine_at old))
step_failed trace old new (Ok u) before after pins none did memory size mark moved due = tt
step_failed trace old new (Err (error.Io e)) before after pins none (inl kept) memory size mark moved due = let never : None ≡ Some e = kept.0 in cc
step_failed trace old new (Err (error.Io e)) before after pins none (inr failed) memory size mark moved due = (
  record { unpinned = pins; sound = none; fault = e; kept = failed.1 },
  record {
    before = trace (device_of old);
    fault = e;
    moved = subst (λ (n : ℕ). MovesSlots {T = Unit {0}} n (account_of new).mark (Err (error.Io e)) (machine_at old) (machine_at new) (trace (device_of old))
        (trace (device_of new))) (sym size)
        (subst (λ (z : ℤ). MovesSlots {T = Unit {0}} (segment_size_of old) z (Err (error.Io e)) (machine_at old) (machine_at new) (trace (device_of old))
        (trace (device_of new))) (sym mark) moved);
    due = subst (λ (n : ℕ). (stabilized n (account_of new).mark (machine_at old)).calls ≢ []) (sym size)
        (subst (λ (z : ℤ). (stabilized (segment_size_of old) z (machine_at old)).calls ≢ []) (sym mark) due);
  },
)
step_failed trace old new (Err error.OutOfMemory) before after pins none did memory size mark moved due = absurd (memory refl)
step_failed trace old new (Err _) before after pins none did memory size mark moved due = absurd did

pub returns-clause-answers : goal.returns-clause-answers
returns-clause-answers g c =
    let did = c.stabilize-freed.ensures in step_answers c.stabilize-freed.result _ _ _ c.note.ensures did.answers did.memory

pub returns-clause-failed : goal.returns-clause-failed
returns-clause-failed g c =
    let trace = g.D.Device.trace in
    let old = c.args.self.now in
    let did = c.stabilize-freed.ensures in
    let low = c.if-self-gt0.false in
    let is : old.marks.joined ≡ handed old.marks.joined = search rules in
    step_failed trace old _ c.stabilize-freed.result _ _ (omega (arith, low)) c.requires.fault
    (step_answers c.stabilize-freed.result _ _ _ c.note.ensures did.answers did.memory) did.memory (ap (λ (x : Config). x.segment_size) did.config) refl
    (subst (λ (z : ℤ). MovesSlots (segment_size_of old) z c.stabilize-freed.result (machine_at old) (machine_of c.stabilize-freed.new.self)
    (trace old.config.device) (trace c.stabilize-freed.new.config.device)) (sym is) did.moves)
    (subst (λ (z : ℤ). OnErr c.stabilize-freed.result ((stabilized (segment_size_of old) z (machine_at old)).calls ≢ [])) (sym is) did.due)

pub returns-clause-written : goal.returns-clause-written
returns-clause-written g c =
    let old = c.args.self.now in
    performs_counts (segment_size_of old) (ledger_step (segment_size_of old) (ledger_of old)).calls (step_any (segment_size_of old) (ledger_of old))
    (g.D.Device.trace old.config.device) (g.D.Device.trace c.stabilize-freed.new.config.device) (returns-clause-at_most g c)
