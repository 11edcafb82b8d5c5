-- What is kept in memory goes with the trace: at the opening, and with each call on the files.
use Rattle.std.proofs.Common.{◌≡◌, ◌∙◌, ◌||◌, ap, sym, subst, refl, ℕ, Bool, true, false, not, is_ok, is_some, List, ◌∷◌, Option, None, Some, Vec, Result, Ok, Err}
use Rattle.std.specs.declared.alloc.Global.{Global}
use Rattle.std.specs.declared.io.Error.{Error}
use Rattle.sled_store.specs.Device.{Event, Trace, state_of, step}
use Rattle.sled_file.specs.CallRecords.{Call}
use Rattle.sled_file.specs.Calls.{called, left_by_failure, trace_after, has_failure, opened, filled_by, is_filled}
use Rattle.sled_file.specs.Failures.{kept_by, doing_in, doing_of, told_behind, first_failed}
use Rattle.sled_file.specs.Mirrors.{Mirrors}
use Rattle.sled_file.specs.declared.failure.Doing.{Doing}
use Rattle.sled_file.specs.declared.failure.Failure.{Failure}
use Rattle.sled_file.specs.declared.mirror.Mirror.{Mirror}
use Rattle.sled_file.proofs.FileLemmas.{file-listed}

nothing_written : {x : Vec ℕ Global} → None ≡ Some x → ⊥
nothing_written is = cc

-- what was found is what is read
pub begun : (m : Mirror) (calls : List Call) (past : Trace) → calls ≡ opened m
    → Mirrors (record { log = m.log; blobs = m.blobs; snapshots = m.snapshots; temporary = None }) (state_of (trace_after calls past))
begun m calls past is =
    subst (λ (made : List Call). Mirrors (record { log = m.log; blobs = m.blobs; snapshots = m.snapshots; temporary = None }) (state_of (trace_after made past))) (sym is) (record {
      log = refl;
      blobs = λ n. sym (file-listed m.blobs.files n);
      snapshots = λ n. sym (file-listed m.snapshots.files n);
      temporary = λ x none. absurd (nothing_written none);
    })

carried_by : {T : Type 0} (m : Mirror) (e : Event) (r : Result T Error) (old : List Call) (past : Trace) → ((t : Trace) → left_by_failure e t ≡ e ∷ t)
    → Mirrors m (step e (state_of (trace_after old past))) → Mirrors m (state_of (trace_after (called e r ∷ old) past))
carried_by m e (Ok x) old past changes mirrors = mirrors
carried_by m e (Err x) old past changes mirrors = subst (λ (t : Trace). Mirrors m (state_of t)) (sym (changes (trace_after old past))) mirrors

-- a call that changes is carried out, whatever it answers
pub carried : {T : Type 0} (m : Mirror) (e : Event) (r : Result T Error) (old new : List Call) (past : Trace) → new ≡ called e r ∷ old
    → ((t : Trace) → left_by_failure e t ≡ e ∷ t) → Mirrors m (step e (state_of (trace_after old past))) → Mirrors m (state_of (trace_after new past))
carried m e r old new past is changes mirrors =
    subst (λ (made : List Call). Mirrors m (state_of (trace_after made past))) (sym is) (carried_by m e r old past changes mirrors)

either : (a b : Bool) → (a || not b) ≡ (not b || a)
either true true = refl
either true false = refl
either false true = refl
either false false = refl

pub some_kept : (a b : Option Failure) → a ≡ b → is_some a ≡ is_some b
some_kept a b same = ap (λ (o : Option Failure). is_some o) same

-- and if it failed, a failure is kept
pub failed_now : {T : Type 0} (e : Event) (r : Result T Error) (old new : List Call) (was begun now : Option Failure) → new ≡ called e r ∷ old
    → is_some was ≡ has_failure old → begun ≡ was → is_some now ≡ (is_some begun || not (is_ok r)) → is_some now ≡ has_failure new
failed_now e r old new was begun now is had begins ends =
    ends ∙ ap (λ (b : Bool). b || not (is_ok r)) (some_kept begun was begins ∙ had) ∙ either (has_failure old) (is_ok r) ∙ sym (ap has_failure is)

told_by_call : {T U : Type 0} (e : Event) (d : Doing) (r : Result T Error) (a : Result U Error) (was : Option Failure)
    → doing_of e ≡ Some d → is_ok a ≡ is_ok r → doing_in (kept_by was d a) ≡ told_behind (doing_in was) (called e r)
told_by_call e d r a (Some f) does same = refl
told_by_call e d (Ok x) (Ok y) None does same = refl
told_by_call e d (Err x) (Err y) None does same = sym does
told_by_call e d (Ok x) (Err y) None does same = absurd (differ same)
  where
    differ : false ≡ true → ⊥
    differ is = cc
told_by_call e d (Err x) (Ok y) None does same = absurd (differ same)
  where
    differ : true ≡ false → ⊥
    differ is = cc

-- and it is told what the first call was to do that failed
pub told_now : {T U : Type 0} (e : Event) (d : Doing) (r : Result T Error) (a : Result U Error) (old new : List Call) (was begun now : Option Failure)
    → new ≡ called e r ∷ old → doing_of e ≡ Some d → doing_in was ≡ first_failed old → begun ≡ was → is_ok a ≡ is_ok r → now ≡ kept_by begun d a
    → doing_in now ≡ first_failed new
told_now e d r a old new was begun now is does had begins same kept =
    ap doing_in (kept ∙ ap (λ (o : Option Failure). kept_by o d a) begins) ∙ told_by_call e d r a was does same
    ∙ ap (λ (o : Option Doing). told_behind o (called e r)) had ∙ sym (ap first_failed is)

filled_by_call : {T : Type 0} (e : Event) (r : Result T Error) (old : List Call) (was now : Bool)
    → (has_failure old ≡ false → was ≡ is_filled old) → now ≡ filled_by e was → has_failure (called e r ∷ old) ≡ false → now ≡ is_filled (called e r ∷ old)
filled_by_call e (Ok x) old was now had is none = is ∙ ap (filled_by e) (had none)
filled_by_call e (Err x) old was now had is none = absurd (differ none)
  where
    differ : true ≡ false → ⊥
    differ same = cc

-- and whether a snapshot is there to be published is said by the calls, as long as none failed
pub filled_now : {T : Type 0} (e : Event) (r : Result T Error) (old new : List Call) (was now : Bool) → new ≡ called e r ∷ old
    → (has_failure old ≡ false → was ≡ is_filled old) → now ≡ filled_by e was → has_failure new ≡ false → now ≡ is_filled new
filled_now e r old new was now is had moved none =
    filled_by_call e r old was now had moved (sym (ap has_failure is) ∙ none) ∙ sym (ap is_filled is)

pub some_same : (a b : Option (Vec ℕ Global)) → a ≡ b → is_some a ≡ is_some b
some_same a b same = ap (λ (o : Option (Vec ℕ Global)). is_some o) same

-- nothing was written before the opening
pub nothing_filled : (m : Mirror) (calls : List Call) → calls ≡ opened m → has_failure calls ≡ false → false ≡ is_filled calls
nothing_filled m calls is none = sym (ap is_filled is)
