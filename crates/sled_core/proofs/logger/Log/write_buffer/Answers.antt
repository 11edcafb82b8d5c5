use Rattle.std.proofs.Common.{◌≡◌, ◌∙◌, ◌++◌, ◌≤ℤ◌, pos, List, ℕ, suc, ℤ, ap, sym, subst, set, Option, None, Some, Result, Ok, Err, inl, inr, OnErr}
use Rattle.std.specs.List.{slice_get}
use Rattle.std.specs.declared.io.Error.{Error as IoError}
use Rattle.sled_codec.specs.declared.result.Error.{Error}
use Rattle.sled_codec.specs.declared.result.Error.TheVariants.{Io, OutOfMemory}
use Rattle.sled_store.specs.Blobs.{UnlessFault}
use Rattle.sled_store.specs.declared.config.Config.{Config}
use Rattle.sled_store.specs.Device.{Event, Trace}
use Rattle.sled_store.specs.Script.{Performs, after_all}
use Rattle.sled_store.specs.SegmentStates.{Machine}
use Rattle.sled_store.proofs.Traces.ScriptLemmas.{after_joined, performs_behind, performs_more}
use Rattle.sled_core.specs.Account.{Account, account_of, written_account}
use Rattle.sled_core.specs.Begun.{SegmentView, line_in}
use Rattle.sled_core.specs.Causes.{Answers}
use Rattle.sled_core.specs.declared.logger.Log.{Log}
use Rattle.sled_core.specs.Fits.{ledger_of, line_of, machine_at, pins_of, segment_size_of, synced_end}
use Rattle.sled_core.specs.Freeing.{Ledger}
use Rattle.sled_core.specs.Fronts.{IsOnTheWay, synced_writes}
use Rattle.sled_core.specs.inside.OneWritten.{WroteOne}
use Rattle.sled_core.specs.inside.Turned.{FreesSlots, mark_of, promoted, write_in, write_of, writing_in, writing_of, written_now}
use Rattle.sled_core.specs.Keeps.{FailedStep}
use Rattle.sled_core.specs.Ledger.{ledger_step, marked_ledger, stepped_ledger, written_step}
use Rattle.sled_core.proofs.Line.AccountBehind.{account_same}
use Rattle.sled_core.proofs.Line.KeptCalls.{failed_over, one_writing, writing_further}
use Rattle.sled_core.proofs.Line.LogSpans.{same_with}
use Rattle.sled_core.proofs.Line.Outcomes.{all_err, all_ok, on_err, on_ok}
use Rattle.sled_core.proofs.Line.Pools.{pools_further, pools_same}
use Rattle.sled_core.proofs.logger.Log.write_buffer.Goals as goal

-- Behind the calls that write it come those of the step.
more_calls : (size : ℕ) (l : Ledger) (k : ℕ) (o : Option SegmentView) (old new : Trace) → Performs (write_of k o) old new
    → Performs (writing_of size l k o) old new
more_calls size l k None old new came = came
more_calls size l k (Some v) old new came = performs_more (write_of k (Some v)) (written_step size (mark_of k v) l).calls old new came

-- One more is synced behind the write.
one_more : (line : List SegmentView) (n k : ℕ) (v : SegmentView) → slice_get line n ≡ Some v → (old mid : Trace) → mid ≡ after_all (write_in line n k) old
    → synced_writes mid ≡ suc (synced_writes old)
one_more line n k v among old mid is = ap synced_writes is ∙ ap (λ (o : Option SegmentView). synced_writes (after_all (write_of k o) old)) among

-- A call that failed in the device may have left anything.
step_refused : {T : Type 0} (result : Result T Error) (now : Option IoError) (before after : ℕ) (old last : Trace) → Answers result None now before after
    → OnErr result ((e : IoError) × (now ≡ Some e)) → UnlessFault result old last
step_refused (Ok x) now before after old last answers failed = tt
step_refused (Err (Io e)) now before after old last (inl kept) failed = let never : None ≡ Some e = kept.0 in cc
step_refused (Err (Io e)) now before after old last (inr fault) failed = inl fault.3
step_refused (Err OutOfMemory) now before after old last answers failed =
    absurd (let clash : None ≡ Some failed.0 = sym answers.1 ∙ failed.1 in cc)
step_refused (Err _) now before after old last answers failed = absurd answers

module _ {D C : Type 0} (old mid : Log D C) (n k : ℕ) (v : SegmentView) (among : slice_get (line_of old) n ≡ Some v)
    (account : account_of mid ≡ written_account (mark_of k v) (account_of old)) (slots : machine_at mid ≡ machine_at old)
    (size : segment_size_of mid ≡ segment_size_of old) where
  marked : ledger_of mid ≡ marked_ledger (mark_of k v) (ledger_of old)
  marked = λ i. record { machine = slots i; account = account i }

  pub stepped : stepped_ledger (segment_size_of mid) (ledger_of mid) ≡ stepped_ledger (segment_size_of old) (marked_ledger (mark_of k v) (ledger_of old))
  stepped = λ i. stepped_ledger (size i) (marked i)

  -- the calls of the write, and then those of the step
  pub split : writing_in (segment_size_of old) (ledger_of old) (line_of old) n k
      ≡ write_in (line_of old) n k ++ (ledger_step (segment_size_of mid) (ledger_of mid)).calls
  split =
      ap (writing_of (segment_size_of old) (ledger_of old) k) among
      ∙ (λ i. write_of k (sym among i) ++ (ledger_step (sym size i) (sym marked i)).calls)

  -- the step failed behind it
  pub wrote_one : (trace : D → Trace) (new : Log D C) → FreesSlots mid new
      → line_of mid ≡ promoted (segment_size_of old) (set (line_of old) n (written_now k v))
      → old.fault.kept ≡ None → pins_of mid ≡ pins_of old
      → trace mid.config.device ≡ after_all (write_in (line_of old) n k) (trace old.config.device)
      → synced_writes (trace new.config.device) ≡ synced_writes (trace mid.config.device)
      → FailedStep mid new × IsOnTheWay trace new (machine_at mid) → WroteOne trace n k old new
  wrote_one trace new rest line none pins calls written failed = record {
    failed = failed_over old mid new none pins failed.0;
    line = λ u is.
        let same : u ≡ v = (let both : Some u ≡ Some v = sym is ∙ among in cc) in
        (λ i. line_in (rest.segments i)) ∙ line
        ∙ ap (λ (x : SegmentView). promoted (segment_size_of old) (set (line_of old) n (written_now k x))) (sym same);
    account = λ u is.
        let same : u ≡ v = (let both : Some u ≡ Some v = sym is ∙ among in cc) in
        account_same mid new rest.marks rest.pins ∙ account
        ∙ ap (λ (x : SegmentView). written_account (mark_of k x) (account_of old)) (sym same);
    written = written ∙ one_more (line_of old) n k v among (trace old.config.device) (trace mid.config.device) calls;
    way = subst (λ (m : Machine). IsOnTheWay trace new m) slots failed.1;
  }

pub returns-in_err-write_one-clause-at_most : goal.returns-in_err-write_one-clause-at_most
returns-in_err-write_one-clause-at_most g c =
    let old = c.args.self.now in
    more_calls (segment_size_of old) (ledger_of old) c.args.k (slice_get (line_of old) c.args.n) (g.D.Device.trace old.config.device)
    (g.D.Device.trace c.write_one.new.self.config.device) c.write_one.ensures.at_most

pub returns-in_err-write_one-clause-keeps : goal.returns-in_err-write_one-clause-keeps
returns-in_err-write_one-clause-keeps g c =
    let old = c.args.self.now in
    let mid = c.write_one.new.self in
    let did = c.write_one.ensures in
    one_writing g.D.Device.trace g.C.Checksum.sum_of old mid did.keeps did.machine

pub returns-in_err-write_one-clause-unwritten : goal.returns-in_err-write_one-clause-unwritten
returns-in_err-write_one-clause-unwritten g c =
    all_err c.from_residual.result _ (inl c.in_err-write_one.ensures.unwritten)

pub returns-clause-line : goal.returns-clause-line
returns-clause-line g c = λ v among.
    let rest = c.free_segments.ensures.rest in
    all_ok c.free_segments.result _ ((λ i. line_in (rest.segments i)) ∙ c.in_ok-write_one.ensures.line v among)

pub returns-clause-ledger : goal.returns-clause-ledger
returns-clause-ledger g c = λ v among.
    let old = c.args.self.now in
    let mid = c.write_one.new.self in
    let did = c.in_ok-write_one.ensures in
    on_ok c.free_segments.result _ _
    (λ is. is ∙ stepped old mid c.args.n c.args.k v among (did.account v among) did.machine did.keeps.position.size) c.free_segments.ensures.ledger

pub returns-clause-calls : goal.returns-clause-calls
returns-clause-calls g c =
    let old = c.args.self.now in
    let mid = c.write_one.new.self in
    let did = c.in_ok-write_one.ensures in
    let r = c.requires.ready in
    let step = (ledger_step (segment_size_of mid) (ledger_of mid)).calls in
    let before = g.D.Device.trace old.config.device in
    on_ok c.free_segments.result _ _
    (λ is.
    is ∙ ap (after_all step) did.calls ∙ sym (after_joined (write_in (line_of old) c.args.n c.args.k) step before)
    ∙ ap (λ (es : List Event). after_all es before)
    (sym (split old mid c.args.n c.args.k r.segment r.among (did.account r.segment r.among) did.machine did.keeps.position.size)))
    c.free_segments.ensures.calls

pub returns-clause-at_most : goal.returns-clause-at_most
returns-clause-at_most g c =
    let old = c.args.self.now in
    let mid = c.write_one.new.self in
    let did = c.in_ok-write_one.ensures in
    let r = c.requires.ready in
    let before = g.D.Device.trace old.config.device in
    let now = g.D.Device.trace c.free_segments.new.self.config.device in
    subst (λ (es : List Event). Performs es before now)
    (sym (split old mid c.args.n c.args.k r.segment r.among (did.account r.segment r.among) did.machine did.keeps.position.size))
    (performs_behind (write_in (line_of old) c.args.n c.args.k) (ledger_step (segment_size_of mid) (ledger_of mid)).calls before
    (g.D.Device.trace mid.config.device) now did.calls c.free_segments.ensures.at_most)

pub returns-clause-position : goal.returns-clause-position
returns-clause-position g c = λ m.
    let mid = c.write_one.new.self in
    let new = c.free_segments.new.self in
    let rest = c.free_segments.ensures.rest in
    same_with mid new (λ i. line_in (rest.segments i)) (ap (λ (x : Config). x.segment_size) rest.config) m ∙ c.in_ok-write_one.ensures.position m

pub returns-clause-keeps : goal.returns-clause-keeps
returns-clause-keeps g c =
    let old = c.args.self.now in
    let mid = c.write_one.new.self in
    let did = c.in_ok-write_one.ensures in
    writing_further g.D.Device.trace g.C.Checksum.sum_of old mid c.free_segments.new.self
    (one_writing g.D.Device.trace g.C.Checksum.sum_of old mid did.keeps did.machine) c.free_segments.ensures.keeps

pub returns-clause-answers : goal.returns-clause-answers
returns-clause-answers g c =
    let new = c.free_segments.new.self in
    subst (λ (before : ℕ). Answers c.free_segments.result None new.fault.kept before (g.D.Device.faults new.config.device)) c.in_ok-write_one.ensures.answers.2
    c.free_segments.ensures.answers

pub returns-clause-refused : goal.returns-clause-refused
returns-clause-refused g c =
    let old = c.args.self.now in
    let mid = c.write_one.new.self in
    let new = c.free_segments.new.self in
    step_refused c.free_segments.result new.fault.kept (g.D.Device.faults mid.config.device) (g.D.Device.faults new.config.device)
    (g.D.Device.trace old.config.device) (g.D.Device.trace new.config.device) c.free_segments.ensures.answers
    (on_err c.free_segments.result (FailedStep mid new × IsOnTheWay g.D.Device.trace new (machine_at mid)) _ (λ failed. (failed.0.fault, failed.0.kept))
    c.free_segments.ensures.failed)

pub returns-clause-unwritten : goal.returns-clause-unwritten
returns-clause-unwritten g c =
    let old = c.args.self.now in
    let mid = c.write_one.new.self in
    let new = c.free_segments.new.self in
    let did = c.in_ok-write_one.ensures in
    let r = c.requires.ready in
    on_err c.free_segments.result (FailedStep mid new × IsOnTheWay g.D.Device.trace new (machine_at mid)) _
    (λ failed.
    inr (wrote_one old mid c.args.n c.args.k r.segment r.among (did.account r.segment r.among) did.machine did.keeps.position.size g.D.Device.trace new
    c.free_segments.ensures.rest (did.line r.segment r.among) c.requires.fault did.keeps.position.pins did.calls c.free_segments.ensures.written failed))
    c.free_segments.ensures.failed

-- And it isn't above what was synced.
pub returns-clause-joined : goal.returns-clause-joined
returns-clause-joined g c = λ H holds.
    let mid = c.write_one.new.self in
    let new = c.free_segments.new.self in
    let rest = c.free_segments.ensures.rest in
    let same = ap (λ (a : Account). a.mark) (account_same mid new rest.marks rest.pins) in
    let low = c.in_ok-write_one.ensures.joined H holds in
    subst (λ (z : ℤ). z ≤ℤ pos (synced_end c.args.self.now)) (sym same) low

-- The step behind the write leaves the pool.
pub returns-clause-pooled : goal.returns-clause-pooled
returns-clause-pooled g c =
    let mid = c.write_one.new.self in
    let new = c.free_segments.new.self in
    let rest = c.free_segments.ensures.rest in
    pools_further c.args.self.now mid new 0 c.write_one.ensures.pooled
    (pools_same mid new (λ i. line_in (rest.segments i)) rest.pool (ap (λ (x : Config). x.segment_size) rest.config))
