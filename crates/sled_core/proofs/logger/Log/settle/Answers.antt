-- The current buffer is sealed first, where it has the place; then the one buffer that has it is written.
use Rattle.std.proofs.Common.{◌≡◌, ◌∙◌, ◌<◌, ap, sym, refl, arith, subst, inl, inr, pos, ℕ, List}
use Rattle.std.proofs.lemmas.Bool.Decides.{nat_tests}
use Rattle.std.proofs.lemmas.Int.{ints}
use Rattle.std.proofs.lemmas.Result.{err_from_is_err_and}
use Rattle.sled_store.specs.Device.{Event}
use Rattle.sled_store.specs.Script.{Performs, after_all}
use Rattle.sled_store.specs.declared.config.RunningConfig.{RunningConfig}
use Rattle.sled_store.proofs.Traces.ScriptLemmas.{performs_nothing}
use Rattle.sled_core.specs.Causes.{OnDone}
use Rattle.sled_core.specs.declared.logger.Log.{Log}
use Rattle.sled_core.specs.Fits.{current_begin, reserved_end, synced_end}
use Rattle.sled_core.specs.Keeps.{KeepsLog}
use Rattle.sled_core.specs.ReadBuffer.{IsUsedUpAt, LeavesUnsealed, settling}
use Rattle.sled_core.specs.Waiting.{BufferStart}
use Rattle.sled_core.proofs.Line.KeptCalls.{log_writing, spared_same, writing_further, writing_still}
use Rattle.sled_core.proofs.Line.Advanced.{same_current}
use Rattle.sled_core.proofs.Line.LogSpans.{same_buffers}
use Rattle.sled_core.proofs.Line.Outcomes.{answers_used, on_err, seal_answers, seal_not_done, seal_not_held}
use Rattle.sled_core.proofs.Line.HeaderMarks.{none_begun, segment_same}
use Rattle.sled_core.proofs.Line.SealsFor.{SealsFor, came_sealed, held_at_same, held_sound, holds_reserved, seals_current, seals_still, settling_same, writes_around}
use Rattle.sled_core.proofs.Line.Settles.{held_stable, stable_written}
use Rattle.sled_core.proofs.Line.Spared.{spared_at}
use Rattle.sled_core.proofs.Line.Wrote.{status_same}
use Rattle.sled_core.specs.Pooled.{PoolsSome}
use Rattle.sled_core.proofs.Line.Pools.{pools_sealing, pools_some, pools_some_further, pools_still, pools_unchanged}
use Rattle.sled_core.proofs.logger.Log.settle.Given.{Over}
use Rattle.sled_core.proofs.logger.Log.settle.Goals.{then-place-current_begin+in_ok-seal, else-place-current_begin}
use Rattle.sled_core.proofs.logger.Log.settle.Goals as goal
use Rattle.sled_core.proofs.Line.AccountBehind.{account_unchanged, ledger_unchanged}
use Rattle.sled_core.proofs.Line.MarksJoin.{joins_further, joins_same}

-- The place is stable.

pub returns-then-place-synced_end-clause-written : goal.returns-then-place-synced_end-clause-written
returns-then-place-synced_end-clause-written g c = stable_written c.args.self.now c.args.place (omega (arith, c.if-place-synced_end.true, c.synced_end.ensures.is))

pub returns-then-place-synced_end-clause-at_most : goal.returns-then-place-synced_end-clause-at_most
returns-then-place-synced_end-clause-at_most g c = performs_nothing _ _ _ refl

pub returns-then-place-synced_end-clause-keeps : goal.returns-then-place-synced_end-clause-keeps
returns-then-place-synced_end-clause-keeps g c = writing_still g.D.Device.trace g.C.Checksum.sum_of c.args.self.now

pub returns-then-place-synced_end-clause-answers : goal.returns-then-place-synced_end-clause-answers
returns-then-place-synced_end-clause-answers g c =
    let old = c.args.self.now in
    let below : c.args.place < synced_end old = omega (arith, c.if-place-synced_end.true, c.synced_end.ensures.is) in
    let lower = (stable_written old c.args.place below).0 in
    (held_stable old g.C.Checksum.sum_of (pos c.args.place) (omega (arith, ints, below)), (λ used. let up = used.0 in omega (arith, ints, up, lower)), refl, c.requires.fault, refl)

pub returns-then-place-synced_end-clause-seals : goal.returns-then-place-synced_end-clause-seals
returns-then-place-synced_end-clause-seals g c = record { still = λ _. refl; apart = λ _. refl; once = inl refl; held = λ is. absurd is; none = λ none. none }

pub returns-then-place-synced_end-clause-buffers : goal.returns-then-place-synced_end-clause-buffers
returns-then-place-synced_end-clause-buffers g c =
    let below : c.args.place < synced_end c.args.self.now = omega (arith, c.if-place-synced_end.true, c.synced_end.ensures.is) in
    (record { still = λ _. (refl, refl); written = λ behind. absurd (omega (arith, ints, below, behind)); held = λ is. absurd is; some = tt; marked = none_begun g.C.Checksum.sum_of c.args.self.now c.args.self.now refl (λ h there. there) (λ f there. there) }, tt)

-- The current buffer could not be sealed.

pub seal-requires : goal.seal-requires
seal-requires g c =
    let log = c.args.self.now in
    let reserved : c.args.place < log.reserved_to = elim c.requires.reserved [ inl below ↦ absurd (omega (arith, below, c.if-place-synced_end.false, c.synced_end.ensures.is)) | inr lower ↦ lower ] in
    let some = (holds_reserved log c.args.place (omega (arith, c.if-place-current_begin.true, c.current_begin.ensures.is)) reserved).0 in
    grind (arith, nat_tests, some)

pub returns-in_err-seal-clause-written : goal.returns-in_err-seal-clause-written
returns-in_err-seal-clause-written g c =
    let e = err_from_is_err_and c.from_residual.result c.from_residual.ensures.1 in
    rw e.1 tt

pub returns-in_err-seal-clause-calls : goal.returns-in_err-seal-clause-calls
returns-in_err-seal-clause-calls g c =
    let e = err_from_is_err_and c.from_residual.result c.from_residual.ensures.1 in
    rw (e.1, e.2) (seal_not_done (Unit {0}) (Unit {0}) c.in_err-seal.field-0.0 _ c.in_err-seal.ensures.answers _)

pub returns-in_err-seal-clause-at_most : goal.returns-in_err-seal-clause-at_most
returns-in_err-seal-clause-at_most g c = performs_nothing _ _ _ (ap (λ (x : RunningConfig g.row.D.Denot g.row.C.Denot). g.D.Device.trace x.device) c.in_err-seal.ensures.err.config)

pub returns-in_err-seal-clause-keeps : goal.returns-in_err-seal-clause-keeps
returns-in_err-seal-clause-keeps g c =
    let old = c.args.self.now in
    let new = c.seal.new.self in
    let keeps : KeepsLog g.D.Device.trace g.C.Checksum.sum_of old new = record {
      preserves = c.in_err-seal.ensures.keeps.preserves;
      tickets = c.in_err-seal.ensures.keeps.tickets;
      position = c.in_err-seal.ensures.keeps.position;
    } in
    log_writing g.D.Device.trace g.C.Checksum.sum_of old new keeps
    (spared_same old new c.in_err-seal.ensures.err.machine c.in_err-seal.ensures.err.pins)

pub returns-in_err-seal-clause-answers : goal.returns-in_err-seal-clause-answers
returns-in_err-seal-clause-answers g c =
    let same = c.in_err-seal.ensures.err in
    let e = err_from_is_err_and c.from_residual.result c.from_residual.ensures.1 in
    rw (e.1, e.2) (seal_answers (Unit {0}) (Unit {0}) c.in_err-seal.field-0.0 _ c.in_err-seal.ensures.answers _ _ _ _ _
    (λ used. (let up = c.if-place-current_begin.true in let is = c.current_begin.ensures.is in omega (arith, ints, up, is), used)) (λ used. used.1) (same.fault ∙ c.requires.fault)
    (ap (λ (x : RunningConfig g.row.D.Denot g.row.C.Denot). g.D.Device.faults x.device) same.config))

pub returns-in_err-seal-clause-seals : goal.returns-in_err-seal-clause-seals
returns-in_err-seal-clause-seals g c =
    let old = c.args.self.now in
    let same = c.in_err-seal.ensures.err in
    let e = err_from_is_err_and c.from_residual.result c.from_residual.ensures.1 in
    let stays = same_current old c.seal.new.self same.line in
    rw (e.1, e.2) (record {
      still = λ below. absurd (omega (arith, ints, below, c.if-place-synced_end.false, c.synced_end.ensures.is));
      apart = λ _. stays;
      once = inl stays;
      held = λ is. absurd (seal_not_held (Unit {0}) (Unit {0}) c.in_err-seal.field-0.0 _ c.in_err-seal.ensures.answers is);
      none = λ _. tt;
    })

pub returns-in_err-seal-clause-buffers : goal.returns-in_err-seal-clause-buffers
returns-in_err-seal-clause-buffers g c =
    let e = err_from_is_err_and c.from_residual.result c.from_residual.ensures.1 in
    let old = c.args.self.now in
    let new = c.seal.new.self in
    let same = c.in_err-seal.ensures.err in
    let keeps = c.seal.ensures.keeps in
    let stays : LeavesUnsealed old new = ((same_buffers old new same.line).0, status_same old new same.line (ledger_unchanged old new same) keeps.position keeps.tickets keeps.preserves.noted) in
    rw (e.1, e.2) (
      record {
        still = λ below. absurd (omega (arith, ints, below, c.if-place-synced_end.false, c.synced_end.ensures.is));
        written = λ _. tt;
        held = λ is. absurd (seal_not_held (Unit {0}) (Unit {0}) c.in_err-seal.field-0.0 _ c.in_err-seal.ensures.answers is);
        some = inl stays;
        marked = (let kept = segment_same c.args.self.now c.seal.new.self c.in_err-seal.ensures.err.line in none_begun g.C.Checksum.sum_of c.args.self.now c.seal.new.self kept.place kept.heads kept.fillings);
      },
      inl (stays, ap (λ (x : RunningConfig g.row.D.Denot g.row.C.Denot). g.D.Device.trace x.device) c.in_err-seal.ensures.err.config, λ _. c.in_err-seal.ensures.err.fault),
    )

-- The buffer that has the place is sealed now.

sealed_for : (g : Over) (c : goal.After-write_around-arg-1 g) → SealsFor g.D.Device.trace g.C.Checksum.sum_of c.args.place c.args.self.now c.if-place-current_begin.self
sealed_for g c =
    let old = c.args.self.now in
    let place = c.args.place in
    let trace = g.D.Device.trace in
    let sum = g.C.Checksum.sum_of in
    let begin : c.current_begin.result ≡ current_begin old = c.current_begin.ensures.is in
    elim c.if-place-current_begin.branch [
      | then-place-current_begin+in_ok-seal w ↦ subst (λ (l : Log g.row.D.Denot g.row.C.Denot). SealsFor trace sum place old l) (sym w.self-is)
          (seals_current trace sum place old w.seal.new.self (let up = w.if-place-current_begin.true in omega (arith, up, begin))
          (elim c.requires.reserved [ inl below ↦ absurd (omega (arith, below, c.if-place-synced_end.false, c.synced_end.ensures.is)) | inr lower ↦ lower ])
          w.in_ok-seal.ensures.buffers w.in_ok-seal.ensures.waiting w.in_ok-seal.ensures.begins w.in_ok-seal.ensures.start w.in_ok-seal.ensures.position w.seal.ensures.keeps.preserves w.seal.ensures.keeps.tickets w.seal.ensures.keeps.position w.seal.ensures.same w.in_ok-seal.ensures.answers.0 w.in_ok-seal.ensures.marked)
      | else-place-current_begin w ↦ subst (λ (l : Log g.row.D.Denot g.row.C.Denot). SealsFor trace sum place old l) (sym w.self-is)
          (seals_still trace sum place old (let low = w.if-place-current_begin.false in omega (arith, low, begin)))
    ]

pub write_around-requires-clause-fault : goal.write_around-requires-clause-fault
write_around-requires-clause-fault g c = (sealed_for g c).fault ∙ c.requires.fault

pub write_around-requires-clause-behind : goal.write_around-requires-clause-behind
write_around-requires-clause-behind g c = let same = (sealed_for g c).synced in omega (arith, same, c.if-place-synced_end.false, c.synced_end.ensures.is)

pub write_around-requires-clause-sealed : goal.write_around-requires-clause-sealed
write_around-requires-clause-sealed g c = (sealed_for g c).lower

seals : (g : Over) (c : goal.After-write_around g) → SealsFor g.D.Device.trace g.C.Checksum.sum_of c.args.place c.args.self.now c.if-place-current_begin.self
seals g c =
    let old = c.args.self.now in
    let place = c.args.place in
    let trace = g.D.Device.trace in
    let sum = g.C.Checksum.sum_of in
    let begin : c.current_begin.result ≡ current_begin old = c.current_begin.ensures.is in
    elim c.if-place-current_begin.branch [
      | then-place-current_begin+in_ok-seal w ↦ subst (λ (l : Log g.row.D.Denot g.row.C.Denot). SealsFor trace sum place old l) (sym w.self-is)
          (seals_current trace sum place old w.seal.new.self (let up = w.if-place-current_begin.true in omega (arith, up, begin))
          (elim c.requires.reserved [ inl below ↦ absurd (omega (arith, below, c.if-place-synced_end.false, c.synced_end.ensures.is)) | inr lower ↦ lower ])
          w.in_ok-seal.ensures.buffers w.in_ok-seal.ensures.waiting w.in_ok-seal.ensures.begins w.in_ok-seal.ensures.start w.in_ok-seal.ensures.position w.seal.ensures.keeps.preserves w.seal.ensures.keeps.tickets w.seal.ensures.keeps.position w.seal.ensures.same w.in_ok-seal.ensures.answers.0 w.in_ok-seal.ensures.marked)
      | else-place-current_begin w ↦ subst (λ (l : Log g.row.D.Denot g.row.C.Denot). SealsFor trace sum place old l) (sym w.self-is)
          (seals_still trace sum place old (let low = w.if-place-current_begin.false in omega (arith, low, begin)))
    ]

pub returns-clause-written : goal.returns-clause-written
returns-clause-written g c = c.write_around.ensures.written

pub returns-clause-still : goal.returns-clause-still
returns-clause-still g c = λ below. absurd (omega (arith, below, c.if-place-synced_end.false, c.synced_end.ensures.is))

pub returns-clause-calls : goal.returns-clause-calls
returns-clause-calls g c =
    let first = seals g c in
    let new = g.D.Device.trace c.write_around.new.self.config.device in
    subst (λ (es : List Event). OnDone c.write_around.result (new ≡ after_all es (g.D.Device.trace c.args.self.now.config.device)))
    (settling_same g.D.Device.trace g.C.Checksum.sum_of c.args.place c.args.self.now c.if-place-current_begin.self first)
    (subst (λ (d : g.row.D.Denot). OnDone c.write_around.result (new ≡ after_all (settling g.C.Checksum.sum_of c.if-place-current_begin.self (pos c.args.place)) (g.D.Device.trace d))) first.device c.write_around.ensures.calls)

pub returns-clause-at_most : goal.returns-clause-at_most
returns-clause-at_most g c =
    let first = seals g c in
    let new = g.D.Device.trace c.write_around.new.self.config.device in
    subst (λ (es : List Event). Performs es (g.D.Device.trace c.args.self.now.config.device) new)
    (settling_same g.D.Device.trace g.C.Checksum.sum_of c.args.place c.args.self.now c.if-place-current_begin.self first)
    (subst (λ (d : g.row.D.Denot). Performs (settling g.C.Checksum.sum_of c.if-place-current_begin.self (pos c.args.place)) (g.D.Device.trace d) new) first.device c.write_around.ensures.at_most)

pub returns-clause-keeps : goal.returns-clause-keeps
returns-clause-keeps g c =
    let old = c.args.self.now in
    let mid = c.if-place-current_begin.self in
    let first = seals g c in
    writing_further g.D.Device.trace g.C.Checksum.sum_of old mid c.write_around.new.self
    (log_writing g.D.Device.trace g.C.Checksum.sum_of old mid (record { preserves = first.keeps; tickets = first.tickets; position = first.position })
    (spared_at c.args.place old mid first.sealed.2 first.position.pins))
    c.write_around.ensures.keeps

pub returns-clause-answers : goal.returns-clause-answers
returns-clause-answers g c =
    let first = seals g c in
    let new = c.write_around.new.self in
    let mid = c.if-place-current_begin.self in
    let old = c.args.self.now in
    let at : ℕ = c.args.place in
    answers_used c.write_around.result _ _ (IsUsedUpAt old (pos at)) new.fault.kept _ _ _ (held_at_same g.D.Device.trace g.C.Checksum.sum_of at old mid first) (ap g.D.Device.faults first.device) first.unused c.write_around.ensures.answers

pub returns-clause-seals : goal.returns-clause-seals
returns-clause-seals g c =
    let first = seals g c in
    let then = c.write_around.ensures in
    let lower = first.lower in
    let begin : current_begin c.write_around.new.self ≡ current_begin c.if-place-current_begin.self = ap (λ (s : BufferStart). s.place) then.start.0 in
    record {
      still = λ below. absurd (omega (arith, ints, below, c.if-place-synced_end.false, c.synced_end.ensures.is));
      apart = λ below. begin ∙ first.apart (omega (arith, ints, below));
      once = elim first.once [ inl same ↦ inl (begin ∙ same) | inr sealed ↦ inr (begin ∙ sealed) ];
      held = λ _. (omega (arith, ints, lower, begin));
      none = λ none. then.one (first.none none);
    }

pub returns-clause-buffers : goal.returns-clause-buffers
returns-clause-buffers g c =
    let did = c.write_around.ensures in
    let old = c.args.self.now in
    let new = c.write_around.new.self in
    let r = c.write_around.result in
    let keeps = returns-clause-keeps g c in
    let below : c.args.place < reserved_end old = elim c.requires.reserved [ inl stable ↦ absurd (omega (arith, stable, c.if-place-synced_end.false, c.synced_end.ensures.is)) | inr lower ↦ lower ] in (
      writes_around g.D.Device.trace g.C.Checksum.sum_of c.args.place old c.if-place-current_begin.self (seals g c) new did.start.0 did.start.1 keeps below r
          (omega (arith, c.if-place-synced_end.false, c.synced_end.ensures.is)) did.without did.same (held_sound r _ _ _ _ _ did.answers) did.segment,
      on_err r _ _ (came_sealed g.D.Device.trace g.C.Checksum.sum_of c.args.place old c.if-place-current_begin.self (seals g c) new did.start.0 did.start.1 keeps below) did.same,
    )

-- The mark that joins isn't above what was synced.

pub returns-then-place-synced_end-clause-joined : goal.returns-then-place-synced_end-clause-joined
returns-then-place-synced_end-clause-joined g c = joins_same g.D.Device.trace g.C.Checksum.sum_of c.args.self.now c.args.self.now refl

pub returns-in_err-seal-clause-joined : goal.returns-in_err-seal-clause-joined
returns-in_err-seal-clause-joined g c =
    joins_same g.D.Device.trace g.C.Checksum.sum_of c.args.self.now c.seal.new.self (account_unchanged c.args.self.now c.seal.new.self c.in_err-seal.ensures.err)

pub returns-clause-joined : goal.returns-clause-joined
returns-clause-joined g c =
    joins_further g.D.Device.trace g.C.Checksum.sum_of c.args.self.now c.if-place-current_begin.self c.write_around.new.self (seals g c).keeps.history
    (seals g c).synced c.write_around.ensures.joined

pub returns-then-place-synced_end-clause-pooled : goal.returns-then-place-synced_end-clause-pooled
returns-then-place-synced_end-clause-pooled g c = pools_some c.args.self.now c.args.self.now (pools_still c.args.self.now)

pub returns-in_err-seal-clause-pooled : goal.returns-in_err-seal-clause-pooled
returns-in_err-seal-clause-pooled g c =
    let old = c.args.self.now in
    pools_some old c.seal.new.self (pools_unchanged old c.seal.new.self c.in_err-seal.ensures.err)

pub returns-clause-pooled : goal.returns-clause-pooled
returns-clause-pooled g c =
    let old = c.args.self.now in
    let mid = c.if-place-current_begin.self in
    let first : PoolsSome old mid = elim c.if-place-current_begin.branch [
      | then-place-current_begin+in_ok-seal w ↦
          subst (λ (l : Log _ _). PoolsSome old l) (sym w.self-is) (pools_sealing old w.seal.new.self w.in_ok-seal.ensures.pooled)
      | else-place-current_begin w ↦ subst (λ (l : Log _ _). PoolsSome old l) (sym w.self-is) (pools_some old old (pools_still old))
    ] in
    pools_some_further old mid c.write_around.new.self first c.write_around.ensures.pooled
