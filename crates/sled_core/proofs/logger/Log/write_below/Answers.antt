-- The buffers that begin below the place are sealed first, and then written.
use Rattle.std.proofs.Common.{◌∙◌, ◌≤◌, ap, sym, subst, arith, inr, inl}
use Rattle.std.proofs.lemmas.Result.{err_from_is_err_and}
use Rattle.sled_store.specs.declared.config.RunningConfig.{RunningConfig}
use Rattle.sled_core.proofs.Line.LogSpans.{same_buffers}
use Rattle.sled_core.proofs.Line.Advanced.{same_synced}
use Rattle.sled_core.specs.declared.logger.Log.{Log}
use Rattle.sled_core.specs.Fits.{current_begin}
use Rattle.sled_core.proofs.Line.KeptCalls.{log_writing, spared_same}
use Rattle.sled_core.proofs.Line.HeaderMarks.{marked_same, none_begun, segment_same}
use Rattle.sled_core.proofs.Line.CameFar.{front_leaves}
use Rattle.sled_core.proofs.Line.Outcomes.{all_err, on_err, on_ok, seal_answers, seal_not_held}
use Rattle.sled_core.proofs.Line.SealFirst.{SealedFor, first_answers, first_calls, first_keeps, first_performs, sealed_already, sealed_first, sealed_past, some_below, unchanged_came, unchanged_performs}
use Rattle.sled_core.proofs.Line.StatusSeen.{some_reserved}
use Rattle.sled_core.proofs.Line.Wrote.{front_seen}
use Rattle.sled_core.specs.Pooled.{PoolsSome}
use Rattle.sled_core.proofs.Line.Pools.{pools_sealing, pools_some, pools_some_further, pools_still, pools_unchanged}
use Rattle.sled_core.proofs.logger.Log.write_below.Given.{Over}
use Rattle.sled_core.proofs.logger.Log.write_below.Goals.{then-current_begin-to+in_ok-seal, else-current_begin-to}
use Rattle.sled_core.proofs.logger.Log.write_below.Goals as goal

pub seal-requires : goal.seal-requires
seal-requires g c = record { some = some_below c.args.self.now c.args.to c.requires.reserved (omega (arith, c.current_begin.ensures.is, c.if-current_begin-to.true)) }

pub returns-in_err-seal-clause-at_most : goal.returns-in_err-seal-clause-at_most
returns-in_err-seal-clause-at_most g c = unchanged_performs c.args.self.now c.seal.new.self c.in_err-seal.ensures.err g.D.Device.trace _

pub returns-in_err-seal-clause-came : goal.returns-in_err-seal-clause-came
returns-in_err-seal-clause-came g c = all_err c.from_residual.result _ (unchanged_came g.D.Device.trace g.C.Checksum.sum_of c.args.to c.args.self.now c.seal.new.self (omega (arith, c.current_begin.ensures.is, c.if-current_begin-to.true)) c.in_err-seal.ensures.err)

pub write_sealed_below-requires-clause-sealed : goal.write_sealed_below-requires-clause-sealed
write_sealed_below-requires-clause-sealed g c =
    let old = c.args.self.now in
    elim c.if-current_begin-to.branch [
      | then-current_begin-to+in_ok-seal w ↦ subst (λ (l : Log _ _). c.args.to ≤ current_begin l) (sym w.self-is) (sealed_past g.C.Checksum.sum_of c.args.to old w.seal.new.self c.requires.reserved w.in_ok-seal.ensures.begins)
      | else-current_begin-to w ↦ subst (λ (l : Log _ _). c.args.to ≤ current_begin l) (sym w.self-is) (omega (arith, c.current_begin.ensures.is, w.if-current_begin-to.false))
    ]

-- The log that is written of is the one with its current buffer sealed, or the one that it was.
ready : (g : Over) (c : goal.After-write_sealed_below g) → SealedFor g.D.Device.trace g.C.Checksum.sum_of c.args.to c.args.self.now c.if-current_begin-to.self
ready g c = elim c.if-current_begin-to.branch [
  | then-current_begin-to+in_ok-seal w ↦
      let did = w.in_ok-seal.ensures in
      subst (λ (l : Log _ _). SealedFor g.D.Device.trace g.C.Checksum.sum_of c.args.to c.args.self.now l) (sym w.self-is)
      (sealed_first g.D.Device.trace g.C.Checksum.sum_of c.args.to c.args.self.now w.seal.new.self c.requires.fault c.requires.reserved (omega (arith, c.current_begin.ensures.is, w.if-current_begin-to.true))
      did.waiting did.buffers did.begins did.start did.position did.keeps did.same did.answers.0 did.marked)
  | else-current_begin-to w ↦
      subst (λ (l : Log _ _). SealedFor g.D.Device.trace g.C.Checksum.sum_of c.args.to c.args.self.now l) (sym w.self-is)
      (sealed_already g.D.Device.trace g.C.Checksum.sum_of c.args.to c.args.self.now c.requires.fault c.requires.reserved (omega (arith, c.current_begin.ensures.is, w.if-current_begin-to.false)))
]

pub returns-clause-calls : goal.returns-clause-calls
returns-clause-calls g c = first_calls g.D.Device.trace g.C.Checksum.sum_of c.args.to c.args.self.now c.if-current_begin-to.self c.write_sealed_below.new.self (ready g c) c.write_sealed_below.result c.write_sealed_below.ensures.calls

pub returns-clause-at_most : goal.returns-clause-at_most
returns-clause-at_most g c = first_performs g.D.Device.trace g.C.Checksum.sum_of c.args.to c.args.self.now c.if-current_begin-to.self c.write_sealed_below.new.self (ready g c) c.write_sealed_below.ensures.at_most

pub returns-clause-keeps : goal.returns-clause-keeps
returns-clause-keeps g c =
    first_keeps g.D.Device.trace g.C.Checksum.sum_of c.args.to c.args.self.now c.if-current_begin-to.self c.write_sealed_below.new.self (ready g c) c.write_sealed_below.ensures.keeps

pub returns-in_err-seal-clause-keeps : goal.returns-in_err-seal-clause-keeps
returns-in_err-seal-clause-keeps g c =
    let same = c.in_err-seal.ensures.err in
    log_writing g.D.Device.trace g.C.Checksum.sum_of c.args.self.now c.seal.new.self c.in_err-seal.ensures.keeps (spared_same c.args.self.now c.seal.new.self same.machine same.pins)

pub returns-clause-answers : goal.returns-clause-answers
returns-clause-answers g c =
    first_answers g.D.Device.trace g.C.Checksum.sum_of c.args.to c.args.self.now c.if-current_begin-to.self c.write_sealed_below.new.self (ready g c) c.write_sealed_below.result g.D.Device.faults c.write_sealed_below.ensures.answers

pub returns-in_err-seal-clause-answers : goal.returns-in_err-seal-clause-answers
returns-in_err-seal-clause-answers g c =
    let same = c.in_err-seal.ensures.err in
    let e = err_from_is_err_and c.from_residual.result c.from_residual.ensures.1 in
    rw (e.1, e.2) (seal_answers (Unit {0}) (Unit {0}) c.in_err-seal.field-0.0 _ c.in_err-seal.ensures.answers _ _ _ _ _
    (λ used. (let up = c.if-current_begin-to.true in let is = c.current_begin.ensures.is in omega (arith, up, is), used)) (λ used. used.1) (same.fault ∙ c.requires.fault)
    (ap (λ (x : RunningConfig g.row.D.Denot g.row.C.Denot). g.D.Device.faults x.device) same.config))

pub returns-in_err-seal-clause-idle : goal.returns-in_err-seal-clause-idle
returns-in_err-seal-clause-idle g c = λ _. ap (λ (x : RunningConfig g.row.D.Denot g.row.C.Denot). g.D.Device.faults x.device) c.in_err-seal.ensures.err.config

pub returns-clause-idle : goal.returns-clause-idle
returns-clause-idle g c = λ none. c.write_sealed_below.ensures.idle ((ready g c).writing ∙ none) ∙ ap g.D.Device.faults (ready g c).device

pub returns-clause-buffers : goal.returns-clause-buffers
returns-clause-buffers g c =
    let did = c.write_sealed_below.ensures in
    (ready g c).writes c.write_sealed_below.new.self c.write_sealed_below.result did.current.0 did.none did.one
    (on_err c.write_sealed_below.result _ _ (front_leaves g.D.Device.trace g.C.Checksum.sum_of c.args.to c.if-current_begin-to.self c.write_sealed_below.new.self) did.front)
    (marked_same g.C.Checksum.sum_of c.args.self.now c.if-current_begin-to.self c.write_sealed_below.new.self (ready g c).marked did.current.1 did.current.0)

pub returns-in_err-seal-clause-buffers : goal.returns-in_err-seal-clause-buffers
returns-in_err-seal-clause-buffers g c =
    let e = err_from_is_err_and c.from_residual.result c.from_residual.ensures.1 in
    let old = c.args.self.now in
    let new = c.seal.new.self in
    let same = c.in_err-seal.ensures.err in
    let kept = segment_same old new same.line in
    rw (e.1, e.2) (record {
      seals = record {
        held = λ held. absurd (seal_not_held (Unit {0}) (Unit {0}) c.in_err-seal.field-0.0 _ c.in_err-seal.ensures.answers held);
        none = λ unsealed. tt;
        err = λ unsealed. inr (same_synced old new same.line);
      };
      some = inl (same_buffers old new same.line);
      marked = none_begun g.C.Checksum.sum_of old new kept.place kept.heads kept.fillings;
    })

pub returns-clause-above : goal.returns-clause-above
returns-clause-above g c = on_ok c.write_sealed_below.result _ _ ((ready g c).above c.write_sealed_below.new.self) c.write_sealed_below.ensures.above

pub returns-clause-came : goal.returns-clause-came
returns-clause-came g c =
    let trace = g.D.Device.trace in
    let sum = g.C.Checksum.sum_of in
    let old = c.args.self.now in
    let new = c.write_sealed_below.new.self in
    on_err c.write_sealed_below.result _ _
    (λ front. inr (front_seen trace sum c.args.to old new (some_reserved old c.args.to c.requires.reserved) (returns-clause-keeps g c) ((ready g c).fronts new front)))
    c.write_sealed_below.ensures.front

-- A segment is begun at most, before the buffers are written.

pub returns-in_err-seal-clause-pooled : goal.returns-in_err-seal-clause-pooled
returns-in_err-seal-clause-pooled g c =
    let old = c.args.self.now in
    pools_some old c.seal.new.self (pools_unchanged old c.seal.new.self c.in_err-seal.ensures.err)

pub returns-clause-pooled : goal.returns-clause-pooled
returns-clause-pooled g c =
    let old = c.args.self.now in
    let mid = c.if-current_begin-to.self in
    let first : PoolsSome old mid = elim c.if-current_begin-to.branch [
      | then-current_begin-to+in_ok-seal w ↦
          subst (λ (l : Log _ _). PoolsSome old l) (sym w.self-is) (pools_sealing old w.seal.new.self w.in_ok-seal.ensures.pooled)
      | else-current_begin-to w ↦ subst (λ (l : Log _ _). PoolsSome old l) (sym w.self-is) (pools_some old old (pools_still old))
    ] in
    pools_some_further old mid c.write_sealed_below.new.self first c.write_sealed_below.ensures.pooled
