-- A place that isn't negative is settled where it is stable or was reserved.
use Rattle.std.proofs.Common.{◌≡◌, ◌<ℤ◌, ◌⊎◌, inl, inr, ap, subst, refl, arith, unsigned_abs, ℕ, ℤ, of_z, pos, to_z, None, Option, OnErr, Result, Err}
use Rattle.std.specs.Int.{w64}
use Rattle.std.proofs.lemmas.Int.{ints, to_z-of_z}
use Rattle.std.specs.declared.io.Error.{Error as IoError}
use Rattle.sled_codec.specs.declared.result.Error.{Error}
use Rattle.sled_codec.specs.declared.result.Error.TheVariants.{NotReserved}
use Rattle.sled_store.specs.Script.{Performs, after_all}
use Rattle.sled_store.proofs.Traces.ScriptLemmas.{performs_nothing}
use Rattle.sled_core.specs.Causes.{HeldAnswers, OnDone}
use Rattle.sled_core.specs.Fits.{device_of, fault_of, reserved_end, synced_end}
use Rattle.sled_core.specs.Fronts.{CameAround}
use Rattle.sled_core.specs.ReadBuffer.{IsUsedUpAt, IsWrittenPlace, SealsAround, WritesAround, held_at, settling}
use Rattle.sled_core.specs.Stable.{IsNotReserved}
use Rattle.sled_core.proofs.Line.KeptCalls.{writing_still}
use Rattle.sled_core.proofs.Line.Outcomes.{on_ok}
use Rattle.sled_core.proofs.Line.CameFar.{around_none, still_around}
use Rattle.sled_core.proofs.Line.MarksJoin.{joins_same}
use Rattle.sled_core.proofs.Line.Reads.{above_zero, at_place, settle_answers}
use Rattle.sled_core.proofs.Line.Pools.{pools_some, pools_still}
use Rattle.sled_core.proofs.logger.Log.settle_at.Given as given
use Rattle.sled_core.proofs.logger.Log.settle_at.Goals.{else-at-synced_end-via-then-at-synced_end+else-at-self, else-at-synced_end-via-else-at-synced_end}
use Rattle.sled_core.proofs.logger.Log.settle_at.Goals as goal

pub returns-then-place-lt0-clause-at_most : goal.returns-then-place-lt0-clause-at_most
returns-then-place-lt0-clause-at_most g c = performs_nothing _ _ _ refl

pub returns-then-place-lt0-clause-keeps : goal.returns-then-place-lt0-clause-keeps
returns-then-place-lt0-clause-keeps g c = writing_still g.D.Device.trace g.C.Checksum.sum_of c.args.self.now

pub returns-then-at-self-clause-at_most : goal.returns-then-at-self-clause-at_most
returns-then-at-self-clause-at_most g c = performs_nothing _ _ _ refl

pub returns-then-at-self-clause-keeps : goal.returns-then-at-self-clause-keeps
returns-then-at-self-clause-keeps g c = writing_still g.D.Device.trace g.C.Checksum.sum_of c.args.self.now

-- it is a place
is_at : (g : given.Over) (c : goal.After-settle g) → pos c.unsigned_abs-at.result ≡ c.args.place
is_at g c = at_place c.args.place _ c.unsigned_abs-at.result c.unsigned_abs-at.ensures.value (to_z-of_z w64 c.args.place c.ranges.place) (above_zero c.args.place c.ranges.place c.if-place-lt0.false)

pub returns-clause-written : goal.returns-clause-written
returns-clause-written g c =
    on_ok c.settle.result _ _ (λ written up. subst (λ n. IsWrittenPlace c.settle.new.self n) (ap unsigned_abs (is_at g c)) written) c.settle.ensures.written

-- what was reserved isn't refused
reserved_place : {T : Type 0} (r : Result T Error) (held : Option ℕ) (used P : Type 0) (old now : Option IoError) (before after : ℕ) → HeldAnswers r held used old now before after → IsNotReserved r → P
reserved_place (Err (NotReserved at)) held used P old now before after answers is = absurd answers
reserved_place _ held used P old now before after answers is = absurd is

pub returns-clause-unchanged : goal.returns-clause-unchanged
returns-clause-unchanged g c = reserved_place c.settle.result _ _ _ _ _ _ _ c.settle.ensures.answers

pub returns-clause-at_most : goal.returns-clause-at_most
returns-clause-at_most g c =
    let trace = g.D.Device.trace in
    let old = c.args.self.now in
    subst (λ z. Performs (settling g.C.Checksum.sum_of old z) (trace (device_of old)) (trace (device_of c.settle.new.self))) (is_at g c) c.settle.ensures.at_most

pub returns-clause-calls : goal.returns-clause-calls
returns-clause-calls g c =
    let sum = g.C.Checksum.sum_of in
    let old = c.args.self.now in
    subst (λ z. OnDone c.settle.result (g.D.Device.trace (device_of c.settle.new.self) ≡ after_all (settling sum old z) (g.D.Device.trace (device_of old)))) (is_at g c) c.settle.ensures.calls

pub returns-clause-answers : goal.returns-clause-answers
returns-clause-answers g c =
    let sum = g.C.Checksum.sum_of in
    let old = c.args.self.now in
    let at = is_at g c in
    let inside : (c.args.place <ℤ pos (synced_end old)) ⊎ (c.args.place <ℤ pos (reserved_end old)) = elim c.else-at-synced_end.branch [
      | else-at-synced_end-via-then-at-synced_end+else-at-self w ↦ (let lower = w.if-at-self.false in inr (omega (arith, ints, at, lower)))
      | else-at-synced_end-via-else-at-synced_end w ↦ (let lower = w.if-at-synced_end.false in let is = c.synced_end.ensures.is in inl (omega (arith, ints, at, lower, is)))
    ] in
    settle_answers c.settle.result c.args.place _ _ _ _ _ _ _ inside
    (subst (λ z. HeldAnswers c.settle.result (held_at sum old z) (IsUsedUpAt old z) None (fault_of c.settle.new.self) (g.D.Device.faults (device_of old)) (g.D.Device.faults (device_of c.settle.new.self))) at c.settle.ensures.answers)

pub returns-clause-seals : goal.returns-clause-seals
returns-clause-seals g c = subst (λ z. SealsAround c.settle.result z c.args.self.now c.settle.new.self) (is_at g c) c.settle.ensures.seals

pub returns-clause-buffers : goal.returns-clause-buffers
returns-clause-buffers g c =
    subst (λ z. WritesAround g.C.Checksum.sum_of c.settle.result z c.args.self.now c.settle.new.self × OnErr c.settle.result (CameAround g.D.Device.trace g.C.Checksum.sum_of z c.args.self.now c.settle.new.self))
    (is_at g c) c.settle.ensures.buffers

pub returns-then-at-self-clause-buffers : goal.returns-then-at-self-clause-buffers
returns-then-at-self-clause-buffers g c =
    let old = c.args.self.now in
    let place : ℤ = to_z w64 (of_z w64 c.args.place) in
    (around_none {T = Unit {0}} old c.args.place (NotReserved place) (λ held. held) g.C.Checksum.sum_of, still_around g.D.Device.trace g.C.Checksum.sum_of c.args.place old)

-- Where nothing was written its tickets and its position are as they were, and else as the writing leaves them.

pub returns-clause-keeps : goal.returns-clause-keeps
returns-clause-keeps g c = record {
  preserves = c.settle.ensures.keeps.preserves;
  tickets = c.settle.ensures.keeps.tickets;
  position = c.settle.ensures.keeps.position;
  spared = c.settle.ensures.keeps.spared;
}

-- The mark that joins isn't above what was synced.

pub returns-then-place-lt0-clause-joined : goal.returns-then-place-lt0-clause-joined
returns-then-place-lt0-clause-joined g c = joins_same g.D.Device.trace g.C.Checksum.sum_of c.args.self.now c.args.self.now refl

pub returns-then-at-self-clause-joined : goal.returns-then-at-self-clause-joined
returns-then-at-self-clause-joined g c = joins_same g.D.Device.trace g.C.Checksum.sum_of c.args.self.now c.args.self.now refl

pub returns-then-place-lt0-clause-pooled : goal.returns-then-place-lt0-clause-pooled
returns-then-place-lt0-clause-pooled g c = pools_some c.args.self.now c.args.self.now (pools_still c.args.self.now)

pub returns-then-at-self-clause-pooled : goal.returns-then-at-self-clause-pooled
returns-then-at-self-clause-pooled g c = pools_some c.args.self.now c.args.self.now (pools_still c.args.self.now)
