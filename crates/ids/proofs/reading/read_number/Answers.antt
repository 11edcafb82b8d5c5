use Rattle.std.proofs.Common.{◌∙◌, ◌/◌, ◌<ℤ◌, ℕ, ℤ, pos, Ok, Err, arith, inl, inr, subst, sym}
use Rattle.std.specs.Prelude.{unsigned_abs}
use Rattle.std.specs.Int.{w64}
use Rattle.std.proofs.lemmas.Int.{ints, to_z-of_z}
use Rattle.sled_codec.specs.declared.result.DiskPtr.TheVariants.{Inline}
use Rattle.sled_store.specs.Device.{State, state_of}
use Rattle.sled_core.specs.Fits.{device_of, segment_size_of, synced_end}
use Rattle.sled_core.specs.ReadPointer.{IsDamageAt}
use Rattle.sled_core.specs.Reading.{IsNoPlace, IsReading}
use Rattle.sled_core.proofs.PublicLaws.{log_still, writing_still}
use Rattle.ids.specs.Readings.{AnswersBound, IsBoundBy, IsOpenError, IsReadErrorUnless}
use Rattle.ids.proofs.FoundBounds.{answers_none, answers_read}
use Rattle.ids.proofs.ReadLemmas.{counts_damage, damage_known, no_error, no_reason, none_holds, on_ok, read_counts, read_fails, read_keeps, read_known, read_unwritten, record_there}
use Rattle.ids.proofs.reading.read_number.Goals as goal

pub returns-in_default-clause-only : goal.returns-in_default-clause-only
returns-in_default-clause-only g c = writing_still g.D.Device.trace g.C.Checksum.sum_of c.args.log.now

pub returns-in_default-clause-kept : goal.returns-in_default-clause-kept
returns-in_default-clause-kept g c = λ idle. log_still g.D.Device.trace g.C.Checksum.sum_of c.args.log.now

-- The message was read.

pub returns-in-Ok-clause-number : goal.returns-in-Ok-clause-number
returns-in-Ok-clause-number g c = λ H m cut n holds place pointer.
    let trace = g.D.Device.trace in
    let sum = g.C.Checksum.sum_of in
    let log = c.args.log.now in
    let gives = c.in-Ok.ensures.message H m (inl (inr (holds.acknowledged, holds.floor, holds.unmarked, holds.fits))) holds.last.there (record_there trace sum log H m cut n holds) (place ∙ sym (to_z-of_z w64 c.args.place c.ranges.place)) (pointer ∙ c.in-Inline.is) tt in
    (c.number_in.ensures.number m n gives holds.last.has).0

pub returns-in-Ok-clause-errors : goal.returns-in-Ok-clause-errors
returns-in-Ok-clause-errors g c = λ H m cut n holds place pointer.
    let trace = g.D.Device.trace in
    let sum = g.C.Checksum.sum_of in
    let log = c.args.log.now in
    let gives = c.in-Ok.ensures.message H m (inl (inr (holds.acknowledged, holds.floor, holds.unmarked, holds.fits))) holds.last.there (record_there trace sum log H m cut n holds) (place ∙ sym (to_z-of_z w64 c.args.place c.ranges.place)) (pointer ∙ c.in-Inline.is) tt in
    no_error IsOpenError c.number_in.result (no_reason _ c.number_in.result holds.inline (c.number_in.ensures.number m n gives holds.last.has).1)

pub returns-in-Ok-clause-fault : goal.returns-in-Ok-clause-fault
returns-in-Ok-clause-fault g c = on_ok _ c.number_in.result (λ free. c.in-Ok.ensures.answers.4)

pub returns-in-Ok-clause-answers : goal.returns-in-Ok-clause-answers
returns-in-Ok-clause-answers g c = λ free. counts_damage c.number_in.result _ _ c.number_in.ensures.damage c.in-Ok.ensures.answers.5

pub returns-in-Ok-clause-kept : goal.returns-in-Ok-clause-kept
returns-in-Ok-clause-kept g c = λ idle.
    read_keeps g.D.Device.trace g.C.Checksum.sum_of _ c.in-Inline.lid c.args.log.now c.read.new.self idle (Ok c.in-Ok.read) c.in-Ok.ensures.only c.in-Ok.ensures.refused

pub returns-in-Ok-clause-unwritten : goal.returns-in-Ok-clause-unwritten
returns-in-Ok-clause-unwritten g c = λ idle. read_unwritten g.D.Device.trace g.C.Checksum.sum_of _ c.in-Inline.lid c.args.log.now c.read.new.self idle (Ok c.in-Ok.read) c.in-Ok.ensures.calls c.in-Ok.ensures.refused

pub returns-in-Ok-clause-known : goal.returns-in-Ok-clause-known
returns-in-Ok-clause-known g c = λ idle. damage_known (c.args.place <ℤ pos (synced_end c.args.log.now)) c.number_in.result c.number_in.ensures.damage

-- It was not.

pub returns-in-Err-clause-errors : goal.returns-in-Err-clause-errors
returns-in-Err-clause-errors g c = λ H m cut n holds place pointer.
    let trace = g.D.Device.trace in
    let sum = g.C.Checksum.sum_of in
    let log = c.args.log.now in
    let below = holds.last.below in
    let stable = holds.stable in
    let at = place ∙ sym (to_z-of_z w64 c.args.place c.ranges.place) in
    let low = subst (λ z. z <ℤ pos (synced_end log)) at (omega (arith, ints, below, stable)) in
    read_fails sum _ c.in-Inline.lid _ (synced_end log) _ _ _ _ _ _ _ c.in-Err.e low (none_holds _ (synced_end log) _ low)
    (c.in-Err.ensures.undamaged H holds.acknowledged holds.floor holds.unmarked m holds.fits holds.last.there (record_there trace sum log H m cut n holds) at (pointer ∙ c.in-Inline.is) tt) c.in-Err.ensures.answers

pub returns-in-Err-clause-answers : goal.returns-in-Err-clause-answers
returns-in-Err-clause-answers g c = λ free. read_counts g.C.Checksum.sum_of _ c.in-Inline.lid _ _ _ _ _ _ _ _ _ c.in-Err.e free c.in-Err.ensures.answers

pub returns-in-Err-clause-kept : goal.returns-in-Err-clause-kept
returns-in-Err-clause-kept g c = λ idle.
    read_keeps g.D.Device.trace g.C.Checksum.sum_of _ c.in-Inline.lid c.args.log.now c.read.new.self idle (Err c.in-Err.e) c.in-Err.ensures.only c.in-Err.ensures.refused

pub returns-in-Err-clause-unwritten : goal.returns-in-Err-clause-unwritten
returns-in-Err-clause-unwritten g c = λ idle. read_unwritten g.D.Device.trace g.C.Checksum.sum_of _ c.in-Inline.lid c.args.log.now c.read.new.self idle (Err c.in-Err.e) c.in-Err.ensures.calls c.in-Err.ensures.refused

pub returns-in-Err-clause-known : goal.returns-in-Err-clause-known
returns-in-Err-clause-known g c = λ idle.
    subst (λ (z : ℤ). IsReadErrorUnless (z <ℤ pos (synced_end c.args.log.now)) c.in-Err.e) (to_z-of_z w64 c.args.place c.ranges.place)
    (read_known g.D.Device.trace g.C.Checksum.sum_of _ c.in-Inline.lid c.args.log.now c.read.new.self idle _ _ _ c.in-Err.e c.in-Err.ensures.answers)

-- What stands there is answered.

pub returns-in-Ok-clause-bound : goal.returns-in-Ok-clause-bound
returns-in-Ok-clause-bound g c =
    let sum = g.C.Checksum.sum_of in
    let log = c.args.log.now in
    let size : ℕ = segment_size_of log in
    let s : State = state_of (g.D.Device.trace (device_of c.read.new.self)) in
    let same = to_z-of_z w64 c.args.place c.ranges.place in
    let came = c.in-Ok.ensures in
    subst (λ p. AnswersBound c.number_in.result (IsBoundBy sum size s.log.bytes c.args.place p)) (sym c.in-Inline.is)
    (answers_read sum size s c.args.place c.in-Inline.lid c.in-Ok.read c.number_in.result
    (subst (λ (z : ℤ). IsReading sum size s.log.bytes s.blobs.file c.in-Inline.lid (unsigned_abs z / size) c.in-Ok.read) same came.reading)
    (λ none. (came.refused.no_place came.answers.3 (subst (λ (z : ℤ). IsNoPlace size z c.in-Inline.lid) (sym same) none)).0)
    c.number_in.ensures.spelled c.number_in.ensures.none)

pub returns-in-Err-clause-bound : goal.returns-in-Err-clause-bound
returns-in-Err-clause-bound g c =
    let sum = g.C.Checksum.sum_of in
    let size : ℕ = segment_size_of c.args.log.now in
    let s : State = state_of (g.D.Device.trace (device_of c.read.new.self)) in
    subst (λ p. AnswersBound (Err c.in-Err.e) (IsBoundBy sum size s.log.bytes c.args.place p)) (sym c.in-Inline.is)
    (answers_none sum size s c.args.place c.in-Inline.lid c.in-Err.e
    (subst (λ (z : ℤ). IsDamageAt sum size s z (Inline c.in-Inline.lid) c.in-Err.e) (to_z-of_z w64 c.args.place c.ranges.place) c.in-Err.ensures.corrupt))
