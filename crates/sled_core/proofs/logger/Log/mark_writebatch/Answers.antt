-- The peg is a place behind the manifest's own.
use Rattle.std.proofs.Common.{◌≡◌, ◌∙◌, ◌≤ℤ◌, ◌<ℤ◌, ap, sym, arith, subst, inr, refl, ℕ, ℤ, pos, negsuc, w64, of_z}
use Rattle.std.specs.Prelude.{unsigned_abs}
use Rattle.std.proofs.lemmas.Int.{ints, to_z-of_z}
use Rattle.sled_codec.specs.History.{Batched, Step}
use Rattle.sled_core.specs.Batches.{LiesInNoFilling, batch_for}
use Rattle.sled_core.specs.Fits.{line_of, segment_size_of}
use Rattle.sled_core.specs.Tickets.{place_of}
use Rattle.sled_core.proofs.Line.Outcomes.{on_ok}
use Rattle.sled_core.proofs.logger.Log.mark_writebatch.Goals as goal

-- what it is as a number, as it is read
peg_is : (peg place read : ℤ) (abs from : ℕ) → read ≡ peg → abs ≡ unsigned_abs read → place ≡ pos from → place ≤ℤ peg → peg ≡ pos abs
peg_is peg place read abs from is abs_is at above = by peg (subst (λ z. z ≤ℤ peg) at above) ∙ ap pos (sym (abs_is ∙ ap unsigned_abs is)) where
  by : (z : ℤ) → pos from ≤ℤ z → z ≡ pos (unsigned_abs z)
  by (pos k) low = refl
  by (negsuc k) low = absurd (omega (arith, ints, low))

strictly : (a b : ℤ) → a ≤ℤ b → (b ≡ a → ⊥) → a <ℤ b
strictly a b le other = grind (arith, ints, le, other)

pub end_batch-requires-clause-filled : goal.end_batch-requires-clause-filled
end_batch-requires-clause-filled g c =
    let log = c.args.self.now in
    let same = peg_is c.args.peg (place_of c.args.ticket) _ c.unsigned_abs.result _ (to_z-of_z w64 c.args.peg c.ranges.peg) c.unsigned_abs.ensures.value c.requires.awaited.1.own.place c.requires.pegged.above in
    subst (LiesInNoFilling (segment_size_of log) (line_of log)) same c.requires.pegged.filled

pub returns-clause-history : goal.returns-clause-history
returns-clause-history g c H holds =
    let same = peg_is c.args.peg (place_of c.args.ticket) _ c.unsigned_abs.result _ (to_z-of_z w64 c.args.peg c.ranges.peg) c.unsigned_abs.ensures.value c.requires.awaited.1.own.place c.requires.pegged.above in
    let later = strictly (place_of c.args.ticket) c.args.peg c.requires.pegged.above (λ is. c.if-peg-lsn.false (ap (of_z w64) (is ∙ sym c.lsn.ensures))) in
    on_ok c.end_batch.result _ _ (λ done. (done.0, inr (later, subst (λ z. Step H (Batched (batch_for c.args.ticket z)) done.0) (sym same) done.1), done.2)) (c.end_batch.ensures.history H holds)

pub returns-clause-fits : goal.returns-clause-fits
returns-clause-fits g c H A f U fits =
    let same = peg_is c.args.peg (place_of c.args.ticket) _ c.unsigned_abs.result _ (to_z-of_z w64 c.args.peg c.ranges.peg) c.unsigned_abs.ensures.value c.requires.awaited.1.own.place c.requires.pegged.above in
    let later = strictly (place_of c.args.ticket) c.args.peg c.requires.pegged.above (λ is. c.if-peg-lsn.false (ap (of_z w64) (is ∙ sym c.lsn.ensures))) in
    on_ok c.end_batch.result _ _ (λ done. (done.0, inr (later, subst (λ z. Step H (Batched (batch_for c.args.ticket z)) done.0) (sym same) done.1), done.2)) (c.end_batch.ensures.fits H A f U fits)

-- The rest is as the ending leaves it.

pub returns-clause-place : goal.returns-clause-place
returns-clause-place g c = c.end_batch.ensures.place

pub returns-clause-ends : goal.returns-clause-ends
returns-clause-ends g c = record {
  others = c.end_batch.ensures.ends.others;
  opens = c.end_batch.ensures.ends.opens;
  position = c.end_batch.ensures.ends.position;
  buffers = c.end_batch.ensures.ends.buffers;
  heads = c.end_batch.ensures.ends.heads;
  fillings = c.end_batch.ensures.ends.fillings;
  machine = c.end_batch.ensures.ends.machine;
  pooled = c.end_batch.ensures.ends.pooled;
}

pub returns-clause-answers : goal.returns-clause-answers
returns-clause-answers g c = c.end_batch.ensures.answers

pub returns-clause-goes_on : goal.returns-clause-goes_on
returns-clause-goes_on g c = c.end_batch.ensures.goes_on

pub returns-clause-err : goal.returns-clause-err
returns-clause-err g c = c.end_batch.ensures.err

pub returns-clause-ended : goal.returns-clause-ended
returns-clause-ended g c above = c.end_batch.ensures.given_up

pub returns-clause-given_up : goal.returns-clause-given_up
returns-clause-given_up g c is = absurd (c.if-peg-lsn.false (ap (of_z w64) (is ∙ sym c.lsn.ensures)))
