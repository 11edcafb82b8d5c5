-- Each slot with room for a header is tried, and the others have none.
use Rattle.std.proofs.Common.{ℕ, length, arith, inl, inr, below_more, rules}
use Rattle.std.proofs.lemmas.Bool.{cases_lt}
use Rattle.sled_oracle.specs.OwnParts.{IsOwnSlot, past_of, placed_of}
use Rattle.sled_oracle.proofs.Walks.SlotLemmas.{own_short, own_file, slots_own, slot_beyond}
use Rattle.sled_oracle.proofs.foreign.slots_are_own.Goals as goal

pub loop-slot-preserved : goal.loop-slot-preserved
loop-slot-preserved g c =
    below_more (λ k. IsOwnSlot g.C.Checksum.sum_of c.args.size (past_of c.args.past.now) (placed_of c.args.past.now) c.args.log.now k) c.loop-slot.slot c.loop-slot.invariant (c.in_ok-own.ensures.own.0 c.if-not-own.false)

pub returns-then-log-lt20-clause-own : goal.returns-then-log-lt20-clause-own
returns-then-log-lt20-clause-own g c = (
  λ t. own_file g.C.Checksum.sum_of c.args.size (past_of c.args.past.now) (placed_of c.args.past.now) c.args.log.now
      (λ k. own_short g.C.Checksum.sum_of c.args.size (past_of c.args.past.now) (placed_of c.args.past.now) c.args.log.now k (omega (arith, c.if-log-lt20.true))),
  λ own. search rules,
)

pub returns-then-not-own-clause-own : goal.returns-then-not-own-clause-own
returns-then-not-own-clause-own g c = (
  λ t. cc,
  λ own.
      let told = c.in_ok-own.ensures.own.1 (slots_own g.C.Checksum.sum_of c.args.size (past_of c.args.past.now) (placed_of c.args.past.now) c.args.log.now own c.loop-slot.slot) in
      let other = c.if-not-own.true in
      cc,
)

pub returns-clause-own : goal.returns-clause-own
returns-clause-own g c =
    let n : ℕ = length c.args.log.now in (
      λ t. own_file g.C.Checksum.sum_of c.args.size (past_of c.args.past.now) (placed_of c.args.past.now) c.args.log.now
          (λ k. elim (cases_lt k c.loop-slot.slot) [
            | inl below ↦ c.loop-slot.invariant k below
            | inr past ↦ own_short g.C.Checksum.sum_of c.args.size (past_of c.args.past.now) (placed_of c.args.past.now) c.args.log.now k
                (slot_beyond n c.args.size c.loop-slot.slot k c.requires c.if-log-lt20.false c.loop-slot-test.false past)
          ]),
      λ own. search rules,
    )
