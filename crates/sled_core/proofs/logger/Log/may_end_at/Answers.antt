-- A batch may end there where the three tests say so.
use Rattle.std.proofs.Common.{◌≡◌, ◌∙◌, ◌⊎◌, arith, subst, sym, pos, ℤ, w64, to_z, of_z, Bool, true, false, int_lt, int_le}
use Rattle.std.specs.Prelude.{◌<ℤ◌}
use Rattle.std.specs.List.{Contains}
use Rattle.std.proofs.lemmas.Int.{ints, to_z-of_z, to_z_pos}
use Rattle.sled_codec.specs.History.{Batch}
use Rattle.sled_core.specs.Batches.{LiesInNoFilling}
use Rattle.sled_core.specs.Fits.{line_of, noted_in, reserved_end, segment_size_of}
use Rattle.sled_core.specs.Tickets.{place_of}
use Rattle.sled_core.proofs.Line.Places.{inside_read, reserved_in_reach}
use Rattle.sled_core.proofs.logger.Log.may_end_at.Goals as goal
use Rattle.sled_core.proofs.logger.Log.may_end_at.Goals.{then-peg-place-via-then-peg-place, then-peg-place-via-else-peg-place+then-peg-self}

-- A test of two numbers, of which each is read as another one.
test_read : (test : ℤ → ℤ → Bool) (a b read_a read_b : ℤ) → read_a ≡ a → read_b ≡ b → test read_a read_b ≡ test a b
test_read test a b read_a read_b is_a is_b = λ i. test (is_a i) (is_b i)

-- What lies apart from these lies apart from those.
apart_as : (bs : Batch → Type 0) (low peg read_low read_peg : ℤ) → read_low ≡ low → read_peg ≡ peg
    → ((b : Batch) → bs b → (pos b.peg <ℤ read_low) ⊎ (read_peg <ℤ pos b.low)) ≡ ((b : Batch) → bs b → (pos b.peg <ℤ low) ⊎ (peg <ℤ pos b.low))
apart_as bs low peg read_low read_peg is_low is_peg = λ i. (b : Batch) → bs b → (pos b.peg <ℤ is_low i) ⊎ (is_peg i <ℤ pos b.low)

pub overflow_cast-self : goal.overflow_cast-self
overflow_cast-self g c = let reach = reserved_in_reach c.args.self.now in omega (arith, reach)

pub returns-then-peg-place : goal.returns-then-peg-place
returns-then-peg-place g c = (
  λ yes. (let no : false ≡ true = yes in cc),
  λ may.
      let above = may.above in
      let under = may.reserved in
      let log = c.args.self.now in
      let at = place_of c.args.ticket.now in
      let place : to_z w64 (of_z w64 c.lsn-place.result) ≡ at = to_z-of_z w64 c.lsn-place.result (record { sfits = c.lsn-place.type_inv }) ∙ c.lsn-place.ensures in
      let peg = to_z-of_z w64 c.args.peg c.ranges.peg in
      let end = to_z_pos w64 (reserved_end log) (reserved_in_reach log) in
      elim c.then-peg-place.branch [
        | then-peg-place-via-then-peg-place w ↦ (let test = sym (test_read int_lt c.args.peg at _ _ peg place) ∙ w.if-peg-place.true in absurd (let not : ⊥ = grind (arith, ints, test, above) in not))
        | then-peg-place-via-else-peg-place+then-peg-self w ↦ (let test = sym (test_read int_le (pos (reserved_end log)) c.args.peg _ _ end peg) ∙ w.if-peg-self.true in absurd (let not : ⊥ = grind (arith, ints, test, under) in not))
      ],
)

-- Behind both tests the place isn't below the manifest, and was reserved; it has to lie apart from the batches and in no filling.
pub returns-then-is_apart : goal.returns-then-is_apart
returns-then-is_apart g c =
    let log = c.args.self.now in
    let at = place_of c.args.ticket.now in
    let place : to_z w64 (of_z w64 c.lsn-place.result) ≡ at = to_z-of_z w64 c.lsn-place.result (record { sfits = c.lsn-place.type_inv }) ∙ c.lsn-place.ensures in
    let peg = to_z-of_z w64 c.args.peg c.ranges.peg in
    let end = to_z_pos w64 (reserved_end log) (reserved_in_reach log) in
    let above = sym (test_read int_lt c.args.peg at _ _ peg place) ∙ c.if-peg-place.false in
    let same = apart_as (Contains (noted_in log)) at c.args.peg _ _ place peg in
    let In : ℤ → Type 0 = LiesInNoFilling (segment_size_of log) (line_of log) in (
      λ yes. record {
        above = grind (arith, ints, above);
        reserved = inside_read c.args.peg _ _ (reserved_end log) peg end c.if-peg-self.false;
        filled = subst In peg (c.is_in_no_filling.ensures.0 yes);
        apart = subst (λ (X : Type 0). X) same (c.is_apart.ensures.0 c.if-is_apart.true);
      },
      λ may. c.is_in_no_filling.ensures.1 (subst In (sym peg) may.filled),
    )

pub returns-else-is_apart : goal.returns-else-is_apart
returns-else-is_apart g c =
    let log = c.args.self.now in
    let at = place_of c.args.ticket.now in
    let place : to_z w64 (of_z w64 c.lsn-place.result) ≡ at = to_z-of_z w64 c.lsn-place.result (record { sfits = c.lsn-place.type_inv }) ∙ c.lsn-place.ensures in
    let peg = to_z-of_z w64 c.args.peg c.ranges.peg in
    let same = apart_as (Contains (noted_in log)) at c.args.peg _ _ place peg in (
      λ yes. absurd (let both : false ≡ true = sym c.if-is_apart.false ∙ yes in cc),
      λ may. c.is_apart.ensures.1 (subst (λ (X : Type 0). X) (sym same) may.apart),
    )
