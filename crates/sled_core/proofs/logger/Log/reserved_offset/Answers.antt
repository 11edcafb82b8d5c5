-- What was reserved ends below 2^63.
use Rattle.std.proofs.Common.{◌≡◌, ◌-ℤ◌, ◌∙◌, ap, sym, subst, pos, ℤ, to_z, of_z, w64, arith}
use Rattle.std.specs.Prelude.{FitsSigned}
use Rattle.std.proofs.lemmas.Int.{ints, to_z-of_z, to_z_pos}
use Rattle.sled_core.specs.declared.logger.Log.{Log}
use Rattle.sled_core.specs.Fits.{reserved_end}
use Rattle.sled_core.proofs.Line.Places.{reserved_in_reach}
use Rattle.sled_core.proofs.logger.Log.reserved_offset.Goals as goal

as_read : {D C : Type 0} (log : Log D C) → to_z w64 (reserved_end log) ≡ pos (reserved_end log)
as_read log = to_z_pos w64 (reserved_end log) (reserved_in_reach log)

one_less : {D C : Type 0} (log : Log D C) → FitsSigned w64 (pos (reserved_end log) -ℤ pos 1)
one_less log = let reach = reserved_in_reach log in omega (arith, ints, reach)

pub overflow_cast-result : goal.overflow_cast-result
overflow_cast-result g c = let reach = reserved_in_reach c.args.self.now in omega (arith, reach)

pub overflow_sub-result : goal.overflow_sub-result
overflow_sub-result g c = subst (λ (z : ℤ). FitsSigned w64 (z -ℤ pos 1)) (sym (as_read c.args.self.now)) (one_less c.args.self.now)

pub returns : goal.returns
returns g c =
    let log = c.args.self.now in
    ap (λ (z : ℤ). to_z w64 (of_z w64 (z -ℤ pos 1))) (as_read log) ∙ to_z-of_z w64 (pos (reserved_end log) -ℤ pos 1) (one_less log)
