use Rattle.std.proofs.Common.{rules, ◌≡◌, ◌<◌, ◌≤ℤ◌, ◌<ℤ◌, ◌-ℤ◌, pos, w64, SFits, to_z, of_z, arith, length, sym, subst}
use Rattle.std.proofs.lemmas.Int.{ints, to_z-of_z}
use Rattle.sled_core.specs.StableEnds.{HasPlaceBefore}
use Rattle.sled_core.proofs.Stable.Waiting.{end_here, end_there, end_alone}
use Rattle.sled_core.proofs.Stable.KnownEnds.{known_end}
use Rattle.sled_core.specs.Synced.{stable_of}
use Rattle.sled_core.proofs.iobuf.intervals.StabilityIntervals.stable_end.Goals as goal
use Rattle.sled_core.proofs.iobuf.intervals.StabilityIntervals.stable_end.Goals.{in_default-via-in-Some+else-batch-self, in_default-via-in_default}

pub returns-in-Some-clause-stable : goal.returns-in-Some-clause-stable
returns-in-Some-clause-stable c s is bs k =
    let v = c.args.self.now in
    let b = c.in-Some.batch.now in
    let left = v.batches.items in
    let end_fits : SFits w64 v.contiguous = search rules in
    let low_fits : SFits w64 b.0 = search rules in
    let test = c.if-batch-self.true in
    let reached : b.0 ≤ℤ v.contiguous = grind (arith, ints) in
    let some : 0 < length left = search rules in
    let fits : SFits w64 (b.0 -ℤ pos 1) = subst HasPlaceBefore (sym c.in-Some.ensures.lookup) (v.bounded 0 b some) in
    let is_end : to_z w64 (of_z w64 (to_z w64 (of_z w64 b.0) -ℤ pos 1)) ≡ stable_of v = rw (to_z-of_z w64 b.0 low_fits, to_z-of_z w64 (b.0 -ℤ pos 1) fits) (end_here v.contiguous left b some c.in-Some.ensures.lookup reached) in
    known_end v s is bs _ is_end k

pub returns-in_default-clause-stable : goal.returns-in_default-clause-stable
returns-in_default-clause-stable c s is bs k =
    let v = c.args.self.now in
    let left = v.batches.items in
    let end_fits : SFits w64 v.contiguous = search rules in
    let is_end : v.contiguous ≡ stable_of v = elim c.in_default.branch [
      | in_default-via-in-Some+else-batch-self w ↦
          (let b = w.in-Some.batch.now in
          let low_fits : SFits w64 b.0 = search rules in
          let test = w.if-batch-self.false in
          let beyond : v.contiguous <ℤ b.0 = grind (arith, ints) in
          let some : 0 < length left = search rules in
          end_there v.contiguous left b some w.in-Some.ensures.lookup beyond)
      | in_default-via-in_default w ↦ let none : length left ≡ 0 = search rules in end_alone v.contiguous left none
    ] in
    rw (to_z-of_z w64 v.contiguous end_fits) (known_end v s is bs v.contiguous is_end k)
