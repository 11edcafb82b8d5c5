-- Where a log goes on that is started on a snapshot: at the place of that.
use Rattle.std.proofs.Common.{◌≡◌, ◌∙◌, ◌<◌, ◌+◌, ◌-◌, ◌*◌, ◌/◌, ◌%◌, ℕ, Option, None, Some, ap, arith}
use Rattle.sled_codec.specs.Coords.{raised}
use Rattle.sled_store.specs.Begin.{offset_at, place_at}
use Rattle.sled_core.specs.inside.Recoverable.{ActiveFits}
use Rattle.std.proofs.Math.Nat.{div-eq_of_lt-le, mod-add-div'}

pub goes_on_at : (size stable : ℕ) (active : Option ℕ) → 0 < size → ActiveFits size stable active → place_at size stable active + offset_at size stable active ≡ stable
goes_on_at size stable None some begins =
    let whole : stable % size + stable / size * size ≡ stable = mod-add-div' stable size in
    let same : (stable + (size - 1)) / size ≡ stable / size = div-eq_of_lt-le {k = stable / size} size (omega (arith, whole)) (omega (arith, whole, begins, some)) in
    let at : raised size stable ≡ stable = ap (λ n. n * size) same ∙ omega (arith, whole, begins) in
    omega (arith, at)
goes_on_at size stable (Some slot) some shows =
    let whole : stable % size + stable / size * size ≡ stable = mod-add-div' stable size in
    omega (arith, whole)
