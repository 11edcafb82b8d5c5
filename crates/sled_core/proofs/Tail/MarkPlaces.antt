-- A lower mark has no higher place, and begins its segment no higher.
use Rattle.std.proofs.Common.{◌≡◌, ◌∙◌, ◌*◌, ◌/◌, ◌≤◌, ◌≤ℤ◌, ℕ, ℤ, pos, negsuc, ap, arith, mul-div_cancel}
use Rattle.std.proofs.lemmas.Int.{ints}
use Rattle.sled_core.specs.LogSegments.{begins_from, held_from}
use Rattle.sled_core.specs.Tail.{place_of_mark}
use Rattle.sled_core.proofs.Tail.Multiples.{lower_multiple, put_down}

pub place_lower : (a b : ℤ) → a ≤ℤ b → place_of_mark a ≤ place_of_mark b
place_lower (pos a) (pos b) le = omega (arith, ints, le)
place_lower (pos a) (negsuc b) le = absurd (omega (arith, ints, le))
place_lower (negsuc a) (pos b) le = omega arith
place_lower (negsuc a) (negsuc b) le = omega arith

-- A place begins its segment no higher than it lies, and so does the place of a mark.
pub down : (size p : ℕ) → p / size * size ≤ p
down size p = let parts = put_down size p in omega (arith, parts.0)

pub begins_under : (size : ℕ) (mark : ℤ) (place : ℕ) → mark ≤ℤ pos place → begins_from size mark ≤ place
begins_under size mark place le = let low = down size (place_of_mark mark) in let up = place_lower mark (pos place) le in omega (arith, low, up)

pub begins_lower : (size : ℕ) → 256 ≤ size → (a b : ℤ) → a ≤ℤ b → begins_from size a ≤ begins_from size b
begins_lower size some a b le = lower_multiple size some (place_of_mark a) (place_of_mark b) (place_lower a b le)

-- Where a log begins at a place, and that is its mark, what is held counts from it.
pub held_begun : (size place : ℕ) (mark : ℤ) → mark ≡ pos place → held_from size place mark ≡ place
held_begun size place mark is = ap (held_from size place) is ∙ (let low = down size place in omega (arith, low))

-- What isn't above a place begins no higher than the segment of that.
pub begins_within : (size : ℕ) → 256 ≤ size → (mark : ℤ) (place : ℕ) → begins_from size mark ≤ place → begins_from size mark ≤ place / size * size
begins_within size some mark place le =
    let up = lower_multiple size some (begins_from size mark) place le in
    let same : begins_from size mark / size ≡ place_of_mark mark / size = mul-div_cancel (place_of_mark mark / size) (omega (arith, some)) in
    let whole = ap (λ n. n * size) same in
    omega (arith, up, whole)
