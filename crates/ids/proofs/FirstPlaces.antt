-- Where a log begins on a table, the message that the first page of that has lies below what is on the device.
use Rattle.std.proofs.Common.{◌≡◌, ◌≤◌, ◌<◌, ◌+◌, ◌-◌, ◌*◌, ◌/◌, ◌%◌, ◌≤ℤ◌, ◌<ℤ◌, ◌++◌, ◌∷◌, [], ℕ, ℤ, pos, negsuc, Option, None, Some, List, map, subst, sym, arith}
use Rattle.std.specs.Prelude.{unsigned_abs}
use Rattle.std.specs.List.{All, slice_get}
use Rattle.std.proofs.Math.Nat.{mod-add-div', mod-lt}
use Rattle.std.proofs.lemmas.Int.{ints}
use Rattle.std.proofs.lemmas.List.Elements.{All-head}
use Rattle.std.proofs.lemmas.Option.{same_Some}
use Rattle.sled_codec.specs.declared.serialization.snapshot.PageState.{PageState}
use Rattle.sled_codec.specs.Snapshots.{Free, Page, Present, Uninitialized, page_of}
use Rattle.sled_store.specs.Begin.{IsPlacedIn, entries_of, offset_at, place_at}
use Rattle.ids.specs.Readings.{FirstBelow, LiesBelow}

-- A log begins at the place of its table, or behind it.
pub begins_past : (size stable : ℕ) (active : Option ℕ) → 0 < size → stable ≤ place_at size stable active + offset_at size stable active
begins_past size stable None some =
    let whole : (stable + (size - 1)) % size + (stable + (size - 1)) / size * size ≡ stable + (size - 1) = mod-add-div' (stable + (size - 1)) size in
    let low : (stable + (size - 1)) % size < size = mod-lt (stable + (size - 1)) some in
    omega (arith, whole, low, some)
begins_past size stable (Some slot) some =
    let whole : stable % size + stable / size * size ≡ stable = mod-add-div' stable size in
    omega (arith, whole)

below_place : (z : ℤ) (stable end : ℕ) → pos 0 ≤ℤ z → unsigned_abs z < stable → stable ≤ end → z <ℤ pos end
below_place (pos n) stable end some low le = omega (arith, ints, low, le)
below_place (negsuc n) stable end some low le = absurd (omega (arith, ints, some))

-- The entries of its pages lie below that place.
pub first_below : (size slots stable end : ℕ) (pages : List Page) → All (IsPlacedIn size slots stable) (entries_of pages) → stable ≤ end → FirstBelow end pages
first_below size slots stable end [] placed le = tt
first_below size slots stable end (Present base frags ∷ ps) placed le =
    let at = All-head (IsPlacedIn size slots stable) base (frags ++ entries_of ps) placed in
    below_place base.0 stable end at.not_negative at.below le
first_below size slots stable end (Free place pointer ∷ ps) placed le = tt
first_below size slots stable end (Uninitialized ∷ ps) placed le = tt

-- the first page of a table, as code has it
pub first_lies : (end : ℕ) (pages : List PageState) (page : PageState) → Some page ≡ slice_get pages 0 → FirstBelow end (map page_of pages) → LiesBelow end (page_of page)
first_lies end [] page is below = cc
first_lies end (p ∷ ps) page is below = subst (λ (q : PageState). LiesBelow end (page_of q)) (same_Some p page (sym is)) below
