-- Nothing is left where all was passed over; and where it isn't so, something is.
use Rattle.std.proofs.Common.{◌≡◌, ◌<◌, ◌≤◌, ℕ, Bool, true, false, length, inl, inr, refl, ap, sym, subst, arith}
use Rattle.std.proofs.lemmas.Bool.{cases_lt}
use Rattle.sled_core.specs.declared.iterator.rest.Rest.{Rest}
use Rattle.sled_core.specs.inside.Ahead.{IsSpent, items_at, most_left}

-- all was passed over
module _ (r q : Rest) (is : q ≡ record r { read = length r.segments.items; given = length r.met.items; damaged = false }) where
  abbrev end : Rest
  end = record r { read = length r.segments.items; given = length r.met.items; damaged = false }

  pub spent_so : IsSpent q
  spent_so = subst IsSpent (sym is) (let all : length r.segments.items ≤ length r.segments.items = omega arith in let met : length r.met.items ≤ length r.met.items = omega arith in (all, (met, refl)))

  pub none_so_left : (n : ℕ) → 0 < n → most_left q < n
  none_so_left n some = subst (λ (x : Rest). most_left x < n) (sym is) (omega (arith, some))

  pub no_more_left : (n : ℕ) → most_left q ≤ n
  no_more_left n = subst (λ (x : Rest). most_left x ≤ n) (sym is) (omega arith)

-- what isn't spent has something left
pub left_some : (r : Rest) → (IsSpent r → ⊥) → 0 < most_left r
left_some r more = by r.damaged refl where
  by : (b : Bool) → r.damaged ≡ b → 0 < most_left r
  by true is = let one : items_at r.damaged ≡ 1 = ap items_at is in omega (arith, one)
  by false is = elim (cases_lt r.read (length r.segments.items)) [
    | inl unread ↦ omega (arith, unread)
    | inr all ↦ elim (cases_lt r.given (length r.met.items)) [
      | inl waits ↦ omega (arith, waits)
      | inr given ↦ absurd (more (all, (given, is)))
    ]
  ]
