-- A log file with zeros behind its end reads the same, and a write to it makes the same of it.
use Rattle.std.proofs.Common.{◌≡◌, ◌⊎◌, ◌≤◌, ◌<◌, ◌+◌, ◌-◌, ◌∙◌, refl, ℕ, List, ◌++◌, length, replicate, get_or, sym, ap, arith, inl, inr, length-append}
use Rattle.std.proofs.lemmas.Bool.{cases_lt}
use Rattle.std.proofs.lemmas.Grind.{same_number_lists}
use Rattle.std.proofs.lemmas.List.{append-nil, get_or-append_right, get_or-replicate, get_or_append_left, get_or_past, length-replicate}
use Rattle.sled_store.specs.Device.{overwritten}
use Rattle.sled_store.proofs.LogFile.OverwrittenLemmas.{length-overwritten}
use Rattle.sled_core.specs.inside.LogFile.{padded}
use Rattle.sled_core.proofs.Sealed.OneWritten.{overwritten_beside, overwritten_inside}

pub length-padded : (to : ℕ) (log : List ℕ) → length (padded to log) ≡ length log + (to - length log)
length-padded to log = length-append log (replicate (to - length log) 0) ∙ ap (λ n. length log + n) (length-replicate {A = ℕ} (to - length log) 0)

-- it reaches that far
pub padded_long : (to : ℕ) (log : List ℕ) → to ≤ length (padded to log)
padded_long to log = omega (arith, length-padded to log)

-- where the file does, nothing is added
pub padded_none : (to : ℕ) (log : List ℕ) → to ≤ length log → padded to log ≡ log
padded_none to log long = let none : to - length log ≡ 0 = omega (arith, long) in ap (λ n. log ++ replicate n 0) none ∙ append-nil log

-- it reads the same everywhere
pub padded_get : (to : ℕ) (log : List ℕ) (i : ℕ) → get_or (padded to log) i 0 ≡ get_or log i 0
padded_get to log i = elim (cases_lt i (length log)) [
  | inl inside ↦ get_or_append_left log (replicate (to - length log) 0) 0 i inside
  | inr past ↦ get_or-append_right log (replicate (to - length log) 0) (length log) i 0 refl past ∙ zero_at (to - length log) (i - length log) ∙ sym (get_or_past log i 0 past)
] where
  zero_at : (n i : ℕ) → get_or {A = ℕ} (replicate n 0) i 0 ≡ 0
  zero_at n i = elim (cases_lt i n) [ inl inside ↦ get_or-replicate n i 0 0 inside | inr past ↦ get_or_past {X = ℕ} (replicate n 0) i 0 (omega (arith, past, length-replicate {A = ℕ} n 0)) ]

-- A write to it is a write to the file with zeros behind what it makes of that.
pub overwritten-further : (to : ℕ) (log : List ℕ) (at : ℕ) (xs : List ℕ) → 0 < length xs → overwritten (padded to log) at xs ≡ padded to (overwritten log at xs)
overwritten-further to log at xs some = same_number_lists (overwritten (padded to log) at xs) (padded to (overwritten log at xs)) long (λ i below. elim (cases_lt i at) [
  | inl before ↦ beside i (inl before)
  | inr above ↦ elim (cases_lt i (at + length xs)) [
    | inl inside ↦ (
        let k : ℕ = i - at in
        let here : i ≡ at + k = omega (arith, above) in
        let under : k < length xs = omega (arith, above, inside) in
        ap (λ n. get_or (overwritten (padded to log) at xs) n 0) here ∙ overwritten_inside (padded to log) at xs k under
        ∙ sym (padded_get to (overwritten log at xs) i ∙ ap (λ n. get_or (overwritten log at xs) n 0) here ∙ overwritten_inside log at xs k under))
    | inr behind ↦ beside i (inr behind)
  ]
])
  where
    long : length (overwritten (padded to log) at xs) ≡ length (padded to (overwritten log at xs))
    long = omega (arith, length-overwritten (padded to log) at xs, length-overwritten log at xs, length-padded to log, length-padded to (overwritten log at xs))

    beside : (i : ℕ) → (i < at) ⊎ (at + length xs ≤ i) → get_or (overwritten (padded to log) at xs) i 0 ≡ get_or (padded to (overwritten log at xs)) i 0
    beside i apart = overwritten_beside (padded to log) at xs i some apart ∙ padded_get to log i ∙ sym (padded_get to (overwritten log at xs) i ∙ overwritten_beside log at xs i some apart)
