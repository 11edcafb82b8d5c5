-- The first slot behind a place lies where the place belongs.
use Rattle.std.proofs.Common.{◌∙◌, ℕ, List, Some, None, if◌then◌else◌, sym, ap, eq-eqb}
use Rattle.std.proofs.lemmas.Bool.{ne_eqb}
use Rattle.sled_store.proofs.Accounts.StabilFirst.{first_is, first_by}
use Rattle.sled_store.proofs.segment.accountant.freeing.first_at.Goals as goal

pub returns-then-other-place : goal.returns-then-other-place
returns-then-other-place c =
    let ws : List (ℕ × ℕ) = c.args.slots.now.0 in
    sym (first_is c.args.place ws c.place-at.result c.place-at.ensures.sorted c.place-at.ensures.place
    ∙ ap (first_by c.args.place) (sym c.get.ensures ∙ c.in-Some.is)
    ∙ ap (λ b. if b then Some c.in-Some.slot else None) (eq-eqb c.in-Some.other c.args.place c.if-other-place.true))

pub returns-else-other-place : goal.returns-else-other-place
returns-else-other-place c =
    let ws : List (ℕ × ℕ) = c.args.slots.now.0 in
    sym (first_is c.args.place ws c.place-at.result c.place-at.ensures.sorted c.place-at.ensures.place
    ∙ ap (first_by c.args.place) (sym c.get.ensures ∙ c.in-Some.is)
    ∙ ap (λ b. if b then Some c.in-Some.slot else None) (ne_eqb c.in-Some.other c.args.place c.if-other-place.false))

pub returns-in-None : goal.returns-in-None
returns-in-None c =
    let ws : List (ℕ × ℕ) = c.args.slots.now.0 in
    sym (first_is c.args.place ws c.place-at.result c.place-at.ensures.sorted c.place-at.ensures.place
    ∙ ap (first_by c.args.place) (sym c.get.ensures ∙ c.in-None.is))
