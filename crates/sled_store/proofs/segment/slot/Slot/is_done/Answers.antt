-- The same pages are the same keys.
use Rattle.std.proofs.Common.{◌≡◌, ◌∙◌, ℕ, List, [], ◌∷◌, ◌&&◌, refl, sym, ap, eqb}
use lib.Pointwise.{pointwise}
use Rattle.sled_store.specs.SegmentStates.{same_pages, is_draining}
use Rattle.sled_store.specs.declared.segment.slot.State.{State}
use Rattle.sled_store.proofs.segment.slot.Slot.is_done.Goals as goal

pointwise_same : (xs ys : List ℕ) → pointwise eqb xs ys ≡ same_pages xs ys
pointwise_same [] [] = refl
pointwise_same [] (y ∷ ys) = refl
pointwise_same (x ∷ xs) [] = refl
pointwise_same (x ∷ xs) (y ∷ ys) = ap (λ b. eqb x y && b) (pointwise_same xs ys)

pub returns-in-Draining : goal.returns-in-Draining
returns-in-Draining c =
    let pages : List ℕ = c.args.self.now.pages.0 in
    let gone : List ℕ = c.args.self.now.gone.0 in
    c.eq.ensures
    ∙ ap (λ (l : List ℕ). pointwise eqb l c.keys-in-Draining.result.now) c.keys.ensures.keys
    ∙ ap (λ (l : List ℕ). pointwise eqb pages l) c.keys-in-Draining.ensures.keys
    ∙ pointwise_same pages gone
    ∙ ap (λ (s : State). is_draining s && same_pages pages gone) (sym c.in-Draining.is)
