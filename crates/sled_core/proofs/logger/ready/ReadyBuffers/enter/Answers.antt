-- The place comes between those below it and the others. There is room for it.
use Rattle.std.proofs.Common.{arith, ◌∙◌, Result, Ok, Err, OnOk, OnErr}
use Rattle.std.specs.List.{insert}
use Rattle.sled_core.proofs.Pending.Parted.{put_in}
use Rattle.sled_core.proofs.logger.ready.ReadyBuffers.enter.Goals as goal

-- what follows of a success follows where there was no failure
succeeded : {T E : Type 0} (r : Result T E) (A B : Type 0) → OnOk r A → OnErr r B → (B → ⊥) → A
succeeded (Ok x) A B a b never = a
succeeded (Err e) A B a b never = absurd (never b)

pub returns-clause-places : goal.returns-clause-places
returns-clause-places c xs ys is low high =
    let room = c.args.self.now.room in
    succeeded c.insert.result _ _ c.insert.ensures.items c.insert.ensures.full (λ full. omega (arith, full, room, c.requires))
    ∙ (λ j. insert (is j) (c.below-i.ensures.point xs ys is low high j) c.args.place)
    ∙ put_in xs ys c.args.place
