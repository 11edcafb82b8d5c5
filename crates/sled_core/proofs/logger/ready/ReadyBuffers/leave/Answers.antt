-- The place goes that lies between those below it and the others.
use Rattle.std.proofs.Common.{rules, arith, ◌≡◌, ◌∙◌, ◌≤◌, ap, ℕ, ◌∷◌, length, length-append, Option, None, Some}
use Rattle.std.specs.Option.{OnSome, IsSome}
use Rattle.std.specs.List.{remove}
use Rattle.std.specs.VecDeque.{deque_len}
use Rattle.std.proofs.lemmas.List.Elements.{All-cons}
use Rattle.sled_core.proofs.Pending.Parted.{taken_out}
use Rattle.sled_core.proofs.logger.ready.ReadyBuffers.leave.Goals as goal

-- what follows of an element that was there
there_was : {T : Type 0} (o : Option T) (A : Type 0) → OnSome o A → IsSome o → A
there_was (Some x) A a is = a
there_was None A a is = cc

pub returns-clause-places : goal.returns-clause-places
returns-clause-places c xs ys is low high =
    let place : ℕ = c.args.place in
    let at = c.below-i.ensures.point xs (place ∷ ys) is low (All-cons (λ p. place ≤ p) place ys (omega arith) high) in
    let long : deque_len c.args.self.now.places ≡ length c.args.self.now.places.items = search rules in
    there_was c.remove.result _ c.remove.ensures.items (c.remove.ensures.variant.1 (omega (arith, long, at, ap length is, length-append xs (place ∷ ys))))
    ∙ (λ j. remove (is j) (at j))
    ∙ taken_out xs ys place
