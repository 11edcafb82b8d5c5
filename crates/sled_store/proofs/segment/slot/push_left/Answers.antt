-- One page more, which is greater than all before it.
use Rattle.std.proofs.Common.{◌≡◌, ◌∙◌, ◌++◌, ◌+◌, ◌<◌, length, ◌∷◌, [], ℕ, List, take, filter, get_or, not, Bool, sym, ap, subst, arith, get_or-take, length-take}
use Rattle.std.specs.declared.cmp.Ordering.TheVariants.{Less}
use Rattle.std.specs.Ordering.{nat_cmp}
use Rattle.std.specs.List.{All}
use Rattle.std.specs.List.Sorted.{IsStrictlySortedBy}
use Rattle.std.proofs.lemmas.List.{get_or_default}
use Rattle.std.proofs.lemmas.List.Elements.{filter_more, All-filter}
use Rattle.std.proofs.lemmas.Map.Keys.{Less-from_sorted}
use Rattle.sled_store.specs.SegmentStates.{has_page}
use Rattle.sled_store.proofs.segment.slot.push_left.Goals as goal

one_more : (p : ℕ → Bool) (xs : List ℕ) (i : ℕ) (mid new : List ℕ) → i < length xs → mid ≡ filter p (take i xs) → new ≡ mid ++ filter p (get_or xs i 0 ∷ []) → new ≡ filter p (take (i + 1) xs)
one_more p xs i mid new lt was is = is ∙ ap (λ l. l ++ filter p (get_or xs i 0 ∷ [])) was ∙ sym (filter_more p xs i 0 lt)

all_less : (xs : List ℕ) (i : ℕ) → IsStrictlySortedBy nat_cmp xs → i < length xs → All (λ k. nat_cmp k (get_or xs i 0) ≡ Less) (take i xs)
all_less xs i s lt k d low =
    let below : k < i = omega (arith, low, length-take i xs) in
    subst (λ n. nat_cmp n (get_or xs i 0) ≡ Less) (sym (get_or-take i xs k d below))
    (subst (λ n. nat_cmp (get_or xs k d) n ≡ Less) (get_or_default xs i d 0 lt) (Less-from_sorted nat_cmp xs k i d s below lt))

pub push_if_left-requires-clause-greatest : goal.push_if_left-requires-clause-greatest
push_if_left-requires-clause-greatest c =
    let xs : List ℕ = c.args.pages.now.0 in
    let i : ℕ = c.loop-pid.pid-index in
    let kept : ℕ → Bool = λ p. not (has_page c.args.gone.now.0 p) in
    let lt : i < length xs = subst (λ l. i < length l) c.keys-pid-items.ensures.keys c.loop-pid-test.true in
    let less = All-filter kept (λ k. nat_cmp k (get_or xs i 0) ≡ Less) (take i xs) (all_less xs i c.keys-pid-items.ensures.ascending lt) in
    subst (λ l. All (λ k. nat_cmp k (get_or l i 0) ≡ Less) c.loop-pid.left.0) (sym c.keys-pid-items.ensures.keys)
    (subst (All (λ k. nat_cmp k (get_or xs i 0) ≡ Less)) (sym c.loop-pid.invariant.items) less)

pub loop-pid-preserved : goal.loop-pid-preserved
loop-pid-preserved c =
    let xs : List ℕ = c.args.pages.now.0 in
    let i : ℕ = c.loop-pid.pid-index in
    let kept : ℕ → Bool = λ p. not (has_page c.args.gone.now.0 p) in
    let lt : i < length xs = subst (λ l. i < length l) c.keys-pid-items.ensures.keys c.loop-pid-test.true in
    let put : c.push_if_left.new.left.0 ≡ c.loop-pid.left.0 ++ filter kept (get_or xs i 0 ∷ []) = subst (λ l. c.push_if_left.new.left.0 ≡ c.loop-pid.left.0 ++ filter kept (get_or l i 0 ∷ [])) c.keys-pid-items.ensures.keys c.push_if_left.ensures.items in
    record {
      items = one_more kept xs i c.loop-pid.left.0 c.push_if_left.new.left.0 lt c.loop-pid.invariant.items put;
      room = omega (arith, lt, c.loop-pid.invariant.room, c.push_if_left.ensures.len, c.push_if_left.ensures.room);
    }
