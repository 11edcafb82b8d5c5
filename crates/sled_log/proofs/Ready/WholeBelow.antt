-- Below a place that a whole history lies below lies the whole history.
use Rattle.std.proofs.Common.{◌≡◌, ◌∙◌, ◌≤◌, ◌<◌, ◌+◌, ℕ, Bool, true, cond, nat_lt, List, [], ◌∷◌, refl, ap, arith, lt-ltb}
use Rattle.std.specs.List.{All, filter}
use Rattle.std.proofs.lemmas.List.Elements.{All-tail, All-weaker}
use Rattle.sled_codec.specs.History.{History, below}
use Rattle.sled_core.specs.Fits.{EndBelow, CloseBelow}

-- a filter keeps a list of which all passes
keeps_all : {X : Type 0} (p : X → Bool) (xs : List X) → All (λ x. p x ≡ true) xs → filter p xs ≡ xs
keeps_all p [] pass = refl
keeps_all p (x ∷ xs) pass = ap (λ (b : Bool). cond b (x ∷ filter p xs) (filter p xs)) (pass 0 x (omega arith)) ∙ ap (λ l. x ∷ l) (keeps_all p xs (All-tail (λ y. p y ≡ true) x xs pass))

-- Nothing of such a history is forgotten.
pub whole_below : (H : History) (reach cut : ℕ) → EndBelow reach H.messages → CloseBelow reach H.batches → reach ≤ cut → below H cut ≡ H
unfolding below
whole_below H reach cut messages batches le =
    let all_messages = keeps_all (λ m. nat_lt m.place cut) H.messages (All-weaker (λ m. (m.place < reach) × (m.place + m.size ≤ reach)) (λ m. nat_lt m.place cut ≡ true) (λ m lies. let low = lies.0 in lt-ltb m.place cut (omega (arith, low, le))) H.messages messages) in
    let all_batches = keeps_all (λ b. nat_lt b.low cut) H.batches (All-weaker (λ b. (b.low < reach) × (b.peg < reach)) (λ b. nat_lt b.low cut ≡ true) (λ b lies. let low = lies.0 in lt-ltb b.low cut (omega (arith, low, le))) H.batches batches) in
    λ i. record { messages = all_messages i; batches = all_batches i }
