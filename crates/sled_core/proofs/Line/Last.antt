-- The last of segments one behind another is changed: what holds of them then, and which they are.
use Rattle.std.proofs.Common.{◌≡◌, ◌⊎◌, ap, sym, refl, inl, inr, ℕ, zero, suc, List, [], ◌∷◌, ◌++◌, Some}
use Rattle.std.specs.List.{All, slice_get}
use Rattle.std.proofs.lemmas.List.Elements.{All-cons, All-head, All-nil, All-tail}
use Rattle.sled_core.specs.Begun.{SegmentView}
use Rattle.sled_core.specs.Waiting.{at_last, last_of, unwritten, unwritten_of}
use Rattle.sled_core.proofs.Line.Gathered.{Gathers, gathered-append}

-- Each segment is there still, or it is the last one, and there as it is now.
pub last_get_of : (f : SegmentView → SegmentView) (v : SegmentView) (vs : List SegmentView) (n : ℕ) (w : SegmentView) → slice_get (v ∷ vs) n ≡ Some w
    → (slice_get (at_last f (v ∷ vs)) n ≡ Some w) ⊎ ((w ≡ last_of v vs) × (slice_get (at_last f (v ∷ vs)) n ≡ Some (f w)))
last_get_of f v [] zero w there = let is : v ≡ w = cc in inr (sym is, ap (λ (x : SegmentView). Some (f x)) is)
last_get_of f v [] (suc n) w there = inl there
last_get_of f v (x ∷ xs) zero w there = inl there
last_get_of f v (x ∷ xs) (suc n) w there = last_get_of f x xs n w there

-- The last one is the changed one then,
pub last_changed : (f : SegmentView → SegmentView) (d v : SegmentView) (vs : List SegmentView) → last_of d (at_last f (v ∷ vs)) ≡ f (last_of v vs)
last_changed f d v [] = refl
last_changed f d v (x ∷ xs) = last_changed f v x xs

-- and one that is put behind them is.
pub last_behind_all : (d w : SegmentView) (vs : List SegmentView) → last_of d (vs ++ w ∷ []) ≡ w
last_behind_all d w [] = refl
last_behind_all d w (v ∷ vs) = last_behind_all v w vs

-- It is the same where the last one is made the same.
pub at_last_same : (f g : SegmentView → SegmentView) (v : SegmentView) (vs : List SegmentView) → f (last_of v vs) ≡ g (last_of v vs) → at_last f (v ∷ vs) ≡ at_last g (v ∷ vs)
at_last_same f g v [] same = ap (λ (x : SegmentView). x ∷ []) same
at_last_same f g v (x ∷ xs) same = ap (λ (l : List SegmentView). v ∷ l) (at_last_same f g x xs same)

-- One change after another is both of them.
pub at_last_twice : (f g : SegmentView → SegmentView) (v : SegmentView) (vs : List SegmentView) → at_last g (at_last f (v ∷ vs)) ≡ at_last (λ x. g (f x)) (v ∷ vs)
at_last_twice f g v [] = refl
at_last_twice f g v (x ∷ []) = refl
at_last_twice f g v (x ∷ y ∷ ys) = ap (λ (l : List SegmentView). v ∷ l) (at_last_twice f g x (y ∷ ys))

-- Where it is left as it is, so are all.
pub at_last_still : (v : SegmentView) (vs : List SegmentView) → at_last (λ x. x) (v ∷ vs) ≡ v ∷ vs
at_last_still v [] = refl
at_last_still v (x ∷ xs) = ap (λ (l : List SegmentView). v ∷ l) (at_last_still x xs)

-- What holds of each one holds then, where it holds of the last one.
pub All-at_last : (P : SegmentView → Type 0) (f : SegmentView → SegmentView) → ((v : SegmentView) → P v → P (f v)) → (vs : List SegmentView) → All P vs → All P (at_last f vs)
All-at_last P f step [] all = all
All-at_last P f step (v ∷ []) all = All-cons P (f v) [] (step v (All-head P v [] all)) (All-nil P)
All-at_last P f step (v ∷ w ∷ ws) all = All-cons P v (at_last f (w ∷ ws)) (All-head P v (w ∷ ws) all) (All-at_last P f step (w ∷ ws) (All-tail P v (w ∷ ws) all))

-- The buffers of segments are gathered along them,
pub unwritten_gather : Gathers (λ v. unwritten_of v.parts) unwritten
unwritten_gather = record { nothing = refl; further = λ v vs. refl }

-- so they are those of these and of those behind them.
pub unwritten-append : (vs ws : List SegmentView) → unwritten (vs ++ ws) ≡ unwritten vs ++ unwritten ws
unwritten-append vs ws = gathered-append (λ v. unwritten_of v.parts) unwritten unwritten_gather vs ws
