-- Segments one behind another: the n-th one, the last one, and those around them.
use Rattle.std.proofs.Common.{◌≡◌, ◌∙◌, ◌-◌, ap, refl, arith, ℕ, zero, suc, List, [], ◌∷◌, ◌++◌, length, take, drop, set, map, Some}
use Rattle.std.specs.List.{slice_get}
use Rattle.std.proofs.lemmas.List.{map-append, set_split}
use Rattle.std.proofs.lemmas.Option.{slice_get_within}
use Rattle.sled_core.specs.Begun.{SegmentView, segment_view}
use Rattle.sled_core.specs.declared.logger.io_bufs.SegmentBuffer.{SegmentBuffer}
use Rattle.sled_core.specs.inside.Fits.{parts_in}
use Rattle.sled_core.specs.Waiting.{at_last, last_of}
use Rattle.sled_core.proofs.Reserve.Ranges.{there_split}

-- A list around its n-th element, with another one in the place of that.
pub nth_set : {T : Type 0} (xs : List T) (n : ℕ) (x y : T) → slice_get xs n ≡ Some x → set xs n y ≡ take n xs ++ y ∷ drop (suc n) xs
nth_set xs n x y there = set_split xs n y (slice_get_within xs n x there)

-- The element that is set, and the others.
pub set_get : {T : Type 0} (xs : List T) (n : ℕ) (x y : T) → slice_get xs n ≡ Some x → slice_get (set xs n y) n ≡ Some y
set_get [] n x y there = cc
set_get (z ∷ zs) zero x y there = refl
set_get (z ∷ zs) (suc n) x y there = set_get zs n x y there

pub set_other : {T : Type 0} (xs : List T) (n k : ℕ) (y : T) → (k ≡ n → ⊥) → slice_get (set xs n y) k ≡ slice_get xs k
set_other [] n k y apart = refl
set_other (z ∷ zs) zero zero y apart = absurd (apart refl)
set_other (z ∷ zs) zero (suc k) y apart = refl
set_other (z ∷ zs) (suc n) zero y apart = refl
set_other (z ∷ zs) (suc n) (suc k) y apart = set_other zs n k y (λ same. apart (ap suc same))

-- The parts of segments around the n-th one, and with another one in its place.
pub parts_split : (vs : List SegmentView) (n : ℕ) (v : SegmentView) → slice_get vs n ≡ Some v → map parts_in vs ≡ map parts_in (take n vs) ++ v.parts ∷ map parts_in (drop (suc n) vs)
parts_split vs n v there = ap (map parts_in) (there_split vs n v there) ∙ map-append parts_in (take n vs) (v ∷ drop (suc n) vs)

pub parts_set : (vs : List SegmentView) (n : ℕ) (v w : SegmentView) → slice_get vs n ≡ Some v → map parts_in (set vs n w) ≡ map parts_in (take n vs) ++ w.parts ∷ map parts_in (drop (suc n) vs)
parts_set vs n v w there = ap (map parts_in) (nth_set vs n v w there) ∙ map-append parts_in (take n vs) (w ∷ drop (suc n) vs)

-- What is read of a list that each of another gives one of.
pub map_get : {A B : Type 0} (f : A → B) (xs : List A) (n : ℕ) (x : A) → slice_get xs n ≡ Some x → slice_get (map f xs) n ≡ Some (f x)
map_get f [] n x there = cc
map_get f (y ∷ ys) zero x there = let same : y ≡ x = cc in ap (λ z. Some (f z)) same
map_get f (y ∷ ys) (suc n) x there = map_get f ys n x there

-- one behind the first
pub get_behind : {T : Type 0} (x : T) (xs : List T) (n : ℕ) (y : T) → (n ≡ 0 → ⊥) → slice_get xs (n - 1) ≡ Some y → slice_get (x ∷ xs) n ≡ Some y
get_behind x xs zero y some there = absurd (some refl)
get_behind x xs (suc k) y some there = let at : k ≡ suc k - 1 = omega arith in ap (slice_get xs) at ∙ there

-- The last one is the one at the length of those behind the first.
pub last_get : (v : SegmentView) (vs : List SegmentView) → slice_get (v ∷ vs) (length vs) ≡ Some (last_of v vs)
last_get v [] = refl
last_get v (w ∷ ws) = last_get w ws

pub at_last_set : (f : SegmentView → SegmentView) (v : SegmentView) (vs : List SegmentView) → at_last f (v ∷ vs) ≡ set (v ∷ vs) (length vs) (f (last_of v vs))
at_last_set f v [] = refl
at_last_set f v (w ∷ ws) = ap (λ l. v ∷ l) (at_last_set f w ws)

-- What code has last.

-- the last of them, where there is one
abbrev last_from : {T B : Type 0} → (T → B) → B → List T → B
last_from f b [] = b
last_from f b (x ∷ xs) = last_from f (f x) xs

last_is : {T B : Type 0} (f : T → B) (b : B) (xs : List T) (x : T) (n : ℕ) → suc n ≡ length xs → slice_get xs n ≡ Some x → last_from f b xs ≡ f x
last_is f b [] x n at there = absurd (omega (arith, at))
last_is f b (y ∷ []) x zero at there = let same : y ≡ x = cc in ap f same
last_is f b (y ∷ []) x (suc n) at there = absurd (omega (arith, at))
last_is f b (y ∷ z ∷ zs) x zero at there = absurd (omega (arith, at))
last_is f b (y ∷ z ∷ zs) x (suc n) at there = last_is f (f y) (z ∷ zs) x n (omega (arith, at)) there

last_mapped : (v : SegmentView) (ss : List SegmentBuffer) → last_of v (map segment_view ss) ≡ last_from segment_view v ss
last_mapped v [] = refl
last_mapped v (s ∷ ss) = last_mapped (segment_view s) ss

pub last_behind : (v : SegmentView) (ss : List SegmentBuffer) (s : SegmentBuffer) (n : ℕ) → suc n ≡ length ss → slice_get ss n ≡ Some s → last_of v (map segment_view ss) ≡ segment_view s
last_behind v ss s n at there = last_mapped v ss ∙ last_is segment_view v ss s n at there
