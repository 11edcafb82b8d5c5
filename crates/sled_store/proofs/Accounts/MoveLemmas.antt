-- A slot is taken out of the list of those that wait, and put in again behind another place.
use Rattle.std.proofs.Common.{◌≡◌, ◌∙◌, ◌<◌, ◌+◌, ◌||◌, ℕ, zero, suc, Bool, true, false, cond, List, [], ◌∷◌, length, get_or, set, Option, None, Some, refl, sym, ap, subst, arith, length-set, get_or-set_same}
use Rattle.std.specs.declared.cmp.Ordering.{Ordering}
use Rattle.std.specs.declared.cmp.Ordering.TheVariants.{Less, Equal, Greater}
use Rattle.std.specs.Ordering.{match_ordering, is_eq}
use Rattle.std.specs.Cmp.{IsTotalOrder}
use Rattle.std.specs.List.{list_any}
use Rattle.std.specs.BTreeMap.{is_at}
use Rattle.std.specs.BTreeSet.{insert_key}
use Rattle.std.specs.Set.{remove_key}
use Rattle.std.proofs.lemmas.Cmp.{tied_itself}
use Rattle.sled_store.specs.SegmentStates.{SlotState, slots_by, beside, by_place, waited_place, waiting_among, free_slot}
use Rattle.sled_store.specs.inside.Stabilizing.{not_beside}
use Rattle.sled_store.proofs.Accounts.IndexLemmas.{apart, by_place_total, slots_by_was, slots_by_set, length_slots_by_less}

-- a slot is not among these
abbrev pub Lacks : ℕ → List (ℕ × ℕ) → Type 0
Lacks k ps = (place : ℕ) → list_any (is_at (by_place (place, k))) ps ≡ false

module _ {K : Type 0} {R : K → K → Ordering} (o : IsTotalOrder R) (x : K) where
  pub removed_inserted : (xs : List K) → list_any (is_at (R x)) xs ≡ false → remove_key (is_at (R x)) (insert_key R xs x) ≡ xs
  removed_inserted [] lacks = ap (λ r. cond (is_eq r) [] (x ∷ [])) (tied_itself o x)
  removed_inserted (y ∷ ys) lacks = by (R x y) refl lacks (removed_inserted ys)
    where
      by : (r : Ordering) → R x y ≡ r → (is_eq r || list_any (is_at (R x)) ys) ≡ false → (list_any (is_at (R x)) ys ≡ false → remove_key (is_at (R x)) (insert_key R ys x) ≡ ys)
          → remove_key (is_at (R x)) (match_ordering r (x ∷ y ∷ ys) (y ∷ ys) (y ∷ insert_key R ys x)) ≡ y ∷ ys
      by Less is none further = ap (λ r. cond (is_eq r) (y ∷ ys) (x ∷ remove_key (is_at (R x)) (y ∷ ys))) (tied_itself o x)
      by Equal is none further = absurd (cc)
      by Greater is none further = ap (λ r. cond (is_eq r) (insert_key R ys x) (y ∷ remove_key (is_at (R x)) (insert_key R ys x))) is ∙ ap (λ l. y ∷ l) (further none)

-- a slot that waited no longer does, and the others are left
pub not_beside_beside : (place : Option ℕ) (k : ℕ) (rest : List (ℕ × ℕ)) → Lacks k rest → not_beside place k (beside place k rest) ≡ rest
not_beside_beside None k rest lacks = refl
not_beside_beside (Some place) k rest lacks = removed_inserted by_place_total (place, k) rest (lacks place)

-- a key that does not pass is put in among others that do not
any_inserted : {K : Type 0} (R : K → K → Ordering) (test : K → Bool) (x : K) (xs : List K) → test x ≡ false → list_any test xs ≡ false → list_any test (insert_key R xs x) ≡ false
any_inserted R test x [] fails none = ap (λ b. b || false) fails
any_inserted R test x (y ∷ ys) fails none = by (R x y) (test y) refl none (any_inserted R test x ys fails)
  where
    by : (r : Ordering) (b : Bool) → test y ≡ b → (b || list_any test ys) ≡ false → (list_any test ys ≡ false → list_any test (insert_key R ys x) ≡ false) → list_any test (match_ordering r (x ∷ y ∷ ys) (y ∷ ys) (y ∷ insert_key R ys x)) ≡ false
    by Less b is rest further = ap (λ c. c || (test y || list_any test ys)) fails ∙ ap (λ c. c || list_any test ys) is ∙ rest
    by Equal b is rest further = ap (λ c. c || list_any test ys) is ∙ rest
    by Greater true is rest further = absurd (cc)
    by Greater false is rest further = ap (λ c. c || list_any test (insert_key R ys x)) is ∙ further rest

not_equal : (r : Ordering) → (r ≡ Equal → ⊥) → is_eq r ≡ false
not_equal Less differ = refl
not_equal Equal differ = absurd (differ refl)
not_equal Greater differ = refl

lacks_beside : (k i : ℕ) (a : Option ℕ) (l : List (ℕ × ℕ)) → (k ≡ i → ⊥) → Lacks k l → Lacks k (beside a i l)
lacks_beside k i None l differ lacks place = lacks place
lacks_beside k i (Some p) l differ lacks place = any_inserted by_place (is_at (by_place (place, k))) (p, i) l (not_equal (by_place (place, k) (p, i)) (apart (place, k) (p, i) differ)) (lacks place)

lacks_above : (f : SlotState → Option ℕ) (i k : ℕ) (xs : List SlotState) → k < i → Lacks k (slots_by f i xs)
lacks_above f i k [] lt = λ place. refl
lacks_above f i k (x ∷ xs) lt = lacks_beside k i (f x) (slots_by f (suc i) xs) (λ is. omega arith) (lacks_above f (suc i) k xs (omega arith))

pub lacks_without : (f : SlotState → Option ℕ) (z : SlotState) → f z ≡ None → (i k n : ℕ) (xs : List SlotState) → n ≡ i + k → k < length xs → Lacks n (slots_by f i (set xs k z))
lacks_without f z none i k n [] at lt = absurd (omega arith)
lacks_without f z none i zero n (x ∷ xs) at lt = subst (λ a. Lacks n (beside a i (slots_by f (suc i) xs))) (sym none) (lacks_above f (suc i) n xs (omega arith))
lacks_without f z none i (suc k) n (x ∷ xs) at lt = lacks_beside n i (f x) (slots_by f (suc i) (set xs k z)) (λ is. omega arith) (lacks_without f z none (suc i) k n xs (omega arith) (omega arith))

-- those that wait, but for one slot
abbrev pub others_waiting : List SlotState → ℕ → List (ℕ × ℕ)
others_waiting xs k = slots_by waited_place 0 (set xs k free_slot)

module _ (xs : List SlotState) (k : ℕ) (lt : k < length xs) where
  pub waiting_was : waiting_among xs ≡ beside (waited_place (get_or xs k free_slot)) k (others_waiting xs k)
  waiting_was = slots_by_was waited_place free_slot refl xs k free_slot lt

  pub waiting_is : (t : SlotState) → waiting_among (set xs k t) ≡ beside (waited_place t) k (others_waiting xs k)
  waiting_is t = slots_by_set waited_place free_slot t refl 0 k k xs (omega arith) lt

  pub lacks_one : Lacks k (others_waiting xs k)
  lacks_one = lacks_without waited_place free_slot refl 0 k k xs (omega arith) lt

  pub others_fewer : length (others_waiting xs k) < length xs
  others_fewer =
      let there : k < length (set xs k free_slot) = omega (arith, length-set xs k free_slot) in
      let none : waited_place (get_or (set xs k free_slot) k free_slot) ≡ None = ap waited_place (get_or-set_same xs k free_slot free_slot lt) in
      omega (arith, length_slots_by_less waited_place 0 k (set xs k free_slot) free_slot there none, length-set xs k free_slot)
