-- One more slot behind others is noted in the index that it belongs to.
use Rattle.std.proofs.Common.{◌≡◌, ◌∙◌, ℕ, suc, ◌+◌, ◌≤◌, Bool, true, false, cond, List, [], ◌∷◌, ◌++◌, length, Option, None, Some, sym, ap, arith}
use Rattle.std.specs.Ordering.{match_ordering, nat_cmp}
use Rattle.std.specs.BTreeSet.{insert_key}
use Rattle.sled_store.specs.SegmentStates.{SlotState, slots_where, slots_by, beside, by_place, is_free, is_inactive, is_active, active_place, active_among}
use Rattle.sled_store.specs.declared.segment.slot.State.{State}
use Rattle.sled_store.specs.declared.segment.slot.State.TheVariants.{Free, Active, Inactive, Draining}
use Rattle.sled_store.specs.inside.Starting.{AreNoted}
use Rattle.sled_store.proofs.Accounts.IndexLemmas.{beside_commutes, slots_where_push, slots_by_push, length_slots_where, length_slots_by}
use Rattle.sled_store.proofs.Accounts.StabilIndex.{greater_is}

-- a slot that has a place by this is put in
slots_by_pushed : (f : SlotState → Option ℕ) (s : SlotState) (i n : ℕ) (xs : List SlotState) → n ≡ i + length xs → slots_by f i (xs ++ s ∷ []) ≡ beside (f s) n (slots_by f i xs)
slots_by_pushed f s i n [] at = let here : i ≡ n = omega arith in ap (λ m. beside (f s) m []) here
slots_by_pushed f s i n (x ∷ xs) at =
    ap (beside (f x) i) (slots_by_pushed f s (suc i) n xs (omega arith)) ∙ beside_commutes (f x) (f s) i n (omega arith) (slots_by f (suc i) xs)

-- a slot that passes is put in
slots_where_pushed : (test : SlotState → Bool) (s : SlotState) → test s ≡ true → (i n : ℕ) (xs : List SlotState) → n ≡ i + length xs → slots_where test i (xs ++ s ∷ []) ≡ insert_key nat_cmp (slots_where test i xs) n
slots_where_pushed test s passes i n [] at = let here : i ≡ n = omega arith in ap (λ b. cond b (i ∷ []) []) passes ∙ ap (λ m. m ∷ []) here
slots_where_pushed test s passes i n (x ∷ xs) at = by (test x) (slots_where_pushed test s passes (suc i) n xs (omega arith))
  where
    by : (b : Bool) → slots_where test (suc i) (xs ++ s ∷ []) ≡ insert_key nat_cmp (slots_where test (suc i) xs) n
        → cond b (i ∷ slots_where test (suc i) (xs ++ s ∷ [])) (slots_where test (suc i) (xs ++ s ∷ [])) ≡ insert_key nat_cmp (cond b (i ∷ slots_where test (suc i) xs) (slots_where test (suc i) xs)) n
    by true h =
        ap (λ l. i ∷ l) h
        ∙ sym (ap (λ r. match_ordering r (n ∷ i ∷ slots_where test (suc i) xs) (i ∷ slots_where test (suc i) xs) (i ∷ insert_key nat_cmp (slots_where test (suc i) xs) n)) (greater_is n i (omega arith)))
    by false h = h

-- what the indexes are once a slot in this state is noted
abbrev pub noted_as : State → ℕ → ℕ → List ℕ → List (ℕ × ℕ) → List ℕ → List ℕ × List (ℕ × ℕ) × List ℕ
noted_as Free place n free active inactive = (insert_key nat_cmp free n, active, inactive)
noted_as Active place n free active inactive = (free, insert_key by_place active (place, n), inactive)
noted_as Inactive place n free active inactive = (free, active, insert_key nat_cmp inactive n)
noted_as Draining place n free active inactive = (free, active, inactive)

pub noted_more : (xs : List SlotState) (s : SlotState) (st : State) (n : ℕ) (free : List ℕ) (active : List (ℕ × ℕ)) (inactive : List ℕ) → s.state ≡ st → n ≡ length xs → AreNoted xs free active inactive
    → AreNoted (xs ++ s ∷ []) (noted_as st s.lsn n free active inactive).0 (noted_as st s.lsn n free active inactive).1 (noted_as st s.lsn n free active inactive).2
noted_more xs s Free n free active inactive is at are = record {
  free_is = ap (λ l. insert_key nat_cmp l n) are.free_is ∙ sym (slots_where_pushed (λ t. is_free t.state) s (ap is_free is) 0 n xs (omega arith));
  active_is = are.active_is ∙ sym (slots_by_push active_place s (ap (λ t. cond (is_active t) (Some s.lsn) None) is) 0 xs);
  inactive_is = are.inactive_is ∙ sym (slots_where_push (λ t. is_inactive t.state) 0 xs s (ap is_inactive is));
}
noted_more xs s Active n free active inactive is at are = record {
  free_is = are.free_is ∙ sym (slots_where_push (λ t. is_free t.state) 0 xs s (ap is_free is));
  active_is = ap (λ l. insert_key by_place l (s.lsn, n)) are.active_is
      ∙ sym (slots_by_pushed active_place s 0 n xs (omega arith) ∙ ap (λ t. beside (cond (is_active t) (Some s.lsn) None) n (active_among xs)) is);
  inactive_is = are.inactive_is ∙ sym (slots_where_push (λ t. is_inactive t.state) 0 xs s (ap is_inactive is));
}
noted_more xs s Inactive n free active inactive is at are = record {
  free_is = are.free_is ∙ sym (slots_where_push (λ t. is_free t.state) 0 xs s (ap is_free is));
  active_is = are.active_is ∙ sym (slots_by_push active_place s (ap (λ t. cond (is_active t) (Some s.lsn) None) is) 0 xs);
  inactive_is = ap (λ l. insert_key nat_cmp l n) are.inactive_is ∙ sym (slots_where_pushed (λ t. is_inactive t.state) s (ap is_inactive is) 0 n xs (omega arith));
}
noted_more xs s Draining n free active inactive is at are = record {
  free_is = are.free_is ∙ sym (slots_where_push (λ t. is_free t.state) 0 xs s (ap is_free is));
  active_is = are.active_is ∙ sym (slots_by_push active_place s (ap (λ t. cond (is_active t) (Some s.lsn) None) is) 0 xs);
  inactive_is = are.inactive_is ∙ sym (slots_where_push (λ t. is_inactive t.state) 0 xs s (ap is_inactive is));
}

-- an index has no more than the slots that it is read off
pub noted_within : (xs : List SlotState) (free : List ℕ) (active : List (ℕ × ℕ)) (inactive : List ℕ) → AreNoted xs free active inactive → (length free ≤ length xs) × (length active ≤ length xs) × (length inactive ≤ length xs)
noted_within xs free active inactive are = (
  omega (arith, ap length are.free_is, length_slots_where (λ s. is_free s.state) 0 xs),
  omega (arith, ap length are.active_is, length_slots_by active_place 0 xs),
  omega (arith, ap length are.inactive_is, length_slots_where (λ s. is_inactive s.state) 0 xs),
)
