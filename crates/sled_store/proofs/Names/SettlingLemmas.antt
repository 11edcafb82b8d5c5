-- Names are settled one by one: all but those that are left on a list have their latest state alone.
use Rattle.std.proofs.Common.{◌≡◌, ◌⊎◌, arith, Contains, ℤ, Bool, true, false, List, [], ◌∷◌, ◌++◌, refl, ◌∙◌, ap, subst, inl, inr}
use Rattle.std.specs.Ordering.{int_eq}
use Rattle.std.proofs.lemmas.Bool.Decides.{Decides-int_eq}
use Rattle.std.proofs.lemmas.List.Elements.{Contains-push_cases}
use Rattle.sled_store.specs.declared.device.memory.named_files.MemNames.{MemNames}
use Rattle.sled_store.specs.Device.{NameState, NamesState, names_synced}
use Rattle.sled_store.specs.inside.MemoryNames.{states_of, latest, files_under, IsNoted, Keeps}
use Rattle.sled_store.proofs.Names.KeepsLemmas.{KeptMap, states_at, latest-is}

abbrev pub state_at : NamesState → ℤ → NameState
state_at s n = record { file = s.file n; is_unsynced = s.is_unsynced n }

pub record Settling (kept : KeptMap) (listed : List ℤ) (s : NamesState) : Type 0 where
  pub top : (n : ℤ) → latest (states_at kept n) ≡ state_at s n
  pub alone : (n : ℤ) → ¬ Contains listed n → states_at kept n ≡ state_at s n ∷ []

differ : {b : Bool} → b ≡ true → b ≡ false → ⊥
differ is not_is = cc

-- at first, where each name that changed is listed
pub settling_first : (names : MemNames) (s : NamesState) → names.has_unlisted ≡ false → Keeps names s → Settling names.kept names.changed.items s
settling_first names s listed keeps = record {
  top = λ n. latest-is names s n keeps;
  alone = λ n unlisted. keeps.states n ∙ ap (λ (h : List NameState). state_at s n ∷ h) (keeps.noted n (by n unlisted));
}
  where
    by : (n : ℤ) → ¬ Contains names.changed.items n → ¬ IsNoted names n
    by n unlisted (inl some) = differ some listed
    by n unlisted (inr there) = unlisted there

-- one more name
pub settling_next : (kept new : KeptMap) (listed left : List ℤ) (name : ℤ) (s : NamesState) → listed ≡ left ++ name ∷ []
    → states_at new name ≡ latest (states_at kept name) ∷ []
    → ((n : ℤ) → int_eq name n ≡ false → files_under new n ≡ files_under kept n)
    → Settling kept listed s → Settling new left s
settling_next kept new listed left name s popped here others settling = record { top = λ n. top n (int_eq name n) refl; alone = λ n. alone n (int_eq name n) refl }
  where
    settled : states_at new name ≡ state_at s name ∷ []
    settled = here ∙ ap (λ (x : NameState). x ∷ []) (settling.top name)

    top : (n : ℤ) (b : Bool) → int_eq name n ≡ b → latest (states_at new n) ≡ state_at s n
    top n true is = subst (λ (m : ℤ). latest (states_at new m) ≡ state_at s m) ((Decides-int_eq name n).0 is) (ap latest settled)
    top n false is = ap (λ (k : List _). latest (states_of k)) (others n is) ∙ settling.top n

    alone : (n : ℤ) (b : Bool) → int_eq name n ≡ b → ¬ Contains left n → states_at new n ≡ state_at s n ∷ []
    alone n true is unlisted = subst (λ (m : ℤ). states_at new m ≡ state_at s m ∷ []) ((Decides-int_eq name n).0 is) settled
    alone n false is unlisted = ap states_of (others n is) ∙ settling.alone n (λ there. by (Contains-push_cases left name n (subst (λ (xs : List ℤ). Contains xs n) popped there)))
      where
        by : Contains left n ⊎ (name ≡ n) → ⊥
        by (inl there) = unlisted there
        by (inr same) = differ ((Decides-int_eq name n).1 same) is

-- when none is left
pub settling_last : (names : MemNames) (listed : List ℤ) (s : NamesState) → listed ≡ [] → Settling names.kept listed s → Keeps names (names_synced s)
settling_last names listed s none settling = record { states = λ n. settling.alone n (nowhere n); whole = λ n. refl; noted = λ n _. refl }
  where
    nowhere : (n : ℤ) → ¬ Contains listed n
    nowhere n there = let at_none : Contains [] n = subst (λ (xs : List ℤ). Contains xs n) none there in omega (arith, at_none.1)
