-- What a test has answered of one fact is what it answers of another.
use Rattle.std.proofs.Common.{◌≡◌, ◌↔◌, ◌⊎◌, ◌-◌, ℕ, List, Bool, true, false, IsTrue, Result, Ok, Err, sym, subst, inl, inr}
use Rattle.std.specs.Result.{IfOk}
use Rattle.sled_oracle.specs.declared.foreign.LogPast.{LogPast}
use Rattle.sled_store.specs.Device.{LogState, Placement}
use Rattle.sled_store.specs.Foreign.{Covers, IsReached, NoForeignLog, first_record}
use Rattle.sled_oracle.specs.OwnParts.{LaysRecord, IsNoted, past_of, placed_of}
use Rattle.sled_store.proofs.Crashes.ForeignLemmas.{own_log}

-- of two facts, where one of them holds
pub holds_beside : {E : Type 0} (A B : Type 0) (r : Result Bool E) → A → IfOk r (λ b. IsTrue b ↔ B) → IfOk r (λ b. IsTrue b ↔ (A × B))
holds_beside A B (Ok b) a told = (λ t. (a, told.0 t), λ both. told.1 both.1)
holds_beside A B (Err e) a told = told

-- of a fact that holds just where the other does
pub told_as : {E : Type 0} (A B : Type 0) (r : Result Bool E) → (A → B) → (B → A) → IfOk r (λ b. IsTrue b ↔ A) → IfOk r (λ b. IsTrue b ↔ B)
told_as A B (Ok b) there back told = (λ t. there (told.0 t), λ h. told.1 (back h))
told_as A B (Err e) there back told = told

-- of a fact that follows from either of two, or from both; the first was told before
module _ (A B C : Type 0) (was : Bool) (told : IsTrue was ↔ A) where
  pub told_first : (A ⊎ B) ↔ C → was ≡ true → IsTrue was ↔ C
  told_first means so = (λ t. means.0 (inl (told.0 t)), λ h. cc)

  pub told_second : (b : Bool) → IsTrue b ↔ B → (A ⊎ B) ↔ C → was ≡ false → IsTrue b ↔ C
  told_second b other means not_so = (λ t. means.0 (inr (other.0 t)), λ h. elim (means.1 h) [ inl first ↦ (let so = told.1 first in cc) | inr second ↦ other.1 second ])

  pub told_second_if_ok : {E : Type 0} (r : Result Bool E) → IfOk r (λ b. IsTrue b ↔ B) → (A ⊎ B) ↔ C → was ≡ false → IfOk r (λ b. IsTrue b ↔ C)
  told_second_if_ok (Ok b) other means not_so = told_second b other means not_so
  told_second_if_ok (Err e) other means not_so = other

  pub told_both : (b : Bool) → IsTrue b ↔ B → (A × B) ↔ C → was ≡ true → IsTrue b ↔ C
  told_both b other means so = (λ t. means.0 (told.0 cc, other.0 t), λ h. other.1 (means.1 h).1)

  pub told_no_first : (A × B) ↔ C → was ≡ false → IsTrue was ↔ C
  told_no_first means not_so = (λ t. absurd (cc), λ h. told.1 (means.1 h).0)

-- A write that covers a record laid it down, where a reader comes to it in the write.
pub laid_where_reached : {E : Type 0} (sum : List ℕ → ℕ) (size : ℕ) (write : ℕ × List ℕ) (begin first number at : ℕ) (bytes text : List ℕ) (r : Result Bool E) → write ≡ (begin, bytes) → first ≡ first_record size begin → Covers write at text
    → IfOk r (λ b. IsTrue b ↔ IsReached sum size number bytes first (at - begin)) → IfOk r (λ b. IsTrue b ↔ LaysRecord sum size write number at text)
laid_where_reached sum size write begin first number at bytes text r is first_is covers told =
    holds_beside (Covers write at text) (IsReached sum size number write.1 (first_record size write.0) (at - write.0)) r covers
    (subst (λ (w : ℕ × List ℕ). IfOk r (λ b. IsTrue b ↔ IsReached sum size number w.1 (first_record size w.0) (at - w.0))) (sym is)
    (subst (λ n. IfOk r (λ b. IsTrue b ↔ IsReached sum size number bytes n (at - begin))) first_is told))

-- What holds of the past as it was noted holds of each past that was noted so.
pub of_noted : {E : Type 0} (sum : List ℕ → ℕ) (size : ℕ) (noted : LogPast) (left : List ℕ) (r : Result Bool E) → IfOk r (λ b. IsTrue b ↔ NoForeignLog sum size (past_of noted) (placed_of noted) left)
    → IfOk r (λ b. (s : LogState) (placed : List Placement) → IsNoted noted s placed → IsTrue b ↔ NoForeignLog sum size s placed left)
of_noted sum size noted left (Ok b) told = λ s placed is. (
  λ t. own_log sum size (past_of noted) s (placed_of noted) placed left (record { settled = sym is.settled; asked = λ w. (is.since w).1 }) (λ w. (is.ever w).1) (told.0 t),
  λ own. told.1 (own_log sum size s (past_of noted) placed (placed_of noted) left (record { settled = is.settled; asked = λ w. (is.since w).0 }) (λ w. (is.ever w).0) own),
)
of_noted sum size noted left (Err e) told = told
