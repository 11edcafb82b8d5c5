-- One of the sealed buffers is written: the buffers end where they did, and have as many reservations, and those at the front that are written go.
use Rattle.std.proofs.Common.{◌≡◌, ◌==◌, ◌+◌, ℕ, zero, suc, Bool, true, false, if◌then◌else◌, List, [], ◌∷◌, ◌++◌, take, drop, set, sym, ◌∙◌, ap, arith, refl, subst, Some}
use Rattle.std.specs.List.{slice_get}
use Rattle.std.proofs.lemmas.Bool.Decides.{nat_tests}
use Rattle.sled_core.specs.declared.iobuf.Reserved.{Reserved}
use Rattle.sled_core.specs.declared.iobuf.Sealed.{Sealed}
use Rattle.sled_core.specs.inside.SealedBuffers.{AreSealed, FirstUnwritten, behind_run, is_ready, now_written, run_count, run_end, written_at}
use Rattle.sled_core.specs.SealedBuffers.{sealed_count, sealed_end}
use Rattle.sled_core.proofs.Reserve.Ranges.{there_split}
use Rattle.sled_core.proofs.Sealed.OneWritten.{sealed_written}
pub use Rattle.sled_core.proofs.Sealed.Progress.{run_counts as count_run}

-- one that can be written has no open reservation
pub ready_closed : (b : Sealed) → is_ready b ≡ true → b.open_count ≡ 0
ready_closed b is = by_test b.is_written is where
  by_test : (o : Bool) → (if o then false else b.open_count == 0) ≡ true → b.open_count ≡ 0
  by_test true told = cc
  by_test false told = grind (arith, nat_tests, told)

-- and isn't written yet
pub ready_fresh : (b : Sealed) → is_ready b ≡ true → b.is_written ≡ false
ready_fresh b is = by_test b.is_written is where
  by_test : (o : Bool) → (if o then false else b.open_count == 0) ≡ true → o ≡ false
  by_test true told = cc
  by_test false told = refl

-- the buffers around the one that is written
pub written_around : (k : ℕ) (bs : List Sealed) (b : Sealed) → slice_get bs k ≡ Some b → written_at k bs ≡ take k bs ++ now_written b ∷ drop (suc k) bs
written_around zero [] b there = cc
written_around (suc k) [] b there = cc
written_around zero (x ∷ xs) b there = let same : x ≡ b = cc in ap (λ (y : Sealed). now_written y ∷ xs) same
written_around (suc k) (x ∷ xs) b there = ap (λ (l : List Sealed). x ∷ l) (written_around k xs b there)

-- it stands in the place of what it was
pub written_set : (k : ℕ) (bs : List Sealed) (b : Sealed) → slice_get bs k ≡ Some b → set bs k (now_written b) ≡ written_at k bs
written_set zero [] b there = cc
written_set (suc k) [] b there = cc
written_set zero (x ∷ xs) b there = let same : b ≡ x = cc in ap (λ (y : Sealed). now_written y ∷ xs) same
written_set (suc k) (x ∷ xs) b there = ap (λ (l : List Sealed). x ∷ l) (written_set k xs b there)

-- They are as they were but for that.
pub written_are : (from : ℕ) (rs : List Reserved) (bs : List Sealed) (k : ℕ) (b : Sealed) → slice_get bs k ≡ Some b → b.open_count ≡ 0 → AreSealed from rs bs → AreSealed from rs (written_at k bs)
written_are from rs bs k b there none are =
    subst (λ (l : List Sealed). AreSealed from rs l) (sym (written_around k bs b there))
    (sealed_written from rs (take k bs) b (drop (suc k) bs) none (subst (λ (l : List Sealed). AreSealed from rs l) (there_split bs k b there) are))

pub count_written : (k : ℕ) (bs : List Sealed) → sealed_count (written_at k bs) ≡ sealed_count bs
count_written k [] = refl
count_written zero (b ∷ bs) = refl
count_written (suc k) (b ∷ bs) = ap (λ n. b.count + n) (count_written k bs)

pub end_written : (from k : ℕ) (bs : List Sealed) → sealed_end from (written_at k bs) ≡ sealed_end from bs
end_written from k [] = refl
end_written from zero (b ∷ bs) = refl
end_written from (suc k) (b ∷ bs) = end_written b.end k bs

-- Those at the front that are written, and the others.

-- the first one counts, if it is written
pub first_in_run : (bs : List Sealed) (b : Sealed) → slice_get bs 0 ≡ Some b → b.is_written ≡ true → run_count bs ≡ b.count + run_count (drop 1 bs)
first_in_run [] b there is = cc
first_in_run (x ∷ xs) b there is = let same : x ≡ b = cc in subst (λ (y : Sealed). run_count (x ∷ xs) ≡ y.count + run_count xs) same (ap (λ (o : Bool). if o then x.count + run_count xs else 0) (ap (λ (y : Sealed). y.is_written) same ∙ is))

pub end_run : (from : ℕ) (bs : List Sealed) → sealed_end from bs ≡ sealed_end (run_end from bs) (behind_run bs)
end_run from [] = refl
end_run from (b ∷ bs) = by_test b.is_written (end_run b.end bs) where
  by_test : (o : Bool) → sealed_end b.end bs ≡ sealed_end (run_end b.end bs) (behind_run bs) → sealed_end b.end bs ≡ sealed_end (if o then run_end b.end bs else from) (if o then behind_run bs else b ∷ bs)
  by_test true rest = rest
  by_test false rest = refl

-- the first one of the others isn't written
pub first_behind : (bs : List Sealed) → FirstUnwritten (behind_run bs)
first_behind [] = tt
first_behind (b ∷ bs) = by_test b.is_written refl (first_behind bs) where
  by_test : (o : Bool) → b.is_written ≡ o → FirstUnwritten (behind_run bs) → FirstUnwritten (if o then behind_run bs else b ∷ bs)
  by_test true is rest = rest
  by_test false is rest = is
