-- Recovery begins from one snapshot at most.
use Rattle.std.proofs.Common.{◌≡◌, ◌≤ℤ◌, ◌<ℤ◌, ◌∙◌, ℕ, ℤ, List, Option, Some, None, IsSome, refl, sym, ap, subst, inl, inr}
use Rattle.std.specs.Int.Signed.{<ℤ-≤ℤ_trans, <ℤ_irrefl}
use Rattle.std.specs.Ordering.{int_cmp, MatchOrdering}
use Rattle.std.specs.declared.cmp.Ordering.{Ordering}
use Rattle.std.specs.declared.cmp.Ordering.TheVariants.{Less, Equal, Greater}
use Rattle.std.proofs.lemmas.Cmp.{int_ranked}
use Rattle.sled_codec.specs.Snapshots.{SnapshotModel}
use Rattle.sled_store.specs.SnapshotFiles.{IsSnapshotFile, IsNewest, BeginsFrom}
use Rattle.sled_store.proofs.Names.Trailers.{one_snapshot}

by_rank : (a b : ℤ) (r : Ordering) → MatchOrdering r (a <ℤ b) (a ≡ b) (b <ℤ a) → a ≤ℤ b → b ≤ℤ a → a ≡ b
by_rank a b Less lt le ge = absurd (<ℤ_irrefl (<ℤ-≤ℤ_trans lt ge))
by_rank a b Equal is le ge = is
by_rank a b Greater gt le ge = absurd (<ℤ_irrefl (<ℤ-≤ℤ_trans gt le))

-- two numbers that don't exceed each other are one
pub one_number : (a b : ℤ) → a ≤ℤ b → b ≤ℤ a → a ≡ b
one_number a b le ge = by_rank a b (int_cmp a b) (int_ranked a b (int_cmp a b) refl) le ge

is_there : (o : Option (List ℕ)) (bytes : List ℕ) → o ≡ Some bytes → IsSome o
is_there None bytes is = cc
is_there (Some b) bytes is = refl

-- there is one newest snapshot at most
pub one_newest : (snapshots : ℤ → Option (List ℕ)) (m n : ℤ) (a b : List ℕ) → IsNewest snapshots m a → IsNewest snapshots n b → a ≡ b
one_newest snapshots m n a b p q =
    let same : m ≡ n = one_number m n (q.greatest m (is_there (snapshots m) a p.there)) (p.greatest n (is_there (snapshots n) b q.there)) in
    let both : Some a ≡ Some b = sym p.there ∙ ap snapshots same ∙ q.there in
    cc

pub one_begin : (sum : List ℕ → ℕ) (snapshots : ℤ → Option (List ℕ)) (s w : SnapshotModel) → BeginsFrom sum snapshots s → BeginsFrom sum snapshots w → s ≡ w
one_begin sum snapshots s w (inl none) (inl also) = none.1 ∙ sym also.1
one_begin sum snapshots s w (inl none) (inr newest) = let both : None ≡ Some newest.1 = sym (none.0 newest.0) ∙ newest.2.there in cc
one_begin sum snapshots s w (inr newest) (inl none) = let both : None ≡ Some newest.1 = sym (none.0 newest.0) ∙ newest.2.there in cc
one_begin sum snapshots s w (inr a) (inr b) =
    let same : a.1 ≡ b.1 = one_newest snapshots a.0 b.0 a.1 b.1 a.2 b.2 in
    one_snapshot sum b.1 s w (subst (λ (l : List ℕ). IsSnapshotFile sum l s) same a.3) b.3
