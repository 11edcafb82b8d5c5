-- What a crash leaves of the names of snapshots once a new table is published, and while the others are removed.
use Rattle.std.proofs.Common.{◌≡◌, ◌≢◌, ◌⊎◌, ◌∙◌, ◌≤◌, ◌≤ℤ◌, if◌then◌else◌, ℕ, ℤ, pos, negsuc, Bool, true, false, List, [], ◌∷◌, Option, Some, None, IsSome, refl, sym, ap, subst, arith, inl, inr, le→leb}
use Rattle.std.specs.Int.Signed.{<ℤ-≤ℤ_trans, <ℤ_irrefl}
use Rattle.std.proofs.lemmas.Int.{by_lt_z}
use Rattle.std.specs.Ordering.{int_eq}
use Rattle.std.specs.Cmp.{signed_Decides}
use Rattle.sled_codec.specs.History.{History}
use Rattle.sled_codec.specs.Snapshots.{SnapshotModel, stable_place}
use Rattle.sled_store.specs.Device.{NamesState, LeavesName, renamed, unnamed, names_synced}
use Rattle.sled_store.specs.inside.Durable.{IsSettledName}
use Rattle.sled_store.proofs.Names.NamesLemmas.{settled_name_left, settled_name_synced, file_renamed, after_unnamed}
use Rattle.sled_store.proofs.Crashes.SyncedLemmas.{firm_renamed}
use Rattle.sled_core.specs.inside.Recoverable.{AreRecoverableSnapshots}
use Rattle.sled_log.proofs.SnapshotFile.OtherLemmas.{same_name, other_name}
use Rattle.sled_store.proofs.Names.Trailers.{one_snapshot}

-- The tables that are listed.

-- a number that is a place isn't above one that the place isn't above
number_below : (stable : Option ℤ) (number : ℤ) (cut : ℕ) → stable ≡ Some number → stable_place stable ≤ cut → number ≤ℤ pos cut
number_below stable (pos k) cut is le = let place : stable_place stable ≡ k = ap stable_place is in record { le = le→leb k cut (omega (arith, place, le)) }
number_below stable (negsuc k) cut is le = record { le = tt }

≤ℤ_trans : (a b c : ℤ) → a ≤ℤ b → b ≤ℤ c → a ≤ℤ c
≤ℤ_trans a b c low high = by_lt_z c a (λ less. absurd (<ℤ_irrefl (<ℤ-≤ℤ_trans (<ℤ-≤ℤ_trans less low) high))) (λ le. le)

-- no number that is listed lies above the place of the newest one
pub listed_below : (sum : List ℕ → ℕ) (size : ℕ) (file : ℤ → Option (List ℕ)) (H : History) (f : ℕ) (first : SnapshotModel) → AreRecoverableSnapshots sum size file H f first → (cut : ℕ) → stable_place first.stable ≤ cut
    → (n : ℤ) (bytes : List ℕ) → file n ≡ Some bytes → n ≤ℤ pos cut
listed_below sum size file H f first tables cut le n bytes is = elim tables.begins [
  | inl none ↦ (let no : file n ≡ None = none.0 n in absurd (cc))
  | inr newest ↦ (
      let t = tables.listed newest.0 newest.1 newest.2.there in
      let same : t.model ≡ first = one_snapshot sum newest.1 t.model first t.file newest.3 in
      let low : newest.0 ≤ℤ pos cut = number_below first.stable newest.0 cut (ap (λ (s : SnapshotModel). s.stable) (sym same) ∙ t.named) le in
      let some : IsSome (file n) = subst (λ (o : Option (List ℕ)). IsSome o) (sym is) refl in
      ≤ℤ_trans n newest.0 (pos cut) (newest.2.greatest n some) low)
]

-- what a crash leaves where a file was published under a number and that was settled: each other name has its file still, or has none
pub record IsPublished (names : NamesState) (file : ℤ → Option (List ℕ)) (number : ℤ) (bytes : List ℕ) : Type 0 where
  pub own : (left : Option (List ℕ)) → LeavesName names number left → left ≡ Some bytes
  pub others : (n : ℤ) (left : Option (List ℕ)) → n ≢ number → LeavesName names n left → (left ≡ file n) ⊎ (left ≡ None)

module _ (N : NamesState) (number : ℤ) (bytes : List ℕ) where
  -- it was published among names that were settled, and they were synced
  pub published_synced : ((n : ℤ) → IsSettledName N n) → IsPublished (names_synced (renamed N number true (record { file = Some bytes; is_unsynced = false }) (bytes ∷ []))) N.file number bytes
  published_synced settled = record {
    own = λ left leaves. at_rest number left leaves ∙ ap (λ (b : Bool). if b then Some bytes else N.file number) (same_name number number refl);
    others = λ n left other leaves. inl (at_rest n left leaves ∙ file_renamed N number true (record { file = Some bytes; is_unsynced = false }) (bytes ∷ []) n (other_name number n (λ same. other (sym same))));
  }
    where
      at_rest : (n : ℤ) (left : Option (List ℕ)) → LeavesName (names_synced (renamed N number true (record { file = Some bytes; is_unsynced = false }) (bytes ∷ []))) n left
          → left ≡ (if int_eq number n then Some bytes else N.file n)
      at_rest n left leaves =
          settled_name_left (names_synced (renamed N number true (record { file = Some bytes; is_unsynced = false }) (bytes ∷ []))) n left
          (settled_name_synced (renamed N number true (record { file = Some bytes; is_unsynced = false }) (bytes ∷ [])) n (firm_renamed N number true (record { file = Some bytes; is_unsynced = false }) (bytes ∷ []) n refl (settled n).firm)) leaves

  -- another one was removed, or that was torn
  pub published_removed : (file : ℤ → Option (List ℕ)) (m : ℤ) → m ≢ number → IsPublished N file number bytes → IsPublished (unnamed N m true) file number bytes
  published_removed file m other is = record {
    own = λ left leaves. elim (after_unnamed N m true number left leaves) [
      | inl was ↦ is.own left was
      | inr gone ↦ absurd (other ((signed_Decides m number).0 gone.0))
    ];
    others = λ n left apart leaves. elim (after_unnamed N m true n left leaves) [
      | inl was ↦ is.others n left apart was
      | inr gone ↦ inr gone.1
    ];
  }

pub same_or_other : (n m : ℤ) → (n ≡ m) ⊎ (n ≢ m)
same_or_other n m = by (int_eq n m) refl
  where
    by : (b : Bool) → int_eq n m ≡ b → (n ≡ m) ⊎ (n ≢ m)
    by true is = inl ((signed_Decides n m).0 is)
    by false is = inr (λ same. let yes = (signed_Decides n m).1 same in cc)
