-- What a crash leaves of the snapshots while a table that ends at the cut is published and others are removed: recovery begins from the one that it began from before, or from the new one, and from the new one alone once its name is settled.
use Rattle.std.proofs.Common.{◌≡◌, ◌≢◌, ◌⊎◌, ◌∙◌, ◌≤◌, ◌≤ℤ◌, if◌then◌else◌, ℕ, ℤ, pos, Bool, true, false, List, [], ◌∷◌, Option, Some, None, IsSome, refl, sym, ap, subst, arith, inl, inr}
use Rattle.std.specs.Int.Signed.{≤ℤ_refl}
use Rattle.std.specs.Cmp.{signed_Decides}
use Rattle.sled_codec.specs.History.{History, CutFits}
use Rattle.sled_codec.specs.PageTables.{IsTable}
use Rattle.sled_codec.specs.Snapshots.{SnapshotModel, FitsSnapshot, short_snapshot, stable_place}
use Rattle.sled_codec.specs.SnapshotLaws.{short_spells-snapshot}
use Rattle.sled_store.specs.Device.{NameState, NamesState, LeavesName, renamed, names_synced}
use Rattle.sled_store.specs.inside.Durable.{IsSettledName}
use Rattle.sled_store.proofs.Names.NamesLemmas.{settled_name_left, after_renamed}
use Rattle.sled_core.specs.inside.Recoverable.{IsTableFile, AreRecoverableSnapshots, ActiveFits}
use Rattle.sled_log.specs.WritesBack.{short_file}
use Rattle.sled_log.proofs.Moments.LogAlong.{NamesBegin}
use Rattle.sled_log.proofs.SnapshotFile.NewestLemmas.{sound_at}
use Rattle.sled_log.proofs.SnapshotFile.PublishLemmas.{listed_below, same_or_other, IsPublished}

-- names that are settled are so behind another sync
pub synced_twice : (s : NamesState) → names_synced (names_synced s) ≡ names_synced s
synced_twice s = λ i. record { file = s.file; is_unsynced = s.is_unsynced; earlier = λ _. []; half_done = λ _. []; asked = λ n. by (s.is_unsynced n) (s.asked n) i } where
  by : (b : Bool) (asked : List (List ℕ)) → (if b then (if b then asked else []) else []) ≡ (if b then asked else [])
  by true asked = refl
  by false asked = refl

-- Where all names are settled a crash leaves just those files.
pub settled_begin : (sum : List ℕ → ℕ) (size : ℕ) (H : History) (f : ℕ) (Allowed : SnapshotModel → Type 0) (names : NamesState) → ((n : ℤ) → IsSettledName names n) → (first : SnapshotModel) → AreRecoverableSnapshots sum size names.file H f first → Allowed first
    → NamesBegin sum size H f Allowed names
settled_begin sum size H f Allowed names settled first tables allowed left leaves own =
    (first, subst (λ (file : ℤ → Option (List ℕ)). AreRecoverableSnapshots sum size file H f first) (λ i n. sym (settled_name_left names n (left n) (settled n) (leaves n)) i) tables, allowed)

-- A table with a spelling, for a cut.
pub record IsTableAt (size : ℕ) (H : History) (cut : ℕ) (s : SnapshotModel) : Type 0 where
  pub stable : s.stable ≡ Some (pos cut)
  pub active : ActiveFits size cut s.active
  pub table : IsTable s.pages H cut
  pub fits : CutFits H cut
  pub spelled : FitsSnapshot s

module _ (sum : List ℕ → ℕ) (size : ℕ) (H : History) (f cut : ℕ) (s : SnapshotModel) (new : IsTableAt size H cut s) where
  -- the bytes of its file
  abbrev bytes : List ℕ
  bytes = short_file sum s

  pub place : stable_place s.stable ≡ cut
  place = ap stable_place new.stable

  new_file : IsTableFile sum H (pos cut) bytes
  new_file = record {
    model = s;
    file = record { text = short_snapshot s; spelled = short_spells-snapshot s new.spelled; is = refl; small = new.spelled.small };
    sound = sound_at s cut new.stable;
    named = new.stable;
    table = subst (λ n. IsTable s.pages H n) (sym place) new.table;
    fits = subst (λ n. CutFits H n) (sym place) new.fits;
  }

  -- Recovery could begin from these files, no further than the cut.
  module _ (file : ℤ → Option (List ℕ)) (first : SnapshotModel) (tables : AreRecoverableSnapshots sum size file H f first) (not_above : stable_place first.stable ≤ cut) where
    below : (n : ℤ) (b : List ℕ) → file n ≡ Some b → n ≤ℤ pos cut
    below = listed_below sum size file H f first tables cut not_above

    -- the new one was put in, and each of the others stays or is gone
    begins_new : (left : ℤ → Option (List ℕ)) → left (pos cut) ≡ Some bytes → ((n : ℤ) (b : List ℕ) → n ≢ pos cut → left n ≡ Some b → file n ≡ Some b) → AreRecoverableSnapshots sum size left H f s
    unfolding new_file
    begins_new left there others = record {
      begins = inr (pos cut, bytes, record { there = there; greatest = λ n some. greatest n (left n) refl some }, new_file.file, new_file.sound);
      listed = λ n b is. elim (same_or_other n (pos cut)) [
        | inl same ↦ table_there n b same is
        | inr other ↦ tables.listed n b (others n b other is)
      ];
      not_below = (let floor = tables.not_below in omega (arith, floor, not_above, place));
      active = subst (λ n. ActiveFits size n s.active) (sym place) new.active;
    } where
      greatest : (n : ℤ) (o : Option (List ℕ)) → left n ≡ o → IsSome (left n) → n ≤ℤ pos cut
      greatest n None is some = absurd (cc)
      greatest n (Some b) is some = elim (same_or_other n (pos cut)) [ inl same ↦ subst (λ (m : ℤ). m ≤ℤ pos cut) (sym same) (≤ℤ_refl (pos cut)) | inr other ↦ below n b (others n b other is) ]

      table_there : (n : ℤ) (b : List ℕ) → n ≡ pos cut → left n ≡ Some b → IsTableFile sum H n b
      table_there n b same is =
          let is_new : bytes ≡ b = cc in
          subst (λ (m : ℤ). IsTableFile sum H m b) (sym same) (subst (λ (l : List ℕ). IsTableFile sum H (pos cut) l) is_new new_file)

    -- No name of these is loose, and the new one was put in: recovery begins from it, or as before.
    module _ (N : NamesState) (is_file : N.file ≡ file) (settled : (n : ℤ) → IsSettledName N n) where
      abbrev top : NameState
      top = record { file = Some bytes; is_unsynced = false }

      -- what a crash leaves of a name then
      left_of : (n : ℤ) (left : Option (List ℕ)) → LeavesName (renamed N (pos cut) true top (bytes ∷ [])) n left → (left ≡ file n) ⊎ ((n ≡ pos cut) × (left ≡ Some bytes))
      left_of n left leaves = elim (after_renamed N (pos cut) true top (bytes ∷ []) n left leaves) [
        | inl was ↦ inl (settled_name_left N n left (settled n) was ∙ ap (λ (g : ℤ → Option (List ℕ)). g n) is_file)
        | inr now ↦ inr (sym ((signed_Decides (pos cut) n).0 now.0), now.1)
      ]

      pub put_begin : NamesBegin sum size H f (λ t. (t ≡ first) ⊎ (stable_place t.stable ≡ cut)) (renamed N (pos cut) true top (bytes ∷ []))
      put_begin left leaves own = elim (left_of (pos cut) (left (pos cut)) (leaves (pos cut))) [
        | inl old ↦ (first, subst (λ (g : ℤ → Option (List ℕ)). AreRecoverableSnapshots sum size g H f first) (λ i n. sym (old_at n old) i) tables, inl refl)
        | inr now ↦ (
          s,
          begins_new left now.1 (λ n b other is. elim (left_of n (left n) (leaves n)) [
            | inl same ↦ sym same ∙ is
            | inr here ↦ absurd (other here.0)
          ]),
          inr place,
        )
      ]
        where
          old_at : (n : ℤ) → left (pos cut) ≡ file (pos cut) → left n ≡ file n
          old_at n old = elim (left_of n (left n) (leaves n)) [
            | inl same ↦ same
            | inr here ↦ ap left here.0 ∙ old ∙ ap file (sym here.0)
          ]

    -- The name of the new one is settled, and each of the others has its file still, or may have none: recovery begins from the new one.
    pub published_as : (Allowed : SnapshotModel → Type 0) → Allowed s → (N : NamesState) → IsPublished N file (pos cut) bytes → NamesBegin sum size H f Allowed N
    published_as Allowed allowed N published left leaves own = (
      s,
      begins_new left (published.own (left (pos cut)) (leaves (pos cut))) (λ n b other is. elim (published.others n (left n) other (leaves n)) [
        | inl same ↦ sym same ∙ is
        | inr none ↦ absurd (cc)
      ]),
      allowed,
    )

    pub published_begin : (N : NamesState) → IsPublished N file (pos cut) bytes → NamesBegin sum size H f (λ t. stable_place t.stable ≡ cut) N
    published_begin = published_as (λ t. stable_place t.stable ≡ cut) place
