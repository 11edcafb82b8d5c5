-- What a crash leaves of names after a change of one of them it could leave before, but for that name; and what is the log's own then was so before.
use Rattle.std.proofs.Common.{◌≡◌, ◌⊎◌, ◌∙◌, ◌&&◌, not, is_some, if◌then◌else◌, ℕ, ℤ, Bool, true, false, List, [], ◌∷◌, ◌++◌, Option, Some, None, refl, sym, ap, subst, inl, inr}
use Rattle.std.specs.List.{Contains}
use Rattle.std.specs.Ordering.{int_eq}
use Rattle.sled_store.specs.Device.{NameState, NamesState, LeavesName, renamed, unnamed, file_synced, names_synced, settled_file, settled_files}
use Rattle.sled_store.specs.Foreign.{NoForeignNames}
use Rattle.sled_store.proofs.Crashes.SettledLemmas.{name_settled_left}
use Rattle.sled_store.proofs.Names.NamesLemmas.{after_renamed}
use Rattle.sled_store.proofs.Segments.Elements.{in_nothing}
use Rattle.sled_core.specs.OwnNames.{IsOwn}

-- Of all names but those that are skipped: what a crash leaves after a change it could leave before, and what is the log's own then was so before.
pub record GoesBack (passes : List ℕ → Type 0) (skip : ℤ → Bool) (s t : NamesState) : Type 0 where
  pub leaves : (n : ℤ) (left : Option (List ℕ)) → skip n ≡ false → LeavesName t n left → LeavesName s n left
  pub own : (n : ℤ) (bytes : List ℕ) → skip n ≡ false → passes bytes → IsOwn t n bytes → IsOwn s n bytes

-- Of all names but those that are skipped: what is read under them is the log's own, where its bytes are synced.
pub record ReadsOwn (passes : List ℕ → Type 0) (skip : ℤ → Bool) (s : NamesState) : Type 0 where
  pub own : (n : ℤ) (bytes : List ℕ) → skip n ≡ false → passes bytes → s.file n ≡ Some bytes → s.is_unsynced n ≡ false → IsOwn s n bytes

-- where nothing that is read under names is foreign
pub reads_own : (passes : List ℕ → Type 0) (skip : ℤ → Bool) (s : NamesState) → NoForeignNames passes s s.file → ReadsOwn passes skip s
reads_own passes skip s own = record { own = λ n bytes other is there firm. own.own n bytes there is }

-- With what a crash leaves after a change goes what it could leave before: what is skipped was settled then.
module _ (passes : List ℕ → Type 0) (skip : ℤ → Bool) (s t : NamesState) (back : GoesBack passes skip s t) (left : ℤ → Option (List ℕ)) where
  abbrev pub before : ℤ → Option (List ℕ)
  before n = if skip n then settled_files s n else left n

  pub before_same : (n : ℤ) → skip n ≡ false → before n ≡ left n
  before_same n other = ap (λ (b : Bool). if b then settled_files s n else left n) other

  pub before_left : ((n : ℤ) → LeavesName t n (left n)) → (n : ℤ) → LeavesName s n (before n)
  before_left leaves n = by (skip n) refl where
    by : (b : Bool) → skip n ≡ b → LeavesName s n (if b then settled_files s n else left n)
    by true is = name_settled_left s n
    by false is = back.leaves n (left n) is (leaves n)

  pub before_own : NoForeignNames passes t left → NoForeignNames passes s before
  before_own own = record { own = λ n bytes there is. by n bytes is (skip n) refl there } where
    by : (n : ℤ) (bytes : List ℕ) → passes bytes → (b : Bool) → skip n ≡ b → (if b then settled_files s n else left n) ≡ Some bytes → IsOwn s n bytes
    by n bytes is true skipped there = inl there
    by n bytes is false other there = back.own n bytes other is (own.own n bytes there is)

-- Changes of one name.

not_both : (b : Bool) → b ≡ true → b ≡ false → ⊥
not_both b is other = let clash : true ≡ false = sym is ∙ other in cc

module _ (passes : List ℕ → Type 0) (s : NamesState) (p : ℤ) where
  -- no change
  pub same_back : GoesBack passes (int_eq p) s s
  same_back = record { leaves = λ n left other is. is; own = λ n bytes other is own. own }

  -- it has another file, or may have
  pub renamed_back : (done : Bool) (top : NameState) (asked : List (List ℕ)) → GoesBack passes (int_eq p) s (renamed s p done top asked)
  renamed_back done top asked = record {
    leaves = λ n left other is. elim (after_renamed s p done top asked n left is) [ inl was ↦ was | inr here ↦ absurd (not_both (int_eq p n) here.0 other) ];
    own = λ n bytes other is own. own_by n bytes done (int_eq p n) other own;
  } where
    own_by : (n : ℤ) (bytes : List ℕ) (done here : Bool) → here ≡ false
        → (settled_file (if done && here then top.file else s.file n) (if done && here then top.is_unsynced else s.is_unsynced n) (if done && here then record { file = s.file n; is_unsynced = s.is_unsynced n } ∷ s.earlier n else s.earlier n) ≡ Some bytes)
        ⊎ Contains (if here then asked ++ s.asked n else s.asked n) bytes → IsOwn s n bytes
    own_by n bytes done true other own = cc
    own_by n bytes true false other own = own
    own_by n bytes false false other own = own

  -- it is removed, or may be
  pub removed_back : (done : Bool) → GoesBack passes (int_eq p) s (unnamed s p done)
  removed_back done = by (is_some (s.file p)) where
    by : (b : Bool) → GoesBack passes (int_eq p) s (if b then renamed s p done (record { file = None; is_unsynced = false }) [] else s)
    by true = renamed_back done (record { file = None; is_unsynced = false }) []
    by false = same_back

  -- names of which all files are settled, or none
  abbrev after_sync : Bool → NamesState
  after_sync b = record { file = s.file; is_unsynced = λ n. not b && s.is_unsynced n; earlier = s.earlier; half_done = s.half_done; asked = s.asked }

  -- the bytes of its file are settled
  pub file_synced_back : GoesBack passes (int_eq p) s (file_synced s p)
  file_synced_back = record {
    leaves = λ n left other is. subst (λ (b : Bool). LeavesName (after_sync b) n left) other is;
    own = λ n bytes other is own. subst (λ (b : Bool). IsOwn (after_sync b) n bytes) other own;
  }

  -- What is read under the other names is the log's own still.

  pub renamed_own : (done : Bool) (top : NameState) (asked : List (List ℕ)) → ReadsOwn passes (int_eq p) s → ReadsOwn passes (int_eq p) (renamed s p done top asked)
  renamed_own done top asked reads = record { own = λ n bytes other is there firm. own_by n bytes other is done (int_eq p n) other there firm } where
    own_by : (n : ℤ) (bytes : List ℕ) → int_eq p n ≡ false → passes bytes → (done here : Bool) → here ≡ false → (if done && here then top.file else s.file n) ≡ Some bytes → (if done && here then top.is_unsynced else s.is_unsynced n) ≡ false
        → (settled_file (if done && here then top.file else s.file n) (if done && here then top.is_unsynced else s.is_unsynced n) (if done && here then record { file = s.file n; is_unsynced = s.is_unsynced n } ∷ s.earlier n else s.earlier n) ≡ Some bytes)
        ⊎ Contains (if here then asked ++ s.asked n else s.asked n) bytes
    own_by n bytes apart is done true other there firm = cc
    own_by n bytes apart is true false other there firm = reads.own n bytes apart is there firm
    own_by n bytes apart is false false other there firm = reads.own n bytes apart is there firm

  pub file_synced_own : ReadsOwn passes (int_eq p) s → ReadsOwn passes (int_eq p) (file_synced s p)
  file_synced_own reads = record {
    own = λ n bytes other is there firm. subst (λ (b : Bool). IsOwn (after_sync b) n bytes) (sym other) (reads.own n bytes other is there (ap (λ (b : Bool). not b && s.is_unsynced n) (sym other) ∙ firm));
  }

-- What a crash leaves behind a sync of names it could leave before.
pub leaves_synced : (s : NamesState) (n : ℤ) (left : Option (List ℕ)) → LeavesName (names_synced s) n left → LeavesName s n left
leaves_synced s n left (inl now) = inl now
leaves_synced s n left (inr (inl earlier)) = absurd earlier
leaves_synced s n left (inr (inr half)) = absurd half

-- A sync of all names.
module _ (passes : List ℕ → Type 0) (no_bytes : passes [] → ⊥) (skip : ℤ → Bool) (s : NamesState) where
  -- It settles what is read and synced, which was the log's own.
  pub names_synced_back : ReadsOwn passes skip s → GoesBack passes skip s (names_synced s)
  names_synced_back reads = record {
    leaves = λ n left other is. leaves_synced s n left is;
    own = λ n bytes other is own. elim own [
      | inl settled ↦ (let read = by_file n bytes is (s.file n) (s.is_unsynced n) refl refl settled in reads.own n bytes other is read.0 read.1)
      | inr asked ↦ inr (by_asked (s.is_unsynced n) (s.asked n) bytes asked)
    ];
  } where
    by_file : (n : ℤ) (bytes : List ℕ) → passes bytes → (file : Option (List ℕ)) (unsynced : Bool) → s.file n ≡ file → s.is_unsynced n ≡ unsynced → settled_file file unsynced [] ≡ Some bytes → (s.file n ≡ Some bytes) × (s.is_unsynced n ≡ false)
    by_file n bytes is None unsynced at state settled = cc
    by_file n bytes is (Some file) false at state settled = (at ∙ settled, state)
    by_file n bytes is (Some file) true at state settled = let empty : [] ≡ bytes = cc in absurd (no_bytes (subst passes (sym empty) is))

    by_asked : (unsynced : Bool) (asked : List (List ℕ)) (bytes : List ℕ) → Contains (if unsynced then asked else []) bytes → Contains asked bytes
    by_asked true asked bytes there = there
    by_asked false asked bytes there = absurd (in_nothing bytes there)
