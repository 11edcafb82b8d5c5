-- What is read under the names of a device is the log's own, and stays so where blobs and snapshots are made, removed and settled: a sync of names makes it so, and so does a crash.
use Rattle.std.proofs.Common.{◌≡◌, ◌⊎◌, ◌&&◌, not, is_some, if◌then◌else◌, ℕ, ℤ, Bool, true, false, List, [], ◌∷◌, ◌++◌, Option, Some, None, refl, sym, subst, inl, inr}
use Rattle.std.specs.List.{Contains}
use Rattle.std.specs.Ordering.{int_eq}
use Rattle.std.proofs.lemmas.List.Elements.{Contains-append_left, Contains-append_right}
use Rattle.sled_store.specs.Device.{BlobRemoved, NamesState, NameState, NamesSynced, State, SnapshotRemoved, step, content_of, file_synced, names_at_rest, names_synced, renamed, settled_file, unnamed}
use Rattle.sled_store.specs.Foreign.{NoForeignNames}
use Rattle.sled_store.proofs.Segments.Elements.{in_first}
use Rattle.sled_core.specs.OwnNames.{IsAnyBlob, IsAnySnapshot, ReadsStayOwn, StayOwn}
use Rattle.sled_core.specs.Recoverable.{NoForeign}

module _ (passes : List ℕ → Type 0) where
  -- what is read under a name was asked for since that was settled
  abbrev pub IsAskedAt : NamesState → ℤ → Type 0
  IsAskedAt s p = (n : ℤ) (bytes : List ℕ) → int_eq p n ≡ true → passes bytes → s.file n ≡ Some bytes → Contains (s.asked n) bytes

  -- where nothing that is read is foreign
  pub own_files : (s : NamesState) → NoForeignNames passes s s.file → StayOwn passes s
  own_files s own = record { own = λ n bytes is there firm. own.own n bytes there is }

  -- Behind a sync of names, whatever was read before it: what is synced is settled then.
  pub own_synced : (s : NamesState) → StayOwn passes (names_synced s)
  own_synced s = record { own = λ n bytes is there firm. inl (settles bytes (s.file n) (s.is_unsynced n) there firm) } where
    settles : (bytes : List ℕ) (file : Option (List ℕ)) (unsynced : Bool) → file ≡ Some bytes → unsynced ≡ false → settled_file file unsynced [] ≡ Some bytes
    settles bytes None unsynced there firm = cc
    settles bytes (Some found) true there firm = cc
    settles bytes (Some found) false there firm = there

  -- behind a crash
  pub own_at_rest : (file : ℤ → Option (List ℕ)) → StayOwn passes (names_at_rest file)
  own_at_rest file = own_synced (names_at_rest file)

  module _ (s : NamesState) (p : ℤ) where
    -- Where a name has another file, or may have, whose bytes were asked for if they are synced.
    own_renamed : (done : Bool) (top : NameState) (asked : List (List ℕ)) → ((bytes : List ℕ) → top.file ≡ Some bytes → top.is_unsynced ≡ false → Contains asked bytes) → StayOwn passes s → StayOwn passes (renamed s p done top asked)
    own_renamed done top asked its are = record { own = λ n bytes is there firm. by n bytes is done (int_eq p n) there firm } where
      more : (n : ℤ) (bytes : List ℕ) {A : Type 0} → A ⊎ Contains (s.asked n) bytes → A ⊎ Contains (asked ++ s.asked n) bytes
      more n bytes (inl settled) = inl settled
      more n bytes (inr before) = inr (Contains-append_right asked (s.asked n) bytes before)

      by : (n : ℤ) (bytes : List ℕ) → passes bytes → (done here : Bool) → (if done && here then top.file else s.file n) ≡ Some bytes → (if done && here then top.is_unsynced else s.is_unsynced n) ≡ false
          → (settled_file (if done && here then top.file else s.file n) (if done && here then top.is_unsynced else s.is_unsynced n) (if done && here then record { file = s.file n; is_unsynced = s.is_unsynced n } ∷ s.earlier n else s.earlier n) ≡ Some bytes)
          ⊎ Contains (if here then asked ++ s.asked n else s.asked n) bytes
      by n bytes is true true there firm = inr (Contains-append_left asked (s.asked n) bytes (its bytes there firm))
      by n bytes is true false there firm = are.own n bytes is there firm
      by n bytes is false true there firm = more n bytes (are.own n bytes is there firm)
      by n bytes is false false there firm = are.own n bytes is there firm

    -- where a file is made, or may be
    pub own_made : (asked now : List ℕ) (done : Bool) → StayOwn passes s → StayOwn passes (renamed s p done (record { file = Some now; is_unsynced = true }) (asked ∷ []))
    own_made asked now done = own_renamed done (record { file = Some now; is_unsynced = true }) (asked ∷ []) (λ bytes there firm. let clash : true ≡ false = firm in cc)

    -- where one is removed, or may be
    pub own_removed : (done : Bool) → StayOwn passes s → StayOwn passes (unnamed s p done)
    own_removed done are = by (is_some (s.file p)) where
      by : (b : Bool) → StayOwn passes (if b then renamed s p done (record { file = None; is_unsynced = false }) [] else s)
      by true = own_renamed done (record { file = None; is_unsynced = false }) [] (λ bytes there firm. let clash : None ≡ Some bytes = there in cc) are
      by false = are

    -- where its bytes are synced, which were asked for
    pub own_bytes_synced : IsAskedAt s p → StayOwn passes s → StayOwn passes (file_synced s p)
    own_bytes_synced asked are = record { own = λ n bytes is there firm. by n bytes is there (int_eq p n) refl firm } where
      by : (n : ℤ) (bytes : List ℕ) → passes bytes → s.file n ≡ Some bytes → (here : Bool) → int_eq p n ≡ here → (not here && s.is_unsynced n) ≡ false → (settled_file (s.file n) (not here && s.is_unsynced n) (s.earlier n) ≡ Some bytes) ⊎ Contains (s.asked n) bytes
      by n bytes is there true same firm = inr (asked n bytes same is there)
      by n bytes is there false other firm = are.own n bytes is there firm

    -- a file that was made whole was asked for
    pub asked_made : (made : List ℕ) → IsAskedAt (renamed s p true (record { file = Some made; is_unsynced = true }) (made ∷ [])) p
    asked_made made n bytes same is there = by (int_eq p n) same there where
      by : (here : Bool) → here ≡ true → (if true && here then Some made else s.file n) ≡ Some bytes → Contains (if here then (made ∷ []) ++ s.asked n else s.asked n) bytes
      by true at found = let one : made ≡ bytes = cc in subst (Contains (made ∷ s.asked n)) one (in_first made (s.asked n))
      by false at found = cc

-- So it is with the blobs and the snapshots of a device.
module _ (sum : List ℕ → ℕ) where
  -- where nothing that is read is foreign
  pub own_now : (size : ℕ) (s : State) → NoForeign sum size s (content_of s) → ReadsStayOwn sum s
  own_now size s own = record { of_blobs = own_files (IsAnyBlob sum) s.blobs own.blobs; of_snapshots = own_files (IsAnySnapshot sum) s.snapshots own.snapshots }

  -- where the names are the same
  pub own_same : (s t : State) → t.blobs ≡ s.blobs → t.snapshots ≡ s.snapshots → ReadsStayOwn sum s → ReadsStayOwn sum t
  own_same s t blobs snapshots are = record {
    of_blobs = subst (StayOwn (IsAnyBlob sum)) (sym blobs) are.of_blobs;
    of_snapshots = subst (StayOwn (IsAnySnapshot sum)) (sym snapshots) are.of_snapshots;
  }

  -- behind a sync of names, so behind all calls that make a blob
  pub own_settled : (s : State) → ReadsStayOwn sum (step NamesSynced s)
  own_settled s = record { of_blobs = own_synced (IsAnyBlob sum) s.blobs; of_snapshots = own_synced (IsAnySnapshot sum) s.snapshots }

  -- behind the call that removes a blob, also where that fails
  pub own_removing : (p : ℤ) (done : Bool) (s : State) → ReadsStayOwn sum s → ReadsStayOwn sum (step (BlobRemoved p done) s)
  own_removing p done s are = record { of_blobs = own_removed (IsAnyBlob sum) s.blobs p done are.of_blobs; of_snapshots = are.of_snapshots }

  -- and behind the one that removes a snapshot
  pub own_unlisting : (n : ℤ) (done : Bool) (s : State) → ReadsStayOwn sum s → ReadsStayOwn sum (step (SnapshotRemoved n done) s)
  own_unlisting n done s are = record { of_blobs = are.of_blobs; of_snapshots = own_removed (IsAnySnapshot sum) s.snapshots n done are.of_snapshots }
