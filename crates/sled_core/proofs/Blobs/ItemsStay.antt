-- A blob that is made leaves the items of others safe from a crash, and has its own so. One that is removed leaves those of others so. And behind a sync of names the blobs that a recovery needs are so.
use Rattle.std.proofs.Common.{◌≡◌, ◌≢◌, ◌⊎◌, ◌∙◌, ◌&&◌, ℕ, ℤ, Bool, true, false, not, if◌then◌else◌, List, [], ◌∷◌, Option, Some, None, refl, sym, ap, subst, inl, inr}
use Rattle.std.specs.Ordering.{int_eq}
use Rattle.std.proofs.lemmas.Bool.Decides.{Decides-int_eq}
use Rattle.sled_codec.specs.declared.result.DiskPtr.{DiskPtr}
use Rattle.sled_codec.specs.declared.result.DiskPtr.TheVariants.{Inline, Blob}
use Rattle.sled_codec.specs.declared.serialization.message.MessageKind.{MessageKind}
use Rattle.sled_codec.specs.History.{History, Message}
use Rattle.sled_codec.specs.Kinds.{kind_written}
use Rattle.sled_store.specs.Blobs.{IsBlob}
use Rattle.sled_store.specs.Device.{LeavesFile, NamesState, file_synced, names_synced, renamed, settled_file, settled_files, unnamed}
use Rattle.sled_store.proofs.Crashes.SettledLemmas.{name_settled_left}
use Rattle.sled_core.specs.Good.{HasOwnBlob}
use Rattle.sled_core.specs.OwnBlobs.{IsBeside}
use Rattle.sled_core.specs.OwnNames.{IsAnyBlob}
use Rattle.sled_core.specs.inside.Recoverable.{HasItem}
use Rattle.sled_core.specs.inside.Running.{BlobsFit, KeepsEntries}
use Rattle.sled_core.specs.Running.{KeepsItem}
use Rattle.sled_core.proofs.Blobs.ChangesBack.{file_synced_back, leaves_synced, removed_back, renamed_back}
use Rattle.sled_core.proofs.Blobs.Leaves.{blob_not_empty}
use Rattle.sled_core.proofs.Blobs.Unnamed.{told_apart}

-- blobs behind the calls that make one
abbrev pub blobs_made : NamesState → ℤ → List ℕ → NamesState
blobs_made s p bytes = names_synced (file_synced (renamed s p true (record { file = Some bytes; is_unsynced = true }) (bytes ∷ [])) p)

module _ (sum : List ℕ → ℕ) (s : NamesState) (p : ℤ) (bytes : List ℕ) where
  other_stays : (m : Message) (lid : ℕ) (q : ℤ) → q ≢ p → KeepsItem sum s m (Blob lid q) → KeepsItem sum (blobs_made s p bytes) m (Blob lid q)
  other_stays m lid q apart its = λ left may.
      let made : NamesState = renamed s p true (record { file = Some bytes; is_unsynced = true }) (bytes ∷ []) in
      let told = told_apart p q apart in
      its left ((renamed_back (IsAnyBlob sum) s p true (record { file = Some bytes; is_unsynced = true }) (bytes ∷ [])).leaves q left told ((file_synced_back (IsAnyBlob sum) made p).leaves q left told (leaves_synced (file_synced made p) q left may)))

  -- where there was none under its name
  pub items_made : s.file p ≡ None → (m : Message) (pointer : DiskPtr) → KeepsItem sum s m pointer → KeepsItem sum (blobs_made s p bytes) m pointer
  items_made none m (Inline lid) its = tt
  items_made none m (Blob lid q) its = other_stays m lid q apart its where
    now : (file : Option (List ℕ)) (unsynced : Bool) → file ≡ None → HasOwnBlob sum file m → ⊥
    now file unsynced is has = let clash : None ≡ Some has.file = sym is ∙ has.there in cc

    apart : q ≢ p
    apart same = now (s.file q) (s.is_unsynced q) (ap s.file same ∙ none) (its (s.file q) (inl (reads (s.file q) (s.is_unsynced q) (ap s.file same ∙ none)))) where
      reads : (file : Option (List ℕ)) (unsynced : Bool) → file ≡ None → LeavesFile file unsynced file
      reads None unsynced is = refl
      reads (Some found) unsynced is = cc

  -- The message that it was made for has its item in it, whatever a crash leaves.
  pub item_made : (m : Message) (lid : ℕ) (kind : MessageKind) → kind_written m.kind m.page true ≡ Some kind → IsBlob sum bytes kind m.bytes → KeepsItem sum (blobs_made s p bytes) m (Blob lid p)
  item_made m lid kind known is = λ left may. by (int_eq p p) ((Decides-int_eq p p).1 refl) left may where
    has : (left : Option (List ℕ)) → left ≡ Some bytes → HasOwnBlob sum left m
    has left there = record { kind = kind; known = known; file = bytes; there = there; is = is }

    by : (here : Bool) → here ≡ true → (left : Option (List ℕ)) → LeavesFile (if true && here then Some bytes else s.file p) (not here && (if true && here then true else s.is_unsynced p)) left ⊎ ⊥ ⊎ ⊥ → HasOwnBlob sum left m
    by true at left (inl now) = has left now
    by true at left (inr (inl never)) = absurd never
    by true at left (inr (inr never)) = absurd never
    by false at left may = cc

-- The removal of a blob leaves the item of a message that has it elsewhere.
pub items_removed : (sum : List ℕ → ℕ) (s : NamesState) (p : ℤ) (done : Bool) (m : Message) → IsBeside (Some p) m → KeepsItem sum s m m.pointer → KeepsItem sum (unnamed s p done) m m.pointer
items_removed sum s p done m beside = by m.pointer refl where
  by : (pointer : DiskPtr) → m.pointer ≡ pointer → KeepsItem sum s m pointer → KeepsItem sum (unnamed s p done) m pointer
  by (Inline lid) is its = tt
  by (Blob lid q) is its = λ left may. its left ((removed_back (IsAnyBlob sum) s p done).leaves q left (told_apart p q (beside lid q is)) may)

-- Behind a sync of names a crash leaves a file as it is read, or its bytes may still be lost, and then it may leave none of them. So where each entry of a table has its item whatever a crash leaves that is the log's own, no crash takes it.
pub entries_synced : (sum : List ℕ → ℕ) (s : NamesState) (H : History) (place : ℕ) → BlobsFit sum (names_synced s) H place → KeepsEntries sum (names_synced s) H place
entries_synced sum s H place fit page m entry =
    let now : NamesState = names_synced s in
    by m.pointer ((fit (settled_files now) (name_settled_left now) (record { own = λ n bytes there is. inl there })).needed page m entry)
  where
    of : (file : Option (List ℕ)) (unsynced : Bool) → HasOwnBlob sum (settled_file file unsynced []) m → (left : Option (List ℕ)) → LeavesFile file unsynced left ⊎ ⊥ ⊎ ⊥ → HasOwnBlob sum left m
    of None unsynced has left (inl may) = subst (λ (f : Option (List ℕ)). HasOwnBlob sum f m) (sym may) has
    of (Some bytes) false has left (inl may) = subst (λ (f : Option (List ℕ)). HasOwnBlob sum f m) (sym may) has
    of (Some bytes) true has left (inl may) = absurd (
        let there : Some [] ≡ Some has.file = has.there in
        let empty : has.file ≡ [] = cc in
        blob_not_empty sum (has.kind, m.bytes, subst (λ (l : List ℕ). IsBlob sum l has.kind m.bytes) empty has.is))
    of file unsynced has left (inr (inl never)) = absurd never
    of file unsynced has left (inr (inr never)) = absurd never

    by : (p : DiskPtr) → HasItem sum (settled_files (names_synced s)) m p → KeepsItem sum (names_synced s) m p
    by (Inline lid) has = tt
    by (Blob lid q) has = λ left may. of (s.file q) (s.is_unsynced q) has left may
