-- A blob that no message of a history names is none that a recovery asks for: where two blob files differ there alone, both can be recovered or none.
use Rattle.std.proofs.Common.{◌≡◌, ◌≢◌, ℕ, ℤ, Bool, true, false, List, Option, refl, sym, subst}
use Rattle.std.specs.List.{Contains}
use Rattle.std.specs.Ordering.{int_eq}
use Rattle.std.proofs.lemmas.Bool.Decides.{Decides-int_eq}
use Rattle.sled_codec.specs.declared.result.DiskPtr.{DiskPtr}
use Rattle.sled_codec.specs.declared.result.DiskPtr.TheVariants.{Inline, Blob}
use Rattle.sled_codec.specs.History.{Message, History}
use Rattle.sled_store.specs.Blobs.{IsDamagedFor}
use Rattle.sled_store.proofs.Segments.TableEntries.{from_table}
use Rattle.sled_core.specs.Good.{HasOwnBlob}
use Rattle.sled_core.specs.inside.Recoverable.{HasItem, PassesIfThere, AreRecoverableBlobs}

-- no message of a history names the blob of a place
abbrev pub IsUnnamed : History → ℤ → Type 0
IsUnnamed H p = (m : Message) → Contains H.messages m → (lid : ℕ) (q : ℤ) → m.pointer ≡ Blob lid q → q ≢ p

-- places that differ are told apart
pub told_apart : (p q : ℤ) → q ≢ p → int_eq p q ≡ false
told_apart p q differ = by (int_eq p q) refl where
  by : (b : Bool) → int_eq p q ≡ b → b ≡ false
  by true same = absurd (differ (sym ((Decides-int_eq p q).0 same)))
  by false other = refl

module _ (sum : List ℕ → ℕ) (p : ℤ) (blobs others : ℤ → Option (List ℕ)) (H : History) (unnamed : IsUnnamed H p) (beside : (n : ℤ) → int_eq p n ≡ false → others n ≡ blobs n) where
  -- the file of a blob that a message names
  named_same : (m : Message) → Contains H.messages m → (lid : ℕ) (q : ℤ) → m.pointer ≡ Blob lid q → others q ≡ blobs q
  named_same m there lid q is = beside q (told_apart p q (unnamed m there lid q is))

  item_beside : (m : Message) → Contains H.messages m → (pointer : DiskPtr) → m.pointer ≡ pointer → HasItem sum blobs m pointer → HasItem sum others m pointer
  item_beside m there (Inline lid) is item = tt
  item_beside m there (Blob lid q) is item = subst (λ (file : Option (List ℕ)). HasOwnBlob sum file m) (sym (named_same m there lid q is)) item

  passes_beside : (m : Message) → Contains H.messages m → (pointer : DiskPtr) → m.pointer ≡ pointer → PassesIfThere sum blobs m pointer → PassesIfThere sum others m pointer
  passes_beside m there (Inline lid) is passes = tt
  passes_beside m there (Blob lid q) is passes = λ k known damaged. passes k known (subst (IsDamagedFor sum k) (named_same m there lid q is) damaged)

  -- What can be recovered of the one can be of the other.
  pub beside_recoverable : (cut : ℕ) → AreRecoverableBlobs sum blobs H cut → AreRecoverableBlobs sum others H cut
  beside_recoverable cut are = record {
    needed = λ page m entry. item_beside m (from_table H cut page m entry).0 m.pointer refl (are.needed page m entry);
    named = λ m there. passes_beside m there m.pointer refl (are.named m there);
  }
