-- Where blobs are removed that lie at or above the cut, those that a recovery needs stay: the blob of a message is as old as the message, or older.
use Rattle.std.proofs.Common.{⊎_elim, ◌≡◌, ◌⊎◌, ◌∙◌, ◌≤◌, ◌<◌, ◌≤ℤ◌, ℕ, ℤ, pos, negsuc, List, Option, Some, None, sym, subst, arith, leb→le}
use Rattle.std.specs.List.{Contains}
use Rattle.sled_codec.specs.declared.result.DiskPtr.{DiskPtr}
use Rattle.sled_codec.specs.declared.result.DiskPtr.TheVariants.{Inline, Blob}
use Rattle.sled_codec.specs.History.{Message, History}
use Rattle.sled_store.specs.Blobs.{IsDamagedFor}
use Rattle.sled_store.proofs.Segments.TableEntries.{from_table}
use Rattle.sled_core.specs.Good.{HasOwnBlob}
use Rattle.sled_core.specs.Reading.{BlobIsBelow}
use Rattle.sled_core.specs.inside.Recoverable.{LiesInSegment, HasItem, PassesIfThere, AreRecoverableBlobs}

-- a place lies at or above a cut; where that is 0 no message lies below it, so that no place has to
abbrev pub IsAbove : ℕ → ℤ → Type 0
IsAbove cut n = (pos cut ≤ℤ n) ⊎ (cut ≡ 0)

-- each blob is as before, or lies at or above a cut and is gone
abbrev pub AreRemovedFrom : ℕ → (ℤ → Option (List ℕ)) → (ℤ → Option (List ℕ)) → Type 0
AreRemovedFrom cut blobs left = (n : ℤ) → (left n ≡ blobs n) ⊎ (IsAbove cut n × (left n ≡ None))

not_above : (cut p : ℕ) (place : ℤ) → place ≤ℤ pos p → p < cut → pos cut ≤ℤ place → ⊥
not_above cut p (pos k) old under above =
    let low : k ≤ p = leb→le k p old.le in
    let high : cut ≤ k = leb→le cut k above.le in
    omega (arith, low, high, under)
not_above cut p (negsuc k) old under above = above.le

module _ (sum : List ℕ → ℕ) (blobs left : ℤ → Option (List ℕ)) (cut : ℕ) (removed : AreRemovedFrom cut blobs left) where
  stays : (place : ℤ) (p : ℕ) → place ≤ℤ pos p → p < cut → left place ≡ blobs place
  stays place p old under = ⊎_elim (λ same. same) (λ gone. absurd (⊎_elim (λ above. not_above cut p place old under above) (λ none. omega (arith, none, under)) gone.0)) (removed place)

  item_stays : (m : Message) (pointer : DiskPtr) → m.place < cut → BlobIsBelow m pointer → HasItem sum blobs m pointer → HasItem sum left m pointer
  item_stays m (Inline lid) under old item = tt
  item_stays m (Blob lid place) under old item = subst (λ (file : Option (List ℕ)). HasOwnBlob sum file m) (sym (stays place m.place old under)) item

  passes_stays : (m : Message) (pointer : DiskPtr) → PassesIfThere sum blobs m pointer → PassesIfThere sum left m pointer
  passes_stays m (Inline lid) passes = passes
  passes_stays m (Blob lid place) passes = λ k known damaged. ⊎_elim
      (λ same. passes k known (subst (IsDamagedFor sum k) same damaged))
      (λ gone. let no : None ≡ Some damaged.0 = sym gone.1 ∙ damaged.1 in cc)
      (removed place)

  -- They are still those that a recovery can go on from.
  pub blobs_removed : (size : ℕ) (H : History) → ((m : Message) → Contains H.messages m → m.place < cut → LiesInSegment size m) → AreRecoverableBlobs sum blobs H cut → AreRecoverableBlobs sum left H cut
  blobs_removed size H placed are = record {
    needed = λ page m there.
        let from = from_table H cut page m there in
        item_stays m m.pointer from.2 (placed m from.0 from.2).blob (are.needed page m there);
    named = λ m there. passes_stays m m.pointer (are.named m there);
  }
