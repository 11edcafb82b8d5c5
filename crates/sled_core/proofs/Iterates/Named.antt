-- Damage of the blob that a record names has one name.
use Rattle.std.proofs.Common.{◌≡◌, ◌∙◌, ◌≤◌, ℕ, ℤ, List, length, Option, Some, None, refl, ap, sym, subst}
use Rattle.sled_codec.specs.declared.result.DiskPtr.{DiskPtr}
use Rattle.sled_codec.specs.declared.result.DiskPtr.TheVariants.{Inline, Blob}
use Rattle.sled_store.specs.Blobs.{IsDamagedBlob, NamesBlobAt}
use Rattle.sled_core.specs.declared.iterator.scan.RecordContent.{RecordContent}
use Rattle.sled_core.specs.declared.iterator.scan.RecordContent.TheVariants.{Gives, NamesBlob, Skipped, BatchStart}
use Rattle.sled_core.specs.Iterates.{Damage, IsNamed}
use Rattle.sled_core.specs.Replayed.{NamesBlobOf}

module _ (sum : List ℕ → ℕ) (blobs : ℤ → Option (List ℕ)) where
  -- a blob at a place either has a checksum that fails, or not
  pub one_name : (place : ℤ) (a b : Option DiskPtr) → NamesBlobAt sum blobs place a → NamesBlobAt sum blobs place b → a ≡ b
  one_name place None None n m = refl
  one_name place None (Some (Inline lid)) n m = absurd m
  one_name place None (Some (Blob lid at)) n m =
      let both : Some m.2 ≡ Some n.0 = sym m.3 ∙ n.1 in
      let same : m.2 ≡ n.0 = cc in
      absurd (n.2 (subst (λ (bytes : List ℕ). 5 ≤ length bytes) same m.4) (subst (IsDamagedBlob sum) same m.5))
  one_name place (Some (Inline lid)) b n m = absurd n
  one_name place (Some (Blob lid at)) None n m =
      let both : Some n.2 ≡ Some m.0 = sym n.3 ∙ m.1 in
      let same : n.2 ≡ m.0 = cc in
      absurd (m.2 (subst (λ (bytes : List ℕ). 5 ≤ length bytes) same n.4) (subst (IsDamagedBlob sum) same n.5))
  one_name place (Some (Blob lid at)) (Some (Inline k)) n m = absurd m
  one_name place (Some (Blob lid at)) (Some (Blob k p)) n m =
      let zero : lid ≡ k = n.0 ∙ sym m.0 in
      let there : at ≡ p = n.1 ∙ sym m.1 in
      cc

  one_name_of : (what : RecordContent) (a b : Option DiskPtr) → NamesBlobOf sum blobs what a → NamesBlobOf sum blobs what b → a ≡ b
  one_name_of (Gives kind page pointer) a b n m = absurd n
  one_name_of (NamesBlob kind page lid place) a b n m = one_name place a b n m
  one_name_of Skipped a b n m = absurd n
  one_name_of (BatchStart peg) a b n m = absurd n

  -- so damage that is named as a record's blob is has that name
  pub named_so : (what : RecordContent) (damage : Damage) (at : Option DiskPtr) → IsNamed (NamesBlobOf sum blobs what) damage → NamesBlobOf sum blobs what at → damage ≡ Some at
  named_so what None at is names = absurd is
  named_so what (Some other) at is names = ap Some (one_name_of what other at is names)
