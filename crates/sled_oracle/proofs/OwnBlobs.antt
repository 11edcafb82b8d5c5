-- Bytes pass as a blob just where their checksum fits and the code in them is that of a kind.
use Rattle.std.proofs.Common.{◌≡◌, ◌<◌, ◌∙◌, ℕ, List, ◌++◌, length, drop, get_or, refl, sym, ap, drop-cons}
use Rattle.sled_codec.specs.declared.serialization.message.MessageKind.{MessageKind}
use Rattle.sled_codec.specs.declared.serialization.message.MessageKind.TheVariants.{Corrupted, Canceled, Cap, BatchManifest, Free, Counter, InlineMeta, BlobMeta, InlineNode, BlobNode, InlineLink, BlobLink}
use Rattle.sled_codec.specs.Kinds.{code_of, kind_of}
use Rattle.sled_codec.specs.Spelling.{low_bytes}
use Rattle.sled_store.specs.Blobs.{blob_bytes}
use Rattle.sled_oracle.specs.OwnPast.{IsSomeBlob}

-- the first byte behind the sum is the code
pub blob_behind_sum : (sum : List ℕ → ℕ) (bytes rest : List ℕ) → 0 < length rest → bytes ≡ low_bytes 4 (sum rest) ++ rest → bytes ≡ blob_bytes sum (get_or rest 0 0) (drop 1 rest)
blob_behind_sum sum bytes rest some is = is ∙ ap (λ (l : List ℕ). low_bytes 4 (sum l) ++ l) (drop-cons rest 0 0 some)

code_again : (k : MessageKind) → code_of (kind_of (code_of k)) ≡ code_of k
code_again Corrupted = refl
code_again Canceled = refl
code_again Cap = refl
code_again BatchManifest = refl
code_again Free = refl
code_again Counter = refl
code_again InlineMeta = refl
code_again BlobMeta = refl
code_again InlineNode = refl
code_again BlobNode = refl
code_again InlineLink = refl
code_again BlobLink = refl

module _ (sum : List ℕ → ℕ) (bytes : List ℕ) (code : ℕ) (item : List ℕ) (is : bytes ≡ blob_bytes sum code item) where
  pub blob_of_kind : code_of (kind_of code) ≡ code → IsSomeBlob sum bytes
  blob_of_kind known = (kind_of code, item, is ∙ ap (λ n. blob_bytes sum n item) (sym known))

  pub kind_of_blob : IsSomeBlob sum bytes → code_of (kind_of code) ≡ code
  kind_of_blob (k, other, other_is) =
      let same : code ≡ code_of k = ap (λ (l : List ℕ). get_or l 4 0) (sym is ∙ other_is) in
      ap (λ n. code_of (kind_of n)) same ∙ code_again k ∙ sym same
