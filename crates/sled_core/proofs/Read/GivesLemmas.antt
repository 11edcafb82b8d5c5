-- Where the record of a message stands, what is read is that message.
use Rattle.std.proofs.Common.{◌≡◌, ℕ, ℤ, Option, List, length, sym, ◌∙◌, ap, arith, refl, true, false, Bool, if◌then◌else◌, ◌==◌, Some}
use Rattle.sled_codec.specs.declared.serialization.message.LogKind.{LogKind}
use Rattle.sled_codec.specs.declared.serialization.message.LogKind.TheVariants as does
use Rattle.sled_codec.specs.declared.serialization.message.MessageKind.{MessageKind}
use Rattle.sled_codec.specs.declared.serialization.message.MessageKind.TheVariants as kind
use Rattle.sled_codec.specs.declared.serialization.message.MessageHeader.{MessageHeader}
use Rattle.sled_codec.specs.Kinds.{kind_written}
use Rattle.sled_codec.specs.History.{Message}
use Rattle.sled_core.proofs.Read.ReadingLemmas.{laid_of, one_head, one_laid, one_text}
use Rattle.sled_core.specs.declared.logger.read_message.LogRead.{LogRead}
use Rattle.sled_core.specs.declared.logger.read_message.LogRead.TheVariants.{Inline, Blob, Canceled, Cap, Corrupted, DanglingBlob, BatchManifest}
use Rattle.sled_core.specs.Reading.{StandsAt, IsReading, GivesMessage, is_inline, is_blob}

-- At one offset one record stands.

module _ (sum : List ℕ → ℕ) (size : ℕ) (log : List ℕ) (lid number : ℕ) (h h' : MessageHeader) (body body' : List ℕ) (len len' : ℕ)
    (a : StandsAt sum size log lid number h body len) (b : StandsAt sum size log lid number h' body' len') where
  pub one_header : h ≡ h'
  one_header = one_laid size log lid number a.header b.header h h' body body' (laid_of sum size log lid number h body len a).0 (laid_of sum size log lid number h' body' len' b).0

  pub one_body : body ≡ body'
  one_body = one_text size log lid number a.header b.header h h' body body' (laid_of sum size log lid number h body len a).0 (laid_of sum size log lid number h' body' len' b).0

  pub one_len : len ≡ len'
  one_len =
      let heads = one_head size log lid number a.header b.header h h' body body' (laid_of sum size log lid number h body len a).0 (laid_of sum size log lid number h' body' len' b).0 in
      omega (arith, (laid_of sum size log lid number h body len a).1, (laid_of sum size log lid number h' body' len' b).1, ap length heads, ap length one_body)

-- a message that holds its item is of a kind that does
one_of : (is_so : MessageKind → Bool) (b c : Bool) (x y z k : MessageKind) → is_so x ≡ true → is_so y ≡ true → is_so z ≡ true → (if b then Some x else if c then Some y else Some z) ≡ Some k → is_so k ≡ true
one_of is_so true c x y z k ix iy iz is = let same : x ≡ k = cc in sym (ap is_so same) ∙ ix
one_of is_so false true x y z k ix iy iz is = let same : y ≡ k = cc in sym (ap is_so same) ∙ iy
one_of is_so false false x y z k ix iy iz is = let same : z ≡ k = cc in sym (ap is_so same) ∙ iz

pub kind_inline : (does_it : LogKind) (page : ℕ) (k : MessageKind) → kind_written does_it page false ≡ Some k → is_inline k ≡ true
kind_inline does.Replace page k is = one_of is_inline (page == 1) (page == 0) _ _ _ k refl refl refl is
kind_inline does.Link page k is = let same : kind.InlineLink ≡ k = cc in sym (ap is_inline same)
kind_inline does.Free page k is = let same : kind.Free ≡ k = cc in sym (ap is_inline same)
kind_inline does.Skip page k is = cc
kind_inline does.Corrupted page k is = cc

-- where a message has its item in a blob, its kind says so
pub kind_blob : (does_it : LogKind) (page : ℕ) (k : MessageKind) → kind_written does_it page true ≡ Some k → is_blob k ≡ true
kind_blob does.Replace page k is = one_of is_blob (page == 1) (page == 0) _ _ _ k refl refl refl is
kind_blob does.Link page k is = let same : kind.BlobLink ≡ k = cc in sym (ap is_blob same)
kind_blob does.Free page k is = cc
kind_blob does.Skip page k is = cc
kind_blob does.Corrupted page k is = cc

pub blob_apart : (k : MessageKind) → is_blob k ≡ true → is_inline k ≡ true → ⊥
blob_apart kind.BlobMeta blob inline = cc
blob_apart kind.BlobNode blob inline = cc
blob_apart kind.BlobLink blob inline = cc
blob_apart _ blob inline = cc

-- What is read where a message's record stands gives that message.
pub gives : (sum : List ℕ → ℕ) (size : ℕ) (log : List ℕ) (blobs : ℤ → Option (List ℕ)) (lid number : ℕ) (m : Message) (h : MessageHeader) (r : LogRead)
    → StandsAt sum size log lid number h m.bytes m.size → kind_written m.kind m.page false ≡ Some h.kind → h.pid ≡ m.page → IsReading sum size log blobs lid number r → GivesMessage m r
gives sum size log blobs lid number m h (Inline h' bytes n) stands known page reads =
    let same = one_header sum size log lid number h h' m.bytes bytes.items m.size n stands reads.0 in (
      known ∙ ap (λ (x : MessageHeader). Some x.kind) same,
      sym (ap (λ (x : MessageHeader). x.pid) same) ∙ page,
      sym (one_body sum size log lid number h h' m.bytes bytes.items m.size n stands reads.0),
      sym (one_len sum size log lid number h h' m.bytes bytes.items m.size n stands reads.0),
    )
gives sum size log blobs lid number m h (Blob h' bytes place n) stands known page reads =
    let same = one_header sum size log lid number h h' m.bytes reads.0 m.size n stands reads.1 in
    let inline : is_inline h'.kind ≡ true = ap (λ (x : MessageHeader). is_inline x.kind) (sym same) ∙ kind_inline m.kind m.page h.kind known in
    absurd (blob_apart h'.kind reads.2 inline)
gives sum size log blobs lid number m h (Canceled n) stands known page reads =
    let same = one_header sum size log lid number h reads.0 m.bytes reads.1 m.size n stands reads.2 in
    let inline : is_inline reads.0.kind ≡ true = ap (λ (x : MessageHeader). is_inline x.kind) (sym same) ∙ kind_inline m.kind m.page h.kind known in
    let not_so : is_inline kind.Canceled ≡ true = ap is_inline (sym reads.3) ∙ inline in cc
gives sum size log blobs lid number m h (Cap segment) stands known page reads =
    let same = one_header sum size log lid number h reads.0 m.bytes reads.1 m.size reads.2 stands reads.3 in
    let inline : is_inline reads.0.kind ≡ true = ap (λ (x : MessageHeader). is_inline x.kind) (sym same) ∙ kind_inline m.kind m.page h.kind known in
    let not_so : is_inline kind.Cap ≡ true = ap is_inline (sym reads.4) ∙ inline in cc
gives sum size log blobs lid number m h Corrupted stands known page reads = reads h m.bytes m.size stands
gives sum size log blobs lid number m h (DanglingBlob h' place n) stands known page reads =
    let same = one_header sum size log lid number h h' m.bytes reads.0 m.size n stands reads.1 in
    let inline : is_inline h'.kind ≡ true = ap (λ (x : MessageHeader). is_inline x.kind) (sym same) ∙ kind_inline m.kind m.page h.kind known in
    absurd (blob_apart h'.kind reads.2 inline)
gives sum size log blobs lid number m h (BatchManifest peg n) stands known page reads =
    let same = one_header sum size log lid number h reads.0 m.bytes reads.1 m.size n stands reads.2 in
    let inline : is_inline reads.0.kind ≡ true = ap (λ (x : MessageHeader). is_inline x.kind) (sym same) ∙ kind_inline m.kind m.page h.kind known in
    let not_so : is_inline kind.BatchManifest ≡ true = ap is_inline (sym reads.3) ∙ inline in cc
