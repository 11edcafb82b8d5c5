-- What is met in a segment is of a kind that is known.
use Rattle.std.proofs.Common.{◌≡◌, ◌∙◌, ◌+◌, ◌/◌, ℕ, true, List, [], ◌∷◌, sym, subst}
use Rattle.std.specs.List.{All}
use Rattle.std.proofs.lemmas.List.Elements.{All-cons, All-nil}
use Rattle.sled_codec.specs.declared.serialization.message.MessageHeader.{MessageHeader}
use Rattle.sled_codec.specs.declared.serialization.message.MessageKind.{MessageKind}
use Rattle.sled_codec.specs.declared.serialization.message.MessageKind.TheVariants.{Corrupted}
use Rattle.sled_core.specs.declared.iterator.scan.ScannedRecord.{ScannedRecord}
use Rattle.sled_core.specs.declared.iterator.scan.RecordContent.{RecordContent}
use Rattle.sled_core.specs.declared.iterator.scan.RecordContent.TheVariants.{Gives, NamesBlob, Skipped, BatchStart}
use Rattle.sled_core.specs.declared.iterator.scan.ScanEnd.{ScanEnd}
use Rattle.sled_core.specs.Reading.{is_blob}
use Rattle.sled_core.specs.Replayed.{NamesKind}
use Rattle.sled_core.specs.Scan.{IsMet, IsPath, IsScan, Says}

module _ (sum : List ℕ → ℕ) (size : ℕ) (log : List ℕ) (slot place : ℕ) where
  says_kind : (h : MessageHeader) (body : List ℕ) (lid : ℕ) (what : RecordContent) → Says h body lid what → NamesKind what
  says_kind h body lid (Gives kind page pointer) says = tt
  says_kind h body lid (NamesBlob kind page at p) says = λ is.
      let no : is_blob Corrupted ≡ true = subst (λ (k : MessageKind). is_blob k ≡ true) (sym says.0 ∙ is) says.3 in
      cc
  says_kind h body lid Skipped says = tt
  says_kind h body lid (BatchStart peg) says = tt

  met_kind : (lid number : ℕ) (m : ScannedRecord) → IsMet sum size log lid number m → NamesKind m.what
  unfolding IsMet
  met_kind lid number m met = says_kind met.0 met.1 lid m.what met.3

  pub path_kinds : (at : ℕ) (ms : List ScannedRecord) (next : ℕ) → IsPath sum size log slot place at ms next → All (λ m. NamesKind m.what) ms
  path_kinds at [] next path = All-nil (λ (r : ScannedRecord). NamesKind r.what)
  path_kinds at (m ∷ ms) next path =
      All-cons (λ (r : ScannedRecord). NamesKind r.what) m ms (met_kind (slot + at) (place / size) m path.2) (path_kinds (at + m.len) ms next path.3)

  pub scan_kinds : (ms : List ScannedRecord) (stop : ℕ) (why : ScanEnd) → IsScan sum size log slot place ms stop why → All (λ m. NamesKind m.what) ms
  unfolding IsScan
  scan_kinds ms stop why scan = path_kinds 20 ms stop scan.0
