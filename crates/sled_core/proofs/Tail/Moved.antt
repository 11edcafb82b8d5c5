-- What stands in one file stands in another one with the same bytes: records of messages, and what is met. In one slot one segment begins.
use Rattle.std.proofs.Common.{⊎_elim, ◌≡◌, ◌∙◌, ◌+◌, ◌*◌, ◌/◌, ◌%◌, ◌≤◌, ℕ, pos, List, length, sym, subst, arith, inl, inr}
use Rattle.std.proofs.Math.Nat.{mod-add-div'}
use Rattle.sled_codec.specs.declared.serialization.message.MessageHeader.{MessageHeader}
use Rattle.sled_codec.specs.declared.result.DiskPtr.TheVariants.{Inline}
use Rattle.sled_codec.specs.History.{Message, History}
use Rattle.sled_codec.specs.Places.{part}
use Rattle.sled_codec.specs.Record.{IsHeader}
use Rattle.sled_codec.proofs.Segments.{one_header}
use Rattle.sled_core.specs.declared.iterator.Segment.{Segment}
use Rattle.sled_core.specs.declared.iterator.scan.ScannedRecord.{ScannedRecord}
use Rattle.sled_core.specs.declared.iterator.scan.RecordContent.TheVariants.{Gives}
use Rattle.sled_core.specs.LogFile.{MessageStands}
use Rattle.sled_core.specs.inside.Recoverable.{StandsInline, MeetsMessage, IsOfHistory}
use Rattle.sled_core.specs.Scan.{Says, IsMet}
use Rattle.sled_core.specs.inside.Scan.{IsFoundSegment}
use Rattle.sled_core.proofs.Tail.LogFileLemmas.{record_moved}
use Rattle.sled_core.proofs.Read.FoundLemmas.{pos_injective}

-- A slot begins at a multiple of the size.
pub slot_index : (size slot : ℕ) → slot % size ≡ 0 → slot ≡ slot / size * size
slot_index size slot aligned = omega (arith, mod-add-div' slot size, aligned)

-- The record of a message stands where its bytes are the same.
pub message_moved : (sum : List ℕ → ℕ) (size : ℕ) (old left : List ℕ) (lid number : ℕ) (m : Message) → part left lid m.size ≡ part old lid m.size → lid + m.size ≤ length left → MessageStands sum size old lid number m → MessageStands sum size left lid number m
message_moved sum size old left lid number m alike there s = record {
  header = s.header;
  stands = record_moved sum size old left lid number s.header m.bytes m.size alike there s.stands;
  known = s.known;
  short = alike ∙ s.short;
  page = s.page;
}

-- In one slot one segment begins.
pub one_in_slot : (sum : List ℕ → ℕ) (size : ℕ) (log : List ℕ) (least low : ℕ) (s t : Segment) → IsFoundSegment sum size log least s → IsFoundSegment sum size log low t → s.slot ≡ t.slot → s.place ≡ t.place
one_in_slot sum size log least low s t a b slots =
    let here = subst (λ n. IsHeader sum (part log n 20) (pos s.place) s.mark) slots a.header in
    pos_injective s.place t.place (one_header sum (part log t.slot 20) (pos s.place) s.mark (pos t.place) t.mark here b.header).0

-- What is met where the bytes are the same is of the history as before.
module _ (sum : List ℕ → ℕ) (size : ℕ) (old left : List ℕ) (H : History) (lid number : ℕ) (x : ScannedRecord) (alike : part old lid x.len ≡ part left lid x.len) (there : lid + x.len ≤ length left) where
  message_left : (h : MessageHeader) (body : List ℕ) → Says h body lid x.what → (m : Message) → MeetsMessage x m → StandsInline sum size old m m.pointer → StandsInline sum size left m m.pointer
  message_left h body says m meets stands = ⊎_elim
      (λ gives.
      let said : Says h body lid (Gives m.kind m.page m.pointer) = subst (Says h body lid) gives says in
      let pointer : m.pointer ≡ Inline lid = said.3 in
      let long = meets.len in
      let before : MessageStands sum size old lid (m.place / size) m = subst (StandsInline sum size old m) pointer stands in
      let same_bytes : part left lid m.size ≡ part old lid m.size = subst (λ n. part left lid n ≡ part old lid n) long (sym alike) in
      subst (StandsInline sum size left m) (sym pointer) (message_moved sum size old left lid (m.place / size) m same_bytes (omega (arith, long, there)) before))
      (λ names. subst (StandsInline sum size left m) (sym names.3) tt)
      meets.what

  pub of_left : IsMet sum size left lid number x → IsOfHistory sum size old H x → IsOfHistory sum size left H x
  unfolding IsMet
  of_left met (inl (m, known, meets, stands, message, batch)) = inl (m, known, meets, message_left met.0 met.1 met.3 m meets stands, message, batch)
  of_left met (inr (inl (b, known, place, what, message, batch))) = inr (inl (b, known, place, what, message, batch))
  of_left met (inr (inr (what, message, batch))) = inr (inr (what, message, batch))
