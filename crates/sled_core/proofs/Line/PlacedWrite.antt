-- All slots of a log are own, by what was placed, once a sealed buffer of one of its segments is written and synced.
use Rattle.std.proofs.Common.{◌≡◌, ◌⊎◌, ◌≤◌, ◌<◌, ◌+◌, ◌/◌, ◌%◌, arith, inl, inr, sym, subst, ℕ, zero, suc, max, true, List, [], ◌∷◌, length, set, take, drop, Option, None, Some}
use Rattle.std.specs.List.{slice_get}
use Rattle.std.specs.declared.io.Error.{Error as IoError}
use Rattle.std.proofs.lemmas.Bool.{cases_lt}
use Rattle.sled_codec.specs.History.{History}
use Rattle.sled_codec.specs.Places.{part}
use Rattle.sled_store.specs.Device.{Placement, State, Trace, at_rest, overwritten, state_of}
use Rattle.sled_store.specs.Foreign.{HeaderWasPlaced, RecordWasPlaced}
use Rattle.sled_store.specs.SegmentStates.{Machine}
use Rattle.sled_store.proofs.Crashes.StoodLemmas.{header_settled, record_settled}
use Rattle.sled_core.specs.Begun.{SegmentView}
use Rattle.sled_core.specs.declared.iobuf.Reserved.{Reserved}
use Rattle.sled_core.specs.declared.iobuf.Sealed.{Sealed}
use Rattle.sled_core.specs.inside.Fits.{HoldsLine}
use Rattle.sled_core.specs.inside.FreeSlots.{HasSlots}
use Rattle.sled_core.specs.inside.OwnLog.{HasPlacedFile, IsOwnFile, IsOwnSegment}
use Rattle.sled_core.specs.Recoverable.{NoHeaderOfZeros}
use Rattle.sled_core.specs.inside.SealedBuffers.{AreSealed, is_ready}
use Rattle.sled_core.specs.SealedBuffers.{sealed_end}
use Rattle.sled_core.specs.declared.logger.joined_marks.JoinedMarks.{JoinedMarks}
use Rattle.sled_core.specs.inside.Turned.{promoted, written_now}
use Rattle.sled_core.proofs.Line.Ends.{with_part}
use Rattle.sled_core.proofs.Line.Segments.{AreSegments, nth_segment}
use Rattle.sled_core.proofs.Line.WrittenHides.{text_written}
use Rattle.sled_core.proofs.Line.Writes.{buffer_begin, buffer_bytes}
use Rattle.sled_core.proofs.Line.LogWritten.{begun, fits, own_left, some_bytes, twenty}
use Rattle.sled_core.proofs.Numbers.Stood.{header_stood, record_stood}
use Rattle.sled_core.proofs.OwnLog.Kept.{HeadersStay, RecordsStay}
use Rattle.sled_core.proofs.OwnLog.Placed.{asked_now, header_among, header_laid, record_among, record_laid, stands_long, synced}
use Rattle.sled_core.proofs.Reserve.Ranges.{at_there, chain_grows}

-- a buffer begins with the header of its segment, or behind it
pub begins_so : (from : ℕ) (rs : List Reserved) (bs : List Sealed) → AreSealed from rs bs → (from ≡ 0) ⊎ (20 ≤ from) → (k : ℕ) → (sealed_end from (take k bs) ≡ 0) ⊎ (20 ≤ sealed_end from (take k bs))
begins_so from rs bs are low zero = low
begins_so from rs [] are low (suc k) = low
begins_so from rs (b ∷ bs) are low (suc k) = begins_so b.end (drop b.count rs) bs are.1 (inr (let up = chain_grows (max 20 from) b.end (take b.count rs) are.0.chain in omega (arith, up))) k

module _ (sum : List ℕ → ℕ) (size : ℕ) (big : 256 ≤ size) (device : State) (fault : Option IoError) (whole : fault ≡ None) (v : SegmentView) (k : ℕ) (b : Sealed) (there : slice_get v.parts.sealed k ≡ Some b) (ready : is_ready b ≡ true)
    (place : ℕ) (line : List SegmentView) (are : AreSegments size place line) (n : ℕ) (among : slice_get line n ≡ Some v) (m : Machine) (slots : HasSlots size line device.log.bytes fault m) (H : History) (marks : JoinedMarks) (holds : HoldsLine sum marks size device fault line H)
    (none : NoHeaderOfZeros sum) (own : HasPlacedFile sum size device line) where
  -- where it is written, and its bytes
  abbrev pub slot : ℕ
  slot = v.parts.site.slot

  abbrev pub begin : ℕ
  begin = buffer_begin sum size big device fault whole v k b there ready

  abbrev pub asked : List ℕ
  asked = buffer_bytes sum size big device fault whole v k b there ready

  abbrev Header : ℕ → List ℕ → Type 0
  Header = HeaderWasPlaced device.placed

  abbrev Own : ℕ → ℕ → List ℕ → Type 0
  Own = RecordWasPlaced sum size device.placed

  pub some : 0 < length asked
  some = some_bytes sum size big device fault whole v k b there ready place line are n among m slots H _ holds none Header Header Own Own

  big_enough : 20 ≤ size
  big_enough = twenty sum size big device fault whole v k b there ready place line are n among m slots H _ holds none Header Header Own Own

  pub inside : begin + length asked ≤ size
  inside = fits sum size big device fault whole v k b there ready place line are n among m slots H _ holds none Header Header Own Own

  -- it has bytes behind a header
  long : max 20 begin ≤ begin + length asked
  long = begun sum size big device fault whole v k b there ready place line are n among m slots H _ holds none Header Header Own Own

  -- What is written of the segment ends behind its header.
  pub written_so : (v.parts.written_len ≡ 0) ⊎ (20 ≤ v.parts.written_len)
  written_so = elim (cases_lt 0 v.parts.written_len) [
    | inl more ↦ (
        let its : IsOwnSegment sum size Header Own device.log.bytes v.parts.site v.parts.written_len v.parts.sealed =
        at_there (λ (u : SegmentView). IsOwnSegment sum size Header Own device.log.bytes u.parts.site u.parts.written_len u.parts.sealed) line n v among own.segments in
        let low = (its.front more).rises in
        inr (omega (arith, low)))
    | inr zero_long ↦ inl (omega (arith, zero_long))
  ]

  pub begins : (begin ≡ 0) ⊎ (20 ≤ begin)
  begins = let facts = nth_segment size place line are n v among in begins_so v.parts.written_len v.parts.reserved v.parts.sealed facts.are written_so k

  pub aligned : slot % size ≡ 0
  aligned = with_part sum size device fault _ line n v H holds among (λ stays its segment. segment.records.slot_begins)

  -- Another device is at rest, on which the same was placed, and the same is written on that, and synced: what is own here, by what was placed, is so by
  -- what was placed there. (A log shows the one for the other. What was placed stands in the file of that, whatever is shown of it.)
  module _ (t : Trace) (rests : (state_of t).log ≡ at_rest (state_of t).log.bytes) (same : device.placed ≡ (state_of t).placed)
      (alike : length device.log.bytes ≡ length (state_of t).log.bytes) where
    abbrev real : State
    real = state_of t

    abbrev at : ℕ
    at = slot + begin

    abbrev pub behind : State
    behind = synced sum size real at asked

    abbrev Header' : ℕ → List ℕ → Type 0
    Header' = HeaderWasPlaced behind.placed

    abbrev Own' : ℕ → ℕ → List ℕ → Type 0
    Own' = RecordWasPlaced sum size behind.placed

    -- what stood there, and stands here behind the write, stands there behind it
    stays : (lid n : ℕ) (text : List ℕ) → part real.log.bytes lid (length text) ≡ text → part (overwritten device.log.bytes at asked) lid n ≡ text
        → part (overwritten real.log.bytes at asked) lid (length text) ≡ text
    stays lid n text was now =
        text_written real.log.bytes device.log.bytes (sym alike) at asked some lid text was (stands_long sum size device at asked lid n text now)

    headers : HeadersStay sum size Header Header' Own Own' device.log.bytes at asked some big_enough
    headers lid text now laid =
        let there : HeaderWasPlaced real.placed lid text = subst (λ (ps : List Placement). HeaderWasPlaced ps lid text) same laid in
        header_settled (overwritten real.log.bytes at asked) (asked_now at asked ∷ real.placed) lid text (header_among sum size real at asked lid text there)
        (stays lid 20 text (header_stood sum size t real.log.bytes rests lid text there) now)

    records : RecordsStay sum size Header Header' Own Own' device.log.bytes at asked some big_enough
    records number lid len text now laid =
        let there : RecordWasPlaced sum size real.placed number lid text =
        subst (λ (ps : List Placement). RecordWasPlaced sum size ps number lid text) same laid in
        record_settled sum size (overwritten real.log.bytes at asked) (asked_now at asked ∷ real.placed) number lid text
        (record_among sum size real at asked number lid text there)
        (stays lid len text (record_stood sum size t real.log.bytes rests number lid text there) now)

    pub placed_left : IsOwnFile sum size Header' Own' (overwritten device.log.bytes at asked) (promoted size (set line n (written_now k v)))
    placed_left =
        let up = long in
        own_left sum size big device fault whole v k b there ready place line are n among m slots H _ holds none Header Header' Own Own' headers records
        (λ zero_begin. header_laid sum size real slot begin asked some inside (omega (arith, up, zero_begin)) zero_begin)
        (λ from len r high.
        record_laid sum size device slot begin asked some inside (v.parts.site.place / size) from len aligned
        (let room = inside in let more = some in omega (arith, room, more)) begins r high real same)
        own
