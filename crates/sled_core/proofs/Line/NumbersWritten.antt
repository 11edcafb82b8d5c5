-- A sealed buffer of a segment is written into its slot, and synced: at each moment nothing that is the log's own has a greater number than the segment there.
use Rattle.std.proofs.Common.{◌≡◌, ◌∙◌, ◌+◌, ◌*◌, ◌/◌, ◌<◌, ◌≤◌, ◌-◌, ℕ, ℤ, suc, pos, max, true, List, [], ◌∷◌, length, take, drop, Option, None, Some, refl}
use Rattle.std.proofs.Common.{sym, ap, subst, arith, inl, inr}
use Rattle.std.specs.List.{All, slice_get}
use Rattle.std.specs.declared.io.Error.{Error as IoError}
use Rattle.std.proofs.Math.Nat.{mod-add-div'}
use Rattle.std.proofs.lemmas.Bool.{cases_order}
use Rattle.std.proofs.lemmas.List.Elements.{All-drop, All-take}
use Rattle.sled_codec.specs.History.{History}
use Rattle.sled_codec.specs.Places.{part}
use Rattle.sled_codec.specs.Record.{IsHeader}
use Rattle.sled_codec.proofs.Segments.{one_header}
use Rattle.sled_store.specs.Device.{Event, Placement, State, Synced, Wrote, step}
use Rattle.sled_store.specs.Foreign.{HeaderWasPlaced}
use Rattle.sled_store.specs.SegmentStates.{Machine}
use Rattle.sled_store.specs.inside.Script.{Along}
use Rattle.sled_store.proofs.Segments.FilledLemmas.{slot_before}
use Rattle.sled_core.specs.Begun.{SegmentView}
use Rattle.sled_core.specs.SealedBuffers.{sealed_count}
use Rattle.sled_core.specs.declared.iobuf.Reserved.{Reserved}
use Rattle.sled_core.specs.declared.iobuf.Sealed.{Sealed}
use Rattle.sled_core.specs.inside.Begun.{line_end}
use Rattle.sled_core.specs.inside.Buffers.{Stands}
use Rattle.sled_core.specs.inside.Fits.{HoldsLine}
use Rattle.sled_core.specs.inside.FreeSlots.{HasSlot, HasSlots}
use Rattle.sled_core.specs.inside.Numbers.{HasNumbers}
use Rattle.sled_core.specs.inside.OwnLog.{HasPlacedFile}
use Rattle.sled_core.specs.inside.SealedBuffers.{IsSealed, is_ready}
use Rattle.sled_core.specs.Recoverable.{NoHeaderOfZeros}
use Rattle.sled_core.specs.declared.logger.joined_marks.JoinedMarks.{JoinedMarks}
use Rattle.sled_core.proofs.Holds.Facts.{IsSegment}
use Rattle.sled_core.proofs.Line.Ends.{with_part}
use Rattle.sled_core.proofs.Line.LogWritten as written
use Rattle.sled_core.proofs.Line.PlacedWrite as placed
use Rattle.sled_core.proofs.Line.Segments.{AreSegments, nth_segment}
use Rattle.sled_core.proofs.Line.Writes.{buffer_begin, buffer_bytes, buffer_calls}
use Rattle.sled_core.proofs.OwnLog.BufferPlaces.{buffer_places}
use Rattle.sled_core.proofs.Numbers.OwnLess.{less_same, less_synced}
use Rattle.sled_core.proofs.Numbers.Stay.{numbers_less}
use Rattle.sled_core.proofs.OwnLog.SlotWritten.{numbers_written}
use Rattle.sled_core.proofs.OwnLog.WrittenOwn.{new, placed_first}
use Rattle.sled_core.proofs.Reached.BufferPath.{buffer_header}
use Rattle.sled_core.proofs.Read.FoundLemmas.{pos_injective}
use Rattle.sled_core.proofs.Reserve.Ranges.{at_there}
use Rattle.sled_core.proofs.Sealed.Covering.{part-between}
use Rattle.sled_core.proofs.Sealed.OneWritten.{sealed_at}

module _ (sum : List ℕ → ℕ) (size : ℕ) (big : 256 ≤ size) (device : State) (fault : Option IoError) (whole : fault ≡ None) (v : SegmentView) (k : ℕ)
    (b : Sealed)
    (there : slice_get v.parts.sealed k ≡ Some b) (ready : is_ready b ≡ true) (place : ℕ) (line : List SegmentView) (are : AreSegments size place line) (n : ℕ)
    (among : slice_get line n ≡ Some v) (m : Machine) (slots : HasSlots size line device.log.bytes fault m) (H : History)
    (marks : JoinedMarks) (holds : HoldsLine sum marks size device fault line H) (none : NoHeaderOfZeros sum) (own : HasPlacedFile sum size device line)
    {base : ℕ} (numbers : HasNumbers sum size base device m (line_end size line)) where
  -- where it is written, and its bytes
  abbrev slot : ℕ
  slot = v.parts.site.slot

  abbrev begin : ℕ
  begin = buffer_begin sum size big device fault whole v k b there ready

  abbrev asked : List ℕ
  asked = buffer_bytes sum size big device fault whole v k b there ready

  abbrev Any : ℕ → List ℕ → Type 0
  Any at text = Unit {0}

  abbrev AnyRecord : ℕ → ℕ → List ℕ → Type 0
  AnyRecord number at text = Unit {0}

  facts : IsSegment size v.parts.site.place v
  facts = nth_segment size place line are n v among

  has_slot : HasSlot size m v
  has_slot = at_there (HasSlot size m) line n v among slots.taken

  -- it lies in its segment
  lies : (v.parts.written_len ≤ begin) × (begin < b.end) × (b.end ≤ size)
  lies = written.lies sum size big device fault whole v k b there ready place line are n among m slots H _ holds none Any Any AnyRecord AnyRecord

  held : b.end ≤ length v.parts.bytes
  held = written.inside sum size big device fault whole v k b there ready place line are n among m slots H _ holds none Any Any AnyRecord AnyRecord

  ends : b.end ≡ begin + length asked
  ends = written.ends sum size big device fault whole v k b there ready place line are n among m slots H _ holds none Any Any AnyRecord AnyRecord

  long : max 20 begin ≤ begin + length asked
  long = written.begun sum size big device fault whole v k b there ready place line are n among m slots H _ holds none Any Any AnyRecord AnyRecord

  below : begin < size
  below = let l = lies in omega (arith, l.1, l.2)

  aligned : v.parts.site.place / size * size ≡ v.parts.site.place
  aligned = with_part sum size device fault _ line n v H holds among (λ stays kept segment.
      let begins = segment.records.place_begins in omega (arith, mod-add-div' v.parts.site.place size, begins))

  -- its reservations
  abbrev its_own : List Reserved
  its_own = take b.count (drop (sealed_count (take k v.parts.sealed)) v.parts.reserved)

  sealed_so : IsSealed begin its_own b
  sealed_so =
      sealed_at v.parts.written_len v.parts.reserved (take k v.parts.sealed) b (drop (suc k) v.parts.sealed)
      (written.are_split sum size big device fault whole v k b there ready place line are n among m slots H _ holds none Any Any AnyRecord AnyRecord)

  its_stand : All (Stands sum size (v.parts.site.place / size) v.parts.bytes) its_own
  its_stand = with_part sum size device fault _ line n v H holds among (λ stays kept segment.
      All-take (Stands sum size (v.parts.site.place / size) v.parts.bytes) b.count (drop (sealed_count (take k v.parts.sealed)) v.parts.reserved)
      (All-drop (Stands sum size (v.parts.site.place / size) v.parts.bytes) (sealed_count (take k v.parts.sealed)) v.parts.reserved segment.records.stand))

  -- it begins with its segment's header there where the segment does
  head_is : begin ≡ 0 → (text : List ℕ) → take 20 asked ≡ text → (p : ℕ) (mark : ℤ) → IsHeader sum text (pos p) mark → p ≡ v.parts.site.place
  head_is at_first text is p mark header = with_part sum size device fault _ line n v H holds among (λ stays kept segment.
      let l = lies in
      let up = long in
      let end = ends in
      let its_mark = segment.records.header (omega (arith, l.0, at_first)) in
      let small = facts.place_small in
      let its = buffer_header sum v.parts.site v.parts.bytes _ its_mark (omega (arith, small, big)) in
      let from : begin - begin ≡ 0 = omega arith in
      let same : take 20 asked ≡ take 20 v.parts.bytes =
      ap (λ i. part asked i 20) (sym from) ∙ part-between v.parts.bytes begin b.end begin 20 (omega arith) (omega (arith, up, end))
      ∙ ap (λ i. part v.parts.bytes i 20) at_first in
      pos_injective p v.parts.site.place
      (one_header sum text (pos p) mark (pos v.parts.site.place) its_mark.mark header
      (subst (λ (t : List ℕ). IsHeader sum t (pos v.parts.site.place) its_mark.mark) (sym same ∙ is) its)).0)

  module _ (now : List ℕ) where
    abbrev its_write : Placement
    its_write = new sum size device (slot + begin) asked now

    headers_placed : (j p : ℕ) (mark : ℤ) (text : List ℕ) → IsHeader sum text (pos p) mark → HeaderWasPlaced (its_write ∷ []) (j * size) text
        → (j ≡ has_slot.number) × (p ≡ v.parts.site.place)
    headers_placed j p mark text header laid =
        let number : ℕ = has_slot.number in
        let lies_there = has_slot.lies in
        let its = placed_first its_write (j * size) text laid in
        let low = below in
        let here : j ≡ number = elim (cases_order j number) [
          | inl is ↦ is
          | inr (inl lower) ↦ absurd (let far = slot_before size j number lower in omega (arith, far, lies_there, its.0, big))
          | inr (inr higher) ↦ absurd (let far = slot_before size number j higher in omega (arith, far, lies_there, its.0, low))
        ] in
        let at_first : begin ≡ 0 = (let rows = ap (λ i. i * size) here in omega (arith, its.0, lies_there, rows)) in
        (here, head_is at_first text its.1 p mark header)

    -- Behind the write it is so still,
    numbers_behind_write : HasNumbers sum size base (step (Wrote (slot + begin) asked now) device) m (line_end size line)
    numbers_behind_write =
        let l = lies in
        let end = ends in
        let lies_there = has_slot.lies in
        let place_is = has_slot.is in
        let last = slots.own.below has_slot.number has_slot.taken in
        numbers_written sum size device m (line_end size line) numbers slots.own (omega (arith, big))
        (slot + begin) asked now has_slot.number v.parts.site.place has_slot.taken has_slot.is
        (omega (arith, place_is, last, big)) aligned (omega (arith, lies_there)) (omega (arith, lies_there, end, l.2))
        (λ number lid text laid kind page body rec.
        (buffer_places sum size v.parts.site
        (placed.aligned sum size big device fault whole v k b there ready place line are n among m slots H _ holds none own) facts.place_small
        v.parts.bytes begin b.end l.2 held below
        (placed.begins sum size big device fault whole v k b there ready place line are n among m slots H _ holds none own)
        its_own sealed_so.chain its_stand its_write refl refl number lid text laid kind page body rec).0)
        headers_placed

  abbrev Numbered : State → Type 0
  Numbered s = HasNumbers sum size base s m (line_end size line)

  -- So it is of each device on which the same was placed.
  module _ (real : State) (same : real.placed ≡ device.placed) where
    numbers_real : (now : List ℕ) → Numbered (step (Wrote (slot + begin) asked now) real)
    numbers_real now =
        let mid : State = step (Wrote (slot + begin) asked now) device in
        let its : State = step (Wrote (slot + begin) asked now) real in
        numbers_less sum size its mid (less_same sum size its mid (ap (λ (ps : List Placement). its_write now ∷ ps) same)) m (line_end size line)
        (numbers_behind_write now)

    -- and behind the sync,
    pub numbers_behind : Numbered (step Synced (step (Wrote (slot + begin) asked asked) real))
    numbers_behind =
        let mid : State = step (Wrote (slot + begin) asked asked) real in
        numbers_less sum size (step Synced mid) mid (less_synced sum size mid) m (line_end size line) (numbers_real asked)

    -- and at each moment of the calls.
    pub numbers_along : Along Numbered (buffer_calls sum size big device fault whole v k b there ready) real
    numbers_along = (
      numbers_less sum size real device (less_same sum size real device same) m (line_end size line) numbers,
      λ torn tears. subst (λ (e : Event). Numbered (step e real)) (sym tears.2) (numbers_real tears.0),
      (numbers_real asked, λ torn tears. absurd tears, numbers_behind),
    )
