-- A sealed buffer of a log is written: the slots that are older than its segments are whole, also those of the segments that have gone.
use Rattle.std.proofs.Common.{◌≡◌, ◌⊎◌, ◌∙◌, ◌+◌, ◌-◌, ◌*◌, ◌/◌, ◌%◌, ◌≤◌, ◌<◌, ap, sym, refl, subst, arith, inl, inr, ℕ, ℤ, zero, suc, pos, true, false, List, [], ◌∷◌, length, take, drop, set, Option, None, Some}
use Rattle.std.specs.List.{All, slice_get}
use Rattle.std.specs.declared.io.Error.{Error as IoError}
use Rattle.std.proofs.lemmas.Bool.{cases_lt, cases_order}
use Rattle.std.proofs.lemmas.List.Elements.{All-head, All-set, All-tail}
use Rattle.sled_codec.specs.History.{History, Message}
use Rattle.sled_codec.specs.Places.{part}
use Rattle.sled_codec.specs.Record.{IsHeader}
use Rattle.sled_codec.specs.Snapshots.{SnapshotModel}
use Rattle.sled_store.specs.Device.{LogState, State, overwritten}
use Rattle.sled_store.specs.SegmentStates.{Machine, is_free, slot_at}
use Rattle.sled_store.specs.SnapshotFiles.{BeginsFrom}
use Rattle.sled_store.proofs.Histories.Ascending.{apart_ascends}
use Rattle.sled_store.proofs.LogFile.LogLemmas.{part_written}
use Rattle.sled_store.proofs.Segments.FilledLemmas.{slot_before}
use Rattle.sled_core.specs.Begun.{SegmentView}
use Rattle.sled_core.specs.inside.Begun.{first_place, line_end}
use Rattle.sled_core.specs.declared.iobuf.Sealed.{Sealed}
use Rattle.sled_core.specs.inside.Fits.{HoldsLine}
use Rattle.sled_core.specs.inside.FreeSlots.{HasSlot, HasSlots, HaveOwn}
use Rattle.sled_core.specs.LogFile.{HasHeader}
use Rattle.sled_core.specs.Logged.{logged}
use Rattle.sled_core.specs.OpenBatches.{stable_below}
use Rattle.sled_core.specs.Recoverable.{NoHeaderOfZeros}
use Rattle.sled_core.specs.declared.logger.joined_marks.JoinedMarks.{JoinedMarks}
use Rattle.sled_core.specs.inside.Running.{FitsLine}
use Rattle.sled_core.specs.inside.SealedBuffers.{is_ready}
use Rattle.sled_core.specs.inside.Slots.{AreWhole, IsWholeSegment}
use Rattle.sled_core.specs.inside.Turned.{promoted, written_now}
use Rattle.sled_core.proofs.Holds.Facts.{IsSegment}
use Rattle.sled_core.proofs.Holds.WholeHistory.{whole_apart}
use Rattle.sled_core.proofs.Line.Ends.{line_holds, with_part}
use Rattle.sled_core.proofs.Line.LineEnds.{first_set}
use Rattle.sled_core.proofs.Line.OlderSlots.{held_low}
use Rattle.sled_core.proofs.Line.Segments.{AreSegments, by_front, first_below, nth_segment, segments_promoted, set_segment, written_segment}
use Rattle.sled_core.proofs.Line.Writes.{buffer_begin, buffer_bytes, buffer_synced, holds_write, rises}
use Rattle.sled_core.proofs.Reached.WholeSegments.{whole_before, whole_kept}
use Rattle.sled_core.proofs.Reserve.Ranges.{at_there}
use Rattle.sled_core.proofs.Sealed.OneWritten.{length-between}
use Rattle.sled_core.proofs.Sealed.Slices.{end_to, span_within}
use Rattle.sled_core.proofs.Tail.Multiples.{apart, lower_multiple}
use Rattle.sled_core.specs.inside.LogSegments.{held_since}

module _ (sum : List ℕ → ℕ) (size : ℕ) where
  -- A segment that is written has its header in the file.
  pub headers_line : (marks : JoinedMarks) (device : State) (fault : Option IoError) → fault ≡ None → (line : List SegmentView) (n : ℕ) (v : SegmentView) (H : History) → HoldsLine sum marks size device fault line H
      → slice_get line n ≡ Some v → 0 < v.parts.written_len → HasHeader sum device.log.bytes v.parts.site
  headers_line marks device fault whole line n v H holds there some = with_part sum size device fault _ line n v H holds there (λ stays own segment.
      let on = segment.written whole in
      subst (λ (l : List ℕ). HasHeader sum l v.parts.site) (sym (ap (λ (l : LogState). l.bytes) on.settled)) (on.file.header some))

  -- Segments one behind another, each in its slot: those that are written have their headers, and so have those from a place on that were before them.
  record AreHeaded (log : List ℕ) (m : Machine) (from : ℕ) (l : List SegmentView) : Type 0 where
    place : ℕ
    are : AreSegments size place l
    slots : All (HasSlot size m) l
    headers : (n : ℕ) (v : SegmentView) → slice_get l n ≡ Some v → 0 < v.parts.written_len → HasHeader sum log v.parts.site
    gone : (k : ℕ) → is_free (slot_at m k).state ≡ false → from ≤ (slot_at m k).lsn → (slot_at m k).lsn + size ≤ first_place l
        → (mark : ℤ) × IsHeader sum (part log (k * size) 20) (pos (slot_at m k).lsn) mark

  -- Those at the front have gone that are wholly written: their headers stand.
  gone_headed : 256 ≤ size → (log : List ℕ) (m : Machine) (end : ℕ) → HaveOwn size end m → (place : ℕ) (line : List SegmentView) → AreSegments size place line
      → All (HasSlot size m) line → ((n : ℕ) (v : SegmentView) → slice_get line n ≡ Some v → 0 < v.parts.written_len → HasHeader sum log v.parts.site)
      → AreHeaded log m (first_place line) (promoted size line)
  gone_headed big log m end own place line are slots headers =
      by_front size (AreHeaded log m (first_place line)) step line (record {
        place = place;
        are = are;
        slots = slots;
        headers = headers;
        gone = λ k taken low ends. absurd (omega (arith, low, ends, big));
      })
    where
      step : (v w : SegmentView) (ws : List SegmentView) → v.parts.written_len ≡ size → AreHeaded log m (first_place line) (v ∷ w ∷ ws)
          → AreHeaded log m (first_place line) (w ∷ ws)
      step v w ws full has = record {
        place = has.place + size;
        are = has.are.1;
        slots = All-tail (HasSlot size m) v (w ∷ ws) has.slots;
        headers = λ n x there. has.headers (suc n) x there;
        gone = λ k taken low ends.
            let first = All-head (HasSlot size m) v (w ∷ ws) has.slots in
            let at = has.are.0.at in
            let next = has.are.1.0.at in
            let place_is = first.is in
            let whole : v.parts.site.place % size ≡ 0 = ap (λ n. n % size) (sym place_is) ∙ own.aligned first.number first.taken in
            elim (cases_order (slot_at m k).lsn v.parts.site.place) [
              | inl same ↦ (
                  let number : k ≡ first.number = own.one k first.number taken first.taken (same ∙ sym place_is) in
                  let slot : v.parts.site.slot ≡ k * size = first.lies ∙ ap (λ n. n * size) (sym number) in
                  let header = has.headers zero v refl (omega (arith, full, big)) in
                  let at_place = subst (λ p. IsHeader sum (part log v.parts.site.slot 20) (pos p) header.mark) (sym same) header.header in
                  (header.mark, subst (λ l. IsHeader sum (part log l 20) (pos (slot_at m k).lsn) header.mark) slot at_place))
              | inr (inl lower) ↦ has.gone k taken low (apart size (omega (arith, big)) (slot_at m k).lsn v.parts.site.place (own.aligned k taken) whole lower)
              | inr (inr over) ↦ absurd (
                  let far = apart size (omega (arith, big)) v.parts.site.place (slot_at m k).lsn whole (own.aligned k taken) over in
                  omega (arith, far, ends, at, next, big))
            ];
      }

  -- A segment is written to: the older ones are whole still.
  whole_beside : (log : List ℕ) (H : History) (m : Machine) (place : ℕ) (line : List SegmentView) → AreSegments size place line
      → (n : ℕ) (v : SegmentView) → slice_get line n ≡ Some v → All (HasSlot size m) line
      → (at : ℕ) (xs : List ℕ) → v.parts.site.slot ≤ at → at + length xs ≤ v.parts.site.slot + size → 20 ≤ size
      → AreWhole sum size log H (first_place line) m → AreWhole sum size (overwritten log at xs) H (first_place line) m
  whole_beside log H m place line are n v there slots at xs low high long whole k taken older =
      whole_kept sum size log (overwritten log at xs) (k * size) long bytes H (slot_at m k).lsn (whole k taken older)
    where
      bytes : (lid len : ℕ) → k * size ≤ lid → lid + len ≤ k * size + size → lid + len ≤ length log → part (overwritten log at xs) lid len ≡ part log lid len
      bytes lid len begins ends inside =
          let own : HasSlot size m v = at_there (HasSlot size m) line n v there slots in
          let place_is = own.is in
          let up = first_below size place line are n v there in
          let lies = own.lies in
          let count : lid + len - lid ≡ len = omega arith in
          let beside : (lid + len ≤ at) ⊎ (at + length xs ≤ lid) = elim (cases_order k own.number) [
            | inl same ↦ absurd (let here = ap (λ j. (slot_at m j).lsn) same in omega (arith, here, place_is, up, older, long))
            | inr (inl lower) ↦ inl (let before = slot_before size k own.number lower in omega (arith, before, lies, low, ends))
            | inr (inr higher) ↦ inr (let before = slot_before size own.number k higher in omega (arith, before, lies, high, begins))
          ] in
          ap (λ c. take c (drop lid (overwritten log at xs))) (sym count)
          ∙ part_written log at xs lid (lid + len) inside beside
          ∙ ap (λ c. take c (drop lid log)) count

  -- The first one begins where a segment can.
  pub first_begins : (marks : JoinedMarks) (device : State) (fault : Option IoError) (line : List SegmentView) (H : History) → HoldsLine sum marks size device fault line H
      → first_place line % size ≡ 0
  first_begins marks device fault [] H holds = absurd holds
  first_begins marks device fault (v ∷ vs) H holds = holds.own.records.place_begins

  -- What lies before the first segment of a line that fits a history is whole, where its header stands and all is held there.
  whole_before_line : (marks : JoinedMarks) → 256 ≤ size → NoHeaderOfZeros sum → (device : State) (line : List SegmentView) (reach pins : ℕ) (H : History) (A f : ℕ) (U : List Message)
      → FitsLine sum marks size device None line reach pins H A f U → (place : ℕ) → AreSegments size place line
      → (low z : ℕ) → ((first : SnapshotModel) → BeginsFrom sum device.snapshots.file first → held_since size marks first / size * size ≤ low) → low ≤ z → z % size ≡ 0
      → z + size ≤ first_place line → (k : ℕ) (mark : ℤ) → IsHeader sum (part device.log.bytes (k * size) 20) (pos z) mark → IsWholeSegment sum size device.log.bytes (logged H) (k * size) z
  whole_before_line marks big zeros device [] reach pins H A f U fits place are low z least above aligned ends k mark header = absurd fits
  whole_before_line marks big zeros device (v ∷ vs) reach pins H A f U fits place are low z least above aligned ends k mark header =
      let among = fits.among refl zeros in
      let first : SnapshotModel = fits.holds.begun.first in
      let lie = whole_apart sum size v.parts.site device None v.parts.bytes v.parts.written_len v.parts.sealed v.parts.reserved (logged H) fits.holds are.0.short in
      let held = lower_multiple size big among.stands.from (held_since size marks first) among.low in
      let down = least first fits.holds.begun.begins in
      whole_before sum size device.log.bytes big (logged H) (apart_ascends (logged H).messages lie) (stable_below reach H.batches) first reach among.stands z aligned
      (omega (arith, held, down, above)) v.parts.site.place among.led ends k mark header

-- A sealed buffer of one of the segments.
module _ (sum : List ℕ → ℕ) (size : ℕ) (big : 256 ≤ size) (device : State) (fault : Option IoError) (whole : fault ≡ None) (v : SegmentView) (k : ℕ) (b : Sealed) (there : slice_get v.parts.sealed k ≡ Some b) (ready : is_ready b ≡ true) where
  abbrev now : SegmentView
  now = written_now k v

  abbrev synced : State
  synced = buffer_synced sum size big device fault whole v k b there ready

  abbrev begin : ℕ
  begin = buffer_begin sum size big device fault whole v k b there ready

  module _ (place : ℕ) (line : List SegmentView) (are : AreSegments size place line) (n : ℕ) (among : slice_get line n ≡ Some v) (m : Machine)
      (slots : HasSlots size line device.log.bytes fault m) where
    abbrev written : List SegmentView
    written = set line n now

    written_are : AreSegments size place written
    written_are = set_segment size place line are n v now among (λ p here. written_segment k v b there ready size p here)

    same_first : first_place written ≡ first_place line
    same_first = first_set line n v now among refl

    -- The older ones are whole behind it,
    older_whole : (H : History) → AreWhole sum size device.log.bytes H (first_place line) m → AreWhole sum size synced.log.bytes H (first_place line) m
    older_whole H older =
        let is : IsSegment size v.parts.site.place v = nth_segment size place line are n v among in
        let short = is.short in
        let span = span_within v.parts.written_len v.parts.sealed k (length v.parts.bytes) (rises sum size big device fault whole v k b there ready v.parts.site.place is) in
        let end = end_to v.parts.written_len v.parts.sealed k b there in
        let long = length-between v.parts.bytes begin b.end (omega (arith, span.1, end)) in
        whole_beside sum size device.log.bytes H m place line are n v among slots.taken (v.parts.site.slot + begin)
        (buffer_bytes sum size big device fault whole v k b there ready) (omega arith) (omega (arith, long, span.0, span.1, end, short)) (omega (arith, big)) older

    -- and those that have gone have their headers.
    headed : (marks : JoinedMarks) (H : History) → HoldsLine sum marks size device fault line H → AreHeaded sum size synced.log.bytes m (first_place written) (promoted size written)
    headed marks H holds =
        let own : HasSlot size m v = at_there (HasSlot size m) line n v among slots.taken in
        let later = holds_write sum size big device fault whole v k b there ready _ place line are n among H holds in
        gone_headed sum size big synced.log.bytes m (line_end size line) slots.own place written written_are
        (All-set (HasSlot size m) line n now (record { number = own.number; lies = own.lies; taken = own.taken; is = own.is }) slots.taken)
        (λ j x at some. headers_line sum size _ synced fault whole written j x H later at some)

    -- It is written, and synced: so both are whole.
    pub whole_write : (marks : JoinedMarks) (reach up_to pins : ℕ) (H : History) (A f : ℕ) (U : List Message) → FitsLine sum marks size device fault line reach pins H A f U
        → FitsLine sum marks size synced None (promoted size written) up_to pins H A f U → NoHeaderOfZeros sum
        → AreWhole sum size device.log.bytes (logged H) (first_place line) m
        → AreWhole sum size synced.log.bytes (logged H) (first_place (promoted size written)) m
    whole_write marks reach up_to pins H A f U fits after zeros older j taken ends =
        let holds = line_holds sum size device fault _ line reach pins H A f U fits in
        let aligned = slots.own.aligned j taken in
        elim (cases_lt (slot_at m j).lsn (first_place line)) [
          | inl lower ↦ (
              let begins = first_begins sum size _ device fault line (logged H) holds in
              older_whole (logged H) older j taken (apart size (omega (arith, big)) (slot_at m j).lsn (first_place line) aligned begins lower))
          | inr above ↦ (
              let header = (headed _ (logged H) holds).gone j taken (omega (arith, above, same_first)) ends in
              let left = segments_promoted size place written written_are in
              whole_before_line sum size marks big zeros synced (promoted size written) up_to pins H A f U after left.0 left.1 (first_place line) (slot_at m j).lsn
              (held_low sum size big marks device fault line (logged H) holds) above aligned ends j header.0 header.1)
        ]
