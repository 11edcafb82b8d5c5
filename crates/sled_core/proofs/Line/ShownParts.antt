-- What a log fits over what it shows of its device, said of the cleared file: how its segments stand there, that it is read of bytes that count, and that all
-- that is read of each slot is the log's own. And what is written of a segment of its line stands in the log file itself.
use Rattle.std.specs.declared.io.Error.{Error as IoError}
use Rattle.std.proofs.Common.{◌≡◌, ◌/◌, ◌≤◌, ◌<◌, ℕ, List, [], ◌∷◌, map, Option, Some, None, refl, sym, subst, arith}
use Rattle.std.specs.List.{slice_get}
use Rattle.sled_codec.specs.declared.result.DiskPtr.TheVariants.{Inline}
use Rattle.sled_codec.specs.History.{Batch, History, Message}
use Rattle.sled_store.specs.Device.{State}
use Rattle.sled_store.specs.Foreign.{HeaderWasPlaced, RecordWasPlaced}
use Rattle.sled_store.specs.SegmentStates.{Machine}
use Rattle.sled_core.specs.Begun.{SegmentView}
use Rattle.sled_core.specs.LogFile.{MessageStands, StaysFrom}
use Rattle.sled_core.specs.LogSegments.{begins_from}
use Rattle.sled_core.specs.Logged.{logged}
use Rattle.sled_core.specs.OpenBatches.{stable_below}
use Rattle.sled_core.specs.Recoverable.{NoHeaderOfZeros}
use Rattle.sled_core.specs.Tail.{least_place, tail_begins}
use Rattle.sled_core.specs.declared.logger.joined_marks.JoinedMarks.{JoinedMarks}
use Rattle.sled_core.specs.Fits.{held_of}
use Rattle.sled_core.specs.inside.Cleared.{IsWrittenIn, StandWritten, cleared, is_stale}
use Rattle.sled_core.specs.inside.Fits.{HoldsLine, begun_segment, parts_in}
use Rattle.sled_core.specs.inside.FreeSlots.{HasSlot}
use Rattle.sled_core.specs.inside.Hides.{ReadsShown}
use Rattle.sled_core.specs.inside.LogSegments.{held_since}
use Rattle.sled_core.specs.inside.MarksFit.{MarksFitFrom}
use Rattle.sled_core.specs.inside.OwnLog.{HasOwnSlot}
use Rattle.sled_core.specs.inside.Reached.{StandsAmong}
use Rattle.sled_core.specs.inside.Running.{FitsWith}
use Rattle.sled_core.specs.inside.Shown.{shown}
use Rattle.sled_core.specs.inside.Slots.{AreWhole}
use Rattle.sled_core.proofs.Cleared.Offsets.{laid_parts, zeroed_long}
use Rattle.sled_core.proofs.Cleared.Shown.{shown_bytes}
use Rattle.sled_core.proofs.Freed.ClearedShows.{front_shown, written_there}
use Rattle.sled_core.proofs.Line.Ends.{with_part}
use Rattle.sled_core.proofs.Line.OwnSlots.{every_slot}
use Rattle.sled_core.proofs.Line.Quiet.{quiet_shown}
use Rattle.sled_core.proofs.Line.Segments.{AreSegments}
use Rattle.sled_core.proofs.Line.Shown.{line_rises, others_beside}
use Rattle.sled_core.proofs.Line.StandsThere.{line_elsewhere, older_same, stands_there}
use Rattle.sled_core.proofs.Reached.MarkWritten.{stands_lower}
use Rattle.sled_core.proofs.Reached.MarksRaise.{mark_low}
use Rattle.sled_core.proofs.Reserve.Ranges.{at_there}

-- What is written of each segment of a line that holds a history over what is shown stands in the file as it does there.
module _ (sum : List ℕ → ℕ) (size : ℕ) (some : 0 < size) (device : State) (fault : Option IoError) (whole : fault ≡ None) (m : Machine) (place : ℕ)
    (line : List SegmentView) (are : AreSegments size place line) (H : History) (marks : JoinedMarks)
    (holds : HoldsLine sum marks size (shown size fault m line device) fault line H)
    (taken : (n : ℕ) (v : SegmentView) → slice_get line n ≡ Some v → HasSlot size m v) where
  pub line_written : (n : ℕ) (v : SegmentView) → slice_get line n ≡ Some v
      → IsWrittenIn (cleared size m line device.log.bytes) device.log.bytes v.parts.site.slot v.parts.bytes v.parts.written_len v.parts.sealed
  line_written n v there =
      let file : List ℕ = device.log.bytes in
      let rises = line_rises size place line are in
      let apart = others_beside size some m place line are taken n v there in record {
        long = sym (zeroed_long (is_stale size m line) file);
        front = front_shown size some m line file rises n v there (taken n v there) apart;
        stand = written_there size some m line file rises n v there (taken n v there) apart
            (subst (λ (l : List ℕ). StandWritten l v.parts.site.slot v.parts.bytes v.parts.written_len v.parts.sealed)
            (shown_bytes size fault m line device whole)
            (with_part sum size (shown size fault m line device) fault _ line n v H holds there (λ stays own segment.
            (laid_parts (shown size fault m line device).log.bytes v.parts.site.slot v.parts.bytes v.parts.written_len v.parts.sealed size
            (segment.laid whole)).1)));
      }

-- And so is what stays of earlier segments.
module _ (sum : List ℕ → ℕ) (size : ℕ) (some : 0 < size) (device : State) (m : Machine) (v : SegmentView) (vs : List SegmentView) (place : ℕ)
    (are : AreSegments size place (v ∷ vs)) (H : History) {marks : JoinedMarks}
    (holds : HoldsLine sum marks size (shown size None m (v ∷ vs) device) None (v ∷ vs) H)
    (taken : (n : ℕ) (u : SegmentView) → slice_get (v ∷ vs) n ≡ Some u → HasSlot size m u) where
  pub line_older : (e : Message) → StaysFrom H (held_of holds.begun) e → e.place < v.parts.site.place → (lid : ℕ) → e.pointer ≡ Inline lid
      → MessageStands sum size (cleared size m (v ∷ vs) device.log.bytes) lid (e.place / size) e
      → MessageStands sum size device.log.bytes lid (e.place / size) e
  line_older e still below lid inline s =
      let line : List SegmentView = v ∷ vs in
      stands_there sum size (cleared size m line device.log.bytes) device.log.bytes (sym (zeroed_long (is_stale size m line) device.log.bytes)) lid
      (e.place / size) e
      (older_same sum size some m line device.log.bytes (line_rises size place line are) taken lid e s
      (λ n u at. (line_elsewhere sum size (shown size None m line device) None refl v vs H holds e still below lid inline n u at).apart))
      s

module _ (sum : List ℕ → ℕ) (marks : JoinedMarks) (noted : List Batch) (size : ℕ) (big : 256 ≤ size) (device : State) (fault : Option IoError)
    (whole : fault ≡ None) (zeros : NoHeaderOfZeros sum) (m : Machine) (pins : ℕ) (H : History) (A f : ℕ) (U : List Message) (v : SegmentView)
    (vs : List SegmentView) (are : AreSegments size v.parts.site.place (v ∷ vs))
    (fits : FitsWith sum marks noted size (shown size fault m (v ∷ vs) device) fault (v ∷ vs) m pins H A f U) where
  abbrev file : List ℕ
  file = cleared size m (v ∷ vs) device.log.bytes

  abbrev sees : State
  sees = shown size fault m (v ∷ vs) device

  pub file_taken : (n : ℕ) (u : SegmentView) → slice_get (v ∷ vs) n ≡ Some u → HasSlot size m u
  file_taken n u there = at_there (HasSlot size m) (v ∷ vs) n u there fits.slots.taken

  pub file_whole : AreWhole sum size file (logged H) v.parts.site.place m
  file_whole =
      subst (λ (l : List ℕ). AreWhole sum size l (logged H) v.parts.site.place m) (shown_bytes size fault m (v ∷ vs) device whole) (fits.whole whole zeros)

  pub file_among : StandsAmong sum (held_since size marks fits.parts.holds.begun.first) size file v.parts.site v.parts.written_len
      (map begun_segment (map parts_in vs)) fits.reach (logged H) fits.parts.holds.begun.first
  file_among =
      subst (λ (l : List ℕ). StandsAmong sum (held_since size marks fits.parts.holds.begun.first) size l v.parts.site v.parts.written_len
      (map begun_segment (map parts_in vs)) fits.reach (logged H) fits.parts.holds.begun.first)
      (shown_bytes size fault m (v ∷ vs) device whole) (fits.parts.among whole zeros)

  -- The segment of the mark that joined begins no higher than the tail of a recovery.
  pub file_low : MarksFitFrom sum size device.snapshots.file file marks
      → begins_from size marks.joined ≤ tail_begins size (least_place size fits.parts.holds.begun.first) file_among.stands.ordering
  file_low marked =
      let first = fits.parts.holds.begun.first in
      let its = marked first fits.parts.holds.begun.begins in
      mark_low sum size file big (logged H) (stable_below fits.reach H.batches) first fits.reach file_among.stands marks.joined
      (stands_lower sum size file first marks.joined marks.durable its.joined its.stands)

  pub file_reads : ReadsShown sum size m file device.log.bytes
  file_reads =
      quiet_shown sum zeros size big m v vs are file_taken fits.slots.own device (logged H) fits.parts.holds.begun.first fits.reach file_whole file_among

  pub file_own : (slot : ℕ) → HasOwnSlot sum size (HeaderWasPlaced device.placed) (RecordWasPlaced sum size device.placed) file slot
  file_own slot =
      subst (λ (l : List ℕ). HasOwnSlot sum size (HeaderWasPlaced device.placed) (RecordWasPlaced sum size device.placed) l slot)
      (shown_bytes size fault m (v ∷ vs) device whole)
      (every_slot sum size big zeros sees fault whole v.parts.site.place (v ∷ vs) are (logged H) marks fits.parts.holds (fits.own whole zeros) slot)

  pub file_written : (n : ℕ) (u : SegmentView) → slice_get (v ∷ vs) n ≡ Some u
      → IsWrittenIn file device.log.bytes u.parts.site.slot u.parts.bytes u.parts.written_len u.parts.sealed
  file_written = line_written sum size (omega (arith, big)) device fault whole m v.parts.site.place (v ∷ vs) are (logged H) marks fits.parts.holds file_taken

-- So each line that a log fits over what it shows is read of bytes that count.
module _ (sum : List ℕ → ℕ) (marks : JoinedMarks) (noted : List Batch) (size : ℕ) (big : 256 ≤ size) (device : State) (fault : Option IoError)
    (whole : fault ≡ None) (zeros : NoHeaderOfZeros sum) (m : Machine) (pins : ℕ) (H : History) (A f : ℕ) (U : List Message) where
  pub line_reads : (place : ℕ) (line : List SegmentView) → AreSegments size place line
      → FitsWith sum marks noted size (shown size fault m line device) fault line m pins H A f U
      → ReadsShown sum size m (cleared size m line device.log.bytes) device.log.bytes
  line_reads place [] are fits = absurd fits.parts
  line_reads place (v ∷ vs) are fits =
      file_reads sum marks noted size big device fault whole zeros m pins H A f U v vs (subst (λ p. AreSegments size p (v ∷ vs)) (sym are.0.at) are) fits
