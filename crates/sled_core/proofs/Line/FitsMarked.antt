-- A batch is marked whose manifest lies in a segment behind the first one: the log fits the history with it, and a reader finds what he found.
use Rattle.std.proofs.Common.{◌≡◌, ◌∙◌, ◌≤◌, ◌<◌, ◌+◌, ℕ, List, ◌∷◌, ◌++◌, length, map, Option, None, sym, subst, arith}
use Rattle.std.specs.List.{All, Contains}
use Rattle.std.specs.declared.io.Error.{Error as IoError}
use Rattle.std.proofs.lemmas.List.Elements.{Contains-append_right}
use Rattle.sled_codec.specs.History.{AddsBatch, Batch, History, Message}
use Rattle.sled_codec.specs.Snapshots.{SnapshotModel}
use Rattle.sled_store.specs.Device.{State}
use Rattle.sled_store.proofs.Segments.Elements.{in_first}
use Rattle.sled_core.specs.declared.iobuf.Reserved.{Reserved}
use Rattle.sled_core.specs.declared.iobuf.Sealed.{Sealed}
use Rattle.sled_core.specs.declared.iobuf.SegmentPosition.{SegmentPosition}
use Rattle.sled_core.specs.Begun.{SegmentParts}
use Rattle.sled_core.specs.inside.Fits.{HoldsIn, HoldsNext, begun_segment, log_parts}
use Rattle.sled_core.specs.inside.LogFile.{padded}
use Rattle.sled_core.specs.Logged.{logged}
use Rattle.sled_core.specs.inside.Reached.{BegunSegment, StandsAmong}
use Rattle.sled_core.specs.inside.Recoverable.{IsPlacedBatch}
use Rattle.sled_core.specs.Recoverable.{NoHeaderOfZeros}
use Rattle.sled_core.specs.inside.Running.{FitsIn}
use Rattle.sled_core.specs.SealedBuffers.{AreZeros}
use Rattle.sled_core.specs.declared.logger.joined_marks.JoinedMarks.{JoinedMarks}
use Rattle.sled_core.specs.inside.SealedBuffers.{FirstUnwritten}
use Rattle.sled_core.proofs.Holds.FitsGrown.{fits-noted}
use Rattle.sled_core.proofs.Line.HeldAround.{begun_is, begun_same, behind_place, held_around, held_here, stays_below}
use Rattle.sled_core.proofs.Line.FitsCompleted.{front_low}
use Rattle.sled_core.proofs.Flush.Completed.{grows}
use Rattle.sled_core.proofs.Sealed.Padded.{padded_get}
use Rattle.sled_core.proofs.Holds.PegLemmas.{IsOff, LiesBesideFilling, behind_beside, beside_padded}
use Rattle.sled_core.proofs.Holds.StandsBatch.{other-marks}
use Rattle.sled_core.proofs.Logged.Messages.{batch_logged}
use Rattle.sled_core.proofs.Sealed.Zeros.{begin_zeros}
use Rattle.sled_core.specs.inside.LogSegments.{held_since}

module _ (sum : List ℕ → ℕ) (size : ℕ) (site : SegmentPosition) (device : State) (fault : Option IoError) (bytes : List ℕ) (from : ℕ) (bs : List Sealed) (rs : List Reserved) (pins : ℕ) (H : History) (A f : ℕ) (U : List Message)
    (pre : List SegmentParts) (s : SegmentParts) (post : List SegmentParts) {reach : ℕ} {marks : JoinedMarks} (fits : FitsIn sum marks (log_parts size site device fault bytes from bs rs) (pre ++ s ∷ post) reach pins H A f U)
    (s' : SegmentParts) (its_site : s'.site ≡ s.site) (so_far : s'.written_len ≡ s.written_len) (filling : s'.filled ≡ s.filled)
    (H' : History) (b : Batch) (least : 256 ≤ size) (short : length bytes ≤ size) (ok : fault ≡ None) (holds : HoldsIn sum marks (log_parts size site device fault bytes from bs rs) (pre ++ s' ∷ post) (logged H')) (adds : AddsBatch H b H')
    (placing : ((c : Batch) → Contains H.batches c → IsPlacedBatch size (logged H) c) → (c : Batch) → Contains H'.batches c → IsPlacedBatch size (logged H') c)
    (later : b.low < b.peg) (offs : All (IsOff size b.peg) (pre ++ s ∷ post)) (above : s.site.place + s.written_len ≤ b.low) (inside : b.low < s.site.place + size) (fresh : FirstUnwritten s.sealed) where
  abbrev first : SnapshotModel
  first = fits.holds.begun.first

  -- what the log has of the history has the batch too
  abbrev put : AddsBatch (logged H) b (logged H')
  put = batch_logged H b H' adds

  abbrev others : List BegunSegment
  others = map begun_segment (pre ++ s ∷ post)

  abbrev others' : List BegunSegment
  others' = map begun_segment (pre ++ s' ∷ post)

  -- the segment as it was
  abbrev had : HoldsNext sum size device fault (behind_place size (site.place + size) pre) s (stays_below sum size site device fault bytes from bs rs (logged H) pre s post fits.holds) H.batches (held_around sum size site device fault bytes from bs rs (logged H) pre s post fits.holds).own
  had = held_here sum size site device fault bytes from bs rs (logged H) pre s post fits.holds

  -- The batch begins behind what is written of the first segment, and so behind what a reader comes to.
  past : site.place + from ≤ b.low
  past =
      let up = (front_low sum size site device fault bytes from bs rs (logged H) pre s post fits.holds short).0 in
      let grown = grows sum size site device fault bytes from bs rs (record { messages = fits.holds.head; batches = H.batches }) fits.holds.own in
      omega (arith, up, grown, short, above)

  -- where nothing was written of its segment, the beginning of the slot has zeros
  clean : s.written_len ≡ 0 → AreZeros device.log.bytes s.site.slot (s.site.slot + 20)
  clean none = begin_zeros device.log.bytes s.site.slot s.bytes s.written_len s.sealed s.reserved size fresh had.are (omega (arith, least)) (had.segment.laid ok) none

  among_others : Contains others (begun_segment s)
  among_others = subst (λ (l : List BegunSegment). Contains l (begun_segment s)) (sym (begun_is pre s post)) (Contains-append_right (map begun_segment pre) (begun_segment s ∷ map begun_segment post) (begun_segment s) (in_first (begun_segment s) (map begun_segment post)))

  -- where the peg lies of the segments behind the first one
  beside : (x : BegunSegment) → Contains others x → LiesBesideFilling size device.log.bytes b.peg x
  beside = behind_beside sum size least device fault ok b.peg (site.place + size) (pre ++ s ∷ post) (stays_below sum size site device fault bytes from bs rs (logged H) pre s post fits.holds) H.batches fits.holds.later fits.holds.others offs

  -- A reader finds the same of a file that has these zeros.
  stands_new : NoHeaderOfZeros sum → (log : List ℕ) → (s.written_len ≡ 0 → AreZeros log s.site.slot (s.site.slot + 20)) → ((x : BegunSegment) → Contains others x → LiesBesideFilling size log b.peg x) → StandsAmong sum (held_since size marks first) size log site from others reach (logged H) first
      → StandsAmong sum (held_since size marks first) size log site from others' reach (logged H') first
  stands_new none log zeros lies among = subst (λ (l : List BegunSegment). StandsAmong sum (held_since size marks first) size log site from l reach (logged H') first) (sym (begun_same pre s s' post its_site so_far filling))
      (other-marks sum size log site from reach (logged H) (logged H') first least none (begun_segment s) among_others had.segment.records.place_begins zeros b put above inside (placing among.stands.batched) later lies among)

  alone_new : NoHeaderOfZeros sum → StandsAmong sum (held_since size marks first) size device.log.bytes site from others' reach (logged H') first
  alone_new none = stands_new none device.log.bytes clean beside (fits.among ok none)

  beyond_new : (to : ℕ) → site.slot ≤ to → NoHeaderOfZeros sum → StandsAmong sum (held_since size marks first) size (padded to device.log.bytes) site from others' reach (logged H') first
  beyond_new to far none = stands_new none (padded to device.log.bytes) (λ first_one i low high. padded_get to device.log.bytes i ∙ clean first_one i low high) (λ x known. beside_padded size to device.log.bytes b.peg x (beside x known)) (fits.beyond to far ok none)

  -- The log fits the history with the batch, with no other message to be marked.
  pub behind-fits-marked : FitsIn sum marks (log_parts size site device fault bytes from bs rs) (pre ++ s' ∷ post) reach pins H' A f U
  behind-fits-marked = fits-noted sum size site device fault bytes from bs rs pins H A f U fits bytes bs rs (pre ++ s' ∷ post) H' holds b least short ok adds past alone_new beyond_new
