-- A message is completed in a segment behind the first one: the log fits the history with it, and a reader finds what he found.
use Rattle.std.proofs.Common.{◌≡◌, ◌∙◌, ◌≤◌, ◌<◌, ◌+◌, ℕ, List, ◌∷◌, ◌++◌, length, map, Option, None, sym, ap, subst, arith, inl, inr}
use Rattle.std.specs.List.{All, Contains}
use Rattle.std.specs.declared.io.Error.{Error as IoError}
use Rattle.std.proofs.lemmas.List.Elements.{All-contains, Contains-append_cases, Contains-append_right}
use Rattle.sled_codec.specs.History.{AddsMessage, History, Message}
use Rattle.sled_codec.specs.Snapshots.{SnapshotModel}
use Rattle.sled_store.specs.Device.{State}
use Rattle.sled_store.proofs.Segments.Elements.{in_first}
use Rattle.sled_core.specs.declared.iobuf.Reserved.{Reserved}
use Rattle.sled_core.specs.declared.iobuf.Sealed.{Sealed}
use Rattle.sled_core.specs.declared.iobuf.SegmentPosition.{SegmentPosition}
use Rattle.sled_core.specs.Begun.{SegmentParts}
use Rattle.sled_core.specs.inside.Fits.{HoldsIn, HoldsNext, begun_segment, log_parts}
use Rattle.sled_core.specs.inside.LogFile.{padded}
use Rattle.sled_core.specs.Logged.{logged, in_log}
use Rattle.sled_core.specs.inside.Reached.{BegunSegment, StandsAmong}
use Rattle.sled_core.specs.Recoverable.{NoHeaderOfZeros}
use Rattle.sled_core.specs.Reading.{BlobIsBelow}
use Rattle.sled_core.specs.inside.Running.{FitsIn}
use Rattle.sled_core.specs.Running.{KeepsItem}
use Rattle.sled_core.specs.SealedBuffers.{AreZeros}
use Rattle.sled_core.specs.declared.logger.joined_marks.JoinedMarks.{JoinedMarks}
use Rattle.sled_core.specs.inside.SealedBuffers.{FirstUnwritten}
use Rattle.sled_core.proofs.Holds.FitsGrown.{fits-grown}
use Rattle.sled_core.proofs.Line.HeldAround.{HoldAround, begun_is, begun_same, behind_below, behind_place, held_around, held_here, stays_below}
use Rattle.sled_core.proofs.Flush.Completed.{all_below, grows}
use Rattle.sled_core.proofs.Sealed.Padded.{padded_get}
use Rattle.sled_core.proofs.Holds.ReachLemmas.{LiesBehind, completed_behind}
use Rattle.sled_core.proofs.Holds.StandsAdds.{other_adds}
use Rattle.sled_core.proofs.Holds.WholeHistory.{behind_above, which_part}
use Rattle.sled_core.proofs.Logged.Messages.{adds_logged, below_in_log}
use Rattle.sled_core.proofs.Sealed.Zeros.{begin_zeros}
use Rattle.sled_core.specs.inside.LogSegments.{held_since}

-- A message that begins in a segment behind the first one is among those that this holds.
module _ (sum : List ℕ → ℕ) (size : ℕ) (site : SegmentPosition) (device : State) (fault : Option IoError) (bytes : List ℕ) (from : ℕ) (bs : List Sealed) (rs : List Reserved) (H : History)
    (pre : List SegmentParts) (s : SegmentParts) (post : List SegmentParts) {marks : JoinedMarks} (holds : HoldsIn sum marks (log_parts size site device fault bytes from bs rs) (pre ++ s ∷ post) H) (short : length bytes ≤ size) where
  abbrev stays : Message → Type 0
  stays = stays_below sum size site device fault bytes from bs rs H pre s post holds

  abbrev parts : HoldAround sum size device fault (site.place + size) pre s post stays H.batches holds.later
  parts = held_around sum size site device fault bytes from bs rs H pre s post holds

  abbrev begins : ℕ
  begins = behind_place size (site.place + size) pre

  -- the segments before it lie below it
  pub front_low : (site.place + size ≤ s.site.place) × All (λ m. m.place < s.site.place) parts.before
  front_low =
      let far = behind_below sum size device fault (site.place + size) pre stays H.batches parts.before parts.front in
      subst (λ n. (site.place + size ≤ n) × All (λ (m : Message). m.place < n) parts.before) (sym parts.here.next) far

  pub of_segment : (m : Message) → Contains H.messages m → s.site.place ≤ m.place → m.place < s.site.place + size → Contains parts.own m
  of_segment m there low high =
      let next = parts.here.next in
      elim (which_part sum size site device fault bytes from bs rs H holds m there) [
        | inl first ↦ (
            let b = All-contains (λ (x : Message). (x.place < site.place + length bytes) × (x.place + x.size ≤ site.place + length bytes)) holds.head m
            (all_below sum size site device fault bytes from bs rs (record { messages = holds.head; batches = H.batches }) holds.own) first in
            let up = front_low.0 in
            absurd (omega (arith, b.0, short, up, low)))
        | inr later ↦ elim (Contains-append_cases parts.before (parts.own ++ parts.after) m (subst (λ (l : List Message). Contains l m) parts.messages later)) [
          | inl before ↦ (let b = All-contains (λ (x : Message). x.place < s.site.place) parts.before m front_low.1 before in absurd (omega (arith, b, low)))
          | inr from_here ↦ elim (Contains-append_cases parts.own parts.after m from_here) [
            | inl mine ↦ mine
            | inr after ↦ (
                let far = All-contains (λ (x : Message). begins + size ≤ x.place) parts.after m (behind_above sum size device fault (begins + size) post stays H.batches parts.after parts.rest) after in
                absurd (omega (arith, far, next, high)))
          ]
        ]
      ]

module _ (sum : List ℕ → ℕ) (size : ℕ) (site : SegmentPosition) (device : State) (fault : Option IoError) (bytes : List ℕ) (from : ℕ) (bs : List Sealed) (rs : List Reserved) (pins : ℕ) (H : History) (A f : ℕ) (U : List Message)
    (pre : List SegmentParts) (s : SegmentParts) (post : List SegmentParts) {reach : ℕ} {marks : JoinedMarks} (fits : FitsIn sum marks (log_parts size site device fault bytes from bs rs) (pre ++ s ∷ post) reach pins H A f U)
    (s' : SegmentParts) (its_site : s'.site ≡ s.site) (so_far : s'.written_len ≡ s.written_len) (filling : s'.filled ≡ s.filled)
    (H' : History) (m : Message) (least : 256 ≤ size) (short : length bytes ≤ size) (ok : fault ≡ None) (holds : HoldsIn sum marks (log_parts size site device fault bytes from bs rs) (pre ++ s' ∷ post) (logged H')) (adds : AddsMessage H m H')
    (below : BlobIsBelow m m.pointer) (stored : KeepsItem sum device.blobs m m.pointer)
    (above : s.site.place + s.written_len ≤ m.place) (inside : m.place < s.site.place + size) (fresh : FirstUnwritten s.sealed) where
  abbrev first : SnapshotModel
  first = fits.holds.begun.first

  abbrev others : List BegunSegment
  others = map begun_segment (pre ++ s ∷ post)

  abbrev others' : List BegunSegment
  others' = map begun_segment (pre ++ s' ∷ post)

  abbrev own : List Message
  own = (held_around sum size site device fault bytes from bs rs (logged H') pre s' post holds).own

  abbrev here : HoldsNext sum size device fault (behind_place size (site.place + size) pre) s' (stays_below sum size site device fault bytes from bs rs (logged H') pre s' post holds) H'.batches own
  here = held_here sum size site device fault bytes from bs rs (logged H') pre s' post holds

  -- the same segment as it was
  abbrev had : HoldsNext sum size device fault (behind_place size (site.place + size) pre) s (stays_below sum size site device fault bytes from bs rs (logged H) pre s post fits.holds) H.batches (held_around sum size site device fault bytes from bs rs (logged H) pre s post fits.holds).own
  had = held_here sum size site device fault bytes from bs rs (logged H) pre s post fits.holds

  same_place : s'.site.place ≡ s.site.place
  same_place = ap (λ (p : SegmentPosition). p.place) its_site

  put : AddsMessage (logged H) (in_log m) (logged H')
  put = adds_logged H m H' adds

  it_is_there : Contains (logged H').messages (in_log m)
  it_is_there = subst (λ (l : List Message). Contains l (in_log m)) (sym put.new) (Contains-append_right put.before (in_log m ∷ put.after) (in_log m) (in_first (in_log m) put.after))

  lies : LiesBehind size s'.site (in_log m)
  lies =
      let mine = of_segment sum size site device fault bytes from bs rs (logged H') pre s' post holds short (in_log m) it_is_there (omega (arith, above, same_place)) (omega (arith, inside, same_place)) in
      completed_behind sum size s'.site device fault s'.bytes s'.written_len s'.sealed s'.reserved (record { messages = own; batches = H'.batches }) here.segment here.inside (in_log m) mine (omega (arith, above, same_place, so_far))

  -- It lies behind what is written of the first segment, and so behind what a reader comes to.
  past : site.place + from ≤ m.place
  past =
      let up = (front_low sum size site device fault bytes from bs rs (logged H) pre s post fits.holds short).0 in
      let grown = grows sum size site device fault bytes from bs rs (record { messages = fits.holds.head; batches = H.batches }) fits.holds.own in
      omega (arith, up, grown, short, above)

  -- where nothing was written of its segment, the beginning of the slot has zeros
  clean : s.written_len ≡ 0 → AreZeros device.log.bytes s.site.slot (s.site.slot + 20)
  clean none = begin_zeros device.log.bytes s.site.slot s.bytes s.written_len s.sealed s.reserved size fresh had.are (omega (arith, least)) (had.segment.laid ok) none

  room : s.written_len + 32 ≤ size
  room = let within = lies.room in omega (arith, within, above, same_place)

  among_others : Contains others (begun_segment s)
  among_others = subst (λ (l : List BegunSegment). Contains l (begun_segment s)) (sym (begun_is pre s post)) (Contains-append_right (map begun_segment pre) (begun_segment s ∷ map begun_segment post) (begun_segment s) (in_first (begun_segment s) (map begun_segment post)))

  -- A reader finds the same of a file that has these zeros.
  stands_new : NoHeaderOfZeros sum → (log : List ℕ) → (s.written_len ≡ 0 → AreZeros log s.site.slot (s.site.slot + 20)) → StandsAmong sum (held_since size marks first) size log site from others reach (logged H) first → StandsAmong sum (held_since size marks first) size log site from others' reach (logged H') first
  stands_new none log zeros among = subst (λ (l : List BegunSegment). StandsAmong sum (held_since size marks first) size log site from l reach (logged H') first) (sym (begun_same pre s s' post its_site so_far filling))
      (other_adds sum size log site from reach (logged H) (logged H') first least none (begun_segment s) among_others had.segment.records.place_begins zeros (in_log m) put above inside room (lies.lies (below_in_log m below)) among)

  alone_new : NoHeaderOfZeros sum → StandsAmong sum (held_since size marks first) size device.log.bytes site from others' reach (logged H') first
  alone_new none = stands_new none device.log.bytes clean (fits.among ok none)

  beyond_new : (to : ℕ) → site.slot ≤ to → NoHeaderOfZeros sum → StandsAmong sum (held_since size marks first) size (padded to device.log.bytes) site from others' reach (logged H') first
  beyond_new to far none = stands_new none (padded to device.log.bytes) (λ first_one i low high. padded_get to device.log.bytes i ∙ clean first_one i low high) (fits.beyond to far ok none)

  -- The log fits the history with the message, where a pin is out.
  pub behind-completed : 0 < pins → FitsIn sum marks (log_parts size site device fault bytes from bs rs) (pre ++ s' ∷ post) reach pins H' A f (m ∷ U)
  behind-completed = fits-grown sum size site device fault bytes from bs rs pins H A f U fits bytes bs rs (pre ++ s' ∷ post) H' holds m least short ok adds past below stored alone_new beyond_new
