-- A further segment begins behind all that were begun, in a slot that has zeros: the log fits the history that it fitted.
use Rattle.std.proofs.Common.{◌≡◌, ◌≢◌, ◌∙◌, ◌≤◌, ◌<◌, ◌+◌, ◌<ℤ◌, ◌%◌, ◌^◌, ℕ, pos, List, [], ◌∷◌, ◌++◌, length, map, Option, None, sym, subst, arith}
use Rattle.std.specs.List.{Contains}
use Rattle.std.specs.declared.io.Error.{Error as IoError}
use Rattle.std.proofs.lemmas.List.{map-append}
use Rattle.sled_codec.specs.History.{Message, History}
use Rattle.sled_store.specs.Device.{State}
use Rattle.sled_core.specs.declared.iobuf.Reserved.{Reserved}
use Rattle.sled_core.specs.declared.iobuf.Sealed.{Sealed}
use Rattle.sled_core.specs.declared.iobuf.SegmentPosition.{SegmentPosition}
use Rattle.sled_core.specs.Begun.{SegmentParts}
use Rattle.sled_core.specs.Fits.{CloseBelow}
use Rattle.sled_core.specs.inside.Fits.{HasMark, HoldsIn, begun_segment, log_parts}
use Rattle.sled_core.specs.inside.LogFile.{padded}
use Rattle.sled_core.specs.Logged.{logged}
use Rattle.sled_core.specs.inside.Reached.{BegunSegment, StandsAmong}
use Rattle.sled_core.specs.Recoverable.{NoHeaderOfZeros}
use Rattle.sled_core.specs.inside.Running.{FitsIn}
use Rattle.sled_core.specs.SealedBuffers.{AreZeros}
use Rattle.sled_core.specs.declared.logger.joined_marks.JoinedMarks.{JoinedMarks}
use Rattle.sled_core.proofs.Line.HeldAround.{behind_place}
use Rattle.sled_core.proofs.Line.HoldsBegun.{begun_with, behind-begins, far, next_above, next_apart}
use Rattle.sled_core.proofs.Sealed.Padded.{padded_get}
use Rattle.sled_core.proofs.Reached.NextSegment.{begins_behind}
use Rattle.sled_core.specs.inside.LogSegments.{held_since}

module _ (sum : List ℕ → ℕ) (size : ℕ) (site : SegmentPosition) (device : State) (fault : Option IoError) (bytes : List ℕ) (from : ℕ) (bs : List Sealed) (rs : List Reserved) (pins : ℕ) (H : History) (A f : ℕ) (U : List Message)
    (behind : List SegmentParts) {reach : ℕ} {marks : JoinedMarks} (fits : FitsIn sum marks (log_parts size site device fault bytes from bs rs) behind reach pins H A f U) (big : 256 ≤ size) (short : length bytes ≤ size)
    (next : SegmentPosition) (text : List ℕ) (at : next.place ≡ behind_place size (site.place + size) behind) (aligned : next.slot % size ≡ 0) (header_long : length text ≡ 20) (mark : HasMark sum next text (logged H))
    (other : next.slot ≢ site.slot) (others : (y : BegunSegment) → Contains (map begun_segment behind) y → next.slot ≢ y.site.slot) (zeros : fault ≡ None → AreZeros device.log.bytes next.slot (next.slot + size))
    (closed : CloseBelow next.place H.batches) (low_mark : mark.mark <ℤ pos (site.place + from)) (place_small : next.place < 2 ^ 63) where
  abbrev begun : SegmentParts
  begun = begun_with next text

  abbrev all_begun : List BegunSegment
  all_begun = map begun_segment (behind ++ begun ∷ [])

  -- they lie behind one another
  begun_is : map begun_segment behind ++ begun_segment begun ∷ [] ≡ all_begun
  begun_is = sym (map-append begun_segment behind (begun ∷ []))

  abbrev holds_begun : HoldsIn sum marks (log_parts size site device fault bytes from bs rs) (behind ++ begun ∷ []) (logged H)
  holds_begun = behind-begins sum size site device fault bytes from bs rs (logged H) behind fits.holds big short next text at aligned header_long mark other others zeros closed low_mark place_small

  above : site.place + size ≤ next.place
  above = far sum size site device fault bytes from bs rs (logged H) behind fits.holds big short next text at aligned header_long mark other others zeros closed

  -- Where a file has zeros in the slot, what is found in it is found still, the new segment being unwritten.
  stands_begun : NoHeaderOfZeros sum → (log : List ℕ) → AreZeros log next.slot (next.slot + size) → StandsAmong sum (held_since size marks fits.holds.begun.first) size log site from (map begun_segment behind) reach (logged H) fits.holds.begun.first → StandsAmong sum (held_since size marks fits.holds.begun.first) size log site from all_begun reach (logged H) fits.holds.begun.first
  stands_begun none log clean among =
      subst (λ (l : List BegunSegment). StandsAmong sum (held_since size marks fits.holds.begun.first) size log site from l reach (logged H) fits.holds.begun.first) begun_is
      (begins_behind sum none size log site from (map begun_segment behind) reach (logged H) fits.holds.begun.first next (let up = above in omega (arith, up, big))
      (next_above sum size site device fault bytes from bs rs (logged H) behind fits.holds big short next text at aligned header_long mark other others zeros closed)
      (next_apart sum size site device fault bytes from bs rs (logged H) behind fits.holds big short next text at aligned header_long mark other others zeros closed)
      (λ i low high. clean i low (omega (arith, high, big))) among)

  -- The log fits the history, with that segment behind the others.
  pub behind-fits-begun : FitsIn sum marks (log_parts size site device fault bytes from bs rs) (behind ++ begun ∷ []) reach pins H A f U
  behind-fits-begun = record {
    holds = holds_begun;
    reached = fits.reached;
    among = λ ok none. stands_begun none device.log.bytes (zeros ok) (fits.among ok none);
    beyond = λ to far ok none. stands_begun none (padded to device.log.bytes) (λ i low high. padded_get to device.log.bytes i ∙ zeros ok i low high) (fits.beyond to far ok none);
    items = fits.items;
    named = fits.named;
    passes = fits.passes;
    pinned = fits.pinned;
    left = fits.left;
  }
