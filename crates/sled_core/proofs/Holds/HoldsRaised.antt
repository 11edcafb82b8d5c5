-- What is held counts from a mark that joins, where it counted from a lower one: no mark is above what is written, nor is its segment above the first one.
use Rattle.std.proofs.Common.{◌+◌, ◌≤◌, ◌≤ℤ◌, ℕ, List, Option, pos, arith, inl, inr, length}
use Rattle.std.specs.declared.io.Error.{Error as IoError}
use Rattle.std.proofs.lemmas.Bool.{cases_lt}
use Rattle.std.proofs.lemmas.Int.{ints}
use Rattle.sled_codec.specs.History.{History, Message}
use Rattle.sled_codec.specs.Snapshots.{SnapshotModel}
use Rattle.sled_store.specs.Device.{State}
use Rattle.sled_store.proofs.Histories.Ascending.{Ascends}
use Rattle.sled_store.proofs.Histories.EarlierEntries.{entry_earlier}
use Rattle.sled_store.proofs.Segments.TableEntries.{from_table}
use Rattle.sled_core.specs.Begun.{SegmentParts}
use Rattle.sled_core.specs.Fits.{IsBegunFrom, held_of}
use Rattle.sled_core.specs.LogFile.{StaysFrom}
use Rattle.sled_core.specs.LogSegments.{begins_from}
use Rattle.sled_core.specs.Logged.{logged}
use Rattle.sled_core.specs.declared.iobuf.Reserved.{Reserved}
use Rattle.sled_core.specs.declared.iobuf.Sealed.{Sealed}
use Rattle.sled_core.specs.declared.iobuf.SegmentPosition.{SegmentPosition}
use Rattle.sled_core.specs.declared.logger.joined_marks.JoinedMarks.{JoinedMarks}
use Rattle.sled_core.specs.inside.Fits.{HoldsIn, log_parts}
use Rattle.sled_core.specs.inside.LogFile.{StaysBelow}
use Rattle.sled_core.specs.inside.Reached.{BegunSegment, StandsAmong}
use Rattle.sled_core.specs.inside.Running.{FitsIn}
use Rattle.sled_core.proofs.Holds.BehindKept.{behind_fewer}
use Rattle.sled_core.proofs.Holds.CompletedLemmas.{segment-fewer}
use Rattle.sled_core.proofs.Holds.WholeHistory.{whole_ascends}
use Rattle.sled_core.proofs.Tail.MarkPlaces.{begins_lower}

-- What stays from a place on stays from a lower one on.
pub stays_lower : (H : History) → Ascends H.messages → (low high : ℕ) → low ≤ high → (m : Message) → StaysFrom H high m → StaysFrom H low m
stays_lower H order low high le m (inr (above, there)) = inr (omega (arith, le, above), there)
stays_lower H order low high le m (inl entry) = elim (cases_lt m.place low) [
  | inl under ↦ inl (entry_earlier H order low high m.page le m under entry)
  | inr above ↦ inr (above, (from_table H high m.page m entry).0)
]

-- The segments stand where what is held counts from a higher place or below it.
pub stands_above : (sum : List ℕ → ℕ) (held higher : ℕ) → held ≤ higher → (size : ℕ) (log : List ℕ) (site : SegmentPosition) (from : ℕ) (others : List BegunSegment)
    (reach : ℕ) (H : History) (first : SnapshotModel) → StandsAmong sum held size log site from others reach H first
    → StandsAmong sum higher size log site from others reach H first
stands_above sum held higher le size log site from others reach H first among = record {
  stands = among.stands;
  low = (let low = among.low in omega (arith, low, le));
  reached = among.reached;
  led = among.led;
  here = among.here;
  behind = among.behind;
  apart = among.apart;
  last = among.last;
  below = among.below;
}

module _ (sum : List ℕ → ℕ) (size : ℕ) (site : SegmentPosition) (device : State) (fault : Option IoError) (bytes : List ℕ) (from : ℕ) (bs : List Sealed)
    (rs : List Reserved) (behind : List SegmentParts) (big : 256 ≤ size) (short : length bytes ≤ size) (marks now : JoinedMarks)
    (up : marks.joined ≤ℤ now.joined) (durable : now.durable ≤ℤ pos (site.place + from)) (low : begins_from size now.durable ≤ site.place) where
  module _ (H : History) (holds : HoldsIn sum marks (log_parts size site device fault bytes from bs rs) behind H) where
    abbrev begun_raised : IsBegunFrom sum now.joined now.durable size device.snapshots.file site from H
    begun_raised = record {
      first = holds.begun.first;
      begins = holds.begun.begins;
      table = holds.begun.table;
      fits = holds.begun.fits;
      least = holds.begun.least;
      reached = holds.begun.reached;
      joined = let joined = holds.begun.joined in omega (arith, ints, joined, up);
      written = durable;
      marked = low;
    }

    pub higher : held_of holds.begun ≤ held_of begun_raised
    higher = let more = begins_lower size big marks.joined now.joined up in omega (arith, more)

    pub stays : (m : Message) → StaysFrom H (held_of begun_raised) m → StaysFrom H (held_of holds.begun) m
    stays = stays_lower H (whole_ascends sum size site device fault bytes from bs rs H holds short) (held_of holds.begun) (held_of begun_raised) higher

    abbrev pub holds_raised : HoldsIn sum now (log_parts size site device fault bytes from bs rs) behind H
    holds_raised = record {
      begun = begun_raised;
      head = holds.head;
      later = holds.later;
      messages = holds.messages;
      own = segment-fewer sum size site device fault bytes from bs rs (record { messages = holds.head; batches = H.batches }) (StaysFrom H (held_of holds.begun))
          (StaysFrom H (held_of begun_raised)) (λ x under its. stays x its) holds.own;
      others = behind_fewer sum size device fault (site.place + size) behind (StaysBelow H (held_of holds.begun) site.place)
          (StaysBelow H (held_of begun_raised) site.place) H.batches holds.later (λ x its. (stays x its.0, its.1)) holds.others;
      apart = holds.apart;
      marked = holds.marked;
    }

  -- So they fit what they fitted.
  pub fits_raised : (reach pins : ℕ) (H : History) (A f : ℕ) (U : List Message)
      → FitsIn sum marks (log_parts size site device fault bytes from bs rs) behind reach pins H A f U
      → FitsIn sum now (log_parts size site device fault bytes from bs rs) behind reach pins H A f U
  fits_raised reach pins H A f U fits =
      let more = higher (logged H) fits.holds in
      let among = stands_above sum (held_of fits.holds.begun) (held_of (begun_raised (logged H) fits.holds)) more size in
      record {
        holds = holds_raised (logged H) fits.holds;
        reached = fits.reached;
        among = λ none zeros. among _ _ _ _ _ _ _ (fits.among none zeros);
        beyond = λ to far none zeros. among _ _ _ _ _ _ _ (fits.beyond to far none zeros);
        items = fits.items;
        named = fits.named;
        passes = fits.passes;
        pinned = fits.pinned;
        left = fits.left;
      }
