-- All of a segment is written: it has no sealed buffers and no reservations any more.
use Rattle.std.proofs.Common.{◌≡◌, ◌≤◌, ◌+◌, ◌/◌, ℕ, max, Bool, true, false, if◌then◌else◌, List, [], ◌∷◌, length, Option, refl, subst, arith}
use Rattle.std.specs.declared.io.Error.{Error as IoError}
use Rattle.sled_codec.specs.History.{History, Message}
use Rattle.sled_store.specs.Device.{State}
use Rattle.sled_core.specs.declared.iobuf.Reserved.{Reserved}
use Rattle.sled_core.specs.declared.iobuf.Sealed.{Sealed}
use Rattle.sled_core.specs.declared.iobuf.SegmentPosition.{SegmentPosition}
use Rattle.sled_core.specs.Begun.{SegmentParts}
use Rattle.sled_core.specs.Fits.{held_of}
use Rattle.sled_core.specs.inside.Fits.{HoldsIn, HoldsSegment, log_parts}
use Rattle.sled_core.specs.LogFile.{StaysFrom}
use Rattle.sled_core.specs.declared.logger.joined_marks.JoinedMarks.{JoinedMarks}
use Rattle.sled_core.specs.inside.SealedBuffers.{behind_run, run_end}
use Rattle.sled_core.proofs.Line.HeldAround.{MarksBelow}
use Rattle.sled_core.proofs.Reserve.Entries.{some_long}
use Rattle.sled_core.proofs.Sealed.LaidLemmas.{EndsRise, ends_below}
use Rattle.sled_core.proofs.Sealed.RecordsEnd.{none_behind}
use Rattle.std.proofs.lemmas.Int.{ints}

-- buffers that end no higher than they begin are none
pub none_sealed : (from : ℕ) (bs : List Sealed) (to : ℕ) → EndsRise from bs to → to ≤ from → bs ≡ []
none_sealed from [] to rise low = refl
none_sealed from (b ∷ bs) to rise low = let below = ends_below b.end bs to rise.1 in absurd (omega (arith, rise.0, below.0, below.1, low))

-- those behind the ones at the front that are written rise as all do
pub rise_behind : (from : ℕ) (bs : List Sealed) (to : ℕ) → EndsRise from bs to → EndsRise (run_end from bs) (behind_run bs) to
rise_behind from [] to rise = rise
rise_behind from (b ∷ bs) to rise = by_test b.is_written (rise_behind b.end bs to rise.1) where
  by_test : (o : Bool) → EndsRise (run_end b.end bs) (behind_run bs) to → EndsRise (if o then run_end b.end bs else from) (if o then behind_run bs else b ∷ bs) to
  by_test true on = on
  by_test false on = rise

-- nothing is reserved behind what is written
pub none_reserved : (sum : List ℕ → ℕ) (size : ℕ) (site : SegmentPosition) (device : State) (fault : Option IoError) (bytes : List ℕ) (from : ℕ) (bs : List Sealed) (rs : List Reserved) (H : History) {stays : Message → Type 0}
    → HoldsSegment sum (log_parts size site device fault bytes from bs rs) stays H → length bytes ≤ from → rs ≡ []
none_reserved sum size site device fault bytes from bs rs H holds low = none_behind (max 20 from) rs (length bytes) holds.records.chain (omega (arith, low)) (some_long sum size (site.place / size) bytes rs holds.records.stand)

-- The log holds the same where that is said of its first segment.
abbrev pub emptied : (sum : List ℕ → ℕ) (size : ℕ) (site : SegmentPosition) (device : State) (fault : Option IoError) (bytes : List ℕ) (from : ℕ) (bs : List Sealed) (rs : List Reserved) (behind : List SegmentParts) (H : History)
    → {marks : JoinedMarks} → HoldsIn sum marks (log_parts size site device fault bytes from bs rs) behind H → from ≡ size → bs ≡ [] → rs ≡ [] → HoldsIn sum marks (log_parts size site device fault bytes size [] []) behind H
emptied sum size site device fault bytes from bs rs behind H holds full unsealed unreserved = record {
  begun = record {
    first = holds.begun.first;
    begins = holds.begun.begins;
    table = holds.begun.table;
    fits = holds.begun.fits;
    least = holds.begun.least;
    reached = (let reached = holds.begun.reached in omega (arith, reached, full));
    joined = holds.begun.joined;
    written = (let written = holds.begun.written in omega (arith, ints, written, full));
    marked = holds.begun.marked;
  };
  head = holds.head;
  later = holds.later;
  messages = holds.messages;
  own = (
      let Holds : ℕ → List Sealed → List Reserved → Type 0 = λ n cs l. HoldsSegment sum (log_parts size site device fault bytes n cs l) (StaysFrom H (held_of holds.begun)) (record { messages = holds.head; batches = H.batches }) in
      subst (λ n. Holds n [] []) full (subst (λ (cs : List Sealed). Holds from cs []) unsealed (subst (λ (l : List Reserved). Holds from bs l) unreserved holds.own)));
  others = holds.others;
  apart = holds.apart;
  marked = subst (λ n. MarksBelow sum (site.place + n) behind) full holds.marked;
}
