-- What a log holds it goes on holding, where its first segment does, over the same device.
use Rattle.std.proofs.Common.{◌≡◌, ◌≤◌, ◌<◌, ◌+◌, ◌∙◌, ℕ, List, ◌∷◌, ◌++◌, length, set, Option, Some, refl, sym, ap, subst, arith, append_assoc, inl, inr, false}
use Rattle.std.specs.List.{slice_get}
use Rattle.std.specs.declared.io.Error.{Error as IoError}
use Rattle.std.proofs.lemmas.List.Elements.{All-contains, Contains-append_cases}
use Rattle.sled_codec.specs.Written.{written}
use Rattle.sled_codec.specs.History.{Message, Batch, History, AddsMessage}
use Rattle.sled_store.specs.Device.{State}
use Rattle.sled_core.specs.Manifests.{is_manifest}
use Rattle.sled_core.specs.declared.iobuf.ReservationState.TheVariants.{Open, Completed}
use Rattle.sled_core.specs.declared.iobuf.Reserved.{Reserved}
use Rattle.sled_core.specs.declared.iobuf.Sealed.{Sealed}
use Rattle.sled_core.specs.declared.iobuf.SegmentPosition.{SegmentPosition}
use Rattle.sled_core.specs.inside.Buffers.{completing, ended}
use Rattle.sled_core.specs.Buffers.{message_in}
use Rattle.sled_core.specs.Begun.{SegmentParts}
use Rattle.sled_core.specs.Fits.{held_of}
use Rattle.sled_core.specs.inside.Fits.{log_parts, HoldBehind, HoldsIn, HoldsSegment}
use Rattle.sled_core.specs.inside.LogFile.{StaysBelow}
use Rattle.sled_core.specs.LogFile.{StaysFrom}
use Rattle.sled_core.specs.inside.SealedBuffers.{AreSealed, one_ended}
use Rattle.sled_core.specs.declared.logger.joined_marks.JoinedMarks.{JoinedMarks}
use Rattle.sled_core.proofs.Holds.BegunLemmas.{begun-adds, stays_adds}
use Rattle.sled_core.proofs.Holds.BehindKept.{behind_fewer}
use Rattle.sled_core.proofs.Holds.CompletedLemmas.{behind_written, ends_within, segment-complete}
use Rattle.sled_core.proofs.Holds.HeldFrom.{held_reached}
use Rattle.sled_core.proofs.Holds.WholeHistory.{behind_above}

module _ (sum : List ℕ → ℕ) (size : ℕ) (site : SegmentPosition) (device : State) (fault : Option IoError) (bytes : List ℕ) (from : ℕ) (bs : List Sealed) (rs : List Reserved) (H : History)
    {behind : List SegmentParts} {marks : JoinedMarks} (holds : HoldsIn sum marks (log_parts size site device fault bytes from bs rs) behind H) where
  -- what the first segment holds
  abbrev of_first : History
  of_first = record { messages = holds.head; batches = H.batches }

  abbrev stable : ℕ
  stable = held_of holds.begun

  module _ (i : ℕ) (r : Reserved) (there : slice_get rs i ≡ Some r) (is_open : r.state ≡ Open) (written_low : from ≤ length bytes) (are : AreSealed from rs bs) where
    -- The message of an open reservation is added at its place, in front of those of the segments behind.
    module _ (inside : length bytes ≤ size) (none : is_manifest r.log_kind r.page ≡ false) where
      abbrev m : Message
      m = message_in site bytes r

      -- what the first segment holds then
      done : (H' : History) × AddsMessage of_first m H' × ((stays' : Message → Type 0) → ((x : Message) → x.place < site.place → stays' x → StaysFrom H stable x)
          → HoldsSegment sum (log_parts size site device fault (written bytes r.from (completing r)) from (one_ended i bs) (set rs i (ended Completed r))) stays' H')
      done = segment-complete sum size site device fault bytes from bs rs i r of_first holds.own there is_open written_low are none

      above : site.place + from ≤ m.place
      above = behind_written sum size site device fault bytes from bs rs i r of_first holds.own there

      below_end : m.place < site.place + size
      below_end = let low = ends_within sum size site device fault bytes from bs rs i r of_first holds.own there is_open in omega (arith, low, inside)

      abbrev now : History
      now = record { messages = done.0.messages ++ holds.later; batches = done.0.batches }

      adds : AddsMessage H m now
      adds = record {
        changes = done.1.changes;
        before = done.1.before;
        after = done.1.after ++ holds.later;
        old = holds.messages ∙ ap (λ (ms : List Message). ms ++ holds.later) done.1.old ∙ append_assoc done.1.before done.1.after holds.later;
        new = ap (λ (ms : List Message). ms ++ holds.later) done.1.new ∙ append_assoc done.1.before (m ∷ done.1.after) holds.later;
        lower = done.1.lower;
        higher = λ x among. elim (Contains-append_cases done.1.after holds.later x among) [
          | inl own ↦ done.1.higher x own
          | inr later ↦ (
              let far = All-contains (λ (y : Message). site.place + size ≤ y.place) holds.later x (behind_above sum size device fault (site.place + size) behind (StaysBelow H stable site.place) H.batches holds.later holds.others) later in
              omega (arith, far, below_end))
        ];
        batches = done.1.batches;
      }

      past : stable ≤ m.place
      past = let reached = held_reached marks.ordered holds.begun in omega (arith, above, reached)

      pub holds-complete : (H' : History) × AddsMessage H m H' × HoldsIn sum marks (log_parts size site device fault (written bytes r.from (completing r)) from (one_ended i bs) (set rs i (ended Completed r))) behind H'
      holds-complete = (
        now,
        adds,
        record {
          begun = begun-adds H now m adds sum size device.snapshots.file site from above holds.begun;
          head = done.0.messages;
          later = holds.later;
          messages = refl;
          own = done.2 (StaysFrom now stable) (λ x low its. stays_adds H now m adds stable past x (omega (arith, low, above)) its);
          others = subst (λ (b : List Batch). HoldBehind sum size device fault (site.place + size) behind (StaysBelow now stable site.place) b holds.later) (sym done.1.batches)
              (behind_fewer sum size device fault (site.place + size) behind (StaysBelow H stable site.place) (StaysBelow now stable site.place) H.batches holds.later
              (λ x its. let low = its.1 in (stays_adds H now m adds stable past x (omega (arith, low, above)) its.0, its.1)) holds.others);
          apart = holds.apart;
          marked = holds.marked;
        },
      )
