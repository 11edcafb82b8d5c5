-- A message is completed in a segment behind the first one of a log that fits a history: it fits the history with it.
use Rattle.std.proofs.Common.{◌≡◌, ◌≤◌, ◌<◌, ◌+◌, ℕ, List, ◌∷◌, ◌++◌, length, set, Option, None, Some, refl, arith, false, subst, sym, ap}
use Rattle.std.specs.List.{slice_get}
use Rattle.std.specs.declared.io.Error.{Error as IoError}
use Rattle.sled_codec.specs.History.{AddsMessage, History, Message}
use Rattle.sled_codec.specs.Written.{written}
use Rattle.sled_store.specs.Device.{State}
use Rattle.sled_core.specs.Logged.{logged, in_log}
use Rattle.sled_core.specs.Manifests.{is_manifest}
use Rattle.sled_core.specs.declared.iobuf.ReservationState.TheVariants.{Open, Completed}
use Rattle.sled_core.specs.declared.iobuf.Reserved.{Reserved}
use Rattle.sled_core.specs.declared.iobuf.Sealed.{Sealed}
use Rattle.sled_core.specs.declared.iobuf.SegmentPosition.{SegmentPosition}
use Rattle.sled_core.specs.inside.Buffers.{completing, ended}
use Rattle.sled_core.specs.Buffers.{message_in}
use Rattle.sled_core.specs.Begun.{SegmentParts}
use Rattle.sled_core.specs.inside.Fits.{HoldsIn, HoldsNext, log_parts}
use Rattle.sled_core.specs.inside.Running.{FitsIn}
use Rattle.sled_core.specs.Running.{KeepsItem}
use Rattle.sled_core.specs.inside.SealedBuffers.{FirstUnwritten, one_ended}
use Rattle.sled_core.specs.Reading.{BlobIsBelow}
use Rattle.sled_core.specs.declared.logger.joined_marks.JoinedMarks.{JoinedMarks}
use Rattle.sled_core.proofs.Line.HeldAround.{behind_place, held_around, held_here, now_with, stays_below}
use Rattle.sled_core.proofs.Line.HoldsCompleted.{adds_here, behind-complete, completed_history}
use Rattle.sled_core.proofs.Line.FitsCompleted.{behind-completed}
use Rattle.sled_core.proofs.Holds.CompletedLemmas.{behind_written, ends_within}
use Rattle.sled_core.proofs.Logged.Messages.{put_real}

module _ (sum : List ℕ → ℕ) (size : ℕ) (site : SegmentPosition) (device : State) (fault : Option IoError) (bytes : List ℕ) (from : ℕ) (bs : List Sealed) (rs : List Reserved) (pins : ℕ) (H : History) (A f : ℕ) (U : List Message)
    (pre : List SegmentParts) (s : SegmentParts) (post : List SegmentParts) {reach : ℕ} {marks : JoinedMarks} (its : FitsIn sum marks (log_parts size site device fault bytes from bs rs) (pre ++ s ∷ post) reach pins H A f U) where
  abbrev own_history : History
  own_history = record { messages = (held_around sum size site device fault bytes from bs rs (logged H) pre s post its.holds).own; batches = H.batches }

  abbrev here : HoldsNext sum size device fault (behind_place size (site.place + size) pre) s (stays_below sum size site device fault bytes from bs rs (logged H) pre s post its.holds) H.batches own_history.messages
  here = held_here sum size site device fault bytes from bs rs (logged H) pre s post its.holds

  -- One of its reservations is open.
  module _ (i : ℕ) (r : Reserved) (there : slice_get s.reserved i ≡ Some r) (is_open : r.state ≡ Open) where
    -- Its message is completed: the log fits the history with it.
    pub behind-fits-completed : (m : Message) → in_log m ≡ message_in s.site s.bytes r → BlobIsBelow m m.pointer → KeepsItem sum device.blobs m m.pointer → (none : is_manifest r.log_kind r.page ≡ false) → 256 ≤ size → (short : length bytes ≤ size) → fault ≡ None → FirstUnwritten s.sealed → 0 < pins
        → (H' : History) × AddsMessage H m H'
        × FitsIn sum marks (log_parts size site device fault bytes from bs rs) (pre ++ now_with s (written s.bytes r.from (completing r)) s.written_len (one_ended i s.sealed) (set s.reserved i (ended Completed r)) ∷ post) reach pins H' A f (m ∷ U)
    behind-fits-completed m its_message below stored none big short whole fresh out =
        let now : SegmentParts = now_with s (written s.bytes r.from (completing r)) s.written_len (one_ended i s.sealed) (set s.reserved i (ended Completed r)) in
        let real : History = completed_history sum size site device fault bytes from bs rs (logged H) pre s post its.holds short i r there is_open none in
        let done = put_real (HoldsIn sum marks (log_parts size site device fault bytes from bs rs) (pre ++ now ∷ post)) H m real
        (subst (λ (x : Message). AddsMessage (logged H) x real) (sym its_message) (adds_here sum size site device fault bytes from bs rs (logged H) pre s post its.holds short i r there is_open none))
        (behind-complete sum size site device fault bytes from bs rs (logged H) pre s post its.holds short i r there is_open none) in
        let place = ap (λ (x : Message). x.place) its_message in
        let inside = here.inside in (
          done.0,
          done.1,
          behind-completed sum size site device fault bytes from bs rs pins H A f U pre s post its now refl refl refl done.0 m big short whole done.2 done.1 below stored
              (let far = behind_written sum size s.site device fault s.bytes s.written_len s.sealed s.reserved i r own_history here.segment there in omega (arith, far, place))
              (let near = ends_within sum size s.site device fault s.bytes s.written_len s.sealed s.reserved i r own_history here.segment there is_open in omega (arith, near, inside, place)) fresh out,
        )
