-- A log writes a buffer: what its file has besides what is shown is what it may have behind the call, from the snapshot on with which the log began.
use Rattle.std.specs.declared.io.Error.{Error as IoError}
use Rattle.std.proofs.Common.{◌≡◌, ℕ, true, List, [], ◌∷◌, map, set, Option, Some, None, sym, subst, ◌≤◌}
use Rattle.std.specs.List.{slice_get}
use Rattle.sled_codec.specs.History.{Batch, History, Message}
use Rattle.sled_codec.specs.Snapshots.{SnapshotModel}
use Rattle.sled_store.specs.Device.{State}
use Rattle.sled_store.specs.SegmentStates.{Machine}
use Rattle.sled_store.proofs.Names.OneBegin.{one_begin}
use Rattle.sled_core.specs.Begun.{SegmentView}
use Rattle.sled_core.specs.Logged.{logged}
use Rattle.sled_core.specs.Recoverable.{NoHeaderOfZeros}
use Rattle.sled_core.specs.declared.iobuf.Sealed.{Sealed}
use Rattle.sled_core.specs.declared.logger.joined_marks.JoinedMarks.{JoinedMarks}
use Rattle.sled_core.specs.inside.Fits.{begun_segment, parts_in}
use Rattle.sled_core.specs.inside.FreeSlots.{HasSlot}
use Rattle.sled_core.specs.inside.Hides.{Hides, HidesFrom}
use Rattle.sled_core.specs.inside.Reached.{StandsAmong}
use Rattle.sled_core.specs.inside.Running.{FitsWith}
use Rattle.sled_core.specs.inside.SealedBuffers.{is_ready}
use Rattle.sled_core.specs.inside.Shown.{shown}
use Rattle.sled_core.specs.inside.Slots.{AreWhole}
use Rattle.sled_core.specs.Tail.{least_place}
use Rattle.sled_core.specs.inside.Turned.{promoted, written_now}
use Rattle.sled_core.proofs.Cleared.Shown.{shown_bytes}
use Rattle.sled_core.proofs.Line.Ends.{with_part}
use Rattle.sled_core.proofs.Line.MarksJoin.{marks_base}
use Rattle.sled_core.proofs.Line.PlacedWrite.{written_so}
use Rattle.sled_core.proofs.Line.RunningHides.{running_written}
use Rattle.sled_core.proofs.Line.Segments.{AreSegments}
use Rattle.sled_core.proofs.Line.Writes.{buffer_synced}
use Rattle.sled_core.proofs.Reserve.Ranges.{at_there}
use Rattle.sled_core.specs.LogSegments.{begins_from}
use Rattle.sled_core.specs.inside.LogSegments.{held_since}

module _ (sum : List ℕ → ℕ) (marks : JoinedMarks) (noted : List Batch) (size : ℕ) (big : 256 ≤ size) (device : State) (fault : Option IoError) (whole : fault ≡ None)
    (zeros : NoHeaderOfZeros sum) (m : Machine) (pins : ℕ) (H : History) (A f : ℕ) (U : List Message) where
  -- A buffer of the n-th segment is written and synced.
  pub hides_behind : (place : ℕ) (line : List SegmentView) → AreSegments size place line
      → FitsWith sum marks noted size (shown size fault m line device) fault line m pins H A f U → HidesFrom sum size (begins_from size marks.joined) device m line (logged H)
      → (n : ℕ) (u : SegmentView) → slice_get line n ≡ Some u → (k : ℕ) (b : Sealed) (there : slice_get u.parts.sealed k ≡ Some b) (ready : is_ready b ≡ true)
      → HidesFrom sum size (begins_from size marks.joined) (buffer_synced sum size big device fault whole u k b there ready) m (promoted size (set line n (written_now k u))) (logged H)
  hides_behind place [] are fits hides n u at k b there ready first begins = absurd fits.parts
  hides_behind place (v ∷ vs) are fits hides n u at k b there ready first begins =
      let line : List SegmentView = v ∷ vs in
      let sees : State = shown size fault m line device in
      let bytes = shown_bytes size fault m line device whole in
      let here : AreSegments size v.parts.site.place line = subst (λ p. AreSegments size p line) (sym are.0.at) are in
      let its : SnapshotModel = fits.parts.holds.begun.first in
      let same : its ≡ first = one_begin sum device.snapshots.file its first fits.parts.holds.begun.begins begins in
      subst (λ (x : SnapshotModel). Hides sum size (buffer_synced sum size big device fault whole u k b there ready) m
      (promoted size (set line n (written_now k u))) (least_place size x) (begins_from size marks.joined) (logged H)) same
      (with_part sum size sees fault _ line n u (logged H) fits.parts.holds at (λ stays own segment.
      running_written sum zeros size big m v vs here (λ j w at_j. at_there (HasSlot size m) line j w at_j fits.slots.taken) fits.slots.own device (logged H)
      its fits.reach
      (subst (λ (l : List ℕ). AreWhole sum size l (logged H) v.parts.site.place m) bytes (fits.whole whole zeros))
      (subst (λ (l : List ℕ). StandsAmong sum (held_since size marks its) size l v.parts.site v.parts.written_len (map begun_segment (map parts_in vs)) fits.reach (logged H) its) bytes
      (fits.parts.among whole zeros))
      (begins_from size marks.joined) (hides its fits.parts.holds.begun.begins)
      (marks_base sum marks size big sees fault line (logged H) fits.parts.holds) n u at k b there ready (record { messages = own; batches = (logged H).batches }) segment.records
      (written_so sum size big sees fault whole u k b there ready place line are n at m fits.slots (logged H) _ fits.parts.holds zeros (fits.own whole zeros))))
