-- While a log writes a buffer, and once it has, a crash leaves of its device what can be recovered where what it leaves of what is shown can.
use Rattle.std.specs.declared.io.Error.{Error as IoError}
use Rattle.std.proofs.Common.{◌≡◌, ◌≤◌, ℕ, true, List, [], ◌∷◌, set, Option, Some, None, refl, sym, ap, subst, arith}
use Rattle.std.specs.List.{slice_get}
use Rattle.sled_codec.specs.History.{Batch, History, Message}
use Rattle.sled_codec.specs.Snapshots.{SnapshotModel}
use Rattle.sled_store.specs.Device.{Event, State}
use Rattle.sled_store.specs.SegmentStates.{Machine}
use Rattle.sled_store.specs.inside.Script.{Along}
use Rattle.sled_core.specs.Begun.{SegmentView}
use Rattle.sled_core.specs.LogSegments.{begins_from}
use Rattle.sled_core.specs.Logged.{logged}
use Rattle.sled_core.specs.OpenBatches.{stable_below}
use Rattle.sled_core.specs.Recoverable.{NoHeaderOfZeros}
use Rattle.sled_core.specs.Tail.{least_place}
use Rattle.sled_core.specs.declared.iobuf.Sealed.{Sealed}
use Rattle.sled_core.specs.declared.logger.joined_marks.JoinedMarks.{JoinedMarks}
use Rattle.sled_core.specs.inside.Hides.{Hides}
use Rattle.sled_core.specs.inside.Lasting.{LeavesRecovering}
use Rattle.sled_core.specs.inside.Running.{FitsShown}
use Rattle.sled_core.specs.inside.SealedBuffers.{is_ready}
use Rattle.sled_core.specs.inside.Shown.{shown}
use Rattle.sled_core.specs.inside.Turned.{promoted, written_now}
use Rattle.sled_core.proofs.Line.Ends.{line_holds, with_part}
use Rattle.sled_core.proofs.Line.MarksJoin.{marks_base}
use Rattle.sled_core.proofs.Line.OwnSlots.{reads_placed}
use Rattle.sled_core.proofs.Line.PlacedWrite.{written_so}
use Rattle.sled_core.proofs.Line.Segments.{AreSegments, nth_segment}
use Rattle.sled_core.proofs.Line.ShownParts.{file_among, file_low, file_own, file_taken, file_whole, file_written, line_reads}
use Rattle.sled_core.proofs.Line.TornLine.{along_shown}
use Rattle.sled_core.proofs.Line.Writes.{buffer_calls, buffer_synced}
use Rattle.sled_core.proofs.Logged.Messages.{logged_twice}
use Rattle.sled_core.proofs.Reached.BufferPath.{buffer_header}
use Rattle.sled_core.proofs.Reached.StartedStands.{both_along}
use Rattle.sled_core.proofs.Sealed.Marked.{ready_closed, ready_fresh}
use Rattle.sled_core.proofs.Start.StartedMoments.{along_if}

module _ (sum : List ℕ → ℕ) (marks now : JoinedMarks) (joined : now.joined ≡ marks.joined) (noted left : List Batch) (size : ℕ) (big : 256 ≤ size)
    (device : State) (fault : Option IoError) (whole : fault ≡ None) (m : Machine) (pins : ℕ) (H : History) (A f : ℕ) (U : List Message) where
  -- A buffer of a segment is written.
  module _ (place : ℕ) (line : List SegmentView) (are : AreSegments size place line) (fits : FitsShown sum marks noted size device fault line m pins H A f U)
      (n : ℕ) (u : SegmentView) (at : slice_get line n ≡ Some u) (k : ℕ) (b : Sealed) (there : slice_get u.parts.sealed k ≡ Some b)
      (ready : is_ready b ≡ true) where
    abbrev stable : ℕ
    stable = stable_below fits.shows.reach H.batches

    abbrev Recovers : State → Type 0
    Recovers = LeavesRecovering sum size H stable f

    abbrev calls : List Event
    calls = buffer_calls sum size big device fault whole u k b there ready

    abbrev sees : State
    sees = shown size fault m line device

    -- the segments that are left, and the device then
    abbrev line_left : List SegmentView
    line_left = promoted size (set line n (written_now k u))

    abbrev synced : State
    synced = buffer_synced sum size big device fault whole u k b there ready

    module _ (behind : ℕ) (are_left : AreSegments size behind line_left) (later : FitsShown sum now left size synced None line_left m pins H A f U)
        (along : Along Recovers calls sees) where
      left_if : NoHeaderOfZeros sum → Along Recovers calls device
      left_if zeros = by line are at fits along are_left later where
        by : (l : List SegmentView) → AreSegments size place l → slice_get l n ≡ Some u → (its : FitsShown sum marks noted size device fault l m pins H A f U)
            → Along (LeavesRecovering sum size H (stable_below its.shows.reach H.batches) f) calls (shown size fault m l device)
            → AreSegments size behind (promoted size (set l n (written_now k u)))
            → FitsShown sum now left size synced None (promoted size (set l n (written_now k u))) m pins H A f U
            → Along (LeavesRecovering sum size H (stable_below its.shows.reach H.batches) f) calls device
        by [] l_are l_at its moments l_left then = absurd its.shows.parts
        by (v ∷ vs) l_are l_at its moments l_left then =
            let here : AreSegments size v.parts.site.place (v ∷ vs) = subst (λ p. AreSegments size p (v ∷ vs)) (sym l_are.0.at) l_are in
            let parts = its.shows.parts in
            let first : SnapshotModel = parts.holds.begun.first in
            let small = (nth_segment size place (v ∷ vs) l_are n u l_at).place_small in
            with_part sum size (shown size fault m (v ∷ vs) device) fault _ (v ∷ vs) n u (logged H) parts.holds l_at (λ stays own segment.
            along_shown sum zeros size big m v vs here (file_taken sum marks noted size big device fault whole zeros m pins H A f U v vs here its.shows)
            its.shows.slots.own device (begins_from size marks.joined) (logged H) first its.shows.reach (its.hides whole zeros first parts.holds.begun.begins)
            (file_whole sum marks noted size big device fault whole zeros m pins H A f U v vs here its.shows)
            (file_among sum marks noted size big device fault whole zeros m pins H A f U v vs here its.shows)
            (file_own sum marks noted size big device fault whole zeros m pins H A f U v vs here its.shows)
            (marks_base sum marks size big (shown size fault m (v ∷ vs) device) fault (v ∷ vs) (logged H) parts.holds) n u l_at k b there (ready_fresh b ready)
            (ready_closed b ready) segment.records.stand
            (file_written sum marks noted size big device fault whole zeros m pins H A f U v vs here its.shows n u l_at).stand
            (written_so sum size big (shown size fault m (v ∷ vs) device) fault whole u k b there ready place (v ∷ vs) l_are n l_at m its.shows.slots
            (logged H) _ parts.holds zeros (its.shows.own whole zeros))
            (λ fresh. let mark = segment.records.header fresh in
            (mark.mark, buffer_header sum u.parts.site u.parts.bytes (record { messages = own; batches = (logged H).batches }) mark (omega (arith, small))))
            (line_reads sum now left size big synced None refl zeros m pins H A f U behind (promoted size (set (v ∷ vs) n (written_now k u))) l_left then.shows)
            (its.rests whole)
            (file_low sum marks noted size big device fault whole zeros m pins H A f U v vs here its.shows (its.marked whole zeros)) H (logged_twice H)
            (logged H) f parts.named.names (stable_below its.shows.reach H.batches) f
            (subst (λ z. Hides sum size synced m (promoted size (set (v ∷ vs) n (written_now k u))) (least_place size first) (begins_from size z) (logged H))
            joined (then.hides refl zeros first parts.holds.begun.begins))
            (reads_placed sum size big zeros (shown size None m (promoted size (set (v ∷ vs) n (written_now k u))) synced) None refl behind
            (promoted size (set (v ∷ vs) n (written_now k u))) l_left (logged H) now
            (line_holds sum size (shown size None m (promoted size (set (v ∷ vs) n (written_now k u))) synced) None _
            (promoted size (set (v ∷ vs) n (written_now k u))) then.shows.reach pins H A f U then.shows.parts) (then.shows.own refl zeros))
            (subst (Along (LeavesRecovering sum size H (stable_below its.shows.reach H.batches) f) calls)
            (ap (λ (o : Option IoError). shown size o m (v ∷ vs) device) whole) moments))

      pub left_writes : Along Recovers calls device
      left_writes =
          let given : Along (λ s. NoHeaderOfZeros sum → Recovers s) calls device = along_if (NoHeaderOfZeros sum) Recovers calls device left_if in
          both_along (λ s. NoHeaderOfZeros sum → Recovers s) (λ s. NoHeaderOfZeros sum → Recovers s) Recovers
          (λ s recovers again content leaves own. recovers own.zeros content leaves own) calls device given given
