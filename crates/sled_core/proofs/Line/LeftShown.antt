-- What a crash leaves of the device of a log that fits a history can be recovered where what it leaves of what is shown can: no call on the log file is under
-- way, and what the file has besides what is shown is of segments that are gone.
use Rattle.std.specs.declared.io.Error.{Error as IoError}
use Rattle.std.proofs.Common.{◌≡◌, ◌≤◌, ℕ, List, [], ◌∷◌, Option, None, refl, sym, subst, inl, inr}
use Rattle.sled_codec.specs.History.{Batch, History, Message}
use Rattle.sled_codec.specs.Snapshots.{SnapshotModel}
use Rattle.sled_store.specs.Device.{State}
use Rattle.sled_store.specs.Foreign.{HeaderWasPlaced, RecordWasPlaced}
use Rattle.sled_store.specs.SegmentStates.{Machine}
use Rattle.sled_core.specs.Begun.{SegmentView}
use Rattle.sled_core.specs.Fits.{fault_of, line_of, machine_at, noted_in, pins_of, segment_size_of}
use Rattle.sled_core.specs.Logged.{logged}
use Rattle.sled_core.specs.OpenBatches.{stable_below}
use Rattle.sled_core.specs.Recoverable.{NoHeaderOfZeros}
use Rattle.sled_core.specs.declared.logger.Log.{Log}
use Rattle.sled_core.specs.declared.logger.joined_marks.JoinedMarks.{JoinedMarks}
use Rattle.sled_core.specs.LogSegments.{begins_from}
use Rattle.sled_core.specs.inside.Cleared.{cleared}
use Rattle.sled_core.specs.inside.Begun.{line_end}
use Rattle.sled_core.specs.inside.Lasting.{LeavesRecovering}
use Rattle.sled_core.specs.inside.Running.{FitsShown}
use Rattle.sled_core.specs.inside.Shown.{shown}
use Rattle.sled_core.proofs.Cleared.Shown.{shown_faulty, shown_rests}
use Rattle.sled_core.proofs.Flush.FlushLemmas.{fault_or_none}
use Rattle.sled_core.proofs.Freed.LeftRecovers.{rest_recovers}
use Rattle.sled_core.proofs.Line.Faulty.{line_leaves}
use Rattle.sled_core.proofs.Line.Segments.{AreSegments, line_segments}
use Rattle.sled_core.proofs.Line.ShownParts.{file_among, file_low, file_own, file_reads}
use Rattle.sled_core.proofs.Logged.Messages.{logged_twice}
use Rattle.sled_core.proofs.OwnLog.Zeroed.{own_read}

module _ (sum : List ℕ → ℕ) (marks : JoinedMarks) (noted : List Batch) (size : ℕ) (big : 256 ≤ size) (device : State) (fault : Option IoError) (m : Machine) (pins : ℕ)
    (H : History) (A f : ℕ) (U : List Message) where
  -- Where no failure is kept.
  pub left_real : fault ≡ None → (place : ℕ) (line : List SegmentView) → AreSegments size place line
      → (fits : FitsShown sum marks noted size device fault line m pins H A f U)
      → LeavesRecovering sum size H (stable_below fits.shows.reach H.batches) f device
  left_real whole place [] are fits left leaves own_left = absurd fits.shows.parts
  left_real whole place (v ∷ vs) are fits left leaves own_left =
      let zeros : NoHeaderOfZeros sum = own_left.zeros in
      let line : List SegmentView = v ∷ vs in
      let its = fits.shows.parts in
      let first : SnapshotModel = its.holds.begun.first in
      let file : List ℕ = cleared size m line device.log.bytes in
      let here : AreSegments size v.parts.site.place line = subst (λ p. AreSegments size p line) (sym are.0.at) are in
      let among = file_among sum marks noted size big device fault whole zeros m pins H A f U v vs here fits.shows in
      rest_recovers sum size big device m line first (begins_from size marks.joined) (logged H) (fits.hides whole zeros first its.holds.begun.begins)
      (file_reads sum marks noted size big device fault whole zeros m pins H A f U v vs here fits.shows) (line_end size line) fits.shows.slots.own file
      among.stands.ordering among.stands.numbers among.stands.marks
      (file_low sum marks noted size big device fault whole zeros m pins H A f U v vs here fits.shows (fits.marked whole zeros)) H (logged_twice H)
      (fits.rests whole)
      (λ k p mark header. refl) (shown size fault m line device) (shown_rests size fault m line device whole) refl refl
      (λ slot. own_read sum size (HeaderWasPlaced device.placed) (RecordWasPlaced sum size device.placed) file slot
      (file_own sum marks noted size big device fault whole zeros m pins H A f U v vs here fits.shows slot))
      (logged H) f its.named.names (stable_below fits.shows.reach H.batches) f its.left left leaves own_left

-- So it is of a log over a device, whether it keeps a failure or not.
pub log_leaves : {D C : Type 0} (sum : List ℕ → ℕ) (log : Log D C) (H : History) (A f : ℕ) (U : List Message) (device : State)
    → (fits : FitsShown sum log.marks (noted_in log) (segment_size_of log) device (fault_of log) (line_of log) (machine_at log) (pins_of log) H A f U)
    → LeavesRecovering sum (segment_size_of log) H (stable_below fits.shows.reach H.batches) f device
log_leaves sum log H A f U device fits = elim (fault_or_none log.fault.kept) [
  | inl none ↦ left_real sum log.marks (noted_in log) (segment_size_of log) log.config.config.least device (fault_of log) (machine_at log) (pins_of log) H A f U none
      log.segments.first.site.place (line_of log) (line_segments log) fits
  | inr some ↦ subst (LeavesRecovering sum (segment_size_of log) H (stable_below fits.shows.reach H.batches) f)
      (shown_faulty (segment_size_of log) some.0 (fault_of log) some.1 (machine_at log) (line_of log) device)
      (line_leaves sum _ (segment_size_of log) (shown (segment_size_of log) (fault_of log) (machine_at log) (line_of log) device) (fault_of log) (line_of log)
      fits.shows.reach (pins_of log) H A f U fits.shows.parts)
]
