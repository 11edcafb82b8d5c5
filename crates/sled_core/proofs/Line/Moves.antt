-- A log whose segments are these, over the same device, holds and fits what these do over what was shown, where the same counts for nothing.
use Rattle.std.proofs.Common.{◌≡◌, sym, subst, ℕ, List, Option, None}
use Rattle.std.specs.declared.io.Error.{Error as IoError}
use Rattle.sled_codec.specs.History.{Batch, History, Message}
use Rattle.sled_store.specs.declared.config.RunningConfig.{RunningConfig}
use Rattle.sled_store.specs.Device.{Trace, state_of}
use Rattle.sled_store.specs.SegmentStates.{Machine}
use Rattle.sled_core.specs.Begun.{SegmentView}
use Rattle.sled_core.specs.declared.logger.Log.{Log}
use Rattle.sled_core.specs.declared.logger.joined_marks.JoinedMarks.{JoinedMarks}
use Rattle.sled_core.specs.invariants.Fits.{Holds}
use Rattle.sled_core.specs.inside.Fits.{HoldsShown, HoldsWith, written_to}
use Rattle.sled_core.specs.Fits.{config_of, device_of, fault_of, line_of, machine_at, noted_in, pins_of, segment_size_of}
use Rattle.sled_core.specs.Logged.{logged}
use Rattle.sled_core.specs.invariants.Running.{Fits}
use Rattle.sled_core.specs.Recoverable.{NoHeaderOfZeros}
use Rattle.sled_core.specs.inside.Cleared.{cleared}
use Rattle.sled_core.specs.inside.Hides.{HidesFrom}
use Rattle.sled_core.specs.inside.MarksFit.{ArePassedFrom, MarksFitFrom}
use Rattle.sled_core.specs.inside.Running.{FitsShown, FitsWith}
use Rattle.sled_core.specs.inside.Shown.{FreesNothing, RestsWhole, shown_of}
use Rattle.sled_core.proofs.Cleared.Shown.{ShowsSame}
use Rattle.sled_core.proofs.Line.Shown.{fits_shown, holds_shown}
use Rattle.sled_core.specs.LogSegments.{begins_from}

-- the marks of a log that keeps no failure stand in what it shows
abbrev pub MarksStand : {D C : Type 0} → (D → Trace) → (List ℕ → ℕ) → Log D C → Type 0
MarksStand trace sum log =
    fault_of log ≡ None → NoHeaderOfZeros sum → MarksFitFrom sum (segment_size_of log) (state_of (trace (device_of log))).snapshots.file
    (cleared (segment_size_of log) (machine_at log) (line_of log) (state_of (trace (device_of log))).log.bytes) log.marks

-- and these segments pass them
abbrev pub MarksPass : {D C : Type 0} → (D → Trace) → (List ℕ → ℕ) → Log D C → List SegmentView → History → Type 0
MarksPass trace sum log line H =
    fault_of log ≡ None → ArePassedFrom sum (state_of (trace (device_of log))).snapshots.file (written_to line) H.batches log.marks

-- nothing was freed, and with slots as these nothing is due, as long as no mark above the floor joined
abbrev pub LogFreesNothing : {D C : Type 0} → (D → Trace) → Log D C → Machine → ℕ → Type 0
LogFreesNothing trace log m f =
    fault_of log ≡ None → FreesNothing (segment_size_of log) log.marks f m
    (cleared (segment_size_of log) (machine_at log) (line_of log) (state_of (trace (device_of log))).log.bytes)
    (state_of (trace (device_of log))).log.bytes

module _ {D C : Type 0} (trace : D → Trace) (sum : List ℕ → ℕ) (old new : Log D C) (config : config_of new ≡ config_of old) (fault : fault_of new ≡ fault_of old) (marks : new.marks ≡ old.marks) (bs : List Batch) (noted : noted_in new ≡ bs)
    (line : List SegmentView) (is_line : line_of new ≡ line) (m : Machine) (is_machine : machine_at new ≡ m)
    (same : ShowsSame (segment_size_of old) (machine_at old) m (line_of old) line)
    (rests : RestsWhole (fault_of old) (state_of (trace (device_of old))).log) (H : History) where
  pub holds_as : HoldsWith sum old.marks bs (segment_size_of old) (shown_of trace old) (fault_of old) line m (logged H) → Holds trace sum new H
  unfolding Holds
  holds_as holds =
      subst (λ (x : JoinedMarks). HoldsShown sum x (noted_in new) (segment_size_of new) (state_of (trace (device_of new))) (fault_of new) (line_of new) (machine_at new) (logged H)) (sym marks)
      (subst (λ (x : RunningConfig D C). HoldsShown sum old.marks (noted_in new) x.config.segment_size (state_of (trace x.device)) (fault_of new) (line_of new) (machine_at new) (logged H)) (sym config)
      (subst (λ (e : Option IoError). HoldsShown sum old.marks (noted_in new) (segment_size_of old) (state_of (trace (device_of old))) e (line_of new) (machine_at new) (logged H)) (sym fault)
      (subst (λ (l : List SegmentView). HoldsShown sum old.marks (noted_in new) (segment_size_of old) (state_of (trace (device_of old))) (fault_of old) l (machine_at new) (logged H)) (sym is_line)
      (subst (λ (x : Machine). HoldsShown sum old.marks (noted_in new) (segment_size_of old) (state_of (trace (device_of old))) (fault_of old) line x (logged H)) (sym is_machine)
      (subst (λ (l : List Batch). HoldsShown sum old.marks l (segment_size_of old) (state_of (trace (device_of old))) (fault_of old) line m (logged H)) (sym noted)
      (holds_shown sum bs (segment_size_of old) (state_of (trace (device_of old))) (fault_of old) (machine_at old) m (line_of old) line same
      rests old.marks (logged H) holds))))))

  pub fits_as : (A f : ℕ) (U : List Message) → pins_of new ≡ pins_of old
      → (fault_of old ≡ None → NoHeaderOfZeros sum → HidesFrom sum (segment_size_of old) (begins_from (segment_size_of old) old.marks.joined) (state_of (trace (device_of old))) m line (logged H))
      → MarksStand trace sum old
      → MarksPass trace sum old line H
      → LogFreesNothing trace old m f
      → FitsWith sum old.marks bs (segment_size_of old) (shown_of trace old) (fault_of old) line m (pins_of old) H A f U → Fits trace sum new H A f U
  unfolding Fits
  fits_as A f U pins hides marked passed clean fits =
      subst (λ (x : JoinedMarks). FitsShown sum x (noted_in new) (segment_size_of new) (state_of (trace (device_of new))) (fault_of new) (line_of new) (machine_at new) (pins_of new) H A f U) (sym marks)
      (subst (λ (x : RunningConfig D C). FitsShown sum old.marks (noted_in new) x.config.segment_size (state_of (trace x.device)) (fault_of new) (line_of new) (machine_at new) (pins_of new) H A f U) (sym config)
      (subst (λ (e : Option IoError). FitsShown sum old.marks (noted_in new) (segment_size_of old) (state_of (trace (device_of old))) e (line_of new) (machine_at new) (pins_of new) H A f U) (sym fault)
      (subst (λ (l : List SegmentView). FitsShown sum old.marks (noted_in new) (segment_size_of old) (state_of (trace (device_of old))) (fault_of old) l (machine_at new) (pins_of new) H A f U) (sym is_line)
      (subst (λ (x : Machine). FitsShown sum old.marks (noted_in new) (segment_size_of old) (state_of (trace (device_of old))) (fault_of old) line x (pins_of new) H A f U) (sym is_machine)
      (subst (λ n. FitsShown sum old.marks (noted_in new) (segment_size_of old) (state_of (trace (device_of old))) (fault_of old) line m n H A f U) (sym pins)
      (subst (λ (l : List Batch). FitsShown sum old.marks l (segment_size_of old) (state_of (trace (device_of old))) (fault_of old) line m (pins_of old) H A f U) (sym noted)
      (fits_shown sum bs (segment_size_of old) (state_of (trace (device_of old))) (fault_of old) (machine_at old) m (line_of old) line same
      rests old.marks (pins_of old) H A f U hides marked passed clean fits)))))))
