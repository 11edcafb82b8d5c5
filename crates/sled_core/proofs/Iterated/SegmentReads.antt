-- The record of a message stands where its pointer says as long as a slot has its segment, whether a table needs the message or not: a segment that is wholly on
-- the device is read to its end, and each message of it is reached.
use Rattle.std.proofs.Common.{◌≡◌, ◌⊎◌, ◌+◌, ◌*◌, ◌/◌, ◌≤◌, ◌<◌, ℕ, suc, List, Option, None, sym, subst, arith, inl, inr}
use Rattle.std.specs.List.{Contains}
use Rattle.std.specs.declared.io.Error.{Error as IoError}
use Rattle.std.proofs.Math.Nat.{mul-mod_left}
use Rattle.std.proofs.lemmas.Bool.{cases_lt}
use Rattle.sled_codec.specs.declared.result.DiskPtr.{DiskPtr}
use Rattle.sled_codec.specs.declared.result.DiskPtr.TheVariants.{Inline}
use Rattle.sled_codec.specs.History.{History, Message}
use Rattle.sled_codec.specs.Places.{MayBegin}
use Rattle.sled_codec.specs.Pointers.{lid_of}
use Rattle.sled_store.specs.Device.{State, Trace, state_of}
use Rattle.sled_store.specs.SegmentStates.{slot_at}
use Rattle.sled_store.proofs.Histories.Ascending.{apart_ascends}
use Rattle.sled_core.specs.declared.logger.Log.{Log}
use Rattle.sled_core.specs.Fits.{HasRecordOf, device_of, fault_of, line_of, machine_at, noted_in, segment_size_of}
use Rattle.sled_core.specs.OnFile.{HasSegment}
use Rattle.sled_core.specs.Recoverable.{NoHeaderOfZeros}
use Rattle.sled_core.specs.inside.Recoverable.{StandsInline}
use Rattle.sled_core.specs.inside.Running.{FitsWith}
use Rattle.sled_core.specs.inside.Shown.{shown}
use Rattle.sled_core.specs.inside.Slots.{IsWholeSegment, marked_at}
use Rattle.sled_core.specs.invariants.Running.{Fits}
use Rattle.sled_core.proofs.Iterated.OfLog.{apart_messages, whole}
use Rattle.sled_core.proofs.Iterated.ReadHere.{IsReadHere, read_whole}
use Rattle.sled_core.proofs.Line.KeptReads.{record_begins}
use Rattle.sled_core.proofs.Line.Records.{IsHeldAt}
use Rattle.sled_core.proofs.Reached.MetWritten.{reached_begins}
use Rattle.sled_core.proofs.Tail.Multiples.{apart, put_down}
use Rattle.sled_core.proofs.Tail.OfHistory.{message_of}
use Rattle.sled_core.proofs.Tail.Rows.{path_stands, stand_in}

module _ {D C : Type 0} (trace : D → Trace) (sum : List ℕ → ℕ) (log : Log D C) (H : History) (A f : ℕ) (U : List Message) where
  abbrev size : ℕ
  size = log.config.config.segment_size

  abbrev some : 256 ≤ size
  some = log.config.config.least

  abbrev state : State
  state = state_of (trace log.config.device)

  -- Of a message before the first segment that isn't wholly on the device.
  module _ (fits : FitsWith sum log.marks (noted_in log) size (shown size None (machine_at log) (line_of log) state) None (line_of log) (machine_at log) log.pins
      H A f U) (zeros : NoHeaderOfZeros sum) (m : Message) (there : Contains H.messages m) (has : HasSegment (machine_at log) (m.place / size * size))
      (low : m.place < log.segments.first.site.place) where
    abbrev k : ℕ
    k = has.0

    abbrev begins_at : ℕ
    begins_at = (slot_at (machine_at log) k).lsn

    -- its segment is read to its end
    its : IsWholeSegment sum size state.log.bytes H (k * size) begins_at
    its =
        let parts = put_down size m.place in
        let far = apart size (omega (arith, some)) (m.place / size * size) log.segments.first.site.place parts.1 fits.parts.holds.own.records.place_begins
        (omega (arith, parts.0, low)) in
        whole trace sum log H A f U fits zeros k has.1 (omega (arith, far, has.2))

    older_begins : MayBegin size (lid_of m.pointer)
    older_begins = reached_begins sum size state.log.bytes (marked_at (k * size) begins_at its.mark) m (mul-mod_left k size) (its.reached m there (sym has.2))

    -- and so it stands there
    older_held : (lid : ℕ) → m.pointer ≡ Inline lid → IsHeldAt sum size state.log.bytes lid m
    older_held lid pointer =
        let here : IsReadHere sum size state.log.bytes H (suc m.place) (k * size) begins_at =
        read_whole sum size state.log.bytes H (suc m.place) (k * size) begins_at its in
        let found = here.has m there (sym has.2) (omega arith) in
        let lies = stand_in (begins_at + 20) here.met (begins_at + here.stop) (path_stands sum size state.log.bytes (k * size) begins_at 20 here.met here.stop here.path)
        found.0 found.1 in
        let place = found.2.place in
        let both = message_of sum size state.log.bytes H (apart_ascends H.messages (apart_messages trace sum log H A f U fits zeros)) found.0
        (here.truth found.0 found.1) m there (omega (arith, place)) (omega (arith, place, lies.1)) in
        record {
          begins = subst (λ (p : DiskPtr). MayBegin size (lid_of p)) pointer older_begins;
          stands = subst (StandsInline sum size state.log.bytes m) pointer both.1;
        }

-- So it is of a log that fits the history, and keeps no failure.
module _ {D C : Type 0} (trace : D → Trace) (sum : List ℕ → ℕ) (log : Log D C) (H : History) (A f : ℕ) (U : List Message) (fits : Fits trace sum log H A f U)
    (free : fault_of log ≡ None) (zeros : NoHeaderOfZeros sum) (m : Message) (there : Contains H.messages m)
    (has : HasSegment (machine_at log) (m.place / segment_size_of log * segment_size_of log)) where
  shows_whole : FitsWith sum log.marks (noted_in log) (segment_size_of log)
      (shown (segment_size_of log) None (machine_at log) (line_of log) (state_of (trace (device_of log)))) None (line_of log) (machine_at log) log.pins H A f U
  unfolding Fits
  shows_whole =
      subst (λ (o : Option IoError). FitsWith sum log.marks (noted_in log) (segment_size_of log)
      (shown (segment_size_of log) o (machine_at log) (line_of log) (state_of (trace (device_of log)))) o (line_of log) (machine_at log) log.pins H A f U)
      free fits.shows

  -- A record may begin at its offset.
  pub segment_begins : MayBegin (segment_size_of log) (lid_of m.pointer)
  segment_begins = elim (cases_lt m.place log.segments.first.site.place) [
    | inl low ↦ older_begins trace sum log H A f U shows_whole zeros m there has low
    | inr above ↦ record_begins trace sum log H A f U fits m free zeros there (inl (omega (arith, above)))
  ]

  -- The log has its record, or it lies before the first segment that isn't wholly on the device, and stands there.
  pub segment_held : (lid : ℕ) → m.pointer ≡ Inline lid
      → HasRecordOf log H m ⊎ ((m.place < log.segments.first.site.place) × IsHeldAt sum (segment_size_of log) (state_of (trace (device_of log))).log.bytes lid m)
  segment_held lid pointer = elim (cases_lt m.place log.segments.first.site.place) [
    | inl low ↦ inr (low, older_held trace sum log H A f U shows_whole zeros m there has low lid pointer)
    | inr above ↦ inl (inl (omega (arith, above)))
  ]
