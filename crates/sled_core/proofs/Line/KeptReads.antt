-- A message whose item is a blob is read, or the read has to wait: a record may begin at its offset, where the log has its record, whether that is stable, is
-- written behind a gap or behind an open batch, or lies in a buffer. So it is with one that is in the table of all that there is.
use Rattle.std.proofs.Common.{◌≡◌, ◌⊎◌, ◌≤◌, ◌≤ℤ◌, ◌<◌, ◌+◌, ℕ, ℤ, pos, List, [], ◌∷◌, map, Option, None, Result, Ok, Err, IfOk, subst, arith, inl, inr}
use Rattle.std.specs.List.{Contains}
use Rattle.std.specs.declared.io.Error.{Error as IoError}
use Rattle.std.proofs.lemmas.Bool.{cases_lt}
use Rattle.std.proofs.lemmas.List.Elements.{All-contains, Contains-append_cases}
use Rattle.sled_codec.specs.declared.result.DiskPtr.{DiskPtr}
use Rattle.sled_codec.specs.declared.result.DiskPtr.TheVariants.{Blob, Inline}
use Rattle.sled_codec.specs.Errors.{IsCorruption}
use Rattle.sled_codec.specs.declared.result.Error.{Error}
use Rattle.sled_codec.specs.declared.result.Error.TheVariants as error
use Rattle.sled_codec.specs.History.{Batch, History, Message, table}
use Rattle.sled_codec.specs.Places.{MayBegin}
use Rattle.sled_codec.specs.Pointers.{lid_of}
use Rattle.sled_codec.specs.Snapshots.{SnapshotModel}
use Rattle.sled_store.specs.Device.{State, Trace}
use Rattle.sled_store.proofs.Histories.Ascending.{Ascends}
use Rattle.sled_store.proofs.Histories.EarlierEntries.{entry_earlier}
use Rattle.sled_store.proofs.Segments.Elements.{in_first, in_map, in_nothing, in_rest}
use Rattle.sled_store.proofs.Segments.TableEntries.{from_table}
use Rattle.sled_core.specs.inside.Shown.{shown_of}
use Rattle.sled_core.specs.declared.logger.Log.{Log}
use Rattle.sled_core.specs.declared.logger.read_message.LogRead.{LogRead}
use Rattle.sled_core.specs.Begun.{SegmentParts, records_to, segment_view}
use Rattle.sled_core.specs.inside.Fits.{HoldBehind, begun_segment, parts_in}
use Rattle.sled_core.specs.Fits.{HasRecordOf, fault_of, line_of, machine_at, next_place, noted_in, segment_size_of, synced_end}
use Rattle.sled_core.specs.Logged.{in_log}
use Rattle.sled_core.specs.OpenBatches.{stable_below}
use Rattle.sled_core.specs.inside.Reached.{StandsAmong, StandsIn, StandsTo}
use Rattle.sled_core.specs.Causes.{IsFault}
use Rattle.sled_core.specs.Reading.{GivesMessage, IsInline}
use Rattle.sled_core.specs.inside.Causes.{RecordAnswers}
use Rattle.sled_core.specs.inside.ReadBuffer.{SettleAnswers}
use Rattle.sled_core.specs.ReadPointer.{GivesBlob, GivesBlobOrWaits, IsKeptBlob, IsStoredBlob}
use Rattle.sled_core.specs.Recoverable.{NoHeaderOfZeros}
use Rattle.sled_core.specs.invariants.Running.{Fits}
use Rattle.sled_core.specs.inside.Running.{FitsWith}
use Rattle.sled_core.specs.Tail.{least_place}
use Rattle.sled_core.proofs.Holds.HeldFrom.{held_under}
use Rattle.sled_core.proofs.Holds.ReachLemmas.{completed_behind}
use Rattle.sled_core.proofs.Line.StillThere.{still_there}
use Rattle.sled_core.proofs.Line.BlobReads.{among}
use Rattle.sled_core.proofs.Line.Reads.{fault_missed}
use Rattle.sled_core.proofs.Line.Rewritten.{ordered, synced_before}
use Rattle.sled_core.proofs.Line.Segments.{line_segments}
use Rattle.sled_core.proofs.Line.Spared.{entry_spared, entry_stored}
use Rattle.sled_core.proofs.Logged.Messages.{logged_ascends, logged_there}
use Rattle.sled_core.proofs.Reached.MetWritten.{reached_begins, written_begins}
use Rattle.sled_core.proofs.Sealed.Ended.{ends_up}
use Rattle.sled_core.specs.inside.LogSegments.{held_since}

-- Of segments one behind another that stand in the file as far as each is written: a message of them begins in what is written, or in a buffer.
module _ (sum : List ℕ → ℕ) (size : ℕ) (big : 256 ≤ size) (device : State) (fault : Option IoError) (H : History) (A : ℕ) (first : SnapshotModel) (reach : ℕ) (is : StandsTo sum size device.log.bytes H A first reach) (ordered : Ascends H.messages)
    (m : Message) (known : Contains H.messages m) where
  abbrev StandsSoFar : SegmentParts → Type 0
  StandsSoFar s = StandsIn sum size device.log.bytes (least_place size first) is.scanned s.site s.written_len (records_to s.filled size)

  behind_begins : (place : ℕ) (ss : List SegmentParts) (stays : Message → Type 0) (batches : List Batch) (ms : List Message) → HoldBehind sum size device fault place ss stays batches ms → ((s : SegmentParts) → Contains ss s → StandsSoFar s)
      → Contains ms (in_log m) → MayBegin size (lid_of m.pointer)
  behind_begins place [] stays batches ms none stand there = absurd (in_nothing (in_log m) (subst (λ (l : List Message). Contains l (in_log m)) none there))
  behind_begins place (s ∷ ss) stays batches ms (own, later, all, next, rest) stand there = elim (Contains-append_cases own later (in_log m) (subst (λ (l : List Message). Contains l (in_log m)) all there)) [
    | inl mine ↦ (
        let above = All-contains (λ (x : Message). place + 20 ≤ x.place) own (in_log m) next.above mine in
        let at = next.next in
        let inside = next.inside in
        let written = next.behind in
        elim (cases_lt m.place (s.site.place + s.written_len)) [
          | inl lower ↦ written_begins sum size device.log.bytes big H A first reach is ordered m known s.site s.written_len (records_to s.filled size) (stand s (in_first s ss)) (omega (arith, inside, written)) (omega (arith, above, at)) lower
          | inr higher ↦ (completed_behind sum size s.site device fault s.bytes s.written_len s.sealed s.reserved (record { messages = own; batches = batches }) next.segment inside (in_log m) mine higher).begins
        ])
    | inr others ↦ behind_begins (place + size) ss stays batches later rest (λ x behind. stand x (in_rest s x ss behind)) others
  ]

-- Of a log that fits a history, and keeps no failure.
module _ {D C : Type 0} (trace : D → Trace) (sum : List ℕ → ℕ) (log : Log D C) (H : History) (A f : ℕ) (U : List Message) where
  abbrev size : ℕ
  size = segment_size_of log

  abbrev state : State
  state = shown_of trace log

  module _ (fits : FitsWith sum log.marks (noted_in log) size state log.fault.kept (line_of log) (machine_at log) log.pins H A f U) (m : Message)
      (there : Contains H.messages m) where
    ascends : Ascends H.messages
    ascends = logged_ascends H (ordered trace sum log H A f U fits)

    module _ (none : log.fault.kept ≡ None) (zeros : NoHeaderOfZeros sum) where
      found : StandsAmong sum (held_since size log.marks fits.parts.holds.begun.first) size state.log.bytes log.segments.first.site log.segments.first.buffer.written_len (map begun_segment (map parts_in (map segment_view log.segments.behind.items))) fits.reach H fits.parts.holds.begun.first
      found = among trace sum log H A f U fits none zeros

      abbrev stands : StandsTo sum size state.log.bytes H (stable_below fits.reach H.batches) fits.parts.holds.begun.first fits.reach
      stands = found.stands

      -- a reader comes to an entry of the table
      at_cut : (cut : ℕ) → stands.from ≤ cut → cut ≤ fits.reach → Contains (table H cut m.page) m → MayBegin size (lid_of m.pointer)
      at_cut cut high passes entry =
          let its = (stands.needed cut high passes m.page m entry).0 in
          reached_begins sum size state.log.bytes its.segment m its.found.slot its.reached

      -- at any cut from where what is held counts
      of_table : m.place < fits.reach → (cut : ℕ) → (log.marks.joined ≤ℤ pos cut) ⊎ (synced_end log ≤ cut) → Contains (table H cut m.page) m
          → MayBegin size (lid_of m.pointer)
      of_table low cut far entry =
          let high = stands.from_high in
          let passes = stands.passes in
          elim (cases_lt cut fits.reach) [
            | inl within ↦ (
                let from = found.low in
                let held = held_under log.marks.ordered fits.parts.holds.begun cut far in
                at_cut cut (omega (arith, from, held)) (omega (arith, within)) entry)
            | inr past ↦ at_cut fits.reach (omega (arith, high, passes)) (omega arith) (entry_earlier H ascends fits.reach cut m.page past m low entry)
          ]

      -- and to what is written of the first segment
      begins_before : HasRecordOf log H m → m.place < fits.reach → MayBegin size (lid_of m.pointer)
      begins_before has low = elim has [
        | inl above ↦ (
            let near = fits.parts.reached.near in
            let first = (line_segments log).0 in
            let short = first.short in
            let held = first.begins in
            let written = ends_up log.segments.first.buffer.written_len log.segments.first.buffer.reserved.items log.segments.first.buffer.sealed.items first.are in
            written_begins sum size state.log.bytes log.config.config.least H (stable_below fits.reach H.batches) fits.parts.holds.begun.first fits.reach stands
            ascends m there log.segments.first.site log.segments.first.buffer.written_len 0 found.here (omega (arith, short, held, written)) above
            (omega (arith, low, near)))
        | inr (cut, far, entry) ↦ of_table low cut far entry
      ]

      -- it begins behind all that is on the device without a gap
      begins_behind : fits.reach ≤ m.place → MayBegin size (lid_of m.pointer)
      begins_behind high =
          let holds = fits.parts.holds in
          let past : synced_end log ≤ m.place = elim (cases_lt m.place (synced_end log)) [
            | inl lower ↦ absurd (let low = (fits.parts.reached.ends (in_log m) (logged_there H m there) lower).0 in omega (arith, low, high))
            | inr behind ↦ behind
          ] in
          elim (Contains-append_cases holds.head holds.later (in_log m) (subst (λ (l : List Message). Contains l (in_log m)) holds.messages (logged_there H m there))) [
            | inl mine ↦ (completed_behind sum size log.segments.first.site state log.fault.kept log.segments.first.buffer.bytes.items log.segments.first.buffer.written_len log.segments.first.buffer.sealed.items log.segments.first.buffer.reserved.items (record { messages = holds.head; batches = H.batches }) holds.own log.line.lies.in_segment (in_log m) mine past).begins
            | inr others ↦ behind_begins sum size log.config.config.least state log.fault.kept H (stable_below fits.reach H.batches) holds.begun.first fits.reach stands ascends m there (log.segments.first.site.place + size) (map parts_in (map segment_view log.segments.behind.items)) _ H.batches holds.later holds.others
                (λ s behind. found.behind (begun_segment s) (in_map begun_segment (map parts_in (map segment_view log.segments.behind.items)) s behind)) others
          ]

      begins : HasRecordOf log H m → MayBegin size (lid_of m.pointer)
      begins has = elim (cases_lt m.place fits.reach) [ inl low ↦ begins_before has low | inr high ↦ begins_behind high ]

-- So it is of a log that fits the history.
module _ {D C : Type 0} (trace : D → Trace) (sum : List ℕ → ℕ) (log : Log D C) (H : History) (A f : ℕ) (U : List Message) (fits : Fits trace sum log H A f U)
    (m : Message) where
  pub record_begins : fault_of log ≡ None → NoHeaderOfZeros sum → Contains H.messages m → HasRecordOf log H m → MayBegin (segment_size_of log) (lid_of m.pointer)
  unfolding Fits
  record_begins none zeros there has = begins trace sum log H A f U fits.shows m there none zeros has

  -- What is in the table of all that there is has its record.
  entry_has : Contains (table H (next_place log) m.page) m → HasRecordOf log H m
  unfolding Fits
  entry_has entry = inr (next_place log, inr (synced_before trace sum log H A f U fits.shows), entry)

  -- So it is stored, and read as what is.
  pub kept_stored : (pid : ℕ) (lsn : ℤ) (p : DiskPtr) → IsKeptBlob log H m pid lsn p → IsStoredBlob trace sum log H m pid lsn p
  kept_stored pid lsn p is = record {
    known = (from_table H (next_place log) m.page m is.entry).0;
    has = inl (still_there trace sum log H A f U m fits (from_table H (next_place log) m.page m is.entry).0 (entry_has is.entry));
    stored = entry_stored trace sum log H A f U fits m is.entry;
    spared = entry_spared trace sum log H A f U fits m is.entry;
    page = is.page;
    place = is.place;
    pointer = is.pointer;
    beside = is.beside;
  }

-- What is read of a record gives its message, or waits, where it gives it as it stands and is no damage.
pub inline_read : (sum : List ℕ → ℕ) (blobs : ℤ → Option (List ℕ)) (m : Message) (p : DiskPtr) (kept : Option IoError) (r : Result LogRead Error)
    (old now : Option IoError) (before after : ℕ) → IsInline p → old ≡ None → IfOk r (GivesMessage m) → (IsCorruption r → ⊥)
    → RecordAnswers sum blobs p r old now before after → GivesBlobOrWaits m kept r
inline_read sum blobs m (Blob lid place) kept r old now before after inline none gives sound answers = absurd inline
inline_read sum blobs m (Inline lid) kept (Ok x) old now before after inline none gives sound answers = gives
inline_read sum blobs m (Inline lid) kept (Err (error.Io e)) old now before after inline none gives sound answers =
    λ _ missed. fault_missed e now before after (subst (λ (o : Option IoError). IsFault e o now before after) none answers) missed
inline_read sum blobs m (Inline lid) kept (Err (error.Corruption at)) old now before after inline none gives sound answers = absurd (sound tt)
inline_read sum blobs m (Inline lid) kept (Err _) old now before after inline none gives sound answers = tt

-- What gives it without waiting gives it.
pub gives_at_once : (m : Message) (fault : Option IoError) (r : Result LogRead Error) → GivesBlob m fault r → GivesBlobOrWaits m fault r
gives_at_once m fault (Ok x) gives = gives
gives_at_once m fault (Err (error.Io e)) gives = gives
gives_at_once m fault (Err (error.Corruption at)) gives = gives
gives_at_once m fault (Err _) gives = tt

-- Where its place isn't brought to the device, its blob is neither missing nor damaged.
pub err_waits : (S : Type 0) (e : Error) (m : Message) (fault : Option IoError) (lsn : ℤ) (stable end : ℕ) (held : Option ℕ) (used : Type 0) (now : Option IoError) (before after : ℕ) → SettleAnswers {T = S} (Err e) lsn stable end held used now before after
    → GivesBlobOrWaits m fault (Err e)
err_waits S (error.Io e) m fault lsn stable end held used now before after answers = λ _ missed. fault_missed e now before after answers.1 missed
err_waits S (error.Corruption at) m fault lsn stable end held used now before after answers = absurd answers.1
err_waits S _ m fault lsn stable end held used now before after answers = tt
