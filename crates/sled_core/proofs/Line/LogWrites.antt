-- A log at each moment of the write of one of its sealed buffers, once that failed, and once it is done: what it held and fitted it holds and fits.
use Rattle.std.proofs.Common.{◌≡◌, ◌∙◌, ◌⊎◌, ◌<◌, ◌≤◌, ◌≤ℤ◌, ◌+◌, ap, refl, sym, arith, subst, ℕ, zero, suc, pos, List, [], ◌∷◌, length, map, set, Option, None}
use Rattle.std.proofs.Common.{Some, inl, inr}
use Rattle.std.specs.List.{slice_get}
use Rattle.std.specs.declared.io.Error.{Error as IoError}
use Rattle.std.proofs.lemmas.Int.{ints}
use Rattle.std.proofs.lemmas.List.{length-map}
use Rattle.sled_codec.specs.History.{Batch, Message, History}
use Rattle.sled_codec.specs.Snapshots.{SnapshotModel}
use Rattle.sled_store.specs.Accounts.{machine_of}
use Rattle.sled_store.specs.Device.{Event, LogState, State, Trace, state_of}
use Rattle.sled_store.specs.Foreign.{HeaderWasPlaced, RecordWasPlaced}
use Rattle.sled_store.specs.Moments.{Throughout}
use Rattle.sled_store.specs.inside.Script.{Along}
use Rattle.sled_store.specs.Script.{Performs, after_all}
use Rattle.sled_store.specs.SegmentStates.{Machine}
use Rattle.sled_store.proofs.Histories.Ascending.{Ascends}
use Rattle.sled_store.proofs.Traces.MomentLemmas.{at_last}
use Rattle.sled_store.proofs.Traces.ScriptLemmas.{performs_throughout}
use Rattle.sled_core.specs.Logged.{logged}
use Rattle.sled_core.specs.OpenBatches.{not_whole, stable_below}
use Rattle.sled_core.specs.inside.Begun.{AreFilled, LieWithin, open_segments, with_nth, first_place, line_end}
use Rattle.sled_core.specs.Begun.{SegmentView, line_at, line_in, segment_view, view_at}
use Rattle.sled_core.specs.declared.iobuf.IoBuf.{IoBuf}
use Rattle.sled_core.specs.declared.iobuf.SegmentPosition.{SegmentPosition}
use Rattle.sled_core.specs.declared.logger.Log.{Log}
use Rattle.sled_core.specs.declared.logger.joined_marks.JoinedMarks.{JoinedMarks}
use Rattle.sled_core.specs.declared.logger.io_bufs.IoBufs.{IoBufs}
use Rattle.sled_core.specs.declared.logger.io_bufs.SegmentBuffer.{SegmentBuffer}
use Rattle.sled_core.specs.inside.Fits.{FitsBatches, HoldsLine, HoldsShown, written_to}
use Rattle.sled_core.specs.invariants.Fits.{Holds}
use Rattle.sled_core.specs.Fits.{device_of, fault_of, line_of, noted_in, segment_size_of, synced_end}
use Rattle.sled_core.specs.HeaderMark.{greater_mark}
use Rattle.sled_core.specs.LogSegments.{begins_from}
use Rattle.sled_core.specs.inside.Cleared.{is_stale}
use Rattle.sled_core.specs.inside.FreeSlots.{HasSlots}
use Rattle.sled_core.specs.inside.LogSegments.{held_since}
use Rattle.sled_core.specs.inside.MarksFit.{ArePassedFrom, MarkStands, MarksFitFrom}
use Rattle.sled_core.specs.inside.OwnLog.{HasPlacedFile, IsOwnFile}
use Rattle.sled_core.specs.inside.Shown.{shown}
use Rattle.sled_core.specs.Recoverable.{LeavesRecoverable, NoHeaderOfZeros}
use Rattle.sled_core.specs.inside.Lasting.{LeavesRecovering}
use Rattle.sled_core.specs.invariants.Running.{Fits}
use Rattle.sled_core.specs.inside.Running.{FitsLine, FitsShown}
use Rattle.sled_core.specs.inside.Numbers.{HasNumbers}
use Rattle.sled_core.specs.inside.Slots.{AreWhole}
use Rattle.sled_core.proofs.Cleared.Offsets.{zeroed_long}
use Rattle.sled_core.proofs.Cleared.Shown.{shown_bytes}
use Rattle.sled_core.specs.inside.Turned.{ChangesDevice, IsReadyIn, mark_of, promoted, write_in, written_now}
use Rattle.sled_core.proofs.Flush.FlushLemmas.{fault_or_none}
use Rattle.sled_core.proofs.Holds.FitsBatches.{batches_left, batches_up}
use Rattle.sled_core.proofs.Holds.BufferEnds.{written_behind}
use Rattle.sled_core.proofs.Line.Accounts.{account_raised}
use Rattle.sled_core.proofs.Line.Ends.{line_holds}
use Rattle.sled_core.proofs.Line.PassedMarks.{passed_joins, passed_up}
use Rattle.sled_core.proofs.Line.Faulty.{fits_shown_faulty, fits_with_device, holds_faulty, holds_with_device, names_written, numbers_placed}
use Rattle.sled_core.proofs.Line.LeftWrites.{left_writes}
use Rattle.sled_core.proofs.Line.LineEnds.{end_left, end_set, first_set}
use Rattle.sled_core.proofs.Line.MarksJoin.{IsMarkLow, fits_joined, greater_above, greater_has, holds_joined, low_further, marks_low, slots_raised}
use Rattle.sled_core.proofs.Line.WriteHides.{hides_behind}
use Rattle.sled_core.proofs.Line.WriteMarks.{mark_low, mark_passed, marks_written}
use Rattle.sled_core.proofs.Line.NthOpen.{line_with, nth_same}
use Rattle.sled_core.proofs.Line.Promotes.{end_promoted, holds_promoted}
use Rattle.sled_core.proofs.Holds.Facts.{nth_facts}
use Rattle.sled_core.proofs.Line.Fillings.{log_recorded}
use Rattle.sled_core.proofs.Line.Segments.{AreSegments, filled_promoted, filled_written, follow_segments, line_segments, promoted_place, promoted_waits, run_written, segments_promoted, set_segment, written_segment}
use Rattle.sled_core.proofs.Line.ShownWrite.{fits_moved, holds_moved, shown_written, written_clean}
use Rattle.sled_core.proofs.Line.Writes.{along_write, buffer_begin, buffer_bytes, buffer_calls, buffer_synced, calls_are, fits_write, holds_write, passes_line, slots_write}
use Rattle.sled_core.proofs.Line.WrittenSlots.{whole_write}
use Rattle.sled_core.proofs.Line.NeededSlots.{held_stable}
use Rattle.sled_core.proofs.Line.NumbersKept.{fits_ascends, stays_in}
use Rattle.sled_core.proofs.Line.NumbersWritten.{numbers_along, numbers_behind}
use Rattle.sled_core.proofs.Numbers.HidesAs.{from_higher}
use Rattle.sled_core.proofs.Numbers.Lasting.{lasts_leaves}
use Rattle.sled_core.proofs.Numbers.Stay.{numbers_from}
use Rattle.sled_core.proofs.Reached.StartedStands.{both_along}
use Rattle.sled_core.proofs.Start.StartedMoments.{along_if}
use Rattle.sled_core.proofs.Line.PlacedWrite.{placed_left}
use Rattle.sled_core.proofs.Tail.MarkPlaces.{begins_lower}

module _ {D C : Type 0} (log : Log D C) (n k : ℕ) (r : IsReadyIn (line_of log) n k) where
  abbrev line : List SegmentView
  line = line_of log

  abbrev size : ℕ
  size = segment_size_of log

  abbrev v : SegmentView
  v = r.segment

  -- the segments once the buffer is written
  abbrev pub line_written : List SegmentView
  line_written = set line n (written_now k v)

  abbrev pub line_left : List SegmentView
  line_left = promoted size line_written

  pub segments_written : AreSegments size log.segments.first.site.place line_written
  segments_written = set_segment size log.segments.first.site.place line (line_segments log) n v (written_now k v) r.among (λ p is. written_segment k v r.buffer r.there r.ready size p is)

  pub filled_now : AreFilled size log.reserved_to line_written
  filled_now = filled_written size log.reserved_to line n k v r.among (nth_facts log n v r.among) log.line.filled

  -- The stable end doesn't fall.
  pub end_grows : written_to line ≤ written_to line_left
  end_grows =
      let further = end_promoted size log.segments.first.site.place line_written segments_written in
      let here = at_write line n r.among log.segments.first.site.place (line_segments log) in
      omega (arith, here, further)
    where
      at_write : (l : List SegmentView) (j : ℕ) → slice_get l j ≡ Some v → (p : ℕ) → AreSegments size p l → written_to l ≤ written_to (set l j (written_now k v))
      at_write [] j there p are = omega arith
      at_write (x ∷ xs) zero there p are =
          let same : x ≡ v = cc in
          let is = subst (λ (y : SegmentView). AreSegments size p (y ∷ xs)) same are in
          let up = (run_written k v r.buffer r.there r.ready is.0.are).rises in
          subst (λ (y : SegmentView). written_to (y ∷ xs) ≤ written_to (written_now k v ∷ xs)) (sym same) (omega (arith, up))
      at_write (x ∷ xs) (suc j) there p are = omega arith

  -- They end where they did,
  end_stays : line_end size line_left ≡ line_end size line
  end_stays = end_left size log.segments.first.site.place line_written segments_written ∙ end_set size line n v (written_now k v) r.among (λ i. v.parts.site)

  -- and of the batches that were noted those are left that aren't wholly written.
  abbrev pub noted_left : List Batch
  noted_left = not_whole (written_to line_left) (noted_in log)

  batches_after : (H : History) → FitsBatches (written_to line) (line_end size line) (noted_in log) H → FitsBatches (written_to line_left) (line_end size line_left) noted_left H
  batches_after H fits =
      batches_left (written_to line_left) (line_end size line_left) (noted_in log) H
      (batches_up (written_to line) (written_to line_left) (line_end size line) (line_end size line_left) (noted_in log) H end_grows (let same = end_stays in omega (arith, same)) fits)

  -- What the type of a log asks of these segments holds of those that are left.
  pub record KeepsInvariants (now : IoBufs) : Type 0 where
    pub lie : LieWithin size now
    pub filled : AreFilled size log.reserved_to (line_in now)

  pub keeps_invariants : (now : IoBufs) → line_in now ≡ line_left → KeepsInvariants now
  keeps_invariants now is =
      let found = segments_promoted size log.segments.first.site.place line_written segments_written in
      let are : AreSegments size found.0 (line_in now) = subst (λ (l : List SegmentView). AreSegments size found.0 l) (sym is) found.1 in
      let first = are.0 in
      record {
        lie = record {
          in_segment = first.short;
          place_in_reach = first.place_small;
          slot_in_reach = first.slot_small;
          waits = λ some. below now.first.site now.first.buffer now.behind.items some is first.short;
          follow = follow_segments size (now.first.site.place + size) now.behind.items (subst (λ p. AreSegments size (p + size) (map segment_view now.behind.items)) (sym first.at) are.1);
        };
        filled = subst (AreFilled size log.reserved_to) (sym is) (filled_promoted size log.reserved_to line_written filled_now);
      }
    where
      below : (site : SegmentPosition) (b : IoBuf) (l : List SegmentBuffer) → 0 < length l → line_at site b l ≡ line_left → length b.bytes.items ≤ size → b.written_len < size
      below site b [] some same short = absurd (omega (arith, some))
      below site b (s ∷ l) some same short =
          let other = promoted_waits size line_written (view_at site b) (segment_view s) (map segment_view l) (sym same) in
          let up = written_behind b in
          omega (arith, other, up, short)

  -- The first one isn't wholly on the device, where there is a further one.
  first_waits : (x y : SegmentView) (ys : List SegmentView) → line ≡ x ∷ y ∷ ys → x.parts.written_len < size
  first_waits x y ys same =
      let one : segment_view log.segments.first ≡ x = cc in
      let long : length line ≡ suc (suc (length ys)) = ap length same in
      let low = log.line.lies.waits (omega (arith, long, length-map log.segments.behind.items segment_view)) in
      subst (λ (u : SegmentView). u.parts.written_len < size) one low

  module _ (trace : D → Trace) (sum : List ℕ → ℕ) (whole : fault_of log ≡ None) where
    abbrev before : Trace
    before = trace (device_of log)

    abbrev device : State
    device = state_of before

    abbrev slots : Machine
    slots = machine_of log.accountant

    -- what the log shows of it
    abbrev sees : State
    sees = shown size log.fault.kept slots line device

    -- the calls
    calls : write_in line n k ≡ buffer_calls sum size log.config.config.least sees log.fault.kept whole v k r.buffer r.there r.ready
    calls = calls_are sum size log.config.config.least sees log.fault.kept whole v k r.buffer r.there r.ready line n r.among

    -- Made or not, they leave blobs and snapshots as they were.
    pub names : (new : Trace) → Performs (write_in line n k) before new → ((state_of new).blobs ≡ device.blobs) × ((state_of new).snapshots ≡ device.snapshots)
    names new came =
        names_written (v.parts.site.slot + buffer_begin sum size log.config.config.least device log.fault.kept whole v k r.buffer r.there r.ready) (buffer_bytes sum size log.config.config.least device log.fault.kept whole v k r.buffer r.there r.ready) before new
        (subst (λ (es : List Event). Performs es before new) calls came)

    -- Once they were made up to one that failed it holds and fits the same.
    pub holds_failed : (new : Trace) → Performs (write_in line n k) before new → (now : Option IoError) → (now ≡ None → new ≡ before) → (H : History)
        → Holds trace sum log H → HoldsShown sum log.marks (noted_in log) size (state_of new) now line slots (logged H)
    unfolding Holds
    holds_failed new came now same H holds = elim (fault_or_none now) [
      | inl none ↦ holds_with_device sum log.marks (noted_in log) size device (state_of new) log.fault.kept now line slots (logged H) (ap state_of (same none)) (none ∙ sym whole) holds
      | inr some ↦
          holds_faulty sum log.marks (noted_in log) size sees (state_of new) log.fault.kept now line slots (logged H) holds.shows some.0 some.1 (names new came).1
    ]

    -- the device once all was made, and what the lemmas on a write make of what was shown
    abbrev behind_calls : State
    behind_calls = buffer_synced sum size log.config.config.least device log.fault.kept whole v k r.buffer r.there r.ready

    abbrev sees_behind : State
    sees_behind = buffer_synced sum size log.config.config.least sees log.fault.kept whole v k r.buffer r.there r.ready

    slots_behind : (m : Option IoError) → HasSlots size line sees.log.bytes log.fault.kept slots → HasSlots size line_left sees_behind.log.bytes m slots
    slots_behind now has =
        slots_write sum size log.config.config.least sees log.fault.kept whole v k r.buffer r.there r.ready log.segments.first.site.place line (line_segments log) n r.among slots now has

    -- The log file that is shown is written over with the same bytes.
    same_log : HasSlots size line sees.log.bytes log.fault.kept slots → (now : Option IoError) → now ≡ None
        → (shown size now slots line_left behind_calls).log ≡ sees_behind.log
    same_log has now none = shown_written sum size log.config.config.least device log.fault.kept whole v k r.buffer r.there r.ready
        log.segments.first.site.place line (line_segments log) n r.among slots sees.log.bytes has now none

    -- The marks behind the write: the greatest that is on the device may be that of the buffer, and what joined isn't lower than before: it is what joined
    -- then, or the greatest.
    abbrev pub Joins : JoinedMarks → Type 0
    Joins marks =
        (log.marks.joined ≤ℤ marks.joined) × (marks.durable ≡ greater_mark (mark_of k v) log.marks.durable)
        × ((marks.joined ≡ log.marks.joined) ⊎ (marks.joined ≡ greater_mark (mark_of k v) log.marks.durable))

    -- (where none joins)
    abbrev marks_behind : JoinedMarks
    marks_behind = record {
      joined = log.marks.joined;
      durable = greater_mark (mark_of k v) log.marks.durable;
      ordered = (let up = greater_above (mark_of k v) log.marks.durable in let ordered = log.marks.ordered in omega (arith, ints, up, ordered));
    }

    joins_behind : Joins marks_behind
    joins_behind = (omega (arith, ints), refl, inl refl)

    mark_of_line : HasSlots size line sees.log.bytes log.fault.kept slots → (H : History) → HoldsLine sum log.marks size sees log.fault.kept line H
        → IsMarkLow size line (greater_mark (mark_of k v) log.marks.durable)
    mark_of_line has H holds =
        greater_has (IsMarkLow size line) (mark_of k v) log.marks.durable (marks_low sum log.marks size sees log.fault.kept line H holds)
        (mark_low sum size log.config.config.least sees log.fault.kept whole v k r.buffer r.there r.ready log.segments.first.site.place line (line_segments log)
        n r.among slots has H log.marks holds)

    -- It is low still once segments that are wholly written have gone.
    mark_left : HasSlots size line sees.log.bytes log.fault.kept slots → (H : History) → HoldsLine sum log.marks size sees log.fault.kept line H
        → (marks : JoinedMarks) → Joins marks → IsMarkLow size line_left marks.durable
    mark_left has H holds marks joins =
        let up = promoted_place size log.segments.first.site.place line_written segments_written in
        let same = first_set line n v (written_now k v) r.among (λ i. v.parts.site) in
        low_further size line line_left end_grows (omega (arith, up, same)) marks.durable
        (subst (IsMarkLow size line) (sym joins.1) (mark_of_line has H holds))

    -- the segments that are left
    left_segments : (p : ℕ) × AreSegments size p line_left
    left_segments = segments_promoted size log.segments.first.site.place line_written segments_written

    -- Made or not, in the slots nothing that is the log's own has a greater number.
    abbrev Numbered : State → Type 0
    Numbered s = HasNumbers sum size (begins_from size log.marks.joined) s slots (line_end size line)

    -- What it fits.
    module _ (H : History) (A f : ℕ) (U : List Message)
        (fits : FitsShown sum log.marks (noted_in log) size device log.fault.kept line slots log.pins H A f U) where
      abbrev has : HasSlots size line sees.log.bytes log.fault.kept slots
      has = fits.shows.slots

      abbrev stable : ℕ
      stable = stable_below fits.shows.reach H.batches

      held : HoldsLine sum log.marks size sees log.fault.kept line (logged H)
      held = line_holds sum size sees log.fault.kept log.marks line fits.shows.reach log.pins H A f U fits.shows.parts

      write_numbers : NoHeaderOfZeros sum → Along Numbered (write_in line n k) device
      write_numbers zeros =
          subst (λ (es : List Event). Along Numbered es device) (sym calls)
          (numbers_along sum size log.config.config.least sees log.fault.kept whole v k r.buffer r.there r.ready log.segments.first.site.place line
          (line_segments log) n r.among slots has (logged H) log.marks held zeros (fits.shows.own whole zeros) (fits.shows.numbers zeros) device refl)

      -- Once all was made it fits the same with the segments that are left,
      after : (up_to : ℕ) × FitsLine sum log.marks size sees_behind None line_left up_to log.pins H A f U
      after =
          fits_write sum size log.config.config.least sees log.fault.kept whole v k r.buffer r.there r.ready log.pins H A f U (log_recorded log n v r.among)
          log.marks log.reserved_to log.segments.first.site.place fits.shows.reach line (line_segments log) n r.among filled_now first_waits fits.shows.parts

      abbrev sees_now : State
      sees_now = shown size None slots line_left behind_calls

      log_now : sees_now.log ≡ sees_behind.log
      log_now = same_log has None (λ i. None)

      -- (what was placed is so by what was placed on the device itself)
      own_behind : NoHeaderOfZeros sum → HasPlacedFile sum size sees_now line_left
      own_behind zeros =
          subst (λ (l : LogState). IsOwnFile sum size (HeaderWasPlaced behind_calls.placed) (RecordWasPlaced sum size behind_calls.placed) l.bytes line_left)
          (sym log_now)
          (placed_left sum size log.config.config.least sees log.fault.kept whole v k r.buffer r.there r.ready log.segments.first.site.place line
          (line_segments log) n r.among slots has (logged H) log.marks held zeros (fits.shows.own whole zeros) before (fits.rests whole) refl
          (ap length (shown_bytes size log.fault.kept slots line device whole) ∙ zeroed_long (is_stale size slots line) device.log.bytes))

      numbers_after : NoHeaderOfZeros sum → HasNumbers sum size (begins_from size log.marks.joined) sees_now slots (line_end size line_left)
      numbers_after zeros =
          numbers_placed sum size behind_calls sees_now slots (line_end size line_left) refl
          (subst (HasNumbers sum size (begins_from size log.marks.joined) behind_calls slots) (sym end_stays)
          (numbers_behind sum size log.config.config.least sees log.fault.kept whole v k r.buffer r.there r.ready log.segments.first.site.place line
          (line_segments log) n r.among slots has (logged H) log.marks held zeros (fits.shows.own whole zeros) (fits.shows.numbers zeros) device refl))

      module _ (marks : JoinedMarks) (joins : Joins marks) where
        parts_now : FitsLine sum marks size sees_now None line_left after.0 log.pins H A f U
        parts_now =
            fits_moved sum size log.config.config.least device log.fault.kept whole v k r.buffer r.there r.ready log.segments.first.site.place line
            (line_segments log) n r.among slots sees.log.bytes has None (λ i. None) _ None line_left after.0 log.pins H A f U
            (fits_joined sum size log.config.config.least log.marks marks joins.0 left_segments.0 sees_behind None line_left left_segments.1
            (mark_left has (logged H) held marks joins) after.0 log.pins H A f U after.1)

        -- The marks stand in what is shown then.
        marked_now : NoHeaderOfZeros sum → MarksFitFrom sum size device.snapshots.file sees_now.log.bytes marks
        marked_now zeros first begins = record {
          joined = marks.ordered;
          stands = subst (MarkStands sum size sees_now.log.bytes first) (sym joins.1)
              (subst (λ (l : List ℕ). MarkStands sum size l first (greater_mark (mark_of k v) log.marks.durable))
              (sym (ap (λ (l : LogState). l.bytes) log_now))
              (marks_written sum size log.config.config.least sees log.fault.kept whole v k r.buffer r.there r.ready log.segments.first.site.place line
              (line_segments log) n r.among slots has (logged H) log.marks held zeros first begins log.marks.durable
              (subst (λ (l : List ℕ). MarkStands sum size l first log.marks.durable) (sym (shown_bytes size log.fault.kept slots line device whole))
              (fits.marked whole zeros first begins).stands)));
        }

        -- Each of them is passed.
        passed_now : ArePassedFrom sum device.snapshots.file (written_to line_left) H.batches marks
        passed_now =
            passed_up (written_to line) (written_to line_left) end_grows H.batches sum device.snapshots.file marks
            (λ first begins. passed_joins first (written_to line) H.batches (mark_of k v) log.marks marks
            (mark_passed sum size log.config.config.least sees log.fault.kept whole v k r.buffer r.there r.ready log.segments.first.site.place line
            (line_segments log) n r.among slots has (logged H) log.marks held first)
            joins.2 joins.1 (fits.passed whole first begins))

        -- What is held counts from no lower place.
        base_up : begins_from size log.marks.joined ≤ begins_from size marks.joined
        base_up = begins_lower size log.config.config.least log.marks.joined marks.joined joins.0

        higher : (first : SnapshotModel) → held_since size log.marks first ≤ held_since size marks first
        higher first = let up = base_up in omega (arith, up)

        fits_behind : Ascends H.messages → FitsShown sum marks noted_left size behind_calls None line_left slots log.pins H A f U
        fits_behind order = record {
          shows = record {
            reach = after.0;
            parts = parts_now;
            batches = batches_after (logged H) fits.shows.batches;
            slots = subst (λ (l : LogState). HasSlots size line_left l.bytes None slots) (sym log_now) (slots_behind None has);
            whole = λ none zeros. subst (λ (l : LogState). AreWhole sum size l.bytes (logged H) (first_place line_left) slots) (sym log_now)
                (whole_write sum size log.config.config.least sees log.fault.kept whole v k r.buffer r.there r.ready log.segments.first.site.place line
                (line_segments log) n r.among slots has log.marks
                fits.shows.reach after.0 log.pins H A f U fits.shows.parts after.1 zeros (fits.shows.whole whole zeros));
            own = λ none zeros. own_behind zeros;
            account = account_raised sum size device.snapshots.file H U slots fits.shows.account marks (higher fits.shows.account.first);
            numbers = λ zeros. numbers_from sum size sees_now slots (line_end size line_left) (begins_from size log.marks.joined)
                (begins_from size marks.joined) base_up (numbers_after zeros);
            in_slots = λ first begins. slots_raised sum size (held_since size log.marks first) stable H order slots
                (fits.shows.in_slots first begins) (held_since size marks first) (stable_below after.0 H.batches) (higher first)
                (λ zeros. held_stable sum size log.config.config.least marks sees_now None (λ i. None) line_left after.0 log.pins H A f U parts_now zeros
                (marked_now zeros) first begins);
          };
          rests = λ none. refl;
          hides = λ none zeros.
              from_higher sum size (begins_from size log.marks.joined) (begins_from size marks.joined) base_up behind_calls slots line_left (logged H)
              (hides_behind sum log.marks (noted_in log) size log.config.config.least device log.fault.kept whole zeros slots log.pins H A f U
              log.segments.first.site.place line (line_segments log) fits.shows (fits.hides whole zeros) n v r.among k r.buffer r.there r.ready);
          marked = λ none zeros. marked_now zeros;
          passed = λ none. passed_now;
          clean = λ none low.
              let its = fits.clean whole (let up = joins.0 in omega (arith, ints, up, low)) in (
                written_clean sum size log.config.config.least device log.fault.kept whole v k r.buffer r.there r.ready
                    log.segments.first.site.place line (line_segments log) n r.among slots sees.log.bytes has its.0,
                its.1,
              );
        }

      -- so at each moment of the calls a crash leaves what can be recovered, as it does of what is shown.
      module _ (order : Ascends H.messages) where
        left_along : Along (LeavesRecovering sum size H stable f) (write_in line n k) device
        left_along =
            subst (λ (es : List Event). Along (LeavesRecovering sum size H stable f) es device) (sym calls)
            (left_writes sum log.marks marks_behind refl (noted_in log) noted_left size log.config.config.least device log.fault.kept whole slots log.pins H A f
            U log.segments.first.site.place line (line_segments log) fits n v r.among k r.buffer r.there r.ready left_segments.0 left_segments.1
            (fits_behind marks_behind joins_behind order)
            (along_write sum size log.config.config.least sees log.fault.kept whole v k r.buffer r.there r.ready log.pins H A f U
            (log_recorded log n v r.among) _ log.segments.first.site.place fits.shows.reach line (line_segments log) n r.among fits.shows.parts))

        left : (new : Trace) → Performs (write_in line n k) before new → LeavesRecovering sum size H stable f (state_of new)
        left new came =
            at_last (LeavesRecovering sum size H stable f) before new
            (performs_throughout (LeavesRecovering sum size H stable f) (write_in line n k) before new came left_along)

      numbers_left : (new : Trace) → Performs (write_in line n k) before new → NoHeaderOfZeros sum → Numbered (state_of new)
      numbers_left new came zeros =
          at_last Numbered before new (performs_throughout Numbered (write_in line n k) before new came (write_numbers zeros))

    -- At each moment of the calls a crash leaves what can be recovered, and lasts.
    pub crash_write : (new : Trace) → Performs (write_in line n k) before new → (H : History) (A f : ℕ) (U : List Message) → Fits trace sum log H A f U → Throughout (LeavesRecoverable sum size H A f) before new
    unfolding Fits
    crash_write new came H A f U fits =
        let stable : ℕ = stable_below fits.shows.reach H.batches in
        let least = log.config.config.least in
        performs_throughout (LeavesRecoverable sum size H A f) (write_in line n k) before new came
        (both_along (LeavesRecovering sum size H stable f) (λ s. NoHeaderOfZeros sum → Numbered s) (LeavesRecoverable sum size H A f)
        (λ s can has. lasts_leaves sum size H A f s stable
        (passes_line sum _ size sees log.fault.kept line fits.shows.reach log.pins H A f U fits.shows.parts) (record {
          can = can;
          numbers = λ zeros.
              stays_in sum (noted_in log) size least sees log.fault.kept line slots log.pins H A f U fits.shows
              (fits_ascends trace sum log H A f U fits)
              zeros s (has zeros);
        }))
        (write_in line n k) device (left_along H A f U fits (fits_ascends trace sum log H A f U fits))
        (along_if (NoHeaderOfZeros sum) Numbered (write_in line n k) device (λ zeros. write_numbers H A f U fits zeros)))

    pub fits_failed : (new : Trace) → Performs (write_in line n k) before new → (now : Option IoError) → (now ≡ None → new ≡ before) → (H : History)
        (A f : ℕ) (U : List Message) → Fits trace sum log H A f U → FitsShown sum log.marks (noted_in log) size (state_of new) now line slots log.pins H A f U
    unfolding Fits
    fits_failed new came now same H A f U fits = elim (fault_or_none now) [
      | inl none ↦ fits_with_device sum log.marks (noted_in log) size device (state_of new) log.fault.kept now line slots log.pins H A f U (ap state_of (same none)) (none ∙ sym whole) fits
      | inr some ↦
          fits_shown_faulty sum log.marks (noted_in log) size sees (state_of new) log.fault.kept now line slots log.pins H A f U fits.shows some.0 some.1
          (names new came).0 (names new came).1 (left H A f U fits (fits_ascends trace sum log H A f U fits) new came) (numbers_left H A f U fits new came)
    ]

    -- Once they were all made it does so with the segments that are left.
    made : (new : Trace) → new ≡ after_all (write_in line n k) before → new ≡ after_all (buffer_calls sum size log.config.config.least device log.fault.kept whole v k r.buffer r.there r.ready) before
    made new came = came ∙ ap (λ (es : List Event). after_all es before) calls

    pub holds_done : (new : Trace) → new ≡ after_all (write_in line n k) before → (now : Option IoError) → now ≡ None → (marks : JoinedMarks) → Joins marks
        → (H : History) → Holds trace sum log H → HoldsShown sum marks noted_left size (state_of new) now line_left slots (logged H)
    unfolding Holds
    holds_done new came now none marks joins H holds =
        let has = holds.shows.slots in
        subst (λ (o : Option IoError). HoldsShown sum marks noted_left size (state_of new) o line_left slots (logged H)) (whole ∙ sym none)
        (subst (λ (t : Trace). HoldsShown sum marks noted_left size (state_of t) log.fault.kept line_left slots (logged H)) (sym (made new came)) (record {
          shows = record {
            holds = holds_moved sum size log.config.config.least device log.fault.kept whole v k r.buffer r.there r.ready log.segments.first.site.place line
                (line_segments log) n r.among slots sees.log.bytes has log.fault.kept whole _ log.fault.kept line_left (logged H)
                (holds_joined sum size log.config.config.least log.marks marks joins.0 left_segments.0 sees_behind log.fault.kept line_left left_segments.1
                (mark_left has (logged H) holds.shows.holds marks joins) (logged H)
                (holds_promoted sum _ size sees_behind log.fault.kept (logged H) log.config.config.least log.segments.first.site.place line_written
                segments_written
                (holds_write sum size log.config.config.least sees log.fault.kept whole v k r.buffer r.there r.ready _ log.segments.first.site.place line
                (line_segments log) n r.among (logged H) holds.shows.holds)));
            batches = batches_after (logged H) holds.shows.batches;
            slots = subst (λ (l : LogState). HasSlots size line_left l.bytes log.fault.kept slots) (sym (same_log has log.fault.kept whole))
                (slots_behind log.fault.kept has);
          };
          rests = λ none. refl;
        }))

    -- The mark that joins isn't above the place behind all that was on the device without a gap.
    pub mark_joins : (marks : JoinedMarks) → Joins marks → (H : History) → Holds trace sum log H → marks.joined ≤ℤ pos (synced_end log)
    unfolding Holds
    mark_joins marks joins H holds =
        let low = (mark_of_line holds.shows.slots (logged H) holds.shows.holds).written in
        let same = joins.1 in
        let ordered = marks.ordered in
        omega (arith, ints, low, same, ordered)

    pub fits_done : (new : Trace) → new ≡ after_all (write_in line n k) before → (now : Option IoError) → now ≡ None → (marks : JoinedMarks) → Joins marks
        → (H : History) (A f : ℕ) (U : List Message) → Fits trace sum log H A f U
        → FitsShown sum marks noted_left size (state_of new) now line_left slots log.pins H A f U
    unfolding Fits
    fits_done new came now none marks joins H A f U fits =
        subst (λ (o : Option IoError). FitsShown sum marks noted_left size (state_of new) o line_left slots log.pins H A f U) (sym none)
        (subst (λ (t : Trace). FitsShown sum marks noted_left size (state_of t) None line_left slots log.pins H A f U) (sym (made new came))
        (fits_behind H A f U fits marks joins (fits_ascends trace sum log H A f U fits)))

-- A call that changed the device alone left the line as it was.
pub same_line : {D C : Type 0} (old mid : Log D C) → ChangesDevice old mid → line_of mid ≡ line_of old
same_line old mid rest = λ i. line_in (rest.segments i)

-- The line once its buffer is marked, and those at the front have gone.
pub line_after : {D C : Type 0} (old mid : Log D C) (n k : ℕ) (v : SegmentView) → ChangesDevice old mid → slice_get (line_of old) n ≡ Some v → (s : SegmentBuffer) → slice_get (open_segments mid.segments) n ≡ Some s
    → (now : SegmentBuffer) → segment_view now ≡ written_now k (segment_view s)
    → (l : List SegmentView) → l ≡ promoted mid.config.config.segment_size (line_in (with_nth mid.segments n now)) → l ≡ promoted (segment_size_of old) (set (line_of old) n (written_now k v))
line_after old mid n k v rest among s there now marked l is =
    let same : line_of mid ≡ line_of old = same_line old mid rest in
    let its : segment_view s ≡ v = nth_same mid n s there v (ap (λ (x : List SegmentView). slice_get x n) same ∙ among) in
    is
    ∙ ap (promoted mid.config.config.segment_size) (line_with mid.segments n now ∙ (λ i. set (same i) n ((marked ∙ ap (written_now k) its) i)))
    ∙ (λ i. promoted (rest.config i).segment_size (set (line_of old) n (written_now k v)))
