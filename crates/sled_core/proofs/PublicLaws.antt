-- The lemmas by which a proof of a crate above cites the laws of logs: where the messages lie that a log fits, what a crash leaves of its device, and that an empty device is ready.
-- The laws are the interface (`src/laws.rt`): each says what a client may rely on, and its lemma here says the same. Those under "Helpers" have no law: they put clauses of calls together, or say a law once more in the form that a proof needs.
use Rattle.std.proofs.Common.{◌≡◌, ◌∙◌, ◌≤◌, ◌<◌, ◌+◌, ◌^◌, ℕ, ℤ, pos, Bool, true, false, nat_lt, if◌then◌else◌, List, [], ◌∷◌, ◌++◌, Option, None, Some, rules, refl, sym, ap, subst, arith, inl, inr}
use Rattle.std.specs.Prelude.{FitsSigned}
use Rattle.std.specs.Int.{w64, cast_signed, cast_unsigned}
use Rattle.std.specs.List.{All, Contains}
use Rattle.std.proofs.lemmas.Int.{to_z-of_z}
use Rattle.std.proofs.lemmas.List.Elements.{All-tail}
use Rattle.sled_codec.specs.declared.result.DiskPtr.TheVariants.{Blob}
use Rattle.sled_codec.specs.declared.serialization.message.LogKind.TheVariants.{Replace}
use Rattle.sled_codec.specs.History.{History, Message, table}
use Rattle.sled_codec.specs.Snapshots.{SnapshotModel, stable_place}
use Rattle.sled_store.specs.Begin.{offset_at, place_at}
use Rattle.sled_store.specs.Device.{Trace, State, Content, Left, Leaves, Crashed, state_of, content_of, content_left, names_at_rest, step}
use Rattle.sled_store.proofs.LogFile.LogLemmas.{at_rest_left}
use Rattle.sled_store.proofs.Names.NamesLemmas.{settled_name_left, settled_name_at_rest}
use Rattle.sled_core.specs.declared.logger.Log.{Log}
use Rattle.sled_core.specs.Fits.{KeepsAll, stable_end, FirstWaits, FitsInline, HasRecordOf, NoneOpen, NoneOpenIn, IsUnchanged, IsWritten, synced_end, segment_size_of, buffers_of, current_begin, current_of, holding_below, machine_at, message_rewriting, next_place, noted_in, reserved_end, start_of, target_of, waiting_of}
use Rattle.sled_core.specs.Logged.{logged}
use Rattle.sled_core.specs.Waiting.{BufferAt, BufferStart, first_held, held_below}
use Rattle.sled_core.specs.Recoverable.{NoForeign, LeavesRecoverable}
use Rattle.sled_core.specs.inside.Lasting.{IsLasting, LeavesRecovering}
use Rattle.sled_core.specs.invariants.Lasting.{Lasts}
use Rattle.sled_core.proofs.Numbers.Lasting.{lasting_leaves}
use Rattle.sled_core.proofs.Numbers.OwnLess.{less_crashed}
use Rattle.sled_core.proofs.Numbers.Stay.{stay_less}
use Rattle.sled_core.specs.invariants.Recoverable.{Recoverable}
use Rattle.sled_core.specs.invariants.Running.{Fits, Ready}
use Rattle.sled_core.specs.Running.{IsStored}
use Rattle.sled_core.proofs.Flush.Settled.{leaves_less}
pub use Rattle.sled_core.proofs.Holds.CallMoments.{own_after_crash}
use Rattle.sled_core.proofs.Holds.ReachLemmas.{kept_past}
use Rattle.sled_core.proofs.Holds.Facts.{current_facts}
use Rattle.sled_core.proofs.Line.Rewritten.{rewritten_stored}
use Rattle.sled_core.proofs.Line.Targets.{lies}
use Rattle.sled_core.proofs.Line.Shows.{buffers_free}
use Rattle.sled_core.proofs.Logged.Messages.{all_in_log}
use Rattle.sled_core.proofs.Start.Places.{goes_on_at}
pub use Rattle.sled_core.proofs.Start.FreshReady.{fresh_leaves, fresh_ready, empty_ready, empty_recoverable}
pub use Rattle.sled_core.proofs.Line.KeptCalls.{goes_on_further, kept_still, kept_further, log_writing_where, writing_further, writing_pinned}
use Rattle.sled_core.specs.Keeps.{Preserves, PreservesWriting}
use Rattle.sled_core.specs.OpenBatches.{stable_below}
use Rattle.sled_core.proofs.Line.LineEnds.{stable_kept}
use Rattle.sled_core.proofs.Reached.StableBelow.{stable_low}
use Rattle.sled_codec.specs.Record.{IsHeader}
pub use Rattle.sled_core.proofs.Line.MarksJoin.{mark_synced}
use Rattle.sled_core.specs.HeaderMark.{mark_at}
use Rattle.sled_core.proofs.Reached.ReadMark.{header_mark}
pub use Rattle.sled_core.proofs.Holds.LastEnds.{message_acknowledged, batch_acknowledged, acknowledged_least}
pub use Rattle.sled_core.proofs.Holds.LessClaimed.{fits_claimed, leaves_claimed, ready_claimed, recoverable_claimed}
pub use Rattle.sled_core.proofs.Holds.ReachLemmas.{fits_holds, fits_stable, fits_reach, fits_apart, awaited, awaited_small, inline_stored, reserved_small}
pub use Rattle.sled_core.proofs.Holds.Reasons.{end_fails, end_succeeds, reserve_fails, write_fails}
pub use Rattle.sled_core.proofs.Line.NumbersKept.{fits_leaves}
pub use Rattle.sled_core.proofs.Line.ReadsOwn.{fits_reads_own, fits_reads_own_unless_stale}
pub use Rattle.sled_core.proofs.Blobs.FirmContent.{only_own, read_recoverable}
pub use Rattle.sled_core.proofs.Holds.CallMoments.{own_after_crash}
pub use Rattle.sled_core.proofs.Iterated.SegmentsStay.{segment_linked, segment_next, segment_replaced, segment_reserved, segment_sealed, segment_written}
pub use Rattle.sled_core.proofs.Line.StillThere.{still_there}
pub use Rattle.sled_core.proofs.Line.Buffers.{first_waits}
pub use Rattle.sled_core.proofs.Line.Fillings.{end_off}
pub use Rattle.sled_core.proofs.Line.NextSlot.{mark_stable_end, next_not_needed}
pub use Rattle.sled_core.proofs.Line.NoneLeft.{noted_pegs}
-- While a pin is out no segment is freed.
pub use Rattle.sled_core.proofs.Line.Pinned.{pinned_around, pinned_at, pinned_below, pinned_pending, pinned_some, pinned_synced}
pub use Rattle.sled_core.proofs.Line.PinnedWrites.{ledger_account, machine_pinned}
pub use Rattle.sled_core.proofs.Stable.OfLog.{stable_of_log}
pub use Rattle.sled_core.proofs.Line.MayMarks.{due_may_link, due_may_mark}
pub use Rattle.sled_core.proofs.Line.Spared.{blob_below, blob_unnamed, entry_spared, entry_stored, higher_may, named_now, named_spared}
-- What was in a table keeps its record while the mark stays.
pub use Rattle.sled_core.proofs.Line.TableKept.{awaited_above, grows_completed, grows_further, grows_same, table_kept}
pub use Rattle.sled_core.proofs.Line.WholeBuffers.{buffers_whole}
pub use Rattle.sled_core.proofs.Line.OpenSeen.{buffers_held, current_count, current_least, none_is_empty, ticket_places}
-- A reservation: its clauses, put together.
pub use Rattle.sled_core.proofs.Line.ReservedWhole.{reserves_as}
-- What an iterator gives, by one reading of a segment.
pub use Rattle.sled_core.proofs.Iterates.OneReplay.{iteration_damaged, iteration_replayed}
-- It has ever greater places.
pub use Rattle.sled_core.proofs.Iterated.AnyBytes.{bytes_rise}
pub use Rattle.sled_core.proofs.Iterated.Rising.{found_follow, iteration_rises, log_follows}
-- An iterator of a log only reads it, and gives it back.
pub use Rattle.sled_core.proofs.Iterates.OverLog.{over_back, over_begun, over_next}
-- Intervals have one stable end, in none of whose batches it lies.
pub use Rattle.sled_core.proofs.Stable.OneEnd.{end_in_none, one_contiguous, one_stable, uncovered_beyond}
-- Nothing becomes foreign by what a log does to its device.
pub use Rattle.sled_core.proofs.Crash.OwnBehind.{lost_behind, read_own}
pub use Rattle.sled_core.proofs.Crash.OwnLemmas.{lost_own, nothing_own, synced_own, written_own, zeros_by_place, zeros_no_header}
pub use Rattle.sled_core.proofs.Crash.OwnRecords.{out_of_order_own}
-- Helpers: a call that does nothing, a reservation of an item that fits inline, and a call that goes on without a blob, by their clauses; the acknowledged end of what a log fits; and that an inline message may come.
pub use Rattle.sled_core.proofs.Line.KeptCalls.{goes_on_still, log_still, none_failed, writing_still}
pub use Rattle.sled_core.proofs.Holds.ReachLemmas.{fits_acknowledged, inline_named}
pub use Rattle.sled_core.proofs.Line.WithoutBlob.{alone_answers, alone_keeps, alone_same, without_further, without_none}
pub use Rattle.sled_core.proofs.Line.ReservedInline.{ReservesInline, comes_inline, inline_keeps, inline_message, not_in_blob, refused_inline}
pub use Rattle.sled_core.proofs.Line.Shows.{buffers_still as shows_empty, buffers_long as shows_long}
-- A log is as its status tells it, and what a call leaves of it part by part follows from where it says that the log stands: where the current buffer begins, slots
-- and marks, and where the next record may begin with slots left as any machine has them.
pub use Rattle.sled_core.proofs.Line.ReadySeen.{machine_seen, shows_behind, start_with_seen, waiting_seen}
pub use Rattle.sled_core.proofs.Line.StatusLaws.{behind_says, below_says, front_says, rolled_says, sealed_says, written_says}
pub use Rattle.sled_core.proofs.Line.StatusSeen.{around_seen, below_seen, ledger_around_seen, ledger_below_seen, over_seen, sealed_around_seen, sealed_seen, shows_current}
pub use Rattle.sled_core.proofs.Line.StatusSeen.{start_around_seen, start_seen}

-- As much is synced where the same buffers wait, and the current one begins where it did.
first_same : (s s' begin begin' : ℕ) (bs bs' : List BufferAt) → FirstWaits s begin bs → FirstWaits s' begin' bs' → bs' ≡ bs → begin' ≡ begin → s' ≡ s
first_same s s' begin begin' [] [] first first' same begins = first' ∙ begins ∙ sym first
first_same s s' begin begin' (b ∷ bs) (b' ∷ bs') first first' same begins = let one : b' ≡ b = cc in first' ∙ ap (λ (x : BufferAt). x.place) one ∙ sym first
first_same s s' begin begin' [] (b' ∷ bs') first first' same begins = cc
first_same s s' begin begin' (b ∷ bs) [] first first' same begins = cc

pub synced_as_first : {D C : Type 0} (old new : Log D C) → waiting_of new ≡ waiting_of old → start_of new ≡ start_of old → synced_end new ≡ synced_end old
synced_as_first old new waiting start =
    first_same (synced_end old) (synced_end new) (current_begin old) (current_begin new) (waiting_of old) (waiting_of new) (first_waits old) (first_waits new) waiting (ap (λ (s : BufferStart). s.place) start)

-- The mark of a buffer that begins with a header is the header's.
pub mark_read : (sum : List ℕ → ℕ) (bytes rest : List ℕ) (lsn mark : ℤ) → IsHeader sum bytes lsn mark → mark_at 0 (bytes ++ rest) ≡ Some mark
mark_read sum bytes rest lsn mark header = header_mark sum bytes rest lsn mark header

-- Where no reservation was open, none is as long as nothing is another.
pub unchanged_ended : {D C : Type 0} (old new : Log D C) → IsUnchanged old new → NoneOpen old → NoneOpen new
unchanged_ended old new unchanged ended = subst NoneOpenIn (sym unchanged.line) ended

-- A place, as code holds it and gives it back.
pub place_back : (z : ℤ) (n : ℕ) → z ≡ pos n → n < 2 ^ 63 → pos n ≡ cast_signed w64 (cast_unsigned w64 z)
place_back z n is small = let fits : FitsSigned w64 (pos n) = search rules in sym (ap (λ (x : ℤ). cast_signed w64 (cast_unsigned w64 x)) is ∙ to_z-of_z w64 (pos n) fits)

-- What was written ends at the stable end at most.
pub written_past : {D C : Type 0} (trace : D → Trace) (sum : List ℕ → ℕ) (log : Log D C) (H : History) → IsWritten trace sum log H → All (λ m. m.place + m.size ≤ synced_end log) H.messages
written_past trace sum log H written = all_in_log (λ (m : Message). m.place + m.size ≤ synced_end log) H.messages (kept_past sum (segment_size_of log) log.segments.first.site log.segments.first.buffer.written_len _ (logged H) written)

-- The record of a message is put at the next place or behind it.
pub target_above : {D C : Type 0} (log : Log D C) (page n : ℕ) → FitsInline (segment_size_of log) n → next_place log ≤ (target_of log page n).place
target_above log page n inline = elim (lies (segment_size_of log) (current_of log) (machine_at log) page n log.config.config.least (current_facts log).short inline) [ inl here ↦ here.above | inr far ↦ far.above ]

-- The Replace of a page whose item is in a blob can be made once more: no crash takes that, and the record lies behind it.
pub can_rewrite : {D C : Type 0} (trace : D → Trace) (sum : List ℕ → ℕ) (log : Log D C) (H : History) (A f : ℕ) (U : List Message) (m : Message) (lid : ℕ) (blob : ℤ) → Fits trace sum log H A f U
    → Contains (table H (next_place log) m.page) m → m.kind ≡ Replace → m.pointer ≡ Blob lid blob → IsStored trace sum log (message_rewriting log m.page blob m.bytes)
unfolding Fits
can_rewrite trace sum log H A f U m lid blob fits entry replaces is =
    rewritten_stored trace sum log H A f U fits.shows m entry replaces lid blob is (target_above log m.page 8 (let least = log.config.config.least in omega (arith, least)))

-- and none is held up where no reservation is open.
pub none_are_held : {D C : Type 0} (sum : List ℕ → ℕ) (log : Log D C) → NoneOpen log → All (λ b. b.held ≡ None) (buffers_of sum log)
none_are_held sum log ended = buffers_free sum log ended

-- Of buffers of which none is held up none holds a write up,
below_free : (to : ℕ) (bs : List BufferAt) → All (λ b. b.held ≡ None) bs → held_below to bs ≡ None
below_free to [] free = refl
below_free to (b ∷ bs) free = by (nat_lt b.place to) b.held (free 0 b (omega arith)) (below_free to bs (All-tail (λ x. x.held ≡ None) b bs free)) where
  by : (o : Bool) (held : Option ℕ) → held ≡ None → held_below to bs ≡ None → (if o then first_held held (held_below to bs) else None) ≡ None
  by true None is rest = rest
  by true (Some place) is rest = cc
  by false held is rest = refl

-- so where no reservation is open nothing holds a flush up.
pub none_holding : {D C : Type 0} (log : Log D C) (sum : List ℕ → ℕ) → NoneOpen log → holding_below sum log (reserved_end log) ≡ None
none_holding log sum ended = below_free (reserved_end log) (buffers_of sum log) (none_are_held sum log ended)

-- What is ready for a log with more acknowledged is ready for it with less.
pub ready_with_less : (sum : List ℕ → ℕ) (size : ℕ) (device : State) (s : SnapshotModel) (H : History) (A less f : ℕ) → less ≤ A → Ready sum size device s H A f → Ready sum size device s H less f
unfolding Ready
ready_with_less sum size device s H A less f le ready = record {
  ready = ready.ready;
  alone = ready.alone;
  active = ready.active;
  blobs = ready.blobs;
  entries = ready.entries;
  below = ready.below;
  names = ready.names;
  own = ready.own;
  own_names = ready.own_names;
  passes = (let passes = ready.passes in omega (arith, le, passes));
  left = leaves_less sum size H less A f device le ready.left;
  numbers = ready.numbers;
}

module _ (sum : List ℕ → ℕ) (size : ℕ) (H : History) (A f : ℕ) where
  -- Behind a crash another one leaves just what it left.
  crashed_leaves : (left : Left) (s : State) → Recoverable sum size (content_left left s) H A f → LeavesRecovering sum size H A f (step (Crashed left) s)
  crashed_leaves left s can content leaves own =
      let now : Content = content_left left s in
      let logs : content.log ≡ now.log = at_rest_left now.log content.log leaves.log in
      let blobs : (n : ℤ) → content.blobs n ≡ now.blobs n = λ n. settled_name_left (names_at_rest now.blobs) n (content.blobs n) (settled_name_at_rest now.blobs n) (leaves.blobs n) in
      let snapshots : (n : ℤ) → content.snapshots n ≡ now.snapshots n = λ n. settled_name_left (names_at_rest now.snapshots) n (content.snapshots n) (settled_name_at_rest now.snapshots n) (leaves.snapshots n) in
      let same : now ≡ content = λ i. record { log = sym logs i; blobs = λ n. sym (blobs n) i; snapshots = λ n. sym (snapshots n) i } in
      subst (λ (c : Content). Recoverable sum size c H A f) same can

-- What a crash leaves can be recovered, and so can what is left by the next one.
module _ (sum : List ℕ → ℕ) (size : ℕ) (H : History) (A f : ℕ) where
  -- what lasts does so behind a crash
  crashed_lasts : (left : Left) (s : State) → Leaves s (content_left left s) → NoForeign sum size s (content_left left s) → IsLasting sum size s H A f
      → IsLasting sum size (step (Crashed left) s) H A f
  crashed_lasts left s may own is = record {
    stable = is.stable;
    passes = is.passes;
    lasts = record {
      can = crashed_leaves sum size H is.stable f left s (is.lasts.can (content_left left s) may own);
      numbers = λ zeros. stay_less sum size (step (Crashed left) s) s (less_crashed sum size left s) H is.stable (is.lasts.numbers zeros);
    };
  }

  pub crash_recoverable : (trace : Trace) (left : Left) → LeavesRecoverable sum size H A f (state_of trace) → Leaves (state_of trace) (content_left left (state_of trace)) → NoForeign sum size (state_of trace) (content_left left (state_of trace))
      → Recoverable sum size (content_left left (state_of trace)) H A f × LeavesRecoverable sum size H A f (state_of (Crashed left ∷ trace))
  unfolding Lasts
  crash_recoverable trace left leaves may own =
      let both = leaves (content_left left (state_of trace)) may own in (
        both.0,
        lasting_leaves sum size H A f (state_of (Crashed left ∷ trace)) (crashed_lasts left (state_of trace) may own both.1),
      )

-- A log that is started on what is ready goes on at the place of its snapshot.
pub ready_place : (sum : List ℕ → ℕ) (size : ℕ) (device : State) (s : SnapshotModel) (H : History) (A f : ℕ) → 0 < size → Ready sum size device s H A f
    → place_at size (stable_place s.stable) s.active + offset_at size (stable_place s.stable) s.active ≡ stable_place s.stable
unfolding Ready
ready_place sum size device s H A f some ready = goes_on_at size (stable_place s.stable) s.active some ready.active

-- Helper: what a crash left stays the log's own once it is what is read, over traces.
pub own_behind_crash : (sum : List ℕ → ℕ) (size : ℕ) (left : Left) (trace : Trace) → NoForeign sum size (state_of trace) (content_left left (state_of trace))
    → NoForeign sum size (state_of (Crashed left ∷ trace)) (content_of (state_of (Crashed left ∷ trace)))
own_behind_crash sum size left trace own = own_after_crash sum size left (state_of trace) own

-- A log has the record of what isn't synced yet, and of an entry of the table of all that is synced, or of more.
pub record_unsynced : {D C : Type 0} (log : Log D C) (H : History) (m : Message) → synced_end log ≤ m.place → HasRecordOf log H m
record_unsynced log H m above = inl (omega (arith, above))

pub record_of_entry : {D C : Type 0} (log : Log D C) (H : History) (m : Message) (cut : ℕ) → synced_end log ≤ cut → Contains (table H cut m.page) m
    → HasRecordOf log H m
record_of_entry log H m cut above entry = inr (cut, inr above, entry)

-- All below the stable end is on the device.
pub stable_reached_at : {D C : Type 0} (log : Log D C) → stable_end log ≤ synced_end log
stable_reached_at log = stable_low (synced_end log) (noted_in log)

-- The stable end doesn't fall where a call notes no batch, and stays where what is written and noted stays.
pub stable_never_falls : {D C : Type 0} (trace : D → Trace) (sum : List ℕ → ℕ) (old new : Log D C) → Preserves trace sum old new → stable_end old ≤ stable_end new
stable_never_falls trace sum old new keeps = stable_kept old new keeps.goes_on.stable keeps.noted

pub stable_writing : {D C : Type 0} (trace : D → Trace) (sum : List ℕ → ℕ) (old new : Log D C) → PreservesWriting trace sum old new → stable_end old ≤ stable_end new
stable_writing trace sum old new keeps = stable_kept old new keeps.goes_on.stable keeps.noted

pub stable_stays : {D C : Type 0} (old new : Log D C) → KeepsAll old new → stable_end new ≡ stable_end old
stable_stays old new same = λ i. stable_below (same.synced i) (same.noted i)
