-- Where a log stands once buffers of it are sealed and written.
use Rattle.std.proofs.Common.{◌≡◌, ◌∙◌, ◌<◌, ap, sym, refl, ℕ, drop, List, None, Option, Result, Ok, Err, OnOk}
use Rattle.std.specs.declared.io.Error.{Error as IoError}
use Rattle.sled_codec.specs.declared.result.Error.{Error}
use Rattle.sled_store.specs.Device.{Trace}
use Rattle.sled_store.specs.SegmentStates.{Machine}
use Rattle.sled_core.specs.Causes.{Answers}
use Rattle.sled_core.specs.declared.logger.Log.{Log}
use Rattle.sled_core.specs.Fits.{KeepsTickets, current_begin, fault_of, held_len, ledger_of, line_of, machine_at, noted_in, position_of, segment_size_of, start_of, synced_end, waiting_of}
use Rattle.sled_core.specs.Freeing.{Ledger}
use Rattle.sled_core.specs.Fronts.{WroteFront}
use Rattle.sled_core.specs.inside.Fronts.{WroteParts}
use Rattle.sled_core.specs.Keeps.{KeepsWriting, SamePlace, SamePosition, sealed_for}
use Rattle.sled_core.specs.Ledger.{ledger_behind}
use Rattle.sled_core.specs.LogStatus.{HasStatus, failing, ledger_below, position_below, position_over, sealed_below, start_below, status_below, status_of, wrote}
use Rattle.sled_core.specs.OpenBatches.{not_whole}
use Rattle.sled_core.specs.Positions.{Position}
use Rattle.sled_core.specs.Spans.{first_waiting, spans_from}
use Rattle.sled_core.specs.Waiting.{BufferStart, Span, front_below, not_below, spans}
use Rattle.sled_core.specs.inside.LeavesAbove.{LeavesAbove}
use Rattle.sled_core.proofs.Line.Advanced.{same_synced}
use Rattle.sled_core.proofs.Line.LineEnds.{noted_still}
use Rattle.sled_core.proofs.Line.LogSpans.{same_buffers}
use Rattle.sled_core.proofs.Line.StatusSeen.{above_seen, below_seen, drop_seen, first_seen, ledger_below_seen, over_seen, sealed_seen, start_seen}

-- These buffers are left: all that is seen of the log is as it was, but for what that makes of it, and for its failure.
pub status_left : {D C : Type 0} (old new : Log D C) (left : List Span) (start : BufferStart) (l : Ledger) (position : Machine → Position)
    → spans (waiting_of new) ≡ left → start_of new ≡ start → ledger_of new ≡ l → position_of new ≡ position (machine_at new)
    → KeepsTickets old new → SamePlace old new → noted_in new ≡ not_whole (synced_end new) (noted_in old)
    → status_of new ≡ failing (fault_of new) (wrote left start l position (status_of old))
status_left old new left start l position left_is start_is ledger lies tickets same noted =
    let there : synced_end new ≡ first_waiting left start = first_seen new ∙ (λ i. first_waiting (left_is i) (start_is i)) in
    let still = noted ∙ ap (λ k. not_whole k (noted_in old)) there in
    let place : position_of new ≡ position l.machine = lies ∙ ap (λ (x : Ledger). position x.machine) ledger in
    λ i. record {
      position = place i;
      machine = (ledger i).machine;
      reserved = same.reserved i;
      synced = there i;
      noted = still i;
      waiting = left_is i;
      start = start_is i;
      opens = tickets.opens i;
      fault = fault_of new;
      pins = same.pins i;
      account = (ledger i).account;
    }

-- So it is with one that keeps the failure that it kept, or none.
pub status_wrote : {D C : Type 0} (old new : Log D C) (left : List Span) (start : BufferStart) (l : Ledger) (position : Machine → Position)
    → spans (waiting_of new) ≡ left → start_of new ≡ start → ledger_of new ≡ l → position_of new ≡ position (machine_at new)
    → KeepsTickets old new → SamePlace old new → noted_in new ≡ not_whole (synced_end new) (noted_in old) → fault_of new ≡ fault_of old
    → status_of new ≡ wrote left start l position (status_of old)
status_wrote old new left start l position left_is start_is ledger lies tickets same noted fault =
    status_left old new left start l position left_is start_is ledger lies tickets same noted
    ∙ ap (λ (f : Option IoError). failing f (wrote left start l position (status_of old))) fault

-- What leaves its segments, its slots and its marks leaves all of it but its failure.
pub status_same : {D C : Type 0} (old new : Log D C) → line_of new ≡ line_of old → ledger_of new ≡ ledger_of old → SamePosition old new → KeepsTickets old new
    → noted_in new ≡ not_whole (synced_end new) (noted_in old) → status_of new ≡ failing (fault_of new) (status_of old)
status_same old new line ledger position tickets noted =
    let buffers = same_buffers old new line in
    let synced = same_synced old new line in
    let batches : noted_in new ≡ noted_in old = noted ∙ ap (λ n. not_whole n (noted_in old)) synced ∙ sym (noted_still old) in
    λ i. record {
      position = position.position i;
      machine = (ledger i).machine;
      reserved = position.reserved i;
      synced = synced i;
      noted = batches i;
      waiting = spans (buffers.0 i);
      start = buffers.1 i;
      opens = tickets.opens i;
      fault = fault_of new;
      pins = position.pins i;
      account = (ledger i).account;
    }

-- To write none leaves it.
pub status_unwritten : {D C : Type 0} (log : Log D C)
    → wrote (spans (waiting_of log)) (start_of log) (ledger_of log) (position_over (segment_size_of log) (status_of log)) (status_of log) ≡ status_of log
status_unwritten log =
    let s = status_of log in
    let synced = first_seen log in
    let noted : noted_in log ≡ not_whole (first_waiting (spans (waiting_of log)) (start_of log)) (noted_in log) = noted_still log ∙ ap (λ n. not_whole n (noted_in log)) synced in
    let place = over_seen log (machine_at log) in
    sym (λ i. record s { position = place i; synced = synced i; noted = noted i })

-- So it is where all that begins below a place is written.
pub status_written : {D C : Type 0} (sum : List ℕ → ℕ) (to : ℕ) (old new : Log D C) → (current_begin old < to → 0 < held_len old) → LeavesAbove sum to old new
    → KeepsTickets old new → SamePlace old new → noted_in new ≡ not_whole (synced_end new) (noted_in old) → fault_of new ≡ fault_of old
    → HasStatus (not_below to (sealed_for sum to old)) (status_below sum to old) new
status_written sum to old new some above tickets same noted fault =
    let s = status_of old in
    let bs = sealed_for sum to old in
    let size : ℕ = segment_size_of old in
    let left : spans (waiting_of new) ≡ spans_from to (sealed_below to s) = ap spans above.left ∙ above_seen to bs ∙ ap (spans_from to) (sealed_seen old sum to some) in
    let ledger : ledger_of new ≡ ledger_behind size (front_below to bs) (ledger_below to s) = above.ledger ∙ ap (ledger_behind size (front_below to bs)) (ledger_below_seen old to) in (
      above.left,
      status_wrote old new (spans_from to (sealed_below to s)) (start_below to s) (ledger_behind size (front_below to bs) (ledger_below to s)) (position_below size to s)
          left (above.start ∙ start_seen old to) ledger (above.position (machine_at new) ∙ below_seen old to (machine_at new)) tickets same noted fault,
    )

-- So it is where so many at the front of that are.
pub front_seen : {D C : Type 0} (trace : D → Trace) (sum : List ℕ → ℕ) (to : ℕ) (old new : Log D C) → (current_begin old < to → 0 < held_len old) → KeepsWriting trace sum old new
    → WroteParts trace sum to old new → WroteFront trace sum to old new
front_seen trace sum to old new some keeps parts =
    let s = status_of old in
    let bs = sealed_for sum to old in
    let size : ℕ = segment_size_of old in
    let left : spans (waiting_of new) ≡ drop parts.count (sealed_below to s) = ap spans parts.left ∙ drop_seen parts.count bs ∙ ap (λ (ss : List Span). drop parts.count ss) (sealed_seen old sum to some) in
    record {
      count = parts.count;
      stands = (
        parts.left,
        status_left old new (drop parts.count (sealed_below to s)) (start_below to s) (ledger_of new) (position_below size to s) left (parts.start ∙ start_seen old to) refl
            (parts.position (machine_at new) ∙ below_seen old to (machine_at new)) keeps.tickets keeps.position keeps.preserves.noted,
      );
      ledger = parts.ledger;
      written = parts.written;
      whole = parts.whole;
    }

-- What follows where a buffer was written: no failure is kept.
pub wrote_ok : {T : Type 0} (r : Result T Error) (A B P : Type 0) (now : Option IoError) (before after : ℕ) → (A → B → now ≡ None → P)
    → OnOk r A → OnOk r B → Answers r None now before after → OnOk r P
wrote_ok (Ok x) A B P now before after f a b answers = f a b answers.1
wrote_ok (Err e) A B P now before after f a b answers = tt
