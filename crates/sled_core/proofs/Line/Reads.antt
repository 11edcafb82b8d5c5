-- What a read finds of a message that a log has the record of; and what it answers and asks for, by whether its place was brought to the device.
use Rattle.std.proofs.Common.{SFits, of_z, to_z, IsTrue, ◌≡◌, ◌∙◌, ◌⊎◌, ◌≤◌, ◌<◌, ◌≤ℤ◌, ◌<ℤ◌, ℕ, ℤ, pos, unsigned_abs, true, false, List, map, Option, None, Some, Result, Ok, Err, arith, inl, inr, ap, sym, refl, subst}
use Rattle.std.specs.List.{Contains, slice_get}
use Rattle.std.specs.Prelude.{int_lt}
use Rattle.std.specs.declared.io.Error.{Error as IoError}
use Rattle.std.specs.declared.io.ErrorKind.{ErrorKind}
use Rattle.std.specs.declared.io.ErrorKind.TheVariants.{NotFound}
use Rattle.std.specs.Int.{w64}
use Rattle.std.specs.IoError.{error_kind}
use Rattle.std.proofs.lemmas.Bool.{cases_lt}
use Rattle.std.proofs.lemmas.Int.{ints, to_z-of_z}
use Rattle.sled_codec.specs.declared.result.Error.{Error}
use Rattle.sled_codec.specs.declared.result.Error.TheVariants.{Corruption, Held, Io, NotReserved, OutOfMemory, PlacesUsedUp}
use Rattle.sled_codec.specs.declared.result.DiskPtr.{DiskPtr}
use Rattle.sled_codec.specs.declared.result.DiskPtr.TheVariants.{Inline, Blob}
use Rattle.sled_codec.specs.History.{Message, History, table}
use Rattle.sled_codec.specs.Places.{MayBegin}
use Rattle.sled_codec.specs.Pointers.{lid_of}
use Rattle.sled_store.specs.Answers.{is_fault_kind}
use Rattle.sled_store.specs.Device.{State, Trace, state_of}
use Rattle.sled_store.specs.Script.{Performs, after_all}
use Rattle.sled_store.proofs.Segments.Elements.{in_map}
use Rattle.sled_store.proofs.Traces.ScriptLemmas.{performs_whole}
use Rattle.sled_core.specs.inside.Shown.{shown_of, shown}
use Rattle.sled_core.specs.Begun.{segment_view, SegmentView}
use Rattle.sled_core.specs.Causes.{HeldAnswers, IsFault, IsFaultAt, IsHeld, OnDone}
use Rattle.sled_core.specs.inside.Causes.{RecordAnswers}
use Rattle.sled_core.specs.declared.logger.Log.{Log}
use Rattle.sled_core.specs.Fits.{HasRecordOf, current_begin, device_of, fault_of, held_of, line_of, machine_at, noted_in}
use Rattle.sled_core.specs.Fits.{reserved_end, segment_size_of, synced_end, waiting_of}
use Rattle.sled_core.specs.invariants.Fits.{Holds}
use Rattle.sled_core.specs.inside.Fits.{HoldsLine, HoldsWith}
use Rattle.sled_core.specs.inside.FreeSlots.{HasSlot}
use Rattle.sled_core.specs.LogFile.{StaysFrom}
use Rattle.sled_core.specs.Logged.{in_log, logged}
use Rattle.sled_core.specs.inside.Marked.{KeepsSegment}
use Rattle.sled_core.specs.LogStatus.{LogStatus, failing, status_of}
use Rattle.sled_core.specs.ReadBuffer.{IsSettled, IsWrittenPlace, LeavesUnsealed, LeavesWritten, ReadAnswers, RefusesPlace, SealsAround, Settles, WritesAround, held_at, settling}
use Rattle.sled_core.specs.inside.ReadBuffer.{SettleAnswers}
use Rattle.sled_core.specs.ReadPointer.{GivesBlob, place_read, IsDamageAt}
use Rattle.sled_core.specs.Reading.{IsNoPlace}
use Rattle.sled_core.specs.invariants.Running.{Fits}
use Rattle.sled_core.specs.Stable.{IsNotReserved}
use Rattle.sled_core.specs.Waiting.{BufferAt}
use Rattle.sled_core.proofs.Holds.HeldFrom.{held_marked, held_under}
use Rattle.sled_core.proofs.Line.ShownParts.{line_older, line_written}
use Rattle.sled_core.proofs.Line.HeaderMarks.{marked_same}
use Rattle.sled_core.proofs.Line.Around.{is_none, none_found}
use Rattle.sled_core.proofs.Line.Outcomes.{all_done, all_err, all_ok, held_alike}
use Rattle.sled_core.proofs.Line.Records.{IsHeldAt, entry_stays, first_stable, line_begins, line_record}
use Rattle.sled_core.proofs.Line.Segments.{line_segments}
use Rattle.sled_core.proofs.Line.Settles.{stable_written}
use Rattle.sled_core.proofs.Logged.Messages.{inline_same, inline_there, table_logged}
use Rattle.sled_core.proofs.Reserve.Ranges.{at_there}
use Rattle.sled_core.proofs.Stable.EndLemmas.{or_beyond}

none_is : (o : Option BufferAt) → is_none o ≡ true → o ≡ None
none_is None is = refl
none_is (Some b) is = cc

-- Of a log whose device has not failed.
module _ {D C : Type 0} (sum : List ℕ → ℕ) (log : Log D C) (device : State) (H : History) (holds : HoldsLine sum log.marks (segment_size_of log) device None (line_of log) H) where
  -- what the log has the record of lies in one of its segments, or stays
  has_record : (m : Message) → Contains H.messages m → HasRecordOf log H m
      → (log.segments.first.site.place ≤ m.place) ⊎ StaysFrom H (first_stable sum (segment_size_of log) device 0 log.segments.first.site.place (segment_view log.segments.first) (map segment_view log.segments.behind.items) (line_segments log) H _ holds) m
  has_record m there has = elim has [
    | inl above ↦ inl above
    | inr (cut, far, entry) ↦ inr (entry_stays sum (segment_size_of log) device 0 log.segments.first.site.place (segment_view log.segments.first) (map segment_view log.segments.behind.items) (line_segments log) H _ holds log.line.lies.in_segment m there cut (held_under log.marks.ordered holds.begun cut far) entry)
  ]

-- What it shows of its device, which stands in the file itself.
module _ {D C : Type 0} (sum : List ℕ → ℕ) (log : Log D C) (device : State) (H : History)
    (holds : HoldsWith sum log.marks (noted_in log) (segment_size_of log) (shown (segment_size_of log) None (machine_at log) (line_of log) device) None
    (line_of log) (machine_at log) H) where
  abbrev size : ℕ
  size = segment_size_of log

  taken : (n : ℕ) (u : SegmentView) → slice_get (line_of log) n ≡ Some u → HasSlot size (machine_at log) u
  taken n u there = at_there (HasSlot size (machine_at log)) (line_of log) n u there holds.slots.taken

  its_record : (m : Message) → Contains H.messages m
      → (log.segments.first.site.place ≤ m.place) ⊎ StaysFrom H (held_of holds.holds.begun) m → IsWrittenPlace log m.place → (lid : ℕ)
      → m.pointer ≡ Inline lid → IsHeldAt sum size device.log.bytes lid m
  its_record m there has written lid pointer =
      let least = log.config.config.least in
      let some : 0 < size = omega (arith, least) in
      let place : ℕ = log.segments.first.site.place in
      line_record sum size (shown size None (machine_at log) (line_of log) device) log.reserved_to place (segment_view log.segments.first)
      (map segment_view log.segments.behind.items) (line_segments log) H _ holds.holds device.log.bytes
      (line_written sum size some device None refl (machine_at log) place (line_of log) (line_segments log) H _ holds.holds taken)
      (line_older sum size some device (machine_at log) (segment_view log.segments.first) (map segment_view log.segments.behind.items) place
      (line_segments log) H holds.holds taken)
      log.line.filled m there has written.0 (none_is _ (sym (none_found m.place (waiting_of log)) ∙ written.1)) lid pointer

-- A log has the record of a message with its item in it in what it has of the history, too.
inline_record : {D C : Type 0} (log : Log D C) (H : History) (m : Message) (lid : ℕ) → m.pointer ≡ Inline lid → HasRecordOf log H m → HasRecordOf log (logged H) m
inline_record log H m lid inline (inl above) = inl above
inline_record log H m lid inline (inr (cut, far, entry)) =
    let there : Contains (map in_log (table H cut m.page)) m = subst (Contains (map in_log (table H cut m.page))) (inline_same m lid inline) (in_map in_log (table H cut m.page) m entry) in
    inr (cut, far, subst (λ (l : List Message). Contains l m) (sym (table_logged H cut m.page)) there)

-- At the pointer of a message that a log has the record of a record may begin, where the log keeps no failure.
pub fits_begins : {D C : Type 0} (trace : D → Trace) (sum : List ℕ → ℕ) (log : Log D C) (H : History) (A f : ℕ) (U : List Message) → Fits trace sum log H A f U → fault_of log ≡ None → (m : Message) → Contains H.messages m → HasRecordOf log H m
    → (lid : ℕ) → m.pointer ≡ Inline lid → MayBegin (segment_size_of log) lid
unfolding Fits
fits_begins trace sum log H A f U fits none m there has lid pointer =
    let size : ℕ = segment_size_of log in
    let device : State = shown_of trace log in
    let holds : HoldsLine sum log.marks size device None (line_of log) (logged H) = subst (λ (o : Option IoError). HoldsLine sum log.marks size device o (line_of log) (logged H)) none fits.shows.parts.holds in
    let known : Contains (logged H).messages m = inline_there H m lid pointer there in
    line_begins sum size device 0 log.segments.first.site.place (segment_view log.segments.first) (map segment_view log.segments.behind.items) (line_segments log) (logged H) _ holds m known (has_record sum log device (logged H) holds m known (inline_record log H m lid pointer has)) lid pointer

-- What a log that keeps no failure holds it holds over what it shows of its device then.
shows_none : {D C : Type 0} (sum : List ℕ → ℕ) (log : Log D C) (device : State) (H : History) → fault_of log ≡ None
    → HoldsWith sum log.marks (noted_in log) (segment_size_of log) (shown (segment_size_of log) (fault_of log) (machine_at log) (line_of log) device)
    (fault_of log) (line_of log) (machine_at log) H
    → HoldsWith sum log.marks (noted_in log) (segment_size_of log) (shown (segment_size_of log) None (machine_at log) (line_of log) device) None (line_of log)
    (machine_at log) H
shows_none sum log device H none holds =
    subst (λ (o : Option IoError). HoldsWith sum log.marks (noted_in log) (segment_size_of log) (shown (segment_size_of log) o (machine_at log) (line_of log)
    device) o (line_of log) (machine_at log) H) none holds

-- The record of a message of the history stands where its pointer says, once its place was brought to the device.
pub settled_record : {D C : Type 0} (trace : D → Trace) (sum : List ℕ → ℕ) (old mid : Log D C) (H : History) (m : Message) → Holds trace sum old H → Holds trace sum mid H → fault_of old ≡ None → fault_of mid ≡ None → Contains H.messages m → HasRecordOf old H m
    → IsWrittenPlace mid m.place → (m.place < synced_end old → mid ≡ old) → mid.marks.joined ≤ℤ pos (synced_end old) → (lid : ℕ) → m.pointer ≡ Inline lid
    → IsHeldAt sum (segment_size_of mid) (state_of (trace (device_of mid))).log.bytes lid m
unfolding Holds
settled_record {D} {C} trace sum old mid H m before after whole whole_now there has written still lower lid pointer =
    let device : State = state_of (trace (device_of old)) in
    let now : State = state_of (trace (device_of mid)) in
    let first = shows_none sum old device (logged H) whole before.shows in
    let later = shows_none sum mid now (logged H) whole_now after.shows in
    let known : Contains (logged H).messages m = inline_there H m lid pointer there in
    elim (cases_lt m.place (synced_end old)) [
      | inl below ↦ subst (λ (l : Log D C). IsHeldAt sum (segment_size_of l) (state_of (trace (device_of l))).log.bytes lid m) (sym (still below))
          (its_record sum old device (logged H) first m known
          (has_record sum old (shown (segment_size_of old) None (machine_at old) (line_of old) device) (logged H) first.holds m known
          (inline_record old H m lid pointer has)) (stable_written old m.place below) lid pointer)
      | inr above ↦ its_record sum mid now (logged H) later m known
          (inr (inr (held_marked mid.marks.ordered later.holds.begun m.place (omega (arith, ints, lower, above)), known))) written lid pointer
    ]

-- What a read answers where its place isn't brought to the device.

none_kept : {e : IoError} → None ≡ Some e → ⊥
none_kept is = cc

-- a failure of the device isn't that a blob is missing
no_miss : (kind : ErrorKind) → IsTrue (is_fault_kind kind) → kind ≡ NotFound → ⊥
no_miss kind fault is = let bad : IsTrue false = subst (λ k. IsTrue (is_fault_kind k)) is fault in cc

pub fault_missed : (e : IoError) (now : Option IoError) (before after : ℕ) → IsFault e None now before after → error_kind e ≡ NotFound → ⊥
fault_missed e now before after fault missed = elim fault [ inl kept ↦ none_kept kept.0 | inr here ↦ no_miss (error_kind e) here.3 missed ]

-- a failure of the device is one, whatever is read
pub fault_at : (blobs : ℤ → Option (List ℕ)) (p : DiskPtr) (e : IoError) (so : Type 0) (old now : Option IoError) (before after : ℕ) → IsFault e old now before after → IsFaultAt blobs p e so old now before after
fault_at blobs (Inline lid) e so old now before after fault = fault
fault_at blobs (Blob lid place) e so old now before after fault = inl fault

module _ {D C : Type 0} (lsn : ℤ) (p : DiskPtr) (sum : List ℕ → ℕ) (old new : Log D C) where
  abbrev at_read : ℤ
  at_read = place_read lsn p

  -- It was a place, and stable or reserved.
  pub refuses_none : {T : Type 0} (r : Result T Error) → fault_of old ≡ None → (IsNotReserved r → ⊥) → (IsNoPlace (segment_size_of old) lsn (lid_of p) → ⊥) → (at_read <ℤ pos (synced_end old)) ⊎ (at_read <ℤ pos (reserved_end old)) → RefusesPlace r lsn p old new
  refuses_none r free not_so is_place inside = record {
    faulty = λ e kept. absurd (none_kept (sym free ∙ kept));
    no_place = λ _ none. absurd (is_place none);
    not_reserved = λ _ _ behind beyond. elim inside [ inl below ↦ absurd (omega (arith, ints, below, beyond)) | inr lower ↦ absurd (omega (arith, ints, lower, behind)) ];
    unchanged = λ is. absurd (not_so is);
  }

  module _ (S T : Type 0) (e : Error) (held : Option ℕ) (used : Type 0) (now : Option IoError) (before after : ℕ) where
    pub err_settles : (trace : D → Trace) → SettleAnswers {T = S} (Err e) at_read (synced_end old) (reserved_end old) held used now before after
        → OnDone {T = S} (Err e) (trace (device_of new) ≡ after_all (settling sum old at_read) (trace (device_of old))) → Performs (settling sum old at_read) (trace (device_of old)) (trace (device_of new))
        → (at_read <ℤ pos (synced_end old) → trace (device_of new) ≡ trace (device_of old)) → Settles {T = T} trace sum (Err e) lsn p old new
    err_settles trace answers made most still = by e answers made where
      by : (x : Error) → SettleAnswers {T = S} (Err x) at_read (synced_end old) (reserved_end old) held used now before after
          → OnDone {T = S} (Err x) (trace (device_of new) ≡ after_all (settling sum old at_read) (trace (device_of old))) → Settles {T = T} trace sum (Err x) lsn p old new
      by (Held at) answers made = record { made = made; damaged = λ is. absurd is; missed = λ _ is. absurd is; at_most = most; settled = tt; unwritten = still }
      by (Io x) answers made = record { made = tt; damaged = λ is. absurd is; missed = λ _ is. absurd (fault_missed x now before after answers.1 is); at_most = most; settled = tt; unwritten = still }
      by OutOfMemory answers made = record { made = tt; damaged = λ is. absurd is; missed = λ _ is. absurd is; at_most = most; settled = tt; unwritten = still }
      by PlacesUsedUp answers made = record { made = tt; damaged = λ is. absurd is; missed = λ _ is. absurd is; at_most = most; settled = tt; unwritten = still }
      by (NotReserved at) answers made = record { made = tt; damaged = λ is. absurd is; missed = λ _ is. absurd is; at_most = most; settled = tt; unwritten = still }
      by _ answers made = absurd answers.1

    pub err_refuses : SettleAnswers {T = S} (Err e) at_read (synced_end old) (reserved_end old) held used now before after → fault_of old ≡ None → (IsNotReserved {T = S} (Err e) → new ≡ old) → (IsNoPlace (segment_size_of old) lsn (lid_of p) → ⊥)
        → RefusesPlace {T = T} (Err e) lsn p old new
    err_refuses answers free same is_place = by e answers same where
      by : (x : Error) → SettleAnswers {T = S} (Err x) at_read (synced_end old) (reserved_end old) held used now before after → (IsNotReserved {T = S} (Err x) → new ≡ old) → RefusesPlace {T = T} (Err x) lsn p old new
      by (NotReserved at) answers same = record { faulty = λ x kept. absurd (none_kept (sym free ∙ kept)); no_place = λ _ none. absurd (is_place none); not_reserved = λ _ _ _ _. tt; unchanged = λ _. same tt }
      by (Held at) answers same = refuses_none (Err (Held at)) free (λ is. is) is_place answers.0
      by (Io x) answers same = refuses_none (Err (Io x)) free (λ is. is) is_place answers.0
      by OutOfMemory answers same = refuses_none (Err OutOfMemory) free (λ is. is) is_place answers.0
      by PlacesUsedUp answers same = refuses_none (Err PlacesUsedUp) free (λ is. is) is_place answers.0
      by _ answers same = absurd answers.1

-- Nor does it come of a place that is stable, but for a failure of the device or want of memory.
pub err_gives : (S : Type 0) (e : Error) (m : Message) (kept : Option IoError) (lsn : ℤ) (stable end : ℕ) (held : Option ℕ) (used : Type 0) (now : Option IoError) (before after : ℕ) → lsn <ℤ pos stable → held ≡ None → (used → pos stable ≤ℤ lsn)
    → SettleAnswers {T = S} (Err e) lsn stable end held used now before after → GivesBlob m kept (Err e)
err_gives S (Io e) m kept lsn stable end held used now before after below free up answers = λ _ missed. fault_missed e now before after answers.1 missed
err_gives S OutOfMemory m kept lsn stable end held used now before after below free up answers = tt
err_gives S (Held at) m kept lsn stable end held used now before after below free up (inside, answers) = let some : None ≡ Some answers.0.0 = sym free ∙ answers.0.1 in cc
err_gives S PlacesUsedUp m kept lsn stable end held used now before after below free up (inside, answers) = let above = up answers.0 in omega (arith, ints, below, above)
err_gives S (NotReserved at) m kept lsn stable end held used now before after below free up answers = let above = answers.1 in omega (arith, ints, below, above)
err_gives S _ m kept lsn stable end held used now before after below free up answers = absurd answers.1

pub err_answers : (S T : Type 0) (sum : List ℕ → ℕ) (blobs : ℤ → Option (List ℕ)) (p : DiskPtr) (e : Error) (lsn : ℤ) (stable end : ℕ) (held : Option ℕ) (used : Type 0) (now : Option IoError) (before after : ℕ) → (lsn <ℤ pos stable → held ≡ None)
    → (used → pos stable ≤ℤ lsn) → SettleAnswers {T = S} (Err e) lsn stable end held used now before after → ReadAnswers {T = T} sum blobs p (Err e) lsn stable end held used None now before after
err_answers S T sum blobs p (Held at) lsn stable end held used now before after free up (inside, answers) = elim inside [
  | inl below ↦ absurd (let some : None ≡ Some answers.0.0 = sym (free below) ∙ answers.0.1 in cc)
  | inr lower ↦ (lower, answers.0, answers.1, answers.2, answers.3, answers.4)
]
err_answers S T sum blobs p (Io e) lsn stable end held used now before after free up (inside, answers) = fault_at blobs p e _ None now before after answers
err_answers S T sum blobs p OutOfMemory lsn stable end held used now before after free up (inside, answers) = (inside, answers.0, answers.1, answers.2, answers.3)
err_answers S T sum blobs p PlacesUsedUp lsn stable end held used now before after free up (inside, answers) = elim inside [
  | inl below ↦ absurd (let above = up answers.0 in omega (arith, ints, below, above))
  | inr lower ↦ (lower, answers.0, answers.1, answers.2, answers.3)
]
err_answers S T sum blobs p (NotReserved at) lsn stable end held used now before after free up answers = (answers.0, answers.1, answers.2, refl, answers.3, answers.4)
err_answers S T sum blobs p _ lsn stable end held used now before after free up answers = absurd answers.1

-- No damage comes of it.
pub err_damages : (S : Type 0) (sum : List ℕ → ℕ) (size : ℕ) (s : State) (at : ℤ) (p : DiskPtr) (e : Error) (lsn : ℤ) (stable end : ℕ) (held : Option ℕ)
    (used : Type 0) (now : Option IoError) (before after : ℕ) → SettleAnswers {T = S} (Err e) lsn stable end held used now before after
    → IsDamageAt sum size s at p e
err_damages S sum size s at p (Io e) lsn stable end held used now before after answers = tt
err_damages S sum size s at p OutOfMemory lsn stable end held used now before after answers = tt
err_damages S sum size s at p (Held place) lsn stable end held used now before after answers = tt
err_damages S sum size s at p PlacesUsedUp lsn stable end held used now before after answers = tt
err_damages S sum size s at p (NotReserved place) lsn stable end held used now before after answers = tt
err_damages S sum size s at p _ lsn stable end held used now before after answers = absurd answers.1

-- a place is settled as its buffers are written, where it was reserved
pub settle_answers : {T : Type 0} (r : Result T Error) (lsn : ℤ) (stable end : ℕ) (held : Option ℕ) (used : Type 0) (now : Option IoError) (before after : ℕ) → (lsn <ℤ pos stable) ⊎ (lsn <ℤ pos end) → HeldAnswers r held used None now before after
    → SettleAnswers r lsn stable end held used now before after
settle_answers (Err (NotReserved at)) lsn stable end held used now before after inside answers = absurd answers
settle_answers _ lsn stable end held used now before after inside answers = (inside, answers)

-- And where it is.

pub read_reserved : {T : Type 0} (sum : List ℕ → ℕ) (blobs : ℤ → Option (List ℕ)) (p : DiskPtr) (r : Result T Error) (old now : Option IoError) (before after : ℕ) → RecordAnswers sum blobs p r old now before after → IsNotReserved r → ⊥
read_reserved sum blobs p (Err (NotReserved at)) old now before after answers is = answers
read_reserved sum blobs p _ old now before after answers is = is

pub read_held : {T : Type 0} (sum : List ℕ → ℕ) (blobs : ℤ → Option (List ℕ)) (p : DiskPtr) (r : Result T Error) (old now : Option IoError) (before after : ℕ) → RecordAnswers sum blobs p r old now before after → IsHeld r → ⊥
read_held sum blobs p (Err (Held at)) old now before after answers is = answers
read_held sum blobs p _ old now before after answers is = is

pub read_settles : {T D C : Type 0} (trace : D → Trace) (sum : List ℕ → ℕ) (r : Result T Error) (lsn : ℤ) (p : DiskPtr) (old mid new : Log D C) → held_at sum old (place_read lsn p) ≡ None → trace (device_of mid) ≡ after_all (settling sum old (place_read lsn p)) (trace (device_of old))
    → (place_read lsn p <ℤ pos (synced_end old) → trace (device_of mid) ≡ trace (device_of old)) → trace (device_of new) ≡ trace (device_of mid) → IsSettled new lsn p → Settles trace sum r lsn p old new
read_settles trace sum r lsn p old mid new held made still read written = record {
  made = all_done r _ (read ∙ made);
  damaged = λ _. inr (held, read ∙ made);
  missed = λ _ _. (held, read ∙ made);
  at_most = performs_whole _ _ _ (read ∙ made);
  settled = all_ok r _ written;
  unwritten = λ below. read ∙ still below;
}

-- the place that was read is on the device
pub is_settled : {D C : Type 0} (log : Log D C) (lsn : ℤ) (p : DiskPtr) → pos 0 ≤ℤ lsn → (pos 0 ≤ℤ place_read lsn p → IsWrittenPlace log (unsigned_abs (place_read lsn p))) → IsSettled log lsn p
is_settled log lsn (Inline lid) above written = written above
is_settled log lsn (Blob lid place) above written = written

pub read_answers : {T : Type 0} (sum : List ℕ → ℕ) (blobs : ℤ → Option (List ℕ)) (p : DiskPtr) (r : Result T Error) (lsn : ℤ) (stable end : ℕ) (held : Option ℕ) (used : Type 0) (now : Option IoError) (before after : ℕ) → (lsn <ℤ pos stable) ⊎ (lsn <ℤ pos end) → held ≡ None → (used → ⊥)
    → RecordAnswers sum blobs p r None now before after → ReadAnswers sum blobs p r lsn stable end held used None now before after
read_answers sum blobs p (Ok x) lsn stable end held used now before after inside none unused answers = (inside, none, unused, answers.0, answers.1, answers.2)
read_answers sum blobs (Inline lid) (Err (Io e)) lsn stable end held used now before after inside none unused answers = answers
read_answers sum blobs (Blob lid place) (Err (Io e)) lsn stable end held used now before after inside none unused answers = elim answers [
  | inl fault ↦ inl fault
  | inr missed ↦ inr (missed.0, missed.1, (inside, none, unused), missed.3, missed.4, missed.5)
]
read_answers sum blobs p (Err OutOfMemory) lsn stable end held used now before after inside none unused answers = (inside, unused, answers.0, answers.1, answers.2)
read_answers sum blobs p (Err (Corruption at)) lsn stable end held used now before after inside none unused answers = answers
read_answers sum blobs p (Err _) lsn stable end held used now before after inside none unused answers = absurd answers

-- What is sealed.

-- Nothing is done.
pub seals_none : {T D C : Type 0} (r : Result T Error) (lsn : ℤ) (log : Log D C) → (IsHeld r → ⊥) → SealsAround r lsn log log
seals_none r lsn log free = record { still = λ _. refl; apart = λ _. refl; once = inl refl; held = λ is. absurd (free is); none = λ is. all_ok r _ is }

-- What was done before a read holds of it.
module _ {D C : Type 0} (lsn : ℤ) (old mid : Log D C) where
  pub seals_err : {T T' : Type 0} (e : Error) → SealsAround {T = T} (Err e) lsn old mid → SealsAround {T = T'} (Err e) lsn old mid
  seals_err {T = T} {T' = T'} e is = record { still = is.still; apart = is.apart; once = is.once; held = λ held. is.held (held_alike T T' e held); none = λ none. tt }

  pub seals_read : {T T' : Type 0} (r : Result T' Error) (new : Log D C) (x : T) → SealsAround {T = T} (Ok x) lsn old mid → waiting_of new ≡ waiting_of mid → current_begin new ≡ current_begin mid → (IsHeld r → ⊥) → SealsAround r lsn old new
  seals_read r new x is waiting begin free = record {
    still = λ below. waiting ∙ is.still below;
    apart = λ below. begin ∙ is.apart below;
    once = elim is.once [ inl same ↦ inl (begin ∙ same) | inr all ↦ inr (begin ∙ all) ];
    held = λ held. absurd (free held);
    none = λ none. all_ok r _ (waiting ∙ is.none none);
  }

  pub around_err : {T T' : Type 0} (sum : List ℕ → ℕ) (e : Error) → WritesAround {T = T} sum (Err e) lsn old mid → WritesAround {T = T'} sum (Err e) lsn old mid
  around_err {T = T} {T' = T'} sum e is = record { still = is.still; written = λ _. tt; held = λ held. is.held (held_alike T T' e held); some = is.some; marked = is.marked }

  pub around_read : {T T' : Type 0} (sum : List ℕ → ℕ) (r : Result T' Error) (new : Log D C) (x : T) → WritesAround {T = T} sum (Ok x) lsn old mid → waiting_of new ≡ waiting_of mid → status_of new ≡ failing (fault_of new) (status_of mid) → (IsHeld r → ⊥) → KeepsSegment mid new → WritesAround sum r lsn old new
  around_read sum r new x is waiting status free segment = record {
    still = still;
    written = λ behind. all_ok r _ (left behind);
    held = λ held. absurd (free held);
    some = elim (or_beyond (pos (synced_end old)) lsn) [ inl behind ↦ all_err r _ (inr (inr (inl (left behind)))) | inr below ↦ all_err r _ (inl (still below)) ];
    marked = marked_same sum old mid new is.marked segment (ap (λ (s : LogStatus). s.start.place) status);
  } where
    left : pos (synced_end old) ≤ℤ lsn → LeavesWritten sum (unsigned_abs lsn) old new
    left behind = (waiting ∙ (is.written behind).0, status ∙ ap (failing (fault_of new)) (is.written behind).1)

    still : lsn <ℤ pos (synced_end old) → LeavesUnsealed old new
    still below = (waiting ∙ (is.still below).0, status ∙ ap (failing (fault_of new)) (is.still below).1)

-- a place that isn't negative
pub pos_abs : (z : ℤ) → pos 0 ≤ℤ z → pos (unsigned_abs z) ≡ z
pos_abs z above = omega (arith, ints)

-- such a one, as code holds it
pub at_place : (lsn : ℤ) (bits : ℤ) (place : ℕ) → place ≡ unsigned_abs bits → bits ≡ lsn → pos 0 ≤ℤ lsn → pos place ≡ lsn
at_place lsn bits place is same above = ap pos (is ∙ ap unsigned_abs same) ∙ pos_abs lsn above

pub above_zero : (lsn : ℤ) → SFits w64 lsn → int_lt (to_z w64 (of_z w64 lsn)) (pos 0) ≡ false → pos 0 ≤ℤ lsn
above_zero lsn fits test = let same = to_z-of_z w64 lsn fits in let known : int_lt lsn (pos 0) ≡ false = subst (λ z. int_lt z (pos 0) ≡ false) same test in grind (arith, ints, known)
