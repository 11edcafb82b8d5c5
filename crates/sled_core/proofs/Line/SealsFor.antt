-- Where the current buffer has a place it is sealed first: what has the place is the same then.
use Rattle.std.proofs.Common.{◌≡◌, ◌∙◌, ◌⊎◌, ◌≤◌, ◌<◌, ◌+◌, ◌&&◌, nat_le, ap, sym, refl, arith, subst, inl, inr, ℕ, suc, Bool, true, false, pos, nat_lt, if◌then◌else◌, List, [], ◌∷◌, ◌++◌, length, map, Option, None, Some, Result, Err, OnOk, OnErr}
use Rattle.std.specs.List.{Contains}
use Rattle.std.specs.Prelude.{int_lt}
use Rattle.std.proofs.lemmas.Bool.Decides.{nat_tests}
use Rattle.std.proofs.lemmas.Int.{ints}
use Rattle.std.specs.declared.io.Error.{Error as IoError}
use Rattle.sled_codec.specs.declared.result.Error.{Error}
use Rattle.sled_codec.specs.declared.result.Error.TheVariants.{Held}
use Rattle.sled_store.specs.Device.{Trace}
use Rattle.sled_store.specs.SegmentStates.{Machine}
use Rattle.sled_store.specs.declared.config.RunningConfig.{RunningConfig}
use Rattle.sled_store.proofs.Segments.Elements.{in_nothing, only_in}
use Rattle.sled_core.specs.Begun.{SegmentView, segment_view}
use Rattle.sled_core.specs.declared.logger.Log.{Log}
use Rattle.sled_core.specs.inside.Fits.{AddsBuffers}
use Rattle.sled_core.specs.Fits.{IsUsedUp, KeepsAll, KeepsTickets, buffers_of, current_begin, current_of, device_of, fault_of, held_len, ledger_of, ledger_sealed, position_sealed, position_with, reserved_end, sealing_end, segment_size_of, start_of, synced_end, waiting_of, machine_at, position_of}
use Rattle.sled_core.specs.Freeing.{Ledger}
use Rattle.sled_core.specs.Fronts.{CameAround, IsOnTheWay, WroteNone, WroteThenFailed, synced_writes, syncs}
use Rattle.sled_core.specs.Keeps.{Preserves, SamePosition, start_sealed, KeepsWriting}
use Rattle.sled_core.specs.Ledger.{ledger_behind, writings}
use Rattle.sled_core.specs.LogStatus.{LogStatus, ledger_around, position_around, sealed_around, start_around, status_of}
use Rattle.sled_core.specs.Marked.{BeginsMarked}
use Rattle.sled_core.specs.inside.Marked.{KeepsSegment}
use Rattle.sled_core.specs.Account.{account_behind, account_of}
use Rattle.sled_core.specs.Causes.{HeldAnswers, IsHeld}
use Rattle.sled_core.specs.ReadBuffer.{IsUsedUpAt, LeavesFailing, LeavesSealed, LeavesWritten, WritesAround, held_at, ledger_at, sealed_at, settling, LeavesAround, ledger_written, position_at, start_at}
use Rattle.sled_core.specs.Spans.{spans_without}
use Rattle.sled_core.specs.Waiting.{BufferAt, Span, free_around, has_place, one_around, without_around, BufferStart, spans}
use Rattle.sled_core.proofs.Line.KeptCalls.{kept_still, position_still, tickets_still}
use Rattle.sled_core.proofs.Line.Around.{found, found_front, free_found, free_of, held_found, held_of}
use Rattle.sled_core.proofs.Line.Below.{begin_all}
use Rattle.sled_core.proofs.Line.Entered.{filled_last}
use Rattle.sled_core.proofs.Line.HeaderMarks.{marked_same, none_begun}
use Rattle.sled_core.proofs.Line.Outcomes.{held_err, on_err, on_ok}
use Rattle.sled_core.proofs.Line.PinnedWrites.{ledger_account}
use Rattle.sled_core.proofs.Line.SealFirst.{ends_behind, sealed_ledger}
use Rattle.sled_core.proofs.Line.Shows.{buffers_add}
use Rattle.sled_core.proofs.Line.StatusSeen.{around_left_seen, around_seen, ledger_around_seen, sealed_around_seen, start_around_seen}
use Rattle.sled_core.proofs.Line.Wrote.{status_left}

-- The current buffer is sealed where it has a place.
abbrev pub SealsIt : {D C : Type 0} → (List ℕ → ℕ) → ℕ → Log D C → Log D C → Type 0
SealsIt sum place old new =
    (waiting_of new ≡ sealed_at sum place old) × (start_of new ≡ start_at place old) × (ledger_of new ≡ ledger_at place old)
    × ((m : Machine) → position_with new m ≡ position_at place old m)

-- What a call has before it writes the buffer that has the place: the log that it was, or the one with its current buffer sealed.
pub record SealsFor {D C : Type 0} (trace : D → Trace) (sum : List ℕ → ℕ) (place : ℕ) (old mid : Log D C) : Type 0 where
  pub lower : place < current_begin mid
  pub has : found place (buffers_of sum mid) ≡ found place (buffers_of sum old)
  pub synced : synced_end mid ≡ synced_end old
  pub keeps : Preserves trace sum old mid
  pub tickets : KeepsTickets old mid
  pub position : SamePosition old mid
  pub device : device_of mid ≡ device_of old
  pub fault : fault_of mid ≡ fault_of old
  pub unused : IsUsedUpAt old (pos place) → ⊥
  pub apart : place < current_begin old → current_begin mid ≡ current_begin old
  pub once : (current_begin mid ≡ current_begin old) ⊎ (current_begin mid ≡ sealing_end old)
  pub sealed : SealsIt sum place old mid
  pub account : account_of mid ≡ account_of old
  pub marked : BeginsMarked sum old mid
  pub none : waiting_of old ≡ [] → (b : BufferAt) → Contains (waiting_of mid) b → has_place place b ≡ true

-- It hasn't.
pub seals_still : {D C : Type 0} (trace : D → Trace) (sum : List ℕ → ℕ) (place : ℕ) (log : Log D C) → place < current_begin log → SealsFor trace sum place log log
seals_still trace sum place log lower = record {
  lower = lower;
  has = refl;
  synced = refl;
  keeps = kept_still trace sum log;
  tickets = tickets_still log;
  position = position_still log;
  device = refl;
  fault = refl;
  unused = λ used. let up = used.0 in omega (arith, ints, up, lower);
  apart = λ _. refl;
  once = inl refl;
  account = refl;
  sealed = still (let no : nat_le (current_begin log) place ≡ false = grind (arith, nat_tests, lower) in no);
  marked = none_begun sum log log refl (λ h there. there) (λ f there. there);
  none = λ none b has. absurd (in_nothing b (subst (λ (l : List BufferAt). Contains l b) none has));
} where
  still : nat_le (current_begin log) place ≡ false → SealsIt sum place log log
  still test = (
    sym (ap (λ (o : Bool). if o then buffers_of sum log else waiting_of log) test),
    sym (ap (λ (o : Bool). if o then start_sealed log else start_of log) test),
    sym (ap (λ (o : Bool). if o then ledger_sealed log else ledger_of log) test),
    λ m. sym (ap (λ (o : Bool). if o then position_sealed log m else position_with log m) test),
  )

-- what the current buffer holds, where that has a place that was reserved
pub holds_reserved : {D C : Type 0} (log : Log D C) (place : ℕ) → current_begin log ≤ place → place < log.reserved_to → (0 < held_len log) × (place < sealing_end log)
holds_reserved log place above reserved =
    let v : SegmentView = current_of log in
    let last = filled_last (segment_size_of log) log.reserved_to (segment_view log.segments.first) (map segment_view log.segments.behind.items) log.line.filled in
    let raw : log.reserved_to ≤ v.parts.site.place + length v.parts.bytes = last.1 in
    let up = ends_behind log in
    (omega (arith, above, reserved, raw), omega (arith, reserved, up))

-- It has.
pub seals_current : {D C : Type 0} (trace : D → Trace) (sum : List ℕ → ℕ) (place : ℕ) (old mid : Log D C) → current_begin old ≤ place → place < reserved_end old → AddsBuffers sum old mid → waiting_of mid ≡ buffers_of sum old → current_begin mid ≡ sealing_end old → start_of mid ≡ start_sealed old
    → ((m : Machine) → position_with mid m ≡ position_sealed old m) → Preserves trace sum old mid → KeepsTickets old mid → SamePosition old mid → KeepsAll old mid → (IsUsedUp old → ⊥) → BeginsMarked sum old mid → SealsFor trace sum place old mid
seals_current {D} {C} trace sum place old mid above reserved adds waiting begins start with_slots keeps tickets position same unused marked =
    let held = holds_reserved old place above reserved in
    let current = buffers_add sum old held.0 in
    record {
      lower = (let up = held.1 in omega (arith, begins, up));
      has = ap (found place) adds.is ∙ found_front place (buffers_of sum old) adds.more (begin_all (reserved_end old) (suc place) adds.more (omega (arith, reserved)) adds.behind);
      synced = same.synced;
      keeps = keeps;
      tickets = tickets;
      position = position;
      device = ap (λ (x : RunningConfig D C). x.device) same.config;
      fault = same.fault;
      unused = λ used. unused used.1;
      apart = λ lower. absurd (omega (arith, above, lower));
      once = inr begins;
      account = same.account;
      sealed = by_test (let yes : nat_le (current_begin old) place ≡ true = grind (arith, nat_tests, above) in yes);
      marked = marked;
      none = λ none b has. by_more (ap (λ (s : Span). s.place) current.seen) (ap (λ (s : Span). s.end) current.seen) held.1 (only_in current.more b (subst (λ (l : List BufferAt). Contains l b) (waiting ∙ current.is ∙ ap (λ (l : List BufferAt). l ++ current.more ∷ []) none) has));
    }
  where
    by_test : nat_le (current_begin old) place ≡ true → SealsIt sum place old mid
    by_test test = (
      waiting ∙ sym (ap (λ (o : Bool). if o then buffers_of sum old else waiting_of old) test),
      start ∙ sym (ap (λ (o : Bool). if o then start_sealed old else start_of old) test),
      sealed_ledger old mid with_slots position.position same.account ∙ sym (ap (λ (o : Bool). if o then ledger_sealed old else ledger_of old) test),
      λ m. with_slots m ∙ sym (ap (λ (o : Bool). if o then position_sealed old m else position_with old m) test),
    )

    by_more : {x b : BufferAt} → x.place ≡ current_begin old → x.end ≡ sealing_end old → place < sealing_end old → x ≡ b → has_place place b ≡ true
    by_more {x} begin end lt is = subst (λ (y : BufferAt). has_place place y ≡ true) is (let lower : nat_le x.place place ≡ true = grind (arith, nat_tests, begin, above) in let upper : nat_lt place x.end ≡ true = grind (arith, nat_tests, end, lt) in ap (λ (o : Bool). o && nat_lt place x.end) lower ∙ upper)

-- A call that was held up saw no failure.
pub held_sound : {T : Type 0} (r : Result T Error) (held : Option ℕ) (used : Type 0) (now : Option IoError) (before after : ℕ)
    → HeldAnswers r held used None now before after → IsHeld r → now ≡ None
held_sound (Err (Held at)) held used now before after answers is = answers.3
held_sound _ held used now before after answers is = absurd is

-- So the same is written then, and the same holds it up.
module _ {D C : Type 0} (trace : D → Trace) (sum : List ℕ → ℕ) (place : ℕ) (old mid : Log D C) (seals : SealsFor trace sum place old mid) where
  ledger_same_at : ledger_at place mid ≡ ledger_at place old
  ledger_same_at =
      let lower = seals.lower in
      let no : nat_le (current_begin mid) place ≡ false = grind (arith, nat_tests, lower) in
      ap (λ (o : Bool). if o then ledger_sealed mid else ledger_of mid) no ∙ seals.sealed.2

  free_same : free_around place (buffers_of sum mid) ≡ free_around place (buffers_of sum old)
  free_same = free_found place (buffers_of sum mid) ∙ ap free_of seals.has ∙ sym (free_found place (buffers_of sum old))

  pub settling_same : settling sum mid (pos place) ≡ settling sum old (pos place)
  settling_same = λ i. if int_lt (pos place) (pos (seals.synced i)) then [] else writings (seals.position.size i) (free_same i) (ledger_same_at i)

  pub held_at_same : held_at sum mid (pos place) ≡ held_at sum old (pos place)
  held_at_same = λ i. if int_lt (pos place) (pos (seals.synced i)) then None else (held_found place (buffers_of sum mid) ∙ ap held_of seals.has ∙ sym (held_found place (buffers_of sum old))) i

  -- and the buffer that has the place is left out, where it is written.
  module _ (new : Log D C) (start : start_of new ≡ start_of mid) (with_slots : (m : Machine) → position_with new m ≡ position_with mid m) (keeps : KeepsWriting trace sum old new)
      (below : place < reserved_end old) where
    abbrev s : LogStatus
    s = status_of old

    abbrev size : ℕ
    size = segment_size_of old

    some : current_begin old ≤ place → 0 < held_len old
    some above = (holds_reserved old place above below).0

    starts : start_of new ≡ start_around place s
    starts = start ∙ seals.sealed.1 ∙ start_around_seen old place

    lies : position_of new ≡ position_around size place s (machine_at new)
    lies = with_slots (machine_at new) ∙ seals.sealed.3 (machine_at new) ∙ around_seen old place (machine_at new)

    left_seen : spans (without_around place (sealed_at sum place old)) ≡ spans_without place (sealed_around place s)
    left_seen = around_left_seen place (sealed_at sum place old) ∙ ap (spans_without place) (sealed_around_seen old sum place some)

    leaves_it : (l : Ledger) → waiting_of new ≡ without_around place (waiting_of mid) → ledger_of new ≡ l → LeavesAround sum place l old new
    leaves_it l left ledger =
        let is : waiting_of new ≡ without_around place (sealed_at sum place old) = left ∙ ap (without_around place) seals.sealed.0 in
        (is, status_left old new (spans_without place (sealed_around place s)) (start_around place s) l (position_around size place s) (ap spans is ∙ left_seen) starts ledger lies keeps.tickets keeps.position keeps.preserves.noted)

    written_seen : ledger_behind size (one_around place (sealed_at sum place old)) (ledger_at place old) ≡ ledger_written sum place old
    written_seen = ap (ledger_behind size (one_around place (sealed_at sum place old))) (ledger_around_seen old place)

    pub leaves_sealed : (waiting_of new ≡ waiting_of mid) × (ledger_of new ≡ ledger_of mid) → LeavesSealed sum place old new
    leaves_sealed same =
        let is : waiting_of new ≡ sealed_at sum place old = same.0 ∙ seals.sealed.0 in (
          is,
          status_left old new (sealed_around place s) (start_around place s) (ledger_around place s) (position_around size place s) (ap spans is ∙ sealed_around_seen old sum place some) starts
              (same.1 ∙ seals.sealed.2 ∙ ledger_around_seen old place) lies keeps.tickets keeps.position keeps.preserves.noted,
        )

    pub leaves_written : (waiting_of new ≡ without_around place (waiting_of mid)) × (ledger_of new ≡ ledger_behind (segment_size_of mid) (one_around place (waiting_of mid)) (ledger_of mid)) → LeavesWritten sum place old new
    leaves_written is =
        leaves_it (ledger_written sum place old) is.0
        (is.1 ∙ (λ i. ledger_behind (seals.position.size i) (one_around place (seals.sealed.0 i)) (seals.sealed.2 i)) ∙ written_seen)

    -- or that, and the step behind it failed,
    pub leaves_failing : WroteThenFailed trace (one_around place (waiting_of mid)) (without_around place (waiting_of mid)) mid new
        → LeavesFailing sum place old new
    leaves_failing wrote = (
      record {
        unpinned = sym seals.position.pins ∙ wrote.failed.unpinned;
        sound = sym seals.fault ∙ wrote.failed.sound;
        fault = wrote.failed.fault;
        kept = wrote.failed.kept;
      },
      leaves_it (ledger_of new) wrote.waiting refl,
      wrote.account
          ∙ (λ i. account_behind (one_around place (seals.sealed.0 i)) (seals.sealed.2 i).account)
          ∙ sym (ledger_account size (one_around place (sealed_at sum place old)) (ledger_at place old))
          ∙ ap (λ (l : Ledger). l.account) written_seen,
    )

    -- or it could not be
    abbrev pub Fails : Type 0
    Fails = ((waiting_of new ≡ waiting_of mid) × WroteNone trace mid new × (ledger_of new ≡ ledger_of mid))
        ⊎ (WroteThenFailed trace (one_around place (waiting_of mid)) (without_around place (waiting_of mid)) mid new × (held_at sum mid (pos place) ≡ None))

    pub came_sealed : Fails → CameAround trace sum (pos place) old new
    came_sealed (inl failed) = inr (inl (
      leaves_sealed (failed.0, failed.2),
      record {
        synced = failed.1.synced ∙ ap (λ d. syncs (trace d)) seals.device;
        written = failed.1.written ∙ ap (λ d. synced_writes (trace d)) seals.device;
        still = λ sound. failed.1.still sound ∙ ap trace seals.device;
        account = failed.1.account ∙ seals.account;
      },
    ))
    came_sealed (inr (wrote, free)) = inr (inr (inr (
      leaves_failing wrote,
      sym held_at_same ∙ free,
      wrote.written ∙ ap (λ d. suc (synced_writes (trace d))) seals.device,
      subst (λ (m : Machine). IsOnTheWay trace new m) (ap (λ (l : Ledger). l.machine) seals.sealed.2) wrote.way,
    )))

    pub writes_around : {T : Type 0} (r : Result T Error) → synced_end old ≤ place
        → OnOk r ((waiting_of new ≡ without_around place (waiting_of mid))
        × (ledger_of new ≡ ledger_behind (segment_size_of mid) (one_around place (waiting_of mid)) (ledger_of mid)))
        → OnErr r Fails → (IsHeld r → fault_of new ≡ None) → KeepsSegment mid new → WritesAround sum r (pos place) old new
    writes_around r behind done failed sound segment = record {
      still = λ below. absurd (omega (arith, ints, below, behind));
      written = λ _. on_ok r _ _ leaves_written done;
      held = λ held. elim (held_err r _ held failed) [
        | inl none ↦ leaves_sealed (none.0, none.2)
        | inr one ↦ absurd (let clash : None ≡ Some one.0.failed.fault = sym (sound held) ∙ one.0.failed.kept in cc)
      ];
      some = on_err r _ _ (λ fails. elim fails [
        | inl none ↦ inr (inl (leaves_sealed (none.0, none.2)))
        | inr one ↦ inr (inr (inr (leaves_failing one.0)))
      ]) failed;
      marked = marked_same sum old mid new seals.marked segment (ap (λ (s : BufferStart). s.place) start);
    }
