-- A call that writes the buffers that begin below a place, and seals the current one first, where that does: what it makes of the log is what the write of those makes of the sealed one.
use Rattle.std.proofs.Common.{◌≡◌, ◌∙◌, ◌⊎◌, ◌≤◌, ◌<◌, ◌+◌, ◌-◌, ap, sym, refl, arith, subst, inl, inr, ℕ, Bool, true, false, if◌then◌else◌, List, [], ◌∷◌, ◌++◌, length, take, drop, map, None, Some, Result, Ok, Err, OnOk, OnErr}
use Rattle.std.specs.declared.io.Error.{Error as IoError}
use Rattle.std.specs.List.{Contains}
use Rattle.std.proofs.lemmas.Bool.Decides.{nat_tests}
use Rattle.sled_codec.specs.History.{Message}
use Rattle.sled_codec.specs.declared.result.Error.{Error}
use Rattle.sled_store.specs.Device.{Event, Trace}
use Rattle.sled_store.specs.Script.{Performs, after_all}
use Rattle.sled_store.specs.SegmentStates.{Machine}
use Rattle.sled_store.specs.declared.config.RunningConfig.{RunningConfig}
use Rattle.sled_store.proofs.Segments.Elements.{in_nothing, only_in}
use Rattle.sled_store.proofs.Traces.ScriptLemmas.{performs_nothing}
use Rattle.sled_core.specs.Begun.{SegmentView, segment_view}
use Rattle.sled_core.specs.declared.logger.Log.{Log}
use Rattle.sled_core.specs.Causes.{HeldAnswers, IsHeld, OnDone}
use Rattle.sled_core.specs.inside.Fits.{AddsBuffers}
use Rattle.sled_core.specs.Fits.{IsUnchanged, IsUsedUp, IsUsedUpBelow, KeepsAll, NoneSealed, buffers_of, current_begin, current_of, device_of, fault_of, holding_below, ledger_for, ledger_of, ledger_sealed, machine_at, pins_of, position_of, position_sealed, position_with, reserved_end, sealing_end, segment_size_of, start_of, synced_end, waiting_of, writing_below, writing_some}
use Rattle.sled_core.specs.Fronts.{CameTo, FailedFront, IsOnTheWay, synced_writes}
use Rattle.sled_core.specs.inside.Fronts.{WroteParts}
use Rattle.sled_core.specs.Freeing.{Ledger}
use Rattle.sled_core.specs.Keeps.{FailedStep, IsSpared, KeepsLog, KeepsWriting, LeavesSome, WritesBelow, sealed_for, start_sealed}
use Rattle.sled_core.specs.Ledger.{ledger_behind, writings}
use Rattle.sled_core.specs.inside.LeavesAbove.{LeavesAbove}
use Rattle.sled_core.specs.Marked.{BeginsMarked}
use Rattle.sled_core.specs.Positions.{Position, is_short}
use Rattle.sled_core.specs.LogStatus.{status_of}
use Rattle.sled_core.specs.OpenPlaces.{open_places_along}
use Rattle.sled_core.specs.Waiting.{BufferAt, free_below, held_below, holds_any, spans}
use Rattle.sled_core.proofs.Line.Advanced.{same_synced}
use Rattle.sled_core.proofs.Line.KeptCalls.{failed_over, log_still, log_writing, writing_further}
use Rattle.sled_core.proofs.Line.Spared.{spared_sealed}
use Rattle.sled_core.proofs.Line.Below.{begin_all, free_front, held_front, line_past}
use Rattle.sled_core.proofs.Line.Current.{ComeBehind, line_current}
use Rattle.sled_core.proofs.Line.Entered.{filled_last}
use Rattle.sled_core.proofs.Holds.Facts.{current_facts}
use Rattle.sled_core.proofs.Line.HeaderMarks.{none_begun}
use Rattle.sled_core.proofs.Line.LogSpans.{above_first, leaves_above, left_all, same_buffers, same_for, same_ledger, same_position, same_start, same_with, some_first}
use Rattle.sled_core.proofs.Line.Lying.{synced_up}
use Rattle.sled_core.proofs.Line.Outcomes.{answers_used, held_alike, on_done, on_err}
use Rattle.sled_core.proofs.Line.Segments.{line_segments}
use Rattle.sled_core.specs.Account.{account_of}
use Rattle.sled_core.proofs.Line.AccountBehind.{front_none, ledger_unchanged}

-- The current buffer holds something, where it begins below a place that was reserved.
pub some_below : {D C : Type 0} (log : Log D C) (to : ℕ) → to ≤ reserved_end log → current_begin log < to → holds_any (current_of log) ≡ true
some_below log to reserved below =
    let last = filled_last log.config.config.segment_size log.reserved_to (segment_view log.segments.first) (map segment_view log.segments.behind.items) log.line.filled in
    let most = last.1 in
    grind (arith, nat_tests, reserved, below, most)

-- It ends behind all that was reserved.
pub ends_behind : {D C : Type 0} (log : Log D C) → reserved_end log ≤ sealing_end log
ends_behind log =
    let size : ℕ = segment_size_of log in
    let v : SegmentView = current_of log in
    let most = (filled_last log.config.config.segment_size log.reserved_to (segment_view log.segments.first) (map segment_view log.segments.behind.items) log.line.filled).1 in
    let short = (current_facts log).short in
    by_test size v short most (is_short size (length v.parts.bytes))
  where
    by_test : (size : ℕ) (v : SegmentView) → length v.parts.bytes ≤ size → reserved_end log ≤ v.parts.site.place + length v.parts.bytes → (o : Bool) → reserved_end log ≤ v.parts.site.place + (if o then size else length v.parts.bytes)
    by_test size v short most true = omega (arith, short, most)
    by_test size v short most false = most

-- where the buffers that weren't on the device were none, there is one at most with the current one, which begins where that does
few_below : (from to : ℕ) (old new : List BufferAt) → old ≡ [] → ComeBehind from old new → from < to → (length new ≤ 1) × ((b : BufferAt) → Contains new b → b.place < to)
few_below from to old new none come below =
    let is : new ≡ come.more = come.is ∙ ap (λ (l : List BufferAt). l ++ come.more) none in
    let few = come.few in
    (omega (arith, few, ap length is), λ b there. by come.more few come.at b (subst (λ (l : List BufferAt). Contains l b) is there))
  where
    by : (bs : List BufferAt) → length bs ≤ 1 → ((b : BufferAt) → bs ≡ b ∷ [] → b.place ≡ from) → (b : BufferAt) → Contains bs b → b.place < to
    by [] few at b there = absurd (in_nothing b there)
    by (x ∷ []) few at b there = let here = at x refl in let same = only_in x b there in omega (arith, below, here, ap (λ (y : BufferAt). y.place) same)
    by (x ∷ y ∷ ys) few at b there = absurd (omega (arith, few))

module _ {D C : Type 0} (sum : List ℕ → ℕ) (to : ℕ) (old mid : Log D C) (reserved : to ≤ reserved_end old) where
  -- More buffers behind all that was reserved are none of those below the place.
  module _ (adds : AddsBuffers sum old mid) where
    free_more : free_below to (buffers_of sum mid) ≡ free_below to (buffers_of sum old)
    free_more = ap (free_below to) adds.is ∙ free_front to (buffers_of sum old) adds.more (begin_all (reserved_end old) to adds.more reserved adds.behind)

    -- so the same is written
    module _ (size : segment_size_of mid ≡ segment_size_of old) (ledger : ledger_for to mid ≡ ledger_for to old) where
      pub writing_more : writing_below sum mid to ≡ writing_below sum old to
      writing_more = λ i. writings (size i) (free_more i) (ledger i)

      pub some_more : (count : ℕ) → writing_some count sum mid to ≡ writing_some count sum old to
      some_more count = λ i. writings (size i) (take count (free_more i)) (ledger i)

    pub holding_more : holding_below sum mid to ≡ holding_below sum old to
    holding_more = ap (held_below to) adds.is ∙ held_front to (buffers_of sum old) adds.more (begin_all (reserved_end old) to adds.more reserved adds.behind)

  -- so many of them at the front are written of the one as of the other
  pub front_first : {trace : D → Trace} (adds : AddsBuffers sum old mid) (new : Log D C) (below : current_begin old < to) (sealed : to ≤ current_begin mid) (waiting : waiting_of mid ≡ buffers_of sum old) (start : start_of mid ≡ start_sealed old)
      → device_of mid ≡ device_of old → ((m : Machine) → position_with mid m ≡ position_sealed old m) → ledger_of mid ≡ ledger_sealed old → segment_size_of mid ≡ segment_size_of old
      → fault_of old ≡ None → pins_of mid ≡ pins_of old → WroteParts trace sum to mid new → WroteParts trace sum to old new
  front_first {trace} adds new below sealed waiting start device with_slots ledger size sound pins front =
      let same = same_for sum to old mid new below sealed waiting start with_slots ledger size in
      let from = same_ledger sum to old mid new below sealed waiting start with_slots ledger size in
      record {
        count = front.count;
        left = front.left ∙ ap (drop front.count) same;
        start = front.start ∙ same_start sum to old mid new below sealed waiting start with_slots ledger size;
        position = λ m. front.position m ∙ same_position sum to old mid new below sealed waiting start with_slots ledger size m;
        ledger = (
          front.ledger.0 ∙ ap (λ (l : Ledger). l.account) (all front.count same from),
          elim front.ledger.1 [
            | inl whole ↦ inl (whole.0 ∙ ap (λ (l : Ledger). l.machine) (all front.count same from), whole.1)
            | inr failed ↦ inr (fails same from failed)
          ],
        );
        written = front.written ∙ ap (λ d. front.count + synced_writes (trace d)) device;
        whole = λ none. front.whole none ∙ (λ i. after_all (some_more adds size from front.count i) (trace (device i)));
      }
    where
      all : (n : ℕ) → sealed_for sum to mid ≡ sealed_for sum to old → ledger_for to mid ≡ ledger_for to old
          → ledger_behind (segment_size_of mid) (take n (sealed_for sum to mid)) (ledger_for to mid)
          ≡ ledger_behind (segment_size_of old) (take n (sealed_for sum to old)) (ledger_for to old)
      all n same from = λ i. ledger_behind (size i) (take n (same i)) (from i)

      fails : sealed_for sum to mid ≡ sealed_for sum to old → ledger_for to mid ≡ ledger_for to old → FailedFront trace sum to front.count mid new
          → FailedFront trace sum to front.count old new
      fails same from failed = (
        failed_over old mid new sound pins failed.0,
        failed.1,
        subst (λ (m : Machine). IsOnTheWay trace new m) (ap (λ (l : Ledger). l.machine) (all (front.count - 1) same from)) failed.2,
      )

  pub sealed_past : current_begin mid ≡ sealing_end old → to ≤ current_begin mid
  sealed_past begins = let most = ends_behind old in omega (arith, reserved, begins, most)

  -- What is written and what is left is of the log as it was.
  module _ {T : Type 0} (new : Log D C) (result : Result T Error) (below : current_begin old < to) (begins : current_begin mid ≡ sealing_end old) (waiting : waiting_of mid ≡ buffers_of sum old) (start : start_of mid ≡ start_sealed old) (synced : synced_end mid ≡ synced_end old)
      (with_slots : (m : Machine) → position_with mid m ≡ position_sealed old m) (ledger : ledger_of mid ≡ ledger_sealed old) (size : segment_size_of mid ≡ segment_size_of old)
      (current : current_begin new ≡ current_begin mid) (none : ((b : BufferAt) → Contains (waiting_of mid) b → b.place < to) → OnOk result (NoneSealed new))
      (sound : fault_of old ≡ None) (pins : pins_of mid ≡ pins_of old)
      (one : length (waiting_of mid) ≤ 1 → OnErr result (FailedStep mid new ⊎ (synced_end new ≡ synced_end mid)))
      (some : OnErr result (LeavesSome sum to mid new)) (marked : BeginsMarked sum old new) where
    few : NoneSealed old → (length (waiting_of mid) ≤ 1) × ((b : BufferAt) → Contains (waiting_of mid) b → b.place < to)
    few unsealed =
        subst (λ (l : List BufferAt). (length l ≤ 1) × ((b : BufferAt) → Contains l b → b.place < to)) (sym waiting)
        (few_below (current_begin old) to (waiting_of old) (buffers_of sum old) unsealed
        (line_current sum (segment_size_of old) old.segments.first.site.place (segment_view old.segments.first) (map segment_view old.segments.behind.items) (line_segments old)) below)

    since : FailedStep mid new ⊎ (synced_end new ≡ synced_end mid) → FailedStep old new ⊎ (synced_end new ≡ synced_end old)
    since (inl failed) = inl (failed_over old mid new sound pins failed)
    since (inr same) = inr (same ∙ synced)

    pub writes_sealed : WritesBelow sum result to old new
    writes_sealed = record {
      seals = record {
        held = λ held. (let past = sealed_past begins in omega (arith, past, current));
        none = λ unsealed. none (few unsealed).1;
        err = λ unsealed. on_err result _ _ since (one (few unsealed).0);
      };
      some = on_err result (LeavesSome sum to mid new) (LeavesSome sum to old new) (some_first sum to old mid new below (sealed_past begins) waiting start with_slots ledger size) some;
      marked = marked;
    }

-- So it is where the current buffer begins behind the place.
pub writes_still : {T D C : Type 0} (sum : List ℕ → ℕ) (to : ℕ) (old new : Log D C) (result : Result T Error) → to ≤ current_begin old → current_begin new ≡ current_begin old → (((b : BufferAt) → Contains (waiting_of old) b → b.place < to) → OnOk result (NoneSealed new))
    → (length (waiting_of old) ≤ 1 → OnErr result (FailedStep old new ⊎ (synced_end new ≡ synced_end old)))
    → OnErr result (LeavesSome sum to old new) → BeginsMarked sum old new → WritesBelow sum result to old new
writes_still sum to old new result sealed current none one some marked = record {
  seals = record {
    held = λ held. omega (arith, sealed, current);
    none = λ unsealed. none (λ b there. absurd (in_nothing b (subst (λ (l : List BufferAt). Contains l b) unsealed there)));
    err = λ unsealed. one (omega (arith, ap length unsealed));
  };
  some = some;
  marked = marked;
}

-- All below the place was on the device already: nothing is done.

pub writes_already : {T D C : Type 0} (sum : List ℕ → ℕ) (to : ℕ) (log : Log D C) (x : T) → WritesBelow {T = T} sum (Ok x) to log log
writes_already sum to log x = record {
  seals = record { held = λ held. absurd held; none = λ unsealed. unsealed; err = λ unsealed. tt };
  some = tt;
  marked = none_begun sum log log refl (λ h there. there) (λ f there. there);
}

pub above_already : {D C : Type 0} (sum : List ℕ → ℕ) (to : ℕ) (log : Log D C) → to ≤ synced_end log → LeavesAbove sum to log log
above_already sum to log past =
    let size : ℕ = segment_size_of log in
    let first : SegmentView = segment_view log.segments.first in
    let behind : List SegmentView = map segment_view log.segments.behind.items in
    let up = synced_up log in
    let none = line_past size log.segments.first.site.place to first behind (line_segments log) past in
    leaves_above sum to log log (omega (arith, past, up)) refl (left_all to (waiting_of log)) none (λ m. refl)
    (ap (λ (l : List BufferAt). ledger_behind size l (ledger_of log)) (sym (front_none to (waiting_of log) none)))

-- the current buffer isn't sealed for that
pub unused_already : {D C : Type 0} (to : ℕ) (log : Log D C) → to ≤ synced_end log → IsUsedUpBelow log to → ⊥
unused_already to log past used =
    let up = synced_up log in
    let below = used.0 in
    omega (arith, past, up, below)

-- What is so of a call is so of another that answers for it.

pub writes_ok : {T S D C : Type 0} (sum : List ℕ → ℕ) (to : ℕ) (old new : Log D C) (x : T) (y : S) → WritesBelow {T = T} sum (Ok x) to old new → WritesBelow {T = S} sum (Ok y) to old new
writes_ok sum to old new x y writes = record { seals = record { held = λ held. absurd held; none = writes.seals.none; err = λ unsealed. tt }; some = tt; marked = writes.marked }

pub writes_err : (T S : Type 0) {D C : Type 0} (sum : List ℕ → ℕ) (to : ℕ) (old new : Log D C) (e : Error) → WritesBelow {T = T} sum (Err e) to old new → WritesBelow {T = S} sum (Err e) to old new
writes_err T S sum to old new e writes = record { seals = record { held = λ held. writes.seals.held (held_alike T S e held); none = λ unsealed. tt; err = writes.seals.err }; some = writes.some; marked = writes.marked }

-- The current buffer could not be sealed: nothing was done.
pub unchanged_performs : {D C : Type 0} (old new : Log D C) → IsUnchanged old new → (trace : D → Trace) (es : List Event) → Performs es (trace (device_of old)) (trace (device_of new))
unchanged_performs {D} {C} old new same trace es = performs_nothing es _ _ (ap (λ (x : RunningConfig D C). trace x.device) same.config)

-- Nothing was done.
pub writes_none : {T D C : Type 0} (sum : List ℕ → ℕ) (to : ℕ) (log : Log D C) (e : Error) → (IsHeld {T = T} (Err e) → ⊥) → WritesBelow {T = T} sum (Err e) to log log
writes_none sum to log e never = record {
  seals = record { held = λ held. absurd (never held); none = λ unsealed. tt; err = λ unsealed. inr refl };
  some = inl (refl, refl);
  marked = none_begun sum log log refl (λ h there. there) (λ f there. there);
}

pub still_came : {D C : Type 0} (trace : D → Trace) (sum : List ℕ → ℕ) (to : ℕ) (log : Log D C) (e : IoError) → fault_of log ≡ Some e → CameTo trace sum to log log
still_came trace sum to log e kept = inl (record { stands = (refl, refl); still = refl; due = λ none. absurd (let bad : None ≡ Some e = sym none ∙ kept in cc) })

-- so none was written
pub unchanged_came : {D C : Type 0} (trace : D → Trace) (sum : List ℕ → ℕ) (to : ℕ) (old new : Log D C) → current_begin old < to → IsUnchanged old new → CameTo trace sum to old new
unchanged_came {D} {C} trace sum to old new below same =
    let buffers = same_buffers old new same.line in
    let with_slots = same_with old new same.line (ap (λ (x : RunningConfig D C). x.config.segment_size) same.config) in
    let ledger = ledger_unchanged old new same in
    let place : position_of new ≡ position_of old = with_slots (machine_at new) ∙ ap (position_with old) same.machine in
    let synced = same_synced old new same.line in
    let status : status_of new ≡ status_of old = λ i. record {
      position = place i;
      machine = same.machine i;
      reserved = same.reserved i;
      synced = synced i;
      noted = same.noted i;
      waiting = spans (buffers.0 i);
      start = buffers.1 i;
      opens = open_places_along (same.line i);
      fault = same.fault i;
      pins = same.pins i;
      account = (ledger i).account;
    } in
    inl (record { stands = (buffers.0, status); still = ap (λ (x : RunningConfig D C). trace x.device) same.config; due = λ _. below })

-- With its current buffer sealed the log has the slots that are left behind where the next record begins.
pub sealed_ledger : {D C : Type 0} (old mid : Log D C) → ((m : Machine) → position_with mid m ≡ position_sealed old m) → position_of mid ≡ position_of old → account_of mid ≡ account_of old → ledger_of mid ≡ ledger_sealed old
sealed_ledger old mid with_slots position account =
    ledger_parts (ap (λ (q : Position). q.machine) (sym (with_slots (machine_at mid)) ∙ position)) account
  where
    ledger_parts : machine_at mid ≡ (position_of old).machine → account_of mid ≡ account_of old → ledger_of mid ≡ ledger_sealed old
    ledger_parts machine account = λ i. record { machine = machine i; account = account i }

-- What a call has before it writes, where the buffers that begin below a place are sealed: the log that it was, or the one with its current buffer sealed.
module _ {D C : Type 0} (trace : D → Trace) (sum : List ℕ → ℕ) (to : ℕ) where
  pub record SealedFor (old mid : Log D C) : Type 0 where
    pub fault : fault_of mid ≡ None
    pub reserved : to ≤ reserved_end mid
    pub past : to ≤ current_begin mid
    pub keeps : KeepsLog trace sum old mid
    pub spared : (m : Message) → IsSpared old m → IsSpared mid m
    pub device : device_of mid ≡ device_of old
    pub writing : writing_below sum mid to ≡ writing_below sum old to
    pub holding : holding_below sum mid to ≡ holding_below sum old to
    pub unused : IsUsedUpBelow old to → ⊥
    pub marked : BeginsMarked sum old mid
    pub writes : (new : Log D C) (result : Result (Unit {0}) Error) → current_begin new ≡ current_begin mid → (((b : BufferAt) → Contains (waiting_of mid) b → b.place < to) → OnOk result (NoneSealed new))
        → (length (waiting_of mid) ≤ 1 → OnErr result (FailedStep mid new ⊎ (synced_end new ≡ synced_end mid)))
        → OnErr result (LeavesSome sum to mid new) → BeginsMarked sum old new → WritesBelow sum result to old new
    pub above : (new : Log D C) → LeavesAbove sum to mid new → LeavesAbove sum to old new
    pub fronts : (new : Log D C) → WroteParts trace sum to mid new → WroteParts trace sum to old new

  pub sealed_already : (log : Log D C) → fault_of log ≡ None → to ≤ reserved_end log → to ≤ current_begin log → SealedFor log log
  sealed_already log fault reserved past = record {
    fault = fault;
    reserved = reserved;
    past = past;
    keeps = log_still trace sum log;
    spared = λ m is. is;
    device = refl;
    writing = refl;
    holding = refl;
    unused = λ used. let below = used.0 in omega (arith, past, below);
    marked = none_begun sum log log refl (λ h there. there) (λ f there. there);
    writes = λ new result current none one some marked. writes_still sum to log new result past current none one some marked;
    above = λ new above. above;
    fronts = λ new front. front;
  }

  pub sealed_first : (old mid : Log D C) → fault_of old ≡ None → to ≤ reserved_end old → current_begin old < to → waiting_of mid ≡ buffers_of sum old → AddsBuffers sum old mid → current_begin mid ≡ sealing_end old → start_of mid ≡ start_sealed old
      → ((m : Machine) → position_with mid m ≡ position_sealed old m) → KeepsLog trace sum old mid → KeepsAll old mid → (IsUsedUp old → ⊥)
      → BeginsMarked sum old mid → SealedFor old mid
  sealed_first old mid fault reserved below waiting adds begins start with_slots keeps same unused marked = record {
    fault = same.fault ∙ fault;
    reserved = let still = keeps.position.reserved in omega (arith, reserved, still);
    past = sealed_past sum to old mid reserved begins;
    keeps = keeps;
    spared = spared_sealed old mid ledger same.pins;
    device = ap (λ (x : RunningConfig D C). x.device) same.config;
    writing = writing_more sum to old mid reserved adds keeps.position.size
        (same_ledger sum to old mid mid below (sealed_past sum to old mid reserved begins) waiting start with_slots ledger keeps.position.size);
    holding = holding_more sum to old mid reserved adds;
    unused = λ used. unused used.1;
    marked = marked;
    writes = λ new result current none one some known.
        writes_sealed sum to old mid reserved new result below begins waiting start same.synced with_slots ledger keeps.position.size current none fault same.pins
        one some known;
    above = λ new. above_first sum to old mid new below (sealed_past sum to old mid reserved begins) waiting start with_slots ledger keeps.position.size;
    fronts = λ new front.
        front_first sum to old mid reserved adds new below (sealed_past sum to old mid reserved begins) waiting start
        (ap (λ (x : RunningConfig D C). x.device) same.config) with_slots ledger keeps.position.size fault same.pins front;
  } where
    ledger : ledger_of mid ≡ ledger_sealed old
    ledger = sealed_ledger old mid with_slots keeps.position.position same.account

  -- and what it makes of the log as it was
  module _ (old mid new : Log D C) (ready : SealedFor old mid) where
    pub first_performs : Performs (writing_below sum mid to) (trace (device_of mid)) (trace (device_of new)) → Performs (writing_below sum old to) (trace (device_of old)) (trace (device_of new))
    first_performs came = subst (λ (d : D). Performs (writing_below sum old to) (trace d) (trace (device_of new))) ready.device (subst (λ (es : List Event). Performs es (trace (device_of mid)) (trace (device_of new))) ready.writing came)

    pub first_calls : {T : Type 0} (result : Result T Error) → OnDone result (trace (device_of new) ≡ after_all (writing_below sum mid to) (trace (device_of mid))) → OnDone result (trace (device_of new) ≡ after_all (writing_below sum old to) (trace (device_of old)))
    first_calls result came = on_done result _ _ (λ made. made ∙ (λ i. after_all (ready.writing i) (trace (ready.device i)))) came

    pub first_answers : {T : Type 0} (result : Result T Error) (faults : D → ℕ) → HeldAnswers result (holding_below sum mid to) ⊥ None (fault_of new) (faults (device_of mid)) (faults (device_of new))
        → HeldAnswers result (holding_below sum old to) (IsUsedUpBelow old to) None (fault_of new) (faults (device_of old)) (faults (device_of new))
    first_answers result faults answers = answers_used result _ _ (IsUsedUpBelow old to) (fault_of new) _ _ _ ready.holding (ap faults ready.device) ready.unused answers

    pub first_keeps : KeepsWriting trace sum mid new → KeepsWriting trace sum old new
    first_keeps keeps = writing_further trace sum old mid new (log_writing trace sum old mid ready.keeps ready.spared) keeps
