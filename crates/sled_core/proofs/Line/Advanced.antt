-- A call that writes one buffer behind another, by place, and how far it came.
use Rattle.std.proofs.Common.{◌≡◌, ◌∙◌, ◌⊎◌, ◌≤◌, ◌<◌, ◌+◌, ℕ, ℤ, zero, suc, nat_lt, if◌then◌else◌, Bool, true, false, List, [], ◌∷◌, ◌++◌, length, drop, take, map, set, Option, None, Some, Err, refl, sym, ap, subst, arith, inl, inr, length-append}
use Rattle.std.specs.List.{Contains}
use Rattle.std.specs.declared.io.Error.{Error as IoError}
use Rattle.std.proofs.lemmas.Bool.Decides.{nat_tests}
use Rattle.std.proofs.lemmas.List.{append-nil, length-map}
use Rattle.sled_codec.specs.declared.result.Error.{Error}
use Rattle.sled_codec.specs.declared.result.Error.TheVariants.{Io, OutOfMemory}
use Rattle.sled_store.specs.Device.{Event, Trace}
use Rattle.sled_store.specs.Script.{Performs, after_all}
use Rattle.sled_store.proofs.Segments.Elements.{in_rest}
use Rattle.sled_store.specs.SegmentStates.{Machine}
use Rattle.sled_store.proofs.Traces.ScriptLemmas.{performs_behind, performs_more}
use Rattle.sled_core.specs.Begun.{SegmentView, segment_view}
use Rattle.sled_core.specs.declared.logger.Log.{Log}
use Rattle.sled_core.specs.Causes.{Answers, HeldAnswers}
use Rattle.sled_core.specs.Fits.{current_begin, device_of, fault_of, holding_below, ledger_of, ledger_sealed, line_of, position_with, segment_size_of, start_of}
use Rattle.sled_core.specs.Fits.{synced_end, waiting_of, writing_below}
use Rattle.sled_core.specs.Account.{account_of, written_account}
use Rattle.sled_core.specs.Freeing.{Ledger}
use Rattle.sled_core.specs.Fronts.{synced_writes}
use Rattle.sled_core.specs.Keeps.{FailedStep, KeepsWriting}
use Rattle.sled_core.specs.Ledger.{ledger_behind, writings, written_ledger, written_step}
use Rattle.sled_core.specs.inside.Marked.{KeepsSegment}
use Rattle.sled_core.specs.inside.SealedBuffers.{first_ready}
use Rattle.sled_core.specs.SealedBuffers.{writing}
use Rattle.sled_core.specs.inside.Turned.{IsReadyIn, mark_of, promoted, ready_below, write_in, writing_in, written_now}
use Rattle.sled_core.specs.Waiting.{BufferAt, free_below, front_below, held_below, unwritten}
use Rattle.sled_core.proofs.Line.KeptCalls.{failed_over, writing_further, writing_still}
use Rattle.sled_core.proofs.Line.HeaderMarks.{segment_further, segment_written}
use Rattle.sled_core.proofs.Line.Below.{BeginFrom, IsFirst, IsStuck, first_fewer, first_free, first_holds, first_marked, first_there_ready, line_first, line_past, line_stuck}
use Rattle.sled_core.proofs.Line.Current.{current_free, current_holds}
use Rattle.sled_core.proofs.Line.LogSpans.{IsLeft, left_all, left_further, written_starts}
use Rattle.sled_core.proofs.Line.Lying.{end_of, promoted_end, set_end}
use Rattle.sled_core.proofs.Line.Segments.{line_segments}
use Rattle.sled_core.proofs.Line.AccountBehind.{free_further, front_further, many_further}
use Rattle.sled_core.proofs.Line.LedgerBehind.{ledger_further, one_counted, writings_further, writings_joined, writings_one}

-- the first segment of a log, and those behind it
abbrev pub first_view : {D C : Type 0} → Log D C → SegmentView
first_view log = segment_view log.segments.first

abbrev pub views_behind : {D C : Type 0} → Log D C → List SegmentView
views_behind log = map segment_view log.segments.behind.items

-- what a log keeps of whether its first segment is wholly on the device
pub waits_behind : {D C : Type 0} (log : Log D C) → 0 < length (views_behind log) → log.segments.first.buffer.written_len < log.config.config.segment_size
waits_behind log some = log.line.lies.waits (omega (arith, some, length-map log.segments.behind.items segment_view))

-- The first sealed buffer can be written.
pub ready_in : {D C : Type 0} (log : Log D C) (to : ℕ) → ready_below (line_of log) to ≡ true → IsReadyIn (line_of log) 0 0
ready_in log to ready = let first = first_there_ready to (first_view log) (views_behind log) ready in record { segment = first_view log; among = refl; buffer = first.0; there = first.1; ready = first.2 }

pub same_current : {D C : Type 0} (old new : Log D C) → line_of new ≡ line_of old → current_begin new ≡ current_begin old
same_current old new same = ap end_of same

-- A call makes of a log's segments what the write of that one does.
abbrev pub FirstWritten : {D C : Type 0} → Log D C → Log D C → Type 0
FirstWritten mid new = line_of new ≡ promoted mid.config.config.segment_size (set (line_of mid) 0 (written_now 0 (first_view mid)))

pub first_step : {D C : Type 0} (to : ℕ) (mid new : Log D C) → ready_below (line_of mid) to ≡ true → FirstWritten mid new → IsFirst to (waiting_of mid) (waiting_of new) (write_in (line_of mid) 0 0)
first_step to mid new ready is =
    subst (λ (l : List BufferAt). IsFirst to (waiting_of mid) l (write_in (line_of mid) 0 0)) (sym (ap unwritten is))
    (line_first mid.config.config.segment_size mid.segments.first.site.place to (first_view mid) (views_behind mid) (line_segments mid) ready)

-- The calls for it are those of that buffer.
first_calls : {D C : Type 0} (to : ℕ) (mid : Log D C) (left : List BufferAt) (size : ℕ) (l : Ledger) → ready_below (line_of mid) to ≡ true → (step : IsFirst to (waiting_of mid) left (write_in (line_of mid) 0 0)) → writing_in size l (line_of mid) 0 0 ≡ writings size (step.first ∷ []) l
first_calls to mid left size l ready step =
    let b : BufferAt = step.first in
    ap (λ (es : List Event). es ++ (written_step size (mark_of 0 (first_view mid)) l).calls) step.calls
    ∙ ap (λ (m : Option ℤ). writing b.lid b.bytes [] ++ (written_step size m l).calls) (sym (first_marked to (first_view mid) (views_behind mid) ready b left step.is))
    ∙ sym (writings_one size b l)

-- the first segment's stable end
abbrev end_synced : List SegmentView → ℕ
end_synced [] = 0
end_synced (v ∷ vs) = v.parts.site.place + v.parts.written_len

pub same_synced : {D C : Type 0} (old new : Log D C) → line_of new ≡ line_of old → synced_end new ≡ synced_end old
same_synced old new same = ap end_synced same

-- Where the first one can be written, not all is on the device that begins below the place; nor is it where the segments stay.
pub still_short : {D C : Type 0} (to : ℕ) (mid new : Log D C) → ready_below (line_of mid) to ≡ true → line_of new ≡ line_of mid → synced_end new < to
still_short to mid new ready same =
    let low : synced_end mid < to = by (nat_lt (synced_end mid) to) refl ready in
    let ends = same_synced mid new same in
    omega (arith, low, ends)
  where
    by : (o : Bool) → nat_lt (synced_end mid) to ≡ o → (if o then first_ready (first_view mid).parts.sealed else false) ≡ true → synced_end mid < to
    by true is some = grind (arith, nat_tests, is)
    by false is none = absurd (let never : false ≡ true = none in cc)

module _ {D C : Type 0} (trace : D → Trace) (sum : List ℕ → ℕ) (faults : D → ℕ) (to : ℕ) where
  -- Some of the buffers that begin below a place were written, and the others are left.
  pub record Advanced (old now : Log D C) : Type 0 where
    pub fault : fault_of now ≡ None
    pub counted : faults (device_of now) ≡ faults (device_of old)
    pub keeps : KeepsWriting trace sum old now
    pub with_slots : (m : Machine) → position_with now m ≡ position_with old m
    pub held : held_below to (waiting_of old) ≡ held_below to (waiting_of now)
    pub current : current_begin now ≡ current_begin old
    pub below : ((b : BufferAt) → Contains (waiting_of old) b → b.place < to) → (b : BufferAt) → Contains (waiting_of now) b → b.place < to
    -- where there was one at most, it is left or written
    pub one : length (waiting_of old) ≤ 1 → (line_of now ≡ line_of old) ⊎ (waiting_of now ≡ [])
    pub left : IsLeft to (waiting_of old) (waiting_of now)
    pub start : start_of now ≡ start_of old
    pub segment : KeepsSegment old now
    -- so many
    pub count : ℕ
    pub many : length (take count (waiting_of old)) ≡ count
    pub gone : waiting_of now ≡ drop count (waiting_of old)
    pub free : free_below to (waiting_of old) ≡ take count (waiting_of old) ++ free_below to (waiting_of now)
    pub came : trace (device_of now) ≡ after_all (writings (segment_size_of old) (take count (waiting_of old)) (ledger_of old)) (trace (device_of old))
    pub written : synced_writes (trace (device_of now)) ≡ count + synced_writes (trace (device_of old))
    pub front : front_below to (waiting_of old) ≡ take count (waiting_of old) ++ front_below to (waiting_of now)
    pub ledger : ledger_of now ≡ ledger_behind (segment_size_of old) (take count (waiting_of old)) (ledger_of old)

  pub advanced_still : (log : Log D C) → fault_of log ≡ None → Advanced log log
  advanced_still log fault = record {
    fault = fault;
    counted = refl;
    keeps = writing_still trace sum log;
    with_slots = λ m. refl;
    held = refl;
    current = refl;
    below = λ below. below;
    one = λ few. inl refl;
    left = left_all to (waiting_of log);
    start = refl;
    segment = record { place = refl; bytes = refl; heads = λ h there. there; fillings = λ f there. there };
    count = 0;
    many = refl;
    gone = refl;
    free = refl;
    came = refl;
    written = omega arith;
    front = refl;
    ledger = refl;
  }

  -- One more is written:
  module _ (old mid new : Log D C) (so_far : Advanced old mid) (ready : ready_below (line_of mid) to ≡ true) (is : FirstWritten mid new) where
    abbrev size : ℕ
    size = mid.config.config.segment_size

    abbrev step : IsFirst to (waiting_of mid) (waiting_of new) (write_in (line_of mid) 0 0)
    step = first_step to mid new ready is

    drop_one : (n : ℕ) (xs : List BufferAt) (y : BufferAt) (ys : List BufferAt) → drop n xs ≡ y ∷ ys → drop (suc n) xs ≡ ys
    drop_one zero [] y ys same = cc
    drop_one zero (x ∷ xs) y ys same = cc
    drop_one (suc n) [] y ys same = cc
    drop_one (suc n) (x ∷ xs) y ys same = drop_one n xs y ys same

    pub one_gone : waiting_of new ≡ drop (suc so_far.count) (waiting_of old)
    one_gone = sym (drop_one so_far.count (waiting_of old) step.first (waiting_of new) (sym so_far.gone ∙ step.is))

    pub one_start : start_of new ≡ start_of old
    one_start = written_starts mid new size 0 (first_view mid) 0 refl is ∙ so_far.start

    one_current : current_begin new ≡ current_begin old
    one_current =
        ap end_of is ∙ promoted_end size (set (line_of mid) 0 (written_now 0 (first_view mid))) ∙ set_end (line_of mid) 0 (first_view mid) 0 refl
        ∙ so_far.current

    one_segment : KeepsSegment old new
    one_segment = segment_further old mid new so_far.segment (segment_written mid new size 0 0 (first_view mid) refl is)

    pub failed_current : (current_begin new ≡ current_begin old) × KeepsSegment old new
    failed_current = (one_current, one_segment)

    one_marked : mark_of 0 (first_view mid) ≡ step.first.mark
    one_marked = sym (first_marked to (first_view mid) (views_behind mid) ready step.first (waiting_of new) step.is)

    -- the slots and the marks are those behind it,
    one_ledger : written_ledger size (mark_of 0 (first_view mid)) (ledger_of mid)
        ≡ ledger_behind (segment_size_of old) (take (suc so_far.count) (waiting_of old)) (ledger_of old)
    one_ledger =
        (λ i. written_ledger (so_far.keeps.position.size i) (one_marked i) (so_far.ledger i))
        ∙ ledger_further (segment_size_of old) so_far.count (waiting_of old) (waiting_of mid) (waiting_of new) step.first so_far.gone step.is (ledger_of old)

    -- or the marks alone, where the step behind it failed.
    pub one_account : account_of new ≡ written_account (mark_of 0 (first_view mid)) (account_of mid)
        → account_of new ≡ (ledger_behind (segment_size_of old) (take (suc so_far.count) (waiting_of old)) (ledger_of old)).account
    one_account account = account ∙ ap (λ (l : Ledger). l.account) one_ledger

    by_few : (bs : List BufferAt) → length bs ≤ 0 → bs ≡ []
    by_few [] le = refl
    by_few (b ∷ bs) le = absurd (omega (arith, le))

    by_left : length (waiting_of old) ≤ 1 → (line_of mid ≡ line_of old) ⊎ (waiting_of mid ≡ []) → waiting_of new ≡ []
    by_left few (inl same) =
        let all = first_fewer to (waiting_of mid) (waiting_of new) (write_in (line_of mid) 0 0) step in
        let count : length (waiting_of mid) ≡ length (waiting_of old) = ap (λ (vs : List SegmentView). length (unwritten vs)) same in
        by_few (waiting_of new) (omega (arith, few, all, count))
    by_left few (inr none) =
        let all = first_fewer to (waiting_of mid) (waiting_of new) (write_in (line_of mid) 0 0) step in
        absurd (omega (arith, all, ap length none))

    pub advanced_further : KeepsWriting trace sum mid new → ((m : Machine) → position_with new m ≡ position_with mid m)
        → trace (device_of new) ≡ after_all (writing_in (segment_size_of mid) (ledger_of mid) (line_of mid) 0 0) (trace (device_of mid))
        → fault_of new ≡ None → faults (device_of new) ≡ faults (device_of mid)
        → ledger_of new ≡ written_ledger (segment_size_of mid) (mark_of 0 (first_view mid)) (ledger_of mid) → Advanced old new
    advanced_further keeps with_slots came fault counted ledger =
        let calls : List Event = write_in (line_of mid) 0 0 in
        let it = first_calls to mid (waiting_of new) size (ledger_of mid) ready step in
        record {
          fault = fault;
          counted = counted ∙ so_far.counted;
          keeps = writing_further trace sum old mid new so_far.keeps keeps;
          with_slots = λ m. with_slots m ∙ so_far.with_slots m;
          held = so_far.held ∙ first_holds to (waiting_of mid) (waiting_of new) calls step;
          current = one_current;
          below = λ below b there.
              so_far.below below b (subst (λ (l : List BufferAt). Contains l b) (sym step.is) (in_rest step.first b (waiting_of new) there));
          one = λ few. inr (by_left few (so_far.one few));
          left = left_further to (waiting_of old) (waiting_of mid) (waiting_of new) calls so_far.left step;
          start = one_start;
          segment = one_segment;
          count = suc so_far.count;
          many = many_further to so_far.count (waiting_of old) (waiting_of mid) (waiting_of new) step.first so_far.gone step.is so_far.many;
          gone = one_gone;
          free = free_further to so_far.count (waiting_of old) (waiting_of mid) (waiting_of new) step.first so_far.gone step.is
              (first_free to (waiting_of mid) (waiting_of new) calls step) so_far.free;
          came = came
              ∙ ap (λ (es : List Event). after_all es (trace (device_of mid))) it
              ∙ (λ i. after_all (writings (so_far.keeps.position.size i) (step.first ∷ []) (so_far.ledger i)) (so_far.came i))
              ∙ writings_further (segment_size_of old) so_far.count (waiting_of old) (waiting_of mid) (waiting_of new) step.first so_far.gone step.is
              (ledger_of old) (trace (device_of old));
          written = (
              let one : synced_writes (trace (device_of new)) ≡ suc (synced_writes (trace (device_of mid))) =
              ap synced_writes (came ∙ ap (λ (es : List Event). after_all es (trace (device_of mid))) it)
              ∙ one_counted (segment_size_of mid) step.first (ledger_of mid) (trace (device_of mid)) in
              let before = so_far.written in
              omega (arith, one, before));
          front = front_further to so_far.count (waiting_of old) (waiting_of mid) (waiting_of new) step.first so_far.gone step.is step.below so_far.front;
          ledger = ledger ∙ one_ledger;
        }

  -- All calls are those of the sealed buffers.
  pub all_sealed : (old : Log D C) → to ≤ current_begin old → writing_below sum old to ≡ writings (segment_size_of old) (free_below to (waiting_of old)) (ledger_of old)
  all_sealed old sealed =
      let size : ℕ = old.config.config.segment_size in
      let behind : nat_lt (current_begin old) to ≡ false = grind (arith, nat_tests, sealed) in
      let free = current_free sum size old.segments.first.site.place to (first_view old) (views_behind old) (line_segments old) sealed in
      λ i. writings size (free i) (if behind i then ledger_sealed old else ledger_of old)

  -- The calls of those that are left come behind the others.
  all_behind : (old mid : Log D C) → to ≤ current_begin old → (so_far : Advanced old mid)
      → writing_below sum old to ≡ writings (segment_size_of old) (take so_far.count (waiting_of old)) (ledger_of old) ++ writings (segment_size_of mid) (free_below to (waiting_of mid)) (ledger_of mid)
  all_behind old mid sealed so_far =
      let size : ℕ = old.config.config.segment_size in
      let done : List BufferAt = take so_far.count (waiting_of old) in
      all_sealed old sealed
      ∙ ap (λ (bs : List BufferAt). writings size bs (ledger_of old)) so_far.free
      ∙ writings_joined size done (free_below to (waiting_of mid)) (ledger_of old)
      ∙ (λ i. writings size done (ledger_of old) ++ writings (sym so_far.keeps.position.size i) (free_below to (waiting_of mid)) (sym so_far.ledger i))

  -- The calls and the one that failed are among those of all.
  pub failed_further : (old mid new : Log D C) → to ≤ current_begin old → Advanced old mid → ready_below (line_of mid) to ≡ true → Performs (writing_in (segment_size_of mid) (ledger_of mid) (line_of mid) 0 0) (trace (device_of mid)) (trace (device_of new))
      → Performs (writing_below sum old to) (trace (device_of old)) (trace (device_of new))
  failed_further old mid new sealed so_far ready most =
      let size : ℕ = mid.config.config.segment_size in
      let step = line_first size mid.segments.first.site.place to (first_view mid) (views_behind mid) (line_segments mid) ready in
      let calls : List Event = writing_in size (ledger_of mid) (line_of mid) 0 0 in
      let after : List BufferAt = unwritten (promoted size (set (line_of mid) 0 (written_now 0 (first_view mid)))) in
      let done : List Event = writings (segment_size_of old) (take so_far.count (waiting_of old)) (ledger_of old) in
      let rest : List Event = writings size (free_below to after) (written_ledger size step.first.mark (ledger_of mid)) in
      let left : writings size (free_below to (waiting_of mid)) (ledger_of mid) ≡ calls ++ rest =
      ap (λ (bs : List BufferAt). writings size bs (ledger_of mid)) (first_free to (waiting_of mid) after (write_in (line_of mid) 0 0) step)
      ∙ writings_joined size (step.first ∷ []) (free_below to after) (ledger_of mid)
      ∙ ap (λ (es : List Event). es ++ rest) (sym (first_calls to mid after size (ledger_of mid) ready step)) in
      let all : writing_below sum old to ≡ done ++ (calls ++ rest) = all_behind old mid sealed so_far ∙ ap (λ (es : List Event). done ++ es) left in
      subst (λ (es : List Event). Performs es (trace (device_of old)) (trace (device_of new))) (sym all)
      (performs_behind done (calls ++ rest) _ _ _ so_far.came (performs_more calls rest _ _ most))

  -- So there was a call to make.
  pub failed_any : (old mid : Log D C) → to ≤ current_begin old → Advanced old mid → ready_below (line_of mid) to ≡ true → writing_below sum old to ≡ [] → ⊥
  failed_any old mid sealed so_far ready none =
      let size : ℕ = mid.config.config.segment_size in
      let step = line_first size mid.segments.first.site.place to (first_view mid) (views_behind mid) (line_segments mid) ready in
      let after : List BufferAt = unwritten (promoted size (set (line_of mid) 0 (written_now 0 (first_view mid)))) in
      let done : List Event = writings (segment_size_of old) (take so_far.count (waiting_of old)) (ledger_of old) in
      let left = ap (λ (bs : List BufferAt). length (writings size bs (ledger_of mid))) (first_free to (waiting_of mid) after (write_in (line_of mid) 0 0) step) in
      let all = all_behind old mid sealed so_far in
      absurd (omega (arith, ap length none, ap length all, left, length-append done (writings size (free_below to (waiting_of mid)) (ledger_of mid))))

  -- The step behind a further one failed.
  pub failed_since : (old mid new : Log D C) → Advanced old mid → FailedStep mid new → FailedStep old new
  failed_since old mid new so_far failed = failed_over old mid new (so_far.keeps.preserves.goes_on.sound so_far.fault) so_far.keeps.position.pins failed

  -- Where there was one at most, and it can be written, none was: nor is it then, or the step behind it failed.
  pub failed_one : (old mid new : Log D C) → Advanced old mid → ready_below (line_of mid) to ≡ true → FailedStep mid new ⊎ (line_of new ≡ line_of mid)
      → length (waiting_of old) ≤ 1 → FailedStep old new ⊎ (synced_end new ≡ synced_end old)
  failed_one old mid new so_far ready (inl failed) few = inl (failed_since old mid new so_far failed)
  failed_one old mid new so_far ready (inr same) few = inr (by_left (so_far.one few)) where
    by_left : (line_of mid ≡ line_of old) ⊎ (waiting_of mid ≡ []) → synced_end new ≡ synced_end old
    by_left (inl is) = same_synced old new (same ∙ is)
    by_left (inr none) =
        let size : ℕ = mid.config.config.segment_size in
        let step = line_first size mid.segments.first.site.place to (first_view mid) (views_behind mid) (line_segments mid) ready in
        absurd (omega (arith, ap length step.is, ap length none))

  -- Where nothing is left to write, all was made.
  pub all_made : (old now : Log D C) → to ≤ current_begin old → Advanced old now → free_below to (waiting_of now) ≡ [] → trace (device_of now) ≡ after_all (writing_below sum old to) (trace (device_of old))
  all_made old now sealed so_far none =
      let done : List Event = writings (segment_size_of old) (take so_far.count (waiting_of old)) (ledger_of old) in
      let all : writing_below sum old to ≡ done =
      all_behind old now sealed so_far ∙ ap (λ (bs : List BufferAt). done ++ writings (segment_size_of now) bs (ledger_of now)) none ∙ append-nil done in
      so_far.came ∙ ap (λ (es : List Event). after_all es (trace (device_of old))) (sym all)

  pub holds_up : (old now : Log D C) → to ≤ current_begin old → Advanced old now → holding_below sum old to ≡ held_below to (waiting_of now)
  holds_up old now sealed so_far = current_holds sum old.config.config.segment_size old.segments.first.site.place to (first_view old) (views_behind old) (line_segments old) sealed ∙ so_far.held

  -- Where all before the place is written, nothing is left.
  pub past_left : (now : Log D C) → to ≤ synced_end now → BeginFrom to (waiting_of now)
  past_left now past = line_past now.config.config.segment_size now.segments.first.site.place to (first_view now) (views_behind now) (line_segments now) past

  -- Where it isn't, and the first sealed buffer can't be written, that has an open reservation.
  pub stuck_left : (old now : Log D C) → to ≤ current_begin old → Advanced old now → synced_end now < to → ready_below (line_of now) to ≡ false → IsStuck to now.segments.first.site.place (waiting_of now) now.segments.first.buffer.reserved.items
  stuck_left old now sealed so_far below stuck =
      let current = so_far.current in
      line_stuck now.config.config.segment_size now.segments.first.site.place to now.reserved_to (first_view now) (views_behind now) (line_segments now) now.line.filled (waits_behind now) below (omega (arith, current, sealed)) stuck

  -- one that was there at most isn't written then
  pub stuck_one : (old now : Log D C) → Advanced old now → IsStuck to now.segments.first.site.place (waiting_of now) now.segments.first.buffer.reserved.items → length (waiting_of old) ≤ 1 → synced_end now ≡ synced_end old
  stuck_one old now so_far stuck few = by_left (so_far.one few) where
    by_left : (line_of now ≡ line_of old) ⊎ (waiting_of now ≡ []) → synced_end now ≡ synced_end old
    by_left (inl same) = same_synced old now same
    by_left (inr none) = let some : Some (now.segments.first.site.place + stuck.from) ≡ None = sym stuck.holds ∙ ap (held_below to) none in cc

-- What a call answers that writes a buffer, in a call that nothing holds up so far.
pub write_failed : (T S : Type 0) (e : Error) (held : Option ℕ) (used : Type 0) (now : Option IoError) (before mid after : ℕ) → (used → ⊥) → mid ≡ before → Answers {T = T} (Err e) None now mid after → HeldAnswers {T = S} (Err e) held used None now before after
write_failed T S (Io e) held used now before mid after not same answers = subst (λ n. HeldAnswers {T = S} (Err (Io e)) held used None now n after) same answers
write_failed T S OutOfMemory held used now before mid after not same answers = (not, answers.0, answers.1, answers.2 ∙ same)
write_failed T S _ held used now before mid after not same answers = absurd answers
