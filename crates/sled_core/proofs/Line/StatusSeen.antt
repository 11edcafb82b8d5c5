-- A log as its status tells it: the current buffer and where the next one begins, where its next record may begin with slots left as a machine has them, and the
-- buffers that are sealed, written and left.
use Rattle.std.proofs.Common.{◌≡◌, ◌∙◌, ◌≤◌, ◌<◌, ◌+◌, ◌-◌, ◌*◌, ◌==◌, inl, inr, nat_le, nat_lt, if◌then◌else◌, refl, ap, sym, subst, arith, ℕ, pos, zero, suc, Bool, true, false}
use Rattle.std.proofs.Common.{List, [], ◌∷◌, ◌++◌, length, map, drop, Option, None}
use Rattle.std.specs.List.{All}
use Rattle.std.proofs.lemmas.Bool.Decides.{nat_tests}
use Rattle.std.proofs.lemmas.Bool.{cases_lt}
use Rattle.std.proofs.lemmas.Int.{ints}
use Rattle.std.proofs.lemmas.List.Elements.{All-cons, All-head, All-nil, All-tail}
use Rattle.sled_store.specs.SegmentStates.{Machine, handed_out, next_slot}
use Rattle.sled_core.specs.Begun.{SegmentView, begin_of, segment_view}
use Rattle.sled_core.specs.declared.logger.Log.{Log}
use Rattle.sled_core.specs.Fits.{FirstWaits, buffers_of, current_begin, current_of, held_len, ledger_for, ledger_of, ledger_sealed, machine_at, position_sealed, position_with}
use Rattle.sled_core.specs.Fits.{reserved_end, sealing_end, segment_size_of, start_of, synced_end, waiting_of}
use Rattle.sled_core.specs.Keeps.{position_for, sealed_for, start_for, start_sealed}
use Rattle.sled_core.specs.LogStatus.{LogStatus, current_span, ledger_around, ledger_below, ledger_in, ledger_sealed_in, next_start, position_around, position_below, position_over}
use Rattle.sled_core.specs.LogStatus.{position_sealed_in, sealed_around, sealed_below, start_around, start_below, status_of}
use Rattle.sled_core.specs.OpenPlaces.{first_between}
use Rattle.sled_core.specs.Positions.{Position, is_short, next_segment_at, position_in}
use Rattle.sled_core.specs.ReadBuffer.{ledger_at, position_at, sealed_at, start_at}
use Rattle.sled_core.specs.Spans.{count_unheld, first_waiting, held_among, spans_below, spans_from, spans_without, without_unheld}
use Rattle.sled_core.specs.Waiting.{BufferAt, Span, first_held, has_place, held_below, is_unheld, not_below, pending_in, span_of, spans, without_around, without_pending}
use Rattle.sled_core.proofs.Holds.Facts.{current_facts}
use Rattle.sled_core.proofs.Line.Buffers.{first_waits}
use Rattle.sled_core.proofs.Line.Entered.{filled_last}
use Rattle.sled_core.proofs.Line.OpenSeen.{buffers_held}
use Rattle.sled_core.proofs.Line.Positions.{end_seen, next_seen}
use Rattle.sled_core.proofs.Line.Settles.{stable_up}
use Rattle.sled_core.proofs.Line.Shows.{buffers_add, buffers_still}
use Rattle.sled_core.proofs.Line.Spans.{spans_added}

-- With other slots a position is where it was, but that a further segment takes the next one that is free.
module _ (size : ℕ) (v : SegmentView) (old m : Machine) (some : begin_of v < size) where
  abbrev place : ℕ
  place = v.parts.site.place

  abbrev begins : ℕ
  begins = place + begin_of v

  -- the position, where the segment has no room for a further record, and where it has
  abbrev position_if : Bool → Machine → Position
  position_if o slots =
      if o then next_segment_at size place slots
      else record { place = place + length v.parts.bytes; begins = place; slot = v.parts.site.slot; machine = slots }

  -- one in a further segment with other slots, and one in the same
  abbrev turned : Bool → Position → Position
  turned n q =
      if n then record { place = q.place; begins = q.begins; slot = next_slot m * size; machine = handed_out q.begins m }
      else record { place = q.place; begins = q.begins; slot = q.slot; machine = m }

  turned_seen : position_in size v m ≡ turned (nat_lt begins (position_in size v old).begins) (position_in size v old)
  turned_seen = by (is_short size (length v.parts.bytes)) where
    by : (o : Bool) → position_if o m ≡ turned (nat_lt begins (position_if o old).begins) (position_if o old)
    by true = inner (nat_lt begins (place + size)) refl where
      inner : (n : Bool) → nat_lt begins (place + size) ≡ n → position_if true m ≡ turned n (position_if true old)
      inner true is = refl
      inner false is = absurd (grind (arith, nat_tests, some, is))
    by false = inner (nat_lt begins place) refl where
      inner : (n : Bool) → nat_lt begins place ≡ n → position_if false m ≡ turned n (position_if false old)
      inner true is = absurd (grind (arith, nat_tests, is))
      inner false is = refl

-- The current buffer begins within its segment, and what was reserved ends with its bytes at most.
pub filled : {D C : Type 0} (log : Log D C) → (begin_of (current_of log) < segment_size_of log) × (reserved_end log ≤ (current_of log).parts.site.place + length (current_of log).parts.bytes)
filled log = let is = filled_last (segment_size_of log) (reserved_end log) (segment_view log.segments.first) (map segment_view log.segments.behind.items) log.line.filled in (is.0, is.1)

-- Buffers as they are seen.

-- those that begin at a place or behind it
pub above_seen : (to : ℕ) (bs : List BufferAt) → spans (not_below to bs) ≡ spans_from to (spans bs)
above_seen to [] = refl
above_seen to (b ∷ bs) = by (above_seen to bs) (nat_lt b.place to) where
  by : spans (not_below to bs) ≡ spans_from to (spans bs) → (o : Bool) → spans (if o then not_below to bs else b ∷ bs) ≡ (if o then spans_from to (spans bs) else record { place = b.place; end = b.end; lid = b.lid } ∷ spans bs)
  by rest true = rest
  by rest false = refl

pub drop_seen : (n : ℕ) (bs : List BufferAt) → spans (drop n bs) ≡ drop n (spans bs)
drop_seen zero bs = refl
drop_seen (suc n) [] = refl
drop_seen (suc n) (b ∷ bs) = drop_seen n bs

-- Those that begin below a place are none of the last one, where that begins there or behind it.
pub below_front : (to : ℕ) (ss : List Span) (s : Span) → to ≤ s.place → spans_below to (ss ++ s ∷ []) ≡ spans_below to ss
below_front to [] s far = by (nat_lt s.place to) refl where
  by : (o : Bool) → nat_lt s.place to ≡ o → (if o then s ∷ [] else []) ≡ []
  by true is = absurd (grind (arith, nat_tests, far, is))
  by false is = refl
below_front to (x ∷ xs) s far = by (below_front to xs s far) (nat_lt x.place to) where
  by : spans_below to (xs ++ s ∷ []) ≡ spans_below to xs → (o : Bool) → (if o then x ∷ spans_below to (xs ++ s ∷ []) else []) ≡ (if o then x ∷ spans_below to xs else [])
  by rest true = ap (λ (l : List Span). x ∷ l) rest
  by rest false = refl

-- what all buffers have those have in front of others
pub all_front : (P : BufferAt → Type 0) (bs cs : List BufferAt) → All P (bs ++ cs) → All P bs
all_front P [] cs all = All-nil P
all_front P (b ∷ bs) cs all = All-cons P b bs (All-head P b (bs ++ cs) all) (all_front P bs cs (All-tail P b (bs ++ cs) all))

-- What holds them up.

-- a buffer is held up by the first of these places that lies in it
abbrev pub IsHeldBy : List ℕ → BufferAt → Type 0
IsHeldBy places b = b.held ≡ first_between b.place b.end places

module _ (places : List ℕ) where
  pub below_held : (to : ℕ) (bs : List BufferAt) → All (IsHeldBy places) bs → held_below to bs ≡ held_among places (spans_below to (spans bs))
  below_held to [] are = refl
  below_held to (b ∷ bs) are = by (All-head (IsHeldBy places) b bs are) (below_held to bs (All-tail (IsHeldBy places) b bs are)) (nat_lt b.place to) where
    by : IsHeldBy places b → held_below to bs ≡ held_among places (spans_below to (spans bs)) → (o : Bool)
        → (if o then first_held b.held (held_below to bs) else None) ≡ held_among places (if o then record { place = b.place; end = b.end; lid = b.lid } ∷ spans_below to (spans bs) else [])
    by own rest true = ap (λ (h : Option ℕ). first_held h (held_below to bs)) own ∙ ap (λ (h : Option ℕ). first_held (first_between b.place b.end places) h) rest
    by own rest false = refl

  -- how many of them can be written
  pub count_seen : (bs : List BufferAt) → All (IsHeldBy places) bs → pending_in bs ≡ count_unheld places (spans bs)
  count_seen [] are = refl
  count_seen (b ∷ bs) are =
      ap (λ (h : Option ℕ). if is_unheld h then suc (pending_in bs) else pending_in bs) (All-head (IsHeldBy places) b bs are)
      ∙ ap (λ n. if is_unheld (first_between b.place b.end places) then suc n else n) (count_seen bs (All-tail (IsHeldBy places) b bs are))

  -- and all but one of these
  pub without_seen : (i : ℕ) (bs : List BufferAt) → All (IsHeldBy places) bs → spans (without_pending i bs) ≡ without_unheld places i (spans bs)
  without_seen i [] are = refl
  without_seen i (b ∷ bs) are =
      ap (λ (h : Option ℕ). spans (if is_unheld h then (if i == 0 then bs else b ∷ without_pending (i - 1) bs) else b ∷ without_pending i bs)) (All-head (IsHeldBy places) b bs are)
      ∙ by (without_seen (i - 1) bs (All-tail (IsHeldBy places) b bs are)) (without_seen i bs (All-tail (IsHeldBy places) b bs are)) (is_unheld (first_between b.place b.end places)) (i == 0) where
        by : spans (without_pending (i - 1) bs) ≡ without_unheld places (i - 1) (spans bs) → spans (without_pending i bs) ≡ without_unheld places i (spans bs) → (u o : Bool)
            → spans (if u then (if o then bs else b ∷ without_pending (i - 1) bs) else b ∷ without_pending i bs)
            ≡ (if u then (if o then spans bs else record { place = b.place; end = b.end; lid = b.lid } ∷ without_unheld places (i - 1) (spans bs)) else record { place = b.place; end = b.end; lid = b.lid } ∷ without_unheld places i (spans bs))
        by fewer same true true = refl
        by fewer same true false = ap (λ (l : List Span). record { place = b.place; end = b.end; lid = b.lid } ∷ l) fewer
        by fewer same false o = ap (λ (l : List Span). record { place = b.place; end = b.end; lid = b.lid } ∷ l) same

-- all is on the device before the first buffer that waits, or the current one
pub first_seen : {D C : Type 0} (log : Log D C) → synced_end log ≡ first_waiting (spans (waiting_of log)) (start_of log)
first_seen log = by (waiting_of log) (first_waits log) where
  by : (bs : List BufferAt) → FirstWaits (synced_end log) (current_begin log) bs → synced_end log ≡ first_waiting (spans bs) (start_of log)
  by [] is = is
  by (b ∷ bs) is = is

-- those without the one that has a place
pub around_left_seen : (at : ℕ) (bs : List BufferAt) → spans (without_around at bs) ≡ spans_without at (spans bs)
around_left_seen at [] = refl
around_left_seen at (b ∷ bs) = by (around_left_seen at bs) (has_place at b) where
  by : spans (without_around at bs) ≡ spans_without at (spans bs) → (o : Bool) → spans (if o then bs else b ∷ without_around at bs) ≡ (if o then spans bs else span_of b ∷ spans_without at (spans bs))
  by rest true = refl
  by rest false = ap (λ (ss : List Span). span_of b ∷ ss) rest

-- The current one, as it would be sealed, lies behind the sealed ones.
pub shows_current : {D C : Type 0} (sum : List ℕ → ℕ) (log : Log D C) → 0 < held_len log
    → spans (buffers_of sum log) ≡ spans (waiting_of log) ++ record { place = current_begin log; end = sealing_end log; lid = (start_of log).lid } ∷ []
shows_current sum log some = spans_added (waiting_of log) (buffers_of sum log) _ (buffers_add sum log some)

module _ {D C : Type 0} (log : Log D C) where
  abbrev s : LogStatus
  s = status_of log

  abbrev size : ℕ
  size = segment_size_of log

  -- Where the next record may begin with slots left as a machine has them,
  pub over_seen : (m : Machine) → position_with log m ≡ position_over size s m
  over_seen m = turned_seen size (current_of log) (machine_at log) m (filled log).0

  -- once what begins below a place is sealed, and once the buffer of a place is.
  pub below_seen : (to : ℕ) (m : Machine) → position_for to log m ≡ position_below size to s m
  below_seen to m = by (nat_lt (current_begin log) to) where
    by : (o : Bool) → (if o then position_sealed log m else position_with log m) ≡ (if o then position_sealed_in s m else position_over size s m)
    by true = refl
    by false = over_seen m

  pub around_seen : (at : ℕ) (m : Machine) → position_at at log m ≡ position_around size at s m
  around_seen at m = by (nat_le (current_begin log) at) where
    by : (o : Bool) → (if o then position_sealed log m else position_with log m) ≡ (if o then position_sealed_in s m else position_over size s m)
    by true = refl
    by false = over_seen m

  -- Slots and marks, as they are and then.
  pub ledger_seen : ledger_of log ≡ ledger_in s
  ledger_seen = refl

  pub ledger_below_seen : (to : ℕ) → ledger_for to log ≡ ledger_below to s
  ledger_below_seen to = by (nat_lt (current_begin log) to) where
    by : (o : Bool) → (if o then ledger_sealed log else ledger_of log) ≡ (if o then ledger_sealed_in s else ledger_in s)
    by true = refl
    by false = refl

  pub ledger_around_seen : (at : ℕ) → ledger_at at log ≡ ledger_around at s
  ledger_around_seen at = by (nat_le (current_begin log) at) where
    by : (o : Bool) → (if o then ledger_sealed log else ledger_of log) ≡ (if o then ledger_sealed_in s else ledger_in s)
    by true = refl
    by false = refl

  begins_within : begin_of (current_of log) ≤ length (current_of log).parts.bytes
  begins_within = (current_facts log).begins

  -- The current buffer, and where the next one begins.
  pub span_seen : record { place = current_begin log; end = sealing_end log; lid = (start_of log).lid } ≡ current_span s s.position
  span_seen = ap (λ n. record { place = current_begin log; end = n; lid = (start_of log).lid }) (sym (end_seen size (current_of log) (machine_at log) (filled log).0 begins_within))

  pub next_start_seen : start_sealed log ≡ next_start s s.position
  next_start_seen = sym (next_seen size (current_of log) (machine_at log) (filled log).0 begins_within)

  pub start_seen : (to : ℕ) → start_for to log ≡ start_below to s
  start_seen to = by (nat_lt (current_begin log) to) where
    by : (o : Bool) → (if o then start_sealed log else start_of log) ≡ (if o then next_start s s.position else start_of log)
    by true = next_start_seen
    by false = refl

  pub start_around_seen : (at : ℕ) → start_at at log ≡ start_around at s
  start_around_seen at = by (nat_le (current_begin log) at) where
    by : (o : Bool) → (if o then start_sealed log else start_of log) ≡ (if o then next_start s s.position else start_of log)
    by true = next_start_seen
    by false = refl

  module _ (sum : List ℕ → ℕ) where
    -- What is open of it holds its buffers up.
    pub all_held : All (IsHeldBy s.opens) (buffers_of sum log)
    all_held = buffers_held sum log

    -- what holds of all buffers holds of the sealed ones
    pub sealed_too : (P : BufferAt → Type 0) → All P (buffers_of sum log) → All P (waiting_of log)
    sealed_too P all = elim (cases_lt 0 (held_len log)) [
      | inl some ↦ (let adds = buffers_add sum log some in all_front P (waiting_of log) (adds.more ∷ []) (subst (All P) adds.is all))
      | inr none ↦ subst (All P) (buffers_still sum log (omega (arith, none))) all
    ]

    pub waiting_held : All (IsHeldBy s.opens) (waiting_of log)
    waiting_held = sealed_too (IsHeldBy s.opens) all_held

    -- The sealed buffers, with the current one,
    pub all_seen : 0 < held_len log → spans (buffers_of sum log) ≡ spans (waiting_of log) ++ current_span s s.position ∷ []
    all_seen some = shows_current sum log some ∙ ap (λ (x : Span). spans (waiting_of log) ++ x ∷ []) span_seen

    -- where that begins below a place, or has a place, and holds something then.
    pub sealed_seen : (to : ℕ) → (current_begin log < to → 0 < held_len log) → spans (sealed_for sum to log) ≡ sealed_below to s
    sealed_seen to some = by (nat_lt (current_begin log) to) refl where
      by : (o : Bool) → nat_lt (current_begin log) to ≡ o
          → spans (if o then buffers_of sum log else waiting_of log) ≡ (if o then spans (waiting_of log) ++ current_span s s.position ∷ [] else spans (waiting_of log))
      by true is = all_seen (some (grind (arith, nat_tests, is)))
      by false is = refl

    pub sealed_around_seen : (at : ℕ) → (current_begin log ≤ at → 0 < held_len log) → spans (sealed_at sum at log) ≡ sealed_around at s
    sealed_around_seen at some = by (nat_le (current_begin log) at) refl where
      by : (o : Bool) → nat_le (current_begin log) at ≡ o
          → spans (if o then buffers_of sum log else waiting_of log) ≡ (if o then spans (waiting_of log) ++ current_span s s.position ∷ [] else spans (waiting_of log))
      by true is = all_seen (some (grind (arith, nat_tests, is)))
      by false is = refl

  -- The current buffer holds something where it begins below a place that was reserved, or is on the device.
  pub some_reserved : (to : ℕ) → to ≤ reserved_end log → current_begin log < to → 0 < held_len log
  some_reserved to le less = let is = filled log in let low = begins_within in omega (arith, le, less, is.1, low)

  pub some_stable : (to : ℕ) → to ≤ synced_end log → current_begin log < to → 0 < held_len log
  some_stable to le less = let up = stable_up log (pos (current_begin log)) (omega (arith, ints)) in absurd (omega (arith, ints, le, less, up))
