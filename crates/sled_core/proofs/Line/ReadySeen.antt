-- What a reservation seals, and where its record is put, as the status of a log tells it.
use Rattle.std.proofs.Common.{◌≡◌, ◌∙◌, ◌+◌, ◌-◌, ◌*◌, ◌⊎◌, inl, inr, ap, sym, refl, arith, ℕ, Bool, true, false, if◌then◌else◌, List, [], ◌∷◌, ◌++◌}
use Rattle.std.proofs.lemmas.Bool.Decides.{nat_tests}
use Rattle.sled_store.specs.SegmentStates.{Machine, next_slot}
use Rattle.sled_core.specs.declared.logger.Log.{Log}
use Rattle.sled_core.specs.Fits.{FitsInline, KeepsTickets, current_begin, current_of, fault_of, is_moved, line_of, machine_at, machine_behind, open_places, position_behind, position_of}
use Rattle.sled_core.specs.Fits.{reserved_end, segment_size_of, size_for, start_behind, start_of, target_of, waiting_behind, waiting_of}
use Rattle.sled_core.specs.Keeps.{KeepsSeen}
use Rattle.sled_core.specs.LogStatus.{LeavesStatus, LogStatus, current_span, is_behind, machine_with, next_start, readied, reserving_at, start_with, status_of, waiting_with}
use Rattle.sled_core.specs.Positions.{Position}
use Rattle.sled_core.specs.Waiting.{BufferAt, BufferStart, at_last, closed_now, spans, unwritten}
use Rattle.sled_core.proofs.Holds.Facts.{current_facts}
use Rattle.sled_core.proofs.Line.Shows.{buffers_closed}
use Rattle.sled_core.proofs.Line.Spans.{spans_added}
use Rattle.sled_core.proofs.Line.StatusSeen.{filled}
use Rattle.sled_core.proofs.Line.Targets.{LiesHere, LiesNext, lies}

-- a test that isn't one answer is the other
pub only_true : (b : Bool) → (b ≡ false → ⊥) → b ≡ true
only_true true other = refl
only_true false other = absurd (other refl)

only_false : (b : Bool) → (b ≡ true → ⊥) → b ≡ false
only_false true other = absurd (other refl)
only_false false other = refl

-- Where a reservation fills its segment, the current buffer lies behind the sealed ones.
pub shows_behind : {D C : Type 0} (sum : List ℕ → ℕ) (log : Log D C) (page n : ℕ) → is_moved log page n ≡ true
    → spans (waiting_behind sum log page n) ≡ spans (waiting_of log) ++ record { place = current_begin log; end = (start_behind log page n).place; lid = (start_of log).lid } ∷ []
shows_behind sum log page n moves =
    let size : ℕ = segment_size_of log in
    let closed : List BufferAt = unwritten (at_last (closed_now sum size) (line_of log)) in
    let next : BufferStart = record { place = (current_of log).parts.site.place + size; lid = next_slot (machine_at log) * size } in
    ap (λ (o : Bool). spans (if o then closed else waiting_of log)) moves
    ∙ spans_added (waiting_of log) closed _ (buffers_closed sum log)
    ∙ sym (ap (λ (o : Bool). spans (waiting_of log) ++ record { place = current_begin log; end = (if o then next else start_of log).place; lid = (start_of log).lid } ∷ []) moves)

module _ {D C : Type 0} (sum : List ℕ → ℕ) (log : Log D C) (page n : ℕ) (inline : FitsInline (segment_size_of log) n) where
  abbrev s : LogStatus
  s = status_of log

  abbrev size : ℕ
  size = segment_size_of log

  abbrev q : Position
  q = target_of log page n

  abbrev next : ℕ
  next = (current_of log).parts.site.place + size

  abbrev machine : Machine
  machine = machine_at log

  pub target : LiesHere size (current_of log) page n (position_of log) ⊎ LiesNext size (current_of log) machine page n (position_of log)
  target = lies size (current_of log) machine page n log.config.config.least (current_facts log).short inline

  -- the next one, where the record lies in that
  pub far_begins : LiesNext size (current_of log) machine page n (position_of log) → q.begins ≡ next
  far_begins far = ap (λ (x : Position). x.begins) far.is

  pub far_slot : LiesNext size (current_of log) machine page n (position_of log) → q.slot ≡ next_slot machine * size
  far_slot far = ap (λ (x : Position). x.slot) far.is

  -- whether it lies there is seen of its position
  pub moved_seen : is_moved log page n ≡ is_behind s q
  moved_seen = elim target [
    | inl here ↦ (
        let low = here.low in
        let at = here.begins in
        only_false (is_moved log page n) (λ yes. absurd (grind (arith, nat_tests, yes, low))) ∙ sym (only_false (is_behind s q) (λ yes. absurd (grind (arith, nat_tests, yes, at)))))
    | inr far ↦ (
        let at : q.place ≡ next + 20 = ap (λ (x : Position). x.place) far.is in
        let begins = far_begins far in
        let some = (filled log).0 in
        only_true (is_moved log page n) (λ no. absurd (grind (arith, nat_tests, no, at))) ∙ sym (only_true (is_behind s q) (λ no. absurd (grind (arith, nat_tests, no, begins, some)))))
  ]

  -- the slots then: a further segment has its own
  pub machine_seen : (if is_moved log page n then (target_of log page n).machine else machine_at log) ≡ machine_with s q
  machine_seen = ap (λ (b : Bool). if b then q.machine else machine) moved_seen

  pub moved_next : is_moved log page n ≡ true → LiesNext size (current_of log) machine page n (position_of log)
  moved_next is = elim target [
    | inl here ↦ absurd (let low = here.low in grind (arith, nat_tests, is, low))
    | inr far ↦ far
  ]

  -- where the current buffer begins then
  pub start_with_seen : start_behind log page n ≡ start_with s q
  start_with_seen = by (is_moved log page n) refl where
    by : (o : Bool) → is_moved log page n ≡ o → start_behind log page n ≡ start_with s q
    by true is =
        let far = moved_next is in
        let behind : is_behind s q ≡ true = sym moved_seen ∙ is in
        ap (λ (b : Bool). if b then record { place = next; lid = next_slot machine * size } else start_of log) is
        ∙ (λ i. record { place = sym (far_begins far) i; lid = sym (far_slot far) i })
        ∙ sym (ap (λ (b : Bool). if b then (if b then record { place = q.begins; lid = q.slot } else record { place = q.place; lid = (start_of log).lid + (q.place - (start_of log).place) }) else start_of log) behind)
    by false is =
        ap (λ (b : Bool). if b then record { place = next; lid = next_slot machine * size } else start_of log) is
        ∙ sym (ap (λ (b : Bool). if b then next_start s q else start_of log) (sym moved_seen ∙ is))

  -- and the sealed ones
  pub waiting_seen : spans (waiting_behind sum log page n) ≡ waiting_with s q
  waiting_seen = by (is_moved log page n) refl ∙ ap (λ (b : Bool). if b then spans (waiting_of log) ++ current_span s q ∷ [] else spans (waiting_of log)) moved_seen where
    by : (o : Bool) → is_moved log page n ≡ o → spans (waiting_behind sum log page n) ≡ (if is_moved log page n then spans (waiting_of log) ++ current_span s q ∷ [] else spans (waiting_of log))
    by true is =
        let far = moved_next is in
        let end : (start_behind log page n).place ≡ (current_span s q).end =
        ap (λ (b : Bool). (if b then record { place = next; lid = next_slot machine * size } else start_of log).place) is ∙ sym (far_begins far)
        ∙ sym (ap (λ (b : Bool). if b then q.begins else q.place) (sym moved_seen ∙ is)) in
        shows_behind sum log page n is ∙ ap (λ k. spans (waiting_of log) ++ record { place = current_begin log; end = k; lid = (start_of log).lid } ∷ []) end
        ∙ sym (ap (λ (b : Bool). if b then spans (waiting_of log) ++ current_span s q ∷ [] else spans (waiting_of log)) is)
    by false is =
        ap (λ (b : Bool). spans (if b then unwritten (at_last (closed_now sum size) (line_of log)) else waiting_of log)) is
        ∙ sym (ap (λ (b : Bool). if b then spans (waiting_of log) ++ current_span s q ∷ [] else spans (waiting_of log)) is)

  -- So a log stands that was made ready for the record, and one in which it was reserved, each with the failure that it keeps.
  module _ (new : Log D C) (tickets : KeepsTickets log new) (seen : KeepsSeen log new) (waiting : waiting_of new ≡ waiting_behind sum log page n) (start : start_of new ≡ start_behind log page n)
      (slots : machine_at new ≡ machine_behind log page n) where
    pub status_readied : position_of new ≡ q → reserved_end new ≡ reserved_end log → LeavesStatus (waiting_behind sum log page n) (readied q s) new
    status_readied position reserved =
        let left = ap spans waiting ∙ waiting_seen in
        let begin = start ∙ start_with_seen in
        let machines = slots ∙ machine_seen in (
          waiting,
          λ i. record {
            position = position i;
            machine = machines i;
            reserved = reserved i;
            synced = seen.synced i;
            noted = seen.noted i;
            waiting = left i;
            start = begin i;
            opens = tickets.opens i;
            fault = fault_of new;
            pins = seen.pins i;
            account = seen.account i;
          },
        )

  module _ (new : Log D C) (opens : open_places new ≡ open_places log ++ q.place ∷ []) (seen : KeepsSeen log new) (waiting : waiting_of new ≡ waiting_behind sum log page n) (start : start_of new ≡ start_behind log page n)
      (slots : machine_at new ≡ machine_behind log page n) where
    pub status_reserved : position_of new ≡ position_behind log page n → reserved_end new ≡ q.place + size_for log page n
        → LeavesStatus (waiting_behind sum log page n) (reserving_at size q q.place (size_for log page n) s) new
    status_reserved position reserved =
        let left = ap spans waiting ∙ waiting_seen in
        let begin = start ∙ start_with_seen in
        let machines = slots ∙ machine_seen in (
          waiting,
          λ i. record {
            position = position i;
            machine = machines i;
            reserved = reserved i;
            synced = seen.synced i;
            noted = seen.noted i;
            waiting = left i;
            start = begin i;
            opens = opens i;
            fault = fault_of new;
            pins = seen.pins i;
            account = seen.account i;
          },
        )
