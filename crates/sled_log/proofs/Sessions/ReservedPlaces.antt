-- What a reservation seals, and where its record is put, as a caller sees it.
use Rattle.std.proofs.Common.{◌≡◌, ◌∙◌, ◌≤◌, ◌<◌, ◌+◌, ◌^◌, inl, inr, ℕ, ℤ, Bool, true, false, if◌then◌else◌, List, [], length, map, Option, None, refl, sym, ap, arith}
use Rattle.std.proofs.lemmas.Bool.Decides.{nat_tests}
use Rattle.std.proofs.lemmas.Bool.{cases_lt}
use Rattle.sled_codec.specs.History.{Message}
use Rattle.sled_store.specs.Accounts.{machine_of}
use Rattle.sled_store.specs.SegmentStates.{Machine}
use Rattle.sled_core.specs.Begun.{begin_of, segment_view}
use Rattle.sled_core.specs.Buffers.{most_open}
use Rattle.sled_core.specs.declared.logger.Log.{Log}
use Rattle.sled_core.specs.Fits.{FitsInline, IsLeastOpen, IsUsedUpFor, current_begin, current_of, fault_of, in_blob, is_moved, next_place, open_for, open_of, open_places, reserved_end, segment_size_of}
use Rattle.sled_core.specs.OpenPlaces.{places_from}
use Rattle.sled_core.specs.Positions.{Position}
use Rattle.sled_core.specs.LogStatus.{is_behind}
use Rattle.sled_core.proofs.Line.Entered.{filled_last}
use Rattle.sled_core.proofs.Holds.Facts.{current_facts}
use Rattle.sled_core.proofs.Line.ReadySeen.{far_begins, far_slot, moved_next, moved_seen, only_true, target}
use Rattle.sled_core.proofs.PublicLaws.{current_count, current_least, target_above as put_above}
use Rattle.sled_log.specs.RunPhases.{seen_log}
use Rattle.sled_log.specs.RunStates.{EndsInReach, LogView, body_length_in, target_in, MarkAt}
use Rattle.sled_log.specs.TicketSteps.{IsFullOfOpen, opens_beside}
use Rattle.sled_core.proofs.Holds.ReachLemmas.{position_past}

-- the body of a record is the item or the place of its blob: it fits inline in either case
pub body_fits : {D C : Type 0} (log : Log D C) (n : ℕ) → FitsInline (segment_size_of log) (body_length_in (segment_size_of log) n)
body_fits log n = by (in_blob (segment_size_of log) n) refl where
  by : (b : Bool) → in_blob (segment_size_of log) n ≡ b → FitsInline (segment_size_of log) (if b then 8 else n)
  by true is = let least = log.config.config.least in omega (arith, least)
  by false is = grind (arith, nat_tests, is)

-- What a reservation seals, and where its record is put.
module _ {D C : Type 0} (log : Log D C) (begun : ℕ) (tickets : List (Option Message)) (given_up : List Message) (heads : List MarkAt) (sum : List ℕ → ℕ) (page n : ℕ) (inline : FitsInline (segment_size_of log) n) where
  abbrev l : LogView
  l = seen_log log begun tickets given_up heads

  abbrev size : ℕ
  size = segment_size_of log

  abbrev q : Position
  q = target_in size l page n

  abbrev next : ℕ
  next = (current_of log).parts.site.place + size

  abbrev machine : Machine
  machine = machine_of log.accountant

  -- the current buffer begins within its segment, and what was reserved ends with its bytes at most
  filled : (begin_of (current_of log) < size) × (reserved_end log ≤ (current_of log).parts.site.place + length (current_of log).parts.bytes)
  filled = let is = filled_last size (reserved_end log) (segment_view log.segments.first) (map segment_view log.segments.behind.items) log.line.filled in (is.0, is.1)

  -- the record is put behind what was reserved
  pub target_above : next_place log ≤ q.place
  target_above = put_above log page n inline

  pub reserved_below : reserved_end log ≤ q.place
  reserved_below =
      let past = position_past size (current_of log) machine (current_facts log).short in
      let is = filled.1 in
      let up = target_above in
      omega (arith, past, is, up)

  -- It needs no further segment, or that ends in reach, exactly where the segment of the record does.
  pub in_reach : (IsUsedUpFor log page n → ⊥) → EndsInReach size q
  in_reach free = elim (target sum log page n inline) [
    | inl here ↦ (
        let facts = current_facts log in
        let place = facts.place_small in
        let slot = facts.slot_small in
        record { place = omega (arith, here.begins, place); slot = omega (arith, here.slot, slot) })
    | inr far ↦ (
        let moved : is_moved log page n ≡ true = only_true (is_moved log page n) (λ no. absurd (let at : q.place ≡ next + 20 = ap (λ (x : Position). x.place) far.is in grind (arith, nat_tests, no, at))) in
        record {
          place = elim (cases_lt (q.begins + size) (2 ^ 63)) [
            | inl below ↦ below
            | inr above ↦ absurd (free (moved, λ may. let low = may.place in let begins = (far_begins sum log page n inline) far in omega (arith, low, begins, above)))
          ];
          slot = elim (cases_lt (q.slot + size) (2 ^ 63)) [
            | inl below ↦ below
            | inr above ↦ absurd (free (moved, λ may. let low = may.offset in let slot = (far_slot sum log page n inline) far in omega (arith, low, slot, above)))
          ];
        })
  ]

  pub out_of_reach : IsUsedUpFor log page n → EndsInReach size q → ⊥
  out_of_reach used reach =
      let far = (moved_next sum log page n inline) used.0 in
      let begins = (far_begins sum log page n inline) far in
      let slot = (far_slot sum log page n inline) far in
      let low = reach.place in
      let high = reach.slot in
      used.1 (record { place = omega (arith, low, begins); offset = omega (arith, high, slot) })

  -- The open reservations of the buffer that the record would be of are seen.
  pub beside_count : open_for log page n ≡ length (opens_beside l q)
  beside_count =
      ap (λ (b : Bool). if b then 0 else open_of log) (moved_seen sum log page n inline)
      ∙ by (is_behind l.status q) where
        by : (o : Bool) → (if o then 0 else open_of log) ≡ length (if o then [] else places_from (current_begin log) (open_places log))
        by true = refl
        by false = current_count log

  pub beside_least : (at : ℤ) → fault_of log ≡ None → open_for log page n ≡ most_open → IsLeastOpen log at → IsFullOfOpen l q at
  beside_least at fault full least =
      let found = current_least log at least in
      record {
        fault = fault;
        full = sym beside_count ∙ full;
        least = found.0;
        others = found.1;
        first = by (is_behind l.status q) (sym beside_count ∙ full) ∙ found.2;
        is = found.3;
      } where
        by : (o : Bool) → length (if o then [] else places_from (current_begin log) (open_places log)) ≡ most_open
            → (if o then [] else places_from (current_begin log) (open_places log)) ≡ places_from (current_begin log) (open_places log)
        by true is = absurd (omega (arith, is))
        by false is = refl
