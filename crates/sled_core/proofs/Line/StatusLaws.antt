-- What a log's contracts said of it part by part follows from where they say that it stands: where its current buffer begins, its slots and marks, and where the
-- next record may begin with slots left as any machine has them.
use Rattle.std.proofs.Common.{◌≡◌, ◌∙◌, ◌≤◌, ◌+◌, ◌-◌, ◌*◌, ◌++◌, ◌∷◌, [], nat_le, nat_lt, if◌then◌else◌, refl, ap, sym, arith, ℕ, Bool, true, false, List, length}
use Rattle.std.proofs.lemmas.Bool.Decides.{nat_tests}
use Rattle.sled_store.specs.Device.{Trace}
use Rattle.sled_store.specs.SegmentStates.{Machine, handed_out, next_slot}
use Rattle.sled_core.specs.declared.logger.Log.{Log}
use Rattle.sled_core.specs.Fits.{buffers_of, current_begin, current_of, ledger_for, ledger_of, ledger_sealed, machine_at, machine_behind, open_places, position_behind, position_of}
use Rattle.sled_core.specs.Fits.{position_sealed, position_with, reserved_end, segment_size_of, size_for, start_behind, start_of, target_of, waiting_behind, waiting_of, FitsInline}
use Rattle.sled_core.specs.Fronts.{WroteFront}
use Rattle.sled_core.specs.Keeps.{position_for, sealed_for, start_for, start_sealed}
use Rattle.sled_core.specs.Ledger.{ledger_behind}
use Rattle.sled_core.specs.LogStatus.{HasStatus, LogStatus, left_above, ledger_in, next_start, position_over, position_sealed_in, status_below, status_of, status_rolled, status_sealed}
use Rattle.sled_core.specs.Positions.{Position, is_short, next_segment_at}
use Rattle.sled_core.specs.ReadBuffer.{LeavesSealed, LeavesWritten, ledger_at, position_at, sealed_at, start_at}
use Rattle.sled_core.specs.Reserves.{StandsBehind}
use Rattle.sled_core.specs.Waiting.{BufferStart, front_below, holds_any, one_around}
use Rattle.sled_core.proofs.Line.ReadySeen.{machine_seen, start_with_seen}
use Rattle.sled_core.proofs.Line.StatusSeen.{around_seen, below_seen, ledger_around_seen, ledger_below_seen, next_start_seen, over_seen, start_around_seen, start_seen}

-- Where the next record may begin with other slots.
module _ (size : ℕ) (s : LogStatus) (m n : Machine) where
  abbrev q : Position
  q = s.position

  -- it lies in a further segment, or in that of the current buffer
  abbrev turned : Bool → Machine → Position
  turned o x =
      if o then record { place = q.place; begins = q.begins; slot = next_slot x * size; machine = handed_out q.begins x }
      else record { place = q.place; begins = q.begins; slot = q.slot; machine = x }

  abbrev over_at : BufferStart → Position → Position
  over_at b p =
      if nat_lt b.place p.begins then record { place = p.place; begins = p.begins; slot = next_slot m * size; machine = handed_out p.begins m }
      else record { place = p.place; begins = p.begins; slot = p.slot; machine = m }

  -- Slots that are changed twice are the last ones.
  over_twice : over_at s.start (position_over size s n) ≡ position_over size s m
  over_twice = by (nat_lt s.start.place q.begins) refl where
    by : (o : Bool) → nat_lt s.start.place q.begins ≡ o → over_at s.start (turned o n) ≡ turned o m
    by true is = ap (λ (b : Bool). if b then turned true m else record { place = q.place; begins = q.begins; slot = next_slot n * size; machine = m }) is
    by false is = ap (λ (b : Bool). if b then record { place = q.place; begins = q.begins; slot = next_slot m * size; machine = handed_out q.begins m } else turned false m) is

  -- Behind a sealed buffer only the slots are others.
  over_next : q.begins ≤ q.place → over_at (next_start s q) (position_sealed_in s n) ≡ position_sealed_in s m
  over_next low = by (nat_lt s.start.place q.begins) where
    here : (at : ℕ) → q.begins ≤ at → (if nat_lt at q.begins then record { place = q.place; begins = q.begins; slot = next_slot m * size; machine = handed_out q.begins m } else turned false m) ≡ turned false m
    here at above =
        ap (λ (b : Bool). if b then record { place = q.place; begins = q.begins; slot = next_slot m * size; machine = handed_out q.begins m } else turned false m)
        (let no : nat_lt at q.begins ≡ false = grind (arith, nat_tests, above) in no)

    by : (o : Bool) → over_at (if o then record { place = q.begins; lid = q.slot } else record { place = q.place; lid = s.start.lid + (q.place - s.start.place) }) (position_sealed_in s n) ≡ position_sealed_in s m
    by true = here q.begins (omega arith)
    by false = here q.place low

  -- So it is where the current buffer is sealed by a test.
  sealed_over : q.begins ≤ q.place → (o : Bool) (t : LogStatus) → t.start ≡ (if o then next_start s q else s.start) → t.position ≡ (if o then position_sealed_in s n else position_over size s n)
      → position_over size t m ≡ (if o then position_sealed_in s m else position_over size s m)
  sealed_over low true t start position = (λ i. over_at (start i) (position i)) ∙ over_next low
  sealed_over low false t start position = (λ i. over_at (start i) (position i)) ∙ over_twice

-- the next record begins in its segment
begins_low : {D C : Type 0} (log : Log D C) → (position_of log).begins ≤ (position_of log).place
begins_low log = by (is_short (segment_size_of log) (length (current_of log).parts.bytes)) where
  at : Bool → Position
  at o =
      if o then next_segment_at (segment_size_of log) (current_of log).parts.site.place (machine_at log)
      else record {
        place = (current_of log).parts.site.place + length (current_of log).parts.bytes;
        begins = (current_of log).parts.site.place;
        slot = (current_of log).parts.site.slot;
        machine = machine_at log;
      }

  by : (o : Bool) → (at o).begins ≤ (at o).place
  by true = omega arith
  by false = omega arith

module _ {D C : Type 0} (old new : Log D C) (same : segment_size_of new ≡ segment_size_of old) where
  abbrev s : LogStatus
  s = status_of old

  abbrev size : ℕ
  size = segment_size_of old

  -- where the next record may begin with any slots, where the current buffer was sealed by a test
  position_says : (o : Bool) (m n : Machine) → start_of new ≡ (if o then next_start s s.position else s.start) → position_of new ≡ (if o then position_sealed_in s n else position_over size s n)
      → position_with new m ≡ (if o then position_sealed_in s m else position_over size s m)
  position_says o m n start position =
      over_seen new m ∙ (λ i. position_over (same i) (status_of new) m) ∙ sealed_over size s m n (begins_low old) o (status_of new) start position

  -- what all that begins below a place leaves, once it is sealed and written,
  pub below_says : (sum : List ℕ → ℕ) (to : ℕ) → HasStatus (left_above sum to old) (status_below sum to old) new
      → (start_of new ≡ start_for to old) × (ledger_of new ≡ ledger_behind size (front_below to (sealed_for sum to old)) (ledger_for to old))
      × ((m : Machine) → position_with new m ≡ position_for to old m)
  below_says sum to (left, is) =
      let start = ap (λ (t : LogStatus). t.start) is in
      let position = ap (λ (t : LogStatus). t.position) is in (
        start ∙ sym (start_seen old to),
        ap ledger_in is ∙ ap (ledger_behind size (front_below to (sealed_for sum to old))) (sym (ledger_below_seen old to)),
        λ m. position_says (nat_lt (current_begin old) to) m _ start position ∙ sym (below_seen old to m),
      )

  -- and so many at the front of it;
  pub front_says : (trace : D → Trace) (sum : List ℕ → ℕ) (to : ℕ) → WroteFront trace sum to old new
      → (start_of new ≡ start_for to old) × ((m : Machine) → position_with new m ≡ position_for to old m)
  front_says trace sum to front =
      let start = ap (λ (t : LogStatus). t.start) front.stands.1 in
      let position = ap (λ (t : LogStatus). t.position) front.stands.1 in
      (start ∙ sym (start_seen old to), λ m. position_says (nat_lt (current_begin old) to) m _ start position ∙ sym (below_seen old to m))

  -- what the seal of the current buffer leaves,
  pub rolled_says : (sum : List ℕ → ℕ) → holds_any (current_of old) ≡ true → HasStatus (buffers_of sum old) (status_rolled old) new
      → (start_of new ≡ start_sealed old) × (ledger_of new ≡ ledger_sealed old) × ((m : Machine) → position_with new m ≡ position_sealed old m)
  rolled_says sum any (waiting, is) =
      let sealed : status_of new ≡ status_sealed s = is ∙ ap (λ (o : Bool). if o then status_sealed s else s) any in
      let start = ap (λ (t : LogStatus). t.start) sealed in
      (start ∙ sym (next_start_seen old), ap ledger_in sealed, λ m. position_says true m s.position.machine start (ap (λ (t : LogStatus). t.position) sealed))

  -- a read that seals the buffer of a place, and one that writes it,
  pub sealed_says : (sum : List ℕ → ℕ) (at : ℕ) → LeavesSealed sum at old new
      → (start_of new ≡ start_at at old) × (ledger_of new ≡ ledger_at at old) × ((m : Machine) → position_with new m ≡ position_at at old m)
  sealed_says sum at (left, is) =
      let start = ap (λ (t : LogStatus). t.start) is in
      let position = ap (λ (t : LogStatus). t.position) is in (
        start ∙ sym (start_around_seen old at),
        ap ledger_in is ∙ sym (ledger_around_seen old at),
        λ m. position_says (nat_le (current_begin old) at) m _ start position ∙ sym (around_seen old at m),
      )

  pub written_says : (sum : List ℕ → ℕ) (at : ℕ) → LeavesWritten sum at old new
      → (start_of new ≡ start_at at old) × (ledger_of new ≡ ledger_behind size (one_around at (sealed_at sum at old)) (ledger_at at old))
      × ((m : Machine) → position_with new m ≡ position_at at old m)
  written_says sum at (left, is) =
      let start = ap (λ (t : LogStatus). t.start) is in
      let position = ap (λ (t : LogStatus). t.position) is in (
        start ∙ sym (start_around_seen old at),
        ap ledger_in is ∙ ap (ledger_behind size (one_around at (sealed_at sum at old))) (sym (ledger_around_seen old at)),
        λ m. position_says (nat_le (current_begin old) at) m _ start position ∙ sym (around_seen old at m),
      )

-- and a reservation.
pub behind_says : {D C : Type 0} (sum : List ℕ → ℕ) (old new : Log D C) (page n : ℕ) → FitsInline (segment_size_of old) n → StandsBehind sum old new page n
    → (position_of new ≡ position_behind old page n) × (reserved_end new ≡ (target_of old page n).place + size_for old page n)
    × (open_places new ≡ open_places old ++ (target_of old page n).place ∷ []) × (waiting_of new ≡ waiting_behind sum old page n)
    × (start_of new ≡ start_behind old page n) × (machine_at new ≡ machine_behind old page n)
behind_says sum old new page n inline behind =
    let is = behind.stands.1 in (
      ap (λ (t : LogStatus). t.position) is,
      ap (λ (t : LogStatus). t.reserved) is,
      ap (λ (t : LogStatus). t.opens) is,
      behind.stands.0,
      ap (λ (t : LogStatus). t.start) is ∙ sym (start_with_seen sum old page n inline),
      ap (λ (t : LogStatus). t.machine) is ∙ sym (machine_seen sum old page n inline),
    )
