-- What the position of a log tells of its current buffer: where that ends once it is sealed, and where the next one begins.
use Rattle.std.proofs.Common.{◌≡◌, ◌≤◌, ◌<◌, ◌+◌, ◌-◌, ◌*◌, nat_lt, if◌then◌else◌, refl, arith, ap, ℕ, Bool, true, false, length}
use Rattle.std.proofs.lemmas.Bool.Decides.{nat_tests}
use Rattle.sled_store.specs.SegmentStates.{Machine, next_slot}
use Rattle.sled_core.specs.Begun.{SegmentView, begin_of}
use Rattle.sled_core.specs.Positions.{Position, is_short, next_segment_at, position_in}
use Rattle.sled_core.specs.Waiting.{BufferStart}

module _ (size : ℕ) (v : SegmentView) (m : Machine) (some : begin_of v < size) (held : begin_of v ≤ length v.parts.bytes) where
  abbrev place : ℕ
  place = v.parts.site.place

  abbrev len : ℕ
  len = length v.parts.bytes

  -- where the current buffer begins
  abbrev begins : ℕ
  begins = place + begin_of v

  -- the position, where the segment has no room for a further record, and where it has
  abbrev position_if : Bool → Position
  position_if o = if o then next_segment_at size place m else record { place = place + len; begins = place; slot = v.parts.site.slot; machine = m }

  -- where its current buffer ends once it is sealed
  pub end_seen : (if nat_lt begins (position_in size v m).begins then (position_in size v m).begins else (position_in size v m).place) ≡ place + (if is_short size len then size else len)
  end_seen = by (is_short size len) where
    by : (o : Bool) → (if nat_lt begins (position_if o).begins then (position_if o).begins else (position_if o).place) ≡ place + (if o then size else len)
    by true = inner (nat_lt begins (place + size)) refl where
      inner : (n : Bool) → nat_lt begins (place + size) ≡ n → (if n then place + size else place + size + 20) ≡ place + size
      inner true is = refl
      inner false is = absurd (grind (arith, nat_tests, some, is))
    by false = inner (nat_lt begins place) refl where
      inner : (n : Bool) → nat_lt begins place ≡ n → (if n then place else place + len) ≡ place + len
      inner true is = absurd (grind (arith, nat_tests, is))
      inner false is = refl

  -- and where the next one begins then
  abbrev turned_start : Bool → Position → BufferStart
  turned_start n q = if n then record { place = q.begins; lid = q.slot } else record { place = q.place; lid = v.parts.site.slot + begin_of v + (q.place - begins) }

  abbrev sealed_start : Bool → BufferStart
  sealed_start o = if o then record { place = place + size; lid = next_slot m * size } else record { place = place + len; lid = v.parts.site.slot + len }

  pub next_seen : turned_start (nat_lt begins (position_in size v m).begins) (position_in size v m) ≡ sealed_start (is_short size len)
  next_seen = by (is_short size len) where
    by : (o : Bool) → turned_start (nat_lt begins (position_if o).begins) (position_if o) ≡ sealed_start o
    by true = inner (nat_lt begins (place + size)) refl where
      inner : (n : Bool) → nat_lt begins (place + size) ≡ n → turned_start n (position_if true) ≡ sealed_start true
      inner true is = refl
      inner false is = absurd (grind (arith, nat_tests, some, is))
    by false = inner (nat_lt begins place) refl where
      inner : (n : Bool) → nat_lt begins place ≡ n → turned_start n (position_if false) ≡ sealed_start false
      inner true is = absurd (grind (arith, nat_tests, is))
      inner false is = ap (λ n. record { place = place + len; lid = n }) (omega (arith, held))
