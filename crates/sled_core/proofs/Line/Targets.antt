-- Where the record of a message is put: in the segment that is being filled, where it fits, or behind the header of the next one.
use Rattle.std.proofs.Common.{◌≡◌, ◌≤◌, ◌<◌, ◌+◌, ◌-◌, ◌/◌, nat_lt, if◌then◌else◌, refl, arith, ap, sym, subst, inl, inr, ℕ, Bool, true, false, length}
use Rattle.std.specs.Prelude.{◌⊎◌}
use Rattle.std.proofs.lemmas.Bool.Decides.{nat_tests}
use Rattle.sled_store.specs.SegmentStates.{Machine}
use Rattle.sled_core.specs.Begun.{SegmentView}
use Rattle.sled_core.specs.Buffers.{record_size}
use Rattle.sled_core.specs.Fits.{FitsInline}
use Rattle.sled_core.specs.Positions.{Position, is_short, moved_on, next_segment_at, placed_at, position_in}
use Rattle.sled_core.proofs.Reached.CapStands.{number_short}

-- a record of an item of n bytes is at most 32 bytes longer
pub record_short : (number page n : ℕ) → record_size number page n ≤ 32 + n
record_short number page n = let a = number_short n in let b = number_short number in let c = number_short page in omega (arith, a, b, c)

-- From a position on it lies in the segment that is being filled.
pub record LiesHere (size : ℕ) (v : SegmentView) (page n : ℕ) (q : Position) : Type 0 where
  pub begins : (placed_at size q page n).begins ≡ v.parts.site.place
  pub slot : (placed_at size q page n).slot ≡ v.parts.site.slot
  pub low : (placed_at size q page n).place < v.parts.site.place + size
  pub above : q.place ≤ (placed_at size q page n).place

-- It begins the next one.
pub record LiesNext (size : ℕ) (v : SegmentView) (m : Machine) (page n : ℕ) (q : Position) : Type 0 where
  pub is : placed_at size q page n ≡ next_segment_at size v.parts.site.place m
  pub above : q.place ≤ (placed_at size q page n).place

module _ (size : ℕ) (v : SegmentView) (m : Machine) (page n : ℕ) (big : 256 ≤ size) (short : length v.parts.bytes ≤ size) (inline : FitsInline size n) where
  abbrev place : ℕ
  place = v.parts.site.place

  abbrev len : ℕ
  len = length v.parts.bytes

  abbrev position_if : Bool → Position
  position_if o = if o then next_segment_at size place m else record { place = place + len; begins = place; slot = v.parts.site.slot; machine = m }

  abbrev Lies : Position → Type 0
  Lies q = LiesHere size v page n q ⊎ LiesNext size v m page n q

  abbrev is_far : Position → Bool
  is_far q = nat_lt size (q.place - q.begins + record_size (q.begins / size) page n)

  -- one of both
  pub lies : Lies (position_in size v m)
  lies = by (is_short size len) refl where
    by : (o : Bool) → is_short size len ≡ o → Lies (position_if o)
    by true is = inr (inner (is_far (next_segment_at size place m)) refl) where
      inner : (far : Bool) → is_far (next_segment_at size place m) ≡ far → LiesNext size v m page n (next_segment_at size place m)
      inner true far = absurd (let long = record_short ((place + size) / size) page n in let low = inline in grind (arith, nat_tests, far, long, low, big))
      inner false far = record {
        is = ap (λ (b : Bool). if b then moved_on size (next_segment_at size place m) else next_segment_at size place m) far;
        above = subst (λ (b : Bool). place + size + 20 ≤ (if b then moved_on size (next_segment_at size place m) else next_segment_at size place m).place) (sym far) (omega arith);
      }
    by false is = inner (is_far (position_if false)) refl where
      inner : (far : Bool) → is_far (position_if false) ≡ far → Lies (position_if false)
      inner true far = inr (record {
        is = ap (λ (b : Bool). if b then moved_on size (position_if false) else position_if false) far;
        above = subst (λ (b : Bool). place + len ≤ (if b then moved_on size (position_if false) else position_if false).place) (sym far) (omega (arith, short));
      })
      inner false far = inl (record {
        begins = ap (λ (b : Bool). (if b then moved_on size (position_if false) else position_if false).begins) far;
        slot = ap (λ (b : Bool). (if b then moved_on size (position_if false) else position_if false).slot) far;
        low = subst (λ (b : Bool). (if b then moved_on size (position_if false) else position_if false).place < place + size) (sym far) (grind (arith, nat_tests, is));
        above = subst (λ (b : Bool). place + len ≤ (if b then moved_on size (position_if false) else position_if false).place) (sym far) (omega arith);
      })
