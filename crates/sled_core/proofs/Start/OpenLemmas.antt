-- Where a log begins lies in reach, and its first buffer in a segment.
use Rattle.std.proofs.Common.{◌≡◌, ◌≤◌, ◌<◌, ◌+◌, ◌*◌, ◌/◌, ◌^◌, ◌∙◌, ◌-ℤ◌, ℕ, max, pos, false, List, length, Option, Some, None, IfSome, refl, ap, arith, inl, inr}
use Rattle.std.proofs.Math.Nat.{mod-add-div', mod-lt}
use Rattle.std.proofs.lemmas.Bool.{cases_lt}
use Rattle.std.proofs.lemmas.List.Elements.{All-contains}
use Rattle.sled_codec.specs.Snapshots.{SnapshotModel, stable_place}
use Rattle.sled_codec.proofs.Segments.{length-short_header}
use Rattle.sled_store.specs.declared.segment.start.Beginning.{Beginning}
use Rattle.sled_core.specs.declared.iobuf.IoBuf.{IoBuf}
use Rattle.sled_store.specs.Begin.{slots_of, unused, first_or, is_used, place_at, offset_at, beginning_at, beginning_of, MayBeActive, IsStartable, IsInReach}
use Rattle.sled_core.specs.inside.FirstBuffer.{IsFirstBuffer}
use Rattle.sled_store.proofs.Segments.FilledLemmas.{slot_before, free_below, first_there}

pub begins_place : (size slots stable : ℕ) (free : List ℕ) (o : Option ℕ) → (beginning_at size slots stable free o).place ≡ place_at size stable o
begins_place size slots stable free None = refl
begins_place size slots stable free (Some a) = refl

pub begins_offset : (size slots stable : ℕ) (free : List ℕ) (o : Option ℕ) → (beginning_at size slots stable free o).offset ≡ offset_at size stable o
begins_offset size slots stable free None = refl
begins_offset size slots stable free (Some a) = refl

offset_below : (size stable : ℕ) (o : Option ℕ) → 0 < size → offset_at size stable o < size
offset_below size stable None some = some
offset_below size stable (Some a) some = mod-lt stable some

-- slots below others begin below them
slots_below : (size k slots : ℕ) → k ≤ slots → k * size ≤ slots * size
slots_below size k slots le = elim (cases_lt k slots) [
  | inl below ↦ (let b = slot_before size k slots below in omega (arith, b))
  | inr above ↦ (let same : k ≡ slots = omega (arith, le, above) in omega (arith, ap (λ n. n * size) same))
]

slot_within : (size slots stable : ℕ) (free : List ℕ) (o : Option ℕ) → first_or slots free ≤ slots → IfSome o (MayBeActive size slots stable) → (beginning_at size slots stable free o).slot ≤ slots * size
slot_within size slots stable free None le may = slots_below size (first_or slots free) slots le
slot_within size slots stable free (Some a) le may =
    let whole : a / size * size ≡ a = let aligned = may.aligned in omega (arith, mod-add-div' a size, aligned) in
    let before = slot_before size (a / size) slots may.slot in
    omega (arith, before, whole)

module _ (size len : ℕ) (s : SnapshotModel) (b : Beginning) (is : b ≡ beginning_of size len s) (startable : IsStartable size len s) (reach : IsInReach size len s) where
  abbrev free : List ℕ
  free = unused size (slots_of size len) s

  lowest : first_or (slots_of size len) free ≤ slots_of size len
  lowest = elim (first_there (slots_of size len) free) [
    | inl there ↦ (let b = All-contains (λ k. (k < slots_of size len) × (is_used size s k ≡ false)) free (first_or (slots_of size len) free) (free_below (is_used size s) (slots_of size len)) there in omega (arith, b.0))
    | inr none ↦ omega (arith, none)
  ]

  pub slot_in_reach : b.slot + size < 2 ^ 63
  slot_in_reach =
      let within = slot_within size (slots_of size len) (stable_place s.stable) free s.active lowest startable.active in
      let slots = reach.slots in
      omega (arith, ap (λ (x : Beginning). x.slot) is, within, slots)

  pub place_in_reach : b.place + size < 2 ^ 63
  place_in_reach =
      let places = reach.places in
      omega (arith, ap (λ (x : Beginning). x.place) is, begins_place size (slots_of size len) (stable_place s.stable) free s.active, places)

  pub in_segment : (sum : List ℕ → ℕ) (buffer : IoBuf) → 256 ≤ size → IsFirstBuffer sum b.place b.offset buffer → length buffer.bytes.items ≤ size
  in_segment sum buffer long first = elim (cases_lt 0 b.offset) [
    | inl some ↦ (
        let resumed = first.resumed some in
        let below = offset_below size (stable_place s.stable) s.active (omega (arith, long)) in
        omega (arith, resumed, below, ap (λ (x : Beginning). x.offset) is, begins_offset size (slots_of size len) (stable_place s.stable) free s.active))
    | inr none ↦ (let header = first.header (omega (arith, none)) in omega (arith, long, ap length header, length-short_header sum (pos b.place) (pos b.place -ℤ pos 1)))
  ]

  -- the first record is laid behind the header, or behind what is there
  pub first_next : (sum : List ℕ → ℕ) (buffer : IoBuf) → IsFirstBuffer sum b.place b.offset buffer → length buffer.bytes.items ≡ max 20 (offset_at size (stable_place s.stable) s.active)
  first_next sum buffer first = by s.active startable.active (ap (λ (x : Beginning). x.offset) is ∙ begins_offset size (slots_of size len) (stable_place s.stable) free s.active) where
    by : (o : Option ℕ) → IfSome o (MayBeActive size (slots_of size len) (stable_place s.stable)) → b.offset ≡ offset_at size (stable_place s.stable) o → length buffer.bytes.items ≡ max 20 (offset_at size (stable_place s.stable) o)
    by None may at = ap length (first.header at) ∙ length-short_header sum (pos b.place) (pos b.place -ℤ pos 1)
    by (Some a) may at = let behind = may.offset.behind_header in let resumed = first.resumed (omega (arith, behind, at)) in omega (arith, behind, at, resumed)
