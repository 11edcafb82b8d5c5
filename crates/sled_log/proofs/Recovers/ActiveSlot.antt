-- The slot that is active at the cut of a recoverable content is that of the segment in which the pass stops, and a record can begin there.
use Rattle.std.proofs.Common.{⊎_elim, ◌≡◌, ◌⊎◌, ◌∙◌, ◌+◌, ◌-◌, ◌*◌, ◌/◌, ◌%◌, ◌≤◌, ℕ, Bool, true, false, if◌then◌else◌, List, ◌∷◌, Option, Some, None, refl, sym, ap, subst, arith, inl, inr}
use Rattle.std.specs.List.{Contains}
use Rattle.std.proofs.lemmas.Bool.{ltb-false}
use Rattle.sled_codec.specs.History.{History}
use Rattle.sled_codec.specs.Snapshots.{SnapshotModel, stable_place}
use Rattle.sled_core.specs.declared.iterator.Segment.{Segment}
use Rattle.sled_core.specs.inside.Recoverable.{ActiveFits, IsRecoverableLog, scanned_below}
use Rattle.sled_core.proofs.Read.ScanLemmas.{aligned_offset}
use Rattle.sled_log.specs.Recovery.{Scanned, tail_end, is_filled, cut_of}
use Rattle.sled_log.proofs.Recovers.LeftOut.{none_begins}
use Rattle.sled_core.proofs.Tail.OneTail.{segment_there}
use Rattle.sled_core.proofs.Tail.Multiples.{put_down, next_multiple}
use Rattle.sled_log.proofs.Recovers.PassCut.{whole, stop, cut_is, stopped, last_known, last_place}
use Rattle.sled_core.proofs.Tail.Rows.{stand_in, stand_rises, met_stand}

-- the cut is the end of a segment that has no room left, with no slot, or where the pass stopped, with the slot of that segment
pub cut_whole : (size : ℕ) (at : Segment × ℕ) → (cut_of size at ≡ (at.0.place + size, None)) ⊎ ((cut_of size at ≡ (at.1, Some at.0.slot)) × (at.1 + 32 ≤ at.0.place + size))
cut_whole size at = by (is_filled size at) refl where
  by : (b : Bool) → is_filled size at ≡ b → let cut : ℕ × Option ℕ = if b then (at.0.place + size, None) else (at.1, Some at.0.slot) in (cut ≡ (at.0.place + size, None)) ⊎ ((cut ≡ (at.1, Some at.0.slot)) × (at.1 + 32 ≤ at.0.place + size))
  by true test = inl refl
  by false test = inr (refl, ltb-false (at.0.place + size) (at.1 + 32) test)

-- a snapshot whose place is where a segment begins has no active slot
pub no_active : (size place : ℕ) (active : Option ℕ) → ActiveFits size place active → place % size ≡ 0 → active ≡ None
no_active size place None fits aligned = refl
no_active size place (Some slot) fits aligned = absurd (omega (arith, fits.0, aligned))

module _ (sum : List ℕ → ℕ) (size : ℕ) (log : List ℕ) (some : 256 ≤ size) (H : History) (A : ℕ) (first : SnapshotModel) (cut : ℕ × Option ℕ) (is : IsRecoverableLog sum size log H A first cut) where
  -- the active slot, if any, has a segment that is found, and the cut lies in that, where a record can begin
  pub record IsActive (place : ℕ) (active : Option ℕ) : Type 0 where
    pub fits : ActiveFits size place active
    pub there : (slot : ℕ) → active ≡ Some slot → (s : Segment) × Contains is.ordering s × (s.slot ≡ slot) × (s.place ≡ place / size * size)

  -- Where no segment is read the place is the beginning of one, and none is active.
  pub none_slot : ActiveFits size (stable_place first.stable) first.active → tail_end is.tail ≡ None → first.active ≡ None
  none_slot fits none = no_active size (stable_place first.stable) first.active fits (ap (λ n. n % size) (sym (none_begins sum size log H A first cut is none)) ∙ (put_down size _).1)

  pub none_active : ActiveFits size (stable_place first.stable) first.active → tail_end is.tail ≡ None → IsActive (stable_place first.stable) first.active
  none_active fits none = record { fits = fits; there = λ slot at. absurd (no_slot slot (sym (none_slot fits none) ∙ at)) } where
    no_slot : (slot : ℕ) → None ≡ Some slot → ⊥
    no_slot slot is = cc

  -- A pass over segments that begin below the end of the tail.
  module _ (end : ℕ) (s : Scanned) (ss : List Scanned) (ends : tail_end is.tail ≡ Some end) (below : scanned_below end is.scanned ≡ s ∷ ss) where
    abbrev pub at_stop : Segment × ℕ
    at_stop = stop sum size log some H A first cut is end s ss ends below

    abbrev pub final : Scanned
    final = (stopped sum size log some H A first cut is end s ss ends below).last

    final_known : Contains is.scanned final
    final_known = (last_known sum size log some H A first cut is end s ss ends below).0

    aligned : final.segment.place % size ≡ 0
    aligned = (whole sum size log some H A first cut is final final_known).1

    at_place : at_stop.0.place ≡ final.segment.place
    at_place = last_place sum size log some H A first cut is end s ss ends below

    -- the pass stops behind the header of that segment
    pub behind_header : final.segment.place + 20 ≤ at_stop.1
    behind_header =
        let stand = met_stand sum size log some final (whole sum size log some H A first cut is final final_known) in
        ⊎_elim
        (λ at_open. let at = stand_in (final.segment.place + 20) final.met (final.segment.place + final.stop) stand at_open.0 at_open.1 in omega (arith, at.0, at_open.2))
        (λ all. let long = stand_rises (final.segment.place + 20) final.met (final.segment.place + final.stop) stand in omega (arith, long, all.0))
        (stopped sum size log some H A first cut is end s ss ends below).why

    -- with room for a record
    module _ (room : at_stop.1 + 32 ≤ at_stop.0.place + size) where
      into : ℕ
      into = at_stop.1 - final.segment.place

      is_into : final.segment.place + into ≡ at_stop.1
      unfolding into
      is_into = let above = behind_header in omega (arith, above)

      offset : at_stop.1 % size ≡ into
      offset = ap (λ n. n % size) (sym is_into) ∙ aligned_offset final.segment.place into size aligned (omega (arith, is_into, room, at_place))

      in_segment : final.segment.place ≡ at_stop.1 / size * size
      in_segment = let parts = put_down size at_stop.1 in omega (arith, parts.0, is_into, offset)

      room_there : IsActive at_stop.1 (Some at_stop.0.slot)
      room_there = record {
        fits = (let above = behind_header in omega (arith, above, offset, is_into), omega (arith, room, offset, is_into, at_place));
        there = λ slot at. (
          final.segment,
          (segment_there sum size log is.ordering is.scanned is.reads final final_known).0,
          ap (λ (x : Segment). x.slot) (sym (stopped sum size log some H A first cut is end s ss ends below).segment) ∙ slot_is at_stop.0.slot slot at,
          in_segment,
        );
      } where
        slot_is : (a b : ℕ) → Some a ≡ Some b → a ≡ b
        slot_is a b same = cc

    filled_there : IsActive (at_stop.0.place + size) None
    filled_there = record { fits = ap (λ n. (n + size) % size) at_place ∙ next_multiple size final.segment.place aligned; there = λ slot at. cc }

    pub some_active : IsActive cut.0 cut.1
    some_active = subst (λ (c : ℕ × Option ℕ). IsActive c.0 c.1) (sym (cut_is sum size log some H A first cut is end s ss ends below)) (⊎_elim
        (λ filled. subst (λ (c : ℕ × Option ℕ). IsActive c.0 c.1) (sym filled) filled_there)
        (λ left. subst (λ (c : ℕ × Option ℕ). IsActive c.0 c.1) (sym left.0) (room_there left.1))
        (cut_whole size at_stop))
