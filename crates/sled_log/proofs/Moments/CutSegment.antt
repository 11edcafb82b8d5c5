-- The segment of the cut of a recoverable log file: the tail has it, and the pass stops in it at the cut. Where the cut is the end of a segment, no segment begins there.
use Rattle.std.proofs.Common.{⊎_elim, ◌≡◌, ◌∙◌, ◌+◌, ◌*◌, ◌/◌, ◌%◌, ◌<◌, ◌≤◌, ℕ, Bool, true, false, if◌then◌else◌, List, [], ◌∷◌, Option, Some, None, refl, sym, ap, subst, arith, inl, inr}
use Rattle.std.specs.List.{Contains}
use Rattle.std.proofs.lemmas.Bool.{cases_order, ltb-true, ltb-false}
use Rattle.sled_codec.specs.History.{History}
use Rattle.sled_codec.specs.Snapshots.{SnapshotModel, stable_place}
use Rattle.sled_store.proofs.Segments.Elements.{in_nothing}
use Rattle.sled_core.specs.declared.iterator.Segment.{Segment}
use Rattle.sled_core.specs.declared.iterator.scan.ScanEnd.{ScanEnd}
use Rattle.sled_core.specs.declared.iterator.scan.ScanEnd.TheVariants.{Full, Capped, Broken}
use Rattle.sled_core.specs.Scan.{IsEnd}
use Rattle.sled_core.specs.inside.Recoverable.{ActiveFits, IsRecoverableLog, scanned_below, cut_from}
use Rattle.sled_log.specs.Recovery.{Scanned, GoesOn, IsTail, tail_begins, tail_end, is_filled, least_place}
use Rattle.sled_log.proofs.Recovers.LeftOut.{no_end}
use Rattle.sled_core.proofs.Tail.OneTail.{in_below}
use Rattle.sled_core.proofs.Tail.Multiples.{put_down, one_multiple, next_multiple}
use Rattle.sled_core.proofs.Tail.Tails.{some_is}
use Rattle.sled_log.proofs.Recovers.PassCut.{known, whole, one_reading, further, tail_last, stop, cut_is, stopped, last_known, stop_below, ends_below, end_passed}
use Rattle.sled_core.proofs.Tail.Rows.{IsWhole, met_stand, stand_in, stand_rises, stop_inside, end_there}
use Rattle.sled_log.proofs.Moments.PassStops.{StopsHere}

module _ (sum : List ℕ → ℕ) (size : ℕ) (log : List ℕ) (some : 256 ≤ size) (H : History) (A : ℕ) (first : SnapshotModel) (cut : ℕ × Option ℕ) (is : IsRecoverableLog sum size log H A first cut) where
  -- The pass stops in this segment, at the cut, where a further record has room.
  pub record IsCutSegment (slot end : ℕ) (z : Scanned) : Type 0 where
    pub there : Contains is.scanned z
    pub slot_is : z.segment.slot ≡ slot
    pub place : z.segment.place ≡ cut.0 / size * size
    pub low : z.segment.place + 20 ≤ cut.0
    pub room : cut.0 + 32 ≤ z.segment.place + size
    pub begun : z.segment.place < end
    pub ended : z.segment.place + z.stop ≤ end
    pub read : cut.0 ≤ z.segment.place + z.stop
    pub stops : StopsHere end cut.0 z

  abbrev begins : ℕ
  begins = tail_begins size (least_place size first) is.ordering

  -- Where no segment is read, the snapshot ends where a segment would begin, and none does.
  module _ (none : tail_end is.tail ≡ None) where
    empty : IsTail sum size log is.ordering begins []
    empty = subst (λ (l : List Scanned). IsTail sum size log is.ordering begins l) (no_end is.tail none) is.is_tail

    begins_there : begins ≡ stable_place first.stable
    begins_there = ⊎_elim (λ found. absurd (empty found.0 found.1 found.2)) (λ place. place) is.tail_there

    as_before : cut ≡ (stable_place first.stable, first.active)
    as_before = is.is_cut ∙ ap (cut_from size first is.scanned) none

    at_end : cut.0 ≡ begins
    at_end = ap (λ (c : ℕ × Option ℕ). c.0) as_before ∙ sym begins_there

  -- a pass is made over one segment at least
  some_pass : (end : ℕ) → tail_end is.tail ≡ Some end → scanned_below end is.scanned ≡ [] → ⊥
  some_pass end ends below =
      let last = tail_last sum size log some H A first cut is begins is.tail is.is_tail end ends in
      let y : Scanned = last.0 in
      let long = stand_rises (y.segment.place + 20) y.met (y.segment.place + y.stop) (met_stand sum size log some y (whole sum size log some H A first cut is y last.1)) in
      in_nothing y (subst (λ (l : List Scanned). Contains l y) below (in_below sum size log end is.scanned y last.1 (omega (arith, long, last.2))))

  -- The cut has a slot.
  module _ (active : ActiveFits size (stable_place first.stable) first.active) (slot : ℕ) (has_slot : cut.1 ≡ Some slot) where
    pub cut_segment : (end : ℕ) × (z : Scanned) × (tail_end is.tail ≡ Some end) × IsCutSegment slot end z
    cut_segment = by_end (tail_end is.tail) refl where
      Found : Type 0
      Found = (end : ℕ) × (z : Scanned) × (tail_end is.tail ≡ Some end) × IsCutSegment slot end z

      unread : tail_end is.tail ≡ None → ⊥
      unread none =
          let has : first.active ≡ Some slot = sym (ap (λ (c : ℕ × Option ℕ). c.1) (as_before none)) ∙ has_slot in
          let fits : ActiveFits size (stable_place first.stable) (Some slot) = subst (ActiveFits size (stable_place first.stable)) has active in
          let aligned : stable_place first.stable % size ≡ 0 = ap (λ n. n % size) (sym (begins_there none)) ∙ (put_down size _).1 in
          omega (arith, fits.0, aligned)

      by_pass : (end : ℕ) → tail_end is.tail ≡ Some end → (xs : List Scanned) → scanned_below end is.scanned ≡ xs → Found
      by_pass end ends [] below = absurd (some_pass end ends below)
      by_pass end ends (s ∷ ss) below = by (is_filled size at) refl where
        at : Segment × ℕ
        at = stop sum size log some H A first cut is end s ss ends below

        z : Scanned
        z = (stopped sum size log some H A first cut is end s ss ends below).last

        is_z : at.0 ≡ z.segment
        is_z = (stopped sum size log some H A first cut is end s ss ends below).segment

        there : Contains is.scanned z × (z.segment.place < end)
        there = last_known sum size log some H A first cut is end s ss ends below

        found : is_filled size at ≡ false → cut ≡ (at.1, Some at.0.slot) → Found
        found test same =
            let at_cut : cut.0 ≡ at.1 = ap (λ (c : ℕ × Option ℕ). c.0) same in
            let here : at.0.slot ≡ slot = some_is at.0.slot slot (sym (ap (λ (c : ℕ × Option ℕ). c.1) same) ∙ has_slot) in
            let fit : at.1 + 32 ≤ at.0.place + size = ltb-false (at.0.place + size) (at.1 + 32) test in
            let places = ap (λ (y : Segment). y.place) is_z in
            let its = whole sum size log some H A first cut is z there.0 in
            let stand = met_stand sum size log some z its in
            let long = stand_rises (z.segment.place + 20) z.met (z.segment.place + z.stop) stand in
            let low : z.segment.place + 20 ≤ cut.0 = ⊎_elim
            (λ opened. let in_it = stand_in (z.segment.place + 20) z.met (z.segment.place + z.stop) stand opened.0 opened.1 in omega (arith, in_it.0, opened.2, at_cut))
            (λ all. omega (arith, all.0, long, at_cut))
            (stopped sum size log some H A first cut is end s ss ends below).why in
            let under = stop_below sum size log some H A first cut is end s ss ends below in (
              end,
              z,
              ends,
              record {
                there = there.0;
                slot_is = sym (ap (λ (y : Segment). y.slot) is_z) ∙ here;
                place = sym (one_multiple size some z.segment.place cut.0 its.1 (omega (arith, low)) (omega (arith, fit, places, at_cut)));
                low = low;
                room = omega (arith, fit, places, at_cut);
                begun = there.1;
                ended = ends_below sum size log some H A first cut is end s ss ends below z there.0 there.1;
                read = omega (arith, under, at_cut);
                stops = ⊎_elim
                    (λ opened. inl (opened.0, opened.1, opened.2 ∙ sym at_cut, opened.3))
                    (λ all. inr (sym all.0 ∙ sym at_cut))
                    (stopped sum size log some H A first cut is end s ss ends below).why;
              },
            )

        by : (b : Bool) → is_filled size at ≡ b → Found
        by true test =
            let same : cut ≡ (at.0.place + size, None) = cut_is sum size log some H A first cut is end s ss ends below ∙ ap (λ (b : Bool). if b then (at.0.place + size, None) else (at.1, Some at.0.slot)) test in
            let no : None ≡ Some slot = sym (ap (λ (c : ℕ × Option ℕ). c.1) same) ∙ has_slot in
            cc
        by false test = found test (cut_is sum size log some H A first cut is end s ss ends below ∙ ap (λ (b : Bool). if b then (at.0.place + size, None) else (at.1, Some at.0.slot)) test)

      by_end : (o : Option ℕ) → tail_end is.tail ≡ o → Found
      by_end None none = absurd (unread none)
      by_end (Some end) ends = by_pass end ends (scanned_below end is.scanned) refl

  -- The cut is the end of a segment: it is a multiple of the size, and no segment begins there.
  pub record EndsSegment : Type 0 where
    pub aligned : cut.0 % size ≡ 0
    pub none : (s : Segment) → Contains is.ordering s → s.place ≡ cut.0 → ⊥

  -- the last segment of the tail, and that none is behind it where it is full
  abbrev IsTailLast : ℕ → Scanned → Type 0
  IsTailLast end t = Contains is.scanned t × (end ≡ t.segment.place + t.stop) × (t.why ≡ Full → (s : Segment) → Contains is.ordering s → s.place ≡ t.segment.place + size → ⊥)

  tail_stops : (place : ℕ) (tail : List Scanned) → IsTail sum size log is.ordering place tail → (end : ℕ) → tail_end tail ≡ Some end → (t : Scanned) × IsTailLast end t
  tail_stops place [] tail end ends = cc
  tail_stops place (x ∷ []) tail end ends =
      let none_behind : x.why ≡ Full → (s : Segment) → Contains is.ordering s → s.place ≡ x.segment.place + size → ⊥ = λ full s there at. (
      let on = subst (λ (why : ScanEnd). GoesOn why [] (IsTail sum size log is.ordering (place + size) [])) full tail.3 in
      on s there (at ∙ ap (λ n. n + size) tail.1)) in
      (x, (known sum size log some H A first cut is x tail.0 tail.2, some_is end (x.segment.place + x.stop) (sym ends), none_behind))
  tail_stops place (x ∷ y ∷ ys) tail end ends = by x.why tail.3 (tail_stops (place + size) (y ∷ ys)) where
    by : (why : ScanEnd) → GoesOn why (y ∷ ys) (IsTail sum size log is.ordering (place + size) (y ∷ ys))
        → (IsTail sum size log is.ordering (place + size) (y ∷ ys) → (e : ℕ) → tail_end (y ∷ ys) ≡ Some e → (t : Scanned) × IsTailLast e t) → (t : Scanned) × IsTailLast end t
    by Broken none rest = absurd (no_more none)
      where
        no_more : (y ∷ ys) ≡ [] → ⊥
        no_more none = cc
    by Full on rest = rest on end ends
    by Capped on rest = rest on end ends

  pub ends_segment : cut.1 ≡ None → EndsSegment
  ends_segment no_slot = by_end (tail_end is.tail) refl where
    unread : tail_end is.tail ≡ None → EndsSegment
    unread none = record {
      aligned = ap (λ n. n % size) (at_end none) ∙ (put_down size _).1;
      none = λ s there at. empty none s there (at ∙ at_end none);
    }

    by_pass : (end : ℕ) → tail_end is.tail ≡ Some end → (xs : List Scanned) → scanned_below end is.scanned ≡ xs → EndsSegment
    by_pass end ends [] below = absurd (some_pass end ends below)
    by_pass end ends (s ∷ ss) below = by (is_filled size at) refl where
      at : Segment × ℕ
      at = stop sum size log some H A first cut is end s ss ends below

      z : Scanned
      z = (stopped sum size log some H A first cut is end s ss ends below).last

      there : Contains is.scanned z × (z.segment.place < end)
      there = last_known sum size log some H A first cut is end s ss ends below

      its : IsWhole sum size log some z
      its = whole sum size log some H A first cut is z there.0

      places : at.0.place ≡ z.segment.place
      places = ap (λ (y : Segment). y.place) (stopped sum size log some H A first cut is end s ss ends below).segment

      -- a segment with no room left is read to its end
      full_end : (why : ScanEnd) → IsEnd sum size log z.segment.slot z.segment.place z.stop why → size < z.stop + 32 → why ≡ Full
      full_end Full end filled = refl
      full_end Capped end filled = absurd (omega (arith, end.0, filled))
      full_end Broken end filled = absurd (omega (arith, end.0, filled))

      found : cut ≡ (at.0.place + size, None) → at.0.place + size < at.1 + 32 → at.1 ≡ z.segment.place + z.stop → end ≤ at.1 → EndsSegment
      found same filled all passed =
          let at_cut : cut.0 ≡ z.segment.place + size = ap (λ (c : ℕ × Option ℕ). c.0) same ∙ ap (λ n. n + size) places in
          let last = tail_stops begins is.tail is.is_tail end ends in
          let y : Scanned = last.0 in
          let bound = ends_below sum size log some H A first cut is end s ss ends below z there.0 there.1 in
          let inside = stop_inside sum size log some z its in
          let within = stop_inside sum size log some y (whole sum size log some H A first cut is y last.1.0) in
          let long = stand_rises (z.segment.place + 20) z.met (z.segment.place + z.stop) (met_stand sum size log some z its) in
          let also = stand_rises (y.segment.place + 20) y.met (y.segment.place + y.stop) (met_stand sum size log some y (whole sum size log some H A first cut is y last.1.0)) in
          let one_place : z.segment.place ≡ y.segment.place = elim (cases_order z.segment.place y.segment.place) [
            | inl same_place ↦ same_place
            | inr (inl lower) ↦ (let far = further sum size log some H A first cut is z.segment.place y.segment.place its.1 (whole sum size log some H A first cut is y last.1.0).1 lower in absurd (omega (arith, far, inside, all, passed, last.1.1, also)))
            | inr (inr higher) ↦ (let far = further sum size log some H A first cut is y.segment.place z.segment.place (whole sum size log some H A first cut is y last.1.0).1 its.1 higher in absurd (omega (arith, far, within, bound, last.1.1, long)))
          ] in
          let one : z ≡ y = one_reading sum size log some H A first cut is z y there.0 last.1.0 one_place in
          let full = full_end z.why (end_there sum size log some z its) (omega (arith, filled, places, all)) in
          record {
            aligned = ap (λ n. n % size) at_cut ∙ next_multiple size z.segment.place its.1;
            none = λ u known_u here. last.1.2 (ap (λ (t : Scanned). t.why) (sym one) ∙ full) u known_u (here ∙ at_cut ∙ ap (λ n. n + size) one_place);
          }

      by : (b : Bool) → is_filled size at ≡ b → EndsSegment
      by false test =
          let same : cut ≡ (at.1, Some at.0.slot) = cut_is sum size log some H A first cut is end s ss ends below ∙ ap (λ (b : Bool). if b then (at.0.place + size, None) else (at.1, Some at.0.slot)) test in
          let no : None ≡ Some at.0.slot = sym no_slot ∙ ap (λ (c : ℕ × Option ℕ). c.1) same in
          cc
      by true test =
          let same : cut ≡ (at.0.place + size, None) = cut_is sum size log some H A first cut is end s ss ends below ∙ ap (λ (b : Bool). if b then (at.0.place + size, None) else (at.1, Some at.0.slot)) test in
          let filled : at.0.place + size < at.1 + 32 = ltb-true (at.0.place + size) (at.1 + 32) test in
          ⊎_elim
          (λ opened. let room = opened.4 in absurd (omega (arith, room, filled, places)))
          (λ all. found same filled all.0 (end_passed sum size log some H A first cut is end s ss ends below all.1))
          (stopped sum size log some H A first cut is end s ss ends below).why

    by_end : (o : Option ℕ) → tail_end is.tail ≡ o → EndsSegment
    by_end None none = unread none
    by_end (Some end) ends = by_pass end ends (scanned_below end is.scanned) refl
