-- The cut of such a log file: a pass over it stops at the place that was reached or above it.
use Rattle.std.proofs.Common.{⊎_elim, ◌≡◌, ◌∙◌, ◌+◌, ◌%◌, ◌<◌, ◌≤◌, ℕ, List, [], ◌∷◌, Option, Some, refl, sym, ap, subst, arith, inl, inr}
use Rattle.std.specs.List.{Contains}
use Rattle.std.proofs.lemmas.Bool.{cases_lt}
use Rattle.sled_codec.specs.History.{History}
use Rattle.sled_codec.specs.Snapshots.{SnapshotModel}
use Rattle.sled_store.proofs.Segments.Elements.{in_nothing}
use Rattle.sled_core.specs.declared.iterator.Segment.{Segment}
use Rattle.sled_core.specs.inside.Recoverable.{scanned_below, cut_over, cut_from}
use Rattle.sled_core.specs.Tail.{Scanned, open_at, IsTail, stops_in, cut_of, tail_end}
use Rattle.sled_core.proofs.Tail.Covered.{PassEnds}
use Rattle.sled_core.proofs.Tail.OfHistory.{opened_of}
use Rattle.sled_core.proofs.Tail.OneTail.{in_below, from_below}
use Rattle.sled_core.proofs.Tail.Rows.{IsRow, IsStopIn, row_below, met_stand, stand_in, stand_rises, stop_inside, stop_in, cut_cases}
use Rattle.sled_core.proofs.Tail.Tails.{ends_low, further, whole, row, tail_last, tail_has}
use Rattle.sled_core.proofs.Reached.StandsTo.{StandsTo, least, begins, aligned}

module _ (sum : List ℕ → ℕ) (size : ℕ) (log : List ℕ) (some : 256 ≤ size) (H : History) (first : SnapshotModel) (reach : ℕ) (is : StandsTo sum size log H reach first reach)
    (tail : List Scanned) (is_tail : IsTail sum size log is.ordering (begins sum size log some H first reach is) tail) (end : ℕ) (ends : tail_end tail ≡ Some end) (far : reach ≤ end) where
  abbrev from : ℕ
  from = least sum size log some H first reach is

  abbrev begin : ℕ
  begin = begins sum size log some H first reach is

  -- the last segment of the tail
  last : (t : Scanned) × Contains is.scanned t × (end ≡ t.segment.place + t.stop)
  last = tail_last sum size log some from is.ordering is.numbers is.scanned is.reads begin tail is_tail end ends

  long : (t : Scanned) → Contains is.scanned t → t.segment.place + 20 ≤ t.segment.place + t.stop
  long t there = stand_rises (t.segment.place + 20) t.met (t.segment.place + t.stop) (met_stand sum size log some t (whole sum size log some from is.ordering is.numbers is.scanned is.reads t there))

  inside : (t : Scanned) → Contains is.scanned t → t.stop ≤ size
  inside t there = stop_inside sum size log some t (whole sum size log some from is.ordering is.numbers is.scanned is.reads t there)

  multiples : (a b : ℕ) → a % size ≡ 0 → b % size ≡ 0 → a < b → a + size ≤ b
  multiples = further sum size log some from is.ordering is.numbers is.scanned is.reads

  -- A segment that begins below the end of the tail ends no higher.
  low_end : (t : Scanned) → Contains is.scanned t → t.segment.place < end → t.segment.place + t.stop ≤ end
  low_end = ends_low sum size log some from is.ordering is.numbers is.scanned is.reads begin tail is_tail end ends

  last_begun : last.0.segment.place < end
  last_begun = let longer = long last.0 last.1 in omega (arith, longer, last.2)

  -- The segments of the pass.
  module _ (s : Scanned) (ss : List Scanned) (below : scanned_below end is.scanned ≡ s ∷ ss) where
    own_row : IsRow sum size log some (s ∷ ss)
    own_row = subst (IsRow sum size log some) below (row_below sum size log some end is.scanned (row sum size log some from is.ordering is.numbers is.scanned is.reads))

    abbrev at : Segment × ℕ
    at = stops_in end s (open_at end s.met) ss

    stops : IsStopIn sum size log some end s ss at
    stops = stop_in sum size log some end s ss (open_at end s.met) own_row refl

    from_pass : (t : Scanned) → Contains (s ∷ ss) t → Contains is.scanned t × (t.segment.place < end)
    from_pass t there = from_below sum size log end is.scanned t (subst (λ (l : List Scanned). Contains l t) (sym below) there)

    final : Contains is.scanned stops.last × (stops.last.segment.place < end)
    final = from_pass stops.last stops.there

    -- it stops within the last one that it reads
    stop_within : at.1 ≤ stops.last.segment.place + stops.last.stop
    stop_within = ⊎_elim
        (λ at_open.
        let stand = met_stand sum size log some stops.last (whole sum size log some from is.ordering is.numbers is.scanned is.reads stops.last final.0) in
        let lies = stand_in (stops.last.segment.place + 20) stops.last.met (stops.last.segment.place + stops.last.stop) stand at_open.0 at_open.1 in
        omega (arith, lies.2, at_open.2))
        (λ all. omega (arith, all.0))
        stops.why

    -- at the place that was reached or above it, since no batch is open there
    stop_far : reach ≤ at.1
    stop_far = ⊎_elim
        (λ at_open.
        let found = opened_of sum size log H end at_open.0 (is.truth stops.last at_open.0 final.0 at_open.1) at_open.3 in
        elim (cases_lt found.0.low reach) [
          | inl early ↦ (let ended = is.closed found.0 found.1 early in absurd (omega (arith, ended, found.3, far)))
          | inr late ↦ omega (arith, late, found.2, at_open.2)
        ])
        (λ all.
        let there = subst (λ (l : List Scanned). Contains l last.0) below (in_below sum size log end is.scanned last.0 last.1 last_begun) in
        let high = all.1 last.0 there in
        omega (arith, high, last.2, far))
        stops.why

    abbrev pub cut : ℕ × Option ℕ
    cut = cut_of size at

    place_is : at.0.place ≡ stops.last.segment.place
    place_is = ap (λ (x : Segment). x.place) stops.segment

    bounds : (at.1 ≤ cut.0) × (cut.0 ≤ stops.last.segment.place + size)
    bounds =
        let fits = inside stops.last final.0 in
        let within = stop_within in
        elim (cut_cases size at) [
          | inl same ↦ (omega (arith, same), omega (arith, same, within, fits))
          | inr filled ↦ (omega (arith, filled.0, place_is, within, fits), omega (arith, filled.0, place_is))
        ]

    pub cut_far : reach ≤ cut.0
    cut_far = let high = stop_far in omega (arith, high, bounds.0)

    pub pass_ends : PassEnds sum size log some is.scanned begin end cut.0
    pass_ends = record {
      at = at;
      final = stops.last;
      known = final.0;
      begun = final.1;
      place = place_is;
      is_cut = refl;
      low = let within = stop_within in let low = low_end stops.last final.0 final.1 in omega (arith, within, low);
      no_higher = λ z begins_z lower. elim (cases_lt stops.last.segment.place z) [
        | inl higher ↦ (
            let apart = multiples stops.last.segment.place z (whole sum size log some from is.ordering is.numbers is.scanned is.reads stops.last final.0).1 begins_z higher in
            absurd (omega (arith, apart, bounds.1, lower)))
        | inr le ↦ le
      ];
      aligned = aligned sum size log some H first reach is;
      has = tail_has sum size log some from is.ordering is.numbers is.scanned is.reads begin tail is_tail (aligned sum size log some H first reach is) end ends;
      whole = whole sum size log some from is.ordering is.numbers is.scanned is.reads;
    }

    pub cut_is : cut_from size first is.scanned (tail_end tail) ≡ cut
    cut_is = ap (cut_from size first is.scanned) ends ∙ ap (cut_over size first end) below

  -- The pass reads one segment at least.
  pub some_read : (s : Scanned) × (ss : List Scanned) × (scanned_below end is.scanned ≡ s ∷ ss)
  some_read = by (scanned_below end is.scanned) refl where
    by : (xs : List Scanned) → scanned_below end is.scanned ≡ xs → (s : Scanned) × (ss : List Scanned) × (scanned_below end is.scanned ≡ s ∷ ss)
    by [] none = absurd (in_nothing last.0 (subst (λ (l : List Scanned). Contains l last.0) none (in_below sum size log end is.scanned last.0 last.1 last_begun)))
    by (s ∷ ss) below = (s, ss, below)
