-- Of a log file that can be recovered no batch ends behind the end of the tail and below the cut: between the two no record has room.
use Rattle.std.proofs.Common.{⊎_elim, ◌≡◌, ◌≢◌, ◌∙◌, ◌+◌, ◌<◌, ◌≤◌, ℕ, List, [], ◌∷◌, Option, Some, refl, sym, ap, subst, arith, inl, inr}
use Rattle.std.specs.List.{Contains}
use Rattle.sled_codec.specs.History.{Batch, History}
use Rattle.sled_codec.specs.Snapshots.{SnapshotModel}
use Rattle.sled_store.proofs.Segments.Elements.{in_nothing}
use Rattle.sled_core.specs.declared.iterator.Segment.{Segment}
use Rattle.sled_core.specs.declared.iterator.scan.ScanEnd.TheVariants.{Broken}
use Rattle.sled_core.specs.Scan.{IsEnd}
use Rattle.sled_core.specs.inside.Recoverable.{IsRecoverableLog, cut_from, cut_over, scanned_below}
use Rattle.sled_core.specs.Tail.{cut_of, least_place, stops_in, tail_begins, tail_end, Scanned, open_at}
use Rattle.sled_core.proofs.Tail.OneTail.{from_below, in_below}
use Rattle.sled_core.proofs.Tail.Rows.{IsRow, IsStopIn, cut_cases, end_there, met_stand, row_below, stand_in, stand_rises, stop_in}
use Rattle.sled_core.proofs.Tail.Tails.{ends_low, row, tail_last, whole}

module _ (sum : List ℕ → ℕ) (size : ℕ) (log : List ℕ) (some : 256 ≤ size) (H : History) (A : ℕ) (first : SnapshotModel) (cut : ℕ × Option ℕ)
    (is : IsRecoverableLog sum size log H A first cut) (end : ℕ) (ends : tail_end is.tail ≡ Some end) where
  abbrev least : ℕ
  least = least_place size first

  abbrev begins : ℕ
  begins = tail_begins size least is.ordering

  -- the last segment of the tail
  last : (t : Scanned) × Contains is.scanned t × (end ≡ t.segment.place + t.stop)
  last = tail_last sum size log some least is.ordering is.numbers is.scanned is.reads begins is.tail is.is_tail end ends

  last_below : Contains (scanned_below end is.scanned) last.0
  last_below =
      let read = whole sum size log some least is.ordering is.numbers is.scanned is.reads last.0 last.1 in
      let long = stand_rises (last.0.segment.place + 20) last.0.met (last.0.segment.place + last.0.stop) (met_stand sum size log some last.0 read) in
      in_below sum size log end is.scanned last.0 last.1 (omega (arith, last.2, long))

  -- The pass stops no higher than the tail ends, or behind a record that is read.
  module _ (s : Scanned) (ss : List Scanned) (below : scanned_below end is.scanned ≡ s ∷ ss) where
    abbrev at : Segment × ℕ
    at = stops_in end s (open_at end s.met) ss

    its_cut : cut ≡ cut_of size at
    its_cut = is.is_cut ∙ ap (cut_from size first is.scanned) ends ∙ ap (cut_over size first end) below

    stops : IsStopIn sum size log some end s ss at
    stops =
        let its_row = row_below sum size log some end is.scanned (row sum size log some least is.ordering is.numbers is.scanned is.reads) in
        stop_in sum size log some end s ss (open_at end s.met) (subst (IsRow sum size log some) below its_row) refl

    final : Contains is.scanned stops.last × (stops.last.segment.place < end)
    final = from_below sum size log end is.scanned stops.last (subst (λ (l : List Scanned). Contains l stops.last) (sym below) stops.there)

    place_is : at.0.place ≡ stops.last.segment.place
    place_is = ap (λ (x : Segment). x.place) stops.segment

    final_low : stops.last.segment.place + stops.last.stop ≤ end
    final_low = ends_low sum size log some least is.ordering is.numbers is.scanned is.reads begins is.tail is.is_tail end ends stops.last final.0 final.1

    stop_low : at.1 ≤ end
    stop_low = ⊎_elim
        (λ at_open.
        let read = whole sum size log some least is.ordering is.numbers is.scanned is.reads stops.last final.0 in
        let stand = met_stand sum size log some stops.last read in
        let lies = stand_in (stops.last.segment.place + 20) stops.last.met (stops.last.segment.place + stops.last.stop) stand at_open.0 at_open.1 in
        let low = final_low in
        omega (arith, lies.2, at_open.2, low))
        (λ all. let low = final_low in omega (arith, all.0, low))
        stops.why

    -- where it has no room for a record, the last segment isn't broken
    not_broken : size < stops.last.stop + 32 → stops.last.why ≢ Broken
    not_broken full broken =
        let read = whole sum size log some least is.ordering is.numbers is.scanned is.reads stops.last final.0 in
        let ended = end_there sum size log some stops.last read in
        let room = (subst (IsEnd sum size log stops.last.segment.slot stops.last.segment.place stops.last.stop) broken ended).0 in
        omega (arith, full, room)

    none_between : (b : Batch) → Contains H.batches b → end ≤ b.peg → b.peg < cut.0 → ⊥
    none_between b known above below_cut = elim (cut_cases size at) [
      | inl same ↦ (let low = stop_low in omega (arith, same, low, above, below_cut, ap (λ (c : ℕ × Option ℕ). c.0) its_cut))
      | inr filled ↦ elim stops.why [
        | inl at_open ↦ omega (arith, filled.1, at_open.4, place_is)
        | inr all ↦ elim ((is.caps stops.last final.0).1 (not_broken (omega (arith, filled.1, all.0, place_is))) b known) [
          | inl lower ↦ (let low = final_low in omega (arith, lower, low, above))
          | inr higher ↦ omega (arith, higher, filled.0, place_is, below_cut, ap (λ (c : ℕ × Option ℕ). c.0) its_cut)
        ]
      ]
    ]

  pub none_ends : (b : Batch) → Contains H.batches b → end ≤ b.peg → b.peg < cut.0 → ⊥
  none_ends = by (scanned_below end is.scanned) refl where
    by : (xs : List Scanned) → scanned_below end is.scanned ≡ xs → (b : Batch) → Contains H.batches b → end ≤ b.peg → b.peg < cut.0 → ⊥
    by [] none = absurd (in_nothing last.0 (subst (λ (l : List Scanned). Contains l last.0) none last_below))
    by (s ∷ ss) below = none_between s ss below
