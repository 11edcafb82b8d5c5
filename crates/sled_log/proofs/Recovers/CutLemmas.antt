-- The cut of a recoverable log file splits neither a message nor a batch.
use Rattle.std.proofs.Common.{⊎_elim, ◌≡◌, ◌∙◌, ◌+◌, ◌*◌, ◌/◌, ◌%◌, ◌<◌, ◌≤◌, ℕ, pos, true, List, ◌∷◌, Option, Some, refl, ap, arith, inl, inr}
use Rattle.std.specs.List.{Contains}
use Rattle.std.proofs.lemmas.Bool.{cases_lt}
use Rattle.sled_codec.specs.History.{Message, Batch, History, CutFits}
use Rattle.sled_codec.specs.Snapshots.{SnapshotModel, stable_place}
use Rattle.sled_core.specs.declared.iterator.Segment.{Segment}
use Rattle.sled_core.specs.declared.iterator.scan.ScannedRecord.{ScannedRecord}
use Rattle.sled_core.specs.declared.iterator.scan.RecordContent.TheVariants.{BatchStart}
use Rattle.sled_core.specs.inside.Recoverable.{BeginsInSegment, IsRecoverableLog, scanned_below}
use Rattle.sled_log.specs.Recovery.{Scanned, cut_of, tail_begins, tail_end, opens, open_at, least_place}
use Rattle.sled_store.proofs.Histories.Ascending.{Ascends}
use Rattle.sled_core.proofs.Tail.Covered.{PassEnds, IsCovered, covered}
use Rattle.sled_core.proofs.Tail.OfHistory.{closed_is, opened_of, batch_of, message_of}
use Rattle.sled_log.proofs.Recovers.PassCut.{further, whole, tail_has, passed, stop, cut_place, stopped, last_known, last_place, stop_below, cut_bounds, no_higher, passed_stands, met_below, ends_below, end_passed}
use Rattle.sled_core.proofs.Tail.Multiples.{put_down}
use Rattle.sled_log.proofs.Recovers.TailBegins.{begins_at, begins_low, ends_before}
use Rattle.sled_core.proofs.Tail.Rows.{IsStopIn, stand_in, cut_cases}
use Rattle.sled_log.proofs.Recovers.PassedRows.{passed_closed}

module _ (sum : List ℕ → ℕ) (size : ℕ) (log : List ℕ) (some : 256 ≤ size) (H : History) (A : ℕ) (first : SnapshotModel) (cut : ℕ × Option ℕ) (is : IsRecoverableLog sum size log H A first cut)
    (ordered : Ascends H.messages) (fits : CutFits H (stable_place first.stable)) where
  abbrev begins : ℕ
  begins = tail_begins size (least_place size first) is.ordering

  begins_at_multiple : begins % size ≡ 0
  begins_at_multiple = (begins_at sum size log some H A first cut is).0

  multiples : (a b : ℕ) → a % size ≡ 0 → b % size ≡ 0 → a < b → a + size ≤ b
  multiples = further sum size log some H A first cut is

  module _ (end : ℕ) (s : Scanned) (ss : List Scanned) (ends : tail_end is.tail ≡ Some end) (below : scanned_below end is.scanned ≡ s ∷ ss) where
    -- where the pass stops, in which segment, and the cut there

    abbrev at_stop : Segment × ℕ
    at_stop = stop sum size log some H A first cut is end s ss ends below

    abbrev stops : IsStopIn sum size log some end s ss at_stop
    stops = stopped sum size log some H A first cut is end s ss ends below

    abbrev final : Scanned
    final = stops.last

    final_known : Contains is.scanned final × (final.segment.place < end)
    final_known = last_known sum size log some H A first cut is end s ss ends below

    final_place : at_stop.0.place ≡ final.segment.place
    final_place = last_place sum size log some H A first cut is end s ss ends below

    at_cut : cut.0 ≡ (cut_of size at_stop).0
    at_cut = cut_place sum size log some H A first cut is end s ss ends below

    bounds : (at_stop.1 ≤ cut.0) × (cut.0 ≤ final.segment.place + size)
    bounds = cut_bounds sum size log some H A first cut is end s ss ends below

    -- a record below the cut is met by the pass
    meets : (t : Scanned) → Contains is.scanned t → (x : ScannedRecord) → Contains t.met x → x.place < cut.0 → Contains (passed sum size log some H A first cut is end s ss ends below) x
    meets = met_below sum size log some H A first cut is end s ss ends below

    -- the pass stops no higher than the tail
    stop_low : at_stop.1 ≤ end
    stop_low =
        let last = final_known in
        let at = stop_below sum size log some H A first cut is end s ss ends below in
        let low = ends_below sum size log some H A first cut is end s ss ends below final last.0 last.1 in
        omega (arith, at, low)

    pass_ends : PassEnds sum size log some is.scanned begins end cut.0
    pass_ends = record {
      at = at_stop;
      final = final;
      known = final_known.0;
      begun = final_known.1;
      place = final_place;
      is_cut = at_cut;
      low = stop_low;
      no_higher = no_higher sum size log some H A first cut is end s ss ends below;
      aligned = begins_at_multiple;
      has = tail_has sum size log some H A first cut is begins is.tail is.is_tail begins_at_multiple end ends;
      whole = whole sum size log some H A first cut is;
    }

    -- A record of the tail has a place below the cut, or it lies behind a Cap.
    abbrev Covers : ℕ → Type 0
    Covers p = IsCovered sum size log some is.scanned begins end cut.0 pass_ends p

    covered_at : (p : ℕ) → begins ≤ p → p < cut.0 → BeginsInSegment size p → Covers p
    covered_at = covered sum size log some is.scanned begins end cut.0 pass_ends

    -- Messages.

    fits_message : (m : Message) → Contains H.messages m → m.place < cut.0 → m.place + m.size ≤ cut.0
    fits_message m there lower = elim (cases_lt m.place (stable_place first.stable)) [
      | inl early ↦ (let ended = fits.messages m there early in let above = is.not_below in omega (arith, ended, above))
      | inr since ↦ elim (cases_lt m.place begins) [
        | inl under ↦ before_tail under
        | inr above ↦ in_tail (covered_at m.place above lower (is.placed m there lower).begins)
      ]
    ] where
      before_tail : m.place < begins → m.place + m.size ≤ cut.0
      before_tail under =
          let lies = (is.placed m there lower).ends in
          let parts = put_down size m.place in
          let far = multiples (m.place / size * size) begins parts.1 begins_at_multiple (omega (arith, under, parts.0)) in
          let low = begins_low sum size log some H A first cut is in
          omega (arith, lies, parts.0, far, low)

      in_tail : Covers m.place → m.place + m.size ≤ cut.0
      in_tail (t, known_t, place_t, inl (x, met, above, under)) =
          let its = (message_of sum size log H ordered x (is.truth t x known_t met) m there above under).0 in
          let place = its.place in
          let len = its.len in
          let passes = meets t known_t x met (omega (arith, place, lower)) in
          let stands = stand_in s.segment.place (passed sum size log some H A first cut is end s ss ends below) _ (passed_stands sum size log some H A first cut is end s ss ends below) x passes in
          let bound = bounds.0 in
          omega (arith, stands.2, place, len, bound)
      in_tail (t, known_t, place_t, inr (capped, past, within)) = ⊎_elim (λ under. absurd (omega (arith, under, past))) (λ over. absurd (omega (arith, over, within))) (((is.caps t known_t).0 capped).0 m there)

    -- Batches.

    fits_batch : (b : Batch) → Contains H.batches b → b.low < cut.0 → b.peg < cut.0
    fits_batch b there lower = elim (cases_lt b.low (stable_place first.stable)) [
      | inl early ↦ (let ended = fits.batches b there early in let above = is.not_below in omega (arith, ended, above))
      | inr since ↦ elim (cases_lt b.low begins) [
        | inl under ↦ ends_before sum size log some H A first cut is b there since under
        | inr above ↦ in_tail (covered_at b.low above lower (is.batched b there lower).begins)
      ]
    ] where
      -- the record of its beginning
      its : (t : Scanned) → Contains is.scanned t → (x : ScannedRecord) → Contains t.met x → x.place ≤ b.low → b.low < x.place + x.len → (x.place ≡ b.low) × (x.what ≡ BatchStart (pos b.peg))
      its t known_t x met above under =
          let found = batch_of sum size log H x (is.truth t x known_t met) b there above under in
          let same : found.0 ≡ b = (is.batched b there lower).alone found.0 found.1 found.2 in
          (found.3, found.4 ∙ ap (λ (y : Batch). BatchStart (pos y.peg)) same)

      -- where the pass stops at a batch that is open, this one ends before that
      at_open : (z : ScannedRecord) → Contains final.met z → z.place ≡ at_stop.1 → opens end z.what ≡ true
          → at_stop.1 + 32 ≤ final.segment.place + size → b.peg < end → b.peg < cut.0
      at_open z met at opened room ended =
          let found = opened_of sum size log H end z (is.truth final z final_known.0 met) opened in
          let c : Batch = found.0 in
          let is_stop : cut.0 ≡ at_stop.1 = elim (cut_cases size at_stop) [
            | inl same ↦ at_cut ∙ same
            | inr filled ↦ absurd (omega (arith, filled.1, final_place, room))
          ] in
          elim (cases_lt b.peg c.low) [
            | inl early ↦ omega (arith, early, found.2, at, is_stop)
            | inr late ↦ (
                let within = (is.batched b there lower).nested c found.1 (omega (arith, found.2, at, is_stop, lower)) late in
                absurd (omega (arith, within, found.3, ended)))
          ]

      in_tail : Covers b.low → b.peg < cut.0
      in_tail (t, known_t, place_t, inl (x, met, above, under)) =
          let same = its t known_t x met above under in
          let passes = meets t known_t x met (omega (arith, same.0, lower)) in
          let ended : b.peg < end = closed_is end x.what b.peg (passed_closed sum size log some end s ss (open_at end s.met) refl x passes) same.1 in
          ⊎_elim
          (λ open_one. at_open open_one.0 open_one.1 open_one.2 open_one.3 open_one.4 ended)
          (λ all.
          let far = end_passed sum size log some H A first cut is end s ss ends below all.1 in
          let bound = bounds.0 in
          omega (arith, ended, far, bound))
          stops.why
      in_tail (t, known_t, place_t, inr (capped, past, within)) = ⊎_elim (λ under. absurd (omega (arith, under, past))) (λ over. absurd (omega (arith, over, within))) (((is.caps t known_t).0 capped).1 b there)

    -- The cut splits neither.
    pub cut_fits : CutFits H cut.0
    cut_fits = record { batches = fits_batch; messages = fits_message }
