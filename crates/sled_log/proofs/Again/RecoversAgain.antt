-- A recovery of what a successful one left comes, where it comes to a conclusion, to the same place and the same pages.
use Rattle.std.proofs.Common.{⊎_elim, ◌≡◌, ◌∙◌, ◌+◌, ◌-◌, ◌*◌, ◌/◌, ◌%◌, ◌<◌, ◌≤◌, ℕ, zero, suc, ℤ, pos, false, nat_lt, List, [], ◌∷◌, length, drop, map, replicate, Option, Some, None, refl, sym, ap, subst, arith, inl, inr}
use Rattle.std.specs.List.{Contains}
use Rattle.sled_codec.specs.Snapshots.{SnapshotModel, stable_place}
use Rattle.sled_store.specs.Device.{State, Synced, NamesSynced, step, content_of, overwritten, at_rest}
use Rattle.sled_store.proofs.LogFile.OverwrittenLemmas.{length-overwritten}
use Rattle.sled_store.proofs.Segments.Elements.{in_first, in_rest, in_cases, in_nothing}
use Rattle.sled_core.specs.declared.iterator.Segment.{Segment}
use Rattle.sled_core.specs.declared.iterator.scan.ScannedRecord.{ScannedRecord}
use Rattle.sled_core.specs.inside.Scan.{IsFoundSegment, IsMisplaced}
use Rattle.sled_core.specs.Scan.{IsPath}
use Rattle.sled_core.proofs.Read.FoundLemmas.{found_there}
use Rattle.sled_core.proofs.Tail.Multiples.{put_down, next_multiple, one_multiple}
use Rattle.sled_core.proofs.Tail.OneTail.{Rises, rises_of, place_aligned}
use Rattle.sled_core.proofs.Tail.Rows.{stand_rises, path_stands}
use Rattle.sled_log.specs.Recovery.{Scanned, IsScanned, IsOrdering, begun_below, AreReplayed, open_at, stops_in, cut_of, least_place, shred_range_of, resolved_scan, given, passed_in, has_no_table, are_whole, table_of, unchanged, RecoveryResult, Recovered, slots_in_order, Passes, Replays, ContinuesFrom, Recovers, tail_end, tail_begins}
use Rattle.sled_log.specs.Restores.{BeginsAgain}
use Rattle.sled_log.specs.WritesBack.{after_shredding, after_zeroing, IsWrittenBack}
use Rattle.sled_log.proofs.Again.FilledRest.{broken_at, found_before, ends_there}
use Rattle.sled_log.proofs.Again.NothingNew.{none_found, one_found}
use Rattle.sled_log.proofs.Again.StopsLast.{StopsLast, stops_last}
use Rattle.sled_log.proofs.Again.ZeroedSlots.{AreSlots, found_elsewhere, scan_elsewhere}
use Rattle.sled_log.proofs.Recovers.ActiveSlot.{cut_whole}
use Rattle.sled_log.proofs.Recovers.LeftIn.{in_slots, begun_in, rises_begun, read_or_left}
use Rattle.sled_log.proofs.Replay.BlobLemmas.{open_resolved, stops_resolved}
use Rattle.sled_log.proofs.SnapshotFile.BeginLemmas.{one_begin}
use Rattle.sled_log.proofs.SnapshotFile.NewestLemmas.{chosen_well, comes_of, stays_old}

in_dropped : (n : ℕ) (us : List Segment) (u : Segment) → Contains (drop n us) u → Contains us u
in_dropped zero us u there = there
in_dropped (suc n) [] u there = absurd (in_nothing u there)
in_dropped (suc n) (t ∷ us) u there = in_rest t u us (in_dropped n us u there)

from_slots : (us : List Segment) (slot : ℕ) → Contains (slots_in_order us) slot → (u : Segment) × Contains us u × (u.slot ≡ slot)
from_slots [] slot there = absurd (in_nothing slot there)
from_slots (t ∷ us) slot there = ⊎_elim
    (λ same. (t, in_first t us, same))
    (λ later. let rest = from_slots us slot later in (rest.0, in_rest t rest.0 us rest.1, rest.2))
    (in_cases t.slot slot (slots_in_order us) there)

module _ (sum : List ℕ → ℕ) (size : ℕ) (some : 256 ≤ size) (log : List ℕ) (first : SnapshotModel) (others : ℤ → Option (List ℕ)) (next : SnapshotModel) (y : RecoveryResult) where
  -- what recovery makes of this log file is not new
  abbrev NotNew : List ℕ → Type 0
  NotNew new = ContinuesFrom sum size new others next (Recovered y) → y.is_new ≡ false

  -- the log file as it is left
  abbrev left : Option (ℕ × ℕ) → List ℕ → List ℕ
  left shred_range unread = (after_zeroing size unread (after_shredding shred_range (at_rest log))).bytes

  abbrev Goal : Option (ℕ × ℕ) → List ℕ → Option ℤ → Type 0
  Goal shred_range unread stable = next.stable ≡ stable → NotNew (left shred_range unread)

  -- where no segment is found that isn't misplaced
  where_none : (new : List ℕ) → ((u : Segment) → IsFoundSegment sum size new (least_place size next) u → (IsMisplaced size u → ⊥) → ⊥) → NotNew new
  unfolding ContinuesFrom
  where_none new none (inl damaged) = let no = damaged.0 in absurd (cc)
  where_none new none (inr ([], is, replays)) = none_found sum size new others next y _ replays
  where_none new none (inr (u ∷ us, is, replays)) = absurd (none u ((is.found u).0 (in_first u us)) (is.placed u (in_first u us)))

  -- where one at most is, the reading of which ends at the place of the snapshot
  where_one : (new : List ℕ) (s : Segment) (met : List ScannedRecord) (offset : ℕ) → 0 < offset → offset + 32 ≤ size → next.stable ≡ Some (pos (s.place + offset))
      → ((u : Segment) → IsFoundSegment sum size new (least_place size next) u → (IsMisplaced size u → ⊥) → (u ≡ s) × IsScanned sum size new (broken_at s met offset)) → NotNew new
  unfolding ContinuesFrom
  where_one new s met offset behind room place one (inl damaged) = let no = damaged.0 in absurd (cc)
  where_one new s met offset behind room place one (inr ([], is, replays)) = none_found sum size new others next y _ replays
  where_one new s met offset behind room place one (inr (u ∷ [], is, replays)) =
      let at = one u ((is.found u).0 (in_first u [])) (is.placed u (in_first u [])) in
      let these : List Segment = u ∷ [] in
      one_found sum size new others next y s met offset at.1 behind room place (tail_begins size (least_place size next) these)
      (subst (λ (w : Segment). Replays sum size new others next (w ∷ []) (tail_begins size (least_place size next) these) (Recovered y)) at.0 replays)
  where_one new s met offset behind room place one (inr (u ∷ v ∷ us, is, replays)) =
      let rises = rises_of (u ∷ v ∷ us) is.ascending in
      let here : Contains (u ∷ v ∷ us) v = in_rest u v (v ∷ us) (in_first v us) in
      let a = one u ((is.found u).0 (in_first u (v ∷ us))) (is.placed u (in_first u (v ∷ us))) in
      let b = one v ((is.found v).0 here) (is.placed v here) in
      let above = rises.0 v (in_first v us) in
      absurd (omega (arith, above, ap (λ (w : Segment). w.place) a.0, ap (λ (w : Segment). w.place) b.0))

  module _ (least : ℕ) (ordering : List Segment) (numbers : IsOrdering sum size log least ordering) where
    -- those that were not read lie in slots of the file
    unread_slots : (n : ℕ) → AreSlots size log (slots_in_order (drop n ordering))
    unread_slots n slot there =
        let u = from_slots (drop n ordering) slot there in
        let found = (numbers.found u.0).0 (in_dropped n ordering u.0 u.1) in
        let inside = found_there sum size log least u.0 found in
        (ap (λ k. k % size) (sym u.2) ∙ found.slot, omega (arith, inside, u.2))

    known : (u : Segment) (low : ℕ) → least ≤ low → IsFoundSegment sum size log low u → Contains ordering u
    known u low above found = (numbers.found u).1 (record { slot = found.slot; header = found.header; not_below = (let place = found.not_below in omega (arith, above, place)) })

    -- No segment was read: then none is found.
    pub none_read : least ≤ least_place size next → NotNew (left None (slots_in_order ordering))
    none_read above = where_none (left None (slots_in_order ordering)) (λ u found placed.
        let before = found_elsewhere sum size some (slots_in_order ordering) log (unread_slots 0) (least_place size next) u found placed in
        before.1 (in_slots ordering u (known u (least_place size next) above before.0)))

    -- Segments were read, up to the one in which the pass stopped.
    module _ (end : ℕ) (s : Scanned) (ss : List Scanned) (are : AreReplayed sum size log end (begun_below end ordering) (s ∷ ss)) where
      rises : Rises ordering
      rises = rises_of ordering numbers.ascending

      abbrev at : Segment × ℕ
      at = stops_in end s (open_at end s.met) ss

      abbrev z : Segment
      z = at.0

      stops : StopsLast sum size log end (begun_below end ordering) (s ∷ ss) at
      stops = stops_last sum size log end (begun_below end ordering) s ss (open_at end s.met) (rises_begun end ordering rises) are refl

      z_there : Contains ordering z
      z_there = begun_in end ordering z stops.there

      z_found : IsFoundSegment sum size log least z
      z_found = (numbers.found z).0 z_there

      z_aligned : z.place % size ≡ 0
      z_aligned = place_aligned sum size log least ordering numbers z z_there

      abbrev unread : List ℕ
      unread = slots_in_order (drop (length (s ∷ ss)) ordering)

      slots : AreSlots size log unread
      slots = unread_slots (length (s ∷ ss))

      -- a segment that isn't left, from that one on, is that one
      only_last : (u : Segment) (low : ℕ) → z.place ≤ low → IsFoundSegment sum size log low u → (Contains unread u.slot → ⊥) → u ≡ z
      only_last u low above found apart =
          let below = z_found.not_below in
          let there = known u low (omega (arith, below, above)) found in
          ⊎_elim
          (λ not_read. absurd (apart (in_slots (drop (length (s ∷ ss)) ordering) u not_read)))
          (λ (read : (p : Scanned) × Contains (s ∷ ss) p × (p.segment ≡ u)). ⊎_elim
          (λ same. sym read.2 ∙ same)
          (λ under. absurd (let high = found.not_below in omega (arith, under, high, above, ap (λ (w : Segment). w.place) read.2)))
          (stops.last read.0 read.1))
          (read_or_left end sum size log ordering (s ∷ ss) rises are u there)

      -- The cut is the end of that segment.
      at_end : stable_place next.stable ≡ z.place + size → NotNew (left None unread)
      at_end place = where_none (left None unread) (λ u found placed.
          let before = found_elsewhere sum size some unread log slots (least_place size next) u found placed in
          let parts = put_down size (z.place + size) in
          let whole : least_place size next ≡ z.place + size = ap (λ n. n / size * size) place ∙ (let odd = next_multiple size z.place z_aligned in omega (arith, parts.0, odd)) in
          let same = only_last u (least_place size next) (omega (arith, whole)) before.0 before.1 in
          let above = found.not_below in
          omega (arith, above, whole, some, ap (λ (w : Segment). w.place) same))

      -- The pass stopped in that segment, behind its header, and the rest of it is filled.
      module _ (room : at.1 + 32 ≤ z.place + size) where
        offset : ℕ
        offset = stops.offset

        is_at : at.1 ≡ z.place + offset
        unfolding offset
        is_at = stops.place

        path : IsPath sum size log z.slot z.place 20 stops.met offset
        unfolding offset
        path = stops.path

        behind : 20 ≤ offset
        behind = let up = stand_rises (z.place + 20) stops.met (z.place + offset) (path_stands sum size log z.slot z.place 20 stops.met offset path) in omega (arith, up)

        fits : offset + 32 ≤ size
        fits = omega (arith, room, is_at)

        down : at.1 / size * size ≡ z.place
        down = one_multiple size some z.place at.1 z_aligned (omega (arith, is_at)) (omega (arith, room))

        is_offset : at.1 % size ≡ offset
        is_offset = let parts = put_down size at.1 in omega (arith, parts.0, down, is_at)

        abbrev filled : List ℕ
        filled = overwritten log (z.slot + offset) (replicate (size - offset) 0)

        reach : z.slot + 20 ≤ length log
        reach = found_there sum size log least z z_found

        to_end : offset + (size - offset) ≡ size
        to_end = omega (arith, fits)

        filled_slots : AreSlots size filled unread
        filled_slots slot there = let was = slots slot there in (was.0, let inside = was.1 in omega (arith, inside, length-overwritten log (z.slot + offset) (replicate (size - offset) 0)))

        inside_filled : next.stable ≡ Some (pos at.1) → NotNew (after_zeroing size unread (at_rest filled)).bytes
        inside_filled place = where_one (after_zeroing size unread (at_rest filled)).bytes z stops.met offset (omega (arith, behind)) fits (place ∙ ap (λ n. Some (pos n)) is_at) (λ u found placed.
            let from = found_elsewhere sum size some unread filled filled_slots (least_place size next) u found placed in
            let before = found_before sum size log some z.slot offset (size - offset) z_found.slot behind to_end reach (least_place size next) u from.0 in
            let begins : least_place size next ≡ z.place = ap (λ (o : Option ℤ). stable_place o / size * size) place ∙ down in
            let same = only_last u (least_place size next) (omega (arith, begins)) before from.1 in (
              same,
              scan_elsewhere sum size some unread filled filled_slots (broken_at z stops.met offset) z_found.slot (λ there. from.1 (subst (λ (w : Segment). Contains unread w.slot) (sym same) there)) (omega (arith, fits))
                  (ends_there sum size log some z.slot offset (size - offset) z_found.slot behind to_end reach z stops.met refl fits path),
            ))

        inside : Goal (Some (z.slot + at.1 % size, size - at.1 % size)) unread (Some (pos at.1))
        inside place = subst (λ n. NotNew (after_zeroing size unread (at_rest (overwritten log (z.slot + n) (replicate (size - n) 0)))).bytes) (sym is_offset) (inside_filled place)

      abbrev Cut : ℕ × Option ℕ → Type 0
      Cut cut = Goal (shred_range_of size cut.0 cut.1) unread (Some (pos cut.0))

      pub some_read : Cut (cut_of size at)
      some_read = ⊎_elim
          (λ whole. subst Cut (sym whole) (λ place. at_end (ap stable_place place)))
          (λ within. subst Cut (sym within.0) (inside within.1))
          (cut_whole size at)

  module _ (blobs : ℤ → Option (List ℕ)) (x : RecoveryResult) where
    abbrev Left : RecoveryResult → Type 0
    Left w = Goal w.shred_range w.unread w.model.stable

    stayed : (ordering : List Segment) → IsOrdering sum size log (least_place size first) ordering → Recovered x ≡ Recovered (unchanged first (slots_in_order ordering)) → Left x
    stayed ordering numbers is =
        let same : unchanged first (slots_in_order ordering) ≡ x = cc in
        subst Left same (λ place. none_read (least_place size first) ordering numbers (let alike = ap (λ (o : Option ℤ). stable_place o / size * size) place in omega (arith, alike)))

    by_end : (ordering : List Segment) → IsOrdering sum size log (least_place size first) ordering → (e : Option ℕ) → Passes sum size log blobs first ordering e (Recovered x) → Left x
    by_end ordering numbers None passes = stayed ordering numbers passes
    by_end ordering numbers (Some end) (inl damaged) = let no = damaged.0 in absurd (cc)
    by_end ordering numbers (Some end) (inr (ps, are, inl damaged)) = let no = damaged.1 in absurd (cc)
    by_end ordering numbers (Some end) (inr ([], are, inr (good, comes))) = stayed ordering numbers comes
    by_end ordering numbers (Some end) (inr (s ∷ ss, are, inr (good, comes))) =
        let R : Scanned → Scanned = resolved_scan blobs end in
        let unread : List ℕ = slots_in_order (drop (length (s ∷ ss)) ordering) in
        let at : Segment × ℕ = stops_in end (R s) (open_at end (R s).met) (map R ss) in
        let stops : at ≡ stops_in end s (open_at end s.met) ss = ap (λ o. stops_in end (R s) o (map R ss)) (open_resolved blobs end s.met) ∙ stops_resolved blobs end s ss (open_at end s.met) in
        let cut : ℕ × Option ℕ = cut_of size at in
        let messages = given (stable_place first.stable) (passed_in end (R s) (open_at end (R s).met) (map R ss)) in
        let parts = chosen_well (has_no_table messages) (nat_lt cut.0 (stable_place first.stable)) (are_whole (table_of first.pages messages)) _ x (sym comes) in
        subst Left parts.1
        (subst (λ (a : Segment × ℕ). Goal (shred_range_of size (cut_of size a).0 (cut_of size a).1) unread (Some (pos (cut_of size a).0))) (sym stops) (some_read (least_place size first) ordering numbers end s ss are))

    pub nothing_new : ContinuesFrom sum size log blobs first (Recovered x) → Left x
    unfolding ContinuesFrom
    nothing_new (inl damaged) = let no = damaged.0 in absurd (cc)
    nothing_new (inr (ordering, numbers, inl damaged)) = let no = damaged.1 in absurd (cc)
    nothing_new (inr (ordering, numbers, inr (scanned, tail, good, passes))) = by_end ordering numbers (tail_end scanned) passes

-- The snapshot that it begins from has the place and the pages, and nothing is new.
pub recovers_again : (sum : List ℕ → ℕ) (size : ℕ) → 256 ≤ size → (x : RecoveryResult) (old new : State) → Recovers sum size (content_of old) (Recovered x) → IsWrittenBack sum size x (step NamesSynced (step Synced old)) new
    → BeginsAgain sum old.snapshots.file new x.model → (y : RecoveryResult) → Recovers sum size (content_of new) (Recovered y) → (y.model.stable ≡ x.model.stable) × (y.model.pages ≡ x.model.pages)
unfolding Recovers
recovers_again sum size some x old new (inl damaged) written again y also = let no = damaged.0 in absurd (cc)
recovers_again sum size some x old new (inr (first, begins, continues)) written again y (inl damaged) = let no = damaged.0 in absurd (cc)
recovers_again sum size some x old new (inr (first, begins, continues)) written again y (inr (next, begun, goes)) =
    let same : next ≡ again.0 = one_begin sum new.snapshots.file next again.0 begun again.1 in
    let place : next.stable ≡ x.model.stable = ap (λ (w : SnapshotModel). w.stable) same ∙ again.2 in
    let pages : next.pages ≡ x.model.pages = ap (λ (w : SnapshotModel). w.pages) same ∙ again.3 in
    let log : List ℕ = old.log.bytes in
    let left : new.log.bytes ≡ (after_zeroing size x.unread (after_shredding x.shred_range (at_rest log))).bytes = ap (λ l. l.bytes) written.log in
    let not_new = nothing_new sum size some log first new.blobs.file next y old.blobs.file x continues place (subst (λ (l : List ℕ). ContinuesFrom sum size l new.blobs.file next (Recovered y)) left goes) in
    let stays = stays_old size next y (comes_of sum size new.log.bytes new.blobs.file (omega (arith, some)) next y goes) not_new in
    (sym stays.0 ∙ place, sym stays.1 ∙ pages)
