-- A write behind where a segment was read to, where the reading ends there still: the segment stands as far as before, with the header that it had.
use Rattle.std.proofs.Common.{◌<◌, ◌≡◌, ◌≤◌, ◌+◌, ◌*◌, ◌/◌, ◌%◌, ℕ, pos, List, length, refl, sym, ◌∙◌, subst, arith, inl, inr}
use Rattle.std.proofs.Math.Nat.{mod-add-div'}
use Rattle.std.proofs.lemmas.Bool.{cases_eq}
use Rattle.std.specs.List.{Contains}
use Rattle.sled_codec.specs.Places.{part}
use Rattle.sled_codec.specs.Record.{IsHeader}
use Rattle.sled_codec.specs.History.{History}
use Rattle.sled_codec.specs.Snapshots.{SnapshotModel}
use Rattle.sled_codec.proofs.Segments.{one_header}
use Rattle.sled_store.specs.Device.{overwritten}
use Rattle.sled_core.specs.OpenBatches.{stable_below}
use Rattle.sled_core.specs.declared.iobuf.SegmentPosition.{SegmentPosition}
use Rattle.sled_core.specs.declared.iterator.Segment.{Segment}
use Rattle.sled_core.specs.inside.Reached.{IsSoFar, StandsIn}
use Rattle.sled_core.specs.inside.Scan.{IsFoundSegment}
use Rattle.sled_core.specs.Scan.{IsEnd, IsScan}
use Rattle.sled_core.specs.Tail.{Scanned, IsScanned, least_place}
use Rattle.sled_core.proofs.Tail.LogFileLemmas.{part_kept}
use Rattle.sled_core.proofs.Read.FoundLemmas.{pos_injective}
use Rattle.sled_core.proofs.Reached.Higher.{known_in}
use Rattle.sled_core.proofs.Reached.LeftBeside.{IsSameBeside}
use Rattle.sled_core.proofs.Reached.StandsTo.{StandsTo}
use Rattle.sled_core.proofs.Reached.WrittenWhole.{same_whole}
use Rattle.sled_core.proofs.Tail.OneTail.{segment_there}
use Rattle.sled_core.proofs.Torn.WrittenParts.{in_this_file, path_rises, path_whole, twenty}

-- A file stands as far as another one, and so does a segment in it, with no other mark in its slot.
pub record StandsAfter (sum : List ℕ → ℕ) (size : ℕ) (old new : List ℕ) (site : SegmentPosition) (from records reach : ℕ) (H : History) (first : SnapshotModel) (held : ℕ) : Type 0 where
  pub stands : StandsTo sum size new H (stable_below reach H.batches) first reach
  -- what is held counts from where it did
  pub held_same : stands.from ≡ held
  pub here : StandsIn sum size new (least_place size first) stands.scanned site from records
  pub marks : (s : Segment) → IsFoundSegment sum size new (least_place size first) s → s.slot ≡ site.slot → (t : Segment) × IsFoundSegment sum size old (least_place size first) t × (s.mark ≡ t.mark)

module _ (sum : List ℕ → ℕ) (size : ℕ) (some : 256 ≤ size) (old : List ℕ) (site : SegmentPosition) (from at : ℕ) (asked : List ℕ) (inside : at + length asked ≤ size) (slot_begins : site.slot % size ≡ 0) (there : site.slot ≤ length old)
    (reach : ℕ) (H : History) (first : SnapshotModel) (is : StandsTo sum size old H (stable_below reach H.batches) first reach) {records : ℕ} (its : StandsIn sum size old (least_place size first) is.scanned site from records) where
  abbrev new : List ℕ
  new = overwritten old (site.slot + at) asked

  beside : IsSameBeside sum size old new site.slot
  beside =
      let its_slot : site.slot / size * size ≡ site.slot = omega (arith, mod-add-div' site.slot size, slot_begins) in
      subst (λ n. IsSameBeside sum size old (overwritten old (n + at) asked) n) its_slot (same_whole sum size some old (site.slot / size) at asked inside (omega (arith, its_slot, there)))

  -- no other slot has one of its place
  pub only : (s : Segment) → IsFoundSegment sum size new (least_place size first) s → s.place ≡ site.place → s.slot ≡ site.slot
  only s found same = elim (cases_eq s.slot site.slot) [ inl here ↦ here | inr other ↦ its.only s (beside.found (least_place size first) s other found) same ]

  -- It was read to there, for that reason.
  module _ (z : Scanned) (known : Contains is.scanned z) (in_slot : z.segment.slot ≡ site.slot) (at_place : z.segment.place ≡ site.place) (before : z.stop ≤ at) (so_far : IsSoFar size from z.stop z.why) (left_over : from < size)
      (stands : StandsTo sum size new H (stable_below reach H.batches) first reach) (held : stands.from ≡ is.from) (ends : IsEnd sum size new z.segment.slot z.segment.place z.stop z.why) where
    z_known : Contains is.ordering z.segment × IsScanned sum size old z
    z_known = segment_there sum size old is.ordering is.scanned is.reads z known

    was_found : IsFoundSegment sum size old (least_place size first) z.segment
    was_found = (is.numbers.found z.segment).0 z_known.0

    still_scan : IsScanned sum size new z
    unfolding IsScan
    still_scan = (path_whole sum size old (site.slot + at) asked z.segment.slot z.segment.place was_found.slot 20 z.met z.stop (inl (omega (arith, in_slot, before))) z_known.1.0, ends)

    still_found : IsFoundSegment sum size new (least_place size first) z.segment
    unfolding IsScan
    still_found =
        let rises = path_rises sum size old z.segment.slot z.segment.place 20 z.met z.stop z_known.1.0 in
        let in_file = in_this_file sum size old old z.segment.slot 20 (omega arith) (twenty sum size old z.segment.slot (pos z.segment.place) z.segment.mark was_found.header) refl in
        let same = part_kept sum size old (site.slot + at) asked z.segment.slot 20 in_file (inl (omega (arith, in_slot, rises, before))) in
        record { slot = was_found.slot; header = subst (λ (l : List ℕ). IsHeader sum l (pos z.segment.place) z.segment.mark) (sym same) was_found.header; not_below = was_found.not_below }

    -- its header is as it was
    its_header : (s : Segment) → IsFoundSegment sum size new (least_place size first) s → s.slot ≡ site.slot → (pos s.place ≡ pos z.segment.place) × (s.mark ≡ z.segment.mark)
    its_header s found here =
        one_header sum (part new z.segment.slot 20) (pos s.place) s.mark (pos z.segment.place) z.segment.mark (subst (λ n. IsHeader sum (part new n 20) (pos s.place) s.mark) (here ∙ sym in_slot) found.header) still_found.header

    pub stands_after : StandsAfter sum size old new site from records reach H first is.from
    stands_after = record {
      stands = stands;
      held_same = held;
      here = record {
        only = only;
        own = λ s found here. pos_injective s.place z.segment.place (its_header s found here).0 ∙ at_place;
        read = λ later. (
          z.stop,
          z.why,
          record { scan = z; there = known_in sum size new H (stable_below reach H.batches) first reach stands z still_found still_scan; in_slot = in_slot; at_place = at_place; ended = refl; ends = refl },
          so_far,
          λ whole. absurd (omega (arith, whole, left_over)),
        );
      };
      marks = λ s found here. (z.segment, was_found, (its_header s found here).1);
    }
