-- A log file that can be recovered up to a cut still can be under a snapshot that has the cut for its place, where the reading of the segment of the cut ends at the cut, or no segment begins there.
use Rattle.std.proofs.Common.{◌≡◌, ◌/◌, ◌*◌, ◌%◌, ◌≤◌, ℕ, List, Option, arith}
use Rattle.std.specs.List.{Contains}
use Rattle.sled_codec.specs.History.{History}
use Rattle.sled_codec.specs.Snapshots.{SnapshotModel, stable_place}
use Rattle.sled_core.specs.declared.iterator.Segment.{Segment}
use Rattle.sled_core.specs.inside.Recoverable.{IsRecoverableLog}
use Rattle.sled_log.specs.Recovery.{Scanned, least_place}
use Rattle.sled_log.proofs.Moments.FromCut.{EndsAtCut, IsOfCut, from_end}
use Rattle.sled_core.proofs.Tail.SegmentsFrom.{segments_from, scanned_from, of_segments, in_scanned, of_scanned, reads_from, ordering_from}
use Rattle.sled_core.proofs.Tail.Multiples.{lower_multiple}

module _ (sum : List ℕ → ℕ) (size : ℕ) (log : List ℕ) (some : 256 ≤ size) (H : History) (A : ℕ) (first : SnapshotModel) (cut : ℕ × Option ℕ) (is : IsRecoverableLog sum size log H A first cut) where
  abbrev begins : ℕ
  begins = cut.0 / size * size

  -- what it has from the segment of the cut on
  pub of_cut : IsOfCut sum size log H A cut
  of_cut = record {
    ordering = segments_from begins is.ordering;
    numbers = ordering_from sum size log (least_place size first) begins is.ordering (lower_multiple size some (stable_place first.stable) cut.0 is.not_below) is.numbers;
    scanned = scanned_from begins is.scanned;
    reads = reads_from begins sum size log is.ordering is.scanned is.reads;
    marks = λ s at. is.marks s (of_segments begins is.ordering s at).0;
    truth = λ s x at. is.truth s x (of_scanned begins is.scanned s at).0;
    caps = λ s at. is.caps s (of_scanned begins is.scanned s at).0;
    passes = is.passes;
    marks_below = λ s at. is.marks_below s (of_segments begins is.ordering s at).0;
    placed = is.placed;
    batched = is.batched;
    needed = is.needed;
  }

  -- its segments are among all
  pub of_all : (s : Segment) → Contains of_cut.ordering s → Contains is.ordering s
  unfolding of_cut
  of_all s there = (of_segments begins is.ordering s there).0

  -- the segment whose reading ends at the cut is among them
  pub ends_too : (z : Scanned) → EndsAtCut sum size log some is.scanned cut z → EndsAtCut sum size log some of_cut.scanned cut z
  unfolding of_cut
  ends_too z ends = record {
    there = (let at = ends.place in in_scanned begins is.scanned z ends.there (omega (arith, at)));
    place = ends.place;
    slot = ends.slot;
    stop = ends.stop;
    broken = ends.broken;
  }

  module _ (next : SnapshotModel) (place : stable_place next.stable ≡ cut.0) where
    -- The cut is the end of a segment, and no segment begins there.
    pub published_end : next.active ≡ cut.1 → cut.0 % size ≡ 0 → ((s : Segment) → Contains is.ordering s → s.place ≡ cut.0 → ⊥) → IsRecoverableLog sum size log H A next cut
    published_end active aligned none = from_end sum size log some H A cut of_cut next place active aligned (λ s there. none s (of_all s there))
