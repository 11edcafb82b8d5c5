-- Segments that are found and in order can be read.
use Rattle.std.proofs.Common.{◌+◌, ◌^◌, ◌<◌, ℕ, List, length, arith, inr, ⊎_elim}
use Rattle.std.specs.List.{Contains}
use Rattle.std.proofs.lemmas.Bool.{cases_lt}
use Rattle.sled_core.specs.declared.iterator.Segment.{Segment}
use Rattle.sled_core.specs.inside.Scan.{IsFoundSegment, IsMisplaced}
use Rattle.sled_core.proofs.Read.FoundLemmas.{found_there}
use Rattle.sled_log.specs.Recovery.{IsOrdering}
use Rattle.sled_log.specs.Passes.{CanBeRead}

module _ (sum : List ℕ → ℕ) (size : ℕ) (log : List ℕ) (least : ℕ) where
  -- one that begins where it can
  pub ready : (s : Segment) → length log + size < 2 ^ 63 → IsFoundSegment sum size log least s → (IsMisplaced size s → ⊥) → CanBeRead size log s
  ready s small found placed =
      let inside = found_there sum size log least s found in
      record {
        aligned = found.slot;
        inside = omega (arith, inside);
        slot = omega (arith, inside, small);
        place = ⊎_elim (λ lt. lt) (λ le. absurd (placed (inr le))) (cases_lt (s.place + size) (2 ^ 63));
      }

  pub all_ready : (ss : List Segment) → length log + size < 2 ^ 63 → IsOrdering sum size log least ss → (s : Segment) → Contains ss s → CanBeRead size log s
  all_ready ss small ordering s there = ready s small ((ordering.found s).0 there) (ordering.placed s there)
