-- What is held may count from a higher place, no higher than the stable one, where a recovery begins its tail at the segment of that or above it: the log file stands as it did.
use Rattle.std.proofs.Common.{◌*◌, ◌/◌, ◌≤◌, ℕ, List, arith}
use Rattle.sled_codec.specs.History.{History}
use Rattle.sled_codec.specs.Snapshots.{SnapshotModel}
use Rattle.sled_core.specs.Tail.{least_place, tail_begins}
use Rattle.sled_core.proofs.Reached.StandsTo.{StandsTo}
use Rattle.sled_core.proofs.Tail.Multiples.{lower_multiple}

-- It counts from there, and the rest is the same, also what is found and read. A log that frees segments raises the place as a mark joins, and then nothing below the mark's segment is held (`MarksRaise`).
abbrev pub held_higher : (sum : List ℕ → ℕ) (size : ℕ) (log : List ℕ) → 256 ≤ size → (H : History) (A : ℕ) (first : SnapshotModel) (reach : ℕ) (is : StandsTo sum size log H A first reach) (from : ℕ) → is.from ≤ from → from ≤ A
    → from / size * size ≤ tail_begins size (least_place size first) is.ordering → StandsTo sum size log H A first reach
held_higher sum size log some H A first reach is from up high tail = record {
  ordering = is.ordering;
  numbers = is.numbers;
  scanned = is.scanned;
  reads = is.reads;
  marks = is.marks;
  truth = is.truth;
  caps = is.caps;
  not_below = is.not_below;
  passes = is.passes;
  marks_below = is.marks_below;
  placed = is.placed;
  batched = is.batched;
  closed = is.closed;
  from = from;
  from_low = let low = is.from_low in omega (arith, low, up);
  from_high = high;
  tail_from = tail;
  gapless = λ z aligned low under. let begins = lower_multiple size some is.from from up in is.gapless z aligned (omega (arith, low, begins)) under;
  needed = λ cut low within. is.needed cut (omega (arith, low, up)) within;
}
