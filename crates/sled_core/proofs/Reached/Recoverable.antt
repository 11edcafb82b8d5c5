-- A log file that is read without a gap up to a place that the log has reached can be recovered, and the cut is the stable place or lies above it.
use Rattle.std.proofs.Common.{⊎_elim, ◌≡◌, ◌⊎◌, ◌∙◌, ◌≤◌, ℕ, List, [], ◌∷◌, Option, Some, None, sym, ap, subst, arith, inl, inr}
use Rattle.std.specs.List.{Contains}
use Rattle.sled_codec.specs.History.{Message, History, table}
use Rattle.sled_codec.specs.Snapshots.{SnapshotModel, stable_place}
use Rattle.sled_core.specs.declared.iterator.Segment.{Segment}
use Rattle.sled_core.specs.inside.Recoverable.{StandsInline, IsSegmentOf, IsRecoverableLog, cut_from}
use Rattle.sled_core.specs.Tail.{Scanned, IsTail, tail_end}
use Rattle.sled_store.proofs.Histories.Ascending.{Ascends}
use Rattle.sled_core.proofs.Reached.ReachedCut.{some_read, cut, cut_far, cut_is, pass_ends}
use Rattle.sled_core.proofs.Reached.ReachedEntries.{entries_there}
use Rattle.sled_core.proofs.Reached.Marks.{mark_higher}
use Rattle.sled_core.proofs.Reached.StandsTo.{StandsTo, begins, the_tail, tail_ends}

-- What is read up to a place is read up to the stable one, which lies no higher.
stands_stable : (sum : List ℕ → ℕ) (size : ℕ) (log : List ℕ) (H : History) (A : ℕ) (first : SnapshotModel) (reach : ℕ) → StandsTo sum size log H A first reach → StandsTo sum size log H A first A
stands_stable sum size log H A first reach is =
    let near = is.passes in
    record {
      ordering = is.ordering;
      numbers = is.numbers;
      scanned = is.scanned;
      reads = is.reads;
      marks = is.marks;
      truth = is.truth;
      caps = is.caps;
      not_below = is.not_below;
      passes = omega arith;
      marks_below = is.marks_below;
      placed = is.placed;
      batched = is.batched;
      closed = is.closed;
      from = is.from;
      from_low = is.from_low;
      from_high = is.from_high;
      tail_from = is.tail_from;
      gapless = λ z aligned low under.
          let found = is.gapless z aligned low (omega (arith, under, near)) in
          (found.0, found.1, found.2, ⊎_elim (λ far. inl (omega (arith, far, near))) (λ leads. inr leads) found.3);
      needed = λ cut low high. is.needed cut low (omega (arith, high, near));
    }

-- Where no batch is open at the place that was reached.
module _ (sum : List ℕ → ℕ) (size : ℕ) (log : List ℕ) (some : 256 ≤ size) (H : History) (first : SnapshotModel) (reach : ℕ) (is : StandsTo sum size log H reach first reach) (ordered : Ascends H.messages) where
  abbrev begin : ℕ
  begin = begins sum size log some H first reach is

  -- where the tail begins a segment is found, or the snapshot ends there
  abbrev Begun : Type 0
  Begun = ((s : Segment) × Contains is.ordering s × (s.place ≡ begin)) ⊎ (begin ≡ stable_place first.stable)

  -- With this tail and this cut.
  recoverable : (tail : List Scanned) → IsTail sum size log is.ordering begin tail → Begun → (c : ℕ × Option ℕ) → c ≡ cut_from size first is.scanned (tail_end tail) → reach ≤ c.0
      → ((page : ℕ) (m : Message) → Contains (table H c.0 page) m → IsSegmentOf sum size log H c.0 m × StandsInline sum size log m m.pointer) → IsRecoverableLog sum size log H reach first c
  recoverable tail is_tail begun c is_cut far needed =
      let low = is.not_below in
      record {
        ordering = is.ordering;
        numbers = is.numbers;
        scanned = is.scanned;
        reads = is.reads;
        tail = tail;
        is_tail = is_tail;
        marks = is.marks;
        truth = is.truth;
        caps = is.caps;
        tail_there = begun;
        is_cut = is_cut;
        not_below = omega (arith, low, far);
        passes = far;
        marks_below = λ s there. mark_higher size some H reach c.0 far s.mark (is.marks_below s there);
        placed = λ m there under. is.placed m there;
        batched = λ b there under. is.batched b there;
        needed = needed;
      }

  -- where a tail has segments, the first one begins where it does
  begun_there : (tail : List Scanned) → IsTail sum size log is.ordering begin tail → (end : ℕ) → tail_end tail ≡ Some end → Begun
  begun_there [] is_tail end ends = cc
  begun_there (x ∷ xs) is_tail end ends = inl (x.segment, is_tail.0, is_tail.1)

  by_tail : (tail : List Scanned) → (is_tail : IsTail sum size log is.ordering begin tail)
      → ((tail_end tail ≡ None) × (begin ≡ reach) × (stable_place first.stable ≡ reach)) ⊎ ((end : ℕ) × (tail_end tail ≡ Some end) × (reach ≤ end))
      → (c : ℕ × Option ℕ) × (reach ≤ c.0) × IsRecoverableLog sum size log H reach first c
  by_tail tail is_tail (inl (none, at, place)) = (
    (stable_place first.stable, first.active),
    omega (arith, place),
    recoverable tail is_tail (inr (at ∙ sym place)) (stable_place first.stable, first.active) (sym (ap (cut_from size first is.scanned) none)) (omega (arith, place))
        (λ page m entry. subst (λ n. IsSegmentOf sum size log H n m × StandsInline sum size log m m.pointer) (sym place) (is.needed reach is.from_high (omega arith) page m (subst (λ n. Contains (table H n page) m) place entry))),
  )
  by_tail tail is_tail (inr (end, ends, far)) =
      let read = some_read sum size log some H first reach is tail is_tail end ends far in
      let c : ℕ × Option ℕ = cut sum size log some H first reach is tail is_tail end ends far read.0 read.1 read.2 in
      let high : reach ≤ c.0 = cut_far sum size log some H first reach is tail is_tail end ends far read.0 read.1 read.2 in (
        c,
        high,
        recoverable tail is_tail (begun_there tail is_tail end ends) c (sym (cut_is sum size log some H first reach is tail is_tail end ends far read.0 read.1 read.2)) high
            (entries_there sum size log some H first reach is ordered end c.0 (pass_ends sum size log some H first reach is tail is_tail end ends far read.0 read.1 read.2) high),
      )

  all_recoverable : (c : ℕ × Option ℕ) × (reach ≤ c.0) × IsRecoverableLog sum size log H reach first c
  all_recoverable =
      let tail = the_tail sum size log some H first reach is in
      by_tail tail.0 tail.1 (tail_ends sum size log some H first reach is tail.0 tail.1)

-- Up to the stable place a pass isn't stopped, whatever is open behind it.
pub reached_recoverable : (sum : List ℕ → ℕ) (size : ℕ) (log : List ℕ) → 256 ≤ size → (H : History) (A : ℕ) (first : SnapshotModel) (reach : ℕ) → StandsTo sum size log H A first reach → Ascends H.messages
    → (c : ℕ × Option ℕ) × (A ≤ c.0) × IsRecoverableLog sum size log H A first c
reached_recoverable sum size log some H A first reach is ordered = all_recoverable sum size log some H first A (stands_stable sum size log H A first reach is) ordered
