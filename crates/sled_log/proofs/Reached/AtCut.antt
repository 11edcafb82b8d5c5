-- A recoverable log file under a snapshot with the cut for its place is read without a gap up to the cut, for a history of which all lies below: so a log that goes on from a recovery begins with a file that stands up to its own place.
use Rattle.std.proofs.Common.{⊎_elim, ◌≡◌, ◌⊎◌, ◌∙◌, ◌+◌, ◌*◌, ◌/◌, ◌%◌, ◌<◌, ◌≤◌, ℕ, List, Option, Some, None, refl, sym, ap, subst, arith, inl, inr}
use Rattle.std.specs.List.{Contains}
use Rattle.std.proofs.lemmas.Bool.{cases_lt}
use Rattle.sled_codec.specs.History.{Message, Batch, History, CutFits, table}
use Rattle.sled_codec.specs.Snapshots.{SnapshotModel, stable_place}
use Rattle.sled_core.specs.inside.Recoverable.{ActiveFits, IsRecoverableLog, IsSegmentOf, StandsInline}
use Rattle.sled_log.specs.Recovery.{Scanned, least_place}
use Rattle.sled_core.specs.Tail.{greatest_mark}
use Rattle.sled_core.proofs.Tail.Multiples.{put_down, lower_multiple}
use Rattle.sled_core.proofs.Tail.SegmentsFrom.{greatest_above}
use Rattle.sled_core.proofs.Tail.Tails.{further}
use Rattle.sled_log.proofs.Moments.CutSegment.{cut_segment, ends_segment}
use Rattle.sled_core.proofs.Reached.StandsTo.{StandsTo}

module _ (sum : List ℕ → ℕ) (size : ℕ) (log : List ℕ) (some : 256 ≤ size) (H : History) (A : ℕ) (next : SnapshotModel) (cut : ℕ × Option ℕ) (is : IsRecoverableLog sum size log H A next cut)
    (place : stable_place next.stable ≡ cut.0) (active : ActiveFits size (stable_place next.stable) next.active)
    (messages : (m : Message) → Contains H.messages m → m.place < cut.0) (batches : (b : Batch) → Contains H.batches b → b.low < cut.0) (fits : CutFits H cut.0) where
  abbrev begins : ℕ
  begins = cut.0 / size * size

  parts : (begins + cut.0 % size ≡ cut.0) × (begins % size ≡ 0)
  parts = put_down size cut.0

  inside : cut.0 % size < size
  inside = omega (arith, some)

  -- below the cut only one segment begins from that of the snapshot on
  only_here : (z : ℕ) → z % size ≡ 0 → begins ≤ z → z < cut.0 → z ≡ begins
  only_here z aligned low under = elim (cases_lt begins z) [
    | inl over ↦ (
        let far = further sum size log some (least_place size next) is.ordering is.numbers is.scanned is.reads begins z parts.1 aligned over in
        absurd (omega (arith, far, under, parts.0, inside)))
    | inr le ↦ omega (arith, le, low)
  ]

  -- It is there, and is read up to the cut; or a segment would begin at the cut.
  its_segment : (begins ≡ cut.0) ⊎ ((t : Scanned) × Contains is.scanned t × (t.segment.place ≡ begins) × (cut.0 ≤ begins + t.stop))
  its_segment = by cut.1 refl where
    by : (o : Option ℕ) → cut.1 ≡ o → (begins ≡ cut.0) ⊎ ((t : Scanned) × Contains is.scanned t × (t.segment.place ≡ begins) × (cut.0 ≤ begins + t.stop))
    by None none = inl (let ends = ends_segment sum size log some H A next cut is none in let aligned = ends.aligned in omega (arith, parts.0, aligned))
    by (Some slot) has =
        let found = cut_segment sum size log some H A next cut is active slot has in
        let its = found.3 in
        let read = its.read in
        let at = its.place in
        inr (found.1, its.there, at, omega (arith, read, at))

  pub stands_at_cut : StandsTo sum size log H cut.0 next cut.0
  stands_at_cut = record {
    ordering = is.ordering;
    numbers = is.numbers;
    scanned = is.scanned;
    reads = is.reads;
    marks = is.marks;
    truth = is.truth;
    caps = is.caps;
    not_below = omega (arith, place);
    passes = omega arith;
    marks_below = is.marks_below;
    placed = λ m there. is.placed m there (messages m there);
    batched = λ b there. is.batched b there (batches b there);
    closed = λ b there low. fits.batches b there low;
    from = cut.0;
    from_low = omega (arith, place);
    from_high = omega arith;
    tail_from =
        let least : least_place size next ≡ begins = ap (λ n. n / size * size) place in
        let whole = put_down size begins in
        let above = lower_multiple size some (least_place size next) (greatest_mark (least_place size next) is.ordering) (greatest_above (least_place size next) is.ordering) in
        omega (arith, least, above, whole.0, parts.1, ap (λ n. n / size * size) least);
    gapless = λ z aligned low under.
        let at : z ≡ begins = only_here z aligned low under in
        ⊎_elim
        (λ ends. absurd (omega (arith, ends, at, under)))
        (λ found. (found.0, found.1, found.2 ∙ sym at, inl (omega (arith, found.3, at))))
        its_segment;
    needed = λ at low high. subst (λ n. (page : ℕ) (m : Message) → Contains (table H n page) m → IsSegmentOf sum size log H n m × StandsInline sum size log m m.pointer)
        (omega (arith, low, high, place)) is.needed;
  }

  -- what is read of it is the same
  pub reads_at_cut : stands_at_cut.scanned ≡ is.scanned
  unfolding stands_at_cut
  reads_at_cut = refl
