-- Where the tail of a recoverable log file begins: no higher than the cut, and in no batch.
use Rattle.std.proofs.Common.{⊎_elim, ◌≡◌, ◌⊎◌, ◌∙◌, ◌+◌, ◌-◌, ◌%◌, ◌<◌, ◌≤◌, ℕ, pos, List, Option, sym, arith, inl, inr}
use Rattle.std.specs.List.{Contains}
use Rattle.sled_codec.specs.Coords.{raised}
use Rattle.sled_codec.specs.History.{Batch, History}
use Rattle.sled_codec.specs.Snapshots.{SnapshotModel, stable_place}
use Rattle.sled_core.specs.declared.iterator.Segment.{Segment}
use Rattle.sled_core.specs.inside.Recoverable.{IsRecoverableLog}
use Rattle.sled_core.proofs.Read.FoundLemmas.{pos_injective}
use Rattle.sled_log.specs.Recovery.{greatest_mark, tail_begins, least_place}
use Rattle.sled_core.proofs.Tail.GreatestMark.{greatest_is, mark_below, mark_above}
use Rattle.sled_log.proofs.Recovers.PassCut.{further}
use Rattle.sled_core.proofs.Tail.Multiples.{put_down}

module _ (sum : List ℕ → ℕ) (size : ℕ) (log : List ℕ) (some : 256 ≤ size) (H : History) (A : ℕ) (first : SnapshotModel) (cut : ℕ × Option ℕ) (is : IsRecoverableLog sum size log H A first cut) where
  abbrev least : ℕ
  least = least_place size first

  abbrev greatest : ℕ
  greatest = greatest_mark least is.ordering

  abbrev pub begins : ℕ
  begins = tail_begins size least is.ordering

  -- the tail begins at a multiple of the size, no higher than the greatest mark
  pub begins_at : (begins % size ≡ 0) × (begins ≤ greatest)
  begins_at = let parts = put_down size greatest in (parts.1, omega (arith, parts.0))

  -- and no higher than the cut
  pub begins_low : begins ≤ cut.0
  begins_low = elim (greatest_is least is.ordering) [
    | inl at ↦ (
        let low = put_down size (stable_place first.stable) in
        let above = is.not_below in
        omega (arith, begins_at.1, at, low.0, above))
    | inr (s, there, mark) ↦ ⊎_elim
        (λ lower. let under : greatest < cut.0 = mark_below s.mark greatest cut.0 mark lower in omega (arith, begins_at.1, under))
        (λ within.
        let same : greatest ≡ within.0 = pos_injective greatest within.0 (sym mark ∙ within.1) in
        let top = put_down size (cut.0 + (size - 1)) in
        let under : begins < raised size cut.0 = omega (arith, begins_at.1, same, within.2) in
        let far = further sum size log some H A first cut is begins (raised size cut.0) begins_at.0 top.1 under in
        omega (arith, far, top.0, some))
        (is.marks_below s there)
  ]

  -- The greatest mark lies in no batch: one that begins between the snapshot and the tail ends below the cut.
  pub ends_before : (b : Batch) → Contains H.batches b → stable_place first.stable ≤ b.low → b.low < begins → b.peg < cut.0
  ends_before b there since under = by (greatest_is least is.ordering) where
    ended : (t : Segment) → Contains is.ordering t → t.mark ≡ pos greatest → b.peg ≤ greatest → b.peg < cut.0
    ended t known_t mark low = ⊎_elim
        (λ lower. let early : greatest < cut.0 = mark_below t.mark greatest cut.0 mark lower in omega (arith, low, early))
        (λ within.
        let same : greatest ≡ within.0 = pos_injective greatest within.0 (sym mark ∙ within.1) in
        ⊎_elim (λ early. early) (λ late. absurd (omega (arith, late, low, same))) (within.5 b there))
        (is.marks_below t known_t)

    by : (greatest ≡ least) ⊎ ((t : Segment) × Contains is.ordering t × (t.mark ≡ pos greatest)) → b.peg < cut.0
    by (inl at) = let low = put_down size (stable_place first.stable) in absurd (omega (arith, begins_at.1, at, low.0, since, under))
    by (inr (t, known_t, mark)) = ⊎_elim
        (λ before. absurd (let early : greatest < b.low = mark_below t.mark greatest b.low mark before in omega (arith, early, under, begins_at.1)))
        (λ behind. ended t known_t mark (mark_above t.mark greatest b.peg mark behind))
        ((is.marks t known_t).apart b there)
